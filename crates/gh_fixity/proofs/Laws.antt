-- At most one tree arranges a list, and where reading a list stops none does.
use Rattle.std.proofs.Common.{◌≡◌, ℕ, zero, suc, ◌+◌, ◌≤◌, Bool, true, false, List, [], ◌∷◌, ◌++◌, length, take, drop, Option, Some, None, if◌then◌else◌, refl, sym, ap, subst, ◌∙◌, slice_get, arith, add-zero, zero-add}
use Rattle.gh_fixity.specs.declared.item.Fixity.{Fixity}
use Rattle.gh_fixity.specs.declared.item.Item.{Item}
use Rattle.gh_fixity.specs.declared.item.Item.TheVariants as item
use Rattle.gh_fixity.specs.Arrangement.{Tree, leaf, minus_fixity, Mark, leaf_at, marks_from, mark_of, in_order, fits, Arranges, IsArrangeable, HasNone, HasOneTree, IsOther, Clashes, is_list, is_rest, item_fixity, fixity_in, level_in, level_at, first_leaf, up_to}
use Rattle.gh_base.specs.declared.place.Span.{Span}
use Rattle.gh_fixity.specs.Stack.{Open, after_minus, after, allows, reduced, shifted, goes, closed, step, then_step, steps, steps-append, steps-None, start, State}
use Rattle.gh_fixity.proofs.Sound.{read_tree, some_is}
use Rattle.gh_fixity.proofs.Complete.{spine, last, closed_spine, steps_tree}

pub read_back : (items : List Item) (t : Tree) → Arranges items t → steps start (marks_from 0 items) ≡ Some (spine t ++ [], Some (last t))
read_back items t h = ap (λ ms. steps start ms) (sym h.in_list) ∙ steps_tree t [] h.fitting refl

abbrev leaf_of : Option ℕ → ℕ
leaf_of None = 0
leaf_of (Some q) = q

abbrev tree_of : State → Tree
tree_of s = closed s.0 (leaf (leaf_of s.1))

tree_read : (t : Tree) → tree_of (spine t ++ [], Some (last t)) ≡ t
tree_read t = closed_spine t []

pub one_tree : HasOneTree
one_tree items a b h k =
    let same : (spine a ++ [], Some (last a)) ≡ (spine b ++ [], Some (last b)) = some_is _ _ (sym (read_back items a h) ∙ read_back items b k) in
    sym (tree_read a) ∙ ap tree_of same ∙ tree_read b

-- where reading stops, no tree has the marks that begin so
pub stuck : (items : List Item) (ms rest : List Mark) → marks_from 0 items ≡ ms ++ rest → steps start ms ≡ None → HasNone items
stuck items ms rest e n t h =
    let none : ◌≡◌ {A = Option State} None (Some (spine t ++ [], Some (last t))) =
    sym (ap (λ s. steps s rest) n ∙ steps-None rest) ∙ sym (steps-append start ms rest) ∙ ap (λ xs. steps start xs) (sym e) ∙ read_back items t h in
    absurd (cc)

marks_split : (p : ℕ) (xs ys : List Item) → (rest : List Mark) × (marks_from p (xs ++ ys) ≡ marks_from p xs ++ rest)
marks_split p [] ys = (marks_from p ys, refl)
marks_split p (x ∷ xs) ys =
    let r = marks_split (suc p) xs ys in
    (r.0, ap (λ ms. mark_of p x ∷ ms) r.1)

-- one more item
pub marks_more : (p k : ℕ) (xs : List Item) (x : Item) → slice_get xs k ≡ Some x → marks_from p (take (suc k) xs) ≡ marks_from p (take k xs) ++ mark_of (p + k) x ∷ []
marks_more p k [] x e = absurd (cc)
marks_more p zero (y ∷ xs) x e = ap (λ z. mark_of p z ∷ []) (some_is y x e) ∙ ap (λ n. mark_of n x ∷ []) (sym (add-zero p))
marks_more p (suc k) (y ∷ xs) x e =
    let n : suc p + k ≡ p + suc k = omega arith in
    ap (λ ms. mark_of p y ∷ ms) (marks_more (suc p) k xs x e ∙ ap (λ m. marks_from (suc p) (take k xs) ++ mark_of m x ∷ []) n)

pub drop_at : (k : ℕ) (xs : List Item) (x : Item) → slice_get xs k ≡ Some x → drop k xs ≡ x ∷ drop (suc k) xs
drop_at k [] x e = absurd (cc)
drop_at zero (y ∷ xs) x e = ap (λ z. z ∷ xs) (some_is y x e)
drop_at (suc k) (y ∷ xs) x e = drop_at k xs x e

-- the state after one more item
pub reads_more : (xs : List Item) (k : ℕ) (x : Item) (s : State) → slice_get xs k ≡ Some x → steps start (marks_from 0 (take k xs)) ≡ Some s
    → steps start (marks_from 0 (take (suc k) xs)) ≡ step s.0 s.1 (mark_of k x)
reads_more xs k x s e r =
    ap (λ ms. steps start ms) (marks_more 0 k xs x e) ∙ steps-append start (marks_from 0 (take k xs)) (mark_of (0 + k) x ∷ [])
    ∙ ap (λ o. then_step o (mark_of (0 + k) x)) r ∙ ap (λ n. step s.0 s.1 (mark_of n x)) (zero-add k)

split : (k : ℕ) (xs : List Item) → xs ≡ take k xs ++ drop k xs
split zero xs = refl
split (suc k) [] = refl
split (suc k) (x ∷ xs) = ap (λ ys. x ∷ ys) (split k xs)

front : (a b : ℕ) (xs : List Item) → a ≤ b → (more : List Item) × (take b xs ≡ take a xs ++ more)
front zero b xs h = (take b xs, refl)
front (suc a) b [] h = ([], by b)
  where
    by : (b : ℕ) → let e : List Item = [] in take b e ≡ []
    by zero = refl
    by (suc b) = refl
front (suc a) zero (x ∷ xs) h = absurd (omega arith)
front (suc a) (suc b) (x ∷ xs) h =
    let r = front a b xs (omega arith) in
    (r.0, ap (λ ys. x ∷ ys) r.1)

marks_leaf : (p : ℕ) (xs : List Item) (n : ℕ) → (q : ℕ) × (marks_from p (xs ++ item.Leaf n ∷ []) ≡ marks_from p xs ++ leaf_at q ∷ [])
marks_leaf p [] n = (p, refl)
marks_leaf p (x ∷ xs) n =
    let r = marks_leaf (suc p) xs n in
    (r.0, ap (λ ms. mark_of p x ∷ ms) r.1)

-- after an operator or a minus there is a leaf
list_leaf : (xs : List Item) → is_list xs ≡ true → (n : ℕ) × (first_leaf xs ≡ item.Leaf n ∷ [])
list_leaf [] h = absurd (cc)
list_leaf (item.Leaf n ∷ xs) h = (n, refl)
list_leaf (item.Minus s ∷ []) h = absurd (cc)
list_leaf (item.Minus s ∷ (item.Leaf n ∷ xs)) h = (n, refl)
list_leaf (item.Minus s ∷ (item.Minus u ∷ xs)) h = absurd (cc)
list_leaf (item.Minus s ∷ (item.Op f u ∷ xs)) h = absurd (cc)
list_leaf (item.Op f s ∷ xs) h = absurd (cc)

mutual
  after_list : (xs : List Item) (p : ℕ) (l : ℕ) → is_list xs ≡ true → level_at xs p ≡ Some l → (n : ℕ) × (first_leaf (drop (suc p) xs) ≡ item.Leaf n ∷ [])
  after_list [] p l h e = absurd (cc)
  after_list (item.Leaf n ∷ xs) zero l h e = absurd (cc)
  after_list (item.Leaf n ∷ xs) (suc p) l h e = after_rest xs p l h e
  after_list (item.Minus s ∷ []) p l h e = absurd (cc)
  after_list (item.Minus s ∷ (item.Leaf n ∷ xs)) zero l h e = (n, refl)
  after_list (item.Minus s ∷ (item.Leaf n ∷ xs)) (suc zero) l h e = absurd (cc)
  after_list (item.Minus s ∷ (item.Leaf n ∷ xs)) (suc (suc p)) l h e = after_rest xs p l h e
  after_list (item.Minus s ∷ (item.Minus u ∷ xs)) p l h e = absurd (cc)
  after_list (item.Minus s ∷ (item.Op f u ∷ xs)) p l h e = absurd (cc)
  after_list (item.Op f s ∷ xs) p l h e = absurd (cc)

  after_rest : (xs : List Item) (p : ℕ) (l : ℕ) → is_rest xs ≡ true → level_at xs p ≡ Some l → (n : ℕ) × (first_leaf (drop (suc p) xs) ≡ item.Leaf n ∷ [])
  after_rest [] p l h e = absurd (cc)
  after_rest (item.Leaf n ∷ xs) p l h e = absurd (cc)
  after_rest (item.Minus s ∷ xs) p l h e = absurd (cc)
  after_rest (item.Op f s ∷ xs) zero l h e = list_leaf xs h
  after_rest (item.Op f s ∷ xs) (suc p) l h e = after_list xs p l h e

-- after an operator or a minus an operand is wanted
sign_opens : (gs : List Open) (o : Option ℕ) (p : ℕ) (y : Item) (l : ℕ) (u : State) → level_in (item_fixity y) ≡ Some l → step gs o (mark_of p y) ≡ Some u → u.1 ≡ None
sign_opens gs o p (item.Leaf n) l u e h = absurd (cc)
sign_opens gs None p (item.Minus s) l u e h = by (allows gs minus_fixity) refl
  where
    by : (b : Bool) → allows gs minus_fixity ≡ b → u.1 ≡ None
    by true a = ap (λ v. v.1) (sym (some_is (after_minus ∷ gs, None) u (sym (ap (λ b. if b then Some (after_minus ∷ gs, None) else None) a) ∙ h)))
    by false a =
        let none : ◌≡◌ {A = Option State} None (Some u) = sym (ap (λ b. if b then Some (after_minus ∷ gs, None) else None) a) ∙ h in
        absurd (cc)
sign_opens gs (Some q) p (item.Minus s) l u e h = absurd (cc)
sign_opens gs None p (item.Op f s) l u e h = absurd (cc)
sign_opens gs (Some q) p (item.Op f s) l u e h = by (reduced gs (leaf q) f) h
  where
    by : (r : Option (List Open × Tree)) → shifted p f r ≡ Some u → u.1 ≡ None
    by None r = absurd (cc)
    by (Some x) r = ap (λ v. v.1) (sym (some_is (after p f x.1 ∷ x.0, None) u r))

get_of : (items : List Item) (p l : ℕ) → level_at items p ≡ Some l → (y : Item) × (slice_get items p ≡ Some y) × (level_in (item_fixity y) ≡ Some l)
get_of items p l e = by (slice_get items p) refl
  where
    by : (o : Option Item) → slice_get items p ≡ o → (y : Item) × (slice_get items p ≡ Some y) × (level_in (item_fixity y) ≡ Some l)
    by None h =
        let none : ◌≡◌ {A = Option ℕ} None (Some l) = sym (ap (λ o. level_in (fixity_in o)) h) ∙ e in
        absurd (cc)
    by (Some y) h = (y, h, sym (ap (λ o. level_in (fixity_in o)) h) ∙ e)

some_before : (ms rest : List Mark) (s : State) → steps start (ms ++ rest) ≡ Some s → (u : State) × (steps start ms ≡ Some u)
some_before ms rest s e = by (steps start ms) refl
  where
    by : (o : Option State) → steps start ms ≡ o → (u : State) × (steps start ms ≡ Some u)
    by None h =
        let none : ◌≡◌ {A = Option State} None (Some s) = sym (ap (λ o. steps o rest) h ∙ steps-None rest) ∙ sym (steps-append start ms rest) ∙ e in
        absurd (cc)
    by (Some u) h = (u, h)

wanted : (items : List Item) (p l : ℕ) (u : State) → level_at items p ≡ Some l → steps start (marks_from 0 (take (suc p) items)) ≡ Some u → u.1 ≡ None
wanted items p l u e r =
    let y = get_of items p l e in
    let more = marks_more 0 p items y.0 y.1 in
    let v = some_before (marks_from 0 (take p items)) (mark_of (0 + p) y.0 ∷ []) u (sym (ap (λ ms. steps start ms) more) ∙ r) in
    sign_opens v.0.0 v.0.1 p y.0 l u y.2 (sym (reads_more items p y.0 v.0 y.1 v.1) ∙ r)

arranged_to : (items : List Item) (p l : ℕ) (u : State) → is_list items ≡ true → level_at items p ≡ Some l → steps start (marks_from 0 (take (suc p) items)) ≡ Some u → IsArrangeable (up_to items p)
arranged_to items p l u g e r =
    let f = after_list items p l g e in
    let m = marks_leaf 0 (take (suc p) items) f.0 in
    let marks : marks_from 0 (up_to items p) ≡ marks_from 0 (take (suc p) items) ++ leaf_at m.0 ∷ []
    = ap (λ ys. marks_from 0 (take (suc p) items ++ ys)) f.1 ∙ m.1 in
    let read : steps start (marks_from 0 (up_to items p)) ≡ Some (u.0, Some m.0)
    = ap (λ ms. steps start ms) marks ∙ steps-append start (marks_from 0 (take (suc p) items)) (leaf_at m.0 ∷ [])
    ∙ ap (λ o. then_step o (leaf_at m.0)) r ∙ ap (λ o. step u.0 o (leaf_at m.0)) (wanted items p l u e r) in
    let T = read_tree (marks_from 0 (up_to items p)) u.0 m.0 read in
    record { tree = closed u.0 (leaf m.0); arranges = record { in_list = T.in_list; fitting = T.fitting } }

-- where reading stops, the list clashes
pub clashes : (items : List Item) (k : ℕ) (x : Item) (s : State) (left : ℕ) → is_list items ≡ true → slice_get items k ≡ Some x
    → steps start (marks_from 0 (take k items)) ≡ Some s → step s.0 s.1 (mark_of k x) ≡ None → IsOther items (Some x) left k → Clashes items left k
clashes items k x s left g e r n o =
    let stops : steps start (marks_from 0 (take (suc k) items)) ≡ None = reads_more items k x s e r ∙ n in
    let rest = marks_split 0 (take (suc k) items) (drop (suc k) items) in
    let short = marks_split 0 (take (suc k) items) (first_leaf (drop (suc k) items)) in
    record {
      whole = stuck items (marks_from 0 (take (suc k) items)) rest.0 (ap (marks_from 0) (split (suc k) items) ∙ rest.1) stops;
      none = stuck (up_to items k) (marks_from 0 (take (suc k) items)) short.0 short.1 stops;
      earlier = λ p l h q.
          let f = front (suc p) k items (omega arith) in
          let m = marks_split 0 (take (suc p) items) f.0 in
          let u = some_before (marks_from 0 (take (suc p) items)) m.0 s (sym (ap (λ ms. steps start ms) (ap (marks_from 0) f.1 ∙ m.1)) ∙ r) in
          arranged_to items p l u.0 g q u.1;
      other = subst (λ (y : Option Item). IsOther items y left k) (sym e) o;
    }

-- where all was read, the tree arranges the list
pub arranges : (xs : List Item) (k : ℕ) (gs : List Open) (q : ℕ) (t : Tree) → length xs ≤ k → steps start (marks_from 0 (take k xs)) ≡ Some (gs, Some q) → t ≡ closed gs (leaf q) → Arranges xs t
arranges xs k gs q t h r e =
    let all : take k xs ≡ xs = take_all k xs h in
    let T = read_tree (marks_from 0 xs) gs q (sym (ap (λ ys. steps start (marks_from 0 ys)) all) ∙ r) in
    record { in_list = ap in_order e ∙ T.in_list; fitting = ap fits e ∙ T.fitting }
  where
    take_all : (k : ℕ) (xs : List Item) → length xs ≤ k → take k xs ≡ xs
    take_all zero [] h = refl
    take_all (suc k) [] h = refl
    take_all zero (x ∷ xs) h = absurd (omega arith)
    take_all (suc k) (x ∷ xs) h = ap (λ ys. x ∷ ys) (take_all k xs (omega arith))

-- what the grammar allows next
pub goes_leaf : (o : Option ℕ) (n : ℕ) (ys : List Item) → goes o (item.Leaf n ∷ ys) ≡ true → (o ≡ None) × (is_rest ys ≡ true)
goes_leaf None n ys h = (refl, h)
goes_leaf (Some q) n ys h = absurd (cc)

pub goes_minus : (o : Option ℕ) (s : Span) (ys : List Item) → goes o (item.Minus s ∷ ys) ≡ true → (o ≡ None) × (is_list ys ≡ true)
goes_minus None s [] h = absurd (cc)
goes_minus None s (item.Leaf n ∷ ys) h = (refl, h)
goes_minus None s (item.Minus u ∷ ys) h = absurd (cc)
goes_minus None s (item.Op f u ∷ ys) h = absurd (cc)
goes_minus (Some q) s ys h = absurd (cc)

pub goes_op : (o : Option ℕ) (f : Fixity) (s : Span) (ys : List Item) → goes o (item.Op f s ∷ ys) ≡ true → (q : ℕ) × (o ≡ Some q) × (is_list ys ≡ true)
goes_op None f s ys h = absurd (cc)
goes_op (Some q) f s ys h = (q, refl, h)
