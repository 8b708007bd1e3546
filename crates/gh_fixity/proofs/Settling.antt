-- What reading a list from its front gives is its tree, or the place at which it clashes.
use Rattle.std.proofs.Common.{◌≡◌, ℕ, zero, suc, ◌+◌, ◌<◌, ◌≤◌, ◌==◌, Bool, true, false, cond, List, [], ◌∷◌, ◌++◌, take, drop, Option, Some, None, refl, sym, ap, ◌∙◌, slice_get, arith, add-zero, zero-add, ◌⊎◌, inl, inr}
use Rattle.std.proofs.lemmas.Bool.{eqb-true, eq-eqb, cases_lt}
use Rattle.gh_base.specs.declared.place.Span.{Span}
use Rattle.gh_fixity.specs.declared.item.Fixity.{Fixity}
use Rattle.gh_fixity.specs.declared.item.Item.{Item}
use Rattle.gh_fixity.specs.declared.item.Item.TheVariants as item
use Rattle.gh_base.specs.declared.no_memory.NoMemory.{NoMemory}
use Rattle.gh_fixity.specs.declared.item.Arranged.{Arranged}
use Rattle.gh_fixity.specs.declared.item.ArrangeFault.{ArrangeFault}
use Rattle.gh_fixity.specs.declared.item.ArrangeFault.TheVariants as fault
use Rattle.gh_fixity.specs.declared.settle.Settled.{Settled}
use Rattle.gh_fixity.specs.Settled.{settling_in, settled_fault}
use Rattle.std.specs.Prelude.{IfOk, Result, Ok, Err}
use Rattle.gh_fixity.specs.Arrangement.{Tree, leaf, minus_sign, op_at, mark_of, marks_from, level_at, Arranges, IsNearest, IsOther, IfClash}
use Rattle.gh_fixity.specs.Stack.{Open, State, closed, step, steps, steps-None, start, goes as given}
use Rattle.gh_fixity.specs.Settle.{is_tree, stops_at, finished, or_stops, read_from, verdict, is_level, nearest_before, left_by, left_of, root_place, goes, fails, rooted, settled_by, settle}
use Rattle.gh_fixity.proofs.Sound.{some_is}
use Rattle.gh_fixity.proofs.Complete.{spine, last, closed_spine}
use Rattle.gh_fixity.proofs.Laws.{read_back, drop_at, goes_minus}
use Rattle.gh_fixity.proofs.Turns.{HasTurn}

-- where all can be read
pub read_steps : (xs : List Item) (s : State) (p : ℕ) (gs : List Open) (q : ℕ) → steps (Some s) (marks_from p xs) ≡ Some (gs, Some q) → read_from s p xs ≡ is_tree (closed gs (leaf q))
read_steps [] s p gs q e = ap (finished p) (some_is s (gs, Some q) e)
read_steps (x ∷ xs) s p gs q e = by (λ u h. read_steps xs u (suc p) gs q h) (step s.0 s.1 (mark_of p x)) refl
  where
    by : ((u : State) → steps (Some u) (marks_from (suc p) xs) ≡ Some (gs, Some q) → read_from u (suc p) xs ≡ is_tree (closed gs (leaf q)))
        → (o : Option State) → step s.0 s.1 (mark_of p x) ≡ o → read_from s p (x ∷ xs) ≡ is_tree (closed gs (leaf q))
    by next None h =
        let none : ◌≡◌ {A = Option State} None (Some (gs, Some q)) = sym (ap (λ o. steps o (marks_from (suc p) xs)) h ∙ steps-None (marks_from (suc p) xs)) ∙ e in
        absurd (cc)
    by next (Some u) h =
        ap (or_stops p (λ v. read_from v (suc p) xs)) h
        ∙ next u (sym (ap (λ o. steps o (marks_from (suc p) xs)) h) ∙ e)

-- a tree that arranges a list is what reading it gives
pub tree_verdict : (items : List Item) (t : Tree) → Arranges items t → verdict items ≡ is_tree t
tree_verdict items t h = read_steps items ([], None) 0 (spine t ++ []) (last t) (read_back items t h) ∙ ap is_tree (closed_spine t [])

-- where an item cannot be read
pub stop_verdict : (xs : List Item) (z s : State) (p k : ℕ) (x : Item) → steps (Some z) (marks_from p (take k xs)) ≡ Some s → slice_get xs k ≡ Some x
    → step s.0 s.1 (mark_of (p + k) x) ≡ None → read_from z p xs ≡ stops_at (p + k)
stop_verdict [] z s p k x r e n = absurd (cc)
stop_verdict (y ∷ xs) z s p zero x r e n =
    let same : z ≡ s = some_is z s r in
    let here : y ≡ x = some_is y x e in
    ap (or_stops p (λ v. read_from v (suc p) xs)) ((λ i. step (same i).0 (same i).1 (mark_of (sym (add-zero p) i) (here i))) ∙ n) ∙ ap stops_at (sym (add-zero p))
stop_verdict (y ∷ xs) z s p (suc k) x r e n = by (λ u h m. stop_verdict xs u s (suc p) k x h e m) (step z.0 z.1 (mark_of p y)) refl
  where
    by : ((u : State) → steps (Some u) (marks_from (suc p) (take k xs)) ≡ Some s → step s.0 s.1 (mark_of (suc p + k) x) ≡ None → read_from u (suc p) xs ≡ stops_at (suc p + k))
        → (o : Option State) → step z.0 z.1 (mark_of p y) ≡ o → read_from z p (y ∷ xs) ≡ stops_at (p + suc k)
    by next None h =
        let none : ◌≡◌ {A = Option State} None (Some s) = sym (ap (λ o. steps o (marks_from (suc p) (take k xs))) h ∙ steps-None (marks_from (suc p) (take k xs))) ∙ r in
        absurd (cc)
    by next (Some u) h =
        let m : p + suc k ≡ suc p + k = omega arith in
        ap (or_stops p (λ v. read_from v (suc p) xs)) h
        ∙ next u (sym (ap (λ o. steps o (marks_from (suc p) (take k xs))) h) ∙ r) (ap (λ i. step s.0 s.1 (mark_of i x)) (sym m) ∙ n)
        ∙ ap stops_at (sym m)

pub stops : (xs : List Item) (k : ℕ) (x : Item) (s : State) → slice_get xs k ≡ Some x → steps start (marks_from 0 (take k xs)) ≡ Some s
    → step s.0 s.1 (mark_of k x) ≡ None → verdict xs ≡ stops_at k
stops xs k x s e r n = stop_verdict xs ([], None) s 0 k x r e (ap (λ i. step s.0 s.1 (mark_of i x)) (zero-add k) ∙ n) ∙ ap stops_at (zero-add k)

pub minus_stops : (xs items : List Item) (k : ℕ) (gs : List Open) (o : Option ℕ) (s : Span) (left right : ℕ) → xs ≡ items → slice_get xs k ≡ Some (item.Minus s) → HasTurn xs k gs o
    → (right ≡ k) × (left + 1 ≡ right) × (step gs None minus_sign ≡ None) → verdict items ≡ stops_at right
minus_stops xs items k gs o s left right same e t m =
    let w : o ≡ None = (goes_minus o s (drop (suc k) xs) (ap (given o) (sym (drop_at k xs (item.Minus s) e)) ∙ t.grammar)).0 in
    sym (ap verdict same) ∙ stops xs k (item.Minus s) (gs, o) e t.reads (ap (λ p. step gs p minus_sign) w ∙ m.2) ∙ ap stops_at (sym m.0)

pub op_stops : (xs items : List Item) (k : ℕ) (gs : List Open) (q : ℕ) (f : Fixity) (s : Span) (left right : ℕ) → xs ≡ items → slice_get xs k ≡ Some (item.Op f s) → HasTurn xs k gs (Some q)
    → (right ≡ k) × IsNearest xs f.level left right × (step gs (Some q) (op_at k f) ≡ None) → verdict items ≡ stops_at right
op_stops xs items k gs q f s left right same e t m =
    sym (ap verdict same) ∙ stops xs k (item.Op f s) (gs, Some q) e t.reads m.2 ∙ ap stops_at (sym m.0)

level_is : (o : Option ℕ) (n : ℕ) → is_level o n ≡ true → o ≡ Some n
level_is None n e = absurd (cc)
level_is (Some m) n e = ap Some (eqb-true m n e)

is_its_level : (o : Option ℕ) (n : ℕ) → o ≡ Some n → is_level o n ≡ true
is_its_level o n e = ap (λ p. is_level p n) e ∙ eq-eqb n n refl

at_most : (a b : ℕ) → a < suc b → (a < b) ⊎ (a ≡ b)
at_most a b h = by (cases_lt a b)
  where
    by : (a < b) ⊎ (b ≤ a) → (a < b) ⊎ (a ≡ b)
    by (inl l) = inl l
    by (inr g) = inr (omega arith)

-- the nearest place is the one that the definition finds
pub nearest_is : (items : List Item) (level left right : ℕ) → IsNearest items level left right → nearest_before items level right ≡ left
nearest_is items level left zero h = let b = h.before in absurd (omega arith)
nearest_is items level left (suc r) h = by (λ k. nearest_is items level left r k) (is_level (level_at items r) level) refl
  where
    last : (left < r) ⊎ (left ≡ r)
    last = let b = h.before in at_most left r (omega arith)

    found : (left < r) ⊎ (left ≡ r) → is_level (level_at items r) level ≡ true → r ≡ left
    found (inl lt) t = absurd (h.others r lt (omega arith) (level_is (level_at items r) level t))
    found (inr e) t = sym e

    further : (IsNearest items level left r → nearest_before items level r ≡ left) → (left < r) ⊎ (left ≡ r) → is_level (level_at items r) level ≡ false → nearest_before items level r ≡ left
    further next (inl lt) t = next (record { before = lt; same = h.same; others = λ p a b. h.others p a (omega arith) })
    further next (inr e) t =
        let yes : true ≡ false = sym (is_its_level (level_at items r) level (ap (level_at items) (sym e) ∙ h.same)) ∙ t in
        absurd (cc)

    by : (IsNearest items level left r → nearest_before items level r ≡ left) → (b : Bool) → is_level (level_at items r) level ≡ b → nearest_before items level (suc r) ≡ left
    by next true t = ap (λ b. cond b r (nearest_before items level r)) t ∙ found last t
    by next false t = ap (λ b. cond b r (nearest_before items level r)) t ∙ further next last t

other_is : (items : List Item) (o : Option Item) (left right : ℕ) → IsOther items o left right → left_by items o right ≡ left
other_is items None left right h = absurd h
other_is items (Some (item.Leaf n)) left right h = absurd h
other_is items (Some (item.Minus s)) left right h = omega arith
other_is items (Some (item.Op f s)) left right h = nearest_is items f.level left right h

pub left_is : (items : List Item) (left right : ℕ) → IsOther items (slice_get items right) left right → left_of items right ≡ left
left_is items left right h = other_is items (slice_get items right) left right h

-- where a list clashes
pub settles : (items : List Item) (left right : ℕ) → verdict items ≡ stops_at right → IsOther items (slice_get items right) left right → (root : Option ℕ) → settle items root ≡ fails left right
settles items left right e o root = ap (settled_by items root) e ∙ ap (λ l. fails l right) (left_is items left right o)

pub fault_settles : (items : List Item) (root : Option ℕ) (f : ArrangeFault) (r : Result Settled NoMemory)
    → IfClash {T = Arranged} (Err f) (λ left right. (root : Option ℕ) → settle items root ≡ fails left right)
    → IfOk r (λ s. settled_fault f ≡ Some s) → IfOk r (λ s. settling_in items s ≡ settle items root)
fault_settles items root f (Err e) h k = tt
fault_settles items root (fault.Clash left right) (Ok s) h k = ap (settling_in items) (sym (some_settled _ _ k)) ∙ sym (h root)
  where
    some_settled : (a b : Settled) → Some a ≡ Some b → a ≡ b
    some_settled a b e = cc
fault_settles items root fault.NoMemory (Ok s) h k = absurd (cc)

-- the root is the place that it should be, or another
pub rooted_yes : (t : Tree) (n place : ℕ) → n ≡ root_place t → n ≡ place → goes t ≡ rooted (Some place) t
rooted_yes t n place e d = sym (ap (λ b. cond b (goes t) (fails (root_place t) place)) (eq-eqb (root_place t) place (sym e ∙ d)))

pub rooted_no : (t : Tree) (n place : ℕ) → n ≡ root_place t → (n ≡ place → ⊥) → fails n place ≡ rooted (Some place) t
rooted_no t n place e d = by (root_place t == place) refl
  where
    by : (b : Bool) → (root_place t == place) ≡ b → fails n place ≡ rooted (Some place) t
    by true h = absurd (d (e ∙ eqb-true (root_place t) place h))
    by false h = ap (λ m. fails m place) e ∙ sym (ap (λ b. cond b (goes t) (fails (root_place t) place)) h)
