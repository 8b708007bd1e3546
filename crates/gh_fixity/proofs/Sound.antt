-- What the reader with a stack gives arranges what it read.
use Rattle.std.proofs.Common.{◌≡◌, ℕ, Bool, true, false, ◌&&◌, List, [], ◌∷◌, ◌++◌, Option, Some, None, if◌then◌else◌, refl, sym, ap, subst, ◌∙◌, append_assoc, append-nil}
use Rattle.std.proofs.lemmas.Bool.{and_from}
use Rattle.std.specs.Prelude.{IsTrue}
use Rattle.gh_fixity.specs.declared.item.Fixity.{Fixity}
use Rattle.gh_fixity.specs.Arrangement.{Tree, leaf, Mark, leaf_at, minus_sign, op_at, minus_fixity, may_be_left, in_order, rank, fits, left_fits, right_fits}
use Rattle.gh_fixity.specs.Stack.{Open, after_minus, after, open_fixity, applied, closed, allows, settled, reduced, State, shifted, step, steps, steps-None, start}

abbrev pub open_marks : Open → List Mark
open_marks after_minus = minus_sign ∷ []
open_marks (after p f l) = in_order l ++ op_at p f ∷ []

-- what was read into the stack
abbrev pub marks_of : List Open → List Mark
marks_of [] = []
marks_of (g ∷ gs) = marks_of gs ++ open_marks g

abbrev pub IsOpenGood : Open → Type 0
IsOpenGood after_minus = Unit {0}
IsOpenGood (after p f l) = IsTrue (left_fits f (rank l)) × IsTrue (fits l)

abbrev pub IsGood : List Open → Type 0
IsGood [] = Unit {0}
IsGood (g ∷ gs) = IsOpenGood g × IsTrue (allows gs (open_fixity g)) × IsGood gs

abbrev pub allows_rank : List Open → Option Fixity → Bool
allows_rank gs None = true
allows_rank gs (Some f) = allows gs f

-- a tree under the innermost that is open
abbrev pub under : List Open → Tree → Bool
under [] t = true
under (g ∷ gs) t = right_fits (open_fixity g) (rank t)

rank-applied : (g : Open) (t : Tree) → rank (applied g t) ≡ Some (open_fixity g)
rank-applied after_minus t = refl
rank-applied (after p f l) t = refl

pub in_order-applied : (g : Open) (t : Tree) → in_order (applied g t) ≡ open_marks g ++ in_order t
in_order-applied after_minus t = refl
in_order-applied (after p f l) t = sym (append_assoc (in_order l) (op_at p f ∷ []) (in_order t))

pub applied_fits : (g : Open) (t : Tree) → IsOpenGood g → IsTrue (right_fits (open_fixity g) (rank t)) → IsTrue (fits t) → IsTrue (fits (applied g t))
applied_fits after_minus t h u v = and_from (right_fits minus_fixity (rank t)) (fits t) u v
applied_fits (after p f l) t h u v =
    and_from (left_fits f (rank l) && right_fits f (rank t)) (fits l && fits t)
    (and_from (left_fits f (rank l)) (right_fits f (rank t)) h.0 u) (and_from (fits l) (fits t) h.1 v)

pub applied_under : (g : Open) (gs : List Open) (t : Tree) → IsTrue (allows gs (open_fixity g)) → IsTrue (under gs (applied g t))
applied_under g [] t h = refl
applied_under after_minus (k ∷ gs) t h = h
applied_under (after p f l) (k ∷ gs) t h = h

pub closed_fits : (gs : List Open) (t : Tree) → IsGood gs → IsTrue (under gs t) → IsTrue (fits t) → IsTrue (fits (closed gs t))
closed_fits [] t h u v = v
closed_fits (g ∷ gs) t h u v = closed_fits gs (applied g t) h.2 (applied_under g gs t h.1) (applied_fits g t h.0 u v)

pub in_order-closed : (gs : List Open) (t : Tree) → in_order (closed gs t) ≡ marks_of gs ++ in_order t
in_order-closed [] t = refl
in_order-closed (g ∷ gs) t =
    in_order-closed gs (applied g t) ∙ ap (λ ms. marks_of gs ++ ms) (in_order-applied g t) ∙ sym (append_assoc (marks_of gs) (open_marks g) (in_order t))

-- what stands after what may be closed was closed
pub record IsReduced (gs : List Open) (t : Tree) (f : Fixity) (hs : List Open) (u : Tree) : Type 0 where
  pub same : marks_of hs ++ in_order u ≡ marks_of gs ++ in_order t
  pub good : IsGood hs
  pub fit : IsTrue (fits u)
  pub left : IsTrue (left_fits f (rank u))
  pub allowed : IsTrue (allows hs f)

pub some_is : {A : Type 0} (a b : A) → Some a ≡ Some b → a ≡ b
some_is a b e = cc

settled_good : (b : Bool) (gs : List Open) (t : Tree) (f : Fixity) (r : List Open × Tree) → allows gs f ≡ b → (if b then Some (gs, t) else None) ≡ Some r
    → IsGood gs → IsTrue (fits t) → IsTrue (left_fits f (rank t)) → IsReduced gs t f r.0 r.1
settled_good true gs t f r a e h v w =
    let R : List Open × Tree → Type 0 = λ x. IsReduced gs t f x.0 x.1 in
    subst R (some_is (gs, t) r e) (record { same = refl; good = h; fit = v; left = w; allowed = a })
settled_good false gs t f r a e h v w = absurd (cc)

pub reduced_good : (gs : List Open) (t : Tree) (f : Fixity) (r : List Open × Tree) → reduced gs t f ≡ Some r
    → IsGood gs → IsTrue (under gs t) → IsTrue (fits t) → IsTrue (left_fits f (rank t)) → IsReduced gs t f r.0 r.1
reduced_good [] t f r e h u v w =
    let R : List Open × Tree → Type 0 = λ x. IsReduced [] t f x.0 x.1 in
    subst R (some_is ([], t) r e) (record { same = refl; good = h; fit = v; left = w; allowed = refl })
reduced_good (g ∷ gs) t f r e h u v w =
    by (λ e1 fit. reduced_good gs (applied g t) f r e1 h.2 (applied_under g gs t h.1) (applied_fits g t h.0 u v) fit) (may_be_left f (open_fixity g)) refl
  where
    by : (reduced gs (applied g t) f ≡ Some r → IsTrue (left_fits f (rank (applied g t))) → IsReduced gs (applied g t) f r.0 r.1)
        → (b : Bool) → may_be_left f (open_fixity g) ≡ b → IsReduced (g ∷ gs) t f r.0 r.1
    by more true l =
        let e1 : reduced gs (applied g t) f ≡ Some r = sym (ap (λ b. if b then reduced gs (applied g t) f else settled (g ∷ gs) t f) l) ∙ e in
        let R : IsReduced gs (applied g t) f r.0 r.1 =
        more e1 (ap (left_fits f) (rank-applied g t) ∙ l) in
        record {
          same = R.same ∙ ap (λ ms. marks_of gs ++ ms) (in_order-applied g t) ∙ sym (append_assoc (marks_of gs) (open_marks g) (in_order t));
          good = R.good;
          fit = R.fit;
          left = R.left;
          allowed = R.allowed;
        }
    by more false l =
        let e1 : settled (g ∷ gs) t f ≡ Some r = sym (ap (λ b. if b then reduced gs (applied g t) f else settled (g ∷ gs) t f) l) ∙ e in
        settled_good (allows (g ∷ gs) f) (g ∷ gs) t f r refl e1 h v w

-- what a state has read
abbrev pub with_leaf : List Open → Option ℕ → List Mark
with_leaf gs None = marks_of gs
with_leaf gs (Some p) = marks_of gs ++ leaf_at p ∷ []

pub record HasRead (ms : List Mark) (s : State) : Type 0 where
  pub good : IsGood s.0
  pub is : with_leaf s.0 s.1 ≡ ms

under_leaf : (gs : List Open) (q : ℕ) → IsTrue (under gs (leaf q))
under_leaf [] q = refl
under_leaf (g ∷ gs) q = refl

step_good : (gs : List Open) (o : Option ℕ) (m : Mark) (s : State) → step gs o m ≡ Some s → IsGood gs → HasRead (with_leaf gs o ++ m ∷ []) s
step_good gs None (leaf_at p) s e h =
    subst (HasRead (marks_of gs ++ leaf_at p ∷ [])) (some_is (gs, Some p) s e) (record { good = h; is = refl })
step_good gs None minus_sign s e h = by (allows gs minus_fixity) refl
  where
    by : (b : Bool) → allows gs minus_fixity ≡ b → HasRead (marks_of gs ++ minus_sign ∷ []) s
    by true a =
        subst (HasRead (marks_of gs ++ minus_sign ∷ []))
        (some_is (after_minus ∷ gs, None) s (sym (ap (λ b. if b then Some (after_minus ∷ gs, None) else None) a) ∙ e)) (record { good = (tt, a, h); is = refl })
    by false a =
        let none : None ≡ Some s = sym (ap (λ b. if b then Some (after_minus ∷ gs, None) else None) a) ∙ e in
        absurd (cc)
step_good gs None (op_at p f) s e h = absurd (cc)
step_good gs (Some q) (leaf_at p) s e h = absurd (cc)
step_good gs (Some q) minus_sign s e h = absurd (cc)
step_good gs (Some q) (op_at p f) s e h = by (reduced gs (leaf q) f) refl
  where
    by : (o : Option (List Open × Tree)) → reduced gs (leaf q) f ≡ o → HasRead ((marks_of gs ++ leaf_at q ∷ []) ++ op_at p f ∷ []) s
    by None r =
        let none : None ≡ Some s = sym (ap (shifted p f) r) ∙ e in
        absurd (cc)
    by (Some x) r =
        let R : IsReduced gs (leaf q) f x.0 x.1 = reduced_good gs (leaf q) f x r h (under_leaf gs q) refl refl in
        subst (HasRead ((marks_of gs ++ leaf_at q ∷ []) ++ op_at p f ∷ []))
        (some_is (after p f x.1 ∷ x.0, None) s (sym (ap (shifted p f) r) ∙ e))
        (record {
          good = ((R.left, R.fit), R.allowed, R.good);
          is = sym (append_assoc (marks_of x.0) (in_order x.1) (op_at p f ∷ [])) ∙ ap (λ ms. ms ++ op_at p f ∷ []) R.same;
        })

pub steps_good : (ms : List Mark) (s u : State) → steps (Some s) ms ≡ Some u → IsGood s.0 → HasRead (with_leaf s.0 s.1 ++ ms) u
steps_good [] s u e h =
    subst (HasRead (with_leaf s.0 s.1 ++ [])) (some_is s u e) (record { good = h; is = sym (append-nil (with_leaf s.0 s.1)) })
steps_good (m ∷ ms) s u e h = by (λ x f g. steps_good ms x u f g) (step s.0 s.1 m) refl
  where
    by : ((x : State) → steps (Some x) ms ≡ Some u → IsGood x.0 → HasRead (with_leaf x.0 x.1 ++ ms) u) → (o : Option State) → step s.0 s.1 m ≡ o → HasRead (with_leaf s.0 s.1 ++ m ∷ ms) u
    by more None r =
        let none : None ≡ Some u = sym (steps-None ms) ∙ sym (ap (λ x. steps x ms) r) ∙ e in
        absurd (cc)
    by more (Some x) r =
        let X : HasRead (with_leaf s.0 s.1 ++ m ∷ []) x = step_good s.0 s.1 m x r h in
        let U : HasRead (with_leaf x.0 x.1 ++ ms) u = more x (sym (ap (λ y. steps y ms) r) ∙ e) X.good in
        record { good = U.good; is = U.is ∙ ap (λ xs. xs ++ ms) X.is ∙ append_assoc (with_leaf s.0 s.1) (m ∷ []) ms }

-- the tree of a state after a leaf
pub record IsTreeOf (ms : List Mark) (t : Tree) : Type 0 where
  pub in_list : in_order t ≡ ms
  pub fitting : IsTrue (fits t)

pub read_tree : (ms : List Mark) (gs : List Open) (p : ℕ) → steps start ms ≡ Some (gs, Some p) → IsTreeOf ms (closed gs (leaf p))
read_tree ms gs p e =
    let U : HasRead ms (gs, Some p) = steps_good ms ([], None) (gs, Some p) e tt in
    record { in_list = in_order-closed gs (leaf p) ∙ U.is; fitting = closed_fits gs (leaf p) U.good (under_leaf gs p) refl }
