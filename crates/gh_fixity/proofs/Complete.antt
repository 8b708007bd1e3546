-- The reader with a stack finds each tree that arranges what it reads.
use Rattle.std.proofs.Common.{◌≡◌, ℕ, ◌<◌, Bool, true, false, ◌&&◌, List, [], ◌∷◌, ◌++◌, Option, Some, None, if◌then◌else◌, refl, sym, ap, ◌∙◌, append_assoc, arith, ◌⊎◌, inl, inr}
use Rattle.std.proofs.lemmas.Bool.{and_parts}
use Rattle.std.proofs.lemmas.Bool.Decides.{nat_tests}
use Rattle.gh_fixity.specs.declared.item.Fixity.{Fixity}
use Rattle.gh_fixity.specs.declared.item.Side.{Side}
use Rattle.gh_fixity.specs.declared.item.Side.TheVariants.{Left, Right, Neither}
use Rattle.gh_fixity.specs.Arrangement.{Tree, leaf, minus, pair, op_at, minus_fixity, is_left, is_right, may_be_left, may_be_right, in_order, rank, fits, left_fits, right_fits}
use Rattle.gh_fixity.specs.Stack.{Open, after_minus, after, open_fixity, applied, closed, allows, settled, reduced, shifted, steps, steps-append}
use Rattle.gh_fixity.proofs.Sound.{under}

-- the two conditions on levels and sides, as facts
pub left_cases : (f g : Fixity) → may_be_left f g ≡ true → (f.level < g.level) ⊎ ((f.level ≡ g.level) × (is_left f.side ≡ true) × (is_left g.side ≡ true))
left_cases f g h = grind (arith, nat_tests)

pub right_cases : (f g : Fixity) → may_be_right f g ≡ true → (f.level < g.level) ⊎ ((f.level ≡ g.level) × (is_right f.side ≡ true) × (is_right g.side ≡ true))
right_cases f g h = grind (arith, nat_tests)

pub left_from : (f g : Fixity) → (f.level < g.level) ⊎ ((f.level ≡ g.level) × (is_left f.side ≡ true) × (is_left g.side ≡ true)) → may_be_left f g ≡ true
left_from f g h = grind (arith, nat_tests)

pub right_from : (f g : Fixity) → (f.level < g.level) ⊎ ((f.level ≡ g.level) × (is_right f.side ≡ true) × (is_right g.side ≡ true)) → may_be_right f g ≡ true
right_from f g h = grind (arith, nat_tests)

one_side : (s : Side) → is_left s ≡ true → is_right s ≡ true → ⊥
one_side Left h k = cc
one_side Right h k = cc
one_side Neither h k = cc

-- what may be the left child of a right child may be a right child
right_left : (g f : Fixity) (r : Option Fixity) → may_be_right g f ≡ true → left_fits f r ≡ true → right_fits g r ≡ true
right_left g f None h k = refl
right_left g f (Some x) h k = by (right_cases g f h) (left_cases f x k)
  where
    by : (g.level < f.level) ⊎ ((g.level ≡ f.level) × (is_right g.side ≡ true) × (is_right f.side ≡ true))
        → (f.level < x.level) ⊎ ((f.level ≡ x.level) × (is_left f.side ≡ true) × (is_left x.side ≡ true)) → may_be_right g x ≡ true
    by (inl a) (inl b) = right_from g x (inl (omega arith))
    by (inl a) (inr b) = right_from g x (inl (omega (arith, b.0)))
    by (inr a) (inl b) = right_from g x (inl (omega (arith, a.0)))
    by (inr a) (inr b) = absurd (one_side f.side b.1 a.2)

-- what may be the right child of a left child may be a left child
left_down : (f g : Fixity) (r : Option Fixity) → may_be_left f g ≡ true → right_fits g r ≡ true → left_fits f r ≡ true
left_down f g None h k = refl
left_down f g (Some x) h k = by (left_cases f g h) (right_cases g x k)
  where
    by : (f.level < g.level) ⊎ ((f.level ≡ g.level) × (is_left f.side ≡ true) × (is_left g.side ≡ true))
        → (g.level < x.level) ⊎ ((g.level ≡ x.level) × (is_right g.side ≡ true) × (is_right x.side ≡ true)) → may_be_left f x ≡ true
    by (inl a) (inl b) = left_from f x (inl (omega arith))
    by (inl a) (inr b) = left_from f x (inl (omega (arith, b.0)))
    by (inr a) (inl b) = left_from f x (inl (omega (arith, a.0)))
    by (inr a) (inr b) = absurd (one_side g.side a.2 b.1)

-- no node may be both, above and below
not_both : (b : Bool) (f g : Fixity) → may_be_left f g ≡ b → may_be_right g f ≡ true → may_be_left f g ≡ false
not_both false f g e h = e
not_both true f g e h = by (left_cases f g e) (right_cases g f h)
  where
    by : (f.level < g.level) ⊎ ((f.level ≡ g.level) × (is_left f.side ≡ true) × (is_left g.side ≡ true))
        → (g.level < f.level) ⊎ ((g.level ≡ f.level) × (is_right g.side ≡ true) × (is_right f.side ≡ true)) → may_be_left f g ≡ false
    by (inl a) (inl b) = absurd (omega arith)
    by (inl a) (inr b) = absurd (omega (arith, b.0))
    by (inr a) (inl b) = absurd (omega (arith, a.0))
    by (inr a) (inr b) = absurd (one_side f.side a.1 b.2)

-- what is open at the last leaf of a tree, and that leaf
abbrev pub spine : Tree → List Open
spine (leaf p) = []
spine (minus t) = spine t ++ after_minus ∷ []
spine (pair p f a b) = spine b ++ after p f a ∷ []

abbrev pub last : Tree → ℕ
last (leaf p) = p
last (minus t) = last t
last (pair p f a b) = last b

pub closed_spine : (t : Tree) (gs : List Open) → closed (spine t ++ gs) (leaf (last t)) ≡ closed gs t
closed_spine (leaf p) gs = refl
closed_spine (minus t) gs = ap (λ hs. closed hs (leaf (last t))) (append_assoc (spine t) (after_minus ∷ []) gs) ∙ closed_spine t (after_minus ∷ gs)
closed_spine (pair p f a b) gs = ap (λ hs. closed hs (leaf (last b))) (append_assoc (spine b) (after p f a ∷ []) gs) ∙ closed_spine b (after p f a ∷ gs)

pub reduced_more : (g : Open) (gs : List Open) (t : Tree) (f : Fixity) → may_be_left f (open_fixity g) ≡ true → reduced (g ∷ gs) t f ≡ reduced gs (applied g t) f
reduced_more g gs t f h = ap (λ b. if b then reduced gs (applied g t) f else settled (g ∷ gs) t f) h

pub reduced_spine : (t : Tree) (gs : List Open) (f : Fixity) → fits t ≡ true → left_fits f (rank t) ≡ true → reduced (spine t ++ gs) (leaf (last t)) f ≡ reduced gs t f
reduced_spine (leaf p) gs f h k = refl
reduced_spine (minus t) gs f h k =
    let p = and_parts (right_fits minus_fixity (rank t)) (fits t) h in
    ap (λ hs. reduced hs (leaf (last t)) f) (append_assoc (spine t) (after_minus ∷ []) gs)
    ∙ reduced_spine t (after_minus ∷ gs) f p.1 (left_down f minus_fixity (rank t) k p.0)
    ∙ reduced_more after_minus gs t f k
reduced_spine (pair q g a b) gs f h k =
    let p = and_parts (left_fits g (rank a) && right_fits g (rank b)) (fits a && fits b) h in
    let fit = and_parts (fits a) (fits b) p.1 in
    let right = and_parts (left_fits g (rank a)) (right_fits g (rank b)) p.0 in
    ap (λ hs. reduced hs (leaf (last b)) f) (append_assoc (spine b) (after q g a ∷ []) gs)
    ∙ reduced_spine b (after q g a ∷ gs) f fit.1 (left_down f g (rank b) k right.1)
    ∙ reduced_more (after q g a) gs b f k

-- under what is open nothing is closed
reduced_stays : (gs : List Open) (t : Tree) (f : Fixity) → allows gs f ≡ true → reduced gs t f ≡ Some (gs, t)
reduced_stays [] t f h = refl
reduced_stays (g ∷ gs) t f h =
    ap (λ b. if b then reduced gs (applied g t) f else settled (g ∷ gs) t f) (not_both (may_be_left f (open_fixity g)) f (open_fixity g) refl h)
    ∙ ap (λ b. if b then Some (g ∷ gs, t) else None) h

allows_root : (gs : List Open) (p : ℕ) (f : Fixity) (a b : Tree) → under gs (pair p f a b) ≡ true → allows gs f ≡ true
allows_root [] p f a b h = refl
allows_root (g ∷ gs) p f a b h = h

allows_minus : (gs : List Open) (t : Tree) → under gs (minus t) ≡ true → allows gs minus_fixity ≡ true
allows_minus [] t h = refl
allows_minus (g ∷ gs) t h = h

under_left : (gs : List Open) (f : Fixity) (a : Tree) → allows gs f ≡ true → left_fits f (rank a) ≡ true → under gs a ≡ true
under_left [] f a h k = refl
under_left (g ∷ gs) f a h k = right_left (open_fixity g) f (rank a) h k

-- a tree that fits is read back
pub steps_tree : (t : Tree) (gs : List Open) → fits t ≡ true → under gs t ≡ true → steps (Some (gs, None)) (in_order t) ≡ Some (spine t ++ gs, Some (last t))
steps_tree (leaf p) gs h u = refl
steps_tree (minus t) gs h u =
    let p = and_parts (right_fits minus_fixity (rank t)) (fits t) h in
    ap (λ b. steps (if b then Some (after_minus ∷ gs, None) else None) (in_order t)) (allows_minus gs t u)
    ∙ steps_tree t (after_minus ∷ gs) p.1 p.0
    ∙ ap (λ hs. Some (hs, Some (last t))) (sym (append_assoc (spine t) (after_minus ∷ []) gs))
steps_tree (pair q f a b) gs h u =
    let p = and_parts (left_fits f (rank a) && right_fits f (rank b)) (fits a && fits b) h in
    let fit = and_parts (fits a) (fits b) p.1 in
    let side = and_parts (left_fits f (rank a)) (right_fits f (rank b)) p.0 in
    let above = allows_root gs q f a b u in
    steps-append (Some (gs, None)) (in_order a) (op_at q f ∷ in_order b)
    ∙ ap (λ s. steps s (op_at q f ∷ in_order b)) (steps_tree a gs fit.0 (under_left gs f a above side.0))
    ∙ ap (λ r. steps (shifted q f r) (in_order b)) (reduced_spine a gs f fit.0 side.0 ∙ reduced_stays gs a f above)
    ∙ steps_tree b (after q f a ∷ gs) fit.1 side.1
    ∙ ap (λ hs. Some (hs, Some (last b))) (sym (append_assoc (spine b) (after q f a ∷ []) gs))
