-- Names that differ.
use Rattle.std.proofs.Common.{◌≡◌, ◌≢◌, ℕ, Bool, true, false, ◌||◌, nat_eq, List, [], ◌∷◌, ◌++◌, refl, sym, ap, ◌∙◌}
use Rattle.gh_base.specs.declared.names.NameId.{NameId}
use Rattle.gh_bindings.specs.declared.binding.Binding.{Binding}
use Rattle.gh_tree_form.specs.Form.{has_name}
use Rattle.gh_tree_form.specs.Grammar.{AreOthers, AreDifferent}
use Rattle.std.proofs.lemmas.Bool.{eq-eqb, eqb-true, eqb-false}

pub no_true : let b : Bool = true in b ≡ false → ⊥
no_true h = cc

or_left : (a b : Bool) → a || b ≡ false → a ≡ false
or_left true b h = h
or_left false b h = refl

or_right : (a b : Bool) → a || b ≡ false → b ≡ false
or_right true b h = absurd (no_true h)
or_right false b h = h

or_both : (a b : Bool) → a ≡ false → b ≡ false → a || b ≡ false
or_both a b h e = ap (λ x. x || b) h ∙ e

pub ids_same : (a b : NameId) → nat_eq a.0 b.0 ≡ true → a ≡ b
ids_same a b h = let f : ℕ → NameId = λ n. record { 0 = n } in ap f (eqb-true a.0 b.0 h)

pub same_ids : (a b : NameId) → a ≡ b → nat_eq a.0 b.0 ≡ true
same_ids a b e = let f : NameId → ℕ = λ n. n.0 in eq-eqb a.0 b.0 (ap f e)

pub ids_differ : (a b : NameId) → nat_eq a.0 b.0 ≡ false → a ≢ b
ids_differ a b h e = let f : NameId → ℕ = λ n. n.0 in eqb-false a.0 b.0 h (ap f e)

pub differ_ids : (a b : NameId) → a ≢ b → nat_eq a.0 b.0 ≡ false
differ_ids a b h = by (nat_eq a.0 b.0) refl
  where
    by : (c : Bool) → nat_eq a.0 b.0 ≡ c → c ≡ false
    by true e = absurd (h (ids_same a b e))
    by false e = refl

-- where no binding has a name, all are others, and the other way round
pub others : (bs : List Binding) (n : NameId) → has_name bs n ≡ false → AreOthers n bs
others [] n h = tt
others (b ∷ bs) n h =
    (λ e. ids_differ n b.name (or_left (nat_eq n.0 b.name.0) (has_name bs n) h) (sym e), others bs n (or_right (nat_eq n.0 b.name.0) (has_name bs n) h))

others_push : (bs : List Binding) (b : Binding) (n : NameId) → AreOthers n bs → b.name ≢ n → AreOthers n (bs ++ b ∷ [])
others_push [] b n h e = (e, tt)
others_push (x ∷ bs) b n h e = (h.0, others_push bs b n h.1 e)

pub different_push : (bs : List Binding) (b : Binding) → AreDifferent bs → has_name bs b.name ≡ false → AreDifferent (bs ++ b ∷ [])
different_push [] b d h = (tt, tt)
different_push (x ∷ bs) b d h = (
  others_push bs b x.name d.0 (ids_differ b.name x.name (or_left (nat_eq b.name.0 x.name.0) (has_name bs b.name) h)),
  different_push bs b d.1 (or_right (nat_eq b.name.0 x.name.0) (has_name bs b.name) h),
)

others_at : (bs : List Binding) (b : Binding) (later : List Binding) (n : NameId) → AreOthers n (bs ++ b ∷ later) → b.name ≢ n
others_at [] b later n h = h.0
others_at (x ∷ bs) b later n h = others_at bs b later n h.1

-- a binding before which all are different has a new name
pub new_name : (bs : List Binding) (b : Binding) (later : List Binding) → AreDifferent (bs ++ b ∷ later) → has_name bs b.name ≡ false
new_name [] b later d = refl
new_name (x ∷ bs) b later d = or_both (nat_eq b.name.0 x.name.0) (has_name bs b.name) (differ_ids b.name x.name (others_at bs b later x.name d.0)) (new_name bs b later d.1)
