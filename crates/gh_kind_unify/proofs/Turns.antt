-- Rules, one after another.
use Rattle.std.proofs.Common.{◌≡◌, ℕ, List, [], ◌∷◌, ◌++◌, length, refl, sym, ap, ◌∙◌, subst}
use Rattle.gh_kind_unify.specs.declared.rules.Rule.{Rule}
use Rattle.gh_kind_unify.specs.declared.cells.Cell.{Cell}
use Rattle.gh_kind_unify.specs.declared.settling.More.{More}
use Rattle.gh_kind_unify.specs.declared.settling.More.TheVariants as more
use Rattle.gh_kind_unify.specs.Kinds.{Kinds, Meets, MeetsAll, IsBelow, AreBelow}
use Rattle.gh_kind_unify.specs.Cells.{Holds, IsTidy}
use Rattle.gh_kind_unify.specs.Settling.{Goes, MeetsMore, MoreBelow, rest, Settling, Settled, Refutes}

pub meets_left : (ρ : Kinds) (xs ys : List Rule) → MeetsAll ρ (xs ++ ys) → MeetsAll ρ xs
meets_left ρ [] ys m = tt
meets_left ρ (x ∷ xs) ys m = (m.0, meets_left ρ xs ys m.1)

pub meets_right : (ρ : Kinds) (xs ys : List Rule) → MeetsAll ρ (xs ++ ys) → MeetsAll ρ ys
meets_right ρ [] ys m = m
meets_right ρ (x ∷ xs) ys m = meets_right ρ xs ys m.1

pub meets_both : (ρ : Kinds) (xs ys : List Rule) → MeetsAll ρ xs → MeetsAll ρ ys → MeetsAll ρ (xs ++ ys)
meets_both ρ [] ys m n = n
meets_both ρ (x ∷ xs) ys m n = (m.0, meets_both ρ xs ys m.1 n)

pub below_left : (c : ℕ) (xs ys : List Rule) → AreBelow c (xs ++ ys) → AreBelow c xs
below_left c [] ys m = tt
below_left c (x ∷ xs) ys m = (m.0, below_left c xs ys m.1)

pub below_right : (c : ℕ) (xs ys : List Rule) → AreBelow c (xs ++ ys) → AreBelow c ys
below_right c [] ys m = m
below_right c (x ∷ xs) ys m = below_right c xs ys m.1

pub below_both : (c : ℕ) (xs ys : List Rule) → AreBelow c xs → AreBelow c ys → AreBelow c (xs ++ ys)
below_both c [] ys m n = n
below_both c (x ∷ xs) ys m n = (m.0, below_both c xs ys m.1 n)

rest_meets : (ρ : Kinds) (m : More) → MeetsMore ρ m → MeetsAll ρ (rest m)
rest_meets ρ more.Clash k = absurd k
rest_meets ρ more.Nothing k = tt
rest_meets ρ (more.One r) k = (k, tt)
rest_meets ρ (more.Two r s) k = (k.0, (k.1, tt))

rest_met : (ρ : Kinds) (m : More) → (m ≡ more.Clash → ⊥) → MeetsAll ρ (rest m) → MeetsMore ρ m
rest_met ρ more.Clash n k = absurd (n refl)
rest_met ρ more.Nothing n k = tt
rest_met ρ (more.One r) n k = k.0
rest_met ρ (more.Two r s) n k = (k.0, k.1.0)

rest_below : (c : ℕ) (m : More) → MoreBelow c m → AreBelow c (rest m)
rest_below c more.Clash k = tt
rest_below c more.Nothing k = tt
rest_below c (more.One r) k = (k, tt)
rest_below c (more.Two r s) k = (k.0, (k.1, tt))

pub settling_first : (cells : List Cell) (rules : List Rule) → IsTidy cells → AreBelow (length cells) rules → Settling cells rules cells rules
settling_first cells rules t b = record { count = refl; tidy = t; below = b; forth = λ ρ h m. (h, m); back = λ ρ h m. (h, m) }

-- the rule that is taken
pub taken_below : (start cells : List Cell) (rules todo left : List Rule) (r : Rule) → Settling start rules cells todo → todo ≡ left ++ r ∷ [] → IsBelow (length cells) r
taken_below start cells rules todo left r s e = (below_right (length cells) left (r ∷ []) (subst (AreBelow (length cells)) e s.below)).0

pub settling_next : (start cells after : List Cell) (rules todo left more_todo : List Rule) (r : Rule) (m : More)
    → Settling start rules cells todo → todo ≡ left ++ r ∷ [] → Goes cells after r m → (m ≡ more.Clash → ⊥) → more_todo ≡ left ++ rest m
    → Settling start rules after more_todo
settling_next start cells after rules todo left more_todo r m s e g n f = record {
  count = g.count ∙ s.count;
  tidy = g.tidy;
  below = subst (λ c. AreBelow c more_todo) (sym g.count) (subst (AreBelow (length cells)) (sym f)
      (below_both (length cells) left (rest m) (below_left (length cells) left (r ∷ []) (subst (AreBelow (length cells)) e s.below)) (rest_below (length cells) m g.below)));
  forth = λ ρ h k.
      let p = s.forth ρ h k in
      let q = subst (MeetsAll ρ) e p.1 in
      let u = g.forth ρ p.0 (meets_right ρ left (r ∷ []) q).0 in
      (u.0, subst (MeetsAll ρ) (sym f) (meets_both ρ left (rest m) (meets_left ρ left (r ∷ []) q) (rest_meets ρ m u.1)));
  back = λ ρ h k.
      let q = subst (MeetsAll ρ) f k in
      let u = g.back ρ h (rest_met ρ m n (meets_right ρ left (rest m) q)) in
      s.back ρ u.0 (subst (MeetsAll ρ) (sym e) (meets_both ρ left (r ∷ []) (meets_left ρ left (rest m) q) (u.1, tt)));
}

pub settling_refuted : (start cells after : List Cell) (rules todo left : List Rule) (r : Rule) → Settling start rules cells todo → todo ≡ left ++ r ∷ []
    → Goes cells after r more.Clash → Refutes start rules
settling_refuted start cells after rules todo left r s e g ρ h k =
    let p = s.forth ρ h k in
    (g.forth ρ p.0 (meets_right ρ left (r ∷ []) (subst (MeetsAll ρ) e p.1)).0).1

pub settling_done : (start cells : List Cell) (rules todo : List Rule) → Settling start rules cells todo → todo ≡ [] → Settled start rules cells
settling_done start cells rules todo s e = record {
  count = s.count;
  tidy = s.tidy;
  forth = λ ρ h k. (s.forth ρ h k).0;
  back = λ ρ h. (s.back ρ h (subst (MeetsAll ρ) (sym e) tt)).1;
}
