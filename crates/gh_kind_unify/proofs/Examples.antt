-- Small lists of rules.
use Rattle.std.proofs.Common.{◌≡◌, ℕ, zero, suc, ◌+◌, cond, eqb, List, [], ◌∷◌, refl, ap, arith}
use Rattle.gh_kind_unify.specs.declared.rules.Rule.{Rule}
use Rattle.gh_kind_unify.specs.declared.rules.Rule.TheVariants as rule
use Rattle.gh_kind_unify.specs.Kinds.{Tree, star, arrow, Kinds, MeetsAll, HasNone, nodes}

-- 0 is the kind `*`
-- data T f = T (f a): f is 1, a is 2
applied : List Rule
applied = rule.Star 0 ∷ rule.Applies 1 2 0 ∷ []

applied_met : MeetsAll (λ v. cond (eqb v 1) (arrow star star) star) applied
unfolding applied
applied_met = (refl, (refl, tt))

-- data T f = T (f f) has no kind
self_applied : HasNone (rule.Star 0 ∷ rule.Applies 1 1 0 ∷ [])
self_applied ρ m = let e : nodes (ρ 1) ≡ suc (nodes (ρ 1) + nodes (ρ 0)) = ap nodes m.1.0 in omega (arith, e)

-- data A0 a = A0 a, and then data Ai f = Ai (f Aj) with j before i
abbrev nested : ℕ → Tree
nested zero = arrow star star
nested (suc n) = arrow (arrow (nested n) star) star

nested_in_size : nodes (nested 15) ≡ 63
nested_in_size = refl

nested_larger : nodes (nested 16) ≡ 67
nested_larger = refl
