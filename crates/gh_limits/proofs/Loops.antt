-- Loops over lists of declarations.
use Rattle.std.proofs.Common.{arith, ◌≡◌, ℕ, ◌+◌, ◌<◌, min, if◌then◌else◌, List, length, map, drop, get_or, Option, sym, ◌∙◌}
use Rattle.std.proofs.lemmas.List.{drop_more}
use Rattle.gh_base.specs.declared.refusal.Limit.TheVariants.{Clauses}
use Rattle.gh_limits.specs.declared.clauses.Clause.{Clause}
use Rattle.gh_limits.specs.Inside.{goes_on, clause_counts, sum_of}
use Rattle.gh_limits.specs.Places.{place, first_place}

-- one more count of bindings of patterns
pub more_patterns : {X : Type 0} (f : X → ℕ) (xs : List X) (i : ℕ) (x : X) (total count r new : ℕ)
    → i < length xs → r ≡ f (get_or xs i x) → min 65 (count + sum_of (map f (drop i xs))) ≡ total
    → new ≡ min 65 (min 65 count + r) → min 65 (new + sum_of (map f (drop (i + 1) xs))) ≡ total
more_patterns f xs i x total count r new lt is old gives =
    (λ j. min 65 ((gives ∙ (λ k. min 65 (min 65 count + is k))) j + sum_of (map f (drop (i + 1) xs)))) ∙ omega arith
    ∙ sym (λ j. min 65 (count + sum_of (map f (drop_more xs i x lt j)))) ∙ old

-- one more clause
pub more_clauses : {X : Type 0} (f : X → Option Clause) (xs : List X) (i : ℕ) (x : X) (total best many known p new : ℕ) (before c : Option Clause)
    → i < length xs → c ≡ f (get_or xs i x) → known ≡ (if goes_on before c then many else 0) → p ≡ place Clauses (1 + known) → new ≡ min best p
    → total ≡ min best (first_place (clause_counts before many (map f (drop i xs))))
    → total ≡ min new (first_place (clause_counts c (1 + known) (map f (drop (i + 1) xs))))
more_clauses f xs i x total best many known p new before c lt is counts at least old =
    old ∙ (λ j. min best (first_place (clause_counts before many (map f (drop_more xs i x lt j)))))
    ∙ (λ j. min best (min (place Clauses (1 + (if goes_on before (sym is j) then many else 0))) (first_place (clause_counts (sym is j) (1 + (if goes_on before (sym is j) then many else 0)) (map f (drop (i + 1) xs))))))
    ∙ (λ j. min best (min (place Clauses (1 + sym counts j)) (first_place (clause_counts c (1 + sym counts j) (map f (drop (i + 1) xs))))))
    ∙ (λ j. min best (min (sym at j) (first_place (clause_counts c (1 + known) (map f (drop (i + 1) xs))))))
    ∙ omega arith
    ∙ (λ j. min (sym least j) (first_place (clause_counts c (1 + known) (map f (drop (i + 1) xs)))))
