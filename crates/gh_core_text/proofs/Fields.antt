-- The names of fields from a place on.
use Rattle.std.proofs.Common.{◌≡◌, ℕ, suc, ◌+◌, ◌<◌, List, ◌++◌, length, sym, ap, ◌∙◌, drop, arith, add-one, append_assoc}
use Rattle.std.specs.Prelude.{codes, decimal}
use Rattle.std.proofs.Math.Seq.{drop-cons}
use Rattle.gh_core.specs.Text.{names_text}

one_on : (count i : ℕ) (xs : List ℕ) → i < length xs → names_text (count + i) (drop i xs) ≡ codes " v" ++ (decimal (count + i) ++ names_text (count + (i + 1)) (drop (i + 1) xs))
one_on count i xs lt =
    let e : suc (count + i) ≡ count + (i + 1) = omega arith in
    ap (names_text (count + i)) (drop-cons xs i 0 lt)
    ∙ ap (λ k. codes " v" ++ (decimal (count + i) ++ names_text k (drop (suc i) xs))) e
    ∙ ap (λ k. codes " v" ++ (decimal (count + i) ++ names_text (count + (i + 1)) (drop k xs))) (sym (add-one i))

pub names_less : (o0 o1 o2 all : List ℕ) (count i : ℕ) (xs : List ℕ) → i < length xs → o0 ++ names_text (count + i) (drop i xs) ≡ all
    → o1 ≡ o0 ++ codes " v" → o2 ≡ o1 ++ decimal (count + i) → o2 ++ names_text (count + (i + 1)) (drop (i + 1) xs) ≡ all
names_less o0 o1 o2 all count i xs lt h e f =
    let rest : List ℕ = names_text (count + (i + 1)) (drop (i + 1) xs) in
    ap (λ o. o ++ rest) (f ∙ ap (λ o. o ++ decimal (count + i)) e)
    ∙ append_assoc (o0 ++ codes " v") (decimal (count + i)) rest
    ∙ append_assoc o0 (codes " v") (decimal (count + i) ++ rest)
    ∙ ap (λ z. o0 ++ z) (sym (one_on count i xs lt)) ∙ h
