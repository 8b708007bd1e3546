-- Small cases of the words, worked out by hand.
use Rattle.std.proofs.Common.{◌≡◌, ℕ, false, List, [], ◌∷◌, Option, Some, None, refl}
use Rattle.std.specs.Prelude.{codes}
use Rattle.gh_words.specs.declared.words.Words.{Words}
use Rattle.gh_words.specs.declared.words.Words.TheVariants as meaning
use Rattle.gh_words.specs.Words.{split_of, meaning_of_split, steps_of, sample_of}

-- words that are text have the meaning that their options and positionals have
meaning_of_words : List (List ℕ) → Option Words
meaning_of_words words = meaning_of_split (split_of false words)

run_by_default : meaning_of_words (codes "run" ∷ codes "a.hs" ∷ []) ≡ Some (meaning.Run 200000 (codes "a.hs" ∷ []))
unfolding meaning_of_words
run_by_default = refl

option_first : meaning_of_words (codes "--steps" ∷ codes "5" ∷ codes "run" ∷ codes "a.hs" ∷ []) ≡ Some (meaning.Run 5 (codes "a.hs" ∷ []))
unfolding meaning_of_words
option_first = refl

option_with_value : meaning_of_words (codes "run" ∷ codes "--steps=0" ∷ codes "--" ∷ codes "-a.hs" ∷ []) ≡ Some (meaning.Run 0 (codes "-a.hs" ∷ []))
unfolding meaning_of_words
option_with_value = refl

option_twice : meaning_of_words (codes "run" ∷ codes "--steps" ∷ codes "1" ∷ codes "--steps" ∷ codes "1" ∷ codes "a.hs" ∷ []) ≡ None
unfolding meaning_of_words
option_twice = refl

option_of_another_mode : meaning_of_words (codes "check" ∷ codes "--steps" ∷ codes "5" ∷ codes "a.hs" ∷ []) ≡ None
unfolding meaning_of_words
option_of_another_mode = refl

unknown_option : meaning_of_words (codes "--help" ∷ []) ≡ None
unfolding meaning_of_words
unknown_option = refl

greatest_budget : steps_of (codes "2000000") ≡ Some 2000000
greatest_budget = refl

budget_past_the_greatest : steps_of (codes "2000001") ≡ None
budget_past_the_greatest = refl

eight_digits : steps_of (codes "00000001") ≡ None
eight_digits = refl

sample_zero : sample_of (codes "0") ≡ None
sample_zero = refl
