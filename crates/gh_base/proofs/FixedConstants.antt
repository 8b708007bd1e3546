-- The constants stand at the places of their words.
use Rattle.std.proofs.Common.{◌≡◌, map, refl}
use Rattle.gh_base.specs.Fixed.{fixed_texts}
use Rattle.gh_base.specs.FixedNames.{fixed_names, ConstantsNameTheirWords}
use Rattle.gh_base.specs.Ids.{text_in}

words_at : map (λ p. text_in fixed_texts p.0) fixed_names ≡ map (λ p. p.1) fixed_names
unfolding fixed_texts fixed_names
words_at = refl

all_words : map (λ p. p.1) fixed_names ≡ fixed_texts
unfolding fixed_texts fixed_names
all_words = refl

pub constants_hold : ConstantsNameTheirWords
constants_hold = record { words = words_at; all = all_words }
