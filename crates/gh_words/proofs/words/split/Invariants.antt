use Rattle.std.proofs.Common.{◌≡◌, drop, false}
use Rattle.gh_words.specs.Words.{split_of}
use Rattle.gh_words.proofs.Splits.{after_split}
use Rattle.gh_words.proofs.words.split.Given as goal

abbrev pub invariant-loop-at : goal.invariant-loop-at
invariant-loop-at l = split_of false l.words ≡ after_split l.steps l.positionals (split_of l.wants_value (drop l.at l.words))
