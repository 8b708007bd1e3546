use Rattle.std.proofs.Common.{◌≡◌, ◌++◌, drop}
use Rattle.gh_core.specs.Text.{numbers_text}
use Rattle.gh_core_text.proofs.terms.add_characters.Given as goal

abbrev pub invariant-loop-char : goal.invariant-loop-char
invariant-loop-char l = l.out ++ numbers_text (drop l.char-index l.chars) ≡ l.initial.out ++ numbers_text l.chars
