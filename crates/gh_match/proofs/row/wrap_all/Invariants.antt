use Rattle.std.proofs.Common.{◌≡◌, drop}
use Rattle.gh_core.specs.Typing.{code_of, type_of}
use Rattle.gh_match.specs.Compiled.{all_wrapped}
use Rattle.gh_match.proofs.row.wrap_all.Given as goal

abbrev pub invariant-loop-at : goal.invariant-loop-at
invariant-loop-at l = code_of l.made ≡ all_wrapped (type_of l.answer) l.fail (drop l.at l.tests) (code_of l.initial.made)
