use Rattle.std.proofs.Common.{◌≡◌, drop}
use Rattle.gh_core.specs.Typing.{code_of, type_of}
use Rattle.gh_match.specs.Compiled.{bodies_code}
use Rattle.gh_match.proofs.row.bodies.Given as goal

abbrev pub invariant-loop-at : goal.invariant-loop-at
invariant-loop-at l = code_of l.made ≡ bodies_code (type_of l.answer) l.fail (drop l.at l.bodies)
