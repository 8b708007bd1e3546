use Rattle.std.proofs.Common.{◌≡◌, drop}
use Rattle.gh_core.specs.Typing.{code_of}
use Rattle.gh_match.specs.Compiled.{nested_code}
use Rattle.gh_match.proofs.row.groups.Given as goal

abbrev pub invariant-loop-at : goal.invariant-loop-at
invariant-loop-at l = code_of l.made ≡ nested_code (drop l.at l.groups) (code_of l.initial.made)
