use Rattle.std.proofs.Common.{◌≡◌, ◌++◌, map, take}
use Rattle.gh_modules.specs.Summaries.{value}
use Rattle.gh_modules.proofs.defined.add_values.Given as goal

abbrev pub invariant-loop-name : goal.invariant-loop-name
invariant-loop-name l = l.list ≡ l.initial.list ++ map value (take l.name-index l.names)
