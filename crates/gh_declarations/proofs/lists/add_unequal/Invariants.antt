use Rattle.std.proofs.Common.{◌≡◌, ◌++◌, None, drop}
use Rattle.gh_declarations.specs.Lists.{unequal_behind}
use Rattle.gh_declarations.proofs.lists.add_unequal.Given as goal

abbrev pub invariant-loop-one : goal.invariant-loop-one
invariant-loop-one l = l.failures ++ unequal_behind l.first (drop l.one-index l.declared) ≡ l.initial.failures ++ unequal_behind None l.declared
