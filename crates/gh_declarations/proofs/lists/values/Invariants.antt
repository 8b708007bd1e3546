use Rattle.std.proofs.Common.{◌≡◌, ◌++◌, drop}
use Rattle.gh_declarations.specs.Lists.{values, values_behind}
use Rattle.gh_declarations.proofs.lists.values.Given as goal

abbrev pub invariant-loop-one : goal.invariant-loop-one
invariant-loop-one l = l.list ++ values_behind l.first (drop l.one-index l.declared) ≡ values l.declared
