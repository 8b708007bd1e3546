use Rattle.std.proofs.Common.{◌≡◌, ◌++◌, take}
use Rattle.gh_declarations.specs.Lists.{sorted}
use Rattle.gh_declarations.proofs.lists.add_sorted.Given as goal

abbrev pub invariant-loop-one : goal.invariant-loop-one
invariant-loop-one l = l.list ≡ l.initial.list ++ sorted l.sort (take l.one-index l.declared)
