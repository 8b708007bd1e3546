use Rattle.std.proofs.Common.{◌≡◌, ◌++◌, map, drop}
use Rattle.gh_declarations.specs.Tops.{item_at, case_failures}
use Rattle.gh_declarations.proofs.cases.add_next_cases.Given as goal

abbrev pub invariant-loop-next : goal.invariant-loop-next
invariant-loop-next l = l.failures ++ case_failures l.first (map item_at (drop l.next-index l.items)) ≡ l.initial.failures ++ case_failures l.initial.first (map item_at l.items)
