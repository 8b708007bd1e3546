use Rattle.std.proofs.Common.{◌≡◌, ◌≤◌, ◌+◌, map, drop}
use Rattle.gh_limits.specs.Limits.{clauses_from, item_at}
use Rattle.gh_limits.proofs.first.clauses_from.Given as goal

abbrev pub invariant-loop-next : goal.invariant-loop-next
invariant-loop-next l = (clauses_from l.first 1 (map item_at l.rest) ≡ clauses_from l.last l.many (map item_at (drop l.next-index l.rest))) × (l.many ≤ l.next-index + 1)
