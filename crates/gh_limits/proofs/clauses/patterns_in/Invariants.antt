use Rattle.std.proofs.Common.{◌≡◌, ◌≤◌, ◌+◌, min, map, drop}
use Rattle.gh_limits.specs.Inside.{sum_of, patterns_at}
use Rattle.gh_limits.proofs.clauses.patterns_in.Given as goal

abbrev pub invariant-loop-item : goal.invariant-loop-item
invariant-loop-item l = (min 65 (l.count + sum_of (map patterns_at (drop l.item-index l.decls))) ≡ min 65 (sum_of (map patterns_at l.decls))) × (l.count ≤ 65)
