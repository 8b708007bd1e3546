use Rattle.std.proofs.Common.{◌≡◌, ◌≤◌, min, map, drop}
use Rattle.gh_limits.specs.Limits.{fields_at}
use Rattle.gh_limits.specs.Places.{first_place}
use Rattle.gh_limits.proofs.tops.next_constrs_place.Given as goal

abbrev pub invariant-loop-next : goal.invariant-loop-next
invariant-loop-next l = (first_place (map fields_at l.constrs) ≡ min l.best (first_place (map fields_at (drop l.next-index l.constrs)))) × (l.best ≤ 7)
