use Rattle.std.proofs.Common.{◌≡◌, map, drop}
use Rattle.gh_limits.specs.Limits.{first_passed, item_at}
use Rattle.gh_limits.proofs.first.first_passed.Given as goal

abbrev pub invariant-loop-i : goal.invariant-loop-i
invariant-loop-i l = first_passed l.initial.before (map item_at l.items) ≡ first_passed l.before (map item_at (drop l.i l.items))
