use Rattle.std.proofs.Common.{◌≡◌, take}
use Rattle.gh_kind_unify.specs.Orders.{singles}
use Rattle.gh_kind_unify.proofs.order.members.Given as goal

abbrev pub invariant-loop-group : goal.invariant-loop-group
invariant-loop-group l = take l.group-index l.groups ≡ singles l.members.items
