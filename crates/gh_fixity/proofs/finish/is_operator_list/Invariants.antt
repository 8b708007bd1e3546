use Rattle.std.proofs.Common.{◌≡◌, drop}
use Rattle.gh_fixity.specs.Arrangement.{is_list}
use Rattle.gh_fixity.specs.Seen.{goes_from}
use Rattle.gh_fixity.proofs.finish.is_operator_list.Given as goal

abbrev pub invariant-loop-item : goal.invariant-loop-item
invariant-loop-item l = is_list l.items ≡ goes_from l.seen (drop l.item-index l.items)
