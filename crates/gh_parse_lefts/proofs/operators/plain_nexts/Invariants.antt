use Rattle.std.proofs.Common.{◌≡◌, drop}
use Rattle.gh_tree.specs.Print as printed
use Rattle.gh_parse_lefts.proofs.operators.plain_nexts.Given as goal

abbrev pub invariant-loop-next : goal.invariant-loop-next
invariant-loop-next l = printed.plain_nexts l.nexts ≡ printed.plain_nexts (drop l.next-index l.nexts)
