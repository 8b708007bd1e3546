use Rattle.std.proofs.Common.{◌≡◌, map, drop}
use Rattle.gh_tree.specs.Print as printed
use Rattle.gh_parse_exps.proofs.narrow.closed_before.Given as goal

abbrev pub invariant-loop-i : goal.invariant-loop-i
invariant-loop-i l = printed.closed_before l.fn.was (map printed.next_operand l.fn.others) ≡ printed.closed_before l.before (map printed.next_operand (drop l.i l.fn.others))
