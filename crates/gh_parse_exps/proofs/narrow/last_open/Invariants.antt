use Rattle.std.proofs.Common.{◌≡◌, map, drop}
use Rattle.gh_tree.specs.Print as printed
use Rattle.gh_parse_exps.proofs.narrow.last_open.Given as goal

abbrev pub invariant-loop-i : goal.invariant-loop-i
invariant-loop-i l = printed.last_open l.fn.was (map printed.next_operand l.fn.others) ≡ printed.last_open l.last (map printed.next_operand (drop l.i l.fn.others))
