use Rattle.std.proofs.Common.{◌≡◌, drop}
use Rattle.gh_tree_form.specs.Form as spec
use Rattle.gh_tree_form.proofs.operand.operands_from.Given as goal

abbrev pub invariant-loop-next : goal.invariant-loop-next
invariant-loop-next l = spec.operands_from l.fn.known l.fn.others ≡ spec.operands_from l.known (drop l.next-index l.fn.others)
