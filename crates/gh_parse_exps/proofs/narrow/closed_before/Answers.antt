use Rattle.std.proofs.Common.{rules, ◌∙◌, sym, drop, arith, length-drop}
use Rattle.gh_parse_exps.proofs.IsOpen.{open_before}
use Rattle.gh_parse_exps.proofs.narrow.closed_before.Goals as goal

pub returns-then-before : goal.returns-then-before
returns-then-before c =
    let size = length-drop c.loop-i.i c.args.others.now in
    sym (c.loop-i.invariant ∙ open_before c.loop-i.before (drop c.loop-i.i c.args.others.now) (search rules) (omega (arith, size, c.loop-i-test.true)))
