use Rattle.std.proofs.Common.{suc, ◌+◌, ◌∙◌, sym, arith}
use Rattle.gh_match.proofs.Lists.{push_numbers, append_none}
use Rattle.gh_match.proofs.tests.numbers.Goals as goal

pub loop-at-preserved : goal.loop-at-preserved
loop-at-preserved c =
    λ n e.
    push_numbers c.args.from c.loop-at.at n c.loop-at.made c.push.new.self c.in_ok-sum.field-0 c.in_ok-push.ensures.ok c.in_ok-sum.ensures
    ∙ c.loop-at.invariant (suc n) (omega (arith, e))

pub returns : goal.returns
returns c = sym (append_none c.loop-at.made (c.args.from + c.loop-at.at)) ∙ c.loop-at.invariant 0 (omega arith)
