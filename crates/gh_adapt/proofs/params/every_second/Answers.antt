use Rattle.gh_adapt.proofs.PairSteps.{second_more}
use Rattle.gh_adapt.proofs.params.every_second.Goals as goal

pub loop-i-preserved : goal.loop-i-preserved
loop-i-preserved c =
    second_more c.args.from c.loop-i.i c.in_ok-second.field-0 c.loop-i.made c.push.new.self c.type_variable.result c.in_ok-second.ensures c.type_variable.ensures
    c.in_ok-push.ensures.ok c.loop-i.invariant
