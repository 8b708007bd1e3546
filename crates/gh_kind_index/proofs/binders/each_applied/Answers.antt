use Rattle.gh_kind_index.proofs.Steps.{applied_more}
use Rattle.gh_kind_index.proofs.binders.each_applied.Goals as goal

pub loop-i-preserved : goal.loop-i-preserved
loop-i-preserved c =
    applied_more c.args.level c.loop-i.i c.args.types.now c.loop-i.made c.push.new.self c.index-types-i.result c.in_ok-applied_to.field-0
    c.loop-i-test.true c.index-types-i.is c.in_ok-applied_to.ensures c.in_ok-push.ensures.ok c.loop-i.invariant
