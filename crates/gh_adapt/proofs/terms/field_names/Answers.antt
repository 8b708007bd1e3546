use Rattle.gh_adapt.proofs.Steps.{names_more}
use Rattle.gh_adapt.proofs.terms.field_names.Goals as goal

pub loop-i-preserved : goal.loop-i-preserved
loop-i-preserved c = names_more c.args.before c.loop-i.i c.in_ok-place.field-0 c.loop-i.names c.push.new.self c.in_ok-place.ensures c.in_ok-push.ensures.ok c.loop-i.invariant
