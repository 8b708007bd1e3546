use Rattle.std.proofs.Common.{ap, ◌∙◌}
use Rattle.gh_core.specs.Typing.{code_of}
use Rattle.gh_adapt.proofs.PairSteps.{param_more}
use Rattle.gh_adapt.proofs.params.params.Goals as goal

pub loop-i-preserved : goal.loop-i-preserved
loop-i-preserved c =
    param_more c.loop-i.i c.in_ok-number.field-0 c.loop-i.made c.push.new.self c.into_inner.result c.in_ok-number.ensures (ap code_of c.into_inner.ensures ∙ c.in_ok-variable.ensures)
    c.in_ok-push.ensures.ok c.loop-i.invariant
