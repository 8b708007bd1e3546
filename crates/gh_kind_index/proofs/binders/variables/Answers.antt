use Rattle.std.proofs.Common.{ap, ◌∙◌, map}
use Rattle.gh_core.specs.Typing.{type_of}
use Rattle.gh_kind_index.proofs.Steps.{variables_more}
use Rattle.gh_kind_index.proofs.binders.variables.Goals as goal

pub loop-i-preserved : goal.loop-i-preserved
loop-i-preserved c = ap (map type_of) c.in_ok-push.ensures.ok ∙ variables_more c.args.level c.loop-i.i c.loop-i.made c.loop-i.invariant
