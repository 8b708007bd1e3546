use Rattle.std.proofs.Common.{map}
use Rattle.gh_core.specs.Typing.{type_of}
use Rattle.gh_adapt.proofs.Steps.{one_alternative}
use Rattle.gh_adapt.proofs.into.alternatives.Goals as goal

pub loop-index-preserved : goal.loop-index-preserved
loop-index-preserved c =
    one_alternative (map type_of c.args.arguments.now) c.args.layers.now c.args.constructors.now c.loop-index.index c.index-constructors-index.result c.loop-index.made c.push.new.self c.in_ok-from_alternative.field-0
    c.loop-index-test.true c.index-constructors-index.is c.loop-index.invariant c.in_ok-from_alternative.ensures c.in_ok-push.ensures.ok
