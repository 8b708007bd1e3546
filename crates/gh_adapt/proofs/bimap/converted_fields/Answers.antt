use Rattle.std.proofs.Common.{map, ◌∙◌}
use Rattle.gh_core.specs.Typing.{code_of, type_of}
use Rattle.gh_adapt.proofs.PairSteps.{one_converted}
use Rattle.gh_adapt.proofs.bimap.converted_fields.Goals as goal

pub loop-i-preserved : goal.loop-i-preserved
loop-i-preserved c =
    one_converted c.args.way (map type_of c.args.left.now) (map type_of c.args.right.now) (map code_of c.args.pairs.now) c.args.fields.now c.args.count c.loop-i.i c.in_ok-x.x
    c.index-fields-i.result (code_of c.loop-i.made) _ (code_of c.in_ok-field.field) c.loop-i-test.true c.index-fields-i.is c.in_ok-x.ensures c.in_ok-field.ensures c.in_ok-made.ensures
    ∙ c.loop-i.invariant
