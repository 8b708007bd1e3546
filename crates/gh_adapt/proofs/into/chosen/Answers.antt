use Rattle.std.proofs.Common.{map}
use Rattle.gh_core.specs.Typing.{code_of, type_of}
use Rattle.gh_adapt.proofs.Steps.{last_layer}
use Rattle.gh_adapt.proofs.into.chosen.Goals as goal

pub returns-then-index-layers : goal.returns-then-index-layers
returns-then-index-layers c = last_layer (map type_of c.args.arguments.now) c.args.layers.now c.args.index (code_of c.args.layer) c.if-index-layers.true
