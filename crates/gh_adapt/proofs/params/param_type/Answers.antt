use Rattle.std.proofs.Common.{ap, ◌∙◌}
use Rattle.gh_core.specs.Typing.{type_of}
use Rattle.gh_kind_index.specs.KindIndex.{kind_type}
use Rattle.gh_adapt.proofs.params.param_type.Goals as goal

pub returns : goal.returns
returns c =
    ap type_of c.in_ok-new.ensures ∙ c.in_ok-made.ensures
    ∙ (λ i. kind_type (c.in_ok-functions.ensures i) (c.in_ok-function.ensures i) c.args.kind.now (c.in_ok-types.ensures i))
