use Rattle.std.proofs.Common.{map, ap, sym, ◌∙◌, arith}
use Rattle.gh_core.specs.Typing.{a_var, type_of}
use Rattle.gh_adapt.proofs.Steps.{last_field}
use Rattle.gh_adapt.proofs.into.product.Goals as goal

pub loop-at-init : goal.loop-at-init
loop-at-init c = c.in_ok-made.ensures ∙ ap a_var c.in_ok-number.ensures ∙ sym (last_field (map type_of c.args.arguments.now) c.args.fields.now (omega arith))
