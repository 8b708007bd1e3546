use Rattle.std.proofs.Common.{ap, ◌∙◌, arith, ◌+◌, ◌-◌}
use Rattle.gh_core.specs.Typing.{type_of}
use Rattle.gh_core.specs.declared.types.CoreType.TheVariants as t
use Rattle.gh_kind_index.proofs.Steps.{binder_before}
use Rattle.gh_kind_index.proofs.binders.quantified.Goals as goal

pub loop-i-preserved : goal.loop-i-preserved
loop-i-preserved c =
    λ m e. ap type_of c.in_ok-made.ensures ∙ ap (λ k. type_of (t.Forall (c.args.level + (c.loop-i.i - 1)) k c.loop-i.made)) c.in_ok-kind.ensures
    ∙ binder_before c.args.kind.now c.args.level c.loop-i.i c.args.count (type_of c.args.body) c.loop-i.made (omega arith) (omega arith) c.loop-i.invariant m e
