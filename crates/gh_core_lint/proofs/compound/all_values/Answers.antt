use Rattle.std.proofs.Common.{[], sym, subst, arith}
use Rattle.gh_typeterm.specs.declared.kind.Kind.TheVariants as kind
use Rattle.gh_core.specs.Typing.{HasKind}
use Rattle.gh_core_lint.specs.declared.types.Node.{Node}
use Rattle.gh_core_lint.specs.Types.{type_at}
use Rattle.gh_core_lint.proofs.Composed.{star_one, stars_more}
use Rattle.gh_core_lint.proofs.Nodes.{never}
use Rattle.gh_core_lint.proofs.compound.all_values.Goals as goal

pub returns-then-not-branch : goal.returns-then-not-branch
returns-then-not-branch c =
    let decls = c.args.known.now.decls.now in
    let ks = c.args.kinds.now in
    never (λ w. let yes = c.in_ok-is_value_type.ensures.1 (subst (λ (t : Node). HasKind decls ks [] (type_at t) kind.Star) (sym c.index-types-place.is)
    (star_one decls ks c.args.types.now c.loop-place.place c.index-types-place.result (omega arith) w)) in
    let no = c.if-not-branch.true in absurd (cc))

pub loop-place-preserved : goal.loop-place-preserved
loop-place-preserved c =
    stars_more c.args.known.now.decls.now c.args.kinds.now c.args.types.now c.loop-place.place c.index-types-place.result (omega arith) c.index-types-place.is
    c.loop-place.invariant (c.in_ok-is_value_type.ensures.0 (let yes = c.if-not-branch.false in cc))
