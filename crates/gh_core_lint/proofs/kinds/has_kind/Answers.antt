use Rattle.gh_core_lint.specs.Kinds.{round}
use Rattle.gh_core_lint.specs.Types.{type_at}
use Rattle.gh_core_lint.proofs.Kinding.{has_by}
use Rattle.gh_core_lint.proofs.kinds.has_kind.Goals as goal

pub returns-in-Some : goal.returns-in-Some
returns-in-Some c =
    has_by c.args.known.now.decls.now c.args.kinds.now (round c.args.inner.now) (type_at c.args.ty.now) c.in_ok-found.field-0 c.in-Some.found c.args.kind.now c.same_kind.result
    c.in_ok-found.ensures c.in-Some.is c.same_kind.ensures
