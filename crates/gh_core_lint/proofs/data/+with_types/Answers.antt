use Rattle.std.proofs.Common.{◌≡◌, sym, ap, ◌∙◌, map}
use Rattle.std.specs.Prelude.{reverse}
use Rattle.gh_core.specs.Typing.{at_types}
use Rattle.gh_core_lint.specs.Types.{type_at}
use Rattle.gh_core_lint.proofs.Lists.{with_found, with_past}
use Rattle.gh_core_lint.proofs.Results.{ok_more}
use Rattle.gh_core_lint.proofs.data.+with_types.Goals as goal

pub returns-then-index-args : goal.returns-then-index-args
returns-then-index-args t c =
    let args = c.args.args.now in
    let ty = c.args.ty.now in
    ok_more c.share.result (λ made. made ≡ c.index-args-args.result) (λ made. type_at made ≡ at_types (reverse (map type_at args)) (type_at ty))
    (λ made e. with_found args c.in-Bound.index ty made c.index-args-args.result (sym c.get.ensures ∙ c.in-Bound.is) c.if-index-args.true (e ∙ c.index-args-args.is))
    c.share.ensures

pub returns-else-index-args : goal.returns-else-index-args
returns-else-index-args t c =
    let args = c.args.args.now in
    let ty = c.args.ty.now in
    ok_more c.share-else-index-args.result (λ made. made ≡ ty) (λ made. type_at made ≡ at_types (reverse (map type_at args)) (type_at ty))
    (λ made e. ap type_at e ∙ with_past args c.in-Bound.index ty (sym c.get.ensures ∙ c.in-Bound.is) c.if-index-args.false)
    c.share-else-index-args.ensures
