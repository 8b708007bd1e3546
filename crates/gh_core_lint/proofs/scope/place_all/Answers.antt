use Rattle.std.proofs.Common.{ap, sym, ◌∙◌, ◌++◌, ◌∷◌, [], map, arith}
use Rattle.std.proofs.lemmas.List.{map-append}
use Rattle.gh_core_lint.specs.Types.{type_at}
use Rattle.gh_core_lint.proofs.Bound.{written_more}
use Rattle.gh_core_lint.proofs.scope.place_all.Goals as goal

pub loop-ty-preserved : goal.loop-ty-preserved
loop-ty-preserved c =
    ap (map type_at) c.in_ok-push.ensures.ok ∙ map-append type_at c.loop-ty.types (c.in_ok-place.field-0 ∷ [])
    ∙ (λ j. c.loop-ty.invariant j ++ c.in_ok-place.ensures j ∷ [])
    ∙ sym (written_more c.args.kinds.now c.args.bindings.now c.loop-ty.ty-index c.loop-ty-item.result (omega arith) c.loop-ty-item.is)
