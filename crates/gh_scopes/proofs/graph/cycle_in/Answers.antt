use Rattle.std.proofs.Common.{length, subst, sym, ap, ◌∙◌, arith}
use Rattle.gh_scopes.specs.Graph.{first_some, cycle_at, cycle_by, back}
use Rattle.gh_scopes.specs.Layers.{AreLayers}
use Rattle.gh_scopes.proofs.Lists.{first_more, first_here}
use Rattle.gh_scopes.proofs.graph.cycle_in.Goals as goal

pub returns-in-Some : goal.returns-in-Some
returns-in-Some c =
    let g = c.args.graph.now in
    let ss = c.args.summaries.now in
    let all = ap length (sym c.as_slice.ensures.value) in
    let way = c.back-walk.ensures g c.args.file (sym c.in_ok-layers.ensures.0 ∙ all) (subst (AreLayers g c.args.file (length g)) (sym c.as_slice.ensures.value) c.in_ok-layers.ensures.1) in
    first_here (cycle_at ss g c.args.file) c.as_slice-imports.result.now c.loop-import.import-index c.import-item.result c.in-Some.refusal _ (omega arith) c.import-item.is c.loop-import.invariant
    (ap (cycle_by ss c.args.file c.import-item.result) (ap (back g c.args.file) (sym c.file_of.ensures) ∙ sym way) ∙ sym c.in_ok-refusal.ensures ∙ c.in-Some.is)
    ∙ ap (first_some (cycle_at ss g c.args.file)) c.as_slice-imports.ensures

pub loop-import-preserved : goal.loop-import-preserved
loop-import-preserved c =
    let g = c.args.graph.now in
    let ss = c.args.summaries.now in
    let all = ap length (sym c.as_slice.ensures.value) in
    let way = c.back-walk.ensures g c.args.file (sym c.in_ok-layers.ensures.0 ∙ all) (subst (AreLayers g c.args.file (length g)) (sym c.as_slice.ensures.value) c.in_ok-layers.ensures.1) in
    first_more (cycle_at ss g c.args.file) c.as_slice-imports.result.now c.loop-import.import-index c.import-item.result _ (omega arith) c.import-item.is c.loop-import.invariant
    (ap (cycle_by ss c.args.file c.import-item.result) (ap (back g c.args.file) (sym c.file_of.ensures) ∙ sym way) ∙ sym c.in_ok-refusal.ensures ∙ c.in_default.is)
