use Rattle.std.proofs.Common.{sym, ap, ◌∙◌, arith}
use Rattle.gh_scopes.specs.Graph.{first_some}
use Rattle.gh_scopes.specs.Imports.{import_fault, imports_fault}
use Rattle.gh_scopes.proofs.Lists.{first_more, first_here}
use Rattle.gh_scopes.proofs.imports.imports_fault.Goals as goal

pub returns-in-Some : goal.returns-in-Some
unfolding imports_fault
returns-in-Some c =
    let f = import_fault c.args.owners.now.summaries.now c.args.exports.now in
    first_here f c.as_slice-imports.result.now c.loop-import.import-index c.import-item.result c.in-Some.refusal _ (omega arith) c.import-item.is c.loop-import.invariant
    (sym c.import_fault.ensures ∙ c.in-Some.is)
    ∙ ap (first_some f) c.as_slice-imports.ensures

pub loop-import-preserved : goal.loop-import-preserved
loop-import-preserved c =
    let f = import_fault c.args.owners.now.summaries.now c.args.exports.now in
    first_more f c.as_slice-imports.result.now c.loop-import.import-index c.import-item.result _ (omega arith) c.import-item.is c.loop-import.invariant
    (sym c.import_fault.ensures ∙ c.in_default.is)
