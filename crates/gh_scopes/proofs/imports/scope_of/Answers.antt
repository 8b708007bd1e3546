use Rattle.std.proofs.Common.{◌≡◌, IfOk, subst, ◌∙◌}
use Rattle.std.specs.List.{flat_map}
use Rattle.gh_scopes.specs.Found.{with_entries}
use Rattle.gh_scopes.specs.Imports.{scope_of, own_given, import_gives}
use Rattle.gh_scopes.proofs.Entered.{both_up}
use Rattle.gh_scopes.proofs.imports.scope_of.Goals as goal

pub returns : goal.returns
unfolding scope_of
returns c =
    let f = import_gives c.args.owners.now.summaries.now c.args.exports.now in
    let own = own_given c.args.summary.now.name in
    both_up c.with_imports.result c.in_ok-it.it (flat_map own c.args.summary.now.definitions) (flat_map f c.args.summary.now.imports)
    (subst (λ l. IfOk c.with_imports.result (λ x. x ≡ with_entries c.in_ok-it.it (flat_map f l))) c.as_slice-2.ensures c.with_imports.ensures)
    (c.in_ok-it.ensures ∙ (λ j. with_entries (c.new.ensures j) (flat_map own (c.as_slice.ensures j))))
