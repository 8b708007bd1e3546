use Rattle.std.proofs.Common.{◌≡◌, take}
use Rattle.gh_scopes.specs.Exports.{with_items, nothing}
use Rattle.gh_scopes.proofs.exports.with_items.Given as goal

abbrev pub invariant-loop-one : goal.invariant-loop-one
invariant-loop-one l = l.given ≡ with_items l.owners.summaries.now l.qualifiers.summary.now l.modules.once.now nothing (take l.one-index l.listed)
