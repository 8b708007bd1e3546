use Rattle.std.proofs.Common.{◌≡◌, [], replicate}
use Rattle.gh_scopes.proofs.linking.no_exports.Given as goal

abbrev pub invariant-loop-turn : goal.invariant-loop-turn
invariant-loop-turn l = l.tables ≡ replicate l.turn []
