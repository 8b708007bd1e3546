use Rattle.std.proofs.Common.{◌≡◌, [], Ok, take}
use Rattle.gh_scopes.specs.Exports.{added}
use Rattle.gh_scopes.proofs.exports.added.Given as goal

abbrev pub invariant-loop-origin : goal.invariant-loop-origin
invariant-loop-origin l = added l.exported (Ok []) (take l.origin-index l.origins) ≡ Ok l.new
