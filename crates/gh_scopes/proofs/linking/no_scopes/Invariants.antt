use Rattle.std.proofs.Common.{◌≡◌, replicate}
use Rattle.gh_scopes.specs.Linking.{no_scope}
use Rattle.gh_scopes.proofs.linking.no_scopes.Given as goal

abbrev pub invariant-loop-turn : goal.invariant-loop-turn
invariant-loop-turn l = l.scopes ≡ replicate l.turn no_scope
