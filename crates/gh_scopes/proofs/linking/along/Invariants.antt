use Rattle.std.proofs.Common.{◌≡◌, Ok, drop}
use Rattle.gh_scopes.specs.Linking.{along}
use Rattle.gh_scopes.proofs.linking.along.Given as goal

abbrev pub invariant-loop-file : goal.invariant-loop-file
invariant-loop-file l = along l.owners.summaries.now (Ok l.initial.progress) l.order ≡ along l.owners.summaries.now (Ok l.progress) (drop l.file-index l.order)
