use Rattle.std.proofs.Common.{◌≡◌, take}
use Rattle.gh_scopes.proofs.linking.numbers.Given as goal

abbrev pub invariant-loop-file : goal.invariant-loop-file
invariant-loop-file l = l.list ≡ take l.file-index l.order
