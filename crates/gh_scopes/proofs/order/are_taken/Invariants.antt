use Rattle.std.proofs.Common.{◌≡◌, drop}
use Rattle.std.specs.List.{list_all}
use Rattle.gh_scopes.specs.Order.{taken}
use Rattle.gh_scopes.proofs.order.are_taken.Given as goal

abbrev pub invariant-loop-file : goal.invariant-loop-file
invariant-loop-file l = list_all (taken l.done) l.files ≡ list_all (taken l.done) (drop l.file-index l.files)
