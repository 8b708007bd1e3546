use Rattle.std.proofs.Common.{◌≡◌, true}
use Rattle.gh_fixity.specs.Arrangement.{is_list}
use Rattle.tests_core.proofs.fixity.list_of.Given as goal

abbrev pub invariant-loop-fixity : goal.invariant-loop-fixity
invariant-loop-fixity l = is_list l.items ≡ true
