use Rattle.std.proofs.Common.{◌≡◌, ◌++◌, map, take, drop}
use Rattle.gh_declarations.specs.Names.{failure}
use Rattle.gh_declarations.specs.Lists.{second_behind, fail_again}
use Rattle.gh_declarations.proofs.Listed.{Holds}
use Rattle.gh_declarations.proofs.lists.add_second_times.Given as goal

abbrev pub invariant-loop-named : goal.invariant-loop-named
invariant-loop-named l = (l.failures ++ map (failure l.rule) (second_behind (take l.named-index l.list) (drop l.named-index l.list)) ≡ l.initial.failures ++ fail_again l.rule l.list) × Holds l.seen.keys (take l.named-index l.list)
