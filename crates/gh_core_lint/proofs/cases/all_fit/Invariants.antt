use Rattle.std.proofs.Common.{map, take, None}
use Rattle.gh_core.specs.Typing.{branches_of}
use Rattle.gh_core_lint.specs.Branches.{alt_code}
use Rattle.gh_core_lint.specs.Faults.{AllFit}
use Rattle.gh_core_lint.specs.Programs.{program_of}
use Rattle.gh_core_lint.specs.Types.{type_at}
use Rattle.gh_core_lint.proofs.cases.all_fit.Given as goal

abbrev pub invariant-loop-alternative : goal.invariant-loop-alternative
invariant-loop-alternative l = AllFit (program_of l.known) (type_at l.scrutinee) (branches_of (map alt_code (take l.alternative-index l.alternatives)) None)
