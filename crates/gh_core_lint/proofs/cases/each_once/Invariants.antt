use Rattle.std.proofs.Common.{map, take, None}
use Rattle.gh_core.specs.Typing.{branches_of, EachOnce}
use Rattle.gh_core_lint.specs.Branches.{alt_code}
use Rattle.gh_core_lint.proofs.cases.each_once.Given as goal

abbrev pub invariant-loop-con : goal.invariant-loop-con
invariant-loop-con l = EachOnce (take l.con-index l.cons) (branches_of (map alt_code l.alternatives) None)
