use Rattle.std.proofs.Common.{take}
use Rattle.gh_core.specs.Typing.{DefsTyped}
use Rattle.gh_core_lint.specs.Programs.{program_of}
use Rattle.gh_core_lint.proofs.program.check_defs.Given as goal

abbrev pub invariant-loop-place : goal.invariant-loop-place
invariant-loop-place l = DefsTyped (program_of l.known) (take l.place l.defs)
