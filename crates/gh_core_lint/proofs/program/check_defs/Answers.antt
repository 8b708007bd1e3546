use Rattle.std.proofs.Common.{arith}
use Rattle.gh_core_lint.specs.Programs.{program_of}
use Rattle.gh_core_lint.proofs.Reported.{def_reported, defs_more}
use Rattle.gh_core_lint.proofs.program.check_defs.Goals as goal

pub returns-in-Err-clause-err : goal.returns-in-Err-clause-err
returns-in-Err-clause-err c = λ main.
    def_reported (program_of c.args.known.now) c.args.defs.now c.loop-place.place c.index-defs-place.result main c.in-Err.stop c.report.result (omega arith)
    c.index-defs-place.is c.loop-place.invariant c.in-Err.ensures.err c.report.ensures

pub loop-place-preserved : goal.loop-place-preserved
loop-place-preserved c =
    defs_more (program_of c.args.known.now) c.args.defs.now c.loop-place.place c.index-defs-place.result (omega arith) c.index-defs-place.is
    c.loop-place.invariant c.in-Ok.ensures.ok
