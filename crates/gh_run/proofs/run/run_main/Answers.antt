use Rattle.std.proofs.Common.{OnErr, subst}
use Rattle.gh_core.specs.declared.erased.Erased.{Erased}
use Rattle.gh_core.specs.Run.{core_main}
use Rattle.gh_outside.specs.Outside.{AppendsFront}
use Rattle.gh_run.specs.Core.{core_seen}
use Rattle.gh_run.proofs.run.run_main.Goals as goal

pub returns-clause-err : goal.returns-clause-err
unfolding core_seen
returns-clause-err g c =
    let P : Erased → Type 0 = λ e. OnErr c.run_core.result (AppendsFront (g.O.Out.written c.args.out.now) (core_main e c.args.steps).out (g.O.Out.written c.run_core.new.out)) in
    subst P c.in-Ok.ensures c.run_core.ensures.err
