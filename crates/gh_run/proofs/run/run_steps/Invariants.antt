use Rattle.std.proofs.Common.{◌≡◌, ◌≤◌, ◌-◌}
use Rattle.gh_core.specs.Reduce.{running}
use Rattle.gh_core.specs.Run.{program_of}
use Rattle.gh_run.proofs.Runs.{IsMade}
use Rattle.gh_run.proofs.run.run_steps.Given as goal

abbrev pub invariant-loop-left : goal.invariant-loop-left
invariant-loop-left g l = record {
  made : IsMade (program_of l.initial.machine.program) l.initial.machine.state l.machine.state (l.steps - l.left) (g.O.Out.written l.initial.out) (g.O.Out.written l.out);
  running : l.machine.state.status ≡ running;
  program : l.machine.program ≡ l.initial.machine.program;
  within : l.left ≤ l.steps;
  later : g.O.Out.faults l.initial.out ≤ g.O.Out.faults l.out;
}

abbrev pub decreases-loop-left : goal.decreases-loop-left
decreases-loop-left g l = l.left
