use Rattle.gh_machine.proofs.Runs.{IsRun}
use Rattle.gh_machine.proofs.parts.Parts.steps.Given as goal

abbrev pub invariant-loop : goal.invariant-loop
invariant-loop l = IsRun l.counter l.initial.self l.self
