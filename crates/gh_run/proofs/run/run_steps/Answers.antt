use Rattle.std.proofs.Common.{◌≡◌, ◌-◌, ℕ, arith, refl, sym, ap, ◌∙◌, subst}
use Rattle.gh_core.specs.Run.{program_of}
use Rattle.gh_machine.specs.Values.{status_of}
use Rattle.gh_run.proofs.Runs.{IsMade, made_none, piece_made, piece_front, over_status, over_put, ended_over, failed_over}
use Rattle.gh_run.proofs.run.run_steps.Goals as goal

pub loop-left-init : goal.loop-left-init
loop-left-init g c =
    let none : 0 ≡ c.args.steps - c.args.steps = omega arith in
    let P : ℕ → Type 0 = λ n. IsMade (program_of c.args.machine.now.program) c.args.machine.now.state c.args.machine.now.state n (g.O.Out.written c.args.out.now) (g.O.Out.written c.args.out.now) in
    record {
      made = subst P none (made_none (program_of c.args.machine.now.program) c.args.machine.now.state (g.O.Out.written c.args.out.now) c.requires.clear);
      running = c.requires.running;
      program = refl;
      within = omega arith;
      later = omega arith;
    }

pub returns-in-Err-clause-err : goal.returns-in-Err-clause-err
returns-in-Err-clause-err g c =
    piece_front c.args.machine.now.program c.loop-left.machine.program c.loop-left.invariant.program c.args.machine.now.state c.loop-left.machine.state
    c.args.steps c.loop-left.left c.min-count.result c.loop-left.invariant.within (omega (arith, c.min-count.ensures))
    (g.O.Out.written c.args.out.now) (g.O.Out.written c.loop-left.out) (g.O.Out.written c.run_some.new.out) c.loop-left.invariant.made c.in-Err.ensures.err

pub loop-left-preserved : goal.loop-left-preserved
loop-left-preserved g c = record {
  made = piece_made c.args.machine.now.program c.loop-left.machine.program c.loop-left.invariant.program c.args.machine.now.state c.loop-left.machine.state
      c.args.steps c.loop-left.left c.min-count.result c.loop-left.invariant.within (omega (arith, c.min-count.ensures))
      (g.O.Out.written c.args.out.now) (g.O.Out.written c.loop-left.out) (g.O.Out.written c.run_some.new.out) c.loop-left.invariant.made
      c.run_some.new.machine.state c.in-Ok.ensures.after c.in-Ok.ensures.ok;
  running = sym c.in-Ok.ensures.turn ∙ ap status_of c.in-Running.is;
  program = c.run_some.ensures.program ∙ c.loop-left.invariant.program;
  within = omega (arith, c.loop-left.invariant.within);
  later = omega (arith, c.run_some.ensures.later, c.loop-left.invariant.later);
}

pub returns-in-Ended-clause-stands : goal.returns-in-Ended-clause-stands
returns-in-Ended-clause-stands g c =
    over_status c.args.machine.now.program c.args.machine.now.state c.run_some.new.machine.state (c.args.steps - (c.loop-left.left - c.min-count.result)) c.args.steps
    (g.O.Out.written c.args.out.now) (g.O.Out.written c.run_some.new.out)
    (piece_made c.args.machine.now.program c.loop-left.machine.program c.loop-left.invariant.program c.args.machine.now.state c.loop-left.machine.state
    c.args.steps c.loop-left.left c.min-count.result c.loop-left.invariant.within (omega (arith, c.min-count.ensures))
    (g.O.Out.written c.args.out.now) (g.O.Out.written c.loop-left.out) (g.O.Out.written c.run_some.new.out) c.loop-left.invariant.made
    c.run_some.new.machine.state c.in-Ok.ensures.after c.in-Ok.ensures.ok)
    (status_of c.in-Ok.turn) (λ h. ended_over (sym (ap status_of c.in-Ended.is) ∙ h)) c.in-Ok.ensures.turn (omega arith)

pub returns-in-Ended-clause-ok : goal.returns-in-Ended-clause-ok
returns-in-Ended-clause-ok g c =
    over_put c.args.machine.now.program c.args.machine.now.state c.run_some.new.machine.state (c.args.steps - (c.loop-left.left - c.min-count.result)) c.args.steps
    (g.O.Out.written c.args.out.now) (g.O.Out.written c.run_some.new.out)
    (piece_made c.args.machine.now.program c.loop-left.machine.program c.loop-left.invariant.program c.args.machine.now.state c.loop-left.machine.state
    c.args.steps c.loop-left.left c.min-count.result c.loop-left.invariant.within (omega (arith, c.min-count.ensures))
    (g.O.Out.written c.args.out.now) (g.O.Out.written c.loop-left.out) (g.O.Out.written c.run_some.new.out) c.loop-left.invariant.made
    c.run_some.new.machine.state c.in-Ok.ensures.after c.in-Ok.ensures.ok)
    (status_of c.in-Ok.turn) (λ h. ended_over (sym (ap status_of c.in-Ended.is) ∙ h)) c.in-Ok.ensures.turn (omega arith)

pub returns-in-Failed-clause-stands : goal.returns-in-Failed-clause-stands
returns-in-Failed-clause-stands g c =
    over_status c.args.machine.now.program c.args.machine.now.state c.run_some.new.machine.state (c.args.steps - (c.loop-left.left - c.min-count.result)) c.args.steps
    (g.O.Out.written c.args.out.now) (g.O.Out.written c.run_some.new.out)
    (piece_made c.args.machine.now.program c.loop-left.machine.program c.loop-left.invariant.program c.args.machine.now.state c.loop-left.machine.state
    c.args.steps c.loop-left.left c.min-count.result c.loop-left.invariant.within (omega (arith, c.min-count.ensures))
    (g.O.Out.written c.args.out.now) (g.O.Out.written c.loop-left.out) (g.O.Out.written c.run_some.new.out) c.loop-left.invariant.made
    c.run_some.new.machine.state c.in-Ok.ensures.after c.in-Ok.ensures.ok)
    (status_of c.in-Ok.turn) (λ h. failed_over _ _ (sym (ap status_of c.in-Failed.is) ∙ h)) c.in-Ok.ensures.turn (omega arith)

pub returns-in-Failed-clause-ok : goal.returns-in-Failed-clause-ok
returns-in-Failed-clause-ok g c =
    over_put c.args.machine.now.program c.args.machine.now.state c.run_some.new.machine.state (c.args.steps - (c.loop-left.left - c.min-count.result)) c.args.steps
    (g.O.Out.written c.args.out.now) (g.O.Out.written c.run_some.new.out)
    (piece_made c.args.machine.now.program c.loop-left.machine.program c.loop-left.invariant.program c.args.machine.now.state c.loop-left.machine.state
    c.args.steps c.loop-left.left c.min-count.result c.loop-left.invariant.within (omega (arith, c.min-count.ensures))
    (g.O.Out.written c.args.out.now) (g.O.Out.written c.loop-left.out) (g.O.Out.written c.run_some.new.out) c.loop-left.invariant.made
    c.run_some.new.machine.state c.in-Ok.ensures.after c.in-Ok.ensures.ok)
    (status_of c.in-Ok.turn) (λ h. failed_over _ _ (sym (ap status_of c.in-Failed.is) ∙ h)) c.in-Ok.ensures.turn (omega arith)
