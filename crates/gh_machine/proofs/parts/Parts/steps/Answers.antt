use Rattle.std.proofs.Common.{◌+◌, ap, arith}
use Rattle.gh_machine.specs.Sound.{program_in, state_of}
use Rattle.gh_machine.specs.Values.{status_of, cause_of}
use Rattle.gh_machine.proofs.Runs.{run_none, run_more, less_room, grown_less, names_less, run_over, stays_ended, stays_failed}
use Rattle.gh_machine.proofs.parts.Parts.steps.Goals as goal

pub loop-init : goal.loop-init
loop-init c = run_none c.args.self.now c.requires.held

pub step-requires-clause-room : goal.step-requires-clause-room
step-requires-clause-room c = c.loop.invariant.room 1 (less_room c.args.k (c.loop.counter + 1) c.args.self.now (omega arith) c.requires.room)

pub returns-in-Ended-clause-state : goal.returns-in-Ended-clause-state
returns-in-Ended-clause-state c =
    run_over c.loop.counter c.args.k c.args.self.now c.loop.self c.loop.invariant (omega arith) (λ m. stays_ended (program_in c.args.self.now) m (state_of c.loop.self) (ap status_of c.in-Ended.is))

pub returns-in-Ended-clause-room : goal.returns-in-Ended-clause-room
returns-in-Ended-clause-room c = λ n h. c.loop.invariant.room n (less_room (c.args.k + n) (c.loop.counter + n) c.args.self.now (omega arith) h)

pub returns-in-Failed-clause-state : goal.returns-in-Failed-clause-state
returns-in-Failed-clause-state c =
    run_over c.loop.counter c.args.k c.args.self.now c.loop.self c.loop.invariant (omega arith) (λ m. stays_failed (program_in c.args.self.now) m (state_of c.loop.self) (cause_of c.in-Failed.field-0.cause) c.in-Failed.field-0.span (ap status_of c.in-Failed.is))

pub returns-in-Failed-clause-room : goal.returns-in-Failed-clause-room
returns-in-Failed-clause-room c = λ n h. c.loop.invariant.room n (less_room (c.args.k + n) (c.loop.counter + n) c.args.self.now (omega arith) h)

pub returns-in-Ended-clause-grows : goal.returns-in-Ended-clause-grows
returns-in-Ended-clause-grows c = grown_less c.loop.counter c.args.k c.args.self.now c.loop.self (omega arith) c.loop.invariant.grows

pub returns-in-Failed-clause-grows : goal.returns-in-Failed-clause-grows
returns-in-Failed-clause-grows c = grown_less c.loop.counter c.args.k c.args.self.now c.loop.self (omega arith) c.loop.invariant.grows

pub loop-preserved : goal.loop-preserved
loop-preserved c = run_more c.loop.counter c.args.self.now c.loop.self c.step.new.self c.loop.invariant c.step.ensures

pub returns-clause-room : goal.returns-clause-room
returns-clause-room c = λ n h. c.loop.invariant.room n (less_room (c.args.k + n) (c.loop.counter + n) c.args.self.now (omega arith) h)

pub returns-in-Ended-clause-names : goal.returns-in-Ended-clause-names
returns-in-Ended-clause-names c = names_less c.loop.counter c.args.k c.args.self.now c.loop.self (omega arith) c.loop.invariant

pub returns-in-Failed-clause-names : goal.returns-in-Failed-clause-names
returns-in-Failed-clause-names c = names_less c.loop.counter c.args.k c.args.self.now c.loop.self (omega arith) c.loop.invariant
