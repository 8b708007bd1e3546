use Rattle.std.proofs.Common.{◌+◌, ◌-◌, ◌*◌, ◌≤◌, length, arith, subst, sym}
use Rattle.gh_core.specs.Run.{program_of}
use Rattle.gh_core.specs.Bindings.{names_bound_in}
use Rattle.gh_machine.specs.Codes.{Seen}
use Rattle.gh_machine.specs.Sound.{state_of}
use Rattle.gh_machine.proofs.Runs.{less_room, grown_state}
use Rattle.gh_machine.proofs.machine.Machine.steps.Goals as goal

pub invariant_of-self : goal.invariant_of-self
invariant_of-self c =
    let n = c.self.inside.spare in
    let k = c.args.k in
    let le : k ≤ n = subst (λ (v : Seen). c.args.k ≤ v.spare) (sym c.self.view_is) c.requires in
    (c.steps.ensures.held, c.steps.ensures.room (n - k) (less_room n (k + (n - k)) c.self.inside.parts (omega arith) c.self.invariant.1))

pub returns-clause-cells : goal.returns-clause-cells
returns-clause-cells c =
    let q = c.steps.new.self in
    subst (λ (v : Seen). length q.cells.items + length (state_of q).stack ≤ v.cells + length v.state.stack + 2 * c.args.k) c.self.view_is (grown_state c.args.k c.self.inside.parts q c.steps.ensures.grows).0

pub returns-clause-stack : goal.returns-clause-stack
returns-clause-stack c =
    let q = c.steps.new.self in
    subst (λ (v : Seen). length (state_of q).stack ≤ length v.state.stack + c.args.k) c.self.view_is (grown_state c.args.k c.self.inside.parts q c.steps.ensures.grows).1

pub returns-clause-names : goal.returns-clause-names
returns-clause-names c =
    subst (λ (v : Seen). length c.steps.new.self.cells.items ≤ v.cells + names_bound_in (program_of v.program) c.args.k v.state) c.self.view_is c.steps.ensures.names
