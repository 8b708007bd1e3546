use Rattle.gh_machine.proofs.machine.Machine.reserve.Goals as goal

pub invariant_of-self : goal.invariant_of-self
invariant_of-self c = (c.reserve.ensures.held, c.reserve.ensures.kept c.self.inside.spare c.self.invariant.1)
