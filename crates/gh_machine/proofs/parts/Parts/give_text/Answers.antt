use Rattle.std.proofs.Common.{◌≤◌, length, sym, subst}
use Rattle.gh_machine.specs.Stacks.{AreWithin, env_of_frame}
use Rattle.gh_machine.proofs.parts.Parts.give_text.Goals as goal

pub choose_pair-requires-clause-within : goal.choose_pair-requires-clause-within
choose_pair-requires-clause-within c =
    let n = length c.args.self.now.cells.items in
    subst (λ f. env_of_frame f ≤ n) c.in-Some-OfCase.field-0-is (c.in-Some-OfCase.ensures.within n (subst (AreWithin n) (sym c.deref.ensures.value) c.requires.held.stack))

pub choose_end-requires-clause-within : goal.choose_end-requires-clause-within
choose_end-requires-clause-within c =
    let n = length c.args.self.now.cells.items in
    subst (λ f. env_of_frame f ≤ n) c.in-Some-OfCase.field-0-is (c.in-Some-OfCase.ensures.within n (subst (AreWithin n) (sym c.deref.ensures.value) c.requires.held.stack))
