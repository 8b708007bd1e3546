use Rattle.std.proofs.Common.{◌≤◌, length, sym, subst}
use Rattle.gh_machine.specs.Stacks.{AreWithin, env_of_frame}
use Rattle.gh_machine.specs.Reach.{AreNear, frame_reach}
use Rattle.gh_machine.proofs.parts.Parts.supply.Goals as goal

pub choose_literal-requires-clause-within : goal.choose_literal-requires-clause-within
choose_literal-requires-clause-within c =
    let n = length c.args.self.now.cells.items in
    subst (λ f. env_of_frame f ≤ n) c.in-Some-OfCase.field-0-is (c.in-Some-OfCase.ensures.within n (subst (AreWithin n) (sym c.deref.ensures.value) c.requires.held.stack))

pub wait_without-requires-clause-within : goal.wait_without-requires-clause-within
wait_without-requires-clause-within c =
    let n = length c.args.self.now.cells.items in
    subst (λ f. env_of_frame f ≤ n) c.in-Some-First.field-0-is (c.in-Some-First.ensures.within n (subst (AreWithin n) (sym c.deref.ensures.value) c.requires.held.stack))

pub print-requires-clause-within : goal.print-requires-clause-within
print-requires-clause-within c =
    let n = length c.args.self.now.cells.items in
    subst (λ f. env_of_frame f ≤ n) c.in-Some-Printing.field-0-is (c.in-Some-Printing.ensures.within n (subst (AreWithin n) (sym c.deref.ensures.value) c.requires.held.stack))

pub wait_without-requires-clause-near : goal.wait_without-requires-clause-near
wait_without-requires-clause-near c =
    let n = c.args.self.now.furthest in
    subst (λ f. frame_reach f ≤ n) c.in-Some-First.field-0-is (c.in-Some-First.ensures.near n (subst (AreNear n) (sym c.deref.ensures.value) c.requires.held.reach.stack))

pub print-requires-clause-near : goal.print-requires-clause-near
print-requires-clause-near c =
    let n = c.args.self.now.furthest in
    subst (λ f. frame_reach f ≤ n) c.in-Some-Printing.field-0-is (c.in-Some-Printing.ensures.near n (subst (AreNear n) (sym c.deref.ensures.value) c.requires.held.reach.stack))
