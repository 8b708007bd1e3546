use Rattle.std.proofs.Common.{length, sym, subst}
use Rattle.gh_machine.specs.Stacks.{AreWithin}
use Rattle.gh_machine.specs.Reach.{AreNear}
use Rattle.gh_machine.proofs.parts.Parts.operate.Goals as goal

pub wait_without-requires-clause-within : goal.wait_without-requires-clause-within
wait_without-requires-clause-within c =
    let n = length c.args.self.now.cells.items in
    c.in-Some-arg_at.ensures.within n (subst (AreWithin n) (sym c.deref.ensures.value) c.requires.held.stack)

pub wait_without-requires-in-Some-arg_at-2-clause-frame : goal.wait_without-requires-in-Some-arg_at-2-clause-frame
wait_without-requires-in-Some-arg_at-2-clause-frame c =
    let n = length c.args.self.now.cells.items in
    c.in-Some-arg_at-2.ensures.within n (subst (AreWithin n) (sym c.deref-in-Binary.ensures.value) c.requires.held.stack)

pub wait_without-requires-in-Some-arg_at-2-clause-within : goal.wait_without-requires-in-Some-arg_at-2-clause-within
wait_without-requires-in-Some-arg_at-2-clause-within c =
    let n = length c.args.self.now.cells.items in
    c.in-Some-arg_at.ensures.within n (subst (AreWithin n) (sym c.deref.ensures.value) c.requires.held.stack)

pub wait_without-requires-clause-near : goal.wait_without-requires-clause-near
wait_without-requires-clause-near c =
    let n = c.args.self.now.furthest in
    c.in-Some-arg_at.ensures.near n (subst (AreNear n) (sym c.deref.ensures.value) c.requires.held.reach.stack)

pub wait_without-requires-in-Some-arg_at-2-clause-near_frame : goal.wait_without-requires-in-Some-arg_at-2-clause-near_frame
wait_without-requires-in-Some-arg_at-2-clause-near_frame c =
    let n = c.args.self.now.furthest in
    c.in-Some-arg_at-2.ensures.near n (subst (AreNear n) (sym c.deref-in-Binary.ensures.value) c.requires.held.reach.stack)

pub wait_without-requires-in-Some-arg_at-2-clause-near : goal.wait_without-requires-in-Some-arg_at-2-clause-near
wait_without-requires-in-Some-arg_at-2-clause-near c =
    let n = c.args.self.now.furthest in
    c.in-Some-arg_at.ensures.near n (subst (AreNear n) (sym c.deref.ensures.value) c.requires.held.reach.stack)
