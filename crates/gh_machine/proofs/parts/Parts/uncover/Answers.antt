use Rattle.std.proofs.Common.{length, sym, subst}
use Rattle.gh_machine.specs.Stacks.{AreWithin}
use Rattle.gh_machine.specs.Reach.{AreNear}
use Rattle.gh_machine.proofs.parts.Parts.uncover.Goals as goal

pub go_without-requires-clause-within : goal.go_without-requires-clause-within
go_without-requires-clause-within c =
    let n = length c.args.self.now.cells.items in
    c.in-Some.ensures.within n (subst (AreWithin n) (sym c.deref.ensures.value) c.requires.held.stack)

pub go_without-requires-clause-near : goal.go_without-requires-clause-near
go_without-requires-clause-near c =
    let n = c.args.self.now.furthest in
    c.in-Some.ensures.near n (subst (AreNear n) (sym c.deref.ensures.value) c.requires.held.reach.stack)
