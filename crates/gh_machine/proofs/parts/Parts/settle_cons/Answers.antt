use Rattle.std.proofs.Common.{length, sym, subst, arith}
use Rattle.gh_machine.specs.Stacks.{AreWithin}
use Rattle.gh_machine.specs.Reach.{AreNear}
use Rattle.gh_machine.proofs.parts.Parts.settle_cons.Goals as goal

pub print_next-requires-clause-first : goal.print_next-requires-clause-first
print_next-requires-clause-first c =
    let n = length c.args.self.now.cells.items in
    c.in-Some.ensures.within n (subst (AreWithin n) (sym c.deref.ensures.value) c.requires.held.stack)

pub print_next-requires-clause-rest : goal.print_next-requires-clause-rest
print_next-requires-clause-rest c =
    let n = length c.args.self.now.cells.items in
    c.in-Some-arg_at.ensures.within n (subst (AreWithin n) (sym c.deref-in-Some.ensures.value) c.requires.held.stack)

pub print_next-requires-clause-near_first : goal.print_next-requires-clause-near_first
print_next-requires-clause-near_first c =
    let n = c.args.self.now.furthest in
    c.in-Some.ensures.near n (subst (AreNear n) (sym c.deref.ensures.value) c.requires.held.reach.stack)

pub print_next-requires-clause-near_rest : goal.print_next-requires-clause-near_rest
print_next-requires-clause-near_rest c =
    let n = c.args.self.now.furthest in
    let near = c.in-Some-arg_at.ensures.near n (subst (AreNear n) (sym c.deref-in-Some.ensures.value) c.requires.held.reach.stack) in
    omega arith
