use Rattle.std.proofs.Common.{length}
use Rattle.gh_machine.proofs.parts.Parts.wait_without.Goals as goal

pub go-requires-clause-stack : goal.go-requires-clause-stack
go-requires-clause-stack c =
    let n = length c.args.self.now.cells.items in
    c.push_frame.ensures.within n (c.drop_top.ensures.within n c.requires.held.stack) c.requires.frame

pub go-requires-clause-near_stack : goal.go-requires-clause-near_stack
go-requires-clause-near_stack c =
    let n = c.args.self.now.furthest in
    c.push_frame.ensures.near n (c.drop_top.ensures.near n c.requires.held.reach.stack) c.requires.near_frame
