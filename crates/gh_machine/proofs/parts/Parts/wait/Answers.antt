use Rattle.std.proofs.Common.{length}
use Rattle.gh_machine.proofs.parts.Parts.wait.Goals as goal

pub go-requires-clause-stack : goal.go-requires-clause-stack
go-requires-clause-stack c = c.push_frame.ensures.within (length c.args.self.now.cells.items) c.requires.held.stack c.requires.frame

pub go-requires-clause-near_stack : goal.go-requires-clause-near_stack
go-requires-clause-near_stack c = c.push_frame.ensures.near c.args.self.now.furthest c.requires.held.reach.stack c.requires.near_frame
