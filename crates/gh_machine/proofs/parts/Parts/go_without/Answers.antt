use Rattle.std.proofs.Common.{length}
use Rattle.gh_machine.proofs.parts.Parts.go_without.Goals as goal

pub go-requires-clause-stack : goal.go-requires-clause-stack
go-requires-clause-stack c = c.drop_top.ensures.within (length c.args.self.now.cells.items) c.requires.held.stack

pub go-requires-clause-near_stack : goal.go-requires-clause-near_stack
go-requires-clause-near_stack c = c.drop_top.ensures.near c.args.self.now.furthest c.requires.held.reach.stack
