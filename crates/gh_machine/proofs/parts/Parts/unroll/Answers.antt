use Rattle.std.proofs.Common.{refl, arith}
use Rattle.gh_core.specs.Reading.{term_of}
use Rattle.gh_machine.proofs.Moves.{held_bound, led_bound}
use Rattle.gh_machine.proofs.parts.Parts.unroll.Goals as goal

pub go_without-requires-clause-held : goal.go_without-requires-clause-held
go_without-requires-clause-held c = held_bound c.args.self.now _ _ _ c.requires.held c.bind_group-top.ensures.bound refl refl (c.bind_group-top.ensures.near c.args.self.now.furthest c.requires.held.reach.cells) (omega arith)

pub returns : goal.returns
returns c =
    led_bound c.args.self.now (record { program = c.args.self.now.program; cells = c.bind_group-top.new.cells; stack = c.args.self.now.stack; demand = c.args.self.now.demand; turn = c.args.self.now.turn; pending = c.args.self.now.pending; furthest = c.args.self.now.furthest }) c.go_without.new.self 0 c.bind_group-top.result (term_of c.args.body.now) _ _ c.requires.held c.bind_group-top.ensures.bound refl refl refl (omega arith) c.go_without.ensures.leads (omega (arith, c.go_without.ensures.leads.cells, c.bind_group-top.ensures.names)) (omega (arith, c.go_without.ensures.less, c.bind_group-top.ensures.len)) (omega (arith, c.go_without.ensures.near)) refl
