use Rattle.std.proofs.Common.{◌≤◌, ◌+◌, length, refl, arith}
use Rattle.gh_core.specs.Reading.{term_of}
use Rattle.gh_machine.specs.Unload.{env_of}
use Rattle.gh_machine.proofs.Bound.{bound_two}
use Rattle.gh_machine.proofs.Reaches.{cells_more}
use Rattle.gh_machine.proofs.Moves.{held_bound, led_bound}
use Rattle.gh_machine.proofs.parts.Parts.take_pair.Goals as goal

pub go_without-requires-clause-held : goal.go_without-requires-clause-held
go_without-requires-clause-held c =
    let p = c.args.self.now in
    let le : env_of c.args.pair.first ≤ length p.cells.items = omega (arith, c.requires.first) in
    let far = c.further-self.result in
    let kept = c.further-self.ensures.kept in
    let near = c.requires.near_first in
    held_bound p _ _ _ c.requires.held (bound_two _ _ _ _ _ _ _ _ c.bind-below.ensures.bound c.bind-top.ensures.bound le) refl refl
    (c.bind-top.ensures.near far (c.bind-below.ensures.near far (cells_more p.furthest far p.cells.items kept c.requires.held.reach.cells) c.further-self.ensures.near) (omega arith)) kept

pub returns : goal.returns
returns c =
    let p = c.args.self.now in
    let le : env_of c.args.pair.first ≤ length p.cells.items = omega (arith, c.requires.first) in
    led_bound p (record { program = c.args.self.now.program; cells = c.bind-top.new.cells; stack = c.args.self.now.stack; demand = c.args.self.now.demand; turn = c.args.self.now.turn; pending = c.args.self.now.pending; furthest = c.further-self.result }) c.go_without.new.self 1 c.bind-top.result (term_of c.args.body.now) _ _ c.requires.held (bound_two _ _ _ _ _ _ _ _ c.bind-below.ensures.bound c.bind-top.ensures.bound le) refl refl refl (omega arith) c.go_without.ensures.leads (omega (arith, c.go_without.ensures.leads.cells, c.bind-below.ensures.len, c.bind-top.ensures.len)) (omega (arith, c.go_without.ensures.less, c.bind-below.ensures.len, c.bind-top.ensures.len)) (omega (arith, c.go_without.ensures.near, c.further-self.ensures.most (p.furthest + 1) (omega arith) c.requires.near_rest)) refl
