use Rattle.std.proofs.Common.{◌∙◌, arith}
use Rattle.gh_core.specs.Reading.{term_of}
use Rattle.gh_machine.proofs.Moves.{started}
use Rattle.gh_machine.proofs.parts.Parts.new.Goals as goal

pub returns-clause-state : goal.returns-clause-state
returns-clause-state c = c.go.ensures.state ∙ started c.in_ok-with_capacity.field-0.items c.in_ok-with_capacity-2.field-0.items c.new-2.result.items (term_of c.args.program.now.main) c.in_ok-with_capacity.ensures.items c.in_ok-with_capacity-2.ensures.items c.new-2.ensures.items

pub returns-clause-room : goal.returns-clause-room
returns-clause-room c =
    let g = c.go.ensures in
    let a = g.cells in
    let b = g.stack in
    let d = g.pending in
    let e = g.cells_capacity in
    let f = g.stack_capacity in
    let h = g.pending_capacity in
    let n = g.near in
    let l1 = c.in_ok-with_capacity.ensures.len in
    let l2 = c.in_ok-with_capacity-2.ensures.len in
    let x1 = c.in_ok-with_capacity.ensures.exact in
    let x2 = c.in_ok-with_capacity-2.ensures.exact in
    let l3 = c.new-2.ensures.len in
    record { cells = omega arith; few = omega arith; near = omega arith; stack = omega arith; pending = omega arith }
