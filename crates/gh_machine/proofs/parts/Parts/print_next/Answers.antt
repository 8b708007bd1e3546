use Rattle.std.proofs.Common.{◌≡◌, ◌+◌, length, ◌∷◌, refl, ap, ◌∙◌, arith}
use Rattle.gh_core.specs.Reduce.{at, printing}
use Rattle.gh_machine.specs.Unload.{envs_of, closed_in}
use Rattle.gh_machine.proofs.Stacks.{stack_empty}
use Rattle.gh_machine.proofs.Reaches.{near_more, cells_more}
use Rattle.gh_machine.proofs.parts.Parts.print_next.Goals as goal

pub returns : goal.returns
returns c =
    let cells = c.args.self.now.cells.items in
    let envs = envs_of cells in
    let p = c.args.self.now in
    let far = c.further-self.result in
    let kept = c.further-self.ensures.kept in
    let near = c.requires.near_first in
    let reach = c.requires.held.reach in
    let none : length c.args.self.now.stack.items ≡ 0 = omega (arith, c.args.self.now.stack.ok.0) in
    record {
      held = record {
        cells = c.requires.held.cells;
        demand = c.requires.first;
        stack = c.push_frame.ensures.within (length cells) c.requires.held.stack c.requires.rest;
        reach = record {
          cells = cells_more p.furthest far cells kept reach.cells;
          demand = omega arith;
          stack = c.push_frame.ensures.near far (near_more p.furthest far p.stack.items kept reach.stack) c.further-self.ensures.near;
        };
      };
      state = ap (λ ws. at (closed_in envs c.args.pair.first) ws c.args.self.now.pending.items) (c.push_frame.ensures.stack envs ∙ ap (λ ws. printing (closed_in envs c.args.pair.rest) ∷ ws) (stack_empty envs c.args.self.now.stack.items none));
      program = refl;
      cells = refl;
      stack = omega arith;
      near = c.further-self.ensures.most (p.furthest + 1) (omega arith) c.requires.near_rest;
      pending = refl;
      cells_capacity = omega arith;
      stack_capacity = omega arith;
      pending_capacity = omega arith;
    }
