use Rattle.std.proofs.Common.{◌≡◌, ◌-◌, suc, length, get_or, [], refl, ap, ◌∙◌, subst, arith, length-drop}
use Rattle.gh_core.specs.Reduce.{args_of}
use Rattle.gh_machine.specs.Unload.{envs_of}
use Rattle.gh_machine.specs.Stacks.{stack_in}
use Rattle.gh_machine.specs.Sound.{IsBound}
use Rattle.gh_machine.proofs.Bound.{bound_more, from_place}
use Rattle.gh_machine.proofs.Stacks.{args_from}
use Rattle.gh_machine.proofs.bind.bind_args.Goals as goal

pub bind-top-requires-clause-value : goal.bind-top-requires-clause-value
bind-top-requires-clause-value c =
    let w = c.in-Some.ensures.within (length c.args.cells.now.items) c.requires.stack in
    let m = c.loop-left.invariant.bound.more in
    omega arith

pub loop-left-preserved : goal.loop-left-preserved
loop-left-preserved c =
    let old = c.args.cells.now.items in
    let ws = stack_in (envs_of old) [] c.args.stack.now in
    let i = c.loop-left.left - 1 in
    let xs = c.args.names.now in
    let e : c.loop-left.left ≡ suc i = omega arith in
    let n = c.requires.count (envs_of old) in
    record {
      within = omega arith;
      bound = bound_more old c.loop-left.cells.items c.bind-top.new.cells.items c.args.env c.loop-left.top c.bind-top.result i xs ws (get_or xs i 0) c.in-Some.value
          (subst (λ k. IsBound old c.loop-left.cells.items c.loop-left.top (from_place old c.args.env xs ws k)) e c.loop-left.invariant.bound)
          c.bind-top.ensures.bound (omega arith) (omega arith) refl (c.in-Some.ensures.within (length old) c.requires.stack) (c.in-Some.ensures.value (envs_of old));
      near = λ n cells stack. c.bind-top.ensures.near n (c.loop-left.invariant.near n cells stack) (c.in-Some.ensures.near n stack);
      len = omega arith;
      capacity = omega arith;
    }

pub unreachable-requires : goal.unreachable-requires
unreachable-requires c =
    let envs = envs_of c.args.cells.now.items in
    let ws = stack_in envs [] c.args.stack.now in
    let i = c.loop-left.left - 1 in
    let n = c.requires.count envs in
    let none = ap length (args_from i ws (omega arith) ∙ c.in-None.ensures.value envs) in
    omega (arith, none, length-drop i (args_of ws), n)
