use Rattle.std.proofs.Common.{◌≡◌, length, [], sym, ap, ◌∙◌, arith, true, subst}
use Rattle.gh_core.specs.Primitives.{same_origin, cons}
use Rattle.gh_core.specs.Reduce.{args_of}
use Rattle.gh_base.specs.declared.place.Origin.{Origin}
use Rattle.gh_machine.specs.Unload.{envs_of}
use Rattle.gh_machine.specs.Stacks.{stack_in}
use Rattle.gh_machine.specs.Sound.{state_of}
use Rattle.gh_machine.proofs.Moves.{goes_same, goes_to, origins, listed_behind, listed_cons}
use Rattle.gh_machine.proofs.Stacks.{length-stack_in}
use Rattle.gh_machine.proofs.parts.Parts.settle_con.Goals as goal

pub returns-then-eq-2 : goal.returns-then-eq-2
returns-then-eq-2 c =
    let p = c.args.self.now in
    let envs = envs_of p.cells.items in
    let ws = stack_in envs [] p.stack.items in
    let count = subst (λ gs. length (args_of (stack_in envs [] gs)) ≡ c.count_args-count.result) c.deref.ensures.value (c.count_args-count.ensures.count envs) in
    let all : length (args_of ws) ≡ length ws = omega (arith, count, p.stack.ok.0, length-stack_in envs p.stack.items) in
    let k = c.prelude_value-then-count-eq2.result in
    let is : same_origin c.args.con cons ≡ true = ap (λ (o : Origin). same_origin c.args.con o) (sym c.prelude_value-then-count-eq2.ensures) ∙ origins c.args.con k ∙ sym c.if-eq-2.ensures in
    goes_to p c.settle_cons.new.self _ _ c.settle_cons.ensures (listed_cons c.args.con ws p.pending.items (state_of p) all is)

pub returns-else-count-len : goal.returns-else-count-len
returns-else-count-len c =
    let p = c.args.self.now in
    let envs = envs_of p.cells.items in
    let ws = stack_in envs [] p.stack.items in
    let count = subst (λ gs. length (args_of (stack_in envs [] gs)) ≡ c.count_args-count.result) c.deref.ensures.value (c.count_args-count.ensures.count envs) in
    goes_same p _ c.requires.held (sym (listed_behind c.args.con ws p.pending.items (state_of p) (λ e. c.if-count-len.false (omega (arith, e, count, p.stack.ok.0, length-stack_in envs p.stack.items)))))
