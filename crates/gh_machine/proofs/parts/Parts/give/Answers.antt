use Rattle.std.proofs.Common.{arith, ◌≡◌, ◌≤◌, ◌+◌, [], drop, length, sym, subst, ap, ◌∙◌, true, false}
use Rattle.gh_core.specs.Primitives.{same_origin}
use Rattle.gh_core.specs.Reduce.{give, args_of}
use Rattle.gh_core.specs.Bindings.{names_given}
use Rattle.gh_machine.specs.Unload.{envs_of}
use Rattle.gh_machine.specs.Stacks.{AreWithin, env_of_frame, stack_in}
use Rattle.gh_machine.specs.Sound.{state_of}
use Rattle.gh_machine.specs.declared.closure.Frame.TheVariants.{Arg, OfCase, Under, Only, First, Second, Printing}
use Rattle.gh_machine.proofs.Moves.{leads_same, leads_to, uncover_idle, origins}
use Rattle.gh_machine.proofs.Stacks.{behind_frame, behind_none}
use Rattle.gh_machine.proofs.parts.Parts.give.Goals as goal
use Rattle.gh_machine.proofs.parts.Parts.give.Goals.{else-count-eq1-via-then-count-eq1+else-eq, else-count-eq1-via-else-count-eq1}

pub choose-requires-clause-within : goal.choose-requires-clause-within
choose-requires-clause-within c =
    let n = length c.args.self.now.cells.items in
    subst (λ f. env_of_frame f ≤ n) c.in-Some-OfCase.field-0-is (c.in-Some-OfCase.ensures.within n (subst (AreWithin n) (sym c.deref-2.ensures.value) c.requires.held.stack))

pub returns-in-Some-OfCase : goal.returns-in-Some-OfCase
returns-in-Some-OfCase c =
    let p = c.args.self.now in
    let envs = envs_of p.cells.items in
    let fs = p.stack.items in
    let ws = stack_in envs [] fs in
    let n = c.count_args-count.result in
    let after = behind_frame envs fs c.deref.result.now c.deref-2.result.now n c.in-Some-OfCase.field-0 (OfCase c.in-Some-OfCase.env c.in-Some-OfCase.case) c.deref.ensures.value c.deref-2.ensures.value (c.count_args-count.ensures.count envs) (c.in-Some-OfCase.ensures.value envs) c.in-Some-OfCase.field-0-is in
    leads_to p c.choose.new.self _ _ c.choose.ensures (omega (arith, ap (λ us. names_given c.args.con (args_of ws) us) after)) (sym (ap (λ us. give c.args.con (args_of ws) us p.pending.items (state_of p)) after))

pub returns-else-count-eq1 : goal.returns-else-count-eq1
returns-else-count-eq1 c =
    let p = c.args.self.now in
    let envs = envs_of p.cells.items in
    let fs = p.stack.items in
    let ws = stack_in envs [] fs in
    let n = c.count_args-count.result in
    let after = behind_frame envs fs c.deref.result.now c.deref-2.result.now n c.in-Some-Under.field-0 (Under c.in-Some-Under.newtype) c.deref.ensures.value c.deref-2.ensures.value (c.count_args-count.ensures.count envs) (c.in-Some-Under.ensures.value envs) c.in-Some-Under.field-0-is in
    let d = c.in-Some-Under.newtype in
    let count = subst (λ gs. length (args_of (stack_in envs [] gs)) ≡ n) c.deref.ensures.value (c.count_args-count.ensures.count envs) in
    leads_same p _ c.requires.held (sym (ap (λ us. give c.args.con (args_of ws) us p.pending.items (state_of p)) after
    ∙ uncover_idle (same_origin c.args.con d) (args_of ws) (drop (n + 1) ws) p.pending.items (state_of p) (λ e t. elim c.else-count-eq1.branch [
      | else-count-eq1-via-then-count-eq1+else-eq w ↦ (let k : true ≡ false = sym t ∙ origins c.args.con d ∙ sym w.if-eq.ensures in let no : ⊥ = cc in no)
      | else-count-eq1-via-else-count-eq1 w ↦ w.if-count-eq1.false (sym count ∙ e)
    ])))

pub returns-in-Some-Arg : goal.returns-in-Some-Arg
returns-in-Some-Arg c =
    let p = c.args.self.now in
    let envs = envs_of p.cells.items in
    let fs = p.stack.items in
    let ws = stack_in envs [] fs in
    let n = c.count_args-count.result in
    let after = behind_frame envs fs c.deref.result.now c.deref-2.result.now n c.in-Some-Arg.field-0 (Arg c.in-Some-Arg.field-0-0) c.deref.ensures.value c.deref-2.ensures.value (c.count_args-count.ensures.count envs) (c.in-Some-Arg.ensures.value envs) c.in-Some-Arg.field-0-is in
    leads_same p _ c.requires.held (sym (ap (λ us. give c.args.con (args_of ws) us p.pending.items (state_of p)) after))

pub returns-in-Some-Only : goal.returns-in-Some-Only
returns-in-Some-Only c =
    let p = c.args.self.now in
    let envs = envs_of p.cells.items in
    let fs = p.stack.items in
    let ws = stack_in envs [] fs in
    let n = c.count_args-count.result in
    let after = behind_frame envs fs c.deref.result.now c.deref-2.result.now n c.in-Some-Only.field-0 (Only c.in-Some-Only.field-0-0 c.in-Some-Only.field-0-1) c.deref.ensures.value c.deref-2.ensures.value (c.count_args-count.ensures.count envs) (c.in-Some-Only.ensures.value envs) c.in-Some-Only.field-0-is in
    leads_same p _ c.requires.held (sym (ap (λ us. give c.args.con (args_of ws) us p.pending.items (state_of p)) after))

pub returns-in-Some-First : goal.returns-in-Some-First
returns-in-Some-First c =
    let p = c.args.self.now in
    let envs = envs_of p.cells.items in
    let fs = p.stack.items in
    let ws = stack_in envs [] fs in
    let n = c.count_args-count.result in
    let after = behind_frame envs fs c.deref.result.now c.deref-2.result.now n c.in-Some-First.field-0 (First c.in-Some-First.field-0-0 c.in-Some-First.field-0-1 c.in-Some-First.field-0-2) c.deref.ensures.value c.deref-2.ensures.value (c.count_args-count.ensures.count envs) (c.in-Some-First.ensures.value envs) c.in-Some-First.field-0-is in
    leads_same p _ c.requires.held (sym (ap (λ us. give c.args.con (args_of ws) us p.pending.items (state_of p)) after))

pub returns-in-Some-Second : goal.returns-in-Some-Second
returns-in-Some-Second c =
    let p = c.args.self.now in
    let envs = envs_of p.cells.items in
    let fs = p.stack.items in
    let ws = stack_in envs [] fs in
    let n = c.count_args-count.result in
    let after = behind_frame envs fs c.deref.result.now c.deref-2.result.now n c.in-Some-Second.field-0 (Second c.in-Some-Second.field-0-0 c.in-Some-Second.field-0-1 c.in-Some-Second.field-0-2) c.deref.ensures.value c.deref-2.ensures.value (c.count_args-count.ensures.count envs) (c.in-Some-Second.ensures.value envs) c.in-Some-Second.field-0-is in
    leads_same p _ c.requires.held (sym (ap (λ us. give c.args.con (args_of ws) us p.pending.items (state_of p)) after))

pub returns-in-Some-Printing : goal.returns-in-Some-Printing
returns-in-Some-Printing c =
    let p = c.args.self.now in
    let envs = envs_of p.cells.items in
    let fs = p.stack.items in
    let ws = stack_in envs [] fs in
    let n = c.count_args-count.result in
    let after = behind_frame envs fs c.deref.result.now c.deref-2.result.now n c.in-Some-Printing.field-0 (Printing c.in-Some-Printing.field-0-0) c.deref.ensures.value c.deref-2.ensures.value (c.count_args-count.ensures.count envs) (c.in-Some-Printing.ensures.value envs) c.in-Some-Printing.field-0-is in
    leads_same p _ c.requires.held (sym (ap (λ us. give c.args.con (args_of ws) us p.pending.items (state_of p)) after))

pub returns-in-None : goal.returns-in-None
returns-in-None c =
    let p = c.args.self.now in
    let envs = envs_of p.cells.items in
    let fs = p.stack.items in
    let ws = stack_in envs [] fs in
    let after = behind_none envs fs c.deref.result.now c.deref-2.result.now c.count_args-count.result c.deref.ensures.value c.deref-2.ensures.value (c.count_args-count.ensures.count envs) (c.in-None.ensures.value envs) in
    leads_same p _ c.requires.held (sym (ap (λ us. give c.args.con (args_of ws) us p.pending.items (state_of p)) after))
