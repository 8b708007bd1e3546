use Rattle.std.proofs.Common.{◌+◌, length, [], drop, refl, sym, ap, ◌∙◌, arith, subst}
use Rattle.gh_core.specs.Reading.{term_of}
use Rattle.gh_core.specs.Closing.{put_all}
use Rattle.gh_core.specs.Reduce.{args_of, demand}
use Rattle.gh_machine.specs.Unload.{envs_of, env_in}
use Rattle.gh_machine.specs.Stacks.{stack_in}
use Rattle.gh_machine.specs.Reach.{AreNear}
use Rattle.gh_machine.specs.Sound.{IsBound}
use Rattle.gh_machine.proofs.Entered.{close_chosen}
use Rattle.gh_machine.proofs.Moves.{held_bound, led_bound}
use Rattle.gh_machine.proofs.Stacks.{args_length}
use Rattle.gh_machine.proofs.parts.Parts.take_args.Goals as goal

pub bind_args-top-requires-clause-count : goal.bind_args-top-requires-clause-count
bind_args-top-requires-clause-count c = λ envs.
    let fs = c.args.self.now.stack.items in
    ap (λ gs. length (args_of (stack_in envs [] gs))) c.deref.ensures.value ∙ args_length envs (envs_of c.args.self.now.cells.items) fs ∙ c.requires.names

pub go_without-requires-clause-held : goal.go_without-requires-clause-held
go_without-requires-clause-held c =
    let n = c.args.self.now.furthest in
    held_bound c.args.self.now _ _ _ c.requires.held c.bind_args-top.ensures.bound refl refl
    (c.bind_args-top.ensures.near n c.requires.held.reach.cells (subst (AreNear n) (sym c.deref.ensures.value) c.requires.held.reach.stack)) (omega arith)

pub returns : goal.returns
returns c =
    let p = c.args.self.now in
    let envs = envs_of p.cells.items in
    let ρ = env_in envs c.args.env in
    let xs = c.args.names.now in
    let ws = stack_in envs [] p.stack.items in
    let b = subst (λ gs. IsBound p.cells.items c.bind_args-top.new.cells.items c.bind_args-top.result (put_all ρ xs (args_of (stack_in envs [] gs)))) c.deref.ensures.value c.bind_args-top.ensures.bound in
    led_bound p (record { program = c.args.self.now.program; cells = c.bind_args-top.new.cells; stack = c.args.self.now.stack; demand = c.args.self.now.demand; turn = c.args.self.now.turn; pending = c.args.self.now.pending; furthest = c.args.self.now.furthest }) c.go_without.new.self (length xs + 1) c.bind_args-top.result (term_of c.args.body.now) (put_all ρ xs (args_of ws)) _ c.requires.held b refl refl refl (omega arith) c.go_without.ensures.leads (omega (arith, c.go_without.ensures.leads.cells, c.bind_args-top.ensures.len)) (omega (arith, c.go_without.ensures.less, c.bind_args-top.ensures.len)) (omega (arith, c.go_without.ensures.near))
    (ap (λ t. demand t (drop (length xs + 1) ws) p.pending.items) (sym (close_chosen (term_of c.args.body.now) ρ xs (args_of ws) (sym c.requires.names))))
