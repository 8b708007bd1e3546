use Rattle.std.proofs.Common.{◌≡◌, ◌∷◌, [], refl, sym, ap, ◌∙◌, arith, subst}
use Rattle.gh_core.specs.Reading.{term_of}
use Rattle.gh_core.specs.Closing.{Env, close, close_alts, put}
use Rattle.gh_core.specs.Reduce.{demand}
use Rattle.gh_core.specs.Bindings.{names_begun}
use Rattle.gh_machine.specs.Unload.{envs_of, env_in, alts_in, contents_in}
use Rattle.gh_machine.specs.Stacks.{stack_in}
use Rattle.gh_machine.specs.Picks.{IsOnNewtype}
use Rattle.gh_machine.proofs.Entered.{close_chosen}
use Rattle.gh_machine.proofs.Moves.{held_bound, led_bound}
use Rattle.gh_machine.proofs.parts.Parts.begin_case.Goals as goal

pub go_without-requires-clause-held : goal.go_without-requires-clause-held
go_without-requires-clause-held c = held_bound c.args.self.now _ _ _ c.requires.held c.bind-top.ensures.bound refl refl (c.bind-top.ensures.near c.args.self.now.furthest c.requires.held.reach.cells (omega arith)) (omega arith)

pub returns-in-Some : goal.returns-in-Some
returns-in-Some c =
    let p = c.args.self.now in
    let ρ = env_in (envs_of p.cells.items) c.args.env in
    let T = term_of c.args.case.now in
    let ws = stack_in (envs_of p.cells.items) [] p.stack.items in
    let one = c.in-Some.one in
    let b = term_of one.body.now in
    let v = close (contents_in T) ρ in
    let on = subst (λ nt. IsOnNewtype nt T one) c.newtypes.ensures c.in-Some.ensures.is in
    let bound = subst (λ nt. (σ : Env) → names_begun nt (close_alts (alts_in T) σ) ≡ 1) c.newtypes.ensures c.in-Some.ensures.bound in
    led_bound p (record { program = p.program; cells = c.bind-top.new.cells; stack = p.stack; demand = p.demand; turn = p.turn; pending = p.pending; furthest = p.furthest }) c.go_without.new.self 0 c.bind-top.result b (put ρ one.name v) _ c.requires.held c.bind-top.ensures.bound refl refl refl (omega arith) c.go_without.ensures.leads (omega (arith, c.go_without.ensures.leads.cells, c.bind-top.ensures.len, bound ρ)) (omega (arith, c.go_without.ensures.less, c.bind-top.ensures.len)) (omega (arith, c.go_without.ensures.near))
    (sym (on ρ ws p.pending.items ∙ ap (λ t. demand t ws p.pending.items) (close_chosen b ρ (one.name ∷ []) (v ∷ []) refl)))
