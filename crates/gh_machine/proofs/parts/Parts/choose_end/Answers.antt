use Rattle.std.proofs.Common.{arith, ap, ◌∙◌, sym, refl, drop, []}
use Rattle.gh_core.specs.Reading.{term_of}
use Rattle.gh_core.specs.Closing.{close_alts}
use Rattle.gh_core.specs.Reduce.{choose, demand}
use Rattle.gh_machine.specs.Unload.{envs_of, env_in, alts_in}
use Rattle.gh_machine.specs.Stacks.{stack_in}
use Rattle.gh_machine.specs.Sound.{state_of}
use Rattle.gh_machine.proofs.Moves.{leads_to, no_names}
use Rattle.gh_machine.proofs.parts.Parts.choose_end.Goals as goal

pub returns-in-Bound : goal.returns-in-Bound
returns-in-Bound c =
    let p = c.args.self.now in
    let ρ = env_in (envs_of p.cells.items) c.args.env in
    let rest = drop 1 (stack_in (envs_of p.cells.items) [] p.stack.items) in
    let al = close_alts (alts_in (term_of c.args.case.now)) ρ in
    leads_to p c.go_without.new.self _ _ c.go_without.ensures.leads (omega arith)
    (sym (ap (λ k. choose al k [] rest p.pending.items (state_of p)) (sym c.prelude_value.ensures)
    ∙ c.in-Bound.ensures.is ρ [] rest p.pending.items (state_of p) refl
    ∙ ap (λ t. demand t rest p.pending.items) (no_names (term_of c.in-Bound.body.now) ρ c.in-Bound.field-0.now c.in-Bound.ensures.names)))
