use Rattle.std.proofs.Common.{arith, ap, ◌∙◌, sym, refl, drop, [], ◌∷◌}
use Rattle.gh_core.specs.Reading.{term_of}
use Rattle.gh_core.specs.Closing.{close_alts}
use Rattle.gh_core.specs.Reduce.{choose, demand}
use Rattle.gh_core.specs.Bindings.{names_chosen}
use Rattle.gh_machine.specs.Unload.{envs_of, env_in, alts_in, closed_in}
use Rattle.gh_machine.specs.Stacks.{stack_in}
use Rattle.gh_machine.specs.Sound.{state_of}
use Rattle.gh_machine.proofs.Moves.{leads_to, two_names}
use Rattle.gh_machine.proofs.parts.Parts.choose_pair.Goals as goal

pub returns-in-Bound : goal.returns-in-Bound
returns-in-Bound c =
    let p = c.args.self.now in
    let envs = envs_of p.cells.items in
    let ρ = env_in envs c.args.env in
    let rest = drop 1 (stack_in envs [] p.stack.items) in
    let al = close_alts (alts_in (term_of c.args.case.now)) ρ in
    let f = closed_in envs c.args.pair.first in
    let r = closed_in envs c.args.pair.rest in
    let bound = ap (λ k. names_chosen al k (f ∷ r ∷ [])) (sym c.prelude_value.ensures) ∙ c.in-Bound.ensures.bound ρ (f ∷ r ∷ []) refl in
    leads_to p c.take_pair.new.self _ _ c.take_pair.ensures (omega (arith, bound, c.in-Bound.ensures.names))
    (sym (ap (λ k. choose al k (f ∷ r ∷ []) rest p.pending.items (state_of p)) (sym c.prelude_value.ensures)
    ∙ c.in-Bound.ensures.is ρ (f ∷ r ∷ []) rest p.pending.items (state_of p) refl
    ∙ ap (λ t. demand t rest p.pending.items) (two_names (term_of c.in-Bound.body.now) ρ c.in-Bound.names.now f r c.in-Bound.ensures.names)))
