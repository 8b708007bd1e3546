use Rattle.std.proofs.Common.{[], sym, ap, ◌∙◌, arith}
use Rattle.gh_core.specs.Reading.{term_of}
use Rattle.gh_core.specs.Closing.{without, binds_name}
use Rattle.gh_core.specs.Bindings.{names_at}
use Rattle.gh_core.specs.Reduce.{reduce_at, opened}
use Rattle.gh_machine.specs.Unload.{envs_of, env_in, binds_in, bound_at, body_in, demanded_in}
use Rattle.gh_machine.specs.Stacks.{stack_in}
use Rattle.gh_machine.specs.Sound.{state_of, program_in}
use Rattle.gh_machine.proofs.Moves.{leads_to, unrolled_binding, bindings-close}
use Rattle.gh_machine.proofs.parts.Parts.act.Goals as goal

pub returns-in-Binding : goal.returns-in-Binding
returns-in-Binding c =
    let p = c.args.self.now in
    let envs = envs_of p.cells.items in
    let ws = stack_in envs [] p.stack.items in
    let T = term_of c.in-Binding.term.now in
    let names = sym (bindings-close (binds_in T) (without (env_in envs c.in-Binding.env) (binds_name (binds_in T)))) ∙ ap (λ d. names_at (program_in p) (opened (demanded_in envs d)) ws) (sym c.in-Binding.is) in
    leads_to p c.unroll.new.self _ _ c.unroll.ensures (omega (arith, names))
    (unrolled_binding (binds_in T) (bound_at (binds_in T) c.in-Binding.index (body_in T)) (term_of c.binding_of.result.now) (env_in envs c.in-Binding.env) ws p.pending.items c.binding_of.ensures
    ∙ ap (λ d. reduce_at (program_in p) (opened (demanded_in envs d)) ws p.pending.items (state_of p)) (sym c.in-Binding.is))
