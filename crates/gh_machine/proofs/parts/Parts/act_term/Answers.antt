use Rattle.std.proofs.Common.{[], ap, ◌∙◌, map, arith}
use Rattle.gh_core.specs.Closing.{close}
use Rattle.gh_core.specs.Reading.{term_of, binds_of}
use Rattle.gh_core.specs.Read.{bind_of, term_of-LetRec}
use Rattle.gh_core.specs.Reduce.{demand}
use Rattle.gh_machine.specs.Unload.{envs_of, env_in, group, binds_in}
use Rattle.gh_machine.specs.Stacks.{stack_in}
use Rattle.gh_machine.specs.Sound.{state_of, program_in}
use Rattle.gh_machine.proofs.Moves.{leads_to, unrolled, unrolled_names}
use Rattle.gh_machine.proofs.parts.Parts.act_term.Goals as goal

pub returns-in-LetRec : goal.returns-in-LetRec
returns-in-LetRec c =
    let p = c.args.self.now in
    let T = term_of c.args.term.now in
    let ρ = env_in (envs_of p.cells.items) c.args.env in
    let ws = stack_in (envs_of p.cells.items) [] p.stack.items in
    let bs = c.in-LetRec.field-0 in
    let b = c.in-LetRec.body in
    let is = ap term_of c.in-LetRec.is ∙ term_of-LetRec bs b in
    leads_to p c.unroll.new.self _ _ c.unroll.ensures (omega (arith, unrolled_names (program_in p) T (binds_of (map bind_of bs)) (term_of b) ρ ws is))
    (ap (λ u. demand (close (term_of u) (group (binds_in T) ρ)) ws p.pending.items) c.get-in-LetRec.ensures
    ∙ unrolled (program_in p) T (binds_of (map bind_of bs)) (term_of b) ρ ws p.pending.items (state_of p) is)
