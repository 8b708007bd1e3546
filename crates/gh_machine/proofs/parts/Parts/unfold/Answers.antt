use Rattle.std.proofs.Common.{[], arith}
use Rattle.gh_core.specs.Reading.{term_of}
use Rattle.gh_core.specs.Reduce.{defined}
use Rattle.gh_machine.specs.Unload.{envs_of}
use Rattle.gh_machine.specs.Stacks.{stack_in}
use Rattle.gh_machine.specs.Sound.{state_of, program_in}
use Rattle.gh_machine.proofs.Moves.{leads_to, unfolded}
use Rattle.gh_machine.proofs.parts.Parts.unfold.Goals as goal

pub returns-in-Some : goal.returns-in-Some
returns-in-Some c =
    let p = c.args.self.now in
    let ws = stack_in (envs_of p.cells.items) [] p.stack.items in
    leads_to p c.go_without.new.self _ _ c.go_without.ensures.leads (omega arith)
    (unfolded p.cells.items (defined (program_in p).defs c.args.name) (term_of c.in-Some.term.now) ws p.pending.items (state_of p)
    c.in-Some.ensures)
