use Rattle.std.proofs.Common.{length, ◌<◌, [], sym, arith}
use Rattle.gh_core.specs.Reduce.{string_con, string_args}
use Rattle.gh_machine.specs.Unload.{envs_of}
use Rattle.gh_machine.specs.Texts.{text_of}
use Rattle.gh_machine.specs.Stacks.{stack_in}
use Rattle.gh_machine.specs.Sound.{state_of}
use Rattle.gh_machine.proofs.Moves.{goes_same, nonzero, listed_waits}
use Rattle.gh_machine.proofs.Stacks.{length-stack_in}
use Rattle.gh_machine.proofs.parts.Parts.settle_text.Goals as goal

pub returns-else-is_empty : goal.returns-else-is_empty
returns-else-is_empty c =
    let p = c.args.self.now in
    let envs = envs_of p.cells.items in
    let cs = text_of c.args.text in
    let more = nonzero _ c.if-is_empty.ensures in
    let lt : 0 < length (stack_in envs [] p.stack.items) = omega (arith, more, p.stack.ok.0, length-stack_in envs p.stack.items) in
    goes_same p _ c.requires.held (sym (listed_waits (string_con cs) (string_args cs) (stack_in envs [] p.stack.items) p.pending.items (state_of p) lt))
