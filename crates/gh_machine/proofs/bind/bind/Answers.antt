use Rattle.std.proofs.Common.{◌≡◌, suc, length, arith}
use Rattle.gh_machine.specs.declared.closure.Cell.{Cell}
use Rattle.gh_machine.proofs.Bound.{bound_name}
use Rattle.gh_machine.proofs.bind.bind.Goals as goal

pub returns-clause-bound : goal.returns-clause-bound
returns-clause-bound c =
    let cells = c.args.cells.now.items in
    let cell : Cell = record { value = c.args.value; name = c.args.name; parent = c.args.parent } in
    let long : c.len.result ≡ suc (length cells) = omega (arith, c.args.cells.now.ok.0) in
    bound_name cells c.add.new.to.items cell c.len.result c.requires.fine (λ e. let k : c.args.parent ≡ 4294967295 = e in absurd (omega (arith, c.args.cells.now.ok.0))) c.requires.parent c.requires.value c.add.ensures.items long
