use Rattle.std.proofs.Common.{◌≡◌, suc, length, refl, sym, ap, ◌∙◌, arith}
use Rattle.gh_machine.specs.declared.closure.Cell.{Cell}
use Rattle.gh_machine.specs.declared.closure.Closure.TheVariants.{Term as Code}
use Rattle.gh_core.specs.Reading.{term_of}
use Rattle.gh_machine.specs.Unload.{envs_of, env_in, group, binds_in}
use Rattle.gh_machine.proofs.Names.{no_bindings}
use Rattle.gh_machine.proofs.Reaches.{near_cell}
use Rattle.gh_machine.proofs.Bound.{bound_group, bound_here}
use Rattle.gh_machine.proofs.bind.bind_group.Goals as goal

pub returns-clause-bound : goal.returns-clause-bound
returns-clause-bound c =
    let cells = c.args.cells.now.items in
    let cell : Cell = record { value = Code c.args.env c.args.term; name = 0; parent = 4294967295 } in
    let long : c.len.result ≡ suc (length cells) = omega (arith, c.args.cells.now.ok.0) in
    bound_group cells c.add.new.to.items cell c.len.result c.requires.fine refl c.requires.within c.add.ensures.items long

pub returns-then-count_bindings-eq0-clause-bound : goal.returns-then-count_bindings-eq0-clause-bound
returns-then-count_bindings-eq0-clause-bound c =
    let cells = c.args.cells.now.items in
    let ρ = env_in (envs_of cells) c.args.env in
    bound_here cells c.args.env _ c.requires.fine c.requires.within (sym (ap (λ bs. group bs ρ) (no_bindings (binds_in (term_of c.args.term.now)) (sym c.count_bindings.ensures ∙ c.if-count_bindings-eq0.true))))

pub returns-clause-near : goal.returns-clause-near
returns-clause-near c =
    let cells = c.args.cells.now.items in
    let cell : Cell = record { value = Code c.args.env c.args.term; name = 0; parent = 4294967295 } in
    λ n near. near_cell n cells c.add.new.to.items cell near (omega arith) c.add.ensures.items
