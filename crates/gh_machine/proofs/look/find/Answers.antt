use Rattle.std.proofs.Common.{◌≡◌, ◌<◌, Some, sym, ap, ◌∙◌, subst, arith}
use Rattle.gh_core.specs.Closing.{Env}
use Rattle.gh_machine.specs.Unload.{envs_of, env_in, demand_code, env_of, parent_of}
use Rattle.gh_core.specs.Closing.{close}
use Rattle.gh_machine.proofs.Looks.{below, parent_is, found, passed, found_none, at_group}
use Rattle.gh_machine.proofs.look.find.Goals as goal

pub returns-in-Some-clause-value : goal.returns-in-Some-clause-value
returns-in-Some-clause-value c =
    let cells = c.args.cells.now in
    let b = below cells c.loop-at.at c.index-cells-at.result c.requires.fine (omega arith) (omega arith) c.index-cells-at.is in
    let ρ = env_in (envs_of cells) (env_of c.index-cells-at.result.value) in
    sym c.loop-at.invariant.1
    ∙ ap (λ (σ : Env). σ c.args.name) (at_group cells c.loop-at.at c.index-cells-at.result b c.if-cell.true)
    ∙ c.in-Some.ensures.value.1 ρ
    ∙ ap (λ e. Some (close (demand_code c.in-Some.next) (env_in (envs_of cells) e))) (sym c.in-Some.ensures.value.0)

pub returns-in-Some-clause-below : goal.returns-in-Some-clause-below
returns-in-Some-clause-below c =
    let b = below c.args.cells.now c.loop-at.at c.index-cells-at.result c.requires.fine (omega arith) (omega arith) c.index-cells-at.is in
    subst (λ e. e < c.args.env) (sym c.in-Some.ensures.value.0) (omega arith)

pub loop-at-smaller-then-cell : goal.loop-at-smaller-then-cell
loop-at-smaller-then-cell c =
    subst (λ e. e < c.loop-at.at) (sym c.env_under-at.ensures) (below c.args.cells.now c.loop-at.at c.index-cells-at.result c.requires.fine (omega arith) (omega arith) c.index-cells-at.is).value

pub loop-at-preserved-then-cell : goal.loop-at-preserved-then-cell
loop-at-preserved-then-cell c =
    let cells = c.args.cells.now in
    let b = below cells c.loop-at.at c.index-cells-at.result c.requires.fine (omega arith) (omega arith) c.index-cells-at.is in
    let v = b.value in (
      let is : c.env_under-at.result ≡ env_of c.index-cells-at.result.value = c.env_under-at.ensures in omega arith,
      ap (λ e. env_in (envs_of cells) e c.args.name) c.env_under-at.ensures
          ∙ sym (c.in-None.ensures.value (env_in (envs_of cells) (env_of c.index-cells-at.result.value)))
          ∙ sym (ap (λ (σ : Env). σ c.args.name) (at_group cells c.loop-at.at c.index-cells-at.result b c.if-cell.true))
          ∙ c.loop-at.invariant.1,
    )

pub returns-then-cell-name-clause-value : goal.returns-then-cell-name-clause-value
returns-then-cell-name-clause-value c =
    let b = below c.args.cells.now c.loop-at.at c.index-cells-at.result c.requires.fine (omega arith) (omega arith) c.index-cells-at.is in
    sym c.loop-at.invariant.1 ∙ found c.args.cells.now c.loop-at.at c.index-cells-at.result c.args.name b c.if-cell.false c.if-cell-name.true

pub returns-then-cell-name-clause-below : goal.returns-then-cell-name-clause-below
returns-then-cell-name-clause-below c =
    let b = below c.args.cells.now c.loop-at.at c.index-cells-at.result c.requires.fine (omega arith) (omega arith) c.index-cells-at.is in
    omega arith

pub loop-at-smaller : goal.loop-at-smaller
loop-at-smaller c =
    subst (λ e. e < c.loop-at.at) (parent_is c.index-cells-at.result c.if-cell.false) (below c.args.cells.now c.loop-at.at c.index-cells-at.result c.requires.fine (omega arith) (omega arith) c.index-cells-at.is).parent

pub loop-at-preserved : goal.loop-at-preserved
loop-at-preserved c =
    let b = below c.args.cells.now c.loop-at.at c.index-cells-at.result c.requires.fine (omega arith) (omega arith) c.index-cells-at.is in
    let p = b.parent in
    let is : parent_of c.index-cells-at.result ≡ c.index-cells-at.result.parent = parent_is c.index-cells-at.result c.if-cell.false in
    (omega arith, passed c.args.cells.now c.loop-at.at c.index-cells-at.result c.args.name b c.if-cell.false c.if-cell-name.false ∙ c.loop-at.invariant.1)

pub returns-clause-value : goal.returns-clause-value
returns-clause-value c = sym c.loop-at.invariant.1 ∙ found_none c.args.cells.now c.loop-at.at c.args.name (omega arith)
