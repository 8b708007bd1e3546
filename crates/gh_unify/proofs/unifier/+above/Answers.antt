use Rattle.std.proofs.Common.{sym, ap, ◌∙◌, arith}
use Rattle.gh_unify.specs.Types.{mono, has}
use Rattle.gh_unify.specs.Kept.{is_rigid, drawn_of}
use Rattle.gh_unify.proofs.Insts.{eqb-same, not-both}
use Rattle.gh_unify.proofs.Tables.{rigid_entry, level_entry}
use Rattle.gh_unify.proofs.Ends.{above_other}
use Rattle.gh_unify.proofs.Reading.{drawn_var, drawn_head, drawn_arg, head_less, arg_less, mono-Var}
use Rattle.gh_unify.proofs.unifier.+above.Goals as goal

pub above-requires : goal.above-requires
above-requires t c =
    let e = sym c.get.ensures ∙ c.in-App.is in
    let k = head_less c.args.term.now c.in-App.head c.in-App.arg e in
    (omega (arith, k, c.decreases), drawn_head c.args.kept.now c.args.term.now c.in-App.head c.in-App.arg e c.requires)

pub above-requires-in-App : goal.above-requires-in-App
above-requires-in-App t c =
    let e = sym c.get.ensures ∙ c.in-App.is in
    let k = arg_less c.args.term.now c.in-App.head c.in-App.arg e in
    (omega (arith, k, c.decreases), drawn_arg c.args.kept.now c.args.term.now c.in-App.head c.in-App.arg e c.requires)

pub bounds-kept-at : goal.bounds-kept-at
bounds-kept-at t c = drawn_var c.args.kept.now c.args.term.now c.in-Var.v (sym c.get.ensures ∙ c.in-Var.is) c.requires

pub bounds-kept-at-in-Var : goal.bounds-kept-at-in-Var
bounds-kept-at-in-Var t c = drawn_var c.args.kept.now c.args.term.now c.in-Var.v (sym c.get.ensures ∙ c.in-Var.is) c.requires

pub bounds-kept-at-else-not-kept-at : goal.bounds-kept-at-else-not-kept-at
bounds-kept-at-else-not-kept-at t c = drawn_var c.args.kept.now c.args.term.now c.in-Var.v (sym c.get.ensures ∙ c.in-Var.is) c.requires

pub bounds-kept-at-else-not-kept-at-2 : goal.bounds-kept-at-else-not-kept-at-2
bounds-kept-at-else-not-kept-at-2 t c = drawn_var c.args.kept.now c.args.term.now c.in-Var.v (sym c.get.ensures ∙ c.in-Var.is) c.requires

pub returns-then-not-kept-at : goal.returns-then-not-kept-at
returns-then-not-kept-at t c =
    let e = sym c.get.ensures ∙ c.in-Var.is in
    let h = drawn_var c.args.kept.now c.args.term.now c.in-Var.v e c.requires in
    let loose = rigid_entry c.args.kept.now c.in-Var.v c.index-kept-at.result h ∙ c.if-not-kept-at.true in
    above_other c.args.kept.now c.args.term.now c.in-Var.v c.args.level e (λ k. absurd (not-both (is_rigid (drawn_of c.args.kept.now) c.in-Var.v) loose k))

pub returns-then-level-kept : goal.returns-then-level-kept
returns-then-level-kept t c =
    let e = sym c.get.ensures ∙ c.in-Var.is in
    let h = drawn_var c.args.kept.now c.args.term.now c.in-Var.v e c.requires in
    let level = level_entry c.args.kept.now c.in-Var.v c.index-kept-at-in-Var.result h in
    let more = c.if-level-kept.true in (
      ap (has c.in-Var.v) (ap mono e ∙ mono-Var c.in-Var.v) ∙ eqb-same c.in-Var.v,
      rigid_entry c.args.kept.now c.in-Var.v c.index-kept-at.result h ∙ c.if-not-kept-at.false,
      omega (arith, level, more),
    )

pub returns-else-level-kept : goal.returns-else-level-kept
returns-else-level-kept t c =
    let e = sym c.get.ensures ∙ c.in-Var.is in
    let h = drawn_var c.args.kept.now c.args.term.now c.in-Var.v e c.requires in
    let level = level_entry c.args.kept.now c.in-Var.v c.index-kept-at-in-Var.result h in
    let less = c.if-level-kept.false in
    above_other c.args.kept.now c.args.term.now c.in-Var.v c.args.level e (λ k. omega (arith, level, less))
