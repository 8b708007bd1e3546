use Rattle.std.proofs.Common.{sym, ap, ◌∙◌}
use Rattle.gh_unify.specs.Types.{mono}
use Rattle.gh_unify.proofs.Reading.{drawn_var, mono-Var}
use Rattle.gh_unify.proofs.Tables.{rigid_entry}
use Rattle.gh_unify.proofs.Steps.{fixed_var}
use Rattle.gh_unify.proofs.solving.flexible.Goals as goal

pub bounds-kept-v : goal.bounds-kept-v
bounds-kept-v c = drawn_var c.args.kept.now c.args.term.now c.in-Var.v (sym c.get.ensures ∙ c.in-Var.is) c.requires

pub bounds-kept-v-in-Var : goal.bounds-kept-v-in-Var
bounds-kept-v-in-Var c = drawn_var c.args.kept.now c.args.term.now c.in-Var.v (sym c.get.ensures ∙ c.in-Var.is) c.requires

pub returns-then-kept-v : goal.returns-then-kept-v
returns-then-kept-v c =
    let e = sym c.get.ensures ∙ c.in-Var.is in
    let h = drawn_var c.args.kept.now c.args.term.now c.in-Var.v e c.requires in
    fixed_var c.args.kept.now c.args.term.now c.in-Var.v c.index-kept-v.result e h c.if-kept-v.true

pub returns-else-kept-v : goal.returns-else-kept-v
returns-else-kept-v c =
    let e = sym c.get.ensures ∙ c.in-Var.is in
    let h = drawn_var c.args.kept.now c.args.term.now c.in-Var.v e c.requires in
    (ap mono e ∙ mono-Var c.in-Var.v, rigid_entry c.args.kept.now c.in-Var.v c.index-kept-v.result h ∙ c.if-kept-v.false, h)
