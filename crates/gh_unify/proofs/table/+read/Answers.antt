use Rattle.std.proofs.Common.{◌≡◌, sym, ap, ◌∙◌, arith}
use Rattle.std.proofs.lemmas.Result.{IfOk-weaker}
use Rattle.gh_unify.specs.Types.{mono, inst}
use Rattle.gh_unify.specs.Kept.{eqs_of, type_in}
use Rattle.gh_unify.specs.Tables.{best, value_of}
use Rattle.gh_unify.proofs.Reading.{drawn_var, drawn_head, drawn_arg, head_less, arg_less, mono-Var}
use Rattle.gh_unify.proofs.Tables.{read_var}
use Rattle.gh_unify.proofs.table.+read.Goals as goal

pub bounds-kept-v : goal.bounds-kept-v
bounds-kept-v t c = drawn_var c.args.kept.now c.args.term.now c.in-Var.v (sym c.get.ensures ∙ c.in-Var.is) c.requires.drawn

pub read-requires : goal.read-requires
read-requires t c =
    let e = sym c.get.ensures ∙ c.in-App.is in
    let k = head_less c.args.term.now c.in-App.head c.in-App.arg e in
    (omega (arith, k, c.decreases), drawn_head c.args.kept.now c.args.term.now c.in-App.head c.in-App.arg e c.requires.drawn)

pub read-requires-in-App : goal.read-requires-in-App
read-requires-in-App t c =
    let e = sym c.get.ensures ∙ c.in-App.is in
    let k = arg_less c.args.term.now c.in-App.head c.in-App.arg e in
    (omega (arith, k, c.decreases), drawn_arg c.args.kept.now c.args.term.now c.in-App.head c.in-App.arg e c.requires.drawn)

pub returns-in-Some : goal.returns-in-Some
returns-in-Some t c =
    let kept = c.args.kept.now in
    let term = c.args.term.now in
    let v = c.in-Var.v in
    let e = sym c.get.ensures ∙ c.in-Var.is in
    let h = drawn_var kept term v e c.requires.drawn in
    let read = read_var kept term v c.index-kept-v.result e h in
    IfOk-weaker c.share-in-Some.result (λ shared. shared ≡ c.in-Some.solved) (λ made. mono made ≡ inst (best (eqs_of kept)) (mono term))
    (λ x p. ap mono p ∙ sym (read ∙ ap (λ o. value_of (type_in o) v) c.in-Some.is)) c.share-in-Some.ensures

pub returns-in-None : goal.returns-in-None
returns-in-None t c =
    let kept = c.args.kept.now in
    let term = c.args.term.now in
    let v = c.in-Var.v in
    let e = sym c.get.ensures ∙ c.in-Var.is in
    let h = drawn_var kept term v e c.requires.drawn in
    let read = read_var kept term v c.index-kept-v.result e h in
    IfOk-weaker c.share-in-None.result (λ shared. shared ≡ term) (λ made. mono made ≡ inst (best (eqs_of kept)) (mono term))
    (λ x p. ap mono (p ∙ e) ∙ mono-Var v ∙ sym (read ∙ ap (λ o. value_of (type_in o) v) c.in-None.is)) c.share-in-None.ensures
