use Rattle.std.proofs.Common.{ℕ, rules, arith, ◌≡◌, ◌+◌, ◌++◌, ◌∙◌, sym, ap, false, map}
use Rattle.std.specs.Prelude.{codes, option_map, OnOk}
use Rattle.std.specs.Fmt.{signed_decimal}
use Rattle.gh_core.specs.declared.terms.CoreTerm.TheVariants as core
use Rattle.gh_core.specs.Text.{numbers_text, binder_text, type_binder, spine_text, term_text, alt_text, alts_text, else_text}
use Rattle.gh_core_text.proofs.Chains.{on, then}
use Rattle.gh_core_text.proofs.Forms.{text_App, text_Case, text_Char, text_Int, text_Lam, text_Prim, text_Stop, text_Str, text_TyApp, text_TyLam, text_Var}
use Rattle.gh_core_text.proofs.Letrec.{needs_rest, weight_rest, written_rest, letrec_done}
use Rattle.gh_core_text.proofs.terms.+text.Goals as goal

pub add_bindings-loop-ty-preserved : goal.add_bindings-loop-ty-preserved
add_bindings-loop-ty-preserved t c = record {
  place = ap (λ k. k + 1) c.loop-ty.invariant.place;
  weight = weight_rest c.args.bindings.now c.loop-ty.ty-index _ c.loop-ty-item.result (omega arith) c.loop-ty-item.is c.loop-ty.invariant.weight;
  needs = needs_rest c.args.bindings.now c.loop-ty.ty-index _ c.loop-ty-item.result (omega arith) c.loop-ty-item.is c.loop-ty.invariant.needs;
  written = written_rest c.args.names.now c.args.bindings.now c.loop-ty.ty-index c.loop-ty.place _ c.loop-ty-item.result c.args.variables.now c.args.types.now c.loop-ty.variables c.loop-ty.types c.add_binder.new.types
      c.loop-ty.out c.add_gap.new.out c.add_binder.new.out c.add.new.out c.add_term.new.out c.add-in-loop-ty.new.out _ (omega arith) c.loop-ty-item.is
      c.loop-ty.invariant.written c.loop-ty.invariant.variables c.loop-ty.invariant.types (c.in_ok-add_binder.ensures.types ∙ c.loop-ty.invariant.types)
      c.in_ok-add_gap.ensures c.in_ok-add_binder.ensures.text c.in_ok-add.ensures c.in_ok-add_term.ensures.text c.in_ok-add-2.ensures;
  variables = c.in_ok-add_term.ensures.variables ∙ c.loop-ty.invariant.variables;
  types = c.in_ok-add_term.ensures.types ∙ c.in_ok-add_binder.ensures.types ∙ c.loop-ty.invariant.types;
}

pub add_letrec-returns-clause-text : goal.add_letrec-returns-clause-text
add_letrec-returns-clause-text t c = on c.add-3.result
    (λ last. letrec_done c.args.names.now c.args.bindings.now c.args.body.now c.args.variables.now c.args.types.now c.bind_all.new.variables c.add_bindings.new.variables c.add_bindings.new.types
    c.args.out.now c.add.new.out c.add_bindings.new.out c.add-2.new.out c.add_term.new.out c.add-3.new.out c.in_ok-count.count
    c.in_ok-add.ensures c.in_ok-count.ensures.bound c.in_ok-count.ensures.count c.in_ok-add_bindings.ensures.text
    c.in_ok-add_bindings.ensures.variables c.in_ok-add_bindings.ensures.types c.in_ok-add-2.ensures c.in_ok-add_term.ensures.text last)
    c.add-3.ensures

pub add_case-returns-clause-text : goal.add_case-returns-clause-text
add_case-returns-clause-text t c = on c.add-3.result
    (λ last.
    let table = c.args.names.now in
    let vs = c.args.variables.now in
    let ts = c.args.types.now in
    let vs1 : c.add_term.new.variables ≡ vs = c.in_ok-add_term.ensures.variables in
    let ts1 : c.add_term.new.types ≡ ts = c.in_ok-add_term.ensures.types in
    let ts2 : c.add_type.new.types ≡ ts = c.in_ok-add_type.ensures.types ∙ ts1 in
    let vs3 : c.add_alternatives.new.variables ≡ vs = c.in_ok-add_alternatives.ensures.variables ∙ vs1 in
    let ts3 : c.add_alternatives.new.types ≡ ts = c.in_ok-add_alternatives.ensures.types ∙ ts2 in
    let of = term_text table c.args.scrutinee.now in
    let ty = spine_text table c.args.ty.now false in
    let alts = alts_text (map (alt_text table) c.args.alternatives.now) in
    let other = else_text (option_map (term_text table) c.args.otherwise.now) in
    then c.args.out.now c.add.new.out c.add-3.new.out (codes "(case ") _ c.in_ok-add.ensures
    (then c.add.new.out c.add_term.new.out c.add-3.new.out (of vs ts) _ c.in_ok-add_term.ensures.text
    (then c.add_term.new.out c.add-2.new.out c.add-3.new.out (codes " ") _ c.in_ok-add-2.ensures
    (then c.add-2.new.out c.add_type.new.out c.add-3.new.out (ty c.add_term.new.types) _ c.in_ok-add_type.ensures.text
    (then c.add_type.new.out c.add_alternatives.new.out c.add-3.new.out (alts c.add_term.new.variables c.add_type.new.types) _ c.in_ok-add_alternatives.ensures.text
    (then c.add_alternatives.new.out c.add_otherwise.new.out c.add-3.new.out (other c.add_alternatives.new.variables c.add_alternatives.new.types) _ c.in_ok-add_otherwise.ensures.text last)))))
    ∙ (λ i. c.args.out.now ++ (codes "(case " ++ (of vs ts ++ (codes " " ++ (ty (ts1 i) ++ (alts (vs1 i) (ts2 i) ++ (other (vs3 i) (ts3 i) ++ codes ")")))))))
    ∙ ap (λ z. c.args.out.now ++ z) (sym (text_Case table c.args.scrutinee.now c.args.ty.now c.args.alternatives.now c.args.otherwise.now vs ts)))
    c.add-3.ensures

pub add_lam-returns-clause-text : goal.add_lam-returns-clause-text
add_lam-returns-clause-text t c = on c.add-3.result
    (λ last.
    let table = c.args.names.now in
    let vs = c.args.variables.now in
    let ts = c.args.types.now in
    let o = c.args.out.now in
    let binder = λ (n : ℕ). binder_text table n c.args.ty.now ts in
    let body = term_text table c.args.body.now in
    then o c.add.new.out c.add-3.new.out (codes "(lam ") _ c.in_ok-add.ensures
    (then c.add.new.out c.add_binder.new.out c.add-3.new.out (binder c.count-count.result) _ c.in_ok-add_binder.ensures.text
    (then c.add_binder.new.out c.add-2.new.out c.add-3.new.out (codes ") ") _ c.in_ok-add-2.ensures
    (then c.add-2.new.out c.add_term.new.out c.add-3.new.out (body c.bind.new.self c.add_binder.new.types) _ c.in_ok-add_term.ensures.text last)))
    ∙ (λ i. o ++ (codes "(lam " ++ (binder (c.count-count.ensures.value i) ++ (codes ") " ++ (body (c.in_ok-bind.ensures i) (c.in_ok-add_binder.ensures.types i) ++ codes ")")))))
    ∙ ap (λ z. o ++ z) (sym (text_Lam table c.args.x c.args.ty.now c.args.body.now vs ts)))
    c.add-3.ensures

pub add_app-returns-clause-text : goal.add_app-returns-clause-text
add_app-returns-clause-text t c = on c.add-3.result
    (λ last.
    let table = c.args.names.now in
    let vs = c.args.variables.now in
    let ts = c.args.types.now in
    let o = c.args.out.now in
    let function = term_text table c.args.function.now vs ts in
    let argument = term_text table c.args.argument.now in
    then o c.add.new.out c.add-3.new.out (codes "(app ") _ c.in_ok-add.ensures
    (then c.add.new.out c.add_term.new.out c.add-3.new.out function _ c.in_ok-add_term.ensures.text
    (then c.add_term.new.out c.add-2.new.out c.add-3.new.out (codes " ") _ c.in_ok-add-2.ensures
    (then c.add-2.new.out c.add_term-2.new.out c.add-3.new.out (argument c.add_term.new.variables c.add_term.new.types) _ c.in_ok-add_term-2.ensures.text last)))
    ∙ (λ i. o ++ (codes "(app " ++ (function ++ (codes " " ++ (argument (c.in_ok-add_term.ensures.variables i) (c.in_ok-add_term.ensures.types i) ++ codes ")")))))
    ∙ ap (λ z. o ++ z) (sym (text_App table c.args.function.now c.args.argument.now vs ts)))
    c.add-3.ensures

pub add_tylam-returns-clause-text : goal.add_tylam-returns-clause-text
add_tylam-returns-clause-text t c = on c.add-3.result
    (λ last.
    let table = c.args.names.now in
    let vs = c.args.variables.now in
    let ts = c.args.types.now in
    let o = c.args.out.now in
    let binder = λ (n : ℕ). type_binder n c.args.kind.now in
    let body = term_text table c.args.body.now vs in
    then o c.add.new.out c.add-3.new.out (codes "(tylam ") _ c.in_ok-add.ensures
    (then c.add.new.out c.add_type_binder.new.out c.add-3.new.out (binder c.count-count.result) _ c.in_ok-add_type_binder.ensures
    (then c.add_type_binder.new.out c.add-2.new.out c.add-3.new.out (codes " ") _ c.in_ok-add-2.ensures
    (then c.add-2.new.out c.add_term.new.out c.add-3.new.out (body c.bind.new.self) _ c.in_ok-add_term.ensures.text last)))
    ∙ (λ i. o ++ (codes "(tylam " ++ (binder (c.count-count.ensures.value i) ++ (codes " " ++ (body (c.in_ok-bind.ensures i) ++ codes ")")))))
    ∙ ap (λ z. o ++ z) (sym (text_TyLam table c.args.x c.args.kind.now c.args.body.now vs ts)))
    c.add-3.ensures

pub add_tyapp-returns-clause-text : goal.add_tyapp-returns-clause-text
add_tyapp-returns-clause-text t c = on c.add-3.result
    (λ last.
    let table = c.args.names.now in
    let vs = c.args.variables.now in
    let ts = c.args.types.now in
    let o = c.args.out.now in
    let function = term_text table c.args.function.now vs ts in
    let ty = spine_text table c.args.ty.now false in
    then o c.add.new.out c.add-3.new.out (codes "(tyapp ") _ c.in_ok-add.ensures
    (then c.add.new.out c.add_term.new.out c.add-3.new.out function _ c.in_ok-add_term.ensures.text
    (then c.add_term.new.out c.add-2.new.out c.add-3.new.out (codes " ") _ c.in_ok-add-2.ensures
    (then c.add-2.new.out c.add_type.new.out c.add-3.new.out (ty c.add_term.new.types) _ c.in_ok-add_type.ensures.text last)))
    ∙ (λ i. o ++ (codes "(tyapp " ++ (function ++ (codes " " ++ (ty (c.in_ok-add_term.ensures.types i) ++ codes ")")))))
    ∙ ap (λ z. o ++ z) (sym (text_TyApp table c.args.function.now c.args.ty.now vs ts)))
    c.add-3.ensures

pub add_term-returns-in-Var-clause-text : goal.add_term-returns-in-Var-clause-text
add_term-returns-in-Var-clause-text t c = on c.add_variable.result (λ e. e ∙ ap (λ z. c.args.out.now ++ z) (sym (ap (λ u. term_text c.args.names.now u c.args.variables.now c.args.types.now) c.in-Var.is ∙ text_Var c.args.names.now c.in-Var.x c.args.variables.now c.args.types.now))) c.add_variable.ensures

pub add_term-returns-in-Int-clause-text : goal.add_term-returns-in-Int-clause-text
add_term-returns-in-Int-clause-text t c =
    let added : OnOk c.add_int.result (c.add_int.new.out ≡ c.args.out.now ++ (codes "(int " ++ (signed_decimal c.in-Int.number ++ codes ")"))) = search (rules, c.add_int.ensures) in
    on c.add_int.result (λ e. e ∙ ap (λ z. c.args.out.now ++ z) (sym (ap (λ u. term_text c.args.names.now u c.args.variables.now c.args.types.now) c.in-Int.is ∙ text_Int c.args.names.now c.in-Int.number c.args.variables.now c.args.types.now))) added

pub add_term-returns-in-Char-clause-text : goal.add_term-returns-in-Char-clause-text
add_term-returns-in-Char-clause-text t c = on c.add_char.result (λ e. e ∙ ap (λ z. c.args.out.now ++ z) (sym (ap (λ u. term_text c.args.names.now u c.args.variables.now c.args.types.now) c.in-Char.is ∙ text_Char c.args.names.now c.in-Char.char c.args.variables.now c.args.types.now))) c.add_char.ensures

pub add_term-returns-in-Str-clause-text : goal.add_term-returns-in-Str-clause-text
add_term-returns-in-Str-clause-text t c = on c.add_string.result (λ e. e ∙ ap (λ z. c.args.out.now ++ z) ((λ i. codes "(string" ++ (numbers_text (c.as_slice.ensures i) ++ codes ")")) ∙ sym (ap (λ u. term_text c.args.names.now u c.args.variables.now c.args.types.now) c.in-Str.is ∙ text_Str c.args.names.now c.in-Str.chars c.args.variables.now c.args.types.now))) c.add_string.ensures

pub add_term-returns-in-Prim-clause-text : goal.add_term-returns-in-Prim-clause-text
add_term-returns-in-Prim-clause-text t c = on c.add_prim.result (λ e. e ∙ ap (λ z. c.args.out.now ++ z) (sym (ap (λ u. term_text c.args.names.now u c.args.variables.now c.args.types.now) c.in-Prim.is ∙ text_Prim c.args.names.now c.in-Prim.prim c.in-Prim.place c.in-Prim.wanted c.args.variables.now c.args.types.now))) c.add_prim.ensures.text

pub add_term-returns-in-Lam-clause-text : goal.add_term-returns-in-Lam-clause-text
add_term-returns-in-Lam-clause-text t c = on c.add_lam.result (λ e. e ∙ ap (λ z. c.args.out.now ++ z) ((λ i. term_text c.args.names.now (core.Lam c.in-Lam.x c.in-Lam.ty (c.get.ensures i)) c.args.variables.now c.args.types.now) ∙ sym (ap (λ u. term_text c.args.names.now u c.args.variables.now c.args.types.now) c.in-Lam.is))) c.add_lam.ensures.text

pub add_term-returns-in-App-clause-text : goal.add_term-returns-in-App-clause-text
add_term-returns-in-App-clause-text t c = on c.add_app.result (λ e. e ∙ ap (λ z. c.args.out.now ++ z) ((λ i. term_text c.args.names.now (core.App (c.get-in-App.ensures i) (c.get-in-App-2.ensures i)) c.args.variables.now c.args.types.now) ∙ sym (ap (λ u. term_text c.args.names.now u c.args.variables.now c.args.types.now) c.in-App.is))) c.add_app.ensures.text

pub add_term-returns-in-TyLam-clause-text : goal.add_term-returns-in-TyLam-clause-text
add_term-returns-in-TyLam-clause-text t c = on c.add_tylam.result (λ e. e ∙ ap (λ z. c.args.out.now ++ z) ((λ i. term_text c.args.names.now (core.TyLam c.in-TyLam.x c.in-TyLam.kind (c.get-in-TyLam.ensures i)) c.args.variables.now c.args.types.now) ∙ sym (ap (λ u. term_text c.args.names.now u c.args.variables.now c.args.types.now) c.in-TyLam.is))) c.add_tylam.ensures.text

pub add_term-returns-in-TyApp-clause-text : goal.add_term-returns-in-TyApp-clause-text
add_term-returns-in-TyApp-clause-text t c = on c.add_tyapp.result (λ e. e ∙ ap (λ z. c.args.out.now ++ z) ((λ i. term_text c.args.names.now (core.TyApp (c.get-in-TyApp.ensures i) c.in-TyApp.ty) c.args.variables.now c.args.types.now) ∙ sym (ap (λ u. term_text c.args.names.now u c.args.variables.now c.args.types.now) c.in-TyApp.is))) c.add_tyapp.ensures.text

pub add_term-returns-in-LetRec-clause-text : goal.add_term-returns-in-LetRec-clause-text
add_term-returns-in-LetRec-clause-text t c = on c.add_letrec.result (λ e. e ∙ ap (λ z. c.args.out.now ++ z) ((λ i. term_text c.args.names.now (core.LetRec (c.as_slice-in-LetRec.ensures i) (c.get-in-LetRec.ensures i)) c.args.variables.now c.args.types.now) ∙ sym (ap (λ u. term_text c.args.names.now u c.args.variables.now c.args.types.now) c.in-LetRec.is))) c.add_letrec.ensures.text

pub add_term-returns-in-Case-clause-text : goal.add_term-returns-in-Case-clause-text
add_term-returns-in-Case-clause-text t c = on c.add_case.result (λ e. e ∙ ap (λ z. c.args.out.now ++ z) ((λ i. term_text c.args.names.now (core.Case (c.get-in-Case.ensures i) c.in-Case.ty (c.as_slice-in-Case.ensures i) c.in-Case.otherwise) c.args.variables.now c.args.types.now) ∙ sym (ap (λ u. term_text c.args.names.now u c.args.variables.now c.args.types.now) c.in-Case.is))) c.add_case.ensures.text

pub add_term-returns-in-Stop-clause-text : goal.add_term-returns-in-Stop-clause-text
add_term-returns-in-Stop-clause-text t c = on c.add_stop.result (λ e. e ∙ ap (λ z. c.args.out.now ++ z) (sym (ap (λ u. term_text c.args.names.now u c.args.variables.now c.args.types.now) c.in-Stop.is ∙ text_Stop c.args.names.now c.in-Stop.place c.in-Stop.ty c.args.variables.now c.args.types.now))) c.add_stop.ensures.text
