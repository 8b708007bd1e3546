-- Terms as plain trees, form by form.
use Rattle.std.proofs.Common.{◌≡◌, ℕ, ℤ, List, [], ◌∷◌, map, Option, Some, None, refl, sym, ap, ◌∙◌}
use Rattle.std.specs.Prelude.{option_map}
use Rattle.gh_base.specs.declared.place.Origin.{Origin}
use Rattle.gh_base.specs.declared.place.Span.{Span}
use Rattle.gh_typeterm.specs.declared.kind.Kind.{Kind}
use Rattle.gh_core.specs.declared.types.CoreType.{CoreType}
use Rattle.gh_core.specs.declared.terms.CoreName.{CoreName}
use Rattle.gh_core.specs.declared.terms.CoreTerm.{CoreTerm, fold-roll-CoreTerm}
use Rattle.gh_core.specs.declared.terms.CoreTerm.TheVariants as c
use Rattle.gh_core.specs.declared.terms.CoreAlt.{CoreAlt, fold-roll-CoreAlt}
use Rattle.gh_core.specs.declared.terms.CoreAlt.TheVariants as a
use Rattle.gh_core.specs.declared.terms.CoreAlt.TheShapes.{former-CoreTerm-LetRec-0}
use Rattle.gh_core.specs.declared.terms.CoreAlt.TheOpen.{CoreTerm-F, CoreAlt-F}
use Rattle.gh_core.specs.Typing.{Code, a_var, a_global, a_con, an_int, a_char, a_string, a_prim, a_lam, an_app, a_tylam, a_tyapp, a_letrec, a_case, a_stop, Branch, con_branch, int_branch, char_branch, branch_step, code_step, code_of, bindings_of, branches_of, type_of, result_of, binding}
use Rattle.gh_core_lint.specs.Branches.{alt_code, binding_code}

pub code_Var : (x : ℕ) → code_of (c.Var x) ≡ a_var x
code_Var x = ap code_of (sym (c.rolls-Var x)) ∙ fold-roll-CoreTerm Branch Code branch_step code_step (CoreTerm-F.Var x)

pub code_Global : (name : CoreName) → code_of (c.Global name) ≡ a_global name
code_Global name = ap code_of (sym (c.rolls-Global name)) ∙ fold-roll-CoreTerm Branch Code branch_step code_step (CoreTerm-F.Global name)

pub code_Con : (o : Origin) → code_of (c.Con o) ≡ a_con o
code_Con o = ap code_of (sym (c.rolls-Con o)) ∙ fold-roll-CoreTerm Branch Code branch_step code_step (CoreTerm-F.CoreTerm::Con o)

pub code_Int : (i : ℤ) → code_of (c.Int i) ≡ an_int i
code_Int i = ap code_of (sym (c.rolls-Int i)) ∙ fold-roll-CoreTerm Branch Code branch_step code_step (CoreTerm-F.CoreTerm::Int i)

pub code_Char : (k : ℕ) → code_of (c.Char k) ≡ a_char k
code_Char k = ap code_of (sym (c.rolls-Char k)) ∙ fold-roll-CoreTerm Branch Code branch_step code_step (CoreTerm-F.CoreTerm::Char k)

pub code_Str : (cs : List ℕ) → code_of (c.Str cs) ≡ a_string cs
code_Str cs = ap code_of (sym (c.rolls-Str cs)) ∙ fold-roll-CoreTerm Branch Code branch_step code_step (CoreTerm-F.Str cs)

pub code_Prim : (o : Origin) (place : Span) (ty : Option CoreType) → code_of (c.Prim o place ty) ≡ a_prim o place (result_of ty)
code_Prim o place ty = ap code_of (sym (c.rolls-Prim o place ty)) ∙ fold-roll-CoreTerm Branch Code branch_step code_step (CoreTerm-F.Prim o place ty)

pub code_Lam : (x : ℕ) (ty : CoreType) (b : CoreTerm) → code_of (c.Lam x ty b) ≡ a_lam x (type_of ty) (code_of b)
code_Lam x ty b = ap code_of (sym (c.rolls-Lam x ty b)) ∙ fold-roll-CoreTerm Branch Code branch_step code_step (CoreTerm-F.Lam x ty b)

pub code_App : (f : CoreTerm) (e : CoreTerm) → code_of (c.App f e) ≡ an_app (code_of f) (code_of e)
code_App f e = ap code_of (sym (c.rolls-App f e)) ∙ fold-roll-CoreTerm Branch Code branch_step code_step (CoreTerm-F.App f e)

pub code_TyLam : (x : ℕ) (k : Kind) (b : CoreTerm) → code_of (c.TyLam x k b) ≡ a_tylam x k (code_of b)
code_TyLam x k b = ap code_of (sym (c.rolls-TyLam x k b)) ∙ fold-roll-CoreTerm Branch Code branch_step code_step (CoreTerm-F.TyLam x k b)

pub code_TyApp : (f : CoreTerm) (ty : CoreType) → code_of (c.TyApp f ty) ≡ a_tyapp (code_of f) (type_of ty)
code_TyApp f ty = ap code_of (sym (c.rolls-TyApp f ty)) ∙ fold-roll-CoreTerm Branch Code branch_step code_step (CoreTerm-F.TyApp f ty)

pub code_Stop : (place : Span) (ty : CoreType) → code_of (c.Stop place ty) ≡ a_stop place (type_of ty)
code_Stop place ty = ap code_of (sym (c.rolls-Stop place ty)) ∙ fold-roll-CoreTerm Branch Code branch_step code_step (CoreTerm-F.Stop place ty)

abbrev bind_by : {X : Type 0} → (X → Code) → ℕ × CoreType × X → ℕ × CoreType × Code
bind_by h b = (b.0, b.1, h b.2)

bindings_mapped : (X : Type 0) (h : X → Code) (bs : List (ℕ × CoreType × X)) → bindings_of (former-CoreTerm-LetRec-0.map X Code h bs) ≡ bindings_of (map (bind_by h) bs)
bindings_mapped X h [] = refl
bindings_mapped X h (b ∷ bs) = ap (binding b.0 (type_of b.1) (h b.2)) (bindings_mapped X h bs)

pub code_LetRec : (bs : List (ℕ × CoreType × CoreTerm)) (b : CoreTerm) → code_of (c.LetRec bs b) ≡ a_letrec (bindings_of (map binding_code bs)) (code_of b)
code_LetRec bs b =
    ap code_of (sym (c.rolls-LetRec bs b)) ∙ fold-roll-CoreTerm Branch Code branch_step code_step (CoreTerm-F.LetRec bs b)
    ∙ ap (λ z. a_letrec z (code_of b)) (bindings_mapped CoreTerm code_of bs)

pub code_Case : (e : CoreTerm) (ty : CoreType) (alts : List CoreAlt) (other : Option CoreTerm)
    → code_of (c.Case e ty alts other) ≡ a_case (code_of e) (type_of ty) (branches_of (map alt_code alts) (option_map code_of other))
code_Case e ty alts None = ap code_of (sym (c.rolls-Case e ty alts None)) ∙ fold-roll-CoreTerm Branch Code branch_step code_step (CoreTerm-F.Case e ty alts None)
code_Case e ty alts (Some o) = ap code_of (sym (c.rolls-Case e ty alts (Some o))) ∙ fold-roll-CoreTerm Branch Code branch_step code_step (CoreTerm-F.Case e ty alts (Some o))

pub alt_Con : (o : Origin) (xs : List ℕ) (t : CoreTerm) → alt_code (a.Con o xs t) ≡ con_branch o xs (code_of t)
alt_Con o xs t = ap alt_code (sym (a.rolls-Con o xs t)) ∙ fold-roll-CoreAlt Branch Code branch_step code_step (CoreAlt-F.CoreAlt::Con o xs t)

pub alt_Int : (i : ℤ) (t : CoreTerm) → alt_code (a.Int i t) ≡ int_branch i (code_of t)
alt_Int i t = ap alt_code (sym (a.rolls-Int i t)) ∙ fold-roll-CoreAlt Branch Code branch_step code_step (CoreAlt-F.CoreAlt::Int i t)

pub alt_Char : (k : ℕ) (t : CoreTerm) → alt_code (a.Char k t) ≡ char_branch k (code_of t)
alt_Char k t = ap alt_code (sym (a.rolls-Char k t)) ∙ fold-roll-CoreAlt Branch Code branch_step code_step (CoreAlt-F.CoreAlt::Char k t)
