-- The text of each form of term.
use Rattle.std.proofs.Common.{◌≡◌, ◌++◌, List, [], sym, ap, ◌∙◌, map}
use Rattle.std.specs.Prelude.{ℕ, ℤ, length, codes, decimal, max, option_map, Option, Some, None}
use Rattle.std.specs.Fmt.{signed_decimal}
use Rattle.gh_base.specs.declared.place.Origin.{Origin}
use Rattle.gh_base.specs.declared.place.Span.{Span}
use Rattle.gh_typeterm.specs.declared.kind.Kind.{Kind}
use Rattle.gh_core.specs.declared.types.CoreType.{CoreType}
use Rattle.gh_core.specs.declared.terms.CoreTerm.{CoreTerm, fold-roll-CoreTerm}
use Rattle.gh_core.specs.declared.terms.CoreTerm.TheVariants as c
use Rattle.gh_core.specs.declared.terms.CoreAlt.{CoreAlt}
use Rattle.gh_core.specs.declared.terms.CoreAlt.TheOpen.{CoreTerm-F}
use Rattle.gh_core.specs.Levels.{Scope, within, level_of}
use Rattle.gh_core_text.specs.Needs.{needs_type, needs_alt, needs_all, needs_else, needs_term, needs_alt_step, needs_term_step}
use Rattle.gh_core.specs.Text.{Table, Text, numbers_text, origin_text, place_text, result_text, binder_text, type_binder, type_text, alts_text, alt_text, else_text, term_text, alt_step, term_step}

pub text_Var : (table : Table) (x : ℕ) (vs ts : Scope) → term_text table (c.Var x) vs ts ≡ codes "v" ++ decimal (level_of vs x)
text_Var table x vs ts = ap (λ t. term_text table t vs ts) (sym (c.rolls-Var x)) ∙ ap (λ f. f vs ts) (fold-roll-CoreTerm Text Text (alt_step table) (term_step table) (CoreTerm-F.Var x))

pub text_Int : (table : Table) (n : ℤ) (vs ts : Scope) → term_text table (c.Int n) vs ts ≡ codes "(int " ++ (signed_decimal n ++ codes ")")
text_Int table n vs ts = ap (λ t. term_text table t vs ts) (sym (c.rolls-Int n)) ∙ ap (λ f. f vs ts) (fold-roll-CoreTerm Text Text (alt_step table) (term_step table) (CoreTerm-F.CoreTerm::Int n))

pub text_Char : (table : Table) (n : ℕ) (vs ts : Scope) → term_text table (c.Char n) vs ts ≡ codes "(char " ++ (decimal n ++ codes ")")
text_Char table n vs ts = ap (λ t. term_text table t vs ts) (sym (c.rolls-Char n)) ∙ ap (λ f. f vs ts) (fold-roll-CoreTerm Text Text (alt_step table) (term_step table) (CoreTerm-F.CoreTerm::Char n))

pub text_Str : (table : Table) (cs : List ℕ) (vs ts : Scope) → term_text table (c.Str cs) vs ts ≡ codes "(string" ++ (numbers_text cs ++ codes ")")
text_Str table cs vs ts = ap (λ t. term_text table t vs ts) (sym (c.rolls-Str cs)) ∙ ap (λ f. f vs ts) (fold-roll-CoreTerm Text Text (alt_step table) (term_step table) (CoreTerm-F.Str cs))

pub text_Prim : (table : Table) (p : Origin) (place : Span) (ty : Option CoreType) (vs ts : Scope) → term_text table (c.Prim p place ty) vs ts ≡ codes "(prim " ++ (origin_text table p ++ (codes " " ++ (place_text place ++ (result_text table ty ts ++ codes ")"))))
text_Prim table p place ty vs ts = ap (λ t. term_text table t vs ts) (sym (c.rolls-Prim p place ty)) ∙ ap (λ f. f vs ts) (fold-roll-CoreTerm Text Text (alt_step table) (term_step table) (CoreTerm-F.Prim p place ty))

pub text_Lam : (table : Table) (x : ℕ) (ty : CoreType) (body : CoreTerm) (vs ts : Scope) → term_text table (c.Lam x ty body) vs ts ≡ codes "(lam " ++ (binder_text table (length vs) ty ts ++ (codes ") " ++ (term_text table body (within vs x) ts ++ codes ")")))
text_Lam table x ty body vs ts = ap (λ t. term_text table t vs ts) (sym (c.rolls-Lam x ty body)) ∙ ap (λ f. f vs ts) (fold-roll-CoreTerm Text Text (alt_step table) (term_step table) (CoreTerm-F.Lam x ty body))

pub text_App : (table : Table) (f e : CoreTerm) (vs ts : Scope) → term_text table (c.App f e) vs ts ≡ codes "(app " ++ (term_text table f vs ts ++ (codes " " ++ (term_text table e vs ts ++ codes ")")))
text_App table f e vs ts = ap (λ t. term_text table t vs ts) (sym (c.rolls-App f e)) ∙ ap (λ f. f vs ts) (fold-roll-CoreTerm Text Text (alt_step table) (term_step table) (CoreTerm-F.App f e))

pub text_TyLam : (table : Table) (x : ℕ) (kind : Kind) (body : CoreTerm) (vs ts : Scope) → term_text table (c.TyLam x kind body) vs ts ≡ codes "(tylam " ++ (type_binder (length ts) kind ++ (codes " " ++ (term_text table body vs (within ts x) ++ codes ")")))
text_TyLam table x kind body vs ts = ap (λ t. term_text table t vs ts) (sym (c.rolls-TyLam x kind body)) ∙ ap (λ f. f vs ts) (fold-roll-CoreTerm Text Text (alt_step table) (term_step table) (CoreTerm-F.TyLam x kind body))

pub text_TyApp : (table : Table) (f : CoreTerm) (ty : CoreType) (vs ts : Scope) → term_text table (c.TyApp f ty) vs ts ≡ codes "(tyapp " ++ (term_text table f vs ts ++ (codes " " ++ (type_text table ty ts ++ codes ")")))
text_TyApp table f ty vs ts = ap (λ t. term_text table t vs ts) (sym (c.rolls-TyApp f ty)) ∙ ap (λ f. f vs ts) (fold-roll-CoreTerm Text Text (alt_step table) (term_step table) (CoreTerm-F.TyApp f ty))

pub text_Stop : (table : Table) (place : Span) (ty : CoreType) (vs ts : Scope) → term_text table (c.Stop place ty) vs ts ≡ codes "(stop " ++ (place_text place ++ (codes " " ++ (type_text table ty ts ++ codes ")")))
text_Stop table place ty vs ts = ap (λ t. term_text table t vs ts) (sym (c.rolls-Stop place ty)) ∙ ap (λ f. f vs ts) (fold-roll-CoreTerm Text Text (alt_step table) (term_step table) (CoreTerm-F.Stop place ty))

pub text_Case_plain : (table : Table) (t : CoreTerm) (ty : CoreType) (alts : List CoreAlt) (vs ts : Scope) → term_text table (c.Case t ty alts None) vs ts ≡ codes "(case " ++ (term_text table t vs ts ++ (codes " " ++ (type_text table ty ts ++ (alts_text (map (alt_text table) alts) vs ts ++ ([] ++ codes ")")))))
text_Case_plain table t ty alts vs ts = ap (λ u. term_text table u vs ts) (sym (c.rolls-Case t ty alts None)) ∙ ap (λ f. f vs ts) (fold-roll-CoreTerm Text Text (alt_step table) (term_step table) (CoreTerm-F.Case t ty alts None))

pub text_Case_else : (table : Table) (t : CoreTerm) (ty : CoreType) (alts : List CoreAlt) (other : CoreTerm) (vs ts : Scope) → term_text table (c.Case t ty alts (Some other)) vs ts ≡ codes "(case " ++ (term_text table t vs ts ++ (codes " " ++ (type_text table ty ts ++ (alts_text (map (alt_text table) alts) vs ts ++ ((codes " (else " ++ (term_text table other vs ts ++ codes ")")) ++ codes ")")))))
text_Case_else table t ty alts other vs ts = ap (λ u. term_text table u vs ts) (sym (c.rolls-Case t ty alts (Some other))) ∙ ap (λ f. f vs ts) (fold-roll-CoreTerm Text Text (alt_step table) (term_step table) (CoreTerm-F.Case t ty alts (Some other)))

pub text_Case : (table : Table) (t : CoreTerm) (ty : CoreType) (alts : List CoreAlt) (o : Option CoreTerm) (vs ts : Scope) → term_text table (c.Case t ty alts o) vs ts ≡ codes "(case " ++ (term_text table t vs ts ++ (codes " " ++ (type_text table ty ts ++ (alts_text (map (alt_text table) alts) vs ts ++ (else_text (option_map (term_text table) o) vs ts ++ codes ")")))))
text_Case table t ty alts None vs ts = text_Case_plain table t ty alts vs ts
text_Case table t ty alts (Some other) vs ts = text_Case_else table t ty alts other vs ts

pub needs_Case : (t : CoreTerm) (ty : CoreType) (alts : List CoreAlt) (o : Option CoreTerm) → needs_term (c.Case t ty alts o) ≡ max (max (needs_term t) (needs_type ty)) (max (needs_all (map needs_alt alts)) (needs_else (option_map needs_term o)))
needs_Case t ty alts None = ap needs_term (sym (c.rolls-Case t ty alts None)) ∙ fold-roll-CoreTerm ℕ ℕ needs_alt_step needs_term_step (CoreTerm-F.Case t ty alts None)
needs_Case t ty alts (Some o) = ap needs_term (sym (c.rolls-Case t ty alts (Some o))) ∙ fold-roll-CoreTerm ℕ ℕ needs_alt_step needs_term_step (CoreTerm-F.Case t ty alts (Some o))
