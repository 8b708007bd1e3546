-- How the text of a term, and the names that it needs, go through recursive bindings.
use Rattle.std.proofs.Common.{◌≡◌, ◌+◌, ◌++◌, List, [], ◌∷◌, refl, sym, ap, ◌∙◌}
use Rattle.std.specs.Prelude.{ℕ, suc, max, length, codes}
use Rattle.gh_core.specs.declared.types.CoreType.{CoreType}
use Rattle.gh_core.specs.declared.terms.CoreTerm.{CoreTerm, fold-roll-CoreTerm}
use Rattle.gh_core.specs.declared.terms.CoreTerm.TheVariants as c
use Rattle.gh_core.specs.declared.terms.CoreAlt.TheShapes.{former-CoreTerm-LetRec-0}
use Rattle.gh_core.specs.declared.terms.CoreAlt.TheOpen.{CoreTerm-F}
use Rattle.gh_core.specs.Levels.{Scope, within_list}
use Rattle.gh_core_text.specs.Needs.{needs_type, needs_bindings, needs_term, needs_alt_step, needs_term_step}
use Rattle.gh_core.specs.Text.{Table, Text, gap, binding_text, bindings_text, binders_of, letrec_text, term_text, alt_step, term_step}

binders_mapped : (X Y : Type 0) (h : X → Y) (bs : List (ℕ × CoreType × X)) → binders_of (former-CoreTerm-LetRec-0.map X Y h bs) ≡ binders_of bs
binders_mapped X Y h [] = refl
binders_mapped X Y h (b ∷ bs) = ap (λ xs. b.0 ∷ xs) (binders_mapped X Y h bs)

bindings_mapped : (X : Type 0) (table : Table) (h : X → Text) (base place : ℕ) (bs : List (ℕ × CoreType × X)) (vs ts : Scope)
    → bindings_text table (λ (t : Text). t) base place (former-CoreTerm-LetRec-0.map X Text h bs) vs ts ≡ bindings_text table h base place bs vs ts
bindings_mapped X table h base place [] vs ts = refl
bindings_mapped X table h base place (b ∷ bs) vs ts =
    ap (λ z. gap place ++ (binding_text table h (base + place) b vs ts ++ z)) (bindings_mapped X table h base (suc place) bs vs ts)

needs_mapped : (X : Type 0) (h : X → ℕ) (bs : List (ℕ × CoreType × X)) → needs_bindings (λ (n : ℕ). n) (former-CoreTerm-LetRec-0.map X ℕ h bs) ≡ needs_bindings h bs
needs_mapped X h [] = refl
needs_mapped X h (b ∷ bs) = ap (λ n. max (max (needs_type b.1) (h b.2)) n) (needs_mapped X h bs)

abbrev around : Table → List ℕ → Scope → (Scope → List ℕ) → List ℕ → Scope → List ℕ
around table bindings vs body binders ts = codes "(letrec (" ++ (bindings ++ (codes ") " ++ (body (within_list vs binders) ++ codes ")")))

pub letrec_out : (table : Table) (bs : List (ℕ × CoreType × CoreTerm)) (body : CoreTerm) (vs ts : Scope)
    → term_text table (c.LetRec bs body) vs ts ≡ letrec_text table (term_text table) bs (λ ws. term_text table body ws ts) vs ts
letrec_out table bs body vs ts =
    ap (λ t. term_text table t vs ts) (sym (c.rolls-LetRec bs body))
    ∙ ap (λ f. f vs ts) (fold-roll-CoreTerm Text Text (alt_step table) (term_step table) (CoreTerm-F.LetRec bs body))
    ∙ ap (λ xs. around table (bindings_text table (λ (t : Text). t) (length vs) 0 (former-CoreTerm-LetRec-0.map CoreTerm Text (term_text table) bs) (within_list vs xs) ts) vs (λ ws. term_text table body ws ts) xs ts) (binders_mapped CoreTerm Text (term_text table) bs)
    ∙ ap (λ z. around table z vs (λ ws. term_text table body ws ts) (binders_of bs) ts) (bindings_mapped CoreTerm table (term_text table) (length vs) 0 bs (within_list vs (binders_of bs)) ts)

pub letrec_needs : (bs : List (ℕ × CoreType × CoreTerm)) (body : CoreTerm) → needs_term (c.LetRec bs body) ≡ max (needs_bindings needs_term bs) (needs_term body)
letrec_needs bs body =
    ap needs_term (sym (c.rolls-LetRec bs body)) ∙ fold-roll-CoreTerm ℕ ℕ needs_alt_step needs_term_step (CoreTerm-F.LetRec bs body)
    ∙ ap (λ n. max n (needs_term body)) (needs_mapped CoreTerm needs_term bs)
