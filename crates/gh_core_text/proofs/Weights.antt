-- The measure by which the writing of a term ends: its forms, counted at every depth.
use Rattle.std.proofs.Common.{◌≡◌, ◌+◌, List, [], ◌∷◌, refl, sym, ap, ◌∙◌, map}
use Rattle.std.specs.Prelude.{ℕ, suc, option_map, Option, Some, None}
use Rattle.gh_core.specs.declared.types.CoreType.{CoreType}
use Rattle.gh_core.specs.declared.terms.CoreTerm.{CoreTerm, fold-CoreTerm, fold-roll-CoreTerm}
use Rattle.gh_core.specs.declared.terms.CoreTerm.TheVariants as c
use Rattle.gh_core.specs.declared.terms.CoreAlt.{CoreAlt, fold-CoreAlt}
use Rattle.gh_core.specs.declared.terms.CoreAlt.TheOpen.{CoreAlt-F, CoreTerm-F}
use Rattle.gh_core.specs.declared.terms.CoreAlt.TheShapes.{former-CoreTerm-LetRec-0}

abbrev pub bindings_weight : {X : Type 0} → (X → ℕ) → List (ℕ × CoreType × X) → ℕ
bindings_weight weight [] = 0
bindings_weight weight (b ∷ bs) = weight b.2 + bindings_weight weight bs

abbrev pub all_weight : List ℕ → ℕ
all_weight [] = 0
all_weight (n ∷ ns) = n + all_weight ns

abbrev pub else_weight : Option ℕ → ℕ
else_weight None = 0
else_weight (Some n) = n

abbrev pub alt_weight_step : CoreAlt-F ℕ ℕ → ℕ
alt_weight_step (CoreAlt-F.CoreAlt::Con c xs t) = t
alt_weight_step (CoreAlt-F.CoreAlt::Int n t) = t
alt_weight_step (CoreAlt-F.CoreAlt::Char c t) = t

abbrev pub weight_step : CoreTerm-F ℕ ℕ → ℕ
weight_step (CoreTerm-F.Var x) = 1
weight_step (CoreTerm-F.Global name) = 1
weight_step (CoreTerm-F.CoreTerm::Con c) = 1
weight_step (CoreTerm-F.CoreTerm::Int n) = 1
weight_step (CoreTerm-F.CoreTerm::Char c) = 1
weight_step (CoreTerm-F.Str cs) = 1
weight_step (CoreTerm-F.Prim p place ty) = 1
weight_step (CoreTerm-F.Lam x ty body) = suc body
weight_step (CoreTerm-F.App f e) = suc (f + e)
weight_step (CoreTerm-F.TyLam x kind body) = suc body
weight_step (CoreTerm-F.TyApp f ty) = suc f
weight_step (CoreTerm-F.LetRec bs body) = suc (bindings_weight (λ n. n) bs + body)
weight_step (CoreTerm-F.Case t ty alts otherwise) = suc (t + (all_weight alts + else_weight otherwise))
weight_step (CoreTerm-F.Stop place ty) = 1

abbrev pub term_weight : CoreTerm → ℕ
term_weight = fold-CoreTerm ℕ ℕ alt_weight_step weight_step

abbrev pub alt_weight : CoreAlt → ℕ
alt_weight = fold-CoreAlt ℕ ℕ alt_weight_step weight_step

weight_mapped : (X : Type 0) (h : X → ℕ) (bs : List (ℕ × CoreType × X)) → bindings_weight (λ (n : ℕ). n) (former-CoreTerm-LetRec-0.map X ℕ h bs) ≡ bindings_weight h bs
weight_mapped X h [] = refl
weight_mapped X h (b ∷ bs) = ap (λ n. h b.2 + n) (weight_mapped X h bs)

pub letrec_weight : (bs : List (ℕ × CoreType × CoreTerm)) (body : CoreTerm) → term_weight (c.LetRec bs body) ≡ suc (bindings_weight term_weight bs + term_weight body)
letrec_weight bs body =
    ap term_weight (sym (c.rolls-LetRec bs body)) ∙ fold-roll-CoreTerm ℕ ℕ alt_weight_step weight_step (CoreTerm-F.LetRec bs body)
    ∙ ap (λ n. suc (n + term_weight body)) (weight_mapped CoreTerm term_weight bs)

pub case_weight : (t : CoreTerm) (ty : CoreType) (alts : List CoreAlt) (o : Option CoreTerm) → term_weight (c.Case t ty alts o) ≡ suc (term_weight t + (all_weight (map alt_weight alts) + else_weight (option_map term_weight o)))
case_weight t ty alts None = ap term_weight (sym (c.rolls-Case t ty alts None)) ∙ fold-roll-CoreTerm ℕ ℕ alt_weight_step weight_step (CoreTerm-F.Case t ty alts None)
case_weight t ty alts (Some o) = ap term_weight (sym (c.rolls-Case t ty alts (Some o))) ∙ fold-roll-CoreTerm ℕ ℕ alt_weight_step weight_step (CoreTerm-F.Case t ty alts (Some o))
