-- The term of core without types is the plain tree of the typed term, its types taken away.
use Rattle.std.proofs.Common.{◌≡◌, ℕ, List, [], ◌∷◌, map, Some, None, refl, sym, ap, ◌∙◌, subst}
use Rattle.gh_core.specs.declared.types.CoreType.{CoreType}
use Rattle.gh_core.specs.declared.terms.CoreTerm.{CoreTerm, map-CoreTerm, ind-CoreTerm, roll-CoreTerm, fold-roll-CoreTerm}
use Rattle.gh_core.specs.declared.terms.CoreAlt.{CoreAlt, map-CoreAlt, roll-CoreAlt, fold-roll-CoreAlt}
use Rattle.gh_core.specs.declared.terms.CoreAlt.TheShapes.{former-CoreTerm-LetRec-0}
use Rattle.gh_core.specs.declared.terms.CoreAlt.TheOpen.{CoreTerm-F, CoreAlt-F}
use Rattle.gh_core.specs.declared.erased.ErasedTerm.{ErasedTerm}
use Rattle.gh_core.specs.declared.erased.ErasedAlt.{ErasedAlt}
use Rattle.gh_core.specs.Erase.{erased, erased_alt, erased_step, erased_alt_step, binding_step}
use Rattle.gh_core.specs.Reading.{term_of, alt_of, binds_of, alts_of}
use Rattle.gh_core.specs.Read.{bind_of, term_of-Var, term_of-Global, term_of-Con, term_of-Int, term_of-Char, term_of-Str, term_of-Prim, term_of-Lam, term_of-App, term_of-Stop, term_of-LetRec, term_of-Case, alt_of-Con, alt_of-Int, alt_of-Char}
use Rattle.gh_core.specs.Terms.{Term, Alt, lam, app, letrec, cases, con_alt, lit_alt, int, char, bind, else_to, alt}
use Rattle.gh_core.specs.Typing.{Code, Branch, code_of, branch_step, code_step, bindings_of, branches_of}
use Rattle.gh_adapt.specs.Strip.{strip, strip_bindings, strip_branch, strip_branches}
use Rattle.gh_adapt.specs.Typed.{branch_of}

abbrev KeepsAlt : CoreAlt → Type 0
KeepsAlt b = alt_of (erased_alt b) ≡ strip_branch (branch_of b)

abbrev KeepsTerm : CoreTerm → Type 0
KeepsTerm e = term_of (erased e) ≡ strip (code_of e)

abbrev KAlt : Type 0
KAlt = (b : CoreAlt) × KeepsAlt b

abbrev KTerm : Type 0
KTerm = (e : CoreTerm) × KeepsTerm e

abbrev Open : Type 0
Open = CoreTerm-F CoreAlt CoreTerm

term_by : (F : Open) (u : ErasedTerm) (c : Code) (m : Term) → erased (roll-CoreTerm F) ≡ u → code_of (roll-CoreTerm F) ≡ c → term_of u ≡ m → m ≡ strip c → KeepsTerm (roll-CoreTerm F)
term_by F u c m e k r s = ap term_of e ∙ r ∙ s ∙ sym (ap strip k)

out : (F : Open) → erased (roll-CoreTerm F) ≡ erased_step (map-CoreTerm CoreAlt CoreTerm ErasedAlt ErasedTerm erased_alt erased F)
out F = fold-roll-CoreTerm ErasedAlt ErasedTerm erased_alt_step erased_step F

seen : (F : Open) → code_of (roll-CoreTerm F) ≡ code_step (map-CoreTerm CoreAlt CoreTerm Branch Code branch_of code_of F)
seen F = fold-roll-CoreTerm Branch Code branch_step code_step F

binds_keep : (y : List (ℕ × CoreType × KTerm))
    → binds_of (map bind_of (map binding_step (former-CoreTerm-LetRec-0.map CoreTerm ErasedTerm erased (former-CoreTerm-LetRec-0.map KTerm CoreTerm (λ e. e.0) y))))
    ≡ strip_bindings (bindings_of (former-CoreTerm-LetRec-0.map CoreTerm Code code_of (former-CoreTerm-LetRec-0.map KTerm CoreTerm (λ e. e.0) y)))
binds_keep [] = refl
binds_keep (b ∷ y) = λ i. bind b.0 (b.2.1 i) (binds_keep y i)

alts_keep : (y : List KAlt) → alts_of (map alt_of (map erased_alt (map (λ e. e.0) y))) None ≡ strip_branches (branches_of (map branch_of (map (λ e. e.0) y)) None)
alts_keep [] = refl
alts_keep (b ∷ y) = λ i. alt (b.1 i) (alts_keep y i)

alts_keep_else : (y : List KAlt) (o : KTerm) → alts_of (map alt_of (map erased_alt (map (λ e. e.0) y))) (Some (term_of (erased o.0))) ≡ strip_branches (branches_of (map branch_of (map (λ e. e.0) y)) (Some (code_of o.0)))
alts_keep_else [] o = ap else_to o.1
alts_keep_else (b ∷ y) o = λ i. alt (b.1 i) (alts_keep_else y o i)

term_layer : (y : CoreTerm-F KAlt KTerm) → KeepsTerm (roll-CoreTerm (map-CoreTerm KAlt KTerm CoreAlt CoreTerm (λ e. e.0) (λ e. e.0) y))
term_layer (CoreTerm-F.Var x) = let F : Open = CoreTerm-F.Var x in term_by F _ _ _ (out F) (seen F) (term_of-Var x) refl
term_layer (CoreTerm-F.Global n) = let F : Open = CoreTerm-F.Global n in term_by F _ _ _ (out F) (seen F) (term_of-Global n) refl
term_layer (CoreTerm-F.CoreTerm::Con c) = let F : Open = CoreTerm-F.CoreTerm::Con c in term_by F _ _ _ (out F) (seen F) (term_of-Con c) refl
term_layer (CoreTerm-F.CoreTerm::Int n) = let F : Open = CoreTerm-F.CoreTerm::Int n in term_by F _ _ _ (out F) (seen F) (term_of-Int n) refl
term_layer (CoreTerm-F.CoreTerm::Char c) = let F : Open = CoreTerm-F.CoreTerm::Char c in term_by F _ _ _ (out F) (seen F) (term_of-Char c) refl
term_layer (CoreTerm-F.Str cs) = let F : Open = CoreTerm-F.Str cs in term_by F _ _ _ (out F) (seen F) (term_of-Str cs) refl
term_layer (CoreTerm-F.Prim p place ty) = let F : Open = CoreTerm-F.Prim p place ty in term_by F _ _ _ (out F) (seen F) (term_of-Prim p place) refl
term_layer (CoreTerm-F.Lam x ty b) = let F : Open = CoreTerm-F.Lam x ty b.0 in term_by F _ _ _ (out F) (seen F) (term_of-Lam x (erased b.0)) (ap (lam x) b.1)
term_layer (CoreTerm-F.App f e) = let F : Open = CoreTerm-F.App f.0 e.0 in term_by F _ _ _ (out F) (seen F) (term_of-App (erased f.0) (erased e.0)) (λ i. app (f.1 i) (e.1 i))
term_layer (CoreTerm-F.TyLam x k b) = let F : Open = CoreTerm-F.TyLam x k b.0 in term_by F _ _ _ (out F) (seen F) b.1 refl
term_layer (CoreTerm-F.TyApp f ty) = let F : Open = CoreTerm-F.TyApp f.0 ty in term_by F _ _ _ (out F) (seen F) f.1 refl
term_layer (CoreTerm-F.LetRec bs b) =
    let F : Open = CoreTerm-F.LetRec (former-CoreTerm-LetRec-0.map KTerm CoreTerm (λ e. e.0) bs) b.0 in
    term_by F _ _ _ (out F) (seen F)
    (term_of-LetRec (map binding_step (former-CoreTerm-LetRec-0.map CoreTerm ErasedTerm erased (former-CoreTerm-LetRec-0.map KTerm CoreTerm (λ e. e.0) bs))) (erased b.0))
    (λ i. letrec (binds_keep bs i) (b.1 i))
term_layer (CoreTerm-F.Case e ty alts None) =
    let F : Open = CoreTerm-F.Case e.0 ty (map (λ e. e.0) alts) None in
    term_by F _ _ _ (out F) (seen F) (term_of-Case (erased e.0) (map erased_alt (map (λ e. e.0) alts)) None) (λ i. cases (e.1 i) (alts_keep alts i))
term_layer (CoreTerm-F.Case e ty alts (Some o)) =
    let F : Open = CoreTerm-F.Case e.0 ty (map (λ e. e.0) alts) (Some o.0) in
    term_by F _ _ _ (out F) (seen F) (term_of-Case (erased e.0) (map erased_alt (map (λ e. e.0) alts)) (Some (erased o.0))) (λ i. cases (e.1 i) (alts_keep_else alts o i))
term_layer (CoreTerm-F.Stop place ty) = let F : Open = CoreTerm-F.Stop place ty in term_by F _ _ _ (out F) (seen F) (term_of-Stop place) refl

alt_by : (F : CoreAlt-F CoreAlt CoreTerm) (u : ErasedAlt) (c : Branch) (m : Alt) → erased_alt (roll-CoreAlt F) ≡ u → branch_of (roll-CoreAlt F) ≡ c → alt_of u ≡ m → m ≡ strip_branch c → KeepsAlt (roll-CoreAlt F)
alt_by F u c m e k r s = ap alt_of e ∙ r ∙ s ∙ sym (ap strip_branch k)

alt_out : (F : CoreAlt-F CoreAlt CoreTerm) → erased_alt (roll-CoreAlt F) ≡ erased_alt_step (map-CoreAlt CoreAlt CoreTerm ErasedAlt ErasedTerm erased_alt erased F)
alt_out F = fold-roll-CoreAlt ErasedAlt ErasedTerm erased_alt_step erased_step F

alt_seen : (F : CoreAlt-F CoreAlt CoreTerm) → branch_of (roll-CoreAlt F) ≡ branch_step (map-CoreAlt CoreAlt CoreTerm Branch Code branch_of code_of F)
alt_seen F = fold-roll-CoreAlt Branch Code branch_step code_step F

alt_layer : (y : CoreAlt-F KAlt KTerm) → KeepsAlt (roll-CoreAlt (map-CoreAlt KAlt KTerm CoreAlt CoreTerm (λ e. e.0) (λ e. e.0) y))
alt_layer (CoreAlt-F.CoreAlt::Con c xs e) = let F : CoreAlt-F CoreAlt CoreTerm = CoreAlt-F.CoreAlt::Con c xs e.0 in alt_by F _ _ _ (alt_out F) (alt_seen F) (alt_of-Con c xs (erased e.0)) (ap (con_alt c xs) e.1)
alt_layer (CoreAlt-F.CoreAlt::Int n e) = let F : CoreAlt-F CoreAlt CoreTerm = CoreAlt-F.CoreAlt::Int n e.0 in alt_by F _ _ _ (alt_out F) (alt_seen F) (alt_of-Int n (erased e.0)) (ap (lit_alt (int n)) e.1)
alt_layer (CoreAlt-F.CoreAlt::Char c e) = let F : CoreAlt-F CoreAlt CoreTerm = CoreAlt-F.CoreAlt::Char c e.0 in alt_by F _ _ _ (alt_out F) (alt_seen F) (alt_of-Char c (erased e.0)) (ap (lit_alt (char c)) e.1)

pub erasure_strips : (e : CoreTerm) → term_of (erased e) ≡ strip (code_of e)
erasure_strips e = ind-CoreTerm KeepsAlt KeepsTerm (λ x y is. subst (λ z. KeepsAlt (roll-CoreAlt z)) is (alt_layer y)) (λ x y is. subst (λ z. KeepsTerm (roll-CoreTerm z)) is (term_layer y)) e
