-- Laws of representations and of the paths to their layers.
use Rattle.std.proofs.Common.{◌≡◌, ℕ, zero, suc, ◌+◌, ◌<◌, ◌==◌, Bool, true, false, List, [], ◌∷◌, ◌++◌, length, map, replicate, slice_get, Some, if◌then◌else◌, refl, sym, ap, ◌∙◌, subst, arith, eq-eqb, ne_eqb, eqb-true}
use Rattle.gh_base.specs.declared.names.NameId.{NameId}
use Rattle.gh_base.specs.declared.fixed.TheConstants.{SUM}
use Rattle.gh_typeterm.specs.declared.decl.DeclCon.{DeclCon}
use Rattle.gh_typeterm.specs.declared.decl.DeclData.{DeclData}
use Rattle.gh_typeterm.specs.declared.ty.TyNode.{TyNode}
use Rattle.gh_typeterm.specs.declared.ty.TyNode.TheVariants as t
use Rattle.gh_typeterm.specs.Terms.{substituted, applied}
use Rattle.gh_typeterm.specs.Representation.{prelude_type, joined, sum_of, nested, layer_of, rep_of, paths_of, Leads}
use Rattle.gh_typeterm.proofs.Folds.{folds, App-injective}
use Rattle.gh_typeterm.proofs.Substitution.{substituted-applied}

-- one more type before others
pub nested-cons : (join : TyNode → TyNode → TyNode) (x : TyNode) (rest : List TyNode) → 0 < length rest → nested join (x ∷ rest) ≡ join x (nested join rest)
nested-cons join x [] h = absurd (omega arith)
nested-cons join x (y ∷ rest) h = refl

-- substitution goes through nests
pub substituted-nested : (by : List (ℕ × TyNode)) (name : NameId) (parts : List TyNode)
    → substituted by (nested (joined name) parts) ≡ nested (joined name) (map (substituted by) parts)
substituted-nested by name [] = simp folds
substituted-nested by name (x ∷ []) = refl
substituted-nested by name (x ∷ y ∷ rest) =
    let stays : substituted by (prelude_type name) ≡ prelude_type name = simp folds in
    substituted-applied by (prelude_type name) (x ∷ nested (joined name) (y ∷ rest) ∷ [])
    ∙ (λ i. applied (stays i) (substituted by x ∷ substituted-nested by name (y ∷ rest) i ∷ []))

same_test : (p q : Bool) → (p ≡ true → q ≡ true) → (q ≡ true → p ≡ true) → p ≡ q
same_test true q f g = sym (f refl)
same_test false true f g = g refl
same_test false false f g = refl

-- a constructor after the first one
pub paths_of-suc : (count index : ℕ) → paths_of (suc count) (suc index) ≡ true ∷ paths_of count index
paths_of-suc count index =
    let same : (suc index + 1 == suc count) ≡ (index + 1 == count) = same_test (suc index + 1 == suc count) (index + 1 == count)
    (λ h. let e = eqb-true (suc index + 1) (suc count) h in eq-eqb (index + 1) count (omega arith))
    (λ h. let e = eqb-true (index + 1) count h in eq-eqb (suc index + 1) (suc count) (omega arith)) in
    ap (λ b. true ∷ (replicate index true ++ (if b then [] else false ∷ []))) same

-- the first of several constructors
pub paths_of-zero : (count : ℕ) → paths_of (suc (suc count)) 0 ≡ false ∷ []
paths_of-zero count =
    let e : (1 == suc (suc count)) ≡ false = ne_eqb 1 (suc (suc count)) (λ e. omega arith) in
    ap (λ b. if b then [] else false ∷ []) e

-- the number of injections to the right
abbrev rights : List Bool → ℕ
rights [] = 0
rights (true ∷ path) = 1 + rights path
rights (false ∷ path) = rights path

rights_choice : (n : ℕ) (b : Bool) → rights (replicate n true ++ (if b then [] else false ∷ [])) ≡ n
rights_choice zero true = refl
rights_choice zero false = refl
rights_choice (suc n) b = let e = rights_choice n b in omega arith

-- different constructors have different paths
pub paths_differ : (count index other : ℕ) → paths_of count index ≡ paths_of count other → other ≡ index
paths_differ count index other e =
    sym (rights_choice other (other + 1 == count)) ∙ sym (ap rights e) ∙ rights_choice index (index + 1 == count)

layers_lead : (cons : List DeclCon) (index : ℕ) (con : DeclCon) → slice_get cons index ≡ Some con
    → Leads (paths_of (length cons) index) (nested sum_of (map layer_of cons)) (layer_of con)
layers_lead [] index con h = absurd (cc)
layers_lead (c ∷ []) zero con h = ap layer_of (let e : c ≡ con = cc in e)
layers_lead (c ∷ []) (suc index) con h = absurd (cc)
layers_lead (c ∷ d ∷ cons) zero con h =
    let all = map layer_of (d ∷ cons) in
    let path : List Bool → Type 0 = λ p. Leads p (nested sum_of (map layer_of (c ∷ d ∷ cons))) (layer_of con) in
    subst path (sym (paths_of-zero (length cons))) (layer_of c, nested sum_of all, refl, ap layer_of (let e : c ≡ con = cc in e))
layers_lead (c ∷ d ∷ cons) (suc index) con h =
    let all = map layer_of (d ∷ cons) in
    let path : List Bool → Type 0 = λ p. Leads p (nested sum_of (map layer_of (c ∷ d ∷ cons))) (layer_of con) in
    subst path (sym (paths_of-suc (length (d ∷ cons)) index))
    (layer_of c, nested sum_of all, refl, layers_lead (d ∷ cons) index con h)

-- the path of each constructor leads from the representation to its layer
pub paths_lead : (decl : DeclData) (count index : ℕ) (con : DeclCon) → length decl.constructors ≡ count → slice_get decl.constructors index ≡ Some con
    → Leads (paths_of count index) (rep_of decl) (layer_of con)
paths_lead decl count index con e h =
    subst (λ n. Leads (paths_of n index) (rep_of decl) (layer_of con)) e (layers_lead decl.constructors index con h)

-- a path leads to one type only
pub leads_unique : (path : List Bool) (from one other : TyNode) → Leads path from one → Leads path from other → one ≡ other
leads_unique [] from one other p q = sym p ∙ q
leads_unique (false ∷ path) from one other p q =
    let parts = App-injective (t.App (prelude_type SUM) p.0) p.1 (t.App (prelude_type SUM) q.0) q.1 (sym p.2 ∙ q.2) in
    let left = App-injective (prelude_type SUM) p.0 (prelude_type SUM) q.0 parts.0 in
    leads_unique path q.0 one other (subst (λ u. Leads path u one) left.1 p.3) q.3
leads_unique (true ∷ path) from one other p q =
    let parts = App-injective (t.App (prelude_type SUM) p.0) p.1 (t.App (prelude_type SUM) q.0) q.1 (sym p.2 ∙ q.2) in
    leads_unique path q.1 one other (subst (λ u. Leads path u one) parts.1 p.3) q.3
