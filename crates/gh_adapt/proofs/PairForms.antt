-- Pairs of conversions form by form, and without their types.
use Rattle.std.proofs.Common.{◌≡◌, ℕ, zero, suc, List, [], ◌∷◌, length, map, slice_get, unwrap_or, option_map, Option, Some, None, Result, Ok, Err, IfOk, refl, sym, ap, ◌∙◌}
use Rattle.std.proofs.lemmas.Option.{slice_get-map}
use Rattle.gh_base.specs.declared.place.TyCon.{TyCon}
use Rattle.gh_base.specs.declared.place.TyCon.TheVariants as tycon
use Rattle.gh_typeterm.specs.declared.kind.Kind.{Kind}
use Rattle.gh_typeterm.specs.declared.decl.DeclCon.{DeclCon}
use Rattle.gh_typeterm.specs.declared.decl.DeclData.{DeclData}
use Rattle.gh_typeterm.specs.declared.ty.TyNode.{TyNode, fold-TyNode}
use Rattle.gh_typeterm.specs.declared.ty.TyNode.TheVariants as ty
use Rattle.gh_typeterm.proofs.Folds.{fold-Con, fold-Var, fold-App, fold-Name, term_induction}
use Rattle.gh_core.specs.declared.terms.CoreTerm.{CoreTerm}
use Rattle.gh_core.specs.SameType.{Nameless}
use Rattle.gh_core.specs.Terms.{Term, var, lam, app, cases, con_alt, alt}
use Rattle.gh_core.specs.Typing.{Code, a_con, a_stop, an_app, a_tyapp, a_var, branches_of, code_of}
use Rattle.gh_kind_index.specs.KindIndex.{base_at}
use Rattle.gh_adapt.specs.declared.ways.Way.{Way}
use Rattle.gh_adapt.specs.declared.ways.Way.TheVariants.{Forth, Back}
use Rattle.gh_adapt.specs.Conversions.{nowhere, applied_all, made, field_names}
use Rattle.gh_adapt.specs.Pairs.{select, id_pair, head_pair, pair_step, pair_at, given, adapter_of, params, rebuilt_fields, rebuilding, lams, bimap_of, pair_of}
use Rattle.gh_adapt.specs.Strip.{strip, strip_branches}
use Rattle.gh_adapt.specs.Typed.{self_type, types_given}
use Rattle.gh_adapt.specs.TypedPairs.{id_code, head_code, leaf_code, pair_step_code, pair_at_code, converted_code, adapter_code, every_second, param_codes, target, rebuilt_code, rebuilding_branch, with_params, bimap_code}
use Rattle.gh_adapt.specs.Untyped.{untyped}
use Rattle.gh_adapt.proofs.Erasures.{erasure_strips}

abbrev folded : List Nameless → List Nameless → List Nameless → List Code → TyNode → TyNode × Code
folded l r o ps t = fold-TyNode (TyNode × Code) (pair_step_code l r o ps) t

type_kept : (l r o : List Nameless) (ps : List Code) (t : TyNode) → (folded l r o ps t).0 ≡ t
type_kept l r o ps = term_induction (λ t. (folded l r o ps t).0 ≡ t)
    (λ c. ap (λ p. p.0) (fold-Con (TyNode × Code) (pair_step_code l r o ps) c))
    (λ x. ap (λ p. p.0) (fold-Var (TyNode × Code) (pair_step_code l r o ps) x))
    (λ f s p q. ap (λ p. p.0) (fold-App (TyNode × Code) (pair_step_code l r o ps) f s) ∙ (λ i. ty.App (p i) (q i)))
    (λ n. ap (λ p. p.0) (fold-Name (TyNode × Code) (pair_step_code l r o ps) n))

pub pair_con : (l r o : List Nameless) (ps : List Code) (c : TyCon) → pair_at_code l r o ps (ty.Con c) ≡ head_code c
pair_con l r o ps c = ap (λ p. p.1) (fold-Con (TyNode × Code) (pair_step_code l r o ps) c)

pub pair_var : (l r o : List Nameless) (ps : List Code) (x : ℕ) → pair_at_code l r o ps (ty.Var x) ≡ leaf_code l o ps x
pair_var l r o ps x = ap (λ p. p.1) (fold-Var (TyNode × Code) (pair_step_code l r o ps) x)

pub pair_app : (l r o : List Nameless) (ps : List Code) (f s : TyNode)
    → pair_at_code l r o ps (ty.App f s) ≡ an_app (a_tyapp (a_tyapp (pair_at_code l r o ps f) (base_at l o s)) (base_at r o s)) (pair_at_code l r o ps s)
pair_app l r o ps f s =
    ap (λ p. p.1) (fold-App (TyNode × Code) (pair_step_code l r o ps) f s)
    ∙ ap (λ t. an_app (a_tyapp (a_tyapp (pair_at_code l r o ps f) (base_at l o t)) (base_at r o t)) (pair_at_code l r o ps s)) (type_kept l r o ps s)

-- an application, from what its parts and the types are
pub application_seen : (l r o : List Nameless) (ps : List Code) (t f s : TyNode) (head one two argument made : Code) (a b : Nameless)
    → t ≡ ty.App f s → head ≡ pair_at_code l r o ps f → a ≡ base_at l o s → b ≡ base_at r o s → one ≡ a_tyapp head a → two ≡ a_tyapp one b
    → argument ≡ pair_at_code l r o ps s → made ≡ an_app two argument → made ≡ pair_at_code l r o ps t
application_seen l r o ps t f s head one two argument made a b et eh ea eb e1 e2 eg em =
    em ∙ (λ i. an_app ((e2 ∙ (λ j. a_tyapp ((e1 ∙ (λ k. a_tyapp (eh k) (ea k))) j) (eb j))) i) (eg i)) ∙ sym (pair_app l r o ps f s) ∙ ap (pair_at_code l r o ps) (sym et)

pub if_ok : {A E : Type 0} (r : Result A E) (P Q : A → Type 0) → ((x : A) → P x → Q x) → IfOk r P → IfOk r Q
if_ok (Ok x) P Q more h = more x h
if_ok (Err e) P Q more h = tt

-- ---- without types

head_stripped : (c : TyCon) → strip (head_code c) ≡ head_pair c
head_stripped (tycon.Named o) = refl
head_stripped tycon.Arrow = refl
head_stripped tycon.Int = refl
head_stripped tycon.Char = refl
head_stripped (tycon.ConOf o) = refl

leaf_by : (o : Option Code) (a : Nameless) → strip (unwrap_or o (id_code a)) ≡ unwrap_or (option_map strip o) id_pair
leaf_by None a = refl
leaf_by (Some e) a = refl

pub pair_stripped : (l r o : List Nameless) (ps : List Code) (t : TyNode) → strip (pair_at_code l r o ps t) ≡ pair_at (given (map strip ps)) t
pair_stripped l r o ps = term_induction (λ t. strip (pair_at_code l r o ps t) ≡ pair_at (given (map strip ps)) t)
    (λ c. ap strip (pair_con l r o ps c) ∙ head_stripped c ∙ sym (fold-Con Term (pair_step (given (map strip ps))) c))
    (λ x. ap strip (pair_var l r o ps x) ∙ leaf_by (slice_get ps x) (base_at l o (ty.Var x)) ∙ ap (λ m. unwrap_or m id_pair) (sym (slice_get-map strip ps x))
    ∙ sym (fold-Var Term (pair_step (given (map strip ps))) x))
    (λ f s p q. ap strip (pair_app l r o ps f s) ∙ (λ i. app (p i) (q i)) ∙ sym (fold-App Term (pair_step (given (map strip ps))) f s))
    (λ n. ap (λ p. strip p.1) (fold-Name (TyNode × Code) (pair_step_code l r o ps) n) ∙ sym (fold-Name Term (pair_step (given (map strip ps))) n))

converted_stripped : (way : Way) (l r o : List Nameless) (ps : List Code) (t : TyNode) → strip (converted_code way l r o ps t) ≡ select way (pair_at (given (map strip ps)) t)
converted_stripped way l r o ps t = ap (select way) (pair_stripped l r o ps t)

untyped_are : (ts : List CoreTerm) → map strip (map code_of ts) ≡ map untyped ts
untyped_are [] = refl
untyped_are (t ∷ ts) = λ i. sym (erasure_strips t) i ∷ untyped_are ts i

pub adapter_seen : (t : CoreTerm) (base : TyNode) (l r o : List Nameless) (pairs : List CoreTerm) → code_of t ≡ adapter_code base l r o (map code_of pairs) → untyped t ≡ adapter_of (map untyped pairs) base
adapter_seen t base l r o pairs e =
    erasure_strips t ∙ ap strip e ∙ converted_stripped Back l r o (map code_of pairs) base ∙ ap (λ ps. select Back (pair_at (given ps) base)) (untyped_are pairs)

-- ---- datatypes

params_stripped : (i n : ℕ) → map strip (param_codes i n) ≡ params i n
params_stripped i zero = refl
params_stripped i (suc n) = ap (λ l. var i ∷ l) (params_stripped (suc i) n)

types_stripped : (ts : List Nameless) (f : Code) → strip (types_given f ts) ≡ strip f
types_stripped [] f = refl
types_stripped (t ∷ ts) f = types_stripped ts (a_tyapp f t)

fields_stripped : (way : Way) (l r : List Nameless) (ps : List Code) (fields : List TyNode) (f : Code) (i : ℕ)
    → strip (rebuilt_code way l r ps f i fields) ≡ applied_all (strip f) (rebuilt_fields way (map strip ps) i fields)
fields_stripped way l r ps [] f i = refl
fields_stripped way l r ps (t ∷ ts) f i =
    fields_stripped way l r ps ts (an_app f (an_app (converted_code way l r [] ps t) (a_var (suc i)))) (suc i)
    ∙ ap (λ e. applied_all (app (strip f) (app e (var (suc i)))) (rebuilt_fields way (map strip ps) (suc i) ts)) (converted_stripped way l r [] ps t)

rows_stripped : (way : Way) (l r : List Nameless) (n : ℕ) (a : Nameless) (cs : List DeclCon)
    → strip_branches (branches_of (map (rebuilding_branch way l r (param_codes 0 n) n) cs) (Some (a_stop nowhere a))) ≡ rebuilding way n cs
rows_stripped way l r n a [] = refl
rows_stripped way l r n a (c ∷ cs) =
    λ j. alt (con_alt c.origin (field_names n (length c.fields))
    ((fields_stripped way l r (param_codes 0 n) c.fields (types_given (a_con c.origin) (target way l r)) n
    ∙ ap (λ f. applied_all f (rebuilt_fields way (map strip (param_codes 0 n)) n c.fields)) (types_stripped (target way l r) (a_con c.origin))
    ∙ ap (λ ps. made c.origin (rebuilt_fields way ps n c.fields)) (params_stripped 0 n)) j))
    (rows_stripped way l r n a cs j)

with_stripped : (i : ℕ) (ks : List Kind) (b : Code) → strip (with_params i ks b) ≡ lams i (length ks) (strip b)
with_stripped i [] b = refl
with_stripped i (k ∷ ks) b = ap (lam i) (with_stripped (suc i) ks b)

pub bimap_seen : (t : CoreTerm) (d : DeclData) → code_of t ≡ bimap_code d → untyped t ≡ bimap_of d
bimap_seen t d e =
    let n = length d.params in
    let l = every_second 0 n in
    let r = every_second 1 n in
    erasure_strips t ∙ ap strip e ∙ with_stripped 0 d.params _
    ∙ (λ i. lams 0 n (pair_of (lam n (cases (var n) (rows_stripped Forth l r n (self_type d r) d.constructors i))) (lam n (cases (var n) (rows_stripped Back l r n (self_type d l) d.constructors i)))))
