-- The conversions without their types.
use Rattle.std.proofs.Common.{◌≡◌, ℕ, zero, suc, ◌+◌, ◌<◌, true, false, ◌==◌, List, [], ◌∷◌, ◌++◌, length, map, replicate, if◌then◌else◌, Some, refl, sym, ap, ◌∙◌, subst, arith}
use Rattle.std.proofs.lemmas.List.{length-map}
use Rattle.std.proofs.lemmas.Bool.{eqb-true}
use Rattle.gh_base.specs.declared.fixed.TheConstants.{UNIT, PRODUCT, CON, INL, INR}
use Rattle.gh_typeterm.specs.declared.kind.Kind.{Kind}
use Rattle.gh_typeterm.specs.declared.decl.DeclCon.{DeclCon}
use Rattle.gh_typeterm.specs.declared.decl.DeclData.{DeclData}
use Rattle.gh_typeterm.specs.declared.ty.TyNode.{TyNode}
use Rattle.gh_typeterm.specs.Representation.{layer_of, paths_of}
use Rattle.gh_core.specs.declared.terms.CoreTerm.{CoreTerm}
use Rattle.gh_core.specs.Erase.{erased}
use Rattle.gh_core.specs.Reading.{term_of}
use Rattle.gh_core.specs.Primitives.{prelude_value}
use Rattle.gh_core.specs.SameType.{Nameless}
use Rattle.gh_core.specs.Terms.{Term, var, con, lam, app, cases, con_alt, alt}
use Rattle.gh_core.specs.Typing.{Code, a_stop, a_con, branches_of, code_of, placed, Program, HasType}
use Rattle.gh_kind_index.specs.KindIndex.{variables_from}
use Rattle.gh_adapt.specs.Conversions.{nowhere, here, failing, field_names, field_vars, applied_all, made, product, injected, from_alts, from_of, apart, layer_case, to_case, to_of}
use Rattle.gh_adapt.specs.Goes.{FromGoes, FromNewtypeGoes, ToGoes}
use Rattle.gh_adapt.specs.Strip.{strip, strip_branches}
use Rattle.gh_adapt.specs.Typed.{sum_at, self_type, tylams, product_code, injected_code, layer_code, from_branches, from_code, types_given, fields_given, con_at, apart_code, layer_case_code, to_case_code, to_code}
use Rattle.gh_adapt.specs.Types.{Knows, from_type, to_type}
use Rattle.gh_adapt.proofs.Erasures.{erasure_strips}
use Rattle.gh_adapt.proofs.FromRuns.{from_goes, from_newtype_goes}
use Rattle.gh_adapt.proofs.FromTyped.{from_typed}
use Rattle.gh_adapt.proofs.Running.{equal_is, unequal_is}
use Rattle.gh_adapt.proofs.ToRuns.{to_goes}
use Rattle.gh_adapt.proofs.ToTyped.{to_typed}

tylams_stripped : (level : ℕ) (ks : List Kind) (b : Code) → strip (tylams level ks b) ≡ strip b
tylams_stripped level [] b = refl
tylams_stripped level (k ∷ ks) b = tylams_stripped (suc level) ks b

product_stripped : (ts : List Nameless) (i : ℕ) (fields : List TyNode) → strip (product_code ts i fields) ≡ product (field_vars i (length fields))
product_stripped ts i [] = refl
product_stripped ts i (t ∷ []) = refl
product_stripped ts i (t ∷ u ∷ us) = ap (app (app (con (prelude_value PRODUCT)) (var (suc i)))) (product_stripped ts (suc i) (u ∷ us))

-- two tests that are true together
same_test : (a b c d : ℕ) → (a ≡ b → c ≡ d) → (c ≡ d → a ≡ b) → (a == b) ≡ (c == d)
same_test a b c d there back =
    elim (c == d) as (λ t. (c == d) ≡ t → (a == b) ≡ (c == d)) [
      | true ↦ (λ e. equal_is a b (back (eqb-true c d e)) ∙ sym e)
      | false ↦ (λ e. unequal_is a b (λ h. let k = equal_is c d (there h) in absurd (cc)) ∙ sym e)
    ] refl

further_path : (n i : ℕ) → paths_of (suc (suc n)) (suc i) ≡ true ∷ paths_of (suc n) i
further_path n i =
    ap (λ b. true ∷ (replicate i true ++ (if b then [] else false ∷ []))) (same_test (suc i + 1) (suc (suc n)) (i + 1) (suc n) (λ e. omega arith) (λ e. omega arith))

first_path : (n : ℕ) → paths_of (suc (suc n)) 0 ≡ false ∷ []
first_path n = ap (λ b. if b then [] else false ∷ []) (unequal_is (0 + 1) (suc (suc n)) (λ e. omega arith))

injected_stripped : (ts : List Nameless) (layers : List TyNode) (index : ℕ) (e : Code) → index < length layers → strip (injected_code ts layers index e) ≡ injected (paths_of (length layers) index) (strip e)
injected_stripped ts [] index e lt = absurd (omega arith)
injected_stripped ts (l ∷ []) zero e lt = refl
injected_stripped ts (l ∷ []) (suc index) e lt = absurd (omega arith)
injected_stripped ts (l ∷ m ∷ ms) zero e lt = ap (λ path. injected path (strip e)) (sym (first_path (length ms)))
injected_stripped ts (l ∷ m ∷ ms) (suc index) e lt =
    ap (app (con (prelude_value INR))) (injected_stripped ts (m ∷ ms) index e (omega arith)) ∙ ap (λ path. injected path (strip e)) (sym (further_path (length ms) index))

branches_stripped : (ts : List Nameless) (layers : List TyNode) (ty : Nameless) (index : ℕ) (cs : List DeclCon) → index + length cs ≡ length layers
    → strip_branches (branches_of (from_branches ts layers index cs) (Some (a_stop nowhere ty))) ≡ from_alts (length layers) index cs
branches_stripped ts layers ty index [] e = refl
branches_stripped ts layers ty index (c ∷ cs) e =
    λ i. alt (con_alt c.origin (field_names 0 (length c.fields))
    ((injected_stripped ts layers index (layer_code ts c) (omega arith)
    ∙ ap (λ t. injected (paths_of (length layers) index) (app (con (prelude_value CON)) t)) (product_stripped ts 0 c.fields)) i))
    (branches_stripped ts layers ty (suc index) cs (omega arith) i)

from_stripped : (d : DeclData) → strip (from_code d) ≡ from_of d
from_stripped d =
    let ts = variables_from 0 (length d.params) in
    let layers = map layer_of d.constructors in
    let count = length-map d.constructors layer_of in
    tylams_stripped 0 d.params _
    ∙ ap (λ alts. lam 0 (cases here alts))
    (branches_stripped ts layers (sum_at ts layers) 0 d.constructors (omega (arith, count)) ∙ ap (λ n. from_alts n 0 d.constructors) count)

-- ---- out of the representation

types_stripped : (ts : List Nameless) (f : Code) → strip (types_given f ts) ≡ strip f
types_stripped [] f = refl
types_stripped (t ∷ ts) f = types_stripped ts _

fields_stripped : (n i : ℕ) (f : Code) → strip (fields_given f i n) ≡ applied_all (strip f) (field_vars i n)
fields_stripped zero i f = refl
fields_stripped (suc n) i f = fields_stripped n (suc i) _

apart_bound : (ty : Nameless) (i n : ℕ) (b : Code) (t : Term) → (apart_code ty i n b).0 ≡ (apart i n t).0
apart_bound ty i zero b t = refl
apart_bound ty i (suc zero) b t = refl
apart_bound ty i (suc (suc n)) b t = refl

apart_stripped : (ty : Nameless) (n i : ℕ) (b : Code) (t : Term) → strip b ≡ t → strip (apart_code ty i n b).1 ≡ (apart i n t).1
apart_stripped ty zero i b t e = ap (λ u. cases here (alt (con_alt (prelude_value UNIT) [] u) failing)) e
apart_stripped ty (suc zero) i b t e = e
apart_stripped ty (suc (suc n)) i b t e =
    λ j. cases here (alt (con_alt (prelude_value PRODUCT) (suc i ∷ apart_bound ty (suc i) (suc n) b t j ∷ []) (apart_stripped ty (suc n) (suc i) b t e j)) failing)

layer_stripped : (ts : List Nameless) (ty : Nameless) (c : DeclCon) → strip (layer_case_code ts ty c) ≡ layer_case c
layer_stripped ts ty c =
    let n = length c.fields in
    let b = fields_given (con_at c.origin ts) 0 n in
    let t = made c.origin (field_vars 0 n) in
    let is : strip b ≡ t = fields_stripped n 0 (con_at c.origin ts) ∙ ap (λ f. applied_all f (field_vars 0 n)) (types_stripped ts (a_con c.origin)) in
    λ j. cases here (alt (con_alt (prelude_value CON) (apart_bound ty 0 n b t j ∷ []) (apart_stripped ty n 0 b t is j)) failing)

to_case_stripped : (ts : List Nameless) (ty : Nameless) (cs : List DeclCon) → strip (to_case_code ts ty cs) ≡ to_case cs
to_case_stripped ts ty [] = refl
to_case_stripped ts ty (c ∷ []) = layer_stripped ts ty c
to_case_stripped ts ty (c ∷ d ∷ ds) =
    λ j. cases here (alt (con_alt (prelude_value INL) (0 ∷ []) (layer_stripped ts ty c j)) (alt (con_alt (prelude_value INR) (0 ∷ []) (to_case_stripped ts ty (d ∷ ds) j)) failing))

to_stripped : (d : DeclData) → strip (to_code d) ≡ to_of d
to_stripped d =
    let ts = variables_from 0 (length d.params) in
    tylams_stripped 0 d.params _ ∙ ap (lam 0) (to_case_stripped ts (self_type d ts) d.constructors)

-- ---- what a term of the code is

pub from_seen : (t : CoreTerm) (d : DeclData) → code_of t ≡ from_code d → term_of (erased t) ≡ from_of d
from_seen t d e = erasure_strips t ∙ ap strip e ∙ from_stripped d

pub from_runs : (t : CoreTerm) (d : DeclData) → code_of t ≡ from_code d → FromGoes d (term_of (erased t))
from_runs t d e = subst (FromGoes d) (sym (from_seen t d e)) (from_goes d)

pub from_newtype_runs : (t : CoreTerm) (d : DeclData) → code_of t ≡ from_code d → FromNewtypeGoes d (term_of (erased t))
from_newtype_runs t d e = subst (FromNewtypeGoes d) (sym (from_seen t d e)) (from_newtype_goes d)

pub from_has_type : (t : CoreTerm) (d : DeclData) → code_of t ≡ from_code d → (p : Program) → Knows p d → HasType p [] [] (code_of t) (placed [] (from_type d))
from_has_type t d e p knows = subst (λ c. HasType p [] [] c (placed [] (from_type d))) (sym e) (from_typed p d knows)

pub to_seen : (t : CoreTerm) (d : DeclData) → code_of t ≡ to_code d → term_of (erased t) ≡ to_of d
to_seen t d e = erasure_strips t ∙ ap strip e ∙ to_stripped d

pub to_runs : (t : CoreTerm) (d : DeclData) → code_of t ≡ to_code d → ToGoes d (term_of (erased t))
to_runs t d e = subst (ToGoes d) (sym (to_seen t d e)) (to_goes d)

pub to_has_type : (t : CoreTerm) (d : DeclData) → code_of t ≡ to_code d → (p : Program) → Knows p d → HasType p [] [] (code_of t) (placed [] (to_type d))
to_has_type t d e p knows = subst (λ c. HasType p [] [] c (placed [] (to_type d))) (sym e) (to_typed p d knows)
