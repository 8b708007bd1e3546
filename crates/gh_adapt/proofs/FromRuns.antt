-- What the conversion into the representation does with a term.
use Rattle.std.proofs.Common.{◌≡◌, ℕ, zero, suc, ◌+◌, ◌<◌, Bool, true, false, cond, List, [], ◌∷◌, map, length, Option, Some, None, slice_get, refl, sym, ap, ◌∙◌, arith}
use Rattle.gh_base.specs.declared.fixed.TheConstants.{PRODUCT, CON}
use Rattle.gh_base.specs.declared.place.Origin.{Origin}
use Rattle.gh_typeterm.specs.declared.decl.DeclCon.{DeclCon}
use Rattle.gh_typeterm.specs.declared.decl.DeclData.{DeclData}
use Rattle.gh_typeterm.specs.Representation.{paths_of}
use Rattle.gh_core.specs.Primitives.{prelude_value, same_origin}
use Rattle.gh_core.specs.Reduce.{Program, State, Waiting, of_case, demand, reductions, choose, begin_case, is_newtype}
use Rattle.gh_core.specs.Terms.{Term, var, con, lam, app, cases, whole, contents, con_alt, alt}
use Rattle.gh_core.specs.Typing.{AreDifferent, origin_among, con_origin}
use Rattle.gh_core.specs.Closing.{Env, empty, close, close_alts, put, put_all, stands, without, is_in}
use Rattle.gh_core.proofs.Close.{over, first_in}
use Rattle.gh_adapt.specs.Conversions.{here, failing, field_names, field_vars, applied_all, product, injection, injected, represented, from_alts, from_of}
use Rattle.gh_adapt.specs.Goes.{NoNewtypes, FromGoes, FromNewtypeGoes}
use Rattle.gh_adapt.proofs.Running.{one, then_run, equal_is, unequal_is, choose_hit, choose_miss, begin_data, case_runs, enters, entered, entered_by}

-- ---- substitution goes through

pub close_made : (ts : List Term) (f : Term) (σ : Env) → close (applied_all f ts) σ ≡ applied_all (close f σ) (map (λ t. close t σ) ts)
close_made [] f σ = refl
close_made (t ∷ ts) f σ = close_made ts (app f t) σ

close_product : (ts : List Term) (σ : Env) → close (product ts) σ ≡ product (map (λ t. close t σ) ts)
close_product [] σ = refl
close_product (t ∷ []) σ = refl
close_product (t ∷ u ∷ us) σ = ap (app (app (con (prelude_value PRODUCT)) (close t σ))) (close_product (u ∷ us) σ)

close_injected : (bs : List Bool) (e : Term) (σ : Env) → close (injected bs e) σ ≡ injected bs (close e σ)
close_injected [] e σ = refl
close_injected (b ∷ bs) e σ = ap (app (con (injection b))) (close_injected bs e σ)

close_represented : (count index : ℕ) (ts : List Term) (σ : Env) → close (represented count index ts) σ ≡ represented count index (map (λ t. close t σ) ts)
close_represented count index ts σ =
    close_injected (paths_of count index) (app (con (prelude_value CON)) (product ts)) σ
    ∙ ap (λ t. injected (paths_of count index) (app (con (prelude_value CON)) t)) (close_product ts σ)

-- ---- the names of fields

-- these terms stand for the fields from the i-th on
abbrev pub Finds : Env → ℕ → ℕ → List Term → Type 0
Finds τ i zero [] = Unit {0}
Finds τ i zero (e ∷ es) = ⊥
Finds τ i (suc n) [] = ⊥
Finds τ i (suc n) (e ∷ es) = (τ (suc i) ≡ Some e) × Finds τ (suc i) n es

pub fields_found : (τ : Env) (i n : ℕ) (es : List Term) → Finds τ i n es → map (λ t. close t τ) (field_vars i n) ≡ map whole es
fields_found τ i zero [] h = refl
fields_found τ i zero (e ∷ es) h = absurd h
fields_found τ i (suc n) [] h = absurd h
fields_found τ i (suc n) (e ∷ es) h = λ j. stands (h.0 j) (suc i) ∷ fields_found τ (suc i) n es h.1 j

finds_put : (τ : Env) (x k n : ℕ) (e : Term) (es : List Term) → x < suc k → Finds τ k n es → Finds (put τ x e) k n es
finds_put τ x k zero e [] lt h = tt
finds_put τ x k zero e (f ∷ fs) lt h = absurd h
finds_put τ x k (suc n) e [] lt h = absurd h
finds_put τ x k (suc n) e (f ∷ fs) lt h =
    (ap (λ b. cond b (Some e) (τ (suc k))) (unequal_is (suc k) x (λ k. omega arith)) ∙ h.0, finds_put τ x (suc k) n e fs (omega arith) h.1)

finds_all : (i n : ℕ) (es : List Term) → n ≡ length es → Finds (put_all empty (field_names i n) es) i n es
finds_all i zero [] e = tt
finds_all i zero (f ∷ fs) e = absurd (cc)
finds_all i (suc n) [] e = absurd (cc)
finds_all i (suc n) (f ∷ fs) e = (
  ap (λ b. cond b (Some f) (put_all empty (field_names (suc i) n) fs (suc i))) (equal_is (suc i) (suc i) refl),
  finds_put (put_all empty (field_names (suc i) n) fs) (suc i) (suc i) n f fs (omega arith) (finds_all (suc i) n fs (omega arith)),
)

finds_over : (ρ τ : Env) (i n : ℕ) (es : List Term) → ((j : ℕ) → ρ (suc j) ≡ None) → Finds τ i n es → Finds (over ρ τ) i n es
finds_over ρ τ i zero [] none h = tt
finds_over ρ τ i zero (e ∷ es) none h = absurd h
finds_over ρ τ i (suc n) [] none h = absurd h
finds_over ρ τ i (suc n) (e ∷ es) none h = (ap (λ o. first_in o (τ (suc i))) (none i) ∙ h.0, finds_over ρ τ (suc i) n es none h.1)

none_without : (b : Bool) (o : Option Term) → o ≡ None → cond b None o ≡ None
none_without true o e = refl
none_without false o e = e

-- the value alone is there beside the fields
only_value : (e : Term) (j : ℕ) → put empty 0 e (suc j) ≡ None
only_value e j = ap (λ b. cond b (Some e) None) (unequal_is (suc j) 0 (λ k. omega arith))

-- ---- the alternative

among_not : (b : Bool) (r : Bool) → cond b true r ≡ false → (b ≡ false) × (r ≡ false)
among_not true r h = absurd (cc)
among_not false r h = (refl, h)

not_before : (cs : List DeclCon) (i : ℕ) (c : DeclCon) (o : Origin) → origin_among (map con_origin cs) o ≡ false → slice_get cs i ≡ Some c → same_origin c.origin o ≡ false
not_before [] i c o h e = absurd (cc)
not_before (b ∷ cs) zero c o h e =
    let is : b ≡ c = cc in
    ap (λ z. same_origin z.origin o) (sym is) ∙ (among_not (same_origin b.origin o) (origin_among (map con_origin cs) o) h).0
not_before (b ∷ cs) (suc i) c o h e = not_before cs i c o (among_not (same_origin b.origin o) (origin_among (map con_origin cs) o) h).1 e

chosen : (cs : List DeclCon) (count j index : ℕ) (c : DeclCon) (e : Term) (es : List Term) (stack : List Waiting) (out : List ℕ) (s : State)
    → AreDifferent (map con_origin cs) → slice_get cs index ≡ Some c → length c.fields ≡ length es
    → choose (close_alts (from_alts count j cs) (put empty 0 e)) c.origin es stack out s ≡ demand (represented count (j + index) (map whole es)) stack out
chosen [] count j index c e es stack out s distinct is len = absurd (cc)
chosen (b ∷ cs) count j zero c e es stack out s distinct is len =
    let own : b ≡ c = cc in
    let n = length c.fields in
    let names = field_names 0 n in
    let body = represented count j (field_vars 0 n) in
    let more = close_alts (from_alts count (suc j) cs) (put empty 0 e) in
    let σ = put empty 0 e in
    let at_start : j ≡ j + 0 = omega arith in
    ap (λ d. choose (alt (con_alt d.origin (field_names 0 (length d.fields)) (close (represented count j (field_vars 0 (length d.fields))) (without σ (is_in (field_names 0 (length d.fields)))))) more) c.origin es stack out s) own
    ∙ choose_hit c.origin names (close body (without σ (is_in names))) more es stack out s (names_length 0 n ∙ len)
    ∙ ap (λ t. demand t stack out)
    (entered_by body σ names es ∙ close_represented count j (field_vars 0 n) (entered σ names es)
    ∙ ap (represented count j)
    (fields_found (entered σ names es) 0 n es
    (finds_over (without σ (is_in names)) (put_all empty names es) 0 n es (λ i. none_without (is_in names (suc i)) (σ (suc i)) (only_value e i)) (finds_all 0 n es len)))
    ∙ ap (λ i. represented count i (map whole es)) at_start)
  where
    names_length : (i n : ℕ) → length (field_names i n) ≡ n
    names_length i zero = refl
    names_length i (suc n) = ap suc (names_length (suc i) n)
chosen (b ∷ cs) count j (suc index) c e es stack out s distinct is len =
    let further : suc j + index ≡ j + suc index = omega arith in
    choose_miss c.origin b.origin (field_names 0 (length b.fields)) (close (represented count j (field_vars 0 (length b.fields))) (without (put empty 0 e) (is_in (field_names 0 (length b.fields)))))
    (close_alts (from_alts count (suc j) cs) (put empty 0 e)) es stack out s (not_before cs index c b.origin distinct.0 is)
    ∙ chosen cs count (suc j) index c e es stack out s distinct.1 is len
    ∙ ap (λ i. demand (represented count i (map whole es)) stack out) further

-- the case begins with the demand of the value
begins : (p : Program) (cs : List DeclCon) (count index : ℕ) (c : DeclCon) (e : Term) (stack : List Waiting) (out : List ℕ) → NoNewtypes p cs → slice_get cs index ≡ Some c
    → begin_case p.newtypes (whole e) (close_alts (from_alts count 0 cs) (put empty 0 e)) stack out ≡ demand (whole e) (of_case (close_alts (from_alts count 0 cs) (put empty 0 e)) ∷ stack) out
begins p [] count index c e stack out data_only is = absurd (cc)
begins p (b ∷ cs) count index c e stack out data_only is =
    begin_data p.newtypes (whole e) b.origin (field_names 0 (length b.fields))
    (close (represented count 0 (field_vars 0 (length b.fields))) (without (put empty 0 e) (is_in (field_names 0 (length b.fields)))))
    (close_alts (from_alts count 1 cs) (put empty 0 e)) stack out data_only.0

pub from_goes : (d : DeclData) → FromGoes d (from_of d)
from_goes d p index n c e es data_only distinct is len comes stack out =
    let count = length d.constructors in
    let alts = from_alts count 0 d.constructors in
    let sum : 2 + (n + 2) ≡ n + 4 = omega arith in
    let to = demand (represented count index (map whole es)) stack out in
    ap (λ k. reductions p k (demand (app (from_of d) e) stack out)) (sym sum)
    ∙ then_run p 2 (n + 2) (demand (app (from_of d) e) stack out) (demand (cases (whole e) (close_alts alts (put empty 0 e))) stack out) to
    (enters p 0 (cases here alts) e stack out)
    (case_runs p n (whole e) c.origin es (close_alts alts (put empty 0 e)) stack out to
    (begins p d.constructors count index c e stack out data_only is) comes
    (λ s. chosen d.constructors count 0 index c e es stack out s distinct is len ∙ ap (λ i. demand (represented count i (map whole es)) stack out) (zero_first index)))
  where
    zero_first : (i : ℕ) → 0 + i ≡ i
    zero_first i = omega arith

from_newtype : (p : Program) (c : DeclCon) (e : Term) (k : ℕ) → k ≡ 1 → is_newtype p.newtypes c.origin ≡ true → (stack : List Waiting) (out : List ℕ)
    → begin_case p.newtypes (whole e) (alt (con_alt c.origin (field_names 0 k) (close (represented 1 0 (field_vars 0 k)) (without (put empty 0 e) (is_in (field_names 0 k))))) failing) stack out
    ≡ demand (represented 1 0 (whole (contents c.origin (whole e)) ∷ [])) stack out
from_newtype p c e k is new stack out =
    ap (λ k. begin_case p.newtypes (whole e) (alt (con_alt c.origin (field_names 0 k) (close (represented 1 0 (field_vars 0 k)) (without (put empty 0 e) (is_in (field_names 0 k))))) failing) stack out) is
    ∙ ap (λ b. cond b (demand (close (close (represented 1 0 (var 1 ∷ [])) (without (put empty 0 e) (is_in (1 ∷ [])))) (put empty 1 (contents c.origin (whole e)))) stack out)
    (demand (whole e) (of_case (alt (con_alt c.origin (1 ∷ []) (close (represented 1 0 (var 1 ∷ [])) (without (put empty 0 e) (is_in (1 ∷ []))))) failing) ∷ stack) out)) new

pub from_newtype_goes : (d : DeclData) → FromNewtypeGoes d (from_of d)
from_newtype_goes d p c e only len new stack out =
    ap (λ cs. reductions p 3 (demand (app (lam 0 (cases here (from_alts (length cs) 0 cs))) e) stack out)) only
    ∙ then_run p 2 1 (demand (app (lam 0 (cases here (from_alts 1 0 (c ∷ [])))) e) stack out) (demand (cases (whole e) (close_alts (from_alts 1 0 (c ∷ [])) (put empty 0 e))) stack out)
    (demand (represented 1 0 (whole (contents c.origin (whole e)) ∷ [])) stack out)
    (enters p 0 (cases here (from_alts 1 0 (c ∷ []))) e stack out)
    (one p (demand (cases (whole e) (close_alts (from_alts 1 0 (c ∷ [])) (put empty 0 e))) stack out) ∙ from_newtype p c e (length c.fields) len new stack out)
