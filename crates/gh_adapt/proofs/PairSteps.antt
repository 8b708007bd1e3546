-- One step more of each loop of pairs.
use Rattle.std.proofs.Common.{◌≡◌, ℕ, zero, suc, ◌+◌, ◌<◌, List, [], ◌∷◌, ◌++◌, length, map, drop, get_or, sym, ap, ◌∙◌, arith, drop-cons}
use Rattle.std.proofs.lemmas.List.{map-append}
use Rattle.gh_typeterm.specs.declared.kind.Kind.{Kind}
use Rattle.gh_typeterm.specs.declared.ty.TyNode.{TyNode}
use Rattle.gh_core.specs.declared.types.CoreType.{CoreType}
use Rattle.gh_core.specs.declared.terms.CoreTerm.{CoreTerm}
use Rattle.gh_core.specs.SameType.{Nameless, free}
use Rattle.gh_core.specs.Typing.{Code, a_lam, a_tylam, a_var, an_app, code_of, type_of}
use Rattle.gh_adapt.specs.declared.ways.Way.{Way}
use Rattle.gh_adapt.specs.TypedPairs.{converted_code, every_second, param_codes, param_type, rebuilt_code, with_params}

params_append : (i n : ℕ) → param_codes i (suc n) ≡ param_codes i n ++ a_var (i + n) ∷ []
params_append i zero = let e : i ≡ i + 0 = omega arith in ap (λ j. a_var j ∷ []) e
params_append i (suc n) =
    let e : suc i + n ≡ i + suc n = omega arith in
    ap (λ l. a_var i ∷ l) (params_append (suc i) n) ∙ ap (λ j. a_var i ∷ (param_codes (suc i) n ++ a_var j ∷ [])) e

-- one parameter's variable more
pub param_more : (n x : ℕ) (made new : List CoreTerm) (t : CoreTerm) → x ≡ n → code_of t ≡ a_var x → new ≡ made ++ t ∷ [] → map code_of made ≡ param_codes 0 n
    → map code_of new ≡ param_codes 0 (n + 1)
param_more n x made new t is seen pushed h =
    let one : suc n ≡ n + 1 = omega arith in
    let number : x ≡ 0 + n = omega arith in
    ap (map code_of) pushed ∙ map-append code_of made (t ∷ []) ∙ (λ j. h j ++ (seen ∙ ap a_var number) j ∷ []) ∙ sym (params_append 0 n) ∙ ap (param_codes 0) one

seconds_append : (i n : ℕ) → every_second i (suc n) ≡ every_second i n ++ free (i + n + n) ∷ []
seconds_append i zero = let e : i ≡ i + 0 + 0 = omega arith in ap (λ j. free j ∷ []) e
seconds_append i (suc n) =
    let e : suc (suc i) + n + n ≡ i + suc n + suc n = omega arith in
    ap (λ l. free i ∷ l) (seconds_append (suc (suc i)) n) ∙ ap (λ j. free i ∷ (every_second (suc (suc i)) n ++ free j ∷ [])) e

-- one type variable more
pub second_more : (from n x : ℕ) (made new : List CoreType) (t : CoreType) → x ≡ from + n + n → type_of t ≡ free x → new ≡ made ++ t ∷ [] → map type_of made ≡ every_second from n
    → map type_of new ≡ every_second from (n + 1)
second_more from n x made new t is seen pushed h =
    let one : suc n ≡ n + 1 = omega arith in
    ap (map type_of) pushed ∙ map-append type_of made (t ∷ []) ∙ (λ j. h j ++ (seen ∙ ap free is) j ∷ []) ∙ sym (seconds_append from n) ∙ ap (every_second from) one

-- one parameter more
pub one_param : (ks : List Kind) (i j x : ℕ) (k : Kind) (b made new : Code) → i ≡ suc j → x ≡ j → j < length ks → k ≡ get_or ks j k → made ≡ with_params i (drop i ks) b
    → new ≡ a_tylam (x + x) k (a_tylam (x + x + 1) k (a_lam x (param_type (x + x) k) made))
    → new ≡ with_params j (drop j ks) b
one_param ks i j x k b made new e ex lt is h seen =
    let one : x + x + 1 ≡ suc (x + x) = omega arith in
    seen ∙ (λ m. a_tylam (x + x) k (a_tylam (one m) k (a_lam x (param_type (x + x) k) (h m))))
    ∙ (λ m. a_tylam (ex m + ex m) k (a_tylam (suc (ex m + ex m)) k (a_lam (ex m) (param_type (ex m + ex m) k) (with_params (e m) (drop (e m) ks) b))))
    ∙ (λ m. a_tylam (j + j) (is m) (a_tylam (suc (j + j)) (is m) (a_lam j (param_type (j + j) (is m)) (with_params (suc j) (drop (suc j) ks) b))))
    ∙ sym (ap (λ l. with_params j l b) (drop-cons ks j k lt))

-- one field more
pub one_converted : (way : Way) (l r : List Nameless) (ps : List Code) (fields : List TyNode) (count i x : ℕ) (t : TyNode) (made new field : Code)
    → i < length fields → t ≡ get_or fields i t → x ≡ count + i + 1 → field ≡ an_app (converted_code way l r [] ps t) (a_var x) → new ≡ an_app made field
    → rebuilt_code way l r ps new (count + (i + 1)) (drop (i + 1) fields) ≡ rebuilt_code way l r ps made (count + i) (drop i fields)
one_converted way l r ps fields count i x t made new field lt is hx hf hn =
    let one : i + 1 ≡ suc i = omega arith in
    let place : count + (i + 1) ≡ suc (count + i) = omega arith in
    let number : x ≡ suc (count + i) = omega arith in
    (λ m. rebuilt_code way l r ps ((hn ∙ ap (an_app made) (hf ∙ ap (λ y. an_app (converted_code way l r [] ps t) (a_var y)) number)) m) (place m) (drop (one m) fields))
    ∙ sym (ap (rebuilt_code way l r ps made (count + i)) (drop-cons fields i t lt ∙ ap (λ u. u ∷ drop (suc i) fields) (sym is)))
