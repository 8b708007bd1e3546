-- One step more of each loop.
use Rattle.std.proofs.Common.{◌≡◌, ℕ, zero, suc, ◌+◌, ◌<◌, cond, List, [], ◌∷◌, ◌++◌, length, map, take, drop, get_or, Option, Some, None, refl, sym, ap, ◌∙◌, subst, arith, add-zero, max, ◌-◌, ◌≤◌, ◌==◌, ◌||◌, Bool, true, false, drop-cons, slice_get, unwrap_or}
use Rattle.std.proofs.lemmas.List.{take_more, map-append, length-take-le, length-map}
use Rattle.std.proofs.lemmas.Option.{slice_get_past}
use Rattle.gh_base.specs.declared.place.Origin.{Origin}
use Rattle.gh_typeterm.specs.declared.kind.Kind.{Kind}
use Rattle.gh_typeterm.specs.declared.kind.Kind.TheVariants as kind
use Rattle.gh_core.specs.Closing.{is_in}
use Rattle.gh_core.specs.SameType.{Nameless, bound, free, con, applied, forall, any, further, nameless_var}
use Rattle.gh_core.specs.Typing.{closed_over, arrow, arrows, type_of}
use Rattle.gh_core.specs.declared.types.CoreType.{CoreType}
use Rattle.gh_core.specs.declared.types.CoreType.TheVariants as t
use Rattle.gh_kernel.specs.declared.functions.GenFun.{GenFun}
use Rattle.gh_kernel.specs.declared.functions.Dependency.{Dependency}
use Rattle.gh_kind_index.specs.KindIndex.{variables_from, for_all, each_applied, Indexed, function_of, with_type, asked, slot}
use Rattle.gh_kind_index.specs.Levels.{above, above_all}
use Rattle.gh_kind_index.proofs.Forms.{type_of_var, type_of_app, type_of_forall, eqb_turned}

-- one variable more
pub one_variable_more : (level n : ℕ) → variables_from level (suc n) ≡ variables_from level n ++ free (level + n) ∷ []
one_variable_more level zero = ap (λ x. free x ∷ []) (sym (add-zero level))
one_variable_more level (suc n) =
    let e : suc level + n ≡ level + suc n = omega arith in
    ap (λ xs. free level ∷ xs) (one_variable_more (suc level) n) ∙ ap (λ x. free level ∷ (variables_from (suc level) n ++ free x ∷ [])) e

pub variables_more : (level i : ℕ) (made : List CoreType) → map type_of made ≡ variables_from level i → map type_of (made ++ t.Var (level + i) ∷ []) ≡ variables_from level (i + 1)
variables_more level i made h =
    let e : suc i ≡ i + 1 = omega arith in
    map-append type_of made (t.Var (level + i) ∷ []) ∙ (λ j. h j ++ type_of_var (level + i) j ∷ []) ∙ sym (one_variable_more level i) ∙ ap (variables_from level) e

-- one type more that is applied to its variable
pub one_applied_more : (ts : List Nameless) (u : Nameless) (level : ℕ)
    → each_applied (ts ++ u ∷ []) (variables_from level (suc (length ts))) ≡ each_applied ts (variables_from level (length ts)) ++ applied u (free (level + length ts)) ∷ []
one_applied_more [] u level = ap (λ x. applied u (free x) ∷ []) (sym (add-zero level))
one_applied_more (s ∷ ts) u level =
    let e : suc level + length ts ≡ level + suc (length ts) = omega arith in
    ap (λ xs. applied s (free level) ∷ xs) (one_applied_more ts u (suc level))
    ∙ ap (λ x. applied s (free level) ∷ (each_applied ts (variables_from (suc level) (length ts)) ++ applied u (free x) ∷ [])) e

pub applied_more : (level i : ℕ) (types made new : List CoreType) (x item : CoreType) → i < length types → x ≡ get_or types i x → type_of item ≡ applied (type_of x) (free (level + i))
    → new ≡ made ++ item ∷ [] → map type_of made ≡ each_applied (map type_of (take i types)) (variables_from level i)
    → map type_of new ≡ each_applied (map type_of (take (i + 1) types)) (variables_from level (i + 1))
applied_more level i types made new x item lt at is pushed h =
    let count : length (map type_of (take i types)) ≡ i = length-map (take i types) type_of ∙ length-take-le i types (omega arith) in
    let one : suc i ≡ i + 1 = omega arith in
    ap (map type_of) pushed ∙ map-append type_of made (item ∷ []) ∙ (λ j. h j ++ is j ∷ [])
    ∙ sym (ap (λ l. each_applied (map type_of l) (variables_from level (i + 1))) (take_more types i x lt ∙ ap (λ y. take i types ++ y ∷ []) (sym at))
    ∙ ap (λ l. each_applied l (variables_from level (i + 1))) (map-append type_of (take i types) (x ∷ []))
    ∙ ap (λ n. each_applied (map type_of (take i types) ++ type_of x ∷ []) (variables_from level n)) (sym one ∙ ap suc (sym count))
    ∙ one_applied_more (map type_of (take i types)) (type_of x) level
    ∙ ap (λ n. each_applied (map type_of (take i types)) (variables_from level n) ++ applied (type_of x) (free (level + n)) ∷ []) count)

-- one binder more
pub one_binder_more : (k : Kind) (level i n count : ℕ) (body : Nameless) (made : CoreType)
    → ((m : ℕ) → suc i + m ≡ count → type_of made ≡ for_all k (level + suc i) m body) → i < count → i + n ≡ count
    → type_of (t.Forall (level + i) k made) ≡ for_all k (level + i) n body
one_binder_more k level i zero count body made h lt e = absurd (omega arith)
one_binder_more k level i (suc n) count body made h lt e =
    let at : level + suc i ≡ suc (level + i) = omega arith in
    type_of_forall (level + i) k made
    ∙ ap (λ u. forall k (closed_over (level + i) 0 u)) (h n (omega arith) ∙ ap (λ l. for_all k l n body) at)

pub binder_before : (k : Kind) (level i count : ℕ) (body : Nameless) (made : CoreType)
    → 0 < i → i ≤ count → ((m : ℕ) → i + m ≡ count → type_of made ≡ for_all k (level + i) m body)
    → (m : ℕ) → i - 1 + m ≡ count → type_of (t.Forall (level + (i - 1)) k made) ≡ for_all k (level + (i - 1)) m body
binder_before k level zero count body made lt le h m e = absurd (omega arith)
binder_before k level (suc i) count body made lt le h m e =
    let less : suc i - 1 ≡ i = omega arith in
    ap (λ j. type_of (t.Forall (level + j) k made)) less ∙ one_binder_more k level i m count body made h (omega arith) (omega (arith, less, e)) ∙ ap (λ j. for_all k (level + j) m body) (sym less)

-- one dependency more
pub one_dependency_more : (fs : List GenFun) (by : Indexed) (level : ℕ) (ts : List Nameless) (ds : List Dependency) (i j : ℕ) (d : Dependency)
    → i ≡ suc j → j < length ds → d ≡ get_or ds j d → asked fs by level ts (drop j ds) ≡ with_type (function_of fs d.function) by level ts (asked fs by level ts (drop i ds))
one_dependency_more fs by level ts ds i j d e lt at =
    ap (asked fs by level ts) (drop-cons ds j d lt)
    ∙ (λ k. with_type (function_of fs (sym at k).function) by level ts (asked fs by level ts (drop (sym e k) ds)))

pub dependency_found : (fs : List GenFun) (by : Indexed) (level : ℕ) (ts : List Nameless) (ds : List Dependency) (i j : ℕ) (d : Dependency) (f : GenFun) (answer : Nameless) (old part new : CoreType)
    → i ≡ suc j → j < length ds → d ≡ get_or ds j d → Some f ≡ function_of fs d.function → type_of part ≡ by f level ts
    → type_of old ≡ arrows (asked fs by level ts (drop i ds)) answer → type_of new ≡ arrow (type_of part) (type_of old)
    → type_of new ≡ arrows (asked fs by level ts (drop j ds)) answer
dependency_found fs by level ts ds i j d f answer old part new e lt at found is before made =
    made ∙ (λ k. arrow (is k) (before k))
    ∙ sym (ap (λ l. arrows l answer) (one_dependency_more fs by level ts ds i j d e lt at ∙ ap (λ o. with_type o by level ts (asked fs by level ts (drop i ds))) (sym found)))

pub dependency_missing : (fs : List GenFun) (by : Indexed) (level : ℕ) (ts : List Nameless) (ds : List Dependency) (i j : ℕ) (d : Dependency) (answer : Nameless) (old : CoreType)
    → i ≡ suc j → j < length ds → d ≡ get_or ds j d → None ≡ function_of fs d.function
    → type_of old ≡ arrows (asked fs by level ts (drop i ds)) answer → type_of old ≡ arrows (asked fs by level ts (drop j ds)) answer
dependency_missing fs by level ts ds i j d answer old e lt at missing before =
    before ∙ sym (ap (λ l. arrows l answer) (one_dependency_more fs by level ts ds i j d e lt at ∙ ap (λ o. with_type o by level ts (asked fs by level ts (drop i ds))) (sym missing)))

-- ---- levels

above_further : (n : Nameless) → above (further n) ≡ above n
above_further (bound i) = refl
above_further (free x) = refl
above_further (con c) = refl
above_further (applied f x) = refl
above_further (forall k b) = refl
above_further (any k) = refl

above_choice : (v w : Bool) (x : ℕ) (n : Nameless) → above n ≡ cond w 0 (suc x) → above (cond v (bound 0) (further n)) ≡ cond (v || w) 0 (suc x)
above_choice true w x n h = refl
above_choice false w x n h = above_further n ∙ h

pub above_var : (bs : List ℕ) (x : ℕ) → above (nameless_var bs x) ≡ cond (is_in bs x) 0 (suc x)
above_var [] x = refl
above_var (b ∷ bs) x =
    above_choice (b == x) (is_in bs x) x (nameless_var bs x) (above_var bs x) ∙ ap (λ v. cond (v || is_in bs x) 0 (suc x)) (eqb_turned b x)

-- a variable that is neither stands open
pub slot_open : (ts others : List Nameless) (x : ℕ) → length ts ≤ x → length others ≤ x - length ts → slot ts others x ≡ any kind.Star
slot_open ts others x h g =
    ap (λ o. unwrap_or o (unwrap_or (slice_get others (x - length ts)) (any kind.Star))) (slice_get_past ts x h)
    ∙ ap (λ o. unwrap_or o (any kind.Star)) (slice_get_past others (x - length ts) g)
