-- Variables that are bound inside others.
use Rattle.std.proofs.Common.{◌≡◌, ℕ, suc, ◌+◌, ◌<◌, List, [], ◌∷◌, ◌++◌, map, take, drop, length, get_or, Option, Some, refl, sym, ap, subst, ◌∙◌, ◌≤◌, add-one, drop-drop, arith}
use Rattle.std.proofs.Math.Seq.{drop-cons}
use Rattle.std.proofs.lemmas.List.{take_more}
use Rattle.std.proofs.lemmas.Option.{slice_get-map}
use Rattle.std.specs.Prelude.{slice_get, option_map}
use Rattle.gh_core.specs.declared.types.CoreType.{CoreType}
use Rattle.gh_core.specs.declared.terms.CoreTerm.{CoreTerm}
use Rattle.gh_core.specs.SameType.{Nameless}
use Rattle.gh_core.specs.Typing.{Kinds, Types_of, bindings_of, bound_types, paired, placed, type_of}
use Rattle.gh_core_lint.specs.declared.types.Node.{Node}
use Rattle.gh_core_lint.specs.Bound.{binder_of, Adds}
use Rattle.gh_core_lint.specs.Branches.{binding_code}
use Rattle.gh_core_lint.specs.Faults.{written}
use Rattle.gh_core_lint.specs.Stops.{var_of, vars_of}
use Rattle.gh_core_lint.specs.Types.{type_at}

abbrev Vars : Type 0
Vars = List (ℕ × Option Node)

-- one variable more
pub adds_more : (gs : Types_of) (old mid new : Vars) (x : ℕ) (o : Option Node) → Adds gs old mid → new ≡ (x, o) ∷ mid → Adds ((x, option_map type_at o) ∷ gs) old new
adds_more gs old mid new x o h e = ((x, o) ∷ h.0, e ∙ ap (λ l. (x, o) ∷ l) h.1, ap (λ l. (x, option_map type_at o) ∷ l) h.2)

vars_append : (bs old : Vars) → vars_of (bs ++ old) ≡ vars_of bs ++ vars_of old
vars_append [] old = refl
vars_append (b ∷ bs) old = ap (λ l. var_of b ∷ l) (vars_append bs old)

-- the types of all variables
pub adds_vars : (gs : Types_of) (old new : Vars) → Adds gs old new → vars_of new ≡ gs ++ vars_of old
adds_vars gs old new h = ap vars_of h.1 ∙ vars_append h.0 old ∙ ap (λ l. l ++ vars_of old) h.2

paired_head : (x : ℕ) (xs : List ℕ) (us : List Nameless) → paired (x ∷ xs) us ≡ (x, slice_get us 0) ∷ paired xs (drop 1 us)
paired_head x xs [] = refl
paired_head x xs (u ∷ us) = refl

get_dropped : (us : List Nameless) (i : ℕ) → slice_get (drop i us) 0 ≡ slice_get us i
get_dropped [] ℕ.zero = refl
get_dropped [] (ℕ.suc i) = refl
get_dropped (u ∷ us) ℕ.zero = refl
get_dropped (u ∷ us) (ℕ.suc i) = get_dropped us i

-- the names from a place on, with their types
paired_from : (names : List ℕ) (us : List Nameless) (i : ℕ) → i < length names
    → paired (drop i names) (drop i us) ≡ (get_or names i 0, slice_get us i) ∷ paired (drop (suc i) names) (drop (suc i) us)
paired_from names us i lt =
    ap (λ l. paired l (drop i us)) (drop-cons names i 0 lt) ∙ paired_head (get_or names i 0) (drop (suc i) names) (drop i us)
    ∙ ap (λ o. (get_or names i 0, o) ∷ paired (drop (suc i) names) (drop 1 (drop i us))) (get_dropped us i)
    ∙ ap (λ l. (get_or names i 0, slice_get us i) ∷ paired (drop (suc i) names) l) (drop-drop 1 i us ∙ ap (λ n. drop n us) (add-one i))

-- one name more, from the last to the first
pub bound_more : (old mid new : Vars) (names : List ℕ) (types : List Node) (left i : ℕ) (o : Option Node) → left ≡ suc i → left ≤ length names
    → Adds (paired (drop left names) (drop left (map type_at types))) old mid → o ≡ slice_get types i → new ≡ (get_or names i 0, o) ∷ mid
    → Adds (paired (drop i names) (drop i (map type_at types))) old new
bound_more old mid new names types left i o at le h is e =
    let found : option_map type_at o ≡ slice_get (map type_at types) i = ap (option_map type_at) is ∙ sym (slice_get-map type_at types i) in
    let rest = paired (drop (suc i) names) (drop (suc i) (map type_at types)) in
    let before : Adds rest old mid = subst (λ (n : ℕ). Adds (paired (drop n names) (drop n (map type_at types))) old mid) at h in
    subst (λ (gs : Types_of). Adds gs old new)
    (ap (λ q. (get_or names i 0, q) ∷ rest) found ∙ sym (paired_from names (map type_at types) i (omega arith)))
    (adds_more rest old mid new (get_or names i 0) o before e)

abbrev Binding : Type 0
Binding = ℕ × CoreType × CoreTerm

-- the variables of bindings, with their types
pub paired_written : (ks : Kinds) (bs : List Binding)
    → paired (map binder_of bs) (written ks (bindings_of (map binding_code bs))) ≡ bound_types ks (bindings_of (map binding_code bs))
paired_written ks [] = refl
paired_written ks (b ∷ bs) = ap (λ l. (b.0, Some (placed ks (type_of b.1))) ∷ l) (paired_written ks bs)

written_append : (ks : Kinds) (bs : List Binding) (b : Binding)
    → written ks (bindings_of (map binding_code (bs ++ b ∷ []))) ≡ written ks (bindings_of (map binding_code bs)) ++ placed ks (type_of b.1) ∷ []
written_append ks [] b = refl
written_append ks (x ∷ bs) b = ap (λ l. placed ks (type_of x.1) ∷ l) (written_append ks bs b)

-- the types of one binding more
pub written_more : (ks : Kinds) (bs : List Binding) (i : ℕ) (b : Binding) → i < length bs → b ≡ get_or bs i b
    → written ks (bindings_of (map binding_code (take (i + 1) bs))) ≡ written ks (bindings_of (map binding_code (take i bs))) ++ placed ks (type_of b.1) ∷ []
written_more ks bs i b lt is =
    ap (λ l. written ks (bindings_of (map binding_code l))) (take_more bs i b lt)
    ∙ written_append ks (take i bs) (get_or bs i b)
    ∙ ap (λ (x : Binding). written ks (bindings_of (map binding_code (take i bs))) ++ placed ks (type_of x.1) ∷ []) (sym is)
