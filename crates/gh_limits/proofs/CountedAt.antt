-- What is counted in a declaration of the top, as a relation and as a list; and the first limit that a list of counts passes.
use Rattle.std.proofs.Common.{◌≡◌, ℕ, ◌+◌, ◌<◌, ◌≤◌, ◌⊎◌, inl, inr, min, Bool, true, false, nat_lt, if◌then◌else◌, List, [], ◌∷◌, length, map, Some, refl, sym, ap, ◌∙◌, arith}
use Rattle.std.proofs.lemmas.Bool.Decides.{nat_tests}
use Rattle.gh_base.specs.declared.refusal.Limit.{Limit}
use Rattle.gh_base.specs.declared.refusal.Limit.TheVariants.{Parameters, Dependencies, Constructors, Fields, Arguments, Bindings, Clauses}
use Rattle.gh_tree.specs.declared.tops.NextConstr.{NextConstr}
use Rattle.gh_tree.specs.declared.tops.Top.{Top}
use Rattle.gh_tree.specs.declared.tops.Top.TheVariants as top
use Rattle.gh_limits.specs.First.{Passes, CountedIn}
use Rattle.gh_limits.specs.Inside.{rhs_counts}
use Rattle.gh_limits.specs.Limits.{fields_at, fields_of, dependencies, top_counts}
use Rattle.gh_limits.specs.Nodes.{Among, is_first, is_later, a_decl, a_rhs}
use Rattle.gh_limits.specs.Places.{Count, count, number_of, place_of, place, first_place, limit_at}
use Rattle.gh_limits.proofs.NodesAt.{inside_to, rhs_known, decl_known}

-- ---- lists

fields_to : (c : Count) (x : NextConstr) → c ≡ count Fields (fields_of x.constr) → (ks : List NextConstr) → Among x ks → Among c (map fields_at ks)
fields_to c x e ks (is_first y ys same) = is_first (fields_at y) (map fields_at ys) (e ∙ ap fields_at same)
fields_to c x e ks (is_later y ys later) = is_later (fields_at y) (map fields_at ys) (fields_to c x e ys later)

one_of : (c d : Count) (ds : List Count) → Among c (d ∷ ds) → (c ≡ d) ⊎ Among c ds
one_of c d ds (is_first y ys same) = inl same
one_of c d ds (is_later y ys later) = inr later

none_of : (c : Count) (ds : List Count) → ds ≡ [] → Among c ds → ⊥
none_of c ds e (is_first y ys same) = absurd (cc)
none_of c ds e (is_later y ys later) = absurd (cc)

abbrev ByConstr : Count → List NextConstr → Type 0
ByConstr c ks = (x : NextConstr) × Among x ks × (c ≡ count Fields (fields_of x.constr))

later_constr : (c : Count) (k : NextConstr) (ks : List NextConstr) → ByConstr c ks → ByConstr c (k ∷ ks)
later_constr c k ks h = (h.0, is_later k ks h.1, h.2)

fields_from : (c : Count) (ks : List NextConstr) → Among c (map fields_at ks) → ByConstr c ks
fields_from c [] h = absurd (none_of c [] refl h)
fields_from c (k ∷ ks) h = by_case (one_of c (fields_at k) (map fields_at ks) h) (fields_from c ks)
  where
    by_case : (c ≡ fields_at k) ⊎ Among c (map fields_at ks) → (Among c (map fields_at ks) → ByConstr c ks) → ByConstr c (k ∷ ks)
    by_case (inl same) from = (k, is_first k ks refl, same)
    by_case (inr later) from = later_constr c k ks (from later)

-- ---- a declaration of the top

pub counted_to : (c : Count) (t : Top) → CountedIn c t → Among c (top_counts t)
counted_to c (top.Synonym s a n ps m t) h = is_first (count Parameters (length ps)) [] h
counted_to c (top.Data s a n ps m k ks) (inl h) = is_first (count Parameters (length ps)) (count Constructors (1 + length ks) ∷ count Fields (fields_of k) ∷ map fields_at ks) h
counted_to c (top.Data s a n ps m k ks) (inr (inl h)) =
    is_later (count Parameters (length ps)) (count Constructors (1 + length ks) ∷ count Fields (fields_of k) ∷ map fields_at ks)
    (is_first (count Constructors (1 + length ks)) (count Fields (fields_of k) ∷ map fields_at ks) h)
counted_to c (top.Data s a n ps m k ks) (inr (inr (inl h))) =
    is_later (count Parameters (length ps)) (count Constructors (1 + length ks) ∷ count Fields (fields_of k) ∷ map fields_at ks)
    (is_later (count Constructors (1 + length ks)) (count Fields (fields_of k) ∷ map fields_at ks)
    (is_first (count Fields (fields_of k)) (map fields_at ks) h))
counted_to c (top.Data s a n ps m k ks) (inr (inr (inr h))) =
    is_later (count Parameters (length ps)) (count Constructors (1 + length ks) ∷ count Fields (fields_of k) ∷ map fields_at ks)
    (is_later (count Constructors (1 + length ks)) (count Fields (fields_of k) ∷ map fields_at ks)
    (is_later (count Fields (fields_of k)) (map fields_at ks) (fields_to c h.0 h.2 ks h.1)))
counted_to c (top.Newtype s a n ps m k t) h = is_first (count Parameters (length ps)) [] h
counted_to c (top.Signature s v vs m d t) h = is_first (count Dependencies (dependencies d)) [] h
counted_to c (top.Case s v a t b ps r) (inl h) = is_first (count Arguments (length ps)) (rhs_counts r) h
counted_to c (top.Case s v a t b ps r) (inr h) = is_later (count Arguments (length ps)) (rhs_counts r) (inside_to c h.0 (a_rhs r) h.1 h.2)
counted_to c (top.Extends s v m w) h = absurd h
counted_to c (top.Decl d) h = inside_to c h.0 (a_decl d) h.1 h.2

only : (c d : Count) → Among c (d ∷ []) → c ≡ d
only c d h = by_case (one_of c d [] h)
  where
    by_case : (c ≡ d) ⊎ Among c [] → c ≡ d
    by_case (inl same) = same
    by_case (inr later) = absurd (none_of c [] refl later)

or_later : {A B : Type 0} (c d : Count) (ds : List Count) → Among c (d ∷ ds) → (c ≡ d → A) → (Among c ds → B) → A ⊎ B
or_later {A = A} {B = B} c d ds h f g = by_case (one_of c d ds h)
  where
    by_case : (c ≡ d) ⊎ Among c ds → A ⊎ B
    by_case (inl same) = inl (f same)
    by_case (inr later) = inr (g later)

pub counted_from : (c : Count) (t : Top) → Among c (top_counts t) → CountedIn c t
counted_from c (top.Synonym s a n ps m t) h = only c (count Parameters (length ps)) h
counted_from c (top.Data s a n ps m k ks) h =
    or_later c (count Parameters (length ps)) (count Constructors (1 + length ks) ∷ count Fields (fields_of k) ∷ map fields_at ks) h (λ e. e)
    (λ i. or_later c (count Constructors (1 + length ks)) (count Fields (fields_of k) ∷ map fields_at ks) i (λ e. e)
    (λ j. or_later c (count Fields (fields_of k)) (map fields_at ks) j (λ e. e) (fields_from c ks)))
counted_from c (top.Newtype s a n ps m k t) h = only c (count Parameters (length ps)) h
counted_from c (top.Signature s v vs m d t) h = only c (count Dependencies (dependencies d)) h
counted_from c (top.Case s v a t b ps r) h = or_later c (count Arguments (length ps)) (rhs_counts r) h (λ e. e) (rhs_known r c)
counted_from c (top.Extends s v m w) h = none_of c [] refl h
counted_from c (top.Decl d) h = decl_known d c h

-- ---- the first place

pub place_below : (w : Limit) → place_of w ≤ 6
place_below Parameters = omega arith
place_below Dependencies = omega arith
place_below Constructors = omega arith
place_below Fields = omega arith
place_below Arguments = omega arith
place_below Bindings = omega arith
place_below Clauses = omega arith

pub limit_there : (w : Limit) → limit_at (place_of w) ≡ Some w
limit_there Parameters = refl
limit_there Dependencies = refl
limit_there Constructors = refl
limit_there Fields = refl
limit_there Arguments = refl
limit_there Bindings = refl
limit_there Clauses = refl

at_test : (b : Bool) (p : ℕ) → b ≡ true → (if b then p else 7) ≡ p
at_test true p e = refl
at_test false p e = absurd (cc)

by_test : (b : Bool) (p : ℕ) → ((b ≡ true) × ((if b then p else 7) ≡ p)) ⊎ ((if b then p else 7) ≡ 7)
by_test true p = inl (refl, refl)
by_test false p = inr refl

is_more : (a b : ℕ) → nat_lt a b ≡ true → a < b
is_more a b e = grind (arith, nat_tests)

more_is : (a b : ℕ) → a < b → nat_lt a b ≡ true
more_is a b e = grind (arith, nat_tests)

pub passed_place : (w : Limit) (many : ℕ) → number_of w < many → place w many ≡ place_of w
unfolding place
passed_place w many h = at_test (nat_lt (number_of w) many) (place_of w) (more_is (number_of w) many h)

pub place_by : (w : Limit) (many : ℕ) → ((number_of w < many) × (place w many ≡ place_of w)) ⊎ (place w many ≡ 7)
unfolding place
place_by w many = by_case (by_test (nat_lt (number_of w) many) (place_of w))
  where
    by_case : ((nat_lt (number_of w) many ≡ true) × ((if nat_lt (number_of w) many then place_of w else 7) ≡ place_of w)) ⊎ ((if nat_lt (number_of w) many then place_of w else 7) ≡ 7)
        → ((number_of w < many) × ((if nat_lt (number_of w) many then place_of w else 7) ≡ place_of w)) ⊎ ((if nat_lt (number_of w) many then place_of w else 7) ≡ 7)
    by_case (inl h) = inl (is_more (number_of w) many h.0, h.1)
    by_case (inr h) = inr h

pub none_lower : (c : Count) (cs : List Count) → Among c cs → Passes c → first_place cs ≤ place_of c.which
none_lower c cs (is_first d ds same) p =
    let e : place d.which d.many ≡ place_of c.which = ap (λ (x : Count). place x.which x.many) (sym same) ∙ passed_place c.which c.many p in
    omega (arith, e)
none_lower c cs (is_later d ds later) p = let h = none_lower c ds later p in omega (arith, h)

-- either no count passes its limit, or one does whose limit has this place
abbrev pub Found : List Count → ℕ → Type 0
Found cs p = (c : Count) × Among c cs × Passes c × (p ≡ place_of c.which)

pub first_found : (cs : List Count) → (first_place cs ≡ 7) ⊎ Found cs (first_place cs)
first_found [] = inl refl
first_found (c ∷ cs) = by_case (place_by c.which c.many) (first_found cs)
  where
    here : number_of c.which < c.many → min (place c.which c.many) (first_place cs) ≡ place_of c.which → Found (c ∷ cs) (min (place c.which c.many) (first_place cs))
    here p e = (c, is_first c cs refl, p, e)

    later : Found cs (first_place cs) → min (place c.which c.many) (first_place cs) ≡ first_place cs → Found (c ∷ cs) (min (place c.which c.many) (first_place cs))
    later f e = (f.0, is_later c cs f.1, f.2, e ∙ f.3)

    by_order : (b : Bool) → nat_lt (place_of c.which) (first_place cs) ≡ b → number_of c.which < c.many → place c.which c.many ≡ place_of c.which → Found cs (first_place cs)
        → Found (c ∷ cs) (min (place c.which c.many) (first_place cs))
    by_order true o p e f = here p (let l : place_of c.which < first_place cs = is_more (place_of c.which) (first_place cs) o in omega (arith, e, l))
    by_order false o p e f = later f (let l : first_place cs ≤ place_of c.which = grind (arith, nat_tests) in omega (arith, e, l))

    by_case : ((number_of c.which < c.many) × (place c.which c.many ≡ place_of c.which)) ⊎ (place c.which c.many ≡ 7) → (first_place cs ≡ 7) ⊎ Found cs (first_place cs)
        → (min (place c.which c.many) (first_place cs) ≡ 7) ⊎ Found (c ∷ cs) (min (place c.which c.many) (first_place cs))
    by_case (inl h) (inl e) = inr (here h.0 (let i = h.1 in let l = place_below c.which in omega (arith, i, e, l)))
    by_case (inl h) (inr f) = inr (by_order (nat_lt (place_of c.which) (first_place cs)) refl h.0 h.1 f)
    by_case (inr h) (inl e) = inl (omega (arith, h, e))
    by_case (inr h) (inr f) = inr (later f (let i = f.3 in let l = place_below f.0.which in omega (arith, h, i, l)))
