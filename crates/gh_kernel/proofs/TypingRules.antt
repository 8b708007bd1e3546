-- Laws of typings: the exact rule is one rule more; the rigid variables of cases and of written types.
use Rattle.std.proofs.Common.{◌≡◌, ℕ, zero, suc, ◌+◌, ◌-◌, ◌<◌, ◌≤◌, Bool, true, false, cond, eqb, ◌||◌, List, [], ◌∷◌, ◌++◌, length, map, Option, Some, None, All, IsTrue, refl, sym, ap, ◌∙◌, subst, arith, inl, inr}
use Rattle.std.proofs.lemmas.List.Elements.{All-head, All-tail}
use Rattle.gh_typeterm.specs.declared.kind.Kind.{Kind}
use Rattle.gh_unify.specs.Types as ty
use Rattle.gh_unify.specs.Types.{Mono, Val, mono, has, inst}
use Rattle.gh_unify.proofs.Insts.{eqb-is, eqb-same, true-either, not-both}
use Rattle.gh_kernel.specs.declared.functions.GenFun.{GenFun}
use Rattle.gh_kernel.specs.declared.signatures.Signed.{Signed}
use Rattle.gh_kernel.specs.Modules.{Clause, flat, numbers_from, parameter_variables, case_parameters, case_others, case_variables}
use Rattle.gh_kernel.specs.Programs.{or_else}
use Rattle.gh_kernel.specs.Types.{Given, Scope, TypeNames, is_among, assigned, signed_scheme}
use Rattle.gh_kernel.specs.Typing.{Typed, Rules, AreDistinct, HaveKinds, IsRigid}
use Rattle.gh_kernel.specs.TypingLaws.{found, type_or, found_each, read_off, RigidAreRead, CaseVariablesDiffer, VariablesAreBounded}

-- rigid variables of a case --------------------------------------------------------------------------------------------------

joined : (i k m : ℕ) → numbers_from i k ++ numbers_from (i + k) m ≡ numbers_from i (k + m)
joined i zero m =
    let e1 : i + 0 ≡ i = omega arith in
    let e2 : 0 + m ≡ m = omega arith in
    ap (λ j. numbers_from j m) e1 ∙ ap (numbers_from i) (sym e2)
joined i (suc k) m =
    let e1 : i + suc k ≡ suc i + k = omega arith in
    let e2 : suc k + m ≡ suc (k + m) = omega arith in
    ap (λ j. i ∷ (numbers_from (suc i) k ++ numbers_from j m)) e1 ∙ ap (λ xs. i ∷ xs) (joined (suc i) k m) ∙ ap (numbers_from i) (sym e2)

length_numbers : (i n : ℕ) → length (numbers_from i n) ≡ n
length_numbers i zero = refl
length_numbers i (suc n) = ap suc (length_numbers (suc i) n)

flat_is : (i r m : ℕ) → (k : ℕ) × (flat (parameter_variables i r m) ≡ numbers_from i k)
flat_is i r zero = (0, refl)
flat_is i r (suc m) =
    let rest = flat_is (i + r) r m in
    (r + rest.0, ap (λ xs. numbers_from i r ++ xs) rest.1 ∙ joined i r rest.0)

other_number : (v i : ℕ) → v < i → eqb v i ≡ false
other_number v i lt = test (eqb v i) refl
  where
    test : (b : Bool) → eqb v i ≡ b → b ≡ false
    test false e = refl
    test true e = let same : v ≡ i = eqb-is v i e in absurd (omega (arith, lt, same))

not_among : (v i n : ℕ) → v < i → is_among v (numbers_from i n) ≡ false
not_among v i zero lt = refl
not_among v i (suc n) lt = ap (λ b. b || is_among v (numbers_from (suc i) n)) (other_number v i lt) ∙ not_among v (suc i) n (omega (arith, lt))

module _ (R : Rules) (G : Given) (κ : ℕ → Kind) where
  numbers_differ : (i n : ℕ) → AreDistinct R G κ (numbers_from i n)
  numbers_differ i zero = tt
  numbers_differ i (suc n) = (not_among i (suc i) n (omega arith), numbers_differ (suc i) n)

  -- the variables of a case are the numbers from 0 on
  pub case_numbers : (f : GenFun) (c : Clause Typed) → (k : ℕ) × (case_variables f c ≡ numbers_from 0 k)
  case_numbers f c =
      let all = flat_is 0 (length f.generic) c.names in
      let long : length (flat (case_parameters f c)) ≡ 0 + all.0 = ap length all.1 ∙ length_numbers 0 all.0 ∙ omega arith in
      (all.0 + length f.other, (λ i. all.1 i ++ numbers_from (long i) (length f.other)) ∙ joined 0 all.0 (length f.other))

  case_differ : (f : GenFun) (c : Clause Typed) → AreDistinct R G κ (case_variables f c)
  case_differ f c = let e = case_numbers f c in subst (AreDistinct R G κ) (sym e.1) (numbers_differ 0 e.0)

pub case_variables_differ : CaseVariablesDiffer
case_variables_differ = case_differ

-- rigid variables of a written type -------------------------------------------------------------------------------------------

or_false : (x y : Bool) → x || y ≡ false → (x ≡ false) × (y ≡ false)
or_false true y e = absurd (cc)
or_false false y e = (refl, e)

not_found : (v : ℕ) (p t : Mono) → has v p ≡ false → found v p t ≡ None
not_found v (ty.con c) t h = refl
not_found v (ty.var u) t h = ap (λ b. cond b (Some t) None) h
not_found v (ty.name n) t h = refl
not_found v (ty.app f x) (ty.app g y) h =
    let parts = or_false (has v f) (has v x) h in
    λ i. or_else (not_found v f g parts.0 i) (not_found v x y parts.1 i)
not_found v (ty.app f x) (ty.con c) h = refl
not_found v (ty.app f x) (ty.var u) h = refl
not_found v (ty.app f x) (ty.name n) h = refl

found_in : (v : ℕ) (p : Mono) (ρ : Val) → has v p ≡ true → found v p (inst ρ p) ≡ Some (ρ v)
found_in v (ty.con c) ρ h = absurd (cc)
found_in v (ty.var u) ρ h = ap (λ b. cond b (Some (ρ u)) None) h ∙ ap (λ w. Some (ρ w)) (sym (eqb-is v u h))
found_in v (ty.name n) ρ h = absurd (cc)
found_in v (ty.app f x) ρ h = test (has v f) refl (found_in v f ρ) (found_in v x ρ)
  where
    test : (b : Bool) → has v f ≡ b → (has v f ≡ true → found v f (inst ρ f) ≡ Some (ρ v)) → (has v x ≡ true → found v x (inst ρ x) ≡ Some (ρ v))
        → or_else (found v f (inst ρ f)) (found v x (inst ρ x)) ≡ Some (ρ v)
    test true e first second = ap (λ o. or_else o (found v x (inst ρ x))) (first e)
    test false e first second =
        let inside : has v x ≡ true = ap (λ b. b || has v x) (sym e) ∙ h in
        ap (λ o. or_else o (found v x (inst ρ x))) (not_found v f (inst ρ f) e) ∙ second inside

each_found : (vs : List ℕ) (p : Mono) (ρ : Val) → All (λ v. has v p ≡ true) vs → found_each vs p (inst ρ p) ≡ map ρ vs
each_found [] p ρ h = refl
each_found (v ∷ vs) p ρ h =
    let here : type_or (found v p (inst ρ p)) ≡ ρ v = ap type_or (found_in v p ρ (All-head (λ w. has w p ≡ true) v vs h)) in
    let rest = each_found vs p ρ (All-tail (λ w. has w p ≡ true) v vs h) in
    λ i. here i ∷ rest i

other_way : (x y : ℕ) → eqb x y ≡ false → eqb y x ≡ false
other_way x y h = test (eqb y x) refl
  where
    test : (b : Bool) → eqb y x ≡ b → b ≡ false
    test false e = refl
    test true e = let same : true ≡ false = sym (eqb-same x) ∙ ap (eqb x) (sym (eqb-is y x e)) ∙ h in absurd (cc)

skips : (x : ℕ) (t : Mono) (xs : List ℕ) (ts : List Mono) (ys : List ℕ) → is_among x ys ≡ false → map (assigned (x ∷ xs) (t ∷ ts)) ys ≡ map (assigned xs ts) ys
skips x t xs ts [] h = refl
skips x t xs ts (y ∷ ys) h =
    let parts = or_false (eqb x y) (is_among x ys) h in
    let here : assigned (x ∷ xs) (t ∷ ts) y ≡ assigned xs ts y = ap (λ b. cond b t (assigned xs ts y)) (other_way x y parts.0) in
    let rest = skips x t xs ts ys parts.1 in
    λ i. here i ∷ rest i

module _ (R : Rules) (G : Given) (κ : ℕ → Kind) where
  -- different variables get the types that are put for them
  assigned_back : (xs : List (ℕ × Kind)) (ts : List Mono) → AreDistinct R G κ (map (λ (v : ℕ × Kind). v.0) xs) → HaveKinds R G κ ts (map (λ (v : ℕ × Kind). v.1) xs)
      → map (assigned (map (λ (v : ℕ × Kind). v.0) xs) ts) (map (λ (v : ℕ × Kind). v.0) xs) ≡ ts
  assigned_back [] ts differ kinds = sym kinds
  assigned_back (x ∷ xs) [] differ kinds = absurd kinds
  assigned_back (x ∷ xs) (t ∷ ts) differ kinds =
      let vs = map (λ (v : ℕ × Kind). v.0) xs in
      let here : assigned (x.0 ∷ vs) (t ∷ ts) x.0 ≡ t = ap (λ b. cond b t (assigned vs ts x.0)) (eqb-same x.0) in
      let rest = skips x.0 t vs ts vs differ.0 ∙ assigned_back xs ts differ.1 kinds.1 in
      λ i. here i ∷ rest i

  read_back : (Γ : Scope) (Θ : TypeNames) (s : Signed) (vs : List ℕ) (t : Mono) → AreDistinct R G κ (signed_scheme s).vars
      → All (λ v. has v (mono s.ty) ≡ true) (signed_scheme s).vars → IsRigid R G κ Γ Θ s vs t → read_off s t ≡ map ty.var vs
  read_back Γ Θ s vs t differ used rigid =
      ap (read_off s) rigid.3 ∙ each_found (signed_scheme s).vars (mono s.ty) (assigned (signed_scheme s).vars (map ty.var vs)) used
      ∙ assigned_back s.kinds (map ty.var vs) differ rigid.2

pub rigid_are_read : RigidAreRead
rigid_are_read = read_back

-- types that are bound before their node is looked at -------------------------------------------------------------------------

pub variables_are_bounded : VariablesAreBounded
variables_are_bounded =
    ((λ G κ n Γ Θ m x e h. (h.0, h.1, h.2)), (λ G κ n Γ Θ m x s e rest h. h.0), (λ G κ n Γ b rest h. h.0), (λ G κ n Γ Θ m k text table e h. (h.0, h.1, h.4)))
