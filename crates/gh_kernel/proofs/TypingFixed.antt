-- What a type name stands for is bound outside: three programs without a typing.
use Rattle.std.proofs.Common.{◌≡◌, ℕ, ◌+◌, ◌<◌, Bool, true, false, cond, eqb, List, [], ◌∷◌, ◌++◌, length, map, get_or, Option, Some, None, All, IsTrue, refl, sym, ap, ◌∙◌, subst, arith}
use Rattle.std.proofs.lemmas.List.Elements.{All-head, All-tail}
use Rattle.gh_base.specs.declared.place.TyCon.TheVariants as head
use Rattle.gh_typeterm.specs.declared.kind.Kind.{Kind}
use Rattle.gh_typeterm.specs.declared.kind.Kind.TheVariants.{Star}
use Rattle.gh_typeterm.proofs.Folds.{folds}
use Rattle.gh_unify.specs.Types as ty
use Rattle.gh_unify.specs.Types.{Mono, mono, has, inst}
use Rattle.gh_unify.proofs.Insts.{eqb-is, inst-agree, inst-var}
use Rattle.gh_kernel.specs.declared.names.TopName.TheVariants.{Named}
use Rattle.gh_kernel.specs.Modules.{parameters}
use Rattle.gh_kernel.specs.Nodes.{noted}
use Rattle.gh_kernel.specs.Types.{Scope, primitive_scope, global, monomorphic, TypeName, TypeNames, arrow, char_type, int_type, assigned, places_from, base_at}
use Rattle.gh_kernel.specs.Typing.{Typed, Rules, IsTyped, IsApart, AreFresh, variables_of, stands_for, HaveKinds}
use Rattle.gh_kernel.specs.TypingExamples.{given, main, w_function, redefined, redefined_twice, parameter_used, used_twice, any_to_int, recursive}
use Rattle.gh_kernel.proofs.Typings.{endless}
use Rattle.gh_kernel.specs.TypingLaws.{HasNoTyping, NamesAreFixed}

-- a type without the variables that are replaced stays
kept_test : (b : Bool) (v x : ℕ) (t r u : Mono) → eqb v x ≡ b → IsTrue (has v u) → has x u ≡ false → r ≡ ty.var v → cond b t r ≡ ty.var v
kept_test true v x t r u e h apart rest = let i : has v u ≡ has x u = ap (λ y. has y u) (eqb-is v x e) in absurd (cc)
kept_test false v x t r u e h apart rest = rest

kept : (vs : List ℕ) (ts : List Mono) (u : Mono) (v : ℕ) → IsTrue (has v u) → All (λ x. has x u ≡ false) vs → assigned vs ts v ≡ ty.var v
kept [] ts u v h apart = refl
kept (x ∷ xs) [] u v h apart = refl
kept (x ∷ xs) (t ∷ ts) u v h apart =
    kept_test (eqb v x) v x t (assigned xs ts v) u refl h (All-head (λ y. has y u ≡ false) x xs apart) (kept xs ts u v h (All-tail (λ y. has y u ≡ false) x xs apart))

pub stays : (vs : List ℕ) (ts : List Mono) (u : Mono) → All (λ x. has x u ≡ false) vs → inst (assigned vs ts) u ≡ u
stays vs ts u apart = inst-agree (assigned vs ts) ty.var u (λ v h. kept vs ts u v h apart) ∙ inst-var u

-- an instance of `u -> Int` where u holds no quantified variable
pub used_at : (vs : List ℕ) (ts : List Mono) (m b u : Mono) → All (λ x. has x u ≡ false) vs → b ≡ arrow u int_type → m ≡ inst (assigned vs ts) b → m ≡ arrow u int_type
used_at vs ts m b u apart is use_is = use_is ∙ ap (inst (assigned vs ts)) is ∙ (λ i. arrow (stays vs ts u apart i) int_type)

abbrev second_of : Mono → Mono
second_of (ty.con c) = ty.con c
second_of (ty.var v) = ty.var v
second_of (ty.app f a) = a
second_of (ty.name n) = ty.name n

abbrev domain : Mono → Mono
domain (ty.con c) = ty.con c
domain (ty.var v) = ty.var v
domain (ty.app f a) = second_of f
domain (ty.name n) = ty.name n

-- an application of such a use to an argument
pub argument_is : (m u x y c : Mono) → m ≡ arrow u int_type → m ≡ arrow x y → x ≡ c → u ≡ c
argument_is m u x y c p q r = ap domain (sym p ∙ q) ∙ r

base_is : mono w_function.base ≡ arrow (ty.var 0) int_type
base_is = simp folds

-- the type of a call of w
called : (t : Mono) (at : List Mono) → base_at w_function (t ∷ []) at ≡ arrow t int_type
called t at = ap (inst (assigned (places_from 0 (t ∷ at)) (t ∷ at))) base_is

one_type : (ts : List Mono) → length ts ≡ 1 → (u : Mono) × (ts ≡ u ∷ [])
one_type [] e = absurd (omega (arith, e))
one_type (u ∷ []) e = (u, refl)
one_type (u ∷ v ∷ ts) e = absurd (omega (arith, e))

-- what is fresh at a type name holds none of its types
name_apart : (R : Rules) (κ : ℕ → Kind) (Θ : TypeNames) (k : ℕ) (u : Mono) (rest fixes : List Mono) (v : ℕ)
    → Θ k ≡ Some (record { types = u ∷ rest; fixes = fixes }) → IsApart R given κ Θ v → has v u ≡ false
name_apart R κ Θ k u rest fixes v e apart = All-head (λ x. has v x ≡ false) u (rest ++ fixes) (apart k (record { types = u ∷ rest; fixes = fixes }) e)

head_apart : (v : ℕ) (types fixes : List Mono) (u : Mono) → types ≡ u ∷ [] → All (λ x. has v x ≡ false) (types ++ fixes) → has v u ≡ false
head_apart v types fixes u e h = All-head (λ x. has v x ≡ false) u fixes (subst (λ ts. All (λ x. has v x ≡ false) (ts ++ fixes)) e h)

char_is_int : char_type ≡ int_type → ⊥
char_is_int e = let i : ty.con head.Char ≡ ty.con head.Int = e in absurd (cc)

abbrev no_names : TypeNames
no_names k = None

redefined_fails : (R : Rules) (κ : ℕ → Kind) (Γ : Scope) (N : ℕ → Typed) → IsTyped R given κ 15 Γ no_names (noted N redefined) → ⊥
redefined_fails R κ Γ N h =
    let r = (h.5 (omega arith)).1 in
    let one = one_type h.0.types r.3.0.0 in
    let call_is = (h.4.0.0.1 (omega arith)).1.2 in
    let stands : stands_for (Some h.0) 5 0 ≡ one.0 = ap (λ ts. stands_for (Some (record { types = ts; fixes = h.0.fixes })) 5 0) one.1 in
    let type_is : (N 2).ty ≡ arrow one.0 int_type = call_is ∙ called (stands_for (Some h.0) 5 0) (N 2).at ∙ ap (λ t. arrow t int_type) stands in
    let bound_is : (N 3).ty ≡ arrow one.0 int_type = (h.4.0.0.2 (omega arith)).1 ∙ type_is in
    let apart : All (λ v. has v one.0 ≡ false) (variables_of (N 3).at) =
    λ i d lt. head_apart (get_or (variables_of (N 3).at) i d) h.0.types h.0.fixes one.0 one.1 (h.4.0.1.0.1.1 i d lt 5 h.0 refl) in
    let body = h.4.1 in
    let at_char : (N 4).ty ≡ arrow one.0 int_type = used_at (variables_of (N 3).at) (N 4).at (N 4).ty (N 3).ty one.0 apart bound_is (body.0.2.0 (omega arith)).1.1 in
    let at_int : (N 8).ty ≡ arrow one.0 int_type = used_at (variables_of (N 3).at) (N 8).at (N 8).ty (N 3).ty one.0 apart bound_is (body.1.0 (omega arith)).1.1 in
    let is_char : one.0 ≡ char_type = argument_is (N 4).ty one.0 (N 5).ty (N 6).ty char_type at_char (body.0.2.2 (omega arith)).1 (body.0.2.1 (omega arith)).1 in
    let is_int : one.0 ≡ int_type = argument_is (N 8).ty one.0 (N 9).ty (N 10).ty int_type at_int (body.1.2 (omega arith)).1 (body.1.1 (omega arith)).1 in
    char_is_int (sym is_char ∙ is_int)

pub redefined_has_none : HasNoTyping redefined_twice
redefined_has_none R N h = redefined_fails R h.0 ((global (Named main), monomorphic (N 14).ty) ∷ primitive_scope) N h.1.0.0.1

-- the parameter of the case for lists
abbrev parameter_names : TypeNames
parameter_names = parameters ((0 ∷ []) ∷ []) []

parameter_fails : (R : Rules) (κ : ℕ → Kind) (Γ : Scope) (N : ℕ → Typed) → IsTyped R given κ 13 Γ parameter_names (noted N (used_twice None)) → ⊥
parameter_fails R κ Γ N h =
    let type_is : (N 0).ty ≡ arrow (ty.var 0) int_type = (h.2.0.0.1 (omega arith)).1.2 ∙ called (ty.var 0) (N 0).at in
    let bound_is : (N 1).ty ≡ arrow (ty.var 0) int_type = (h.2.0.0.2 (omega arith)).1 ∙ type_is in
    let apart : All (λ v. has v (ty.var 0) ≡ false) (variables_of (N 1).at) = λ i d lt. name_apart R κ parameter_names 0 (ty.var 0) [] [] (get_or (variables_of (N 1).at) i d) refl (h.2.0.1.0.1.1 i d lt) in
    let argument = h.2.1.0.1 in
    let at_char : (N 3).ty ≡ arrow (ty.var 0) int_type = used_at (variables_of (N 1).at) (N 3).at (N 3).ty (N 1).ty (ty.var 0) apart bound_is (argument.0 (omega arith)).1.1 in
    let is_char : ty.var 0 ≡ char_type = argument_is (N 3).ty (ty.var 0) (N 4).ty (N 5).ty char_type at_char (argument.2 (omega arith)).1 (argument.1 (omega arith)).1 in
    absurd (cc)

pub parameter_has_none : HasNoTyping (parameter_used None)
parameter_has_none R N h = parameter_fails R h.1.1.0.0 primitive_scope N h.1.1.0.2.1

signature_is : mono any_to_int.ty ≡ arrow (ty.var 0) int_type
signature_is = simp folds

rigid_fails : (R : Rules) (κ : ℕ → Kind) (vs : List ℕ) (m : Mono) → HaveKinds R given κ (map ty.var vs) (Star ∷ []) → All (IsApart R given κ parameter_names) vs
    → m ≡ inst (assigned (0 ∷ []) (map ty.var vs)) (mono any_to_int.ty) → m ≡ arrow (ty.var 0) int_type → ⊥
rigid_fails R κ [] m kinds apart is is_call = absurd kinds
rigid_fails R κ (v ∷ vs) m kinds apart is is_call =
    let there : m ≡ arrow (ty.var v) int_type = is ∙ ap (inst (assigned (0 ∷ []) (ty.var v ∷ map ty.var vs))) signature_is in
    let same : ty.var v ≡ ty.var 0 = ap domain (sym there ∙ is_call) in
    let zero_is : v ≡ 0 = cc in
    let free : eqb v 0 ≡ false = name_apart R κ parameter_names 0 (ty.var 0) [] [] v refl (All-head (IsApart R given κ parameter_names) v vs apart) in
    let wrong : true ≡ false = subst (λ x. eqb x 0 ≡ false) zero_is free in
    absurd (cc)

signed_fails : (R : Rules) (κ : ℕ → Kind) (Γ : Scope) (N : ℕ → Typed) → IsTyped R given κ 13 Γ parameter_names (noted N (used_twice (Some any_to_int))) → ⊥
signed_fails R κ Γ N h =
    let type_is : (N 0).ty ≡ arrow (ty.var 0) int_type = (h.2.0.0.1 (omega arith)).1.2 ∙ called (ty.var 0) (N 0).at in
    let b = (h.2.0.0.2 (omega arith)).1 in
    rigid_fails R κ b.1.0 (N 1).ty b.1.2.2 b.1.2.1.1 b.1.2.3 (b.0 ∙ type_is)

pub signed_has_none : HasNoTyping (parameter_used (Some any_to_int))
signed_has_none R N h = signed_fails R h.1.1.0.0 primitive_scope N h.1.1.0.2.1

pub names_fixed : NamesAreFixed
names_fixed = (redefined_has_none, parameter_has_none, signed_has_none)

-- inside its group a name has one type, which would be that of its own argument
pub recursive_has_none : HasNoTyping recursive
recursive_has_none R N h =
    let body = h.1.0.0.1.2 in
    let first : (N 0).ty ≡ (N 4).ty = (body.0 (omega arith)).1.1 ∙ inst-var (N 4).ty in
    let next : (N 1).ty ≡ (N 4).ty = (body.1 (omega arith)).1.1 ∙ inst-var (N 4).ty in
    let used : (N 0).ty ≡ arrow (N 1).ty (N 2).ty = (body.2 (omega arith)).1 in
    endless (N 4).ty (N 2).ty (sym first ∙ used ∙ ap (λ t. arrow t (N 2).ty) next)
