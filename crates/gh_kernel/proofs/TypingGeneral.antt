-- Typings that are most general, and some that are not.
use Rattle.std.proofs.Common.{◌≡◌, ℕ, ◌<◌, ◌≤◌, ◌⊎◌, true, false, List, [], ◌∷◌, map, Option, Some, None, All, refl, sym, ap, ◌∙◌, subst, arith, inl, inr}
use Rattle.gh_base.specs.declared.place.Span.{Span}
use Rattle.gh_typeterm.specs.declared.kind.Kind.{Kind}
use Rattle.gh_typeterm.specs.declared.kind.Kind.TheVariants.{Star}
use Rattle.gh_unify.specs.Types as ty
use Rattle.gh_unify.specs.Types.{Mono, Val, inst}
use Rattle.gh_kernel.specs.declared.names.TopName.{TopName}
use Rattle.gh_kernel.specs.declared.names.TopName.TheVariants.{Named}
use Rattle.gh_kernel.specs.General.{chosen, text_typed, IsMostGeneral, AreInstancesBy, ModulesInstances}
use Rattle.gh_kernel.specs.Modules.{Top, Clause, Module, noted_top, noted_clause, noted_module, IsTyping, IsFullTyping, all_nodes}
use Rattle.gh_kernel.specs.Nodes.{noted}
use Rattle.gh_kernel.specs.Terms.{Expr, var, top, con, lit, string, lam, app, lets, cases, call, redef, ann, whole, contents, convert, Binds, no_bind, bind, Groups, no_group, group}
use Rattle.gh_kernel.specs.Types.{Scope, TypeName, global, local, primitive_scope, monomorphic, arrow, char_type, int_type, occurs_in}
use Rattle.gh_kernel.specs.Typing.{Typed, full, full_exact, IsTyped, IsGood, IsFine, IsFresh, IsApart, Picks, inside}
use Rattle.gh_kernel.specs.TypingExamples.{place, given, plain, with_a, a, by_number, with_notes, placed, main, identity, again, two_groups, two_groups_notes, identity_alone, nothing_quantified, at_characters, inner_groups, one_number}
use Rattle.gh_kernel.specs.TypingLaws.{IsLessGeneral, LessGeneralTypings, GroupsMayShare}
use Rattle.gh_kernel.proofs.Typings.{inst_nothing}
use Rattle.gh_kernel.proofs.TypingWorked.{star, to, good_plain, good_a, plain_0, a_0, one_sized, fresh_0, good_var, a_to_a}

no_type_name : (k : ℕ) (t : TypeName) → None ≡ Some t → ⊥
no_type_name k t e = cc

is_fresh : (Γ : Scope) → occurs_in Γ 0 ≡ false → IsFresh full_exact given star Γ (λ k. None) 0
is_fresh Γ h = (h, (λ k t e. absurd (no_type_name k t e)))

good_pair : IsGood full given star (with_a (arrow a a) [])
good_pair = a_0 (arrow a a) a_to_a (omega arith) refl

good_bound : IsGood full given star (with_a (arrow a a) (a ∷ []))
good_bound = good_a (arrow a a) (a ∷ []) a_to_a (omega arith) (one_sized a (omega arith)) refl

-- with nothing quantified ------------------------------------------------------------------------------------------------------

nothing_typed : IsFullTyping given (with_notes nothing_quantified identity_alone)
nothing_typed = (
  star,
  (
    (
      ((a_to_a, omega arith), (a, (refl, omega arith), (λ h. (good_var, (refl, refl))), (λ h. (good_pair, refl))), (λ h. (good_pair, refl)), tt),
      ((refl, ((λ i d h. absurd (omega (arith, h))), (λ i d h. absurd (omega (arith, h)))), tt), tt),
      tt,
    ),
    tt,
    tt,
  ),
)

nothing_picked : Picks (IsFresh full_exact given star primitive_scope (λ k. None)) (0 ∷ []) [] → ⊥
nothing_picked (inl k) = absurd (none_first k.1.0 k.1.1)
  where
    none_first : (rest : List ℕ) → [] ≡ 0 ∷ rest → ⊥
    none_first rest e = cc
nothing_picked (inr k) = k.0 (is_fresh primitive_scope refl)

nothing_less : IsMostGeneral given (with_notes nothing_quantified identity_alone) → ⊥
nothing_less h = nothing_picked_at h.exact.0 h.exact.1.0.1.0.2
  where
    nothing_picked_at : (κ : ℕ → Kind) → Picks (IsFresh full_exact given κ primitive_scope (λ k. None)) (0 ∷ []) [] → ⊥
    nothing_picked_at κ p = nothing_picked p

-- at one type --------------------------------------------------------------------------------------------------------------------

good_char : IsGood full given star (plain char_type [])
good_char = plain_0 char_type refl (omega arith) refl

char_char : IsGood full given star (plain (arrow char_type char_type) [])
char_char = plain_0 (arrow char_type char_type) (to char_type char_type refl refl) (omega arith) refl

int_int : IsGood full given star (plain (arrow int_type int_type) [])
int_int = plain_0 (arrow int_type int_type) (to int_type int_type refl refl) (omega arith) refl

characters_typed : IsFullTyping given (with_notes at_characters identity_alone)
characters_typed = (
  star,
  (
    (
      ((to char_type char_type refl refl, omega arith), (char_type, (refl, omega arith), (λ h. (good_char, (refl, refl))), (λ h. (char_char, refl))), (λ h. (char_char, refl)), tt),
      ((refl, ((λ i d h. absurd (omega (arith, h))), (λ i d h. absurd (omega (arith, h)))), tt), tt),
      tt,
    ),
    tt,
    tt,
  ),
)

characters_less : IsMostGeneral given (with_notes at_characters identity_alone) → ⊥
characters_less h =
    let is = h.general (with_notes nothing_quantified identity_alone) refl nothing_typed in
    let wrong : arrow char_type char_type ≡ arrow a a = is.0.0.1.0 in
    absurd (cc)

-- two groups inside one binding ----------------------------------------------------------------------------------------------------

abbrev main_scope : Scope
main_scope = (global (Named main), monomorphic char_type) ∷ primitive_scope

abbrev next_scope : Scope
next_scope = (local 1, record { vars = 0 ∷ []; kinds = Star ∷ []; ty = arrow a a }) ∷ main_scope

inner_typed : IsFullTyping given (with_notes one_number inner_groups)
inner_typed = (
  star,
  (
    (
      (
        (refl, omega arith),
        (
          (
            ((a_to_a, omega arith), (a, (refl, omega arith), (λ h. (good_var, (refl, refl))), (λ h. (good_pair, refl))), (λ h. (good_bound, refl)), tt),
            ((refl, fresh_0 main_scope refl, tt), tt),
            (
              ((a_to_a, omega arith), (a, (refl, omega arith), (λ h. (good_var, (refl, refl))), (λ h. (good_pair, refl))), (λ h. (good_bound, refl)), tt),
              ((refl, fresh_0 next_scope refl, tt), tt),
              tt,
            ),
          ),
          (λ h. (good_char, refl)),
          (λ h. (good_char, refl)),
        ),
        (λ h. (good_char, refl)),
        tt,
      ),
      ((refl, ((λ i d h. absurd (omega (arith, h))), (λ i d h. absurd (omega (arith, h)))), tt), tt),
      tt,
    ),
    tt,
    tt,
  ),
)

-- the two at different types
abbrev different : ℕ → Typed
different = by_number (plain char_type [] ∷ plain (arrow char_type char_type) [] ∷ plain (arrow char_type char_type) []
    ∷ plain int_type [] ∷ plain (arrow int_type int_type) [] ∷ plain (arrow int_type int_type) []
    ∷ plain char_type [] ∷ plain char_type [] ∷ plain char_type [] ∷ [])

good_int : IsGood full given star (plain int_type [])
good_int = plain_0 int_type refl (omega arith) refl

different_typed : IsFullTyping given (with_notes different inner_groups)
different_typed = (
  star,
  (
    (
      (
        (refl, omega arith),
        (
          (
            ((to char_type char_type refl refl, omega arith), (char_type, (refl, omega arith), (λ h. (good_char, (refl, refl))), (λ h. (char_char, refl))), (λ h. (char_char, refl)), tt),
            ((refl, ((λ i d h. absurd (omega (arith, h))), (λ i d h. absurd (omega (arith, h)))), tt), tt),
            (
              ((to int_type int_type refl refl, omega arith), (int_type, (refl, omega arith), (λ h. (good_int, (refl, refl))), (λ h. (int_int, refl))), (λ h. (int_int, refl)), tt),
              ((refl, ((λ i d h. absurd (omega (arith, h))), (λ i d h. absurd (omega (arith, h)))), tt), tt),
              tt,
            ),
          ),
          (λ h. (good_char, refl)),
          (λ h. (good_char, refl)),
        ),
        (λ h. (good_char, refl)),
        tt,
      ),
      ((refl, ((λ i d h. absurd (omega (arith, h))), (λ i d h. absurd (omega (arith, h)))), tt), tt),
      tt,
    ),
    tt,
    tt,
  ),
)

abbrev groups_in : Expr Mono → Groups Mono
groups_in (lets n gs body) = gs
groups_in e = no_group

abbrev rest_of : Groups Mono → Groups Mono
rest_of no_group = no_group
rest_of (group bs rest) = rest

abbrev first_bound : Binds Mono → Mono
first_bound no_bind = char_type
first_bound (bind n x s e rest) = n

abbrev first_note : Groups Mono → Mono
first_note no_group = char_type
first_note (group bs rest) = first_bound bs

inner_less : IsMostGeneral given (with_notes one_number inner_groups) → ⊥
inner_less h =
    let is = h.general (with_notes different inner_groups) refl different_typed in
    let τ : Val = is.0.0.0 in
    let body = is.0.0.1.1.0 in
    let first : arrow (τ 0) (τ 0) ≡ arrow char_type char_type = ap (λ e. first_note (groups_in e)) body in
    let next : arrow (τ 0) (τ 0) ≡ arrow int_type int_type = ap (λ e. first_note (rest_of (groups_in e))) body in
    absurd (cc)

pub less_general : LessGeneralTypings
less_general = ((nothing_typed, nothing_less), (characters_typed, characters_less), (inner_typed, inner_less))

-- two groups of the top level ------------------------------------------------------------------------------------------------------

abbrev after_identity : Scope
after_identity = (global (Named identity), record { vars = 0 ∷ []; kinds = Star ∷ []; ty = arrow a a }) ∷ primitive_scope

two_groups_exact : IsTyping full_exact given (all_nodes (with_notes two_groups_notes two_groups)) (with_notes two_groups_notes two_groups)
two_groups_exact = (
  star,
  (
    (
      ((a_to_a, omega arith), (a, (refl, omega arith), (λ h. (good_var, (refl, refl))), (λ h. (good_pair, refl))), (λ h. (good_bound, refl)), tt),
      ((refl, fresh_0 primitive_scope refl, inl (is_fresh primitive_scope refl, ([], refl, refl))), tt),
      (
        ((a_to_a, omega arith), (a, (refl, omega arith), (λ h. (good_var, (refl, refl))), (λ h. (good_pair, refl))), (λ h. (good_bound, refl)), tt),
        ((refl, fresh_0 after_identity refl, inl (is_fresh after_identity refl, ([], refl, refl))), tt),
        tt,
      ),
    ),
    tt,
    tt,
  ),
)

abbrev span_of : Typed → Span
span_of n = n.span

is_variable : (u : Expr Typed) → noted span_of u ≡ var place 0 → (p : Typed) × (u ≡ var p 0)
is_variable (var p x) e = let same : x ≡ 0 = cc in (p, ap (var p) same)
is_variable u e = absurd (cc)

is_identity : (u : Expr Typed) → noted span_of u ≡ lam place 0 (var place 0) → (m p : Typed) × (u ≡ lam m 0 (var p 0))
is_identity (lam m x body) e =
    let inside : noted span_of body ≡ var place 0 = cc in
    let same : x ≡ 0 = cc in
    let v = is_variable body inside in
    (m, v.0, (λ i. lam m (same i) (v.1 i)))
is_identity u e = absurd (cc)

abbrev identity_top : TopName → Top Span
identity_top x = record { name = x; signature = None; body = lam place 0 (var place 0); note = place }

abbrev typed_top : TopName → (n m p : Typed) → Top Typed
typed_top x n m p = record { name = x; signature = None; body = lam m 0 (var p 0); note = n }

one_top : (x : TopName) (b : Top Typed) → noted_top span_of b ≡ identity_top x → (n m p : Typed) × (b ≡ typed_top x n m p)
one_top x b e =
    let body = is_identity b.body (ap (λ (c : Top Span). c.body) e) in
    let name_is : b.name ≡ x = ap (λ (c : Top Span). c.name) e in
    let signature_is : b.signature ≡ None = ap (λ (c : Top Span). c.signature) e in
    (b.note, body.0, body.1, (λ i. record { name = name_is i; signature = signature_is i; body = body.2 i; note = b.note }))

alone : (x : TopName) (bs : List (Top Typed)) → map (noted_top span_of) bs ≡ identity_top x ∷ [] → (n m p : Typed) × (bs ≡ typed_top x n m p ∷ [])
alone x [] e = absurd (cc)
alone x (b ∷ []) e =
    let is : noted_top span_of b ≡ identity_top x = cc in
    let t = one_top x b is in
    (t.0, t.1, t.2, ap (λ c. c ∷ []) t.3)
alone x (b ∷ c ∷ bs) e = absurd (cc)

no_cases : (cs : List (Clause Typed)) → map (noted_clause span_of) cs ≡ [] → cs ≡ []
no_cases [] e = refl
no_cases (c ∷ cs) e = absurd (cc)

both : (gs : List (List (Top Typed))) → map (map (noted_top span_of)) gs ≡ (identity_top (Named identity) ∷ []) ∷ (identity_top (Named again) ∷ []) ∷ []
    → (g h : List (Top Typed)) × (gs ≡ g ∷ h ∷ []) × (map (noted_top span_of) g ≡ identity_top (Named identity) ∷ []) × (map (noted_top span_of) h ≡ identity_top (Named again) ∷ [])
both [] e = absurd (cc)
both (g ∷ []) e = absurd (cc)
both (g ∷ h ∷ []) e = (g, h, refl, cc, cc)
both (g ∷ h ∷ i ∷ gs) e = absurd (cc)

abbrev typed_module : (n m p o q r : Typed) → Module Typed
typed_module n m p o q r = record { groups = (typed_top (Named identity) n m p ∷ []) ∷ (typed_top (Named again) o q r ∷ []) ∷ []; cases = [] }

inverted : (other : List (Module Typed)) → text_typed other ≡ placed two_groups → (n m p o q r : Typed) × (other ≡ typed_module n m p o q r ∷ [])
inverted [] e = absurd (cc)
inverted (x ∷ []) e =
    let is : noted_module span_of x ≡ record { groups = (identity_top (Named identity) ∷ []) ∷ (identity_top (Named again) ∷ []) ∷ []; cases = [] } = cc in
    let gs = both x.groups (ap (λ (y : Module Span). y.groups) is) in
    let cs : x.cases ≡ [] = no_cases x.cases (ap (λ (y : Module Span). y.cases) is) in
    let g = alone (Named identity) gs.0 gs.3 in
    let h = alone (Named again) gs.1 gs.4 in
    let groups_are : x.groups ≡ (typed_top (Named identity) g.0 g.1 g.2 ∷ []) ∷ (typed_top (Named again) h.0 h.1 h.2 ∷ []) ∷ [] = gs.2 ∙ (λ i. g.3 i ∷ h.3 i ∷ []) in
    (g.0, g.1, g.2, h.0, h.1, h.2, (λ i. record { groups = groups_are i; cases = cs i } ∷ []))
inverted (x ∷ y ∷ rest) e = absurd (cc)

instance_text : (t : Mono) (m p : Typed) → m.ty ≡ arrow t t → p.ty ≡ t → lam (arrow t t) 0 (var t 0) ≡ lam m.ty 0 (var p.ty 0)
instance_text t m p m_is p_is = let e : lam m.ty 0 (var p.ty 0) ≡ lam (arrow t t) 0 (var t 0) = λ i. lam (m_is i) 0 (var (p_is i) 0) in sym e

-- what a typing of one of them says
one_instance : (t : Mono) (x : TopName) (n m p : Typed) → m.ty ≡ arrow t t → p.ty ≡ t → n.ty ≡ m.ty
    → AreInstancesBy (λ v. t) (record { name = x; signature = None; body = lam (with_a (arrow a a) []) 0 (var (with_a a []) 0); note = with_a (arrow a a) (a ∷ []) } ∷ []) (typed_top x n m p ∷ [])
one_instance t x n m p m_is p_is n_is = (sym (n_is ∙ m_is), (instance_text t m p m_is p_is, refl), tt)

all_instances : (n m p o q r : Typed) → IsFullTyping given (typed_module n m p o q r ∷ []) → ModulesInstances given (with_notes two_groups_notes two_groups) (typed_module n m p o q r ∷ [])
all_instances n m p o q r h =
    let first = h.1.0.0 in
    let next = h.1.0.2.0 in
    let t : Mono = first.1.0 in
    let u : Mono = next.1.0 in
    let p_is : p.ty ≡ t = (first.1.2 (omega arith)).1.1 ∙ inst_nothing t in
    let r_is : r.ty ≡ u = (next.1.2 (omega arith)).1.1 ∙ inst_nothing u in
    let m_is : m.ty ≡ arrow t t = (first.1.3 (omega arith)).1 ∙ ap (arrow t) p_is in
    let q_is : q.ty ≡ arrow u u = (next.1.3 (omega arith)).1 ∙ ap (arrow u) r_is in (
      (
        ((λ v. t), one_instance t (Named identity) n m p m_is p_is (first.2 (omega arith)).1),
        (((λ v. u), one_instance u (Named again) o q r q_is r_is (next.2 (omega arith)).1), tt),
      ),
      tt,
      tt,
    )

two_groups_general : (other : List (Module Typed)) → text_typed other ≡ text_typed (with_notes two_groups_notes two_groups) → IsFullTyping given other
    → ModulesInstances given (with_notes two_groups_notes two_groups) other
two_groups_general other e h =
    let i = inverted other e in
    subst (ModulesInstances given (with_notes two_groups_notes two_groups)) (sym i.6)
    (all_instances i.0 i.1 i.2 i.3 i.4 i.5 (subst (IsFullTyping given) i.6 h))

pub groups_may_share : GroupsMayShare
groups_may_share = record { exact = two_groups_exact; general = two_groups_general }
