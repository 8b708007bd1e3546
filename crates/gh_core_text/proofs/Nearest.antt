-- The table of the nearest binders.
use Rattle.std.proofs.Common.{◌≡◌, ℕ, suc, ◌==◌, Bool, true, false, cond, List, [], ◌∷◌, ◌++◌, length, map, refl, sym, ap, subst, ◌∙◌, Option, Some, get_or, drop, arith, append_assoc, append-nil}
use Rattle.std.specs.Prelude.{if◌then◌else◌, nat_eq, IsSome, pred}
use Rattle.std.specs.Map.{update}
use Rattle.std.proofs.lemmas.Bool.{eq-eqb, eqb-true}
use Rattle.gh_core.specs.Levels.{Scope, bound_at}
use Rattle.gh_core_text.specs.Entries.{Entry, binder_of, before_of, scope_of, befores}
use Rattle.gh_core_text.proofs.Places.{bound_append}

snoc_both : {X : Type 0} (xs ys : List X) (x y : X) → length xs ≡ length ys → xs ++ x ∷ [] ≡ ys ++ y ∷ [] → (xs ≡ ys) × (x ≡ y)
snoc_both [] [] x y l e = (refl, ap (λ z. get_or z 0 x) e)
snoc_both [] (b ∷ ys) x y l e = absurd (omega arith)
snoc_both (a ∷ xs) [] x y l e = absurd (omega arith)
snoc_both (a ∷ xs) (b ∷ ys) x y l e = let h = snoc_both xs ys x y (ap pred l) (ap (drop 1) e) in ((λ i. get_or (e i) 0 a ∷ h.0 i), h.1)

scope_append : (es : List Entry) (e : Entry) → scope_of (es ++ e ∷ []) ≡ scope_of es ++ binder_of e ∷ []
scope_append [] e = refl
scope_append (x ∷ es) e = ap (λ s. binder_of x ∷ s) (scope_append es e)

lasts_append : (es : List Entry) (e : Entry) → map before_of (es ++ e ∷ []) ≡ map before_of es ++ before_of e ∷ []
lasts_append [] e = refl
lasts_append (x ∷ es) e = ap (λ s. before_of x ∷ s) (lasts_append es e)

befores_append : (s : Scope) (es : List Entry) (e : Entry) → befores s (es ++ e ∷ []) ≡ befores s es ++ bound_at (s ++ scope_of es) e.0 ∷ []
befores_append s [] e = ap (λ t. bound_at t e.0 ∷ []) (sym (append-nil s))
befores_append s (x ∷ es) e =
    ap (λ t. bound_at s x.0 ∷ t) (befores_append (s ++ binder_of x ∷ []) es e ∙ ap (λ t. befores (s ++ binder_of x ∷ []) es ++ bound_at t e.0 ∷ []) (append_assoc s (binder_of x ∷ []) (scope_of es)))

lengths : (s : Scope) (es : List Entry) → length (map before_of es) ≡ length (befores s es)
lengths s [] = refl
lengths s (x ∷ es) = ap suc (lengths (s ++ binder_of x ∷ []) es)

-- what the last entry keeps, and what the others keep
kept_by : (all es : List Entry) (e : Entry) → all ≡ es ++ e ∷ [] → map before_of all ≡ befores [] all → (map before_of es ≡ befores [] es) × (before_of e ≡ bound_at (scope_of es) e.0)
kept_by all es e is h =
    snoc_both (map before_of es) (befores [] es) (before_of e) (bound_at (scope_of es) e.0) (lengths [] es)
    (sym (lasts_append es e) ∙ ap (λ l. map before_of l) (sym is) ∙ h ∙ ap (befores []) is ∙ befores_append [] es e)

same_choice : (b : Bool) (l p q : Option ℕ) → p ≡ q → cond b l p ≡ (if b then l else q)
same_choice true l p q e = refl
same_choice false l p q e = e

back_choice : (b : Bool) (n x : ℕ) (s : Scope) (before l now : Option ℕ) → (n == x) ≡ b → before ≡ bound_at s n → now ≡ (if b then l else bound_at s x) → cond b before now ≡ bound_at s x
back_choice true n x s before l now e h k = h ∙ ap (bound_at s) (eqb-true n x e)
back_choice false n x s before l now e h k = k

-- one binder more
pub added_agrees : (old new : ℕ → Option ℕ) (all es : List Entry) (e : Entry) → all ≡ es ++ e ∷ [] → ((x : ℕ) → old x ≡ bound_at (scope_of es) x)
    → ((x : ℕ) → new x ≡ update nat_eq old e.0 (Some e.1) x) → (x : ℕ) → new x ≡ bound_at (scope_of all) x
added_agrees old new all es e is h f x =
    f x ∙ same_choice (e.0 == x) (Some e.1) (old x) (bound_at (scope_of es) x) (h x)
    ∙ sym (ap (λ l. bound_at (scope_of l) x) is ∙ ap (λ s. bound_at s x) (scope_append es e) ∙ bound_append (scope_of es) (binder_of e) x)

pub added_befores : (old : ℕ → Option ℕ) (all es : List Entry) (e : Entry) → all ≡ es ++ e ∷ [] → ((x : ℕ) → old x ≡ bound_at (scope_of es) x) → map before_of es ≡ befores [] es
    → before_of e ≡ old e.0 → map before_of all ≡ befores [] all
added_befores old all es e is h k b =
    ap (λ l. map before_of l) is ∙ lasts_append es e ∙ (λ i. k i ++ (b ∙ h e.0) i ∷ []) ∙ sym (ap (befores []) is ∙ befores_append [] es e)

-- one binder less
pub taken_befores : (all es : List Entry) (e : Entry) → all ≡ es ++ e ∷ [] → map before_of all ≡ befores [] all → map before_of es ≡ befores [] es
taken_befores all es e is h = (kept_by all es e is h).0

pub taken_agrees : (now new : ℕ → Option ℕ) (all es : List Entry) (e : Entry) → all ≡ es ++ e ∷ [] → ((x : ℕ) → now x ≡ bound_at (scope_of all) x) → map before_of all ≡ befores [] all
    → ((x : ℕ) → new x ≡ update nat_eq now e.0 e.2 x) → (x : ℕ) → new x ≡ bound_at (scope_of es) x
taken_agrees now new all es e is h b f x =
    f x ∙ back_choice (e.0 == x) e.0 x (scope_of es) e.2 (Some e.1) (now x) refl (kept_by all es e is b).1
    (h x ∙ ap (λ l. bound_at (scope_of l) x) is ∙ ap (λ s. bound_at s x) (scope_append es e) ∙ bound_append (scope_of es) (binder_of e) x)

here_some : (b : Bool) (n l : ℕ) (p : Option ℕ) → (n == n) ≡ b → IsSome (if b then Some l else p)
here_some true n l p e = refl
here_some false n l p e = let k : (n == n) ≡ true = eq-eqb n n refl in absurd (cc)

pub taken_there : (now : ℕ → Option ℕ) (all es : List Entry) (e : Entry) → all ≡ es ++ e ∷ [] → ((x : ℕ) → now x ≡ bound_at (scope_of all) x) → IsSome (now e.0)
taken_there now all es e is h =
    subst IsSome (sym (h e.0 ∙ ap (λ l. bound_at (scope_of l) e.0) is ∙ ap (λ s. bound_at s e.0) (scope_append es e) ∙ bound_append (scope_of es) (binder_of e) e.0))
    (here_some (e.0 == e.0) e.0 e.1 (bound_at (scope_of es) e.0) refl)
