-- Variables of types by the numbers that they are written with.
use Rattle.std.proofs.Common.{◌≡◌, ℕ, suc, ◌+◌, ◌<◌, ◌≤◌, ◌==◌, true, false, cond, refl, ap, ◌∙◌, arith}
use Rattle.std.proofs.lemmas.Bool.{eq-eqb, eqb-true}
use Rattle.gh_core.specs.SameType.{Nameless, bound, free, con, applied, forall, any, further, nameless_var}
use Rattle.gh_core_lint.specs.Written.{numbered_from, AllBelow}

unequal : (i n : ℕ) → n < i → (i == n) ≡ false
unequal i n lt = elim (i == n) as (λ t. (i == n) ≡ t → (i == n) ≡ false) [ true ↦ (λ h. let e = eqb-true i n h in absurd (omega arith)) | false ↦ (λ h. h) ] refl

-- a number below those of the binders is free
pub var_free : (base depth x : ℕ) → x < base → nameless_var (numbered_from base depth) x ≡ free x
var_free base ℕ.zero x lt = refl
var_free base (ℕ.suc d) x lt =
    ap (λ b. cond b (bound 0) (further (nameless_var (numbered_from base d) x))) (unequal (base + d) x (omega arith)) ∙ ap further (var_free base d x lt)

-- the number of a binder is bound by it
pub var_bound : (base depth i x : ℕ) → i < depth → x + suc i ≡ base + depth → nameless_var (numbered_from base depth) x ≡ bound i
var_bound base ℕ.zero i x lt e = absurd (omega arith)
var_bound base (ℕ.suc d) ℕ.zero x lt e =
    ap (λ b. cond b (bound 0) (further (nameless_var (numbered_from base d) x))) (eq-eqb (base + d) x (omega arith))
var_bound base (ℕ.suc d) (ℕ.suc i) x lt e =
    ap (λ b. cond b (bound 0) (further (nameless_var (numbered_from base d) x))) (unequal (base + d) x (omega arith))
    ∙ ap further (var_bound base d i x (omega arith) (omega arith))

pub below_more : (m n : ℕ) (t : Nameless) → m ≤ n → AllBelow m t → AllBelow n t
below_more m n (bound i) le h = tt
below_more m n (free l) le h = omega arith
below_more m n (con c) le h = tt
below_more m n (applied f x) le h = (below_more m n f le h.0, below_more m n x le h.1)
below_more m n (forall k b) le h = below_more m n b le h
below_more m n (any k) le h = tt
