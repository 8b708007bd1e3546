-- Valuations, one after the other, and where they agree.
use Rattle.std.proofs.Common.{◌≡◌, ℕ, suc, ◌+◌, ◌≤◌, ◌<◌, Bool, true, false, cond, eqb, ◌||◌, IsTrue, refl, sym, ap, ◌∙◌, arith, inl, inr, ◌⊎◌, eq-eqb}
use Rattle.std.proofs.lemmas.Bool.{eqb-true}
use Rattle.gh_unify.specs.Types.{Mono, con, var, app, name, Val, inst, has, nodes}

pub inst-inst : (ρ σ : Val) (t : Mono) → inst ρ (inst σ t) ≡ inst (λ v. inst ρ (σ v)) t
inst-inst ρ σ (con c) = refl
inst-inst ρ σ (var v) = refl
inst-inst ρ σ (app f a) = λ i. app (inst-inst ρ σ f i) (inst-inst ρ σ a i)
inst-inst ρ σ (name n) = refl

pub inst-var : (t : Mono) → inst var t ≡ t
inst-var (con c) = refl
inst-var (var v) = refl
inst-var (app f a) = λ i. app (inst-var f i) (inst-var a i)
inst-var (name n) = refl

pub true-left : (a b : Bool) → IsTrue a → IsTrue (a || b)
true-left true b h = h
true-left false b h = cc

pub true-right : (a b : Bool) → IsTrue b → IsTrue (a || b)
true-right true b h = refl
true-right false b h = h

pub true-either : (a b : Bool) → IsTrue (a || b) → IsTrue a ⊎ IsTrue b
true-either true b h = inl refl
true-either false b h = inr h

pub not-both : (b : Bool) → b ≡ false → IsTrue b → ⊥
not-both true e h = cc
not-both false e h = cc

pub eqb-same : (v : ℕ) → IsTrue (eqb v v)
eqb-same v = eq-eqb v v refl

pub eqb-is : (v w : ℕ) → IsTrue (eqb v w) → v ≡ w
eqb-is v w h = eqb-true v w h

-- a type has one value under valuations that agree on its variables
pub inst-agree : (ρ σ : Val) (t : Mono) → ((v : ℕ) → IsTrue (has v t) → ρ v ≡ σ v) → inst ρ t ≡ inst σ t
inst-agree ρ σ (con c) h = refl
inst-agree ρ σ (var v) h = h v (eqb-same v)
inst-agree ρ σ (app f a) h =
    let e1 : inst ρ f ≡ inst σ f = inst-agree ρ σ f (λ v m. h v (true-left (has v f) (has v a) m)) in
    let e2 : inst ρ a ≡ inst σ a = inst-agree ρ σ a (λ v m. h v (true-right (has v f) (has v a) m)) in
    λ i. app (e1 i) (e2 i)
inst-agree ρ σ (name n) h = refl

-- the variables of an instance
pub has-inst : (σ : Val) (t : Mono) (w v : ℕ) → IsTrue (has w t) → IsTrue (has v (σ w)) → IsTrue (has v (inst σ t))
has-inst σ (con c) w v h m = cc
has-inst σ (var u) w v h m = let e = eqb-is w u h in rw e at m
has-inst σ (app f a) w v h m =
    elim (true-either (has w f) (has w a) h) [
      | inl k ↦ true-left (has v (inst σ f)) (has v (inst σ a)) (has-inst σ f w v k m)
      | inr k ↦ true-right (has v (inst σ f)) (has v (inst σ a)) (has-inst σ a w v k m)
    ]
has-inst σ (name n) w v h m = cc

-- and where they come from
pub inst-has : (σ : Val) (t : Mono) (v : ℕ) → IsTrue (has v (inst σ t)) → (w : ℕ) × IsTrue (has w t) × IsTrue (has v (σ w))
inst-has σ (con c) v h = cc
inst-has σ (var u) v h = (u, eqb-same u, h)
inst-has σ (app f a) v h =
    elim (true-either (has v (inst σ f)) (has v (inst σ a)) h) [
      | inl k ↦ let r = inst-has σ f v k in (r.0, true-left (has r.0 f) (has r.0 a) r.1, r.2)
      | inr k ↦ let r = inst-has σ a v k in (r.0, true-right (has r.0 f) (has r.0 a) r.1, r.2)
    ]
inst-has σ (name n) v h = cc

-- the value of a part is no larger
pub nodes-part : (ρ : Val) (t : Mono) (v : ℕ) → IsTrue (has v t) → nodes (ρ v) ≤ nodes (inst ρ t)
nodes-part ρ (con c) v h = cc
nodes-part ρ (var w) v h = let e = eqb-is v w h in let e2 : nodes (ρ v) ≡ nodes (ρ w) = ap (λ u. nodes (ρ u)) e in omega arith
nodes-part ρ (app f a) v h =
    elim (true-either (has v f) (has v a) h) [
      | inl k ↦ let l : nodes (ρ v) ≤ nodes (inst ρ f) = nodes-part ρ f v k in omega arith
      | inr k ↦ let l : nodes (ρ v) ≤ nodes (inst ρ a) = nodes-part ρ a v k in omega arith
    ]
nodes-part ρ (name n) v h = cc

pub nodes-one : (t : Mono) → 0 < nodes t
nodes-one (con c) = omega arith
nodes-one (var v) = omega arith
nodes-one (app f a) = omega arith
nodes-one (name n) = omega arith

-- an instance is no smaller
pub nodes-inst : (ρ : Val) (t : Mono) → nodes t ≤ nodes (inst ρ t)
nodes-inst ρ (con c) = omega arith
nodes-inst ρ (var v) = let p = nodes-one (ρ v) in omega arith
nodes-inst ρ (app f a) = let p = nodes-inst ρ f in let q = nodes-inst ρ a in omega arith
nodes-inst ρ (name n) = omega arith

abbrev pub IsVar : Mono → Type 0
IsVar (con c) = ⊥
IsVar (var v) = Unit {0}
IsVar (app f a) = ⊥
IsVar (name n) = ⊥

-- no variable has the value of a larger type that holds it
pub no_cycle : (ρ : Val) (t : Mono) (v : ℕ) → IsTrue (has v t) → (IsVar t → ⊥) → ρ v ≡ inst ρ t → ⊥
no_cycle ρ (con c) v h n e = cc
no_cycle ρ (var w) v h n e = n tt
no_cycle ρ (app f a) v h n e =
    let s : nodes (ρ v) ≡ suc (nodes (inst ρ f) + nodes (inst ρ a)) = ap nodes e in
    elim (true-either (has v f) (has v a) h) [
      | inl k ↦ let l : nodes (ρ v) ≤ nodes (inst ρ f) = nodes-part ρ f v k in omega arith
      | inr k ↦ let l : nodes (ρ v) ≤ nodes (inst ρ a) = nodes-part ρ a v k in omega arith
    ]
no_cycle ρ (name n) v h n2 e = cc

-- one variable replaced
abbrev pub sub : ℕ → Mono → Val
sub v t u = cond (eqb u v) t (var u)

sub_test : (b : Bool) (v u : ℕ) (t s : Mono) → has v s ≡ false → IsTrue (has u s) → eqb u v ≡ b → cond b t (var u) ≡ var u
sub_test true v u t s n m e = let i : u ≡ v = eqb-is u v e in let k : IsTrue (has v s) = ap (λ x. has x s) (sym i) ∙ m in cc
sub_test false v u t s n m e = refl

pub sub-other : (v : ℕ) (t s : Mono) → has v s ≡ false → inst (sub v t) s ≡ s
sub-other v t s n = inst-agree (sub v t) var s (λ u m. sub_test (eqb u v) v u t s n m refl) ∙ inst-var s

-- where a solution already gives v the value of t, replacing v by t changes no value
sub_value : (b : Bool) (ρ : Val) (v u : ℕ) (t : Mono) → ρ v ≡ inst ρ t → eqb u v ≡ b → inst ρ (cond b t (var u)) ≡ ρ u
sub_value true ρ v u t e k = sym e ∙ ap ρ (sym (eqb-is u v k))
sub_value false ρ v u t e k = refl

pub inst-sub : (ρ : Val) (v : ℕ) (t s : Mono) → ρ v ≡ inst ρ t → inst ρ (inst (sub v t) s) ≡ inst ρ s
inst-sub ρ v t s e = inst-inst ρ (sub v t) s ∙ inst-agree (λ u. inst ρ (sub v t u)) ρ s (λ u m. sub_value (eqb u v) ρ v u t e refl)
