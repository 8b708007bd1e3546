-- One more variable solved.
use Rattle.std.proofs.Common.{◌≡◌, ℕ, ◌<◌, Bool, true, false, cond, eqb, IsTrue, length, Option, Some, None, refl, sym, ap, ◌∙◌, subst, inl, inr, ◌⊎◌}
use Rattle.gh_unify.specs.Types.{Mono, con, var, app, name, Val, inst, has}
use Rattle.gh_unify.specs.Kept.{Eqs, Drawn, is_rigid, Solves, IsMostGeneral}
use Rattle.gh_unify.specs.Causes.{Forced}
use Rattle.gh_unify.specs.Causes.Forced.{given, stated, same, turned, through, heads, args, applied}
use Rattle.gh_unify.specs.Tables.{value_of, best}
use Rattle.gh_unify.specs.Steps.{IsFree, IsTidy, Reaches, Solved}
use Rattle.gh_unify.proofs.Insts.{sub, inst-sub, inst-has, inst-agree, inst-var, inst-inst, eqb-is, eqb-same, not-both}

-- what is forced holds in every solution
pub forced_holds : (E : Eqs) (D : Drawn) (a b s t : Mono) (ρ : Val) → Solves E D ρ → inst ρ a ≡ inst ρ b → Forced E a b s t → inst ρ s ≡ inst ρ t
forced_holds E D a b _ _ ρ h e given = e
forced_holds E D a b _ _ ρ h e (stated v t k) = h.equal v t k
forced_holds E D a b _ _ ρ h e (same s) = refl
forced_holds E D a b _ _ ρ h e (turned s t p) = sym (forced_holds E D a b s t ρ h e p)
forced_holds E D a b _ _ ρ h e (through s t u p q) = forced_holds E D a b s t ρ h e p ∙ forced_holds E D a b t u ρ h e q
forced_holds E D a b _ _ ρ h e (heads f x g y p) =
    let k : app (inst ρ f) (inst ρ x) ≡ app (inst ρ g) (inst ρ y) = forced_holds E D a b (app f x) (app g y) ρ h e p in cc
forced_holds E D a b _ _ ρ h e (args f x g y p) =
    let k : app (inst ρ f) (inst ρ x) ≡ app (inst ρ g) (inst ρ y) = forced_holds E D a b (app f x) (app g y) ρ h e p in cc
forced_holds E D a b _ _ ρ h e (applied f x g y p q) =
    λ i. app (forced_holds E D a b f g ρ h e p i) (forced_holds E D a b x y ρ h e q i)

-- and in every valuation that has the values of what is solved
pub forced_values : (E : Eqs) (a b s t : Mono) (ρ : Val) → ((v : ℕ) (t : Mono) → E v ≡ Some t → ρ v ≡ inst ρ t) → inst ρ a ≡ inst ρ b → Forced E a b s t → inst ρ s ≡ inst ρ t
forced_values E a b _ _ ρ h e given = e
forced_values E a b _ _ ρ h e (stated v t k) = h v t k
forced_values E a b _ _ ρ h e (same s) = refl
forced_values E a b _ _ ρ h e (turned s t p) = sym (forced_values E a b s t ρ h e p)
forced_values E a b _ _ ρ h e (through s t u p q) = forced_values E a b s t ρ h e p ∙ forced_values E a b t u ρ h e q
forced_values E a b _ _ ρ h e (heads f x g y p) =
    let k : app (inst ρ f) (inst ρ x) ≡ app (inst ρ g) (inst ρ y) = forced_values E a b (app f x) (app g y) ρ h e p in cc
forced_values E a b _ _ ρ h e (args f x g y p) =
    let k : app (inst ρ f) (inst ρ x) ≡ app (inst ρ g) (inst ρ y) = forced_values E a b (app f x) (app g y) ρ h e p in cc
forced_values E a b _ _ ρ h e (applied f x g y p q) =
    λ i. app (forced_values E a b f g ρ h e p i) (forced_values E a b x y ρ h e q i)

-- a type is forced to be equal to what it becomes where each variable is replaced by a type that it is forced to equal
pub forced_inst : (E : Eqs) (a b : Mono) (σ : Val) (t : Mono) → ((v : ℕ) → Forced E a b (var v) (σ v)) → Forced E a b t (inst σ t)
forced_inst E a b σ (con c) h = same (con c)
forced_inst E a b σ (var v) h = h v
forced_inst E a b σ (app f x) h = applied f x (inst σ f) (inst σ x) (forced_inst E a b σ f h) (forced_inst E a b σ x h)
forced_inst E a b σ (name n) h = same (name n)

-- the type of a variable, where it is solved to one
best_forced : (E : Eqs) (a b : Mono) (v : ℕ) (o : Option Mono) → ((t : Mono) → o ≡ Some t → Forced E a b (var v) t) → Forced E a b (var v) (value_of o v)
best_forced E a b v None h = same (var v)
best_forced E a b v (Some t) h = h t refl

-- the most general solution
value_Some : (o : Option Mono) (v : ℕ) (t : Mono) → o ≡ Some t → value_of o v ≡ t
value_Some o v t e = ap (λ x. value_of x v) e

value_None : (o : Option Mono) (v : ℕ) → o ≡ None → value_of o v ≡ var v
value_None o v e = ap (λ x. value_of x v) e

factor : (E : Eqs) (D : Drawn) (ρ : Val) (v : ℕ) (o : Option Mono) → Solves E D ρ → E v ≡ o → inst ρ (value_of o v) ≡ ρ v
factor E D ρ v None s e = refl
factor E D ρ v (Some t) s e = sym (s.equal v t e)

pub unchanged : (E : Eqs) (D : Drawn) (t : Mono) → IsFree E D t → inst (best E) t ≡ t
unchanged E D t h = inst-agree (best E) var t (λ w m. value_None (E w) w (h w m).0) ∙ inst-var t

pub is_best : (E : Eqs) (D : Drawn) → IsTidy E D → IsMostGeneral E D (best E)
is_best E D tidy = record {
  solves = record {
    equal = λ v t e. value_Some (E v) v t e ∙ sym (unchanged E D t (tidy.resolved v t e));
    rigid = λ v r. value_None (E v) v (tidy.rigid v r);
  };
  free = λ v e. value_None (E v) v e;
  factors = λ ρ s v. factor E D ρ v (E v) s refl;
}

-- a solution gives a type and its resolved form one value
pub factors_all : (E : Eqs) (D : Drawn) (ρ : Val) → IsTidy E D → Solves E D ρ → (t : Mono) → inst ρ (inst (best E) t) ≡ inst ρ t
factors_all E D ρ tidy s t = inst-inst ρ (best E) t ∙ inst-agree (λ v. inst ρ (best E v)) ρ t (λ v m. (is_best E D tidy).factors ρ s v)

-- the variables of a resolved type
value_free : (E : Eqs) (D : Drawn) (v : ℕ) (o : Option Mono) → IsTidy E D → v < length D → E v ≡ o → IsFree E D (value_of o v)
value_free E D v None tidy h e w m =
    let i : w ≡ v = eqb-is w v m in (ap E i ∙ e, subst (λ u. u < length D) (sym i) h)
value_free E D v (Some t) tidy h e w m = tidy.resolved v t e w m

pub read_free : (E : Eqs) (D : Drawn) (t : Mono) → IsTidy E D → ((v : ℕ) → IsTrue (has v t) → v < length D) → IsFree E D (inst (best E) t)
read_free E D t tidy h w m =
    let r = inst-has (best E) t w m in value_free E D r.0 (E r.0) tidy (h r.0 r.1) refl w r.2

-- a variable solved, and replaced in what the others are solved to
abbrev pub inst_in : Val → Option Mono → Option Mono
inst_in σ None = None
inst_in σ (Some t) = Some (inst σ t)

abbrev pub put : Eqs → ℕ → Mono → Eqs
put E v t u = cond (eqb u v) (Some t) (inst_in (sub v t) (E u))

in_Some : (σ : Val) (o : Option Mono) (s : Mono) → inst_in σ o ≡ Some s → (r : Mono) × (o ≡ Some r) × (s ≡ inst σ r)
in_Some σ None s e = absurd (cc)
in_Some σ (Some r) s e = (r, refl, let k : inst σ r ≡ s = cc in sym k)

in_None : (σ : Val) (o : Option Mono) → o ≡ None → inst_in σ o ≡ None
in_None σ o e = ap (inst_in σ) e

-- what stands in the new equations
put_cases : (b : Bool) (E : Eqs) (v u : ℕ) (t s : Mono) → cond b (Some t) (inst_in (sub v t) (E u)) ≡ Some s → eqb u v ≡ b
    → ((u ≡ v) × (s ≡ t)) ⊎ ((r : Mono) × (E u ≡ Some r) × (s ≡ inst (sub v t) r))
put_cases true E v u t s e k = inl (eqb-is u v k, let j : t ≡ s = cc in sym j)
put_cases false E v u t s e k = inr (in_Some (sub v t) (E u) s e)

put_here : (b : Bool) (E : Eqs) (v : ℕ) (t : Mono) → b ≡ true → cond b (Some t) (inst_in (sub v t) (E v)) ≡ Some t
put_here true E v t k = refl
put_here false E v t k = absurd (cc)

pub put_same : (E : Eqs) (v : ℕ) (t : Mono) → put E v t v ≡ Some t
put_same E v t = put_here (eqb v v) E v t (eqb-same v)

put_there : (b : Bool) (E : Eqs) (v u : ℕ) (t : Mono) (o : Option Mono) → b ≡ false → inst_in (sub v t) (E u) ≡ o → cond b (Some t) (inst_in (sub v t) (E u)) ≡ o
put_there true E v u t o k e = absurd (cc)
put_there false E v u t o k e = e

eqb_off : (b : Bool) (u v : ℕ) → (u ≡ v → ⊥) → eqb u v ≡ b → eqb u v ≡ false
eqb_off true u v n e = absurd (n (eqb-is u v e))
eqb_off false u v n e = e

pub put_other : (E : Eqs) (v u : ℕ) (t : Mono) (o : Option Mono) → (u ≡ v → ⊥) → inst_in (sub v t) (E u) ≡ o → put E v t u ≡ o
put_other E v u t o n e = put_there (eqb u v) E v u t o (eqb_off (eqb u v) u v n refl) e

-- a solution of the new equations gives v the value of t, and solves the old ones
pub put_value : (E : Eqs) (D : Drawn) (v : ℕ) (t : Mono) (ρ : Val) → Solves (put E v t) D ρ → ρ v ≡ inst ρ t
put_value E D v t ρ s = s.equal v t (put_same E v t)

some_none : (o : Option Mono) (t : Mono) → o ≡ Some t → o ≡ None → ⊥
some_none o t e n = cc

pub put_fewer : (E : Eqs) (D : Drawn) (v : ℕ) (t : Mono) (ρ : Val) → E v ≡ None → Solves (put E v t) D ρ → Solves E D ρ
put_fewer E D v t ρ n s = record {
  equal = λ u r e.
      let off : u ≡ v → ⊥ = λ i. some_none (E v) r (ap E (sym i) ∙ e) n in
      let k : put E v t u ≡ Some (inst (sub v t) r) = put_other E v u t (Some (inst (sub v t) r)) off (ap (inst_in (sub v t)) e) in
      s.equal u (inst (sub v t) r) k ∙ inst-sub ρ v t r (put_value E D v t ρ s);
  rigid = s.rigid;
}

-- v is not in t, and t and the others hold no solved variable
sub_free : (b : Bool) (E : Eqs) (D : Drawn) (v w u : ℕ) (t : Mono) → IsFree E D t → has v t ≡ false → (E w ≡ None) × (w < length D)
    → eqb w v ≡ b → IsTrue (has u (cond b t (var w))) → ((E u ≡ None) × (u < length D)) × (u ≡ v → ⊥)
sub_free true E D v w u t free apart h e m = (free u m, λ i. not-both (has v t) apart (ap (λ x. has x t) (sym i) ∙ m))
sub_free false E D v w u t free apart h e m =
    let i : u ≡ w = eqb-is u w m in (
      (ap E i ∙ h.0, subst (λ x. x < length D) (sym i) h.1),
      λ j. let k : w ≡ v = sym i ∙ j in not-both (eqb w v) e (ap (λ x. eqb x v) k ∙ eqb-same v),
    )

open_there : (E : Eqs) (D : Drawn) (v u : ℕ) (t : Mono) → ((E u ≡ None) × (u < length D)) × (u ≡ v → ⊥) → (put E v t u ≡ None) × (u < length D)
open_there E D v u t h = (put_other E v u t None h.1 (in_None (sub v t) (E u) h.0.0), h.0.1)

pub free_inst : (E : Eqs) (D : Drawn) (v : ℕ) (t s : Mono) → IsFree E D t → has v t ≡ false → IsFree E D s → IsFree (put E v t) D (inst (sub v t) s)
free_inst E D v t s free apart h u m =
    let r = inst-has (sub v t) s u m in
    open_there E D v u t (sub_free (eqb r.0 v) E D v r.0 u t free apart (h r.0 r.1) refl r.2)

pub free_other : (E : Eqs) (D : Drawn) (v : ℕ) (t : Mono) → IsFree E D t → has v t ≡ false → IsFree (put E v t) D t
free_other E D v t free apart u m =
    open_there E D v u t (free u m, λ i. not-both (has v t) apart (ap (λ x. has x t) (sym i) ∙ m))

pub put_tidy : (E : Eqs) (D : Drawn) (v : ℕ) (t : Mono) → IsTidy E D → IsFree E D t → has v t ≡ false → is_rigid D v ≡ false → IsTidy (put E v t) D
put_tidy E D v t tidy free apart loose = record {
  resolved = λ u s e. elim (put_cases (eqb u v) E v u t s e refl) [
    | inl p ↦ subst (IsFree (put E v t) D) (sym p.1) (free_other E D v t free apart)
    | inr p ↦ subst (IsFree (put E v t) D) (sym p.2) (free_inst E D v t p.0 free apart (tidy.resolved u p.0 p.1))
  ];
  rigid = λ u r. put_other E v u t None (λ i. not-both (is_rigid D v) loose (ap (is_rigid D) (sym i) ∙ r)) (in_None (sub v t) (E u) (tidy.rigid u r));
}

sub_forced : (b : Bool) (E : Eqs) (a b2 : Mono) (v w : ℕ) (t : Mono) → Forced E a b2 (var v) t → eqb w v ≡ b → Forced E a b2 (var w) (cond b t (var w))
sub_forced true E a b2 v w t f e = subst (λ u. Forced E a b2 (var u) t) (sym (eqb-is w v e)) f
sub_forced false E a b2 v w t f e = same (var w)

-- one more variable solved
pub next_reaches : (E0 : Eqs) (D : Drawn) (a0 b0 : Mono) (E : Eqs) (a b : Mono) (v : ℕ) (t : Mono) (a' b' : Mono) → Reaches E0 D a0 b0 E a b
    → IsFree E D t → has v t ≡ false → is_rigid D v ≡ false → E v ≡ None → Forced E0 a0 b0 (var v) t
    → a' ≡ inst (best (put E v t)) a → b' ≡ inst (best (put E v t)) b
    → Reaches E0 D a0 b0 (put E v t) a' b'
next_reaches E0 D a0 b0 E a b v t a' b' r free apart loose unsolved forced ea eb =
    let E' : Eqs = put E v t in
    let tidy : IsTidy E' D = put_tidy E D v t r.tidy free apart loose in
    let kept : (u : ℕ) (s : Mono) → E' u ≡ Some s → Forced E0 a0 b0 (var u) s =
    λ u s e. elim (put_cases (eqb u v) E v u t s e refl) [
      | inl p ↦ subst (λ x. Forced E0 a0 b0 (var u) x) (sym p.1) (subst (λ x. Forced E0 a0 b0 (var x) t) (sym p.0) forced)
      | inr p ↦ subst (λ x. Forced E0 a0 b0 (var u) x) (sym p.2)
          (through (var u) p.0 (inst (sub v t) p.0) (r.kept u p.0 p.1)
          (forced_inst E0 a0 b0 (sub v t) p.0 (λ w. sub_forced (eqb w v) E0 a0 b0 v w t forced refl)))
    ] in
    let at : (s : Mono) → Forced E0 a0 b0 s (inst (best E') s) = λ s. forced_inst E0 a0 b0 (best E') s (λ w. best_forced E0 a0 b0 w (E' w) (kept w)) in
    record {
      tidy = tidy;
      kept = kept;
      given = subst (λ x. Forced E0 a0 b0 x b') (sym ea) (subst (λ x. Forced E0 a0 b0 (inst (best E') a) x) (sym eb)
          (through (inst (best E') a) a (inst (best E') b) (turned a (inst (best E') a) (at a)) (through a b (inst (best E') b) r.given (at b))));
      back = λ ρ s e.
          let old : Solves E D ρ = put_fewer E D v t ρ unsolved s in
          r.back ρ old (sym (factors_all E' D ρ tidy s a) ∙ ap (inst ρ) (sym ea) ∙ e ∙ ap (inst ρ) eb ∙ factors_all E' D ρ tidy s b);
      left = subst (IsFree E' D) (sym ea) (read_free E' D a tidy (λ u m. (r.left u m).1));
      right = subst (IsFree E' D) (sym eb) (read_free E' D b tidy (λ u m. (r.right u m).1));
    }

-- the first pair
pub first_reaches : (E : Eqs) (D : Drawn) (a b : Mono) → IsTidy E D → IsFree E D a → IsFree E D b → Reaches E D a b E a b
first_reaches E D a b tidy left right = record {
  tidy = tidy;
  kept = λ v t e. stated v t e;
  given = given;
  back = λ ρ s e. (s, e);
  left = left;
  right = right;
}

-- nothing differs any more
pub last_reaches : (E0 : Eqs) (D : Drawn) (a0 b0 : Mono) (E : Eqs) (a b : Mono) → Reaches E0 D a0 b0 E a b → a ≡ b → Solved E0 D a0 b0 E
last_reaches E0 D a0 b0 E a b r e = record {
  tidy = r.tidy;
  kept = r.kept;
  back = λ ρ s. r.back ρ s (ap (inst ρ) e);
}
