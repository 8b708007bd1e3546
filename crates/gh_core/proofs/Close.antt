-- Two substitutions are one, and the empty one changes nothing.
use Rattle.std.proofs.Common.{◌≡◌, ℕ, Bool, true, false, cond, Option, Some, None, refl, sym, ap, ◌∙◌}
use Rattle.std.specs.Prelude.{◌==◌, ◌||◌}
use Rattle.gh_core.specs.Terms.{Term, var, glob, con, lit, string, prim, lam, app, letrec, cases, stop, whole, contents, Binds, no_bind, bind, Alt, con_alt, lit_alt, Alts, no_alt, else_to, alt}
use Rattle.gh_core.specs.Closing.{is_in, binds_name, Env, empty, without, stands, close, close_binds, close_alt, close_alts}

abbrev pub first_in : Option Term → Option Term → Option Term
first_in None o = o
first_in (Some t) o = Some t

-- what σ has, or else what τ has
abbrev pub over : Env → Env → Env
over σ τ y = first_in (σ y) (τ y)

first_cond : (b : Bool) (o p : Option Term) → cond b None (first_in o p) ≡ first_in (cond b None o) (cond b None p)
first_cond true o p = refl
first_cond false o p = refl

pub without-over : (σ τ : Env) (p : ℕ → Bool) → without (over σ τ) p ≡ over (without σ p) (without τ p)
without-over σ τ p = λ i y. first_cond (p y) (σ y) (τ y) i

stands_twice : (o : Option Term) (x : ℕ) (σ : Env) → close (stands o x) σ ≡ stands (first_in o (σ x)) x
stands_twice None x σ = refl
stands_twice (Some t) x σ = refl

binds-close : (bs : Binds) (σ : Env) → binds_name (close_binds bs σ) ≡ binds_name bs
binds-close no_bind σ = refl
binds-close (bind x t rest) σ = λ i y. y == x || binds-close rest σ i y

mutual
  pub close-close : (t : Term) (ρ σ : Env) → close (close t ρ) σ ≡ close t (over ρ σ)
  close-close (var x) ρ σ = stands_twice (ρ x) x σ
  close-close (glob c) ρ σ = refl
  close-close (con c) ρ σ = refl
  close-close (lit l) ρ σ = refl
  close-close (string cs) ρ σ = refl
  close-close (prim p place) ρ σ = refl
  close-close (lam x b) ρ σ = ap (lam x) ((close-close b (without ρ (λ y. y == x)) (without σ (λ y. y == x)) ∙ ap (close b) (sym (without-over ρ σ (λ y. y == x)))))
  close-close (app f e) ρ σ = λ i. app (close-close f ρ σ i) (close-close e ρ σ i)
  close-close (letrec bs b) ρ σ =
      let p = binds_name bs in
      let same : without σ (binds_name (close_binds bs (without ρ p))) ≡ without σ p = ap (without σ) (binds-close bs (without ρ p)) in
      let bs_twice : close_binds (close_binds bs (without ρ p)) (without σ (binds_name (close_binds bs (without ρ p)))) ≡ close_binds bs (without (over ρ σ) p)
      = ap (close_binds (close_binds bs (without ρ p))) same ∙ close_binds-close bs (without ρ p) (without σ p) ∙ ap (close_binds bs) (sym (without-over ρ σ p)) in
      let b_twice : close (close b (without ρ p)) (without σ (binds_name (close_binds bs (without ρ p)))) ≡ close b (without (over ρ σ) p)
      = ap (close (close b (without ρ p))) same ∙ (close-close b (without ρ p) (without σ p) ∙ ap (close b) (sym (without-over ρ σ p))) in
      λ i. letrec (bs_twice i) (b_twice i)
  close-close (cases t alts) ρ σ = λ i. cases (close-close t ρ σ i) (close_alts-close alts ρ σ i)
  close-close (stop place) ρ σ = refl
  close-close (whole t) ρ σ = refl
  close-close (contents c t) ρ σ = ap (contents c) (close-close t ρ σ)

  pub close_binds-close : (bs : Binds) (ρ σ : Env) → close_binds (close_binds bs ρ) σ ≡ close_binds bs (over ρ σ)
  close_binds-close no_bind ρ σ = refl
  close_binds-close (bind x t rest) ρ σ = λ i. bind x (close-close t ρ σ i) (close_binds-close rest ρ σ i)

  pub close_alts-close : (alts : Alts) (ρ σ : Env) → close_alts (close_alts alts ρ) σ ≡ close_alts alts (over ρ σ)
  close_alts-close no_alt ρ σ = refl
  close_alts-close (else_to t) ρ σ = ap else_to (close-close t ρ σ)
  close_alts-close (alt a rest) ρ σ = λ i. alt (close_alt-close a ρ σ i) (close_alts-close rest ρ σ i)

  pub close_alt-close : (a : Alt) (ρ σ : Env) → close_alt (close_alt a ρ) σ ≡ close_alt a (over ρ σ)
  close_alt-close (con_alt c xs t) ρ σ = ap (con_alt c xs) (close-close t (without ρ (is_in xs)) (without σ (is_in xs)) ∙ ap (close t) (sym (without-over ρ σ (is_in xs))))
  close_alt-close (lit_alt l t) ρ σ = ap (lit_alt l) (close-close t ρ σ)

pub under : (b : Term) (ρ σ : Env) (p : ℕ → Bool) → close (close b (without ρ p)) (without σ p) ≡ close b (without (over ρ σ) p)
under b ρ σ p = close-close b (without ρ p) (without σ p) ∙ ap (close b) (sym (without-over ρ σ p))

without_none : (b : Bool) → cond b None None ≡ (let n : Option Term = None in n)
without_none true = refl
without_none false = refl

pub without-empty : (p : ℕ → Bool) → without empty p ≡ empty
without-empty p = λ i y. without_none (p y) i

mutual
  -- the empty substitution changes nothing
  pub close-empty : (t : Term) → close t empty ≡ t
  close-empty (var x) = refl
  close-empty (glob c) = refl
  close-empty (con c) = refl
  close-empty (lit l) = refl
  close-empty (string cs) = refl
  close-empty (prim p place) = refl
  close-empty (lam x b) = ap (lam x) (ap (close b) (without-empty (λ y. y == x)) ∙ close-empty b)
  close-empty (app f e) = λ i. app (close-empty f i) (close-empty e i)
  close-empty (letrec bs b) = λ i. letrec ((ap (close_binds bs) (without-empty (binds_name bs)) ∙ close_binds-empty bs) i) ((ap (close b) (without-empty (binds_name bs)) ∙ close-empty b) i)
  close-empty (cases t alts) = λ i. cases (close-empty t i) (close_alts-empty alts i)
  close-empty (stop place) = refl
  close-empty (whole t) = refl
  close-empty (contents c t) = ap (contents c) (close-empty t)

  close_binds-empty : (bs : Binds) → close_binds bs empty ≡ bs
  close_binds-empty no_bind = refl
  close_binds-empty (bind x t rest) = λ i. bind x (close-empty t i) (close_binds-empty rest i)

  close_alts-empty : (alts : Alts) → close_alts alts empty ≡ alts
  close_alts-empty no_alt = refl
  close_alts-empty (else_to t) = ap else_to (close-empty t)
  close_alts-empty (alt a rest) = λ i. alt (close_alt-empty a i) (close_alts-empty rest i)

  close_alt-empty : (a : Alt) → close_alt a empty ≡ a
  close_alt-empty (con_alt c xs t) = ap (con_alt c xs) (ap (close t) (without-empty (is_in xs)) ∙ close-empty t)
  close_alt-empty (lit_alt l t) = ap (lit_alt l) (close-empty t)
