-- Rows compiled one after the other follow the rules.
use Rattle.std.proofs.Common.{◌≡◌, ◌⊎◌, inl, inr, ⊎_elim, ℕ, zero, suc, ◌+◌, ◌<◌, ◌≤◌, Bool, true, false, cond, List, [], ◌∷◌, Option, Some, None, length, refl, sym, ap, ◌∙◌, subst, arith}
use Rattle.std.proofs.lemmas.Bool.Decides.{eqb_tells}
use Rattle.std.specs.Prelude.{◌==◌, ◌&&◌, ◌||◌, ◌*◌, max}
use Rattle.gh_base.specs.declared.place.Origin.{Origin}
use Rattle.gh_base.specs.declared.place.Span.{Span}
use Rattle.gh_core.specs.Closing.{Env, empty, without, is_in, binds_name, stands, close, close_binds, put, put_all, put_rec}
use Rattle.gh_core.specs.Primitives.{same_origin}
use Rattle.gh_core.specs.Reduce as core
use Rattle.gh_core.specs.Reduce.{Waiting, arg, of_case, Program, opened, same_literal}
use Rattle.gh_core.specs.Terms.{Literal, Term, var, lam, app, letrec, cases, contents, Binds, no_bind, Alts, con_alt, lit_alt, else_to, alt}
use Rattle.gh_core.proofs.Close.{over, first_in, close-close}
use Rattle.gh_core.proofs.Runs.{reductions_zero, reductions_first, reductions_add}
use Rattle.gh_kernel.specs.Closing.{binds_pat, binds_pats}
use Rattle.gh_kernel.specs.States.{meet}
use Rattle.gh_kernel.specs.Steps.{count}
use Rattle.gh_kernel.specs.Terms.{Pat, pvar, pwild, pcon, plit, pstring, pas, Pats, no_pat, pat}
use Rattle.gh_rules.specs.RowByRow.{IsPattern, ArePatterns, GroupsFit, RowsFit, AllFit, Halves, single, halves, rows_of, all_rows, height, whole_height, new, news, nested, letrecs, comp_pat, comp_pats, comp_bodies, comp_rows, lams, applied, compile_rows, RowsFollow}
use Rattle.gh_rules.specs.Rules.{Bodies, no_body, always, guarded, Rows, no_row, row, Argument, Value, built, literal, Rest, Focus, matching, falling, begin, choose, entered, all_entered, first_of, next_row, tests, told, terms_of, close_each, Reduces, Unsettled, Passes, Chooses, Alike, Agree, Follows, Matches}
use Rattle.gh_rules.specs.Rules as rules
use Rattle.gh_base.specs.declared.place.Space.{Space}
use Rattle.gh_base.specs.declared.place.Space.TheVariants.{Values, Types}
use Rattle.gh_core.specs.Primitives.{same_space}

eq_false : (a b : ℕ) → (a ≡ b → ⊥) → (a == b) ≡ false
eq_false a b h = ⊎_elim (λ y. absurd (h y.1)) (λ z. z.0) (eqb_tells a b)

eq_true : (a : ℕ) → (a == a) ≡ true
eq_true a = ⊎_elim (λ y. y.0) (λ z. absurd (z.1 refl)) (eqb_tells a a)

first_none : (o : Option Term) → first_in o None ≡ o
first_none None = refl
first_none (Some t) = refl

alike_itself : (o : Option Term) → Alike o o
alike_itself None = tt
alike_itself (Some t) = refl

both : (a b : Bool) → (a && b) ≡ true → (a ≡ true) × (b ≡ true)
both true b e = (refl, e)
both false b e = absurd (subst (λ z. cond z ⊥ (Unit {0})) e tt)

eq_numbers : (a b : ℕ) → (a == b) ≡ true → a ≡ b
eq_numbers a b e = ⊎_elim (λ y. y.1) (λ z. absurd (subst (λ k. cond k ⊥ (Unit {0})) (sym z.0 ∙ e) tt)) (eqb_tells a b)

eq_spaces : (a b : Space) → same_space a b ≡ true → a ≡ b
eq_spaces Values Values e = refl
eq_spaces Values Types e = absurd (subst (λ k. cond k ⊥ (Unit {0})) e tt)
eq_spaces Types Values e = absurd (subst (λ k. cond k ⊥ (Unit {0})) e tt)
eq_spaces Types Types e = refl

-- the same origin is told from others in the same way
same_tests : (d c b : Origin) → same_origin d c ≡ true → same_origin d b ≡ same_origin c b
same_tests d c b e =
    let h = both ((d.«module».0 == c.«module».0) && same_space d.space c.space) (d.name.0 == c.name.0) e in
    let h2 = both (d.«module».0 == c.«module».0) (same_space d.space c.space) h.0 in
    λ i. (eq_numbers d.«module».0 c.«module».0 h2.0 i == b.«module».0) && same_space (eq_spaces d.space c.space h2.1 i) b.space && (eq_numbers d.name.0 c.name.0 h.1 i == b.name.0)

-- what binders put over a substitution
abbrev named : Env → ℕ → Term → Env
named ρ x u = over (without ρ (λ y. y == x)) (put empty x u)

module _ (P : Program) (nt : Origin → Bool) (limit first : ℕ) (otherwise : Term) (newtypes_same : (c : Origin) → core.is_newtype P.newtypes c ≡ nt c) (below : limit ≤ first) where
  abbrev nm : ℕ → ℕ
  nm i = new first i

  -- names ------------------------------------------------------------------------------------------------------------------

  low_high : (x i : ℕ) → x < limit → (x == nm i) ≡ false
  low_high x i h = eq_false x (nm i) (λ e. omega (arith, e, h, below))

  high_low : (x i : ℕ) → x < first → (nm i == x) ≡ false
  high_low x i h = eq_false (nm i) x (λ e. omega (arith, e, h))

  other : (i j : ℕ) → i < j → (nm i == nm j) ≡ false
  other i j h = eq_false (nm i) (nm j) (λ e. omega (arith, e, h))

  -- what is put for one name leaves the others
  named_apart : (ρ : Env) (x y : ℕ) (u : Term) → (y == x) ≡ false → named ρ x u y ≡ ρ y
  named_apart ρ x y u e = ap (λ b. first_in (cond b None (ρ y)) (cond b (Some u) None)) e ∙ first_none (ρ y)

  named_here : (ρ : Env) (x : ℕ) (u : Term) → named ρ x u x ≡ Some u
  named_here ρ x u = ap (λ b. first_in (cond b None (ρ x)) (cond b (Some u) None)) (eq_true x)

  abbrev Same_new : ℕ → Env → Env → Type 0
  Same_new m ρ ρ' = (i : ℕ) → i < m → ρ' (nm i) ≡ ρ (nm i)

  -- the argument has this name
  abbrev Holds : Env → ℕ → Argument → Type 0
  Holds ρ v a = (u : Term) × (ρ (nm v) ≡ Some u) × (opened u ≡ opened a.term)

  abbrev HoldsAll : Env → ℕ → List Argument → Type 0
  HoldsAll ρ v [] = Unit {0}
  HoldsAll ρ v (a ∷ us) = Holds ρ v a × HoldsAll ρ (suc v) us

  holds_on : (ρ ρ' : Env) (v m : ℕ) (us : List Argument) → v + length us ≤ m → ((i : ℕ) → i < m → ρ' (nm i) ≡ ρ (nm i)) → HoldsAll ρ v us → HoldsAll ρ' v us
  holds_on ρ ρ' v m [] le s h = tt
  holds_on ρ ρ' v m (a ∷ us) le s h = ((h.0.0, s v (omega (arith, le)) ∙ h.0.1, h.0.2), holds_on ρ ρ' (suc v) m us (omega (arith, le)) s h.1)

  holds_from : (ρ ρ' : Env) (v : ℕ) (us : List Argument) → ((i : ℕ) → v ≤ i → ρ' (nm i) ≡ ρ (nm i)) → HoldsAll ρ v us → HoldsAll ρ' v us
  holds_from ρ ρ' v [] s h = tt
  holds_from ρ ρ' v (a ∷ us) s h = ((h.0.0, s v (omega arith) ∙ h.0.1, h.0.2), holds_from ρ ρ' (suc v) us (λ i le. s i (omega (arith, le))) h.1)

  -- the fields of an alternative
  abbrev fields : Env → ℕ → List Term → Env
  fields ρ m ts = over (without ρ (is_in (news first m (length ts)))) (put_all empty (news first m (length ts)) ts)

  in_low : (m n x : ℕ) → x < limit → is_in (news first m n) x ≡ false
  in_low m zero x h = refl
  in_low m (suc n) x h = ap (λ b. b || is_in (news first (suc m) n) x) (low_high x m h) ∙ in_low (suc m) n x h

  put_low : (m : ℕ) (ts : List Term) (x : ℕ) → x < limit → put_all empty (news first m (length ts)) ts x ≡ None
  put_low m [] x h = refl
  put_low m (u ∷ ts) x h = ap (λ b. cond b (Some u) (put_all empty (news first (suc m) (length ts)) ts x)) (low_high x m h) ∙ put_low (suc m) ts x h

  in_before : (m n i : ℕ) → i < m → is_in (news first m n) (nm i) ≡ false
  in_before m zero i h = refl
  in_before m (suc n) i h = ap (λ b. b || is_in (news first (suc m) n) (nm i)) (other i m h) ∙ in_before (suc m) n i (omega (arith, h))

  put_before : (m : ℕ) (ts : List Term) (i : ℕ) → i < m → put_all empty (news first m (length ts)) ts (nm i) ≡ None
  put_before m [] i h = refl
  put_before m (u ∷ ts) i h = ap (λ b. cond b (Some u) (put_all empty (news first (suc m) (length ts)) ts (nm i))) (other i m h) ∙ put_before (suc m) ts i (omega (arith, h))

  fields_low : (ρ : Env) (m : ℕ) (ts : List Term) (x : ℕ) → x < limit → fields ρ m ts x ≡ ρ x
  fields_low ρ m ts x h = (λ j. first_in (cond (in_low m (length ts) x h j) None (ρ x)) (put_low m ts x h j)) ∙ first_none (ρ x)

  fields_before : (ρ : Env) (m : ℕ) (ts : List Term) → Same_new m ρ (fields ρ m ts)
  fields_before ρ m ts i h = (λ j. first_in (cond (in_before m (length ts) i h j) None (ρ (nm i))) (put_before m ts i h j)) ∙ first_none (ρ (nm i))

  fields_hold : (ρ : Env) (m : ℕ) (us : List Argument) → HoldsAll (fields ρ m (terms_of us)) m us
  fields_hold ρ m [] = tt
  fields_hold ρ m (a ∷ us) =
      let n = length (terms_of us) in (
        (
          a.term,
          ap (λ b. first_in (cond (b || is_in (news first (suc m) n) (nm m)) None (ρ (nm m))) (cond b (Some a.term) (put_all empty (news first (suc m) n) (terms_of us) (nm m)))) (eq_true (nm m)),
          refl,
        ),
        holds_from (fields ρ (suc m) (terms_of us)) (fields ρ m (a.term ∷ terms_of us)) (suc m) us
            (λ i le. ap (λ b. first_in (cond (b || is_in (news first (suc m) n) (nm i)) None (ρ (nm i))) (cond b (Some a.term) (put_all empty (news first (suc m) n) (terms_of us) (nm i)))) (eq_false (nm i) (nm m) (λ e. omega (arith, e, le))))
            (fields_hold ρ (suc m) us),
      )

  terms_length : (us : List Argument) → length (terms_of us) ≡ length us
  terms_length [] = refl
  terms_length (a ∷ us) = ap (λ n. suc n) (terms_length us)

  news_length : (m n : ℕ) → length (news first m n) ≡ n
  news_length m zero = refl
  news_length m (suc n) = ap (λ j. suc j) (news_length (suc m) n)

  -- the names that the rules have bound, and those of core --------------------------------------------------------------------

  abbrev todo_binds : List (Pat Span × Argument) → ℕ → Bool
  todo_binds [] y = false
  todo_binds (z ∷ todo) y = binds_pat z.0 y || todo_binds todo y

  abbrev Inv : List (Pat Span × Argument) → Env → Env → Type 0
  Inv todo θ ρ = (x : ℕ) → x < limit → (todo_binds todo x ≡ true) ⊎ Alike (ρ x) (θ x)

  meet_binds : (ps : Pats Span) (us : List Argument) (todo : List (Pat Span × Argument)) (y : ℕ) → count ps ≡ length us → todo_binds (meet ps us todo) y ≡ (binds_pats ps y || todo_binds todo y)
  meet_binds no_pat us todo y e = refl
  meet_binds (pat q ps) [] todo y e = absurd (omega (arith, e))
  meet_binds (pat q ps) (a ∷ us) todo y e = ap (λ b. binds_pat q y || b) (meet_binds ps us todo y (omega (arith, e))) ∙ or_assoc (binds_pat q y) (binds_pats ps y) (todo_binds todo y)
    where
      or_assoc : (a b c : Bool) → (a || (b || c)) ≡ ((a || b) || c)
      or_assoc true b c = refl
      or_assoc false b c = refl

  meet_length : (ps : Pats Span) (us : List Argument) (todo : List (Pat Span × Argument)) → count ps ≡ length us → length (meet ps us todo) ≡ count ps + length todo
  meet_length no_pat us todo e = omega arith
  meet_length (pat q ps) [] todo e = absurd (omega (arith, e))
  meet_length (pat q ps) (a ∷ us) todo e = let h = meet_length ps us todo (omega (arith, e)) in omega (arith, h)

  -- a variable is bound
  inv_put : (b c : Bool) (o o' : Option Term) (u u' : Term) → opened u ≡ opened u' → ((b || c) ≡ true) ⊎ Alike o o' → (c ≡ true) ⊎ Alike (first_in (cond b None o) (cond b (Some u) None)) (cond b (Some u') o')
  inv_put true c o o' u u' e s = inr e
  inv_put false c o o' u u' e (inl h) = inl h
  inv_put false c o o' u u' e (inr h) = inr (subst (λ z. Alike z o') (sym (first_none o)) h)

  inv_named : (todo : List (Pat Span × Argument)) (b : ℕ → Bool) (θ ρ : Env) (x : ℕ) (u u' : Term) → opened u ≡ opened u' → ((y : ℕ) → y < limit → (((y == x) || b y) ≡ true) ⊎ Alike (ρ y) (θ y)) → (y : ℕ) → y < limit → (b y ≡ true) ⊎ Alike (named ρ x u y) (put θ x u' y)
  inv_named todo b θ ρ x u u' e s y h = inv_put (y == x) (b y) (ρ y) (θ y) u u' e (s y h)

  inv_same : (b : ℕ → Bool) (θ ρ ρ' : Env) → ((y : ℕ) → y < limit → ρ' y ≡ ρ y) → ((y : ℕ) → y < limit → (b y ≡ true) ⊎ Alike (ρ y) (θ y)) → (y : ℕ) → y < limit → (b y ≡ true) ⊎ Alike (ρ' y) (θ y)
  inv_same b θ ρ ρ' e s y h = subst (λ z. (b y ≡ true) ⊎ Alike z (θ y)) (sym (e y h)) (s y h)

  same_named : (m : ℕ) (ρ : Env) (x : ℕ) (u : Term) → x < first → Same_new m ρ (named ρ x u)
  same_named m ρ x u h i l = named_apart ρ x (nm i) u (high_low x i h)

  same_itself : (m : ℕ) (ρ : Env) → Same_new m ρ ρ
  same_itself m ρ i l = refl

  same_on : (m n : ℕ) (a b c : Env) → m ≤ n → Same_new m a b → Same_new n b c → Same_new m a c
  same_on m n a b c le p q i l = q i (omega (arith, l, le)) ∙ p i l

  -- reductions -------------------------------------------------------------------------------------------------------------

  beta : (x : ℕ) (b e : Term) (ρ : Env) → Reduces P 2 (close (app (lam x b) e) ρ) (close b (named ρ x (close e ρ)))
  beta x b e ρ stack out =
      reductions_first P 1 _ ∙ reductions_first P 0 _ ∙ reductions_zero P _
      ∙ ap (λ t. core.demand t stack out) (close-close b (without ρ (λ y. y == x)) (put empty x (close e ρ)))

  joins : (i j : ℕ) (a b c : Term) → Reduces P i a b → Reduces P j b c → Reduces P (i + j) a c
  joins i j a b c p q stack out = sym (reductions_add P i j _) ∙ ap (core.reductions P j) (p stack out) ∙ q stack out

  at_itself : (a : Term) → Reduces P 0 a a
  at_itself a stack out = reductions_zero P _

  -- a compiled term, some reductions ahead
  record Pend (i : ℕ) (t u : Term) (w need : ℕ) : Type 0 where
    le : i ≤ 196
    waits : Unsettled t
    red : Reduces P i t u
    some : (1 ≤ i) ⊎ (need ≤ w)

  abbrev Falls : List (Argument × Value) → ℕ → Focus → Term → Type 0
  Falls facts w f t = Follows P nt limit otherwise facts w f t

  pended : (u : Term) (w need : ℕ) → Unsettled u → need ≤ w → Pend 0 u u w need
  pended u w need h le = record { le = omega arith; waits = h; red = at_itself u; some = inr le }

  eased : (i : ℕ) (t u : Term) (w need need' : ℕ) → need' ≤ need → Pend i t u w need → Pend i t u w need'
  eased i t u w need need' le p = record { le = p.le; waits = p.waits; red = p.red; some = ⊎_elim (λ y. inl y) (λ y. inr (omega (arith, y, le))) p.some }

  -- a term that is the same up to marks
  marked : (facts : List (Argument × Value)) (w : ℕ) (g : Focus) (t u : Term) → opened u ≡ opened t → Falls facts w g t → Falls facts w g u
  marked facts w g t u e (rules.chosen b σ ρ q a o) = rules.chosen b σ ρ q a (e ∙ o)
  marked facts w g t u e (rules.lost i r ρ u' q z un l red a o) = rules.lost i r ρ u' q z (waits_marked t u e un) l (red_marked i t u u' e red) a o
    where
      waits_marked : (t u : Term) → opened u ≡ opened t → Unsettled t → Unsettled u
      waits_marked t u e un stack out = ap (λ x. core.settled_at x stack out (record { focus = x; stack = stack; out = out; status = core.running })) e ∙ un stack out ∙ ap (λ x. record { focus = x; stack = stack; out = out; status = core.running }) (sym e)

      red_marked : (i : ℕ) (t u u' : Term) → opened u ≡ opened t → Reduces P i t u' → Reduces P i u u'
      red_marked i t u u' e red stack out = ap (λ x. core.reductions P i (core.settled_at x stack out (record { focus = x; stack = stack; out = out; status = core.running }))) e ∙ red stack out
  marked facts w g t u e (rules.moves x i f' u' q un l some red d) = rules.moves x i f' u' q (λ stack out. ap (λ y. core.settled_at y stack out (record { focus = y; stack = stack; out = out; status = core.running })) e ∙ un stack out ∙ ap (λ y. record { focus = y; stack = stack; out = out; status = core.running }) (sym e)) l some
      (λ stack out. ap (λ y. core.reductions P i (core.settled_at y stack out (record { focus = y; stack = stack; out = out; status = core.running }))) e ∙ red stack out) d
  marked facts w g t u e (rules.enters x i r ρ u' q z un l some ag red d) = rules.enters x i r ρ u' q z (λ stack out. ap (λ y. core.settled_at y stack out (record { focus = y; stack = stack; out = out; status = core.running })) e ∙ un stack out ∙ ap (λ y. record { focus = y; stack = stack; out = out; status = core.running }) (sym e)) l some ag
      (λ stack out. ap (λ y. core.reductions P i (core.settled_at y stack out (record { focus = y; stack = stack; out = out; status = core.running }))) e ∙ red stack out) d
  marked facts w g t u e (rules.takes x i n c q0 a todo r s0 u' e1 e2 e3 un l some red o d) = rules.takes x i n c q0 a todo r s0 u' e1 e2 e3 (λ stack out. ap (λ y. core.settled_at y stack out (record { focus = y; stack = stack; out = out; status = core.running })) e ∙ un stack out ∙ ap (λ y. record { focus = y; stack = stack; out = out; status = core.running }) (sym e)) l some
      (λ stack out. ap (λ y. core.reductions P i (core.settled_at y stack out (record { focus = y; stack = stack; out = out; status = core.running }))) e ∙ red stack out) o d
  marked facts w g t u e (rules.known x q a y todo r e1 e2 e3 un h less d) = rules.known x q a y todo r e1 e2 e3 (λ stack out. ap (λ y. core.settled_at y stack out (record { focus = y; stack = stack; out = out; status = core.running })) e ∙ un stack out ∙ ap (λ y. record { focus = y; stack = stack; out = out; status = core.running }) (sym e)) h less (marked facts x _ t u e d)
  marked facts w g t u e (rules.asks x i q a todo r s u' alts body e1 e2 e3 un l red e4 e5 ps ch d) = rules.asks x i q a todo r s u' alts body e1 e2 e3 (λ stack out. ap (λ y. core.settled_at y stack out (record { focus = y; stack = stack; out = out; status = core.running })) e ∙ un stack out ∙ ap (λ y. record { focus = y; stack = stack; out = out; status = core.running }) (sym e)) l
      (λ stack out. ap (λ y. core.reductions P i (core.settled_at y stack out (record { focus = y; stack = stack; out = out; status = core.running }))) e ∙ red stack out) e4 e5 ps ch d
  marked facts w g t u e (rules.guards x g' b σ ρ more r u' a0 b0 e1 ag e2 e3 d1 d2) = rules.guards x g' b σ ρ more r u' a0 b0 e1 ag (e ∙ e2) e3 d1 d2

  -- codes that wait ------------------------------------------------------------------------------------------------------------

  abbrev Waits : (ℕ → Term) → Type 0
  Waits done = (m : ℕ) (ρ : Env) → Unsettled (close (done m) ρ)

  abbrev CP : Pat Span → ℕ → ℕ → (ℕ → Term) → Term → Term
  CP q v m done fail = comp_pat first q v m done fail

  abbrev CPS : Pats Span → ℕ → ℕ → (ℕ → Term) → Term → Term
  CPS ps v m done fail = comp_pats first ps v m done fail

  pat_waits : (q : Pat Span) (v m : ℕ) (done : ℕ → Term) (fail : Term) → IsPattern first q → Waits done → (ρ : Env) → Unsettled (close (CP q v m done fail) ρ)
  pat_waits (pvar n x) v m done fail h w ρ = λ stack out. refl
  pat_waits (pwild n) v m done fail h w ρ = w m ρ
  pat_waits (pas n x q) v m done fail h w ρ = λ stack out. refl
  pat_waits (pcon n c ps) v m done fail h w ρ = λ stack out. refl
  pat_waits (plit n l) v m done fail h w ρ = λ stack out. refl
  pat_waits (pstring n cs) v m done fail h w ρ = absurd h

  pats_waits : (ps : Pats Span) (v m : ℕ) (done : ℕ → Term) (fail : Term) → ArePatterns first ps → Waits done → (ρ : Env) → Unsettled (close (CPS ps v m done fail) ρ)
  pats_waits no_pat v m done fail h w ρ = w m ρ
  pats_waits (pat q ps) v m done fail h w ρ = pat_waits q v m (λ j. CPS ps (suc v) j done fail) fail h.0 (λ j ρ'. pats_waits ps (suc v) j done fail h.1 w ρ') ρ

  or_assoc : (a b c : Bool) → ((a || b) || c) ≡ (a || (b || c))
  or_assoc true b c = refl
  or_assoc false b c = refl

  -- the scrutinee that a name stands for
  stands_opened : (ρ : Env) (v : ℕ) (a : Argument) → Holds ρ v a → opened (stands (ρ (nm v)) (nm v)) ≡ opened a.term
  stands_opened ρ v a h = ap (λ o. opened (stands o (nm v))) h.1 ∙ h.2

  -- groups ---------------------------------------------------------------------------------------------------------------------
  first_same : (o o' : Option Term) → first_in o o' ≡ first_of o o'
  first_same None o' = refl
  first_same (Some u) o' = refl

  -- a group is entered
  one_letrec : (bs : Binds) (e : Term) (ρ : Env) → Reduces P 1 (close (letrec bs e) ρ) (close e (entered bs ρ))
  one_letrec bs e ρ stack out =
      let own = close_binds bs (without ρ (binds_name bs)) in
      reductions_first P 0 _ ∙ reductions_zero P _
      ∙ ap (λ z. core.demand z stack out) (close-close e (without ρ (binds_name bs)) (put_rec own empty own) ∙ ap (close e) (λ j y. first_same (without ρ (binds_name bs) y) (put_rec own empty own y) j))

  empty_letrec : (e : Term) (ρ : Env) → Reduces P 1 (close (letrec no_bind e) ρ) (close e ρ)
  empty_letrec e ρ stack out = one_letrec no_bind e ρ stack out ∙ ap (λ σ. core.demand (close e σ) stack out) (λ j y. of_none (ρ y) j)
    where
      of_none : (o : Option Term) → first_of o None ≡ o
      of_none None = refl
      of_none (Some t) = refl

  nested_run : (bs : List Binds) (e : Term) (ρ : Env) → Reduces P (length bs) (close (nested bs e) ρ) (close e (all_entered bs ρ))
  nested_run [] e ρ = at_itself (close e ρ)
  nested_run (b ∷ rest) e ρ =
      let n : 1 + length rest ≡ suc (length rest) = omega arith in
      subst (λ j. Reduces P j (close (letrec b (nested rest e)) ρ) (close e (all_entered rest (entered b ρ)))) n
      (joins 1 (length rest) (close (letrec b (nested rest e)) ρ) (close (nested rest e) (entered b ρ)) (close e (all_entered rest (entered b ρ))) (one_letrec b (nested rest e) ρ) (nested_run rest e (entered b ρ)))

  -- the groups of a row are entered in at least one reduction
  letrecs_run : (bs : List Binds) (e : Term) (ρ : Env) → (n : ℕ) × (1 ≤ n) × (n ≤ 1 + length bs) × Reduces P n (close (letrecs bs e) ρ) (close e (all_entered bs ρ))
  letrecs_run [] e ρ = (1, omega arith, omega arith, empty_letrec e ρ)
  letrecs_run (b ∷ rest) e ρ = (suc (length rest), omega arith, omega arith, nested_run (b ∷ rest) e ρ)

  rec_none : (all : Binds) (bs' : Binds) (x : ℕ) → binds_name bs' x ≡ false → (own : Env) → put_rec all empty (close_binds bs' own) x ≡ None
  rec_none all bs' x e own = rec_by bs' e
    where
      rec_by : (bs1 : Binds) → binds_name bs1 x ≡ false → put_rec all empty (close_binds bs1 own) x ≡ None
      rec_by Binds.no_bind e = refl
      rec_by (Binds.bind y u rest1) e = by_cases (x == y) (binds_name rest1 x) e (rec_by rest1)
        where
          by_cases : (b c : Bool) → (b || c) ≡ false → (c ≡ false → put_rec all empty (close_binds rest1 own) x ≡ None) → cond b (Some (letrec all (close u own))) (put_rec all empty (close_binds rest1 own) x) ≡ None
          by_cases true c e f = absurd (subst (λ z. cond z (Unit {0}) ⊥) e tt)
          by_cases false c e f = f e

  -- a made name is left as it was
  kept_one : (bs : Binds) (ρ : Env) (k : ℕ) → binds_name bs (nm k) ≡ false → entered bs ρ (nm k) ≡ ρ (nm k)
  kept_one bs ρ k free =
      let own = close_binds bs (without ρ (binds_name bs)) in
      (λ j. first_of (cond (free j) None (ρ (nm k))) (rec_none own bs (nm k) free (without ρ (binds_name bs)) j)) ∙ of_none (ρ (nm k))
    where
      of_none : (o : Option Term) → first_of o None ≡ o
      of_none None = refl
      of_none (Some t) = refl

  kept_entered : (bs : List Binds) (ρ : Env) (k : ℕ) → GroupsFit first bs → all_entered bs ρ (nm k) ≡ ρ (nm k)
  kept_entered [] ρ k free = refl
  kept_entered (b ∷ rest) ρ k free = kept_entered rest (entered b ρ) k free.1 ∙ kept_one b ρ k (free.0 k)

  -- one row --------------------------------------------------------------------------------------------------------------------
  -- where a row fails, the weight is above `base`; and of the facts so much is known as `Ok` says
  module _ (Ok : List (Argument × Value) → Type 0) (ok_more : (facts : List (Argument × Value)) (z : Argument × Value) → Ok facts → Ok (z ∷ facts)) (base : ℕ) (bs : List Binds) (gs : Bodies) (rest : Rest) where
    abbrev T : List (Pat Span × Argument) → Env → Focus
    T todo θ = matching (record { todo = todo; bound = θ; binds = bs; bodies = gs; rest = rest })

    abbrev Lost : ℕ → Env → Term → Type 0
    Lost m ρ fail = (ρ' : Env) → Same_new m ρ ρ' → (facts : List (Argument × Value)) (w : ℕ) → Ok facts → base + 1 ≤ w → Falls facts w (falling rest) (close fail ρ')

    abbrev Done : ℕ → Env → List (Pat Span × Argument) → (ℕ → Term) → Type 0
    Done m ρ todo done = (n : ℕ) (θ' ρ' : Env) (facts : List (Argument × Value)) (w i : ℕ) (t : Term) → Ok facts → m ≤ n → i ≤ 130 → Same_new m ρ ρ' → Inv todo θ' ρ' → Pend i t (close (done n) ρ') w (base + 2 + length todo) → Falls facts w (T todo θ') t

    lost_on : (m n : ℕ) (ρ ρ' : Env) (fail : Term) → m ≤ n → Same_new m ρ ρ' → Lost m ρ fail → Lost n ρ' fail
    lost_on m n ρ ρ' fail le s l ρ2 s2 facts w known h = l ρ2 (same_on m n ρ ρ' ρ2 le s s2) facts w known h

    done_on : (m n : ℕ) (ρ ρ' : Env) (todo : List (Pat Span × Argument)) (done : ℕ → Term) → m ≤ n → Same_new m ρ ρ' → Done m ρ todo done → Done n ρ' todo done
    done_on m n ρ ρ' todo done le s d n2 θ2 ρ2 facts w i t known le2 few s2 inv pend = d n2 θ2 ρ2 facts w i t known (omega (arith, le, le2)) few (same_on m n ρ ρ' ρ2 le s s2) inv pend

    holds_named : (ρ : Env) (v x : ℕ) (u : Term) (a : Argument) → x < first → Holds ρ v a → Holds (named ρ x u) v a
    holds_named ρ v x u a h hold = (hold.0, named_apart ρ x (nm v) u (high_low x v h) ∙ hold.1, hold.2)

    -- the test of a literal
    lit_alts : Literal → Term → Term → Alts
    lit_alts l t u = alt (lit_alt l t) (else_to u)

    demand_cond : (b : Bool) (t u : Term) (stack : List Waiting) (out : List ℕ) → cond b (core.demand t stack out) (core.demand u stack out) ≡ core.demand (cond b t u) stack out
    demand_cond true t u stack out = refl
    demand_cond false t u stack out = refl

    abbrev lit_body : Literal → Term → Term → Value → Term
    lit_body l t u (built d es) = u
    lit_body l t u (literal m) = cond (same_literal m l) t u

    lit_chooses : (l : Literal) (t u : Term) → Chooses (alt (lit_alt l t) (else_to u)) (lit_body l t u)
    lit_chooses l t u = record { for_con = λ c es stack out s. refl; for_literal = λ m stack out s. demand_cond (same_literal m l) t u stack out }

    abbrev con_body : Origin → ℕ → (List Term → Term) → Term → Value → Term
    con_body c n t u (built d es) = cond (same_origin d c && (n == length es)) (t (terms_of es)) u
    con_body c n t u (literal m) = u

    con_chooses : (c : Origin) (m n : ℕ) (t u : Term) → Chooses (alt (con_alt c (news first m n) t) (else_to u)) (con_body c n (λ ts. close t (put_all empty (news first m n) ts)) u)
    con_chooses c m n t u = record {
      for_con = λ d es stack out s.
          ap (λ k. cond (same_origin d c && k) (core.demand (close t (put_all empty (news first m n) (terms_of es))) stack out) (core.demand u stack out)) (λ i. news_length m n i == terms_length es i)
          ∙ demand_cond (same_origin d c && (n == length es)) (close t (put_all empty (news first m n) (terms_of es))) u stack out;
      for_literal = λ l stack out s. refl;
    }

    abbrev PatsOk : Pats Span → Type 0
    PatsOk ps = (us : List Argument) (v m : ℕ) (done : ℕ → Term) (fail : Term) (todo : List (Pat Span × Argument)) (θ ρ : Env) (facts : List (Argument × Value)) (w i : ℕ) (t : Term) → Ok facts → (1 ≤ count ps) ⊎ (i ≤ 130) → ArePatterns first ps → v + length us ≤ m → count ps ≡ length us → HoldsAll ρ v us → Inv (meet ps us todo) θ ρ → Lost m ρ fail → Waits done → Done m ρ todo done → Pend i t (close (CPS ps v m done fail) ρ) w (base + 2 + count ps + length todo) → Falls facts w (T (meet ps us todo) θ) t

    test_ok : (n : Span) (c : Origin) (ps : Pats Span) (a : Argument) (v m : ℕ) (done : ℕ → Term) (fail : Term) (todo : List (Pat Span × Argument)) (θ ρ : Env) (facts : List (Argument × Value)) (w i : ℕ) (t : Term) → tests nt (pcon n c ps) ≡ true
        → Passes P (stands (ρ (nm v)) (nm v)) (alt (con_alt c (news first m (count ps)) (close (CPS ps m (m + count ps) done fail) (without ρ (is_in (news first m (count ps)))))) (else_to (close fail ρ)))
        → PatsOk ps → Ok facts → ArePatterns first ps → v < m → Holds ρ v a → Inv ((pcon n c ps, a) ∷ todo) θ ρ → Lost m ρ fail → Waits done → Done m ρ todo done
        → Pend i t (cases (stands (ρ (nm v)) (nm v)) (alt (con_alt c (news first m (count ps)) (close (CPS ps m (m + count ps) done fail) (without ρ (is_in (news first m (count ps)))))) (else_to (close fail ρ)))) w (base + 3 + length todo) → Falls facts w (T ((pcon n c ps, a) ∷ todo) θ) t
    test_ok n c ps a v m done fail todo θ ρ facts w i t et passes rec kn h vm hold inv lost wd ok pend =
        let code = CPS ps m (m + count ps) done fail in
        let inner = close code (without ρ (is_in (news first m (count ps)))) in
        rules.asks (base + 3 + count ps + length todo) i (pcon n c ps) a todo (record { todo = (pcon n c ps, a) ∷ todo; bound = θ; binds = bs; bodies = gs; rest = rest }) (cases (stands (ρ (nm v)) (nm v)) (alt (con_alt c (news first m (count ps)) inner) (else_to (close fail ρ))))
        (stands (ρ (nm v)) (nm v)) (alt (con_alt c (news first m (count ps)) inner) (else_to (close fail ρ)))
        (con_body c (count ps) (λ ts. close inner (put_all empty (news first m (count ps)) ts)) (close fail ρ)) refl refl et pend.waits (omega (arith, pend.le)) pend.red refl (stands_opened ρ v a hold) passes
        (con_chooses c m (count ps) inner (close fail ρ)) (λ x. con_told x)
      where
        matched : (es : List Argument) (facts' : List (Argument × Value)) → Ok facts' → count ps ≡ length es → Falls facts' (base + 3 + count ps + length todo) (T (meet ps es todo) θ) (close (close (CPS ps m (m + count ps) done fail) (without ρ (is_in (news first m (count ps))))) (put_all empty (news first m (count ps)) (terms_of es)))
        matched es facts' kn' e =
            let len : length (terms_of es) ≡ count ps = terms_length es ∙ sym e in
            let ρ' = fields ρ m (terms_of es) in
            let env_is : over (without ρ (is_in (news first m (count ps)))) (put_all empty (news first m (count ps)) (terms_of es)) ≡ ρ' = ap (λ j. over (without ρ (is_in (news first m j))) (put_all empty (news first m j) (terms_of es))) (sym len) in
            let is : close (close (CPS ps m (m + count ps) done fail) (without ρ (is_in (news first m (count ps))))) (put_all empty (news first m (count ps)) (terms_of es)) ≡ close (CPS ps m (m + count ps) done fail) ρ' = close-close (CPS ps m (m + count ps) done fail) _ _ ∙ ap (close (CPS ps m (m + count ps) done fail)) env_is in
            subst (Falls facts' (base + 3 + count ps + length todo) (T (meet ps es todo) θ)) (sym is)
            (rec es m (m + count ps) done fail todo θ ρ' facts' (base + 3 + count ps + length todo) 0 (close (CPS ps m (m + count ps) done fail) ρ') kn' (inr (omega arith)) h (omega (arith, e)) e (fields_hold ρ m es)
            (λ y l. subst (λ z. (z ≡ true) ⊎ Alike (ρ' y) (θ y)) (sym (meet_binds ps es todo y e)) (inv_same (λ y. binds_pats ps y || todo_binds todo y) θ ρ ρ' (fields_low ρ m (terms_of es)) inv y l))
            (lost_on m (m + count ps) ρ ρ' fail (omega arith) (fields_before ρ m (terms_of es)) lost) wd (done_on m (m + count ps) ρ ρ' todo done (omega arith) (fields_before ρ m (terms_of es)) ok)
            (pended (close (CPS ps m (m + count ps) done fail) ρ') (base + 3 + count ps + length todo) (base + 2 + count ps + length todo) (pats_waits ps m (m + count ps) done fail h wd ρ') (omega arith)))

        by_test : (b1 b2 : Bool) (es : List Argument) (facts' : List (Argument × Value)) → Ok facts' → (b2 ≡ true → count ps ≡ length es)
            → Falls facts' (base + 3 + count ps + length todo) (cond (b1 && b2) (T (meet ps es todo) θ) (falling rest)) (cond (b1 && b2) (close (close (CPS ps m (m + count ps) done fail) (without ρ (is_in (news first m (count ps))))) (put_all empty (news first m (count ps)) (terms_of es))) (close fail ρ))
        by_test true true es facts' kn' e = matched es facts' kn' (e refl)
        by_test true false es facts' kn' e = lost ρ (same_itself m ρ) facts' (base + 3 + count ps + length todo) kn' (omega arith)
        by_test false b2 es facts' kn' e = lost ρ (same_itself m ρ) facts' (base + 3 + count ps + length todo) kn' (omega arith)

        con_told : (x : Value) → Falls ((a, x) ∷ facts) (base + 3 + count ps + length todo) (told (pcon n c ps) x todo (record { todo = (pcon n c ps, a) ∷ todo; bound = θ; binds = bs; bodies = gs; rest = rest }))
            (con_body c (count ps) (λ ts. close (close (CPS ps m (m + count ps) done fail) (without ρ (is_in (news first m (count ps))))) (put_all empty (news first m (count ps)) ts)) (close fail ρ) x)
        con_told (built d es) = by_test (same_origin d c) (count ps == length es) es ((a, built d es) ∷ facts) (ok_more facts (a, built d es) kn) (λ z. ⊎_elim (λ y. y.1) (λ y. absurd (subst (λ k. cond k ⊥ (Unit {0})) (sym y.0 ∙ z) tt)) (eqb_tells (count ps) (length es)))
        con_told (literal l) = lost ρ (same_itself m ρ) ((a, literal l) ∷ facts) (base + 3 + count ps + length todo) (ok_more facts (a, literal l) kn) (omega arith)

    con_ok : (n : Span) (c : Origin) (ps : Pats Span) (a : Argument) (v m : ℕ) (done : ℕ → Term) (fail : Term) (todo : List (Pat Span × Argument)) (θ ρ : Env) (facts : List (Argument × Value)) (w i : ℕ) (t : Term) (b : Bool) → nt c ≡ b → PatsOk ps → Ok facts
        → ArePatterns first ps → v < m → Holds ρ v a → Inv ((pcon n c ps, a) ∷ todo) θ ρ → Lost m ρ fail → Waits done → Done m ρ todo done
        → Pend i t (close (CP (pcon n c ps) v m done fail) ρ) w (base + 3 + length todo) → Falls facts w (T ((pcon n c ps, a) ∷ todo) θ) t
    con_ok n c (pat q no_pat) a v m done fail todo θ ρ facts w i t true eb rec kn h vm hold inv lost wd ok pend =
        let u0 = stands (ρ (nm v)) (nm v) in
        let a2 = rules.taken c a u0 in
        let ρ' = fields ρ m (a2.term ∷ []) in
        let code = CPS (pat q no_pat) m (m + 1) done fail in
        let one : Reduces P 1 (close (CP (pcon n c (pat q no_pat)) v m done fail) ρ) (close code ρ') = λ stack out.
        reductions_first P 0 _ ∙ reductions_zero P _
        ∙ ap (λ z. cond z (core.demand (close (close code (without ρ (is_in (nm m ∷ [])))) (put empty (nm m) (contents c u0))) stack out) (core.demand u0 (of_case (alt (con_alt c (nm m ∷ []) (close code (without ρ (is_in (nm m ∷ []))))) (else_to (close fail ρ))) ∷ stack) out)) (newtypes_same c ∙ eb)
        ∙ ap (λ z. core.demand z stack out) (close-close code (without ρ (is_in (nm m ∷ []))) (put empty (nm m) (contents c u0))) in
        rules.takes (base + 3 + length todo) (i + 1) n c q a todo (record { todo = (pcon n c (pat q no_pat), a) ∷ todo; bound = θ; binds = bs; bodies = gs; rest = rest }) u0 (close code ρ') refl refl eb pend.waits (omega (arith, pend.le)) (inl (omega arith))
        (joins i 1 t (close (CP (pcon n c (pat q no_pat)) v m done fail) ρ) (close code ρ') pend.red one) (stands_opened ρ v a hold)
        (rec (a2 ∷ []) m (m + 1) done fail todo θ ρ' facts (base + 3 + length todo) 0 (close code ρ') kn (inr (omega arith)) h (omega arith) refl (fields_hold ρ m (a2 ∷ []))
        (λ y l. subst (λ z. (z ≡ true) ⊎ Alike (ρ' y) (θ y)) (sym (meet_binds (pat q no_pat) (a2 ∷ []) todo y refl)) (inv_same (λ y. binds_pats (pat q no_pat) y || todo_binds todo y) θ ρ ρ' (fields_low ρ m (a2.term ∷ [])) inv y l))
        (lost_on m (m + 1) ρ ρ' fail (omega arith) (fields_before ρ m (a2.term ∷ [])) lost) wd (done_on m (m + 1) ρ ρ' todo done (omega arith) (fields_before ρ m (a2.term ∷ [])) ok)
        (pended (close code ρ') (base + 3 + length todo) (base + 2 + count (pat q no_pat) + length todo) (pats_waits (pat q no_pat) m (m + 1) done fail h wd ρ') (omega arith)))
    con_ok n c no_pat a v m done fail todo θ ρ facts w i t true eb rec kn h vm hold inv lost wd ok pend = test_ok n c no_pat a v m done fail todo θ ρ facts w i t refl (λ stack out. refl) rec kn h vm hold inv lost wd ok pend
    con_ok n c (pat q (pat q2 ps)) a v m done fail todo θ ρ facts w i t true eb rec kn h vm hold inv lost wd ok pend = test_ok n c (pat q (pat q2 ps)) a v m done fail todo θ ρ facts w i t refl (λ stack out. refl) rec kn h vm hold inv lost wd ok pend
    con_ok n c no_pat a v m done fail todo θ ρ facts w i t false eb rec kn h vm hold inv lost wd ok pend = test_ok n c no_pat a v m done fail todo θ ρ facts w i t refl (λ stack out. refl) rec kn h vm hold inv lost wd ok pend
    con_ok n c (pat q (pat q2 ps)) a v m done fail todo θ ρ facts w i t false eb rec kn h vm hold inv lost wd ok pend = test_ok n c (pat q (pat q2 ps)) a v m done fail todo θ ρ facts w i t refl (λ stack out. refl) rec kn h vm hold inv lost wd ok pend
    con_ok n c (pat q no_pat) a v m done fail todo θ ρ facts w i t false eb rec kn h vm hold inv lost wd ok pend =
        test_ok n c (pat q no_pat) a v m done fail todo θ ρ facts w i t (ap (λ z. cond z false true) eb)
        (λ stack out. ap (λ z. cond z (core.demand (close (close (CPS (pat q no_pat) m (m + 1) done fail) (without ρ (is_in (nm m ∷ [])))) (put empty (nm m) (contents c (stands (ρ (nm v)) (nm v))))) stack out)
        (core.demand (stands (ρ (nm v)) (nm v)) (of_case (alt (con_alt c (nm m ∷ []) (close (CPS (pat q no_pat) m (m + 1) done fail) (without ρ (is_in (nm m ∷ []))))) (else_to (close fail ρ))) ∷ stack) out)) (newtypes_same c ∙ eb))
        rec kn h vm hold inv lost wd ok pend

    mutual
      pat_ok : (q : Pat Span) (a : Argument) (v m : ℕ) (done : ℕ → Term) (fail : Term) (todo : List (Pat Span × Argument)) (θ ρ : Env) (facts : List (Argument × Value)) (w i : ℕ) (t : Term)
          → Ok facts → IsPattern first q → v < m → Holds ρ v a → Inv ((q, a) ∷ todo) θ ρ → Lost m ρ fail → Waits done → Done m ρ todo done → Pend i t (close (CP q v m done fail) ρ) w (base + 3 + length todo) → Falls facts w (T ((q, a) ∷ todo) θ) t
      pat_ok (pvar n x) a v m done fail todo θ ρ facts w i t kn h vm hold inv lost wd ok pend =
          let u = close (var (nm v)) ρ in
          let ρ' = named ρ x u in
          rules.moves (base + 2 + length todo) (i + 2) (T todo (put θ x a.term)) (close (done m) ρ') refl pend.waits (omega (arith, pend.le)) (inl (omega arith))
          (joins i 2 t (close (app (lam x (done m)) (var (nm v))) ρ) (close (done m) ρ') pend.red (beta x (done m) (var (nm v)) ρ))
          (ok m (put θ x a.term) ρ' facts (base + 2 + length todo) 0 (close (done m) ρ') kn (omega arith) (omega arith) (same_named m ρ x u h) (inv_named todo (todo_binds todo) θ ρ x u a.term (stands_opened ρ v a hold) inv)
          (pended (close (done m) ρ') (base + 2 + length todo) (base + 2 + length todo) (wd m ρ') (omega arith)))
      pat_ok (pwild n) a v m done fail todo θ ρ facts w i t kn h vm hold inv lost wd ok pend =
          rules.moves (base + 2 + length todo) i (T todo θ) (close (done m) ρ) refl pend.waits (omega (arith, pend.le)) (⊎_elim (λ y. inl y) (λ y. inr (omega (arith, y))) pend.some) pend.red
          (ok m θ ρ facts (base + 2 + length todo) 0 (close (done m) ρ) kn (omega arith) (omega arith) (same_itself m ρ) inv (pended (close (done m) ρ) (base + 2 + length todo) (base + 2 + length todo) (wd m ρ) (omega arith)))
      pat_ok (pas n x q) a v m done fail todo θ ρ facts w i t kn h vm hold inv lost wd ok pend =
          let u = close (var (nm v)) ρ in
          let ρ' = named ρ x u in
          let code = CP q v m done fail in
          rules.moves (base + 3 + length todo) (i + 2) (T ((q, a) ∷ todo) (put θ x a.term)) (close code ρ') refl pend.waits (omega (arith, pend.le)) (inl (omega arith))
          (joins i 2 t (close (app (lam x code) (var (nm v))) ρ) (close code ρ') pend.red (beta x code (var (nm v)) ρ))
          (pat_ok q a v m done fail todo (put θ x a.term) ρ' facts (base + 3 + length todo) 0 (close code ρ') kn h.1 vm (holds_named ρ v x u a h.0 hold)
          (inv_named todo (λ y. binds_pat q y || todo_binds todo y) θ ρ x u a.term (stands_opened ρ v a hold)
          (λ y l. subst (λ b. (b ≡ true) ⊎ Alike (ρ y) (θ y)) (or_assoc (y == x) (binds_pat q y) (todo_binds todo y)) (inv y l)))
          (lost_on m m ρ ρ' fail (omega arith) (same_named m ρ x u h.0) lost) wd (done_on m m ρ ρ' todo done (omega arith) (same_named m ρ x u h.0) ok)
          (pended (close code ρ') (base + 3 + length todo) (base + 3 + length todo) (pat_waits q v m done fail h.1 wd ρ') (omega arith)))
      pat_ok (plit n l) a v m done fail todo θ ρ facts w i t kn h vm hold inv lost wd ok pend =
          rules.asks (base + 2 + length todo) i (plit n l) a todo (record { todo = (plit n l, a) ∷ todo; bound = θ; binds = bs; bodies = gs; rest = rest }) (close (CP (plit n l) v m done fail) ρ) (stands (ρ (nm v)) (nm v)) (alt (lit_alt l (close (done m) ρ)) (else_to (close fail ρ)))
          (lit_body l (close (done m) ρ) (close fail ρ)) refl refl refl pend.waits (omega (arith, pend.le)) pend.red refl (stands_opened ρ v a hold) (λ stack out. refl) (lit_chooses l (close (done m) ρ) (close fail ρ))
          (λ x. lit_told x)
        where
          by_test : (b : Bool) (facts' : List (Argument × Value)) → Ok facts' → Falls facts' (base + 2 + length todo) (cond b (T todo θ) (falling rest)) (cond b (close (done m) ρ) (close fail ρ))
          by_test true facts' kn' = ok m θ ρ facts' (base + 2 + length todo) 0 (close (done m) ρ) kn' (omega arith) (omega arith) (same_itself m ρ) inv (pended (close (done m) ρ) (base + 2 + length todo) (base + 2 + length todo) (wd m ρ) (omega arith))
          by_test false facts' kn' = lost ρ (same_itself m ρ) facts' (base + 2 + length todo) kn' (omega arith)

          lit_told : (x : Value) → Falls ((a, x) ∷ facts) (base + 2 + length todo) (told (plit n l) x todo (record { todo = (plit n l, a) ∷ todo; bound = θ; binds = bs; bodies = gs; rest = rest })) (lit_body l (close (done m) ρ) (close fail ρ) x)
          lit_told (built d es) = lost ρ (same_itself m ρ) ((a, built d es) ∷ facts) (base + 2 + length todo) (ok_more facts (a, built d es) kn) (omega arith)
          lit_told (literal k) = by_test (same_literal k l) ((a, literal k) ∷ facts) (ok_more facts (a, literal k) kn)
      pat_ok (pstring n cs) a v m done fail todo θ ρ facts w i t kn h vm hold inv lost wd ok pend = absurd h
      pat_ok (pcon n c ps) a v m done fail todo θ ρ facts w i t kn h vm hold inv lost wd ok pend =
          con_ok n c ps a v m done fail todo θ ρ facts w i t (nt c) refl (pats_ok ps) kn h vm hold inv lost wd ok pend

      pats_ok : (ps : Pats Span) → PatsOk ps
      pats_ok no_pat us v m done fail todo θ ρ facts w i t kn few h vm e hold inv lost wd ok pend = ok m θ ρ facts w i t kn (omega arith) (⊎_elim (λ y. absurd (omega (arith, y))) (λ y. y) few) (same_itself m ρ) inv (eased i t (close (done m) ρ) w (base + 2 + 0 + length todo) (base + 2 + length todo) (omega arith) pend)
      pats_ok (pat q ps) [] v m done fail todo θ ρ facts w i t kn few h vm e hold inv lost wd ok pend = absurd (omega (arith, e))
      pats_ok (pat q ps) (a ∷ us) v m done fail todo θ ρ facts w i t kn few h vm e hold inv lost wd ok pend =
          let e' : count ps ≡ length us = omega (arith, e) in
          let len : length (meet ps us todo) ≡ count ps + length todo = meet_length ps us todo e' in
          pat_ok q a v m (λ j. CPS ps (suc v) j done fail) fail (meet ps us todo) θ ρ facts w i t kn h.0 (omega (arith, vm)) hold.0 inv lost (λ j ρ'. pats_waits ps (suc v) j done fail h.1 wd ρ')
          (λ n2 θ2 ρ2 facts2 w2 i2 t2 kn2 le2 few2 s2 inv2 pend2.
          pats_ok ps us (suc v) n2 done fail todo θ2 ρ2 facts2 w2 i2 t2 kn2 (inr few2) h.1 (omega (arith, vm, le2)) e'
          (holds_on ρ ρ2 (suc v) m us (omega (arith, vm)) s2 hold.1) inv2 (lost_on m n2 ρ ρ2 fail le2 s2 lost) wd (done_on m n2 ρ ρ2 todo done le2 s2 ok)
          (record { le = pend2.le; waits = pend2.waits; red = pend2.red; some = ⊎_elim (λ y. inl y) (λ y. inr (omega (arith, y, len))) pend2.some }))
          (record { le = pend.le; waits = pend.waits; red = pend.red; some = ⊎_elim (λ y. inl y) (λ y. inr (omega (arith, y, len))) pend.some })

    -- the bodies of a row
    no_names : (e : Term) (ρ : Env) → close (close e (without ρ (is_in []))) empty ≡ close e ρ
    no_names e ρ = close-close e (without ρ (is_in [])) empty ∙ ap (close e) (λ j y. first_none (ρ y) j)

    bodies_ok : (gs' : Bodies) (fail : Term) (θ ρ : Env) (facts : List (Argument × Value)) (w : ℕ) → Ok facts → Agree limit ρ θ → ((facts' : List (Argument × Value)) (w' : ℕ) → Ok facts' → base + 1 ≤ w' → Falls facts' w' (falling rest) (close fail ρ)) → base + 1 ≤ w
        → Falls facts w (choose gs' θ rest) (close (comp_bodies gs' fail) ρ)
    bodies_ok no_body fail θ ρ facts w kn ag lost le = lost facts w kn le
    bodies_ok (always e more) fail θ ρ facts w kn ag lost le = rules.chosen e θ ρ refl ag refl
    bodies_ok (guarded g e more) fail θ ρ facts w kn ag lost le =
        rules.guards (base + 1) g e θ ρ more rest (close g ρ) (close e (without ρ (is_in []))) (close (comp_bodies more fail) (without ρ (is_in []))) refl ag refl refl
        (rules.chosen e θ ρ refl ag (ap opened (no_names e ρ)))
        (subst (Falls facts (base + 1) (choose more θ rest)) (sym (no_names (comp_bodies more fail) ρ)) (bodies_ok more fail θ ρ facts (base + 1) kn ag lost (omega arith)))

    -- a row whose patterns match: its groups are entered
    row_done : (m k : ℕ) (θ ρ : Env) (u : Term) (facts : List (Argument × Value)) (w i : ℕ) (t : Term) → Ok facts → i ≤ 130 → GroupsFit first bs → length bs ≤ 64 → ρ (nm k) ≡ Some u
        → ((facts' : List (Argument × Value)) (w' : ℕ) → Ok facts' → base + 1 ≤ w' → Falls facts' w' (falling rest) u) → Inv [] θ ρ
        → Pend i t (close (letrecs bs (comp_bodies gs (var (nm k)))) ρ) w (base + 2) → Falls facts w (T [] θ) t
    row_done m k θ ρ u facts w i t kn small free few is lost inv pend =
        let ρ' = all_entered bs ρ in
        let code = comp_bodies gs (var (nm k)) in
        let r = letrecs_run bs code ρ in
        let here : ρ' (nm k) ≡ Some u = kept_entered bs ρ k free ∙ is in
        let agree : Agree limit ρ θ = λ x h. ⊎_elim (λ y. absurd (subst (λ z. cond z ⊥ (Unit {0})) y tt)) (λ y. y) (inv x h) in
        rules.enters (base + 1) (i + r.0) (record { todo = []; bound = θ; binds = bs; bodies = gs; rest = rest }) ρ (close code ρ') refl refl pend.waits (omega (arith, small, few, r.2)) (inl (omega (arith, r.1))) agree
        (joins i r.0 t (close (letrecs bs code) ρ) (close code ρ') pend.red r.3)
        (bodies_ok gs (var (nm k)) ρ' ρ' facts (base + 1) kn (λ x h. alike_itself (ρ' x))
        (λ facts' w' kn' le. marked facts' w' (falling rest) u (close (var (nm k)) ρ') (ap (λ o. opened (stands o (nm k))) here) (lost facts' w' kn' le)) (omega arith))

  -- rows one after the other -----------------------------------------------------------------------------------------------------
  -- so much is needed for rows before a reduction is made
  abbrev weigh : Rows → ℕ
  weigh no_row = 0
  weigh (row ps bs gs rest) = weigh rest + (count ps + 3)

  rows_wait : (rows : Halves) (n m k : ℕ) (ρ : Env) → RowsFit first n rows → Unsettled (close (comp_rows first rows m k) ρ)
  rows_wait (single ps bs gs) n m k ρ fit = pats_waits ps 1 m (λ j. letrecs bs (comp_bodies gs (var (nm k)))) (var (nm k)) fit.1 (λ j ρ'. groups_wait bs ρ') ρ
    where
      groups_wait : (bs : List Binds) (ρ' : Env) → Unsettled (close (letrecs bs (comp_bodies gs (var (nm k)))) ρ')
      groups_wait [] ρ' = λ stack out. refl
      groups_wait (b ∷ rest) ρ' = λ stack out. refl
  rows_wait (halves front back) n m k ρ fit = λ stack out. refl

  begins_at : (rows : Halves) (rest : Rows) (r : Rest) → next_row r (rows_of rows rest) ≡ Some (begin r.args (rows_of rows rest) r.outer)
  begins_at (single ps bs gs) rest r = refl
  begins_at (halves front back) rest r = begins_at front (rows_of back rest) r

  abbrev After : Rows → List Argument → Env → Term → Type 0
  After rest us σ u = (facts' : List (Argument × Value)) (w' : ℕ) → weigh rest + 1 ≤ w' → Falls facts' w' (falling (record { args = us; rows = rest; outer = σ })) u

  begun : (rows : Halves) (rest : Rows) (m k : ℕ) (us : List Argument) (σ ρ : Env) (u : Term) (facts : List (Argument × Value)) (w i : ℕ) (t : Term) → Agree limit ρ σ → HoldsAll ρ 1 us → 1 + length us ≤ m → k < m → RowsFit first (length us) rows
      → ρ (nm k) ≡ Some u → After rest us σ u → (1 ≤ length us) ⊎ (i + 2 * height rows ≤ 130) → i + 2 * height rows ≤ 194 → Pend i t (close (comp_rows first rows m k) ρ) w (weigh (rows_of rows rest)) → Falls facts w (begin us (rows_of rows rest) σ) t
  begun (single ps bs gs) rest m k us σ ρ u facts w i t ag hold le less fit is after few small pend =
      let r : Rest = record { args = us; rows = rest; outer = σ } in
      let fail = var (nm k) in
      let done : ℕ → Term = λ j. letrecs bs (comp_bodies gs fail) in
      let base = weigh rest in
      let inv : Inv (meet ps us []) (without σ (binds_pats ps)) ρ = λ y h.
      subst (λ z. (z ≡ true) ⊎ Alike (ρ y) (cond (binds_pats ps y) None (σ y))) (sym (meet_binds ps us [] y fit.0 ∙ or_false (binds_pats ps y)))
      (hidden (binds_pats ps y) (ρ y) (σ y) (ag y h)) in
      pats_ok (λ f. Unit {0}) (λ f z h. tt) base bs gs r ps us 1 m done fail [] (without σ (binds_pats ps)) ρ facts w i t tt (⊎_elim (λ y. inl (omega (arith, y, fit.0))) (λ y. inr (omega (arith, y))) few) fit.1 (omega (arith, le)) fit.0
      hold inv
      (λ ρ' s facts' w' kn' h. marked facts' w' (falling r) u (close fail ρ') (ap (λ o. opened (stands o (nm k))) (s k less ∙ is)) (after facts' w' h))
      (λ j ρ'. groups_wait bs ρ')
      (λ n θ' ρ' facts' w' i' t' kn' le' few' s inv' pend'. row_done (λ f. Unit {0}) (λ f z h. tt) base bs gs r m k θ' ρ' u facts' w' i' t' tt few' fit.2 fit.3 (s k less ∙ is) (λ facts2 w2 kn2 h2. after facts2 w2 h2) inv' (eased i' t' (close (done n) ρ') w' (base + 2 + 0) (base + 2) (omega arith) pend'))
      (eased i t (close (comp_pats first ps 1 m done fail) ρ) w (base + (count ps + 3)) (base + 2 + count ps + 0) (omega arith) pend)
    where
      or_false : (b : Bool) → (b || false) ≡ b
      or_false true = refl
      or_false false = refl

      hidden : (b : Bool) (o o' : Option Term) → Alike o o' → (b ≡ true) ⊎ Alike o (cond b None o')
      hidden true o o' h = inl refl
      hidden false o o' h = inr h

      groups_wait : (bs : List Binds) (ρ' : Env) → Unsettled (close (letrecs bs (comp_bodies gs (var (nm k)))) ρ')
      groups_wait [] ρ' = λ stack out. refl
      groups_wait (b ∷ rest) ρ' = λ stack out. refl
  begun (halves front back) rest m k us σ ρ u facts w i t ag hold le less fit is after few small pend =
      let one = comp_rows first front (suc m) m in
      let two = comp_rows first back m k in
      let v = close two ρ in
      let ρ1 = named ρ (nm m) v in
      let r : Rest = record { args = us; rows = rows_of back rest; outer = σ } in
      let tall_1 : height front ≤ max (height front) (height back) = omega arith in
      let tall_2 : height back ≤ max (height front) (height back) = omega arith in
      let low : (y : ℕ) → y < limit → ρ1 y ≡ ρ y = λ y h. named_apart ρ (nm m) y v (low_high y m h) in
      let old : (j : ℕ) → j < m → ρ1 (nm j) ≡ ρ (nm j) = λ j h. named_apart ρ (nm m) (nm j) v (other j m h) in
      let second : After (rows_of back rest) us σ v = λ facts' w' h.
      rules.moves (weigh (rows_of back rest)) 0 (begin us (rows_of back rest) σ) v (begins_at back rest r) (rows_wait back (length us) m k ρ fit.1) (omega arith) (inr (omega (arith, h))) (at_itself v)
      (begun back rest m k us σ ρ u facts' (weigh (rows_of back rest)) 0 v ag hold le less fit.1 is after (⊎_elim (λ y. inl y) (λ y. inr (omega (arith, y, tall_2))) few) (omega (arith, small, tall_2))
      (pended v (weigh (rows_of back rest)) (weigh (rows_of back rest)) (rows_wait back (length us) m k ρ fit.1) (omega arith))) in
      begun front (rows_of back rest) (suc m) m us σ ρ1 v facts w (i + 2) t (λ y h. subst (λ z. Alike z (σ y)) (sym (low y h)) (ag y h)) (holds_on ρ ρ1 1 m us le old hold) (omega (arith, le)) (omega arith) fit.0
      (named_here ρ (nm m) v) second (⊎_elim (λ y. inl y) (λ y. inr (omega (arith, y, tall_1))) few) (omega (arith, small, tall_1))
      (record { le = omega (arith, small); waits = pend.waits; red = joins i 2 t (close (app (lam (nm m) one) two) ρ) (close one ρ1) pend.red (beta (nm m) one two ρ); some = inl (omega arith) })

  -- what comes after the last row
  no_row_left : (us : List Argument) (σ : Env) (facts : List (Argument × Value)) (w : ℕ) → Falls facts w (falling (record { args = us; rows = no_row; outer = σ })) (close (letrec no_bind otherwise) σ)
  no_row_left us σ facts w = rules.lost 1 (record { args = us; rows = no_row; outer = σ }) σ (close otherwise σ) refl refl (λ stack out. refl) (omega arith) (empty_letrec otherwise σ) (λ x h. alike_itself (σ x)) refl

  all_begun : (rows : Halves) (us : List Argument) (σ ρ : Env) (i : ℕ) (t : Term) → length us ≤ 64 → height rows ≤ 32 → RowsFit first (length us) rows → i ≡ 2 * suc (length us) → Agree limit ρ σ → HoldsAll ρ 1 us
      → ρ (nm 0) ≡ Some (close (letrec no_bind otherwise) σ) → Pend i t (close (comp_rows first rows (suc (length us)) 0) ρ) 0 0 → Falls [] 0 (begin us (rows_of rows no_row) σ) t
  all_begun rows us σ ρ i t few low fit count ag hold is pend =
      begun rows no_row (suc (length us)) 0 us σ ρ (close (letrec no_bind otherwise) σ) [] 0 i t ag hold (omega arith) (omega arith) fit is (λ facts' w' h. no_row_left us σ facts' w') (some_or_none (length us) refl) (omega (arith, count, few, low))
      (record { le = pend.le; waits = pend.waits; red = pend.red; some = inl (omega (arith, count)) })
    where
      some_or_none : (n : ℕ) → length us ≡ n → (1 ≤ length us) ⊎ (i + 2 * height rows ≤ 130)
      some_or_none zero e = inr (omega (arith, count, low, e))
      some_or_none (suc n) e = inl (omega (arith, e))

  -- the arguments are bound ------------------------------------------------------------------------------------------------------
  abbrev push : List Term → List Waiting → List Waiting
  push [] stack = stack
  push (e ∷ es) stack = arg e ∷ push es stack

  applied_close : (f : Term) (es : List Term) (ρ : Env) → close (applied f es) ρ ≡ applied (close f ρ) (close_each es ρ)
  applied_close f [] ρ = refl
  applied_close f (e ∷ es) ρ = applied_close (app f e) es ρ

  applied_waits : (f e : Term) (es : List Term) → Unsettled (applied (app f e) es)
  applied_waits f e [] stack out = refl
  applied_waits f e (e2 ∷ es) stack out = applied_waits (app f e) e2 es stack out

  pushes : (f : Term) (es : List Term) (stack : List Waiting) (out : List ℕ) → core.reductions P (length es) (core.demand (applied f es) stack out) ≡ core.demand f (push es stack) out
  pushes f [] stack out = reductions_zero P _
  pushes f (e ∷ es) stack out =
      let n : suc (length es) ≡ length es + 1 = omega arith in
      ap (λ k. core.reductions P k (core.demand (applied (app f e) es) stack out)) n ∙ sym (reductions_add P (length es) 1 _)
      ∙ ap (core.reductions P 1) (pushes (app f e) es stack out) ∙ reductions_first P 0 _ ∙ reductions_zero P _

  abbrev bound_names : Env → ℕ → List Term → Env
  bound_names ρ m [] = ρ
  bound_names ρ m (u ∷ us) = bound_names (named ρ (nm m) u) (suc m) us

  enters : (us : List Term) (m : ℕ) (b : Term) (ρ : Env) (stack : List Waiting) (out : List ℕ) → core.reductions P (length us) (core.demand (close (lams first m (length us) b) ρ) (push us stack) out) ≡ core.demand (close b (bound_names ρ m us)) stack out
  enters [] m b ρ stack out = reductions_zero P _
  enters (u ∷ us) m b ρ stack out =
      reductions_first P (length us) _
      ∙ ap (λ t. core.reductions P (length us) (core.demand t (push us stack) out)) (close-close (lams first (suc m) (length us) b) (without ρ (λ y. y == nm m)) (put empty (nm m) u))
      ∙ enters us (suc m) b (named ρ (nm m) u) stack out

  names_low : (us : List Term) (m : ℕ) (ρ : Env) (x : ℕ) → x < limit → bound_names ρ m us x ≡ ρ x
  names_low [] m ρ x h = refl
  names_low (u ∷ us) m ρ x h = names_low us (suc m) (named ρ (nm m) u) x h ∙ named_apart ρ (nm m) x u (low_high x m h)

  names_before : (us : List Term) (m : ℕ) (ρ : Env) (i : ℕ) → i < m → bound_names ρ m us (nm i) ≡ ρ (nm i)
  names_before [] m ρ i h = refl
  names_before (u ∷ us) m ρ i h = names_before us (suc m) (named ρ (nm m) u) i (omega (arith, h)) ∙ named_apart ρ (nm m) (nm i) u (other i m h)

  names_hold : (us : List Argument) (m : ℕ) (ρ : Env) → HoldsAll (bound_names ρ m (terms_of us)) m us
  names_hold [] m ρ = tt
  names_hold (a ∷ us) m ρ =
      ((a.term, names_before (terms_of us) (suc m) (named ρ (nm m) a.term) m (omega arith) ∙ named_here ρ (nm m) a.term, refl), names_hold us (suc m) (named ρ (nm m) a.term))

  each_length : (es : List Term) (ρ : Env) → length (close_each es ρ) ≡ length es
  each_length [] ρ = refl
  each_length (e ∷ es) ρ = ap (λ n. suc n) (each_length es ρ)

  -- the contract
  pub rows_match : (es : List Term) (rows : Option Halves) → length es ≤ 64 → whole_height rows ≤ 32 → AllFit first (length es) rows → Matches P nt limit otherwise es (all_rows rows) (compile_rows first es rows otherwise)
  rows_match es None few low fit us σ are = no_row_left us σ [] 0
  rows_match es (Some rows) few low fit us σ are =
      let body = comp_rows first rows (suc (length es)) 0 in
      let end = letrec no_bind otherwise in
      let ts = close end σ ∷ terms_of us in
      let n : length us ≡ length es = sym (terms_length us) ∙ ap length are ∙ each_length es σ in
      let is : close (applied (lams first 0 (suc (length es)) body) (end ∷ es)) σ ≡ applied (close (lams first 0 (suc (length es)) body) σ) ts =
      applied_close (lams first 0 (suc (length es)) body) (end ∷ es) σ ∙ ap (λ l. applied (close (lams first 0 (suc (length es)) body) σ) (close end σ ∷ l)) (sym are) in
      let len : length ts ≡ suc (length es) = ap (λ j. suc j) (terms_length us ∙ n) in
      let red : Reduces P (length ts + length ts) (applied (close (lams first 0 (suc (length es)) body) σ) ts) (close body (bound_names σ 0 ts)) = λ stack out.
      sym (reductions_add P (length ts) (length ts) _) ∙ ap (core.reductions P (length ts)) (pushes (close (lams first 0 (suc (length es)) body) σ) ts stack out)
      ∙ ap (λ j. core.reductions P (length ts) (core.demand (close (lams first 0 j body) σ) (push ts stack) out)) (sym len) ∙ enters ts 0 body σ stack out in
      subst (Falls [] 0 (begin us (rows_of rows no_row) σ)) (sym is)
      (all_begun rows us σ (bound_names σ 0 ts) (length ts + length ts) (applied (close (lams first 0 (suc (length es)) body) σ) ts)
      (omega (arith, n, few)) low (subst (λ j. RowsFit first j rows) (sym n) fit) (omega (arith, len, n))
      (λ x h. subst (λ z. Alike z (σ x)) (sym (names_low ts 0 σ x h)) (alike_itself (σ x)))
      (names_hold us 1 (named σ (nm 0) (close end σ)))
      (names_before (terms_of us) 1 (named σ (nm 0) (close end σ)) 0 (omega arith) ∙ named_here σ (nm 0) (close end σ))
      (record {
        le = omega (arith, len, few);
        waits = applied_waits (close (lams first 0 (suc (length es)) body) σ) (close end σ) (terms_of us);
        red = subst (λ j. Reduces P (length ts + length ts) (applied (close (lams first 0 (suc (length es)) body) σ) ts) (close (comp_rows first rows (suc j) 0) (bound_names σ 0 ts))) (sym n) red;
        some = inl (omega (arith, len));
      }))

pub rows_follow : RowsFollow
rows_follow p nt limit first otherwise es rows newtypes below few low fit = rows_match p nt limit first otherwise newtypes below es rows few low fit
