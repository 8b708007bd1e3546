-- The meaning's matching and the rules over core go side by side.
use Rattle.std.proofs.Common.{◌≡◌, ℕ, suc, Bool, true, false, cond, List, [], ◌∷◌, Option, Some, None, length, refl, sym, ap, ◌∙◌, subst}
use Rattle.std.specs.Prelude.{◌&&◌, ◌==◌}
use Rattle.gh_base.specs.declared.place.Origin.{Origin}
use Rattle.gh_base.specs.declared.place.Span.{Span}
use Rattle.gh_core.specs.Closing as core_closing
use Rattle.gh_core.specs.Primitives.{same_origin}
use Rattle.gh_core.specs.Reduce.{same_literal}
use Rattle.gh_core.specs.Terms.{Literal}
use Rattle.gh_kernel.specs.Closing as closing
use Rattle.gh_kernel.specs.Programs.{Exp, Program, is_newtype}
use Rattle.gh_kernel.specs.States.{Waiting, tested, compared, decides, State, at, meet, listed, begin_rows, demand}
use Rattle.gh_kernel.specs.States as kernel
use Rattle.gh_kernel.specs.Steps.{act, count, fall, match_next, match_pattern, meet_constructor, tell, with_todo}
use Rattle.gh_kernel.specs.Terms.{Pat, pvar, pwild, pcon, plit, pstring, pas, Pats, no_pat, pat, contents, Exprs}
use Rattle.gh_kernel.specs.Terms as terms
use Rattle.gh_rules.specs.Beside.{sources, in_source, SameBodies, SameRows, nothing_bound, one_bound, SameRest, SameTrial, Beside, at_row, at_fall, at_guard, at_body}
use Rattle.gh_rules.specs.Laws.{Begins, Moves, Takes, Tells, Asks, Enters, Decides}
use Rattle.gh_rules.specs.Rules.{Argument, built, Bodies, no_body, always, guarded, Rows, no_row, row, Rest, Trial, Focus, falling, choose, all_entered, goes_on, next_todo, next_row, tests, told}

none_some : {A : Type 0} {a : A} → None ≡ Some a → ⊥
none_some h = cc

false_true : false ≡ true → ⊥
false_true h = cc

some_or : {A : Type 0} → A → Option A → A
some_or a None = a
some_or a (Some b) = b

some_is : {A : Type 0} {a b : A} → Some a ≡ Some b → a ≡ b
unfolding some_or
some_is {A} {a} h = ap (some_or a) h

-- where matching begins --------------------------------------------------------------------------------------------------

pub meet_source : (ps : Pats Span) (es : List Argument) (todo : List (Pat Span × Argument)) → meet ps (sources es) (in_source todo) ≡ in_source (meet ps es todo)
meet_source no_pat es todo = refl
meet_source (pat p ps) [] todo = refl
meet_source (pat p ps) (e ∷ es) todo = ap (λ l. (p, e.source) ∷ l) (meet_source ps es todo)

length_source : (es : List Argument) → length (sources es) ≡ length es
length_source [] = refl
length_source (e ∷ es) = ap (λ n. suc n) (length_source es)

pub begins : Begins
begins n es terms.no_row args no_row σ stack out h same = at_fall _ _ (record { args = h; rows = tt }) refl
begins n es (terms.row ps gs bs rest) args (row qs ds gs' more) σ stack out h same =
    at_row _ _
    (record {
      todo = ap (λ l. meet ps l []) h ∙ meet_source ps args [] ∙ ap (λ v. in_source (meet v args [])) same.0;
      bound = nothing_bound;
      bodies = same.1;
      rest = record { args = h; rows = same.2 };
    }) refl
begins n es terms.no_row args (row qs ds gs' more) σ stack out h same = absurd same
begins n es (terms.row ps gs bs rest) args no_row σ stack out h same = absurd same

-- steps that ask nothing -------------------------------------------------------------------------------------------------

module _ (p : Program) (stack : List Waiting) (out : List ℕ) where
  -- the meaning at the patterns that are left
  at_todo : (k : kernel.Trial) (todo : List (Pat Span × Exp)) → k.todo ≡ todo → act p (at (kernel.matching k) stack out) ≡ match_next p todo k stack out
  at_todo k todo e = ap (λ l. match_next p l k stack out) e

  move_pattern : (k : kernel.Trial) (t : Trial) (q : Pat Span) (a : Argument) (todo : List (Pat Span × Argument)) (f' : Focus)
      → SameTrial k t → next_todo (is_newtype p.datatypes) ((q, a) ∷ todo) t ≡ Some f' → Beside stack out (match_pattern p q a.source (with_todo (in_source todo) k) stack out) f'
  move_pattern k t (pvar n x) a todo f' same h =
      subst (Beside stack out _) (some_is h) (at_row _ _ (record { todo = refl; bound = one_bound x a same.bound; bodies = same.bodies; rest = same.rest }) refl)
  move_pattern k t (pwild n) a todo f' same h =
      subst (Beside stack out _) (some_is h) (at_row _ _ (record { todo = refl; bound = same.bound; bodies = same.bodies; rest = same.rest }) refl)
  move_pattern k t (pas n x q) a todo f' same h =
      subst (Beside stack out _) (some_is h) (at_row _ _ (record { todo = refl; bound = one_bound x a same.bound; bodies = same.bodies; rest = same.rest }) refl)
  move_pattern k t (pcon n c ps) a todo f' same h = absurd (none_some h)
  move_pattern k t (plit n l) a todo f' same h = absurd (none_some h)
  move_pattern k t (pstring n cs) a todo f' same h = absurd (none_some h)

  move_todo : (k : kernel.Trial) (t : Trial) (todo : List (Pat Span × Argument)) (f' : Focus) → SameTrial k t → k.todo ≡ in_source todo → next_todo (is_newtype p.datatypes) todo t ≡ Some f'
      → Beside stack out (act p (at (kernel.matching k) stack out)) f'
  move_todo k t [] f' same e h = absurd (none_some h)
  move_todo k t (m ∷ todo) f' same e h = subst (λ s. Beside stack out s f') (sym (at_todo k ((m.0, m.1.source) ∷ in_source todo) e)) (move_pattern k t m.0 m.1 todo f' same h)

  move_fall : (k : kernel.Rest) (r : Rest) (rows : terms.Rows Span) (rs : Rows) (f' : Focus) → SameRest k r → SameRows rows rs → k.rows ≡ rows → next_row r rs ≡ Some f'
      → Beside stack out (act p (at (kernel.falling k) stack out)) f'
  move_fall k r rows no_row f' same alike e h = absurd (none_some h)
  move_fall k r terms.no_row (row qs ds gs' more) f' same alike e h = absurd alike
  move_fall k r (terms.row ps gs bs rest) (row qs ds gs' more) f' same alike e h =
      subst (λ s. Beside stack out s f') (sym (ap (λ l. fall k.place k l stack out (at (kernel.falling k) stack out)) e))
      (subst (Beside stack out _) (some_is h) (begins k.place k.args (terms.row ps gs bs rest) r.args (row qs ds gs' more) r.outer stack out same.args alike))

pub moves : Moves
moves p stack out s _ f' (at_row k t same e) h = subst (λ s. Beside stack out s f') (sym (ap (act p) e)) (move_todo p stack out k t t.todo f' same same.todo h)
moves p stack out s _ f' (at_fall k r same e) h = subst (λ s. Beside stack out s f') (sym (ap (act p) e)) (move_fall p stack out k r k.rows r.rows f' same same.rows refl h)
moves p stack out s _ f' (at_guard g e more k h d σ others r same rest is) n = absurd (none_some n)
moves p stack out s _ f' (at_body e d σ is) n = absurd (none_some n)

-- a newtype's pattern ----------------------------------------------------------------------------------------------------

pub takes : Takes
takes p stack out s _ n c q a todo u (at_row k t same e) left newtype =
    let has = ap (act p) e ∙ at_todo p stack out k _ (same.todo ∙ ap in_source left) in
    let goes = has ∙ ap (λ b. meet_constructor b c (pat q no_pat) a.source (with_todo (in_source todo) k) stack out) newtype in
    at_row _ _ (record { todo = refl; bound = same.bound; bodies = same.bodies; rest = same.rest }) goes

-- a pattern that tests ---------------------------------------------------------------------------------------------------

met : (b : Bool) (c : Origin) (ps : Pats Span) (n : Span) (e : Exp) (k : kernel.Trial) (stack : List Waiting) (out : List ℕ) → tests (λ d. b) (pcon n c ps) ≡ true
    → meet_constructor b c ps e k stack out ≡ demand e (tested c ps k ∷ stack) out
met true c no_pat n e k stack out h = refl
met false c no_pat n e k stack out h = refl
met true c (pat q no_pat) n e k stack out h = absurd (false_true h)
met false c (pat q no_pat) n e k stack out h = refl
met true c (pat q (pat q' qs)) n e k stack out h = refl
met false c (pat q (pat q' qs)) n e k stack out h = refl

-- whether a constructor's pattern tests depends on that constructor alone
tests_con : (nt : Origin → Bool) (n : Span) (c : Origin) (ps : Pats Span) → tests nt (pcon n c ps) ≡ tests (λ d. nt c) (pcon n c ps)
tests_con nt n c no_pat = refl
tests_con nt n c (pat q no_pat) = refl
tests_con nt n c (pat q (pat q' qs)) = refl

tell_by : (b : Bool) (k : kernel.Trial) (t : Trial) (left ks : List (Pat Span × Exp)) (ts : List (Pat Span × Argument)) (stack : List Waiting) (out : List ℕ) → SameTrial k t → ks ≡ in_source ts
    → Beside stack out (tell b ks (with_todo left k) stack out) (cond b (goes_on ts t.bound t) (falling t.rest))
tell_by true k t left ks ts stack out same e = at_row _ _ (record { todo = e; bound = same.bound; bodies = same.bodies; rest = same.rest }) refl
tell_by false k t left ks ts stack out same e = at_fall _ _ same.rest refl

con_tells : (n : Span) (c : Origin) (ps : Pats Span) (k : kernel.Trial) (t : Trial) (todo : List (Pat Span × Argument)) → SameTrial k t → Tells (pcon n c ps) todo t (tested c ps (with_todo (in_source todo) k))
con_tells n c ps k t todo same = record {
  constructor = λ d es stack out s.
      subst (λ m. Beside stack out (tell (same_origin d c && (count ps == m)) (meet ps (sources es) (in_source todo)) (with_todo (in_source todo) k) stack out) (told (pcon n c ps) (built d es) todo t)) (sym (length_source es))
      (tell_by (same_origin d c && (count ps == length es)) k t (in_source todo) (meet ps (sources es) (in_source todo)) (meet ps es todo) stack out same (meet_source ps es todo));
  literals = λ l stack out s. at_fall _ _ same.rest refl;
}

lit_tells : (n : Span) (l : Literal) (k : kernel.Trial) (t : Trial) (todo : List (Pat Span × Argument)) → SameTrial k t → Tells (plit n l) todo t (compared l (with_todo (in_source todo) k))
lit_tells n l k t todo same = record {
  constructor = λ d es stack out s. at_fall _ _ same.rest refl;
  literals = λ m stack out s. tell_by (same_literal m l) k t (in_source todo) (in_source todo) todo stack out same refl;
}

asks_pattern : (p : Program) (stack : List Waiting) (out : List ℕ) (k : kernel.Trial) (t : Trial) (q : Pat Span) (a : Argument) (todo : List (Pat Span × Argument)) → SameTrial k t → tests (is_newtype p.datatypes) q ≡ true
    → (w : Waiting) × (match_pattern p q a.source (with_todo (in_source todo) k) stack out ≡ demand a.source (w ∷ stack) out) × Tells q todo t w
asks_pattern p stack out k t (plit n l) a todo same h = (compared l (with_todo (in_source todo) k), refl, lit_tells n l k t todo same)
asks_pattern p stack out k t (pcon n c ps) a todo same h = (
  tested c ps (with_todo (in_source todo) k),
  met (is_newtype p.datatypes c) c ps n a.source (with_todo (in_source todo) k) stack out (sym (tests_con (is_newtype p.datatypes) n c ps) ∙ h),
  con_tells n c ps k t todo same,
)
asks_pattern p stack out k t (pvar n x) a todo same h = absurd (false_true h)
asks_pattern p stack out k t (pwild n) a todo same h = absurd (false_true h)
asks_pattern p stack out k t (pas n x q) a todo same h = absurd (false_true h)
asks_pattern p stack out k t (pstring n cs) a todo same h = absurd (false_true h)

pub asks : Asks
asks p stack out s t q a todo (at_row k _ same e) left h =
    let has = ap (act p) e ∙ at_todo p stack out k _ (same.todo ∙ ap in_source left) in
    let r = asks_pattern p stack out k t q a todo same h in
    (r.0, has ∙ r.1, r.2)

-- groups, bodies and guards ----------------------------------------------------------------------------------------------

closed_same : (bs : terms.Bodies Span) (gs : Bodies) (ρ : closing.Env Span) → SameBodies bs gs → SameBodies (closing.close_bodies bs ρ) gs
closed_same terms.no_body no_body ρ h = tt
closed_same (terms.always e rest) (always d more) ρ h = closed_same rest more ρ h
closed_same (terms.guarded g e rest) (guarded g' d more) ρ h = closed_same rest more ρ h
closed_same terms.no_body (always d more) ρ h = absurd h
closed_same terms.no_body (guarded g' d more) ρ h = absurd h
closed_same (terms.always e rest) no_body ρ h = absurd h
closed_same (terms.always e rest) (guarded g' d more) ρ h = absurd h
closed_same (terms.guarded g e rest) no_body ρ h = absurd h
closed_same (terms.guarded g e rest) (always d more) ρ h = absurd h

chosen : (bs : terms.Bodies Span) (gs : Bodies) (k : kernel.Rest) (r : Rest) (σ : core_closing.Env) (stack : List Waiting) (out : List ℕ) → SameBodies bs gs → SameRest k r
    → Beside stack out (kernel.choose bs k stack out) (choose gs σ r)
chosen terms.no_body no_body k r σ stack out h same = at_fall _ _ same refl
chosen (terms.always e rest) (always d more) k r σ stack out h same = at_body e d σ refl
chosen (terms.guarded g e rest) (guarded g' d more) k r σ stack out h same = at_guard g e rest k g' d σ more r h same refl
chosen terms.no_body (always d more) k r σ stack out h same = absurd h
chosen terms.no_body (guarded g' d more) k r σ stack out h same = absurd h
chosen (terms.always e rest) no_body k r σ stack out h same = absurd h
chosen (terms.always e rest) (guarded g' d more) k r σ stack out h same = absurd h
chosen (terms.guarded g e rest) no_body k r σ stack out h same = absurd h
chosen (terms.guarded g e rest) (always d more) k r σ stack out h same = absurd h

pub enters : Enters
enters p stack out s t ρ (at_row k _ same e) left =
    let hidden = closing.without k.bound (closing.groups_bind k.groups) in
    let own = closing.close_groups k.groups hidden in
    let put = closing.put_groups own closing.empty own in
    let bs = closing.close_bodies (closing.close_bodies k.bodies hidden) put in
    let has : act p s ≡ kernel.choose bs k.rest stack out = ap (act p) e ∙ at_todo p stack out k [] (same.todo ∙ ap in_source left) in
    subst (λ s. Beside stack out s (choose t.bodies (all_entered t.binds ρ) t.rest)) (sym has)
    (chosen bs t.bodies k.rest t.rest (all_entered t.binds ρ) stack out (closed_same (closing.close_bodies k.bodies hidden) t.bodies put (closed_same k.bodies t.bodies hidden same.bodies)) same.rest)

pub decides_guard : Decides
decides_guard e more k others r σ stack out s h same = (refl, chosen more others k r σ stack out h same)
