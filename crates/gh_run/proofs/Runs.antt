-- A run that is made piece by piece, what each piece prints being put away.
use Rattle.std.proofs.Common.{◌≡◌, ℕ, ◌+◌, ◌-◌, ◌≤◌, List, [], ◌++◌, Option, refl, sym, ap, ◌∙◌, subst, arith, append_assoc, append-nil}
use Rattle.gh_base.specs.declared.place.Span.{Span}
use Rattle.gh_core.specs.declared.erased.Erased.{Erased}
use Rattle.gh_core.specs.Primitives.{Cause}
use Rattle.gh_core.specs.Reduce.{Status, running, ended, failed, State, Program, reductions}
use Rattle.gh_core.specs.Run.{program_of}
use Rattle.gh_outside.specs.Outside.{Appends, AppendsFront}
use Rattle.gh_machine.specs.Prefix.{with_out}
use Rattle.gh_run.proofs.Appended.{appends_then, appends_none, front_joined}
use Rattle.gh_run.proofs.Prefixes.{before, reductions_before, reductions_more, reductions_over}

-- after so many reductions from a state, these bytes were put away, and another state is left
abbrev pub Stands : Program → State → State → ℕ → List ℕ → Type 0
Stands p from now made printed = reductions p made from ≡ before printed now

pub begun : (p : Program) (s : State) → Stands p s s 0 []
unfolding reductions
begun p s = refl

before_twice : (a b : List ℕ) (s : State) → before a (before b s) ≡ before (a ++ b) s
before_twice a b s = ap (λ o. record { focus = s.focus; stack = s.stack; out = o; status = s.status }) (sym (append_assoc a b s.out))

module _ (p : Program) (from now : State) (made : ℕ) (printed : List ℕ) (is : Stands p from now made printed) where
  pub went : (k : ℕ) (after cleared : State) → after ≡ reductions p k now → after ≡ before after.out cleared → Stands p from cleared (made + k) (printed ++ after.out)
  went k after cleared e f =
      reductions_more p made k from ∙ ap (reductions p k) is ∙ reductions_before printed p k now ∙ ap (before printed) (sym e ∙ f) ∙ before_twice printed after.out cleared

  pub printed_is : now.out ≡ [] → (reductions p made from).out ≡ printed
  printed_is e = ap (λ s. s.out) is ∙ ap (λ o. printed ++ o) e ∙ append-nil printed

  pub status_is : (reductions p made from).status ≡ now.status
  status_is = ap (λ s. s.status) is

  later : (n : ℕ) → made ≤ n → reductions p n from ≡ before printed (reductions p (n - made) now)
  later n h =
      let same : n ≡ made + (n - made) = omega (arith, h) in
      ap (λ k. reductions p k from) same ∙ reductions_more p made (n - made) from ∙ ap (reductions p (n - made)) is ∙ reductions_before printed p (n - made) now

  pub stays_over : (now.status ≡ running → ⊥) → (n : ℕ) → made ≤ n → Stands p from now n printed
  stays_over over n h = later n h ∙ ap (before printed) (reductions_over p (n - made) now over)

  pub printed_first : (n : ℕ) → made ≤ n → (rest : List ℕ) × ((reductions p n from).out ≡ printed ++ rest)
  printed_first n h = ((reductions p (n - made) now).out, ap (λ s. s.out) (later n h))

-- what was put so far, and a part of the next piece, is a front of what is printed in the end
pub front_put : (p : Program) (from now : State) (made : ℕ) (printed : List ℕ) → Stands p from now made printed → (k : ℕ) (after cleared : State) → after ≡ reductions p k now
    → after ≡ before after.out cleared → (n : ℕ) → made + k ≤ n → (a b c : Option (List ℕ)) → Appends a printed b → AppendsFront b after.out c → AppendsFront a (reductions p n from).out c
front_put p from now made printed is k after cleared e f n h a b c g j =
    let w : Stands p from cleared (made + k) (printed ++ after.out) = went p from now made printed is k after cleared e f in
    let r : (rest : List ℕ) × ((reductions p n from).out ≡ (printed ++ after.out) ++ rest) = printed_first p from cleared (made + k) (printed ++ after.out) w n h in
    front_joined a b c (reductions p n from).out printed after.out r.0 (r.1 ∙ append_assoc printed after.out r.0) g j

-- a run of which so many reductions are made, all that they printed was put, and nothing is kept back
pub record IsMade (p : Program) (from now : State) (made : ℕ) (a b : Option (List ℕ)) : Type 0 where
  pub printed : List ℕ
  pub stands : Stands p from now made printed
  pub put : Appends a printed b
  pub clear : now.out ≡ []

pub made_none : (p : Program) (s : State) (a : Option (List ℕ)) → s.out ≡ [] → IsMade p s s 0 a a
made_none p s a e = record { printed = []; stands = begun p s; put = appends_none a; clear = e }

cleared_is : (s : State) → s ≡ before s.out (with_out [] s)
cleared_is s = ap (λ o. record { focus = s.focus; stack = s.stack; out = o; status = s.status }) (sym (append-nil s.out))

module _ (p : Program) (from now : State) (made : ℕ) (a b : Option (List ℕ)) (m : IsMade p from now made a b) where
  pub made_more : (k n : ℕ) (new : State) (c : Option (List ℕ)) → n ≡ made + k → new ≡ with_out [] (reductions p k now) → Appends b (reductions p k now).out c → IsMade p from new n a c
  made_more k n new c sum e g =
      let after : State = reductions p k now in
      let w : Stands p from (with_out [] after) (made + k) (m.printed ++ after.out) = went p from now made m.printed m.stands k after (with_out [] after) refl (cleared_is after) in
      let P : ℕ → Type 0 = λ i. Stands p from new i (m.printed ++ after.out) in
      let Q : State → Type 0 = λ s. Stands p from s (made + k) (m.printed ++ after.out) in
      record {
        printed = m.printed ++ after.out;
        stands = subst P (sym sum) (subst Q (sym e) w);
        put = appends_then a b c m.printed after.out m.put g;
        clear = ap (λ s. s.out) e;
      }

  pub made_out : Appends a (reductions p made from).out b
  made_out = rw (printed_is p from now made m.printed m.stands m.clear) m.put

  pub made_status : (reductions p made from).status ≡ now.status
  made_status = status_is p from now made m.printed m.stands

  pub made_over : (now.status ≡ running → ⊥) → (n : ℕ) → made ≤ n → IsMade p from now n a b
  made_over over n h = record { printed = m.printed; stands = stays_over p from now made m.printed m.stands over n h; put = m.put; clear = m.clear }

  pub made_front : (k n : ℕ) (c : Option (List ℕ)) → made + k ≤ n → AppendsFront b (reductions p k now).out c → AppendsFront a (reductions p n from).out c
  made_front k n c h g =
      let after : State = reductions p k now in
      front_put p from now made m.printed m.stands k after (with_out [] after) refl (cleared_is after) n h a b c m.put g

-- a piece of a run of so many reductions, of which some are left
module _ (e f : Erased) (same : f ≡ e) (from now : State) (steps left count : ℕ) (within : left ≤ steps) (few : count ≤ left) (a b c : Option (List ℕ))
    (m : IsMade (program_of e) from now (steps - left) a b) where
  pub piece_made : (new : State) → new ≡ with_out [] (reductions (program_of f) count now) → Appends b (reductions (program_of f) count now).out c
      → IsMade (program_of e) from new (steps - (left - count)) a c
  piece_made new is put =
      let P : Erased → Type 0 = λ x. new ≡ with_out [] (reductions (program_of x) count now) in
      let Q : Erased → Type 0 = λ x. Appends b (reductions (program_of x) count now).out c in
      made_more (program_of e) from now (steps - left) a b m count (steps - (left - count)) new c (omega (arith, within, few)) (subst P same is) (subst Q same put)

  pub piece_front : AppendsFront b (reductions (program_of f) count now).out c → AppendsFront a (reductions (program_of e) steps from).out c
  piece_front put =
      let Q : Erased → Type 0 = λ x. AppendsFront b (reductions (program_of x) count now).out c in
      made_front (program_of e) from now (steps - left) a b m count steps c (omega (arith, within, few)) (subst Q same put)

-- a run that is over within its reductions
module _ (e : Erased) (from now : State) (made steps : ℕ) (a b : Option (List ℕ)) (m : IsMade (program_of e) from now made a b) (r : Status) (over : r ≡ running → ⊥) (is : r ≡ now.status)
    (within : made ≤ steps) where
  stays : IsMade (program_of e) from now steps a b
  stays = made_over (program_of e) from now made a b m (λ h. over (is ∙ h)) steps within

  pub over_status : (reductions (program_of e) steps from).status ≡ r
  over_status = made_status (program_of e) from now steps a b stays ∙ sym is

  pub over_put : Appends a (reductions (program_of e) steps from).out b
  over_put = made_out (program_of e) from now steps a b stays

pub ended_over : ended ≡ running → ⊥
ended_over h = cc

pub failed_over : (cause : Cause) (place : Span) → failed cause place ≡ running → ⊥
failed_over cause place h = cc
