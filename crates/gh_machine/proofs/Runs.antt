-- One reduction after another.
use Rattle.std.proofs.Common.{◌≡◌, ℕ, zero, suc, ◌+◌, ◌-◌, ◌*◌, ◌≤◌, length, refl, sym, ap, ◌∙◌, arith, add-one}
use Rattle.gh_core.specs.Reduce.{State, Program, Status, running, ended, failed, reduce, reduce_in, reductions}
use Rattle.gh_core.specs.Primitives.{Cause}
use Rattle.gh_base.specs.declared.place.Span.{Span}
use Rattle.gh_core.specs.Run.{program_of}
use Rattle.gh_core.specs.Bindings.{names_bound, names_bound_in}
use Rattle.gh_machine.specs.Sound.{IsHeld, HasRoom, Leads, state_of, program_in}
use Rattle.gh_machine.specs.Unload.{envs_of}
use Rattle.gh_machine.specs.Grown.{Grows}
use Rattle.gh_machine.specs.declared.parts.Parts.{Parts}
use Rattle.gh_machine.proofs.Stacks.{length-stack_in}

-- after so many reductions
pub record IsRun (n : ℕ) (start now : Parts) : Type 0 where
  pub held : IsHeld now
  pub state : state_of now ≡ reductions (program_in start) n (state_of start)
  pub program : now.program ≡ start.program
  pub room : (m : ℕ) → HasRoom (n + m) start → HasRoom m now
  pub grows : Grows n start now
  pub names : length now.cells.items ≤ length start.cells.items + names_bound_in (program_in start) n (state_of start)

pub less_room : (n m : ℕ) (p : Parts) → m ≤ n → HasRoom n p → HasRoom m p
less_room n m p le h = record { cells = let a = h.cells in omega arith; few = let a = h.few in omega arith; near = let a = h.near in omega arith; stack = let a = h.stack in omega arith; pending = let a = h.pending in omega arith }

grown_next : (n : ℕ) {k : ℕ} {s : State} (start now next : Parts) → Grows n start now → Leads k now next s → Grows (n + 1) start next
grown_next n start now next g l = record {
  cells = let a = g.cells in let b = l.total in omega (arith, now.cells.ok.0, now.stack.ok.0, next.cells.ok.0, next.stack.ok.0);
  stack = let a = g.stack in let b = l.stack in omega (arith, now.stack.ok.0, next.stack.ok.0);
  pending = let a = g.pending in let b = l.pending in omega (arith, now.pending.ok.0, next.pending.ok.0);
}

pub grown_less : (n k : ℕ) (start now : Parts) → n ≤ k → Grows n start now → Grows k start now
grown_less n k start now le g = record { cells = let a = g.cells in omega arith; stack = let a = g.stack in omega arith; pending = let a = g.pending in omega arith }

pub run_none : (p : Parts) → IsHeld p → IsRun 0 p p
unfolding reductions names_bound_in
run_none p s = record { held = s; names = omega arith; state = refl; program = refl; room = λ m h. less_room (0 + m) m p (omega arith) h; grows = record { cells = omega arith; stack = omega arith; pending = omega arith } }

pub reductions_more : (p : Program) (n : ℕ) (s : State) → reductions p (suc n) s ≡ reduce p (reductions p n s)
unfolding reductions
reductions_more p zero s = refl
reductions_more p (suc n) s = reductions_more p n (reduce p s)

-- so many, and then so many more
pub reductions_add : (p : Program) (m n : ℕ) (s : State) → reductions p n (reductions p m s) ≡ reductions p (m + n) s
unfolding reductions
reductions_add p zero n s = let e : n ≡ zero + n = omega arith in ap (λ k. reductions p k s) e
reductions_add p (suc m) n s =
    let e : suc (m + n) ≡ suc m + n = omega arith in
    reductions_add p m n (reduce p s) ∙ ap (λ k. reductions p k s) e

pub reductions_zero : (p : Program) (s : State) → reductions p 0 s ≡ s
unfolding reductions
reductions_zero p s = refl

names_more : (p : Program) (n : ℕ) (s : State) → names_bound_in p (suc n) s ≡ names_bound_in p n s + names_bound p (reductions p n s)
unfolding reductions names_bound_in
names_more p zero s = omega arith
names_more p (suc n) s = omega (arith, names_more p n (reduce p s))

-- so many names, and those of so many reductions more
pub names_add : (p : Program) (m n : ℕ) (s : State) → names_bound_in p (m + n) s ≡ names_bound_in p m s + names_bound_in p n (reductions p m s)
unfolding reductions names_bound_in
names_add p zero n s = let e : zero + n ≡ n = omega arith in ap (λ k. names_bound_in p k s) e ∙ (let z : names_bound_in p n s ≡ 0 + names_bound_in p n s = omega arith in z)
names_add p (suc m) n s =
    let e : suc m + n ≡ suc (m + n) = omega arith in
    let all : names_bound_in p (suc m + n) s ≡ names_bound p s + names_bound_in p (m + n) (reduce p s) = ap (λ k. names_bound_in p k s) e in
    omega (arith, all, names_add p m n (reduce p s))

pub names_rise : (p : Program) (n k : ℕ) (s : State) → n ≤ k → names_bound_in p n s ≤ names_bound_in p k s
unfolding names_bound_in
names_rise p zero k s le = omega arith
names_rise p (suc n) zero s le = absurd (omega arith)
names_rise p (suc n) (suc k) s le = omega (arith, names_rise p n k (reduce p s) (omega arith))

-- what is bound by so many reductions is bound by more
pub names_less : (n k : ℕ) (start now : Parts) → n ≤ k → IsRun n start now → length now.cells.items ≤ length start.cells.items + names_bound_in (program_in start) k (state_of start)
names_less n k start now le r = let a = r.names in omega (arith, names_rise (program_in start) n k (state_of start) le)

pub run_more : (n : ℕ) (start now next : Parts) → IsRun n start now → Leads (names_bound (program_in now) (state_of now)) now next (reduce (program_in now) (state_of now)) → IsRun (n + 1) start next
run_more n start now next r l = record {
  held = l.held;
  state = l.state ∙ (λ i. reduce (program_of (r.program i)) (r.state i)) ∙ sym (reductions_more (program_in start) n (state_of start)) ∙ ap (λ k. reductions (program_in start) k (state_of start)) (sym (add-one n));
  program = l.program ∙ r.program;
  room = λ m h. let k = r.room (suc m) (less_room (n + 1 + m) (n + suc m) start (omega arith) h) in record {
    cells = let a = k.cells in let b = l.total in let d = l.cells_capacity in omega arith;
    few = let a = k.few in let b = l.total in omega arith;
    near = let a = k.near in let b = l.near in omega arith;
    stack = let a = k.stack in let b = l.stack in let d = l.stack_capacity in omega arith;
    pending = let a = k.pending in let b = l.pending in let d = l.pending_capacity in omega arith;
  };
  grows = grown_next n start now next r.grows l;
  names =
      let here : names_bound (program_in now) (state_of now) ≡ names_bound (program_in start) (reductions (program_in start) n (state_of start)) = λ i. names_bound (program_of (r.program i)) (r.state i) in
      let all = names_more (program_in start) n (state_of start) ∙ ap (λ k. names_bound_in (program_in start) n (state_of start) + k) (sym here) in
      let next_one = ap (λ k. names_bound_in (program_in start) k (state_of start)) (add-one n) in
      let a = r.names in
      let b = l.cells in
      omega (arith, all, next_one, a, b, now.cells.ok.0, next.cells.ok.0);
}

-- a run that has ended or failed stays
pub stays_ended : (p : Program) (n : ℕ) (s : State) → s.status ≡ ended → reductions p n s ≡ s
unfolding reductions
stays_ended p zero s e = refl
stays_ended p (suc n) s e = ap (reductions p n) (reduced p s.status s e) ∙ stays_ended p n s e
  where
    reduced : (p : Program) (status : Status) (s : State) → status ≡ ended → reduce_in p status s ≡ s
    reduced p ended s e = refl
    reduced p running s e = absurd (let no : ⊥ = cc in no)
    reduced p (failed cause place) s e = refl

pub stays_failed : (p : Program) (n : ℕ) (s : State) (cause : Cause) (place : Span) → s.status ≡ failed cause place → reductions p n s ≡ s
unfolding reductions
stays_failed p zero s cause place e = refl
stays_failed p (suc n) s cause place e = ap (reductions p n) (reduced p s.status s cause place e) ∙ stays_failed p n s cause place e
  where
    reduced : (p : Program) (status : Status) (s : State) (cause : Cause) (place : Span) → status ≡ failed cause place → reduce_in p status s ≡ s
    reduced p ended s cause place e = refl
    reduced p running s cause place e = absurd (let no : ⊥ = cc in no)
    reduced p (failed c q) s cause place e = refl

-- the run is over before all reductions are made
pub run_over : (n k : ℕ) (start now : Parts) → IsRun n start now → n ≤ k → ((m : ℕ) → reductions (program_in start) m (state_of now) ≡ state_of now) → state_of now ≡ reductions (program_in start) k (state_of start)
run_over n k start now r le stay =
    let e : n + (k - n) ≡ k = omega arith in
    sym (ap (λ j. reductions (program_in start) j (state_of start)) (sym e) ∙ sym (reductions_add (program_in start) n (k - n) (state_of start))
    ∙ ap (reductions (program_in start) (k - n)) (sym r.state) ∙ stay (k - n))

-- what a run adds, by the state
pub grown_state : (n : ℕ) (old new : Parts) → Grows n old new → (length new.cells.items + length (state_of new).stack ≤ length old.cells.items + length (state_of old).stack + 2 * n) × (length (state_of new).stack ≤ length (state_of old).stack + n)
grown_state n old new g =
    let a = length-stack_in (envs_of old.cells.items) old.stack.items in
    let b = length-stack_in (envs_of new.cells.items) new.stack.items in
    let d = g.cells in
    let e = g.stack in
    (omega arith, omega arith)
