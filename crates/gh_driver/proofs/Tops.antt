-- The answers of the top call, outcome by outcome.
use Rattle.std.proofs.Common.{◌≡◌, ℕ, arith, IsTrue, List, [], take, Option, Some, ◌⊎◌, refl, sym, ap, inl, inr, subst}
use Rattle.gh_base.specs.declared.Refusal.{Refusal}
use Rattle.gh_outside.specs.Outside.{Rose, Reads, Appends, AppendsFront}
use Rattle.gh_driver.specs.declared.status.Status.{Status}
use Rattle.gh_driver.specs.declared.status.Status.TheVariants as status
use Rattle.gh_bindings.specs.declared.binding.Binding.{Binding}
use Rattle.gh_core.specs.Reduce as Run
use Rattle.gh_run.specs.Core.{core_seen}
use Rattle.gh_lines.specs.Lines.{Table, write_line, memory_line}
use Rattle.gh_lines.specs.declared.source.Source.{Source}
use Rattle.gh_driver.specs.declared.top.Mode.{Mode}
use Rattle.gh_check.specs.Check.{checked_of}
use Rattle.gh_check.specs.declared.phases.Checked.{Checked}
use Rattle.gh_check.specs.declared.phases.Checked.TheVariants as checked
use Rattle.gh_driver.specs.declared.top.Mode.TheVariants as mode
use Rattle.gh_driver.specs.Top.{StatusNamed, IsUnrefused, Answer, Answers, Outputs, Tried, TurnSaid, ran_to, ran, done, file_of, refused_by, checked_answer, answer_of, Gives, Kept, Shelves, IsQuiet, IsFile, NoRoom, Does, Task, Asked, Told, IsComplete}
use Rattle.gh_run.proofs.Appended.{whole_front, appends_none}
use Rattle.gh_run.proofs.Keeping.{core_keeps_meaning}

-- an answer that is known by an equation
at_answer : (a b : Answer) (s : Status) (o : Outputs) → a ≡ b → Answers b s o → Answers a s o
at_answer a b s o e h = let P : Answer → Type 0 = λ x. Answers x s o in subst P (sym e) h

-- the answer to a run that stands so
ran_is : (files : List Source) (bs : List Binding) (n : ℕ) (r : Run.Status) → (core_seen bs n).status ≡ r → ran files bs n ≡ ran_to files (core_seen bs n).out r
unfolding ran
ran_is files bs n r f = ap (ran_to files (core_seen bs n).out) f

run_unwritten : (files : List Source) (out : List ℕ) (s : Status) (o : Outputs) (r : Run.Status) → s ≡ status.WriteFault → AppendsFront o.out_old out o.out_new
    → Rose o.out_faults_old o.out_faults_new → Tried write_line o.err_old o.err_new o.err_faults_old o.err_faults_new → Answers (ran_to files out r) s o
run_unwritten files out s o Run.running e front rose tried = inr (inl (record { status_is = e; is_run = tt; out_is = front; rose = rose; err_is = tried }))
run_unwritten files out s o Run.ended e front rose tried = inr (inl (record { status_is = e; is_run = tt; out_is = front; rose = rose; err_is = tried }))
run_unwritten files out s o (Run.failed why place) e front rose tried = inr (inl (record { status_is = e; is_run = tt; out_is = front; rose = rose; err_is = tried }))

run_unmade : (files : List Source) (out : List ℕ) (s : Status) (o : Outputs) (r : Run.Status) → s ≡ status.NoMemory → AppendsFront o.out_old out o.out_new
    → Tried memory_line o.err_old o.err_new o.err_faults_old o.err_faults_new → Answers (ran_to files out r) s o
run_unmade files out s o Run.running e front tried = inr (inr (inr (record { status_is = e; out_is = front; out_kept = tt; err_is = tried })))
run_unmade files out s o Run.ended e front tried = inr (inr (inr (record { status_is = e; out_is = front; out_kept = tt; err_is = tried })))
run_unmade files out s o (Run.failed why place) e front tried = inr (inr (inr (record { status_is = e; out_is = front; out_kept = tt; err_is = tried })))

turn_answered : (files : List Source) (out : List ℕ) (s : Status) (o : Outputs) (r : Run.Status) → Appends o.out_old out o.out_new
    → TurnSaid files r s o.err_old o.err_new o.err_faults_old o.err_faults_new → Answers (ran_to files out r) s o
turn_answered files out s o Run.running put (inl h) = inl (record { status_is = h.0; out_is = put; out_kept = tt; err_is = h.1; err_kept = h.2 })
turn_answered files out s o Run.running put (inr h) = inr (inr (inl (record { status_is = h.0; has_line = h.1; out_is = put; out_kept = tt; err_is = h.2 })))
turn_answered files out s o Run.ended put (inl h) = inl (record { status_is = h.0; out_is = put; out_kept = tt; err_is = h.1; err_kept = h.2 })
turn_answered files out s o Run.ended put (inr h) = absurd h.1
turn_answered files out s o (Run.failed why place) put (inl h) = inl (record { status_is = h.0; out_is = put; out_kept = tt; err_is = h.1; err_kept = h.2 })
turn_answered files out s o (Run.failed why place) put (inr h) = inr (inr (inl (record { status_is = h.0; has_line = h.1; out_is = put; out_kept = tt; err_is = h.2 })))

module _ (files : List Source) (bs : List Binding) (n : ℕ) (s : Status) (o : Outputs) where
  at_run : (r : Run.Status) → (core_seen bs n).status ≡ r → Answers (ran_to files (core_seen bs n).out r) s o → Answers (ran files bs n) s o
  at_run r f h = at_answer (ran files bs n) (ran_to files (core_seen bs n).out r) s o (ran_is files bs n r f) h

  -- a run came to its end, or to the end of the budget, and said so
  pub ran_said : (r : Run.Status) → (core_seen bs n).status ≡ r → Appends o.out_old (core_seen bs n).out o.out_new
      → TurnSaid files r s o.err_old o.err_new o.err_faults_old o.err_faults_new → Answers (ran files bs n) s o
  ran_said r f put said = at_run r f (turn_answered files (core_seen bs n).out s o r put said)

  -- what it printed could not be put
  pub ran_unwritten : s ≡ status.WriteFault → AppendsFront o.out_old (core_seen bs n).out o.out_new → Rose o.out_faults_old o.out_faults_new
      → Tried write_line o.err_old o.err_new o.err_faults_old o.err_faults_new → Answers (ran files bs n) s o
  ran_unwritten e front rose tried =
      at_run (core_seen bs n).status refl (run_unwritten files (core_seen bs n).out s o (core_seen bs n).status e front rose tried)

  -- there was not memory enough
  pub ran_out_of_memory : s ≡ status.NoMemory → AppendsFront o.out_old (core_seen bs n).out o.out_new
      → Tried memory_line o.err_old o.err_new o.err_faults_old o.err_faults_new → Answers (ran files bs n) s o
  ran_out_of_memory e front tried = at_run (core_seen bs n).status refl (run_unmade files (core_seen bs n).out s o (core_seen bs n).status e front tried)

pub nothing_added : (a : Option (List ℕ)) → Appends a [] a
nothing_added a = appends_none a

pub no_front : (a : Option (List ℕ)) → AppendsFront a [] a
no_front a = whole_front a a [] (appends_none a)

pub answer_refused : (table : Table) (m : Mode) (file bytes : List ℕ) (r : Refusal) (s : Status) (o : Outputs) → checked.Refused r ≡ checked_of table bytes
    → Answers (refused_by table (file_of file bytes) r) s o → Answers (answer_of table m file bytes) s o
unfolding answer_of
answer_refused table m file bytes r s o e h =
    at_answer (answer_of table m file bytes) (checked_answer table (file_of file bytes) m (checked.Refused r)) s o (ap (checked_answer table (file_of file bytes) m) (sym e)) h

pub answer_done : (table : Table) (m : Mode) (file bytes : List ℕ) (bs : List Binding) (s : Status) (o : Outputs) → checked.Program bs ≡ checked_of table bytes
    → Answers (done (file_of file bytes) m bs) s o → Answers (answer_of table m file bytes) s o
unfolding answer_of
answer_done table m file bytes bs s o e h =
    at_answer (answer_of table m file bytes) (checked_answer table (file_of file bytes) m (checked.Program bs)) s o (ap (checked_answer table (file_of file bytes) m) (sym e)) h

-- where no count rises, an answer that is given or not written is given
given : (a : Answer) (s : Status) (o : Outputs) → (Rose o.out_faults_old o.out_faults_new → ⊥) → (Rose o.err_faults_old o.err_faults_new → ⊥) → Answers a s o
    → (s ≡ status.NoMemory) ⊎ Gives a s o
given a s o out err (inl g) = inr g
given a s o out err (inr (inl f)) = absurd (out f.rose)
given a s o out err (inr (inr (inl f))) =
    let h : Rose o.err_faults_old o.err_faults_new = omega (arith, f.err_is.rose, f.err_is.tried.later) in
    absurd (err h)
given a s o out err (inr (inr (inr m))) = inl m.status_is

given_task : (table : Table) (m : Mode) (file : List ℕ) (shelf : Shelves) (s : Status) (o : Outputs) → IsTrue shelf.tells → IsQuiet file shelf o → Does table m file shelf s o
    → (s ≡ status.NoMemory) ⊎ ((whole : List ℕ) × (shelf.held file ≡ Some whole) × Gives (answer_of table m file (take 1048577 whole)) s o)
given_task table m file shelf s o tells quiet (inl u) = absurd (quiet.reading u.0)
given_task table m file shelf s o tells quiet (inr r) = of_read (r.1 tells)
  where
    joined : (whole : List ℕ) → shelf.held file ≡ Some whole → (s ≡ status.NoMemory) ⊎ Gives (answer_of table m file (take 1048577 whole)) s o
        → (s ≡ status.NoMemory) ⊎ ((w : List ℕ) × (shelf.held file ≡ Some w) × Gives (answer_of table m file (take 1048577 w)) s o)
    joined whole held (inl memory) = inl memory
    joined whole held (inr g) = inr (whole, held, g)

    of_read : Reads (shelf.held file) 1048577 r.0 → (s ≡ status.NoMemory) ⊎ ((whole : List ℕ) × (shelf.held file ≡ Some whole) × Gives (answer_of table m file (take 1048577 whole)) s o)
    of_read reads =
        let P : List ℕ → Type 0 = λ b. Answers (answer_of table m file b) s o in
        joined reads.0 reads.1 (given (answer_of table m file (take 1048577 reads.0)) s o quiet.out quiet.err (subst P reads.2 r.2))

pub complete : (words : List (List ℕ)) (table : Table) (shelf : Shelves) (s : Status) (o : Outputs) → Told words table shelf s o → IsComplete words table shelf s o
complete words table shelf s o (inl memory) m file is tells quiet = inl memory.status_is
complete words table shelf s o (inr asked) m file is tells quiet =
    let P : Option Task → Type 0 = λ t. Asked table t shelf s o in
    given_task table m file shelf s o tells quiet (subst P is asked)

-- a status that is no refusal has no ids
pub unrefused_named : (table : Table) (s : Status) → IsUnrefused s → StatusNamed table s
unrefused_named table (status.Refused r) h = absurd h
unrefused_named table status.Accepted h = tt
unrefused_named table status.Ended h = tt
unrefused_named table status.Usage h = tt
unrefused_named table status.OutOfSteps h = tt
unrefused_named table (status.MainFailed stop) h = tt
unrefused_named table (status.ReadFault i) h = tt
unrefused_named table status.WriteFault h = tt
unrefused_named table status.NoMemory h = tt

pub memory_named : (table : Table) (s : Status) → s ≡ status.NoMemory → StatusNamed table s
memory_named table s e = subst (StatusNamed table) (sym e) tt

pub memory_unrefused : (s : Status) → s ≡ status.NoMemory → IsUnrefused s
memory_unrefused s e = subst IsUnrefused (sym e) tt

-- the core of each program keeps the meaning
kept_so : (m : Mode) (c : Checked) → Kept m c
unfolding Kept
kept_so mode.Check c = tt
kept_so (mode.Run n) (checked.Refused r) = tt
kept_so (mode.Run n) (checked.Program bs) = core_keeps_meaning bs

-- the answer for a file that was read
pub read_does : (table : Table) (m : Mode) (name file bytes : List ℕ) (shelf : Shelves) (s : Status) (o : Outputs) → name ≡ file → IsFile shelf file bytes
    → NoRoom s o ⊎ Answers (answer_of table m name bytes) s o → NoRoom s o ⊎ Does table m file shelf s o
read_does table m name file bytes shelf s o e is (inl none) = inl none
read_does table m name file bytes shelf s o e is (inr told) =
    let P : List ℕ → Type 0 = λ x. Answers (answer_of table m x bytes) s o in
    inr (inr (bytes, is, subst P e told, kept_so m (checked_of table bytes)))
