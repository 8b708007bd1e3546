-- What the top call says of its words, the shelf and the outputs, by its status.
use Rattle.std.specs.Prelude.{◌≡◌, ◌≢◌, ◌≤◌, ℕ, Bool, IsTrue, List, [], ◌∷◌, take, Option, Some, None, ◌⊎◌}
use Rattle.gh_base.specs.declared.Refusal.{Refusal}
use Rattle.gh_outside.specs.Outside.{Rose, Reads, Appends, AppendsFront, Asks}
use Rattle.gh_check.specs.declared.phases.Checked.{Checked}
use Rattle.gh_check.specs.declared.phases.Checked.TheVariants as checked
use Rattle.gh_bindings.specs.declared.binding.Binding.{Binding}
use Rattle.gh_core.specs.Reduce as Run
use Rattle.gh_driver.specs.declared.top.Mode.{Mode}
use Rattle.gh_driver.specs.declared.top.Mode.TheVariants as mode
use Rattle.gh_lines.specs.declared.source.Source.{Source}
use Rattle.gh_driver.specs.declared.status.Status.{Status}
use Rattle.gh_driver.specs.declared.status.Status.TheVariants as status
use Rattle.gh_words.specs.declared.words.Words.{Words}
use Rattle.gh_words.specs.declared.words.Words.TheVariants as meaning
use Rattle.gh_words.specs.Words.{meaning_of, built_of}
use Rattle.gh_lines.specs.Lines.{Table, IsNamed, refusal_line_of, usage_line, steps_line, write_line, memory_line, read_line_of, stopped_line_of}
use Rattle.gh_check.specs.Check.{checked_of}
use Rattle.gh_run.specs.Core.{core_seen, stop_of}
use Rattle.gh_run.specs.Keeping.{KeepsMeaning}

-- the outputs before and after, with their counts of faults
pub record Outputs : Type 0 where
  pub out_old : Option (List ℕ)
  pub out_new : Option (List ℕ)
  pub out_faults_old : ℕ
  pub out_faults_new : ℕ
  pub err_old : Option (List ℕ)
  pub err_new : Option (List ℕ)
  pub err_faults_old : ℕ
  pub err_faults_new : ℕ

-- the shelf before and after, with the names that it was asked for
pub record Shelves : Type 0 where
  pub tells : Bool
  pub held : List ℕ → Option (List ℕ)
  pub faults_old : List ℕ → ℕ
  pub faults_new : List ℕ → ℕ
  pub asked_old : List (List ℕ)
  pub asked_new : List (List ℕ)

-- the answer that is due: a status, the bytes on out and the line on err
pub record Answer : Type 0 where
  pub status : Status
  pub out : List ℕ
  pub err : List ℕ

-- the words have no meaning
abbrev pub misused : Answer
misused = record { status = status.Usage; out = []; err = usage_line }

-- the file could not be read
abbrev pub unread : List ℕ → Answer
unread file = record { status = status.ReadFault 0; out = []; err = read_line_of file }

-- the files are refused
abbrev pub refused_by : Table → List Source → Refusal → Answer
refused_by table files r = record { status = status.Refused r; out = []; err = refusal_line_of table files r }

-- the files are accepted
abbrev pub accepted : Answer
accepted = record { status = status.Accepted; out = []; err = [] }

-- what was printed, and whether the run goes on, has ended, or has failed
abbrev pub ran_to : List Source → List ℕ → Run.Status → Answer
ran_to files out Run.running = record { status = status.OutOfSteps; out = out; err = steps_line }
ran_to files out Run.ended = record { status = status.Ended; out = out; err = [] }
ran_to files out (Run.failed why place) = record { status = status.MainFailed (stop_of why place); out = out; err = stopped_line_of files (stop_of why place) }

-- the core run of `main` within n reductions
unfoldable pub ran : List Source → List Binding → ℕ → Answer
ran files bs n = ran_to files (core_seen bs n).out (core_seen bs n).status

-- what is done with a program
abbrev pub done : List Source → Mode → List Binding → Answer
done files mode.Check bs = accepted
done files (mode.Run n) bs = ran files bs n

abbrev pub checked_answer : Table → List Source → Mode → Checked → Answer
checked_answer table files m (checked.Refused r) = refused_by table files r
checked_answer table files m (checked.Program bs) = done files m bs

abbrev pub file_of : List ℕ → List ℕ → List Source
file_of name bytes = record { name = name; bytes = bytes } ∷ []

-- the answer for a file with these bytes
unfoldable pub answer_of : Table → Mode → List ℕ → List ℕ → Answer
answer_of table m file bytes = checked_answer table (file_of file bytes) m (checked_of table bytes)

-- nothing was put on out, not even an empty piece: a put that fails raises the count
abbrev pub OutKept : Outputs → Type 0
OutKept o = (o.out_new ≡ o.out_old) × (o.out_faults_new ≡ o.out_faults_old)

-- a run puts on out what it prints, and every other answer puts nothing there
abbrev pub OutOf : Status → Outputs → Type 0
OutOf status.Ended o = Unit {0}
OutOf status.OutOfSteps o = Unit {0}
OutOf (status.MainFailed stop) o = Unit {0}
OutOf status.Accepted o = OutKept o
OutOf status.Usage o = OutKept o
OutOf (status.Refused r) o = OutKept o
OutOf (status.ReadFault i) o = OutKept o
OutOf status.WriteFault o = OutKept o
OutOf status.NoMemory o = OutKept o

-- the answer of a run
abbrev pub IsRun : Status → Type 0
IsRun status.Ended = Unit {0}
IsRun status.OutOfSteps = Unit {0}
IsRun (status.MainFailed stop) = Unit {0}
IsRun status.Accepted = ⊥
IsRun status.Usage = ⊥
IsRun (status.Refused r) = ⊥
IsRun (status.ReadFault i) = ⊥
IsRun status.WriteFault = ⊥
IsRun status.NoMemory = ⊥

-- an answer with a line on err
abbrev pub HasLine : Status → Type 0
HasLine status.Usage = Unit {0}
HasLine (status.Refused r) = Unit {0}
HasLine (status.ReadFault i) = Unit {0}
HasLine status.OutOfSteps = Unit {0}
HasLine (status.MainFailed stop) = Unit {0}
HasLine status.Accepted = ⊥
HasLine status.Ended = ⊥
HasLine status.WriteFault = ⊥
HasLine status.NoMemory = ⊥

-- an answer without a line puts nothing on err, not even an empty piece
abbrev pub ErrOf : Status → ℕ → ℕ → Type 0
ErrOf status.Accepted before now = now ≡ before
ErrOf status.Ended before now = now ≡ before
ErrOf status.Usage before now = Unit {0}
ErrOf (status.Refused r) before now = Unit {0}
ErrOf (status.ReadFault i) before now = Unit {0}
ErrOf status.OutOfSteps before now = Unit {0}
ErrOf (status.MainFailed stop) before now = Unit {0}
ErrOf status.WriteFault before now = Unit {0}
ErrOf status.NoMemory before now = Unit {0}

-- a line that is tried once: it is put whole, or a front of it is and the count rose
pub record Tried (line : List ℕ) (old new : Option (List ℕ)) (before now : ℕ) : Type 0 where
  pub put : Appends old line new ⊎ (AppendsFront old line new × Rose before now)
  pub later : before ≤ now

-- a line could not be put: a front of it is on err and the count rose, and behind it the line of a failed write was tried
pub record LineFailed (line : List ℕ) (old new : Option (List ℕ)) (before now : ℕ) : Type 0 where
  pub between : Option (List ℕ)
  pub count : ℕ
  pub front : AppendsFront old line between
  pub rose : Rose before count
  pub tried : Tried write_line between new count now

-- the line that an answer has was put, or was tried
abbrev pub LineSaid : Answer → Status → Option (List ℕ) → Option (List ℕ) → ℕ → ℕ → Type 0
LineSaid a s old new before now =
    ((s ≡ a.status) × Appends old a.err new × ErrOf a.status before now)
    ⊎ ((s ≡ status.WriteFault) × HasLine a.status × LineFailed a.err old new before now)

-- so it was with the line of a run that stands so
abbrev pub TurnSaid : List Source → Run.Status → Status → Option (List ℕ) → Option (List ℕ) → ℕ → ℕ → Type 0
TurnSaid files r s old new before now = LineSaid (ran_to files [] r) s old new before now

-- the answer is given: its status, its bytes and its line, and nothing else
pub record Gives (a : Answer) (s : Status) (o : Outputs) : Type 0 where
  pub status_is : s ≡ a.status
  pub out_is : Appends o.out_old a.out o.out_new
  pub out_kept : OutOf a.status o
  pub err_is : Appends o.err_old a.err o.err_new
  pub err_kept : ErrOf a.status o.err_faults_old o.err_faults_new

-- what a run prints could not be put: a front of it is on out and the count of out rose; on err the line of a failed write was tried
pub record OutFailed (a : Answer) (s : Status) (o : Outputs) : Type 0 where
  pub status_is : s ≡ status.WriteFault
  pub is_run : IsRun a.status
  pub out_is : AppendsFront o.out_old a.out o.out_new
  pub rose : Rose o.out_faults_old o.out_faults_new
  pub err_is : Tried write_line o.err_old o.err_new o.err_faults_old o.err_faults_new

-- the line of the answer could not be put, behind the answer's bytes on out
pub record ErrFailed (a : Answer) (s : Status) (o : Outputs) : Type 0 where
  pub status_is : s ≡ status.WriteFault
  pub has_line : HasLine a.status
  pub out_is : Appends o.out_old a.out o.out_new
  pub out_kept : OutOf a.status o
  pub err_is : LineFailed a.err o.err_old o.err_new o.err_faults_old o.err_faults_new

-- there was not memory enough: a front of the answer's bytes is on out, and on err the line that says so was tried
pub record OutOfMemory (a : Answer) (s : Status) (o : Outputs) : Type 0 where
  pub status_is : s ≡ status.NoMemory
  pub out_is : AppendsFront o.out_old a.out o.out_new
  pub out_kept : OutOf a.status o
  pub err_is : Tried memory_line o.err_old o.err_new o.err_faults_old o.err_faults_new

-- the answer is given, or could not be written, or there was not memory enough
abbrev pub Answers : Answer → Status → Outputs → Type 0
Answers a s o = Gives a s o ⊎ (OutFailed a s o ⊎ (ErrFailed a s o ⊎ OutOfMemory a s o))

-- the bytes of the file, where the shelf tells them
abbrev pub IsFile : Shelves → List ℕ → List ℕ → Type 0
IsFile shelf file bytes = IsTrue shelf.tells → Reads (shelf.held file) 1048577 bytes

-- the file could not be read, and the shelf's count for it rose
abbrev pub Unread : List ℕ → Shelves → Status → Outputs → Type 0
Unread file shelf s o = Rose (shelf.faults_old file) (shelf.faults_new file) × Answers (unread file) s o

-- the core that a run makes of a program keeps what its `main` means
unfoldable pub Kept : Mode → Checked → Type 0
Kept mode.Check c = Unit {0}
Kept (mode.Run n) (checked.Refused r) = Unit {0}
Kept (mode.Run n) (checked.Program bs) = KeepsMeaning bs

-- the file was read, and its answer follows; the core of a run keeps the meaning
abbrev pub IsRead : Table → Mode → List ℕ → Shelves → Status → Outputs → Type 0
IsRead table m file shelf s o = (bytes : List ℕ) × IsFile shelf file bytes × Answers (answer_of table m file bytes) s o × Kept m (checked_of table bytes)

abbrev pub Does : Table → Mode → List ℕ → Shelves → Status → Outputs → Type 0
Does table m file shelf s o = Unread file shelf s o ⊎ IsRead table m file shelf s o

-- what the words ask for: something to do with one file
pub record Task : Type 0 where
  pub mode : Mode
  pub file : List ℕ

abbrev pub task : Mode → List ℕ → Task
task m file = record { mode = m; file = file }

abbrev pub task_of : Option Words → Option Task
task_of None = None
task_of (Some (meaning.Run n [])) = None
task_of (Some (meaning.Run n (file ∷ []))) = Some (task (mode.Run n) file)
task_of (Some (meaning.Run n (file ∷ more ∷ rest))) = None
task_of (Some (meaning.Check [])) = None
task_of (Some (meaning.Check (file ∷ []))) = Some (task mode.Check file)
task_of (Some (meaning.Check (file ∷ more ∷ rest))) = None
task_of (Some (meaning.Core files)) = None
task_of (Some (meaning.Sample k)) = None

-- what follows from the meaning of the words
abbrev pub Asked : Table → Option Task → Shelves → Status → Outputs → Type 0
Asked table None shelf s o = Answers misused s o
Asked table (Some t) shelf s o = Does table t.mode t.file shelf s o

-- there was not memory enough before an answer was known: nothing was put on out, and on err the line that says so was tried
pub record NoRoom (s : Status) (o : Outputs) : Type 0 where
  pub status_is : s ≡ status.NoMemory
  pub out_kept : OutKept o
  pub err_is : Tried memory_line o.err_old o.err_new o.err_faults_old o.err_faults_new

-- the clause of the top call
abbrev pub Told : List (List ℕ) → Table → Shelves → Status → Outputs → Type 0
Told words table shelf s o = NoRoom s o ⊎ Asked table (task_of (built_of (meaning_of words))) shelf s o

-- the one file that the words give is asked for, and no other; it is left out only without memory
abbrev pub AsksFor : Option Task → Shelves → Status → Type 0
AsksFor None shelf s = shelf.asked_new ≡ shelf.asked_old
AsksFor (Some t) shelf s = Asks shelf.asked_old t.file (s ≡ status.NoMemory) shelf.asked_new

-- a name that the words do not give
abbrev pub IsOther : Option Task → List ℕ → Type 0
IsOther None n = Unit {0}
IsOther (Some t) n = n ≢ t.file

-- only the files that the words give are read, and no count of another name rises
pub record ReadsOnly (words : List (List ℕ)) (shelf : Shelves) (s : Status) : Type 0 where
  pub asked : AsksFor (task_of (built_of (meaning_of words))) shelf s
  pub others : (n : List ℕ) → IsOther (task_of (built_of (meaning_of words))) n → shelf.faults_new n ≡ shelf.faults_old n

-- no count rose in the call
pub record IsQuiet (file : List ℕ) (shelf : Shelves) (o : Outputs) : Type 0 where
  pub reading : Rose (shelf.faults_old file) (shelf.faults_new file) → ⊥
  pub out : Rose o.out_faults_old o.out_faults_new → ⊥
  pub err : Rose o.err_faults_old o.err_faults_new → ⊥

-- where the shelf tells what it holds and no count rises, the one answer is given, or there was not memory enough
abbrev pub IsComplete : List (List ℕ) → Table → Shelves → Status → Outputs → Type 0
IsComplete words table shelf s o =
    (m : Mode) (file : List ℕ) → task_of (built_of (meaning_of words)) ≡ Some (task m file) → IsTrue shelf.tells → IsQuiet file shelf o
    → (s ≡ status.NoMemory) ⊎ ((whole : List ℕ) × (shelf.held file ≡ Some whole) × Gives (answer_of table m file (take 1048577 whole)) s o)

-- the ids of a refusal are of the table
abbrev pub StatusNamed : Table → Status → Type 0
StatusNamed table (status.Refused r) = IsNamed table r
StatusNamed table status.Accepted = Unit {0}
StatusNamed table status.Ended = Unit {0}
StatusNamed table status.Usage = Unit {0}
StatusNamed table status.OutOfSteps = Unit {0}
StatusNamed table (status.MainFailed stop) = Unit {0}
StatusNamed table (status.ReadFault i) = Unit {0}
StatusNamed table status.WriteFault = Unit {0}
StatusNamed table status.NoMemory = Unit {0}

-- the status is no refusal
abbrev pub IsUnrefused : Status → Type 0
IsUnrefused (status.Refused r) = ⊥
IsUnrefused status.Accepted = Unit {0}
IsUnrefused status.Ended = Unit {0}
IsUnrefused status.Usage = Unit {0}
IsUnrefused status.OutOfSteps = Unit {0}
IsUnrefused (status.MainFailed stop) = Unit {0}
IsUnrefused (status.ReadFault i) = Unit {0}
IsUnrefused status.WriteFault = Unit {0}
IsUnrefused status.NoMemory = Unit {0}
