-- What a shelf in memory holds.
use Rattle.std.specs.Prelude.{ℕ, List, Option}
use Rattle.gh_outside.specs.declared.mem_shelf.MemShelf.{MemShelf}
use Rattle.gh_outside.specs.Shelves.{file_of, times}

-- the file of that name
abbrev pub held_by : MemShelf → List ℕ → Option (List ℕ)
held_by s name = file_of s.files name

-- how often reading under that name has failed
abbrev pub faults_of : MemShelf → List ℕ → ℕ
faults_of s name = times name s.book

-- the numbers of the reading calls that fail
abbrev pub failing_of : MemShelf → List ℕ
failing_of s = s.failing

-- how many calls of reading there were
abbrev pub calls_of : MemShelf → ℕ
calls_of s = s.calls

-- the names that were asked for, in their order
abbrev pub asked_of : MemShelf → List (List ℕ)
asked_of s = s.asked
