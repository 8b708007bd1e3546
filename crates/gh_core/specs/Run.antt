-- Runs of core programs.
use Rattle.std.specs.Prelude.{ℕ, List, []}
use Rattle.gh_core.specs.declared.erased.Erased.{Erased}
use Rattle.gh_core.specs.declared.erased.ErasedTerm.{ErasedTerm}
use Rattle.gh_core.specs.Terms.{Term}
use Rattle.gh_core.specs.Reading.{term_of, defs_of}
use Rattle.gh_core.specs.Reduce.{Status, State, Program, demand, reductions}

-- what is seen of a run: the bytes that were printed, and whether it goes on
pub record Seen : Type 0 where
  pub out : List ℕ
  pub status : Status

abbrev pub seen : State → Seen
seen s = record { out = s.out; status = s.status }

abbrev pub program_of : Erased → Program
program_of c = record { newtypes = c.newtypes; defs = defs_of c.defs }

-- a term, before any reduction, where nothing was printed
abbrev pub start : Term → State
start t = demand t [] []

-- a term in a program after n reductions
abbrev pub core_run : Erased → ErasedTerm → ℕ → Seen
core_run c t n = seen (reductions (program_of c) n (start (term_of t)))

-- the program's main after n reductions
abbrev pub core_main : Erased → ℕ → Seen
core_main c n = core_run c c.main n
