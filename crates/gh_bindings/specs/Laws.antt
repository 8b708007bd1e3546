-- Laws on the meaning of bindings and their core.
use Rattle.std.specs.Prelude.{ℕ, List, ◌≤◌}
use Rattle.gh_core.specs.Erase.{erased_program}
use Rattle.gh_core.specs.Reduce.{Status, running, ended, failed}
use Rattle.gh_core.specs.Run.{core_main}
use Rattle.gh_bindings.specs.declared.binding.Binding.{Binding}
use Rattle.gh_bindings.specs.Core.{core_program}
use Rattle.gh_keeps.specs.Keeps.{Keeps, Reaches}
use Rattle.gh_bindings.specs.Meaning.{meaning}

-- the core of every program of bindings keeps its meaning within this factor, whether names are bound once, several times or not at all
abbrev pub CoreKeepsMeaning : ℕ → Type 0
CoreKeepsMeaning factor = (bs : List Binding) → Keeps factor (meaning bs) (core_main (erased_program (core_program bs)))

-- what was printed stays printed, and a run that is over stays so
abbrev pub CoreGoesOn : Type 0
CoreGoesOn = (bs : List Binding) (m n : ℕ) → m ≤ n → Reaches (core_main (erased_program (core_program bs)) m) (core_main (erased_program (core_program bs)) n)

abbrev pub HasNotFailed : Status → Type 0
HasNotFailed running = Unit {0}
HasNotFailed ended = Unit {0}
HasNotFailed (failed cause place) = ⊥

-- neither the meaning nor the core fails, after any number of steps or reductions
abbrev pub NoneFails : Type 0
NoneFails = (bs : List Binding) (n : ℕ) → HasNotFailed (meaning bs n).status × HasNotFailed (core_main (erased_program (core_program bs)) n).status
