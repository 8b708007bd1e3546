-- The law that the core keeps the meaning.
use Rattle.std.specs.Prelude.{List}
use Rattle.gh_bindings.specs.declared.binding.Binding.{Binding}
use Rattle.gh_keeps.specs.Keeps.{Keeps}
use Rattle.gh_bindings.specs.Meaning.{meaning}
use Rattle.gh_run.specs.Core.{core_seen}

-- the core of a program keeps what `main` means, within 1,000 * (n + 1) reductions for n steps
abbrev pub KeepsMeaning : List Binding → Type 0
KeepsMeaning bs = Keeps 1000 (meaning bs) (core_seen bs)

-- so does the core of every program
abbrev pub CoreKeepsMeaning : Type 0
CoreKeepsMeaning = (bs : List Binding) → KeepsMeaning bs
