-- The core of a program, and its runs.
use Rattle.std.specs.Prelude.{ℕ, List}
use Rattle.gh_base.specs.declared.place.Span.{Span}
use Rattle.gh_bindings.specs.Core.{core_program}
use Rattle.gh_bindings.specs.declared.binding.Binding.{Binding}
use Rattle.gh_core.specs.Erase.{erased_program}
use Rattle.gh_core.specs.Primitives.{Cause, error_called, no_match, divide_by_zero, no_character}
use Rattle.gh_core.specs.Run.{Seen, core_main}
use Rattle.gh_machine.specs.declared.turn.Stop.{Stop}
use Rattle.gh_machine.specs.declared.turn.StopCause.{StopCause}
use Rattle.gh_machine.specs.declared.turn.StopCause.TheVariants as cause

-- what is seen of a program's core after n reductions
unfoldable pub core_seen : List Binding → ℕ → Seen
core_seen bs n = core_main (erased_program (core_program bs)) n

abbrev pub cause_in : Cause → StopCause
cause_in error_called = cause.ErrorCalled
cause_in no_match = cause.NoMatch
cause_in divide_by_zero = cause.DivideByZero
cause_in no_character = cause.NoCharacter

-- why and where a run has failed
abbrev pub stop_of : Cause → Span → Stop
stop_of why place = record { cause = cause_in why; span = place }
