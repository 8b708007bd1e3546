-- The bytes that a state has printed, apart from the rest of it.
use Rattle.std.specs.Prelude.{ℕ, List, ◌++◌}
use Rattle.gh_core.specs.Reduce.{State}

-- the state with these bytes printed
abbrev pub with_out : List ℕ → State → State
with_out out s = record { focus = s.focus; stack = s.stack; out = out; status = s.status }

-- the state, these bytes printed in front of what it printed
abbrev pub printed_before : List ℕ → State → State
printed_before front s = with_out (front ++ s.out) s
