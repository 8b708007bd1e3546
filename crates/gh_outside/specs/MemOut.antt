-- What an output in memory holds.
use Rattle.std.specs.Prelude.{ℕ, ◌-◌, List, take, length}
use Rattle.gh_outside.specs.declared.mem_out.MemOut.{MemOut}

-- the bytes that were written
abbrev pub bytes_of : MemOut → List ℕ
bytes_of o = take o.used o.buffer.items

-- how often writing has failed
abbrev pub faults_of : MemOut → ℕ
faults_of o = o.faults

-- how many bytes it may hold
abbrev pub room_of : MemOut → ℕ
room_of o = length o.buffer.items

-- the numbers of the writing calls that fail
abbrev pub failing_of : MemOut → List ℕ
failing_of o = o.failing

-- how many calls of writing there were
abbrev pub calls_of : MemOut → ℕ
calls_of o = o.calls

-- how many bytes more it takes
abbrev pub left_of : MemOut → ℕ
left_of o = room_of o - length (bytes_of o)
