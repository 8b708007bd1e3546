-- What the frames of a machine's stack stand for.
use Rattle.std.specs.Prelude.{◌≤◌, ℕ, List, [], ◌∷◌}
use Rattle.gh_core.specs.Closing.{Env, close_alts}
use Rattle.gh_core.specs.Reading.{term_of}
use Rattle.gh_core.specs.Reduce.{Waiting, arg, of_case, under, only, first, second, printing}
use Rattle.gh_machine.specs.Unload.{env_of, env_in, closed_in, alts_in}
use Rattle.gh_machine.specs.Values.{literal_of, unary_of, binary_of}
use Rattle.gh_machine.specs.declared.closure.Frame.{Frame}
use Rattle.gh_machine.specs.declared.closure.Frame.TheVariants.{Arg, OfCase, Under, Only, First, Second, Printing}

abbrev pub waiting_in : List Env → Frame → Waiting
waiting_in envs (Arg v) = arg (closed_in envs v)
waiting_in envs (OfCase e t) = of_case (close_alts (alts_in (term_of t.now)) (env_in envs e))
waiting_in envs (Under c) = under c
waiting_in envs (Only u place) = only (unary_of u) place
waiting_in envs (First b place v) = first (binary_of b) place (closed_in envs v)
waiting_in envs (Second b place l) = second (binary_of b) place (literal_of l)
waiting_in envs (Printing v) = printing (closed_in envs v)

-- the innermost is the last of the frames, and the first of what waits
abbrev pub stack_in : List Env → List Waiting → List Frame → List Waiting
stack_in envs below [] = below
stack_in envs below (f ∷ fs) = stack_in envs (waiting_in envs f ∷ below) fs

abbrev pub env_of_frame : Frame → ℕ
env_of_frame (Arg v) = env_of v
env_of_frame (OfCase e t) = e
env_of_frame (Under c) = 0
env_of_frame (Only u place) = 0
env_of_frame (First b place v) = env_of v
env_of_frame (Second b place l) = 0
env_of_frame (Printing v) = env_of v

abbrev pub AreWithin : ℕ → List Frame → Type 0
AreWithin n [] = Unit {0}
AreWithin n (f ∷ fs) = (env_of_frame f ≤ n) × AreWithin n fs
