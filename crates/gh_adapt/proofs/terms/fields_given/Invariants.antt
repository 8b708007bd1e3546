use Rattle.std.proofs.Common.{◌≡◌, ℕ, ◌+◌}
use Rattle.gh_core.specs.Typing.{code_of}
use Rattle.gh_adapt.specs.Typed.{fields_given}
use Rattle.gh_adapt.proofs.terms.fields_given.Given as goal

abbrev pub invariant-loop-i : goal.invariant-loop-i
invariant-loop-i l = (n : ℕ) → l.i + n ≡ l.count → fields_given (code_of l.made) l.i n ≡ fields_given (code_of l.initial.made) 0 l.count
