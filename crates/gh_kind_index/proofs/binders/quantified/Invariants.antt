use Rattle.std.proofs.Common.{◌≡◌, ℕ, ◌+◌}
use Rattle.gh_core.specs.Typing.{type_of}
use Rattle.gh_kind_index.specs.KindIndex.{for_all}
use Rattle.gh_kind_index.proofs.binders.quantified.Given as goal

abbrev pub invariant-loop-i : goal.invariant-loop-i
invariant-loop-i l = (m : ℕ) → l.i + m ≡ l.count → type_of l.made ≡ for_all l.kind (l.level + l.i) m (type_of l.initial.made)
