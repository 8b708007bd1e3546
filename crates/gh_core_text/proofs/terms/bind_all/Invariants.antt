use Rattle.std.proofs.Common.{◌≡◌, ◌++◌, ◌-◌, ◌+◌, drop, length}
use Rattle.gh_core.specs.Levels.{backwards}
use Rattle.gh_core.specs.Text.{binders_of}
use Rattle.gh_core_text.proofs.terms.bind_all.Given as goal

abbrev pub invariant-loop-taken : goal.invariant-loop-taken
invariant-loop-taken l = record {
  bound : l.variables ≡ l.initial.variables ++ backwards (l.count + (length l.bindings - l.taken)) (binders_of (drop (length l.bindings - l.taken) l.bindings));
  count : l.count ≡ length l.initial.variables;
}
