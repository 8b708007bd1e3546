use Rattle.std.proofs.Common.{◌≡◌, ◌∷◌, map, take}
use Rattle.gh_bindings.specs.Core.{append_def, binding_def}
use Rattle.gh_bindings.proofs.program.definitions.Given as goal

abbrev pub invariant-loop-binding : goal.invariant-loop-binding
invariant-loop-binding l = l.defs ≡ append_def ∷ map binding_def (take l.binding-index l.bindings)
