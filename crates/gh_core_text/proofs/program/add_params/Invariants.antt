use Rattle.std.proofs.Common.{◌≡◌, ◌++◌, drop}
use Rattle.gh_core.specs.Text.{params_text}
use Rattle.gh_core_text.proofs.program.add_params.Given as goal

abbrev pub invariant-loop-place : goal.invariant-loop-place
invariant-loop-place l = l.out ++ params_text l.place (drop l.place l.params) ≡ l.initial.out ++ params_text 0 l.params
