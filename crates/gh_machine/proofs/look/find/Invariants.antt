use Rattle.std.proofs.Common.{◌≡◌, ◌≤◌}
use Rattle.gh_machine.specs.Unload.{envs_of, env_in}
use Rattle.gh_machine.proofs.look.find.Given as goal

abbrev pub invariant-loop-at : goal.invariant-loop-at
invariant-loop-at l = (l.at ≤ l.env) × (env_in (envs_of l.cells) l.at l.name ≡ env_in (envs_of l.cells) l.env l.name)

abbrev pub decreases-loop-at : goal.decreases-loop-at
decreases-loop-at l = l.at
