use Rattle.std.proofs.Common.{◌≡◌, ◌≤◌, ℕ}
use Rattle.gh_core.specs.Reduce.{opened}
use Rattle.gh_machine.specs.Unload.{envs_of, demand_env, demanded_in}
use Rattle.gh_machine.specs.Reach.{demand_reach, IsNear}
use Rattle.gh_machine.proofs.look.resolve.Given as goal

abbrev pub invariant-loop-name : goal.invariant-loop-name
invariant-loop-name l = (demand_env l.at ≤ demand_env l.demand) × (opened (demanded_in (envs_of l.cells) l.at) ≡ opened (demanded_in (envs_of l.cells) l.demand)) × ((n : ℕ) → IsNear n l.cells → demand_reach l.demand ≤ n → demand_reach l.at ≤ n)

abbrev pub decreases-loop-name : goal.decreases-loop-name
decreases-loop-name l = demand_env l.at
