use Rattle.std.proofs.Common.{ℕ, ◌<◌}
use Rattle.gh_groups.specs.Plans.{VertexOk}
use Rattle.gh_groups.proofs.check.are_vertices_ok.Given as goal

abbrev pub invariant-loop-number : goal.invariant-loop-number
invariant-loop-number l = (v : ℕ) → v < l.number → VertexOk l.edges l.groups l.plan.places.items l.plan.up_ranks.items l.plan.down_ranks.items v
