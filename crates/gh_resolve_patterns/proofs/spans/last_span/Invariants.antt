use Rattle.std.proofs.Common.{◌≡◌, drop}
use Rattle.gh_resolve_patterns.specs.Spans.{last_span}
use Rattle.gh_resolve_patterns.proofs.spans.last_span.Given as goal

abbrev pub invariant-loop-node : goal.invariant-loop-node
invariant-loop-node l = last_span l.fn.first l.nodes ≡ last_span l.last (drop l.node-index l.nodes)
