use Rattle.gh_fixity.specs.Built.{pat_nodes, no_pattern}
use Rattle.std.proofs.Common.{reverse}
use Rattle.gh_fixity.proofs.Growing.{if_ok, from_grown}
use Rattle.gh_fixity.proofs.grow.pattern_from.Goals as goal

pub returns-in_ok-waiting-in-Some : goal.returns-in_ok-waiting-in-Some
returns-in_ok-waiting-in-Some c =
    if_ok c.grow_pattern.result
    (λ node h items. from_grown pat_nodes items no_pattern c.args.parts c.in_ok-waiting-in-Some.waiting (reverse c.grow_pattern.new.waiting) c.args.tree c.in-Some.tree node
    c.in-Some.is c.in_ok-waiting-in-Some.ensures (h items))
    c.grow_pattern.ensures
