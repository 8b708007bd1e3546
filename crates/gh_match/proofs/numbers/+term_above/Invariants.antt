use Rattle.std.proofs.Common.{◌≡◌, drop, map}
use Rattle.gh_match.specs.Compiled.{branch_of, group_code}
use Rattle.gh_match.specs.Numbers.{above_bindings, alternatives_above}
use Rattle.gh_match.proofs.numbers.+term_above.Given as goal

abbrev pub invariant-term_above-loop-name : goal.invariant-term_above-loop-name
invariant-term_above-loop-name l = above_bindings (group_code (drop l.name-index l.name-items)) l.most ≡ above_bindings (group_code l.name-items) l.initial.most

abbrev pub invariant-alternatives_above-loop-at : goal.invariant-alternatives_above-loop-at
invariant-alternatives_above-loop-at l = l.most ≡ alternatives_above (map branch_of (drop l.at l.alternatives)) l.last
