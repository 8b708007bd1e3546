use Rattle.std.proofs.Common.{◌≡◌, ◌++◌, map, reverse, length}
use Rattle.gh_fixity.specs.Programs.{top_out}
use Rattle.gh_fixity.specs.Walks.{trees, all_clashes, least}
use Rattle.gh_fixity.proofs.all.tops_of.Given as goal

abbrev pub invariant-loop-part : goal.invariant-loop-part
invariant-loop-part l = record {
  value : trees l.fn.state.locals (map (top_out l.tops) l.fn.node) ≡ l.done ++ trees l.fn.state.locals (map (top_out l.tops) (reverse l.waiting));
  found : least l.fn.state.found (all_clashes l.fn.state.locals (map (top_out l.tops) l.fn.node)) ≡ least l.state.found (all_clashes l.fn.state.locals (map (top_out l.tops) (reverse l.waiting)));
  scope : l.state.locals ≡ l.fn.state.locals;
}

abbrev pub decreases-loop-part : goal.decreases-loop-part
decreases-loop-part l = length l.waiting
