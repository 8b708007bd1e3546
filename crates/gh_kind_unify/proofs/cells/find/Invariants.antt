use Rattle.std.proofs.Common.{◌<◌, length}
use Rattle.gh_kind_unify.specs.Cells.{Alike, SameValue}
use Rattle.gh_kind_unify.proofs.cells.find.Given as goal

abbrev pub invariant-up : goal.invariant-up
invariant-up l = record {
  alike : Alike l.fn.cells l.cells;
  within : l.at < length l.cells;
  value : SameValue l.cells l.fn.from l.at;
}

abbrev pub decreases-up : goal.decreases-up
decreases-up l = l.at
