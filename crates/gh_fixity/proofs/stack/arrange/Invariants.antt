use Rattle.std.proofs.Common.{◌≡◌, Some, true, take, drop}
use Rattle.gh_fixity.specs.Arrangement.{marks_from}
use Rattle.gh_fixity.specs.Frames.{opens}
use Rattle.gh_fixity.specs.Stack.{steps, start, goes}
use Rattle.gh_fixity.proofs.stack.arrange.Given as goal

abbrev pub invariant-loop-at : goal.invariant-loop-at
invariant-loop-at l = record {
  reads : steps start (marks_from 0 (take l.at l.list)) ≡ Some (opens l.list l.frames.items, l.last);
  grammar : goes l.last (drop l.at l.list) ≡ true;
}
