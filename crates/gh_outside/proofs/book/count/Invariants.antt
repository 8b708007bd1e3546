use Rattle.std.proofs.Common.{◌≡◌, ◌≤◌, ◌+◌, drop}
use Rattle.gh_outside.specs.Shelves.{times}
use Rattle.gh_outside.proofs.book.count.Given as goal

abbrev pub invariant-loop-noted : goal.invariant-loop-noted
invariant-loop-noted l = record {
  counted : times l.name l.book ≡ l.count + times l.name (drop l.noted-index l.book);
  few : l.count ≤ l.noted-index;
}
