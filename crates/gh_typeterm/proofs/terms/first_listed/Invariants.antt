use Rattle.std.proofs.Common.{◌≡◌, drop}
use Rattle.gh_typeterm.specs.Terms.{listed}
use Rattle.gh_typeterm.proofs.terms.first_listed.Given as goal

abbrev pub invariant-loop-at : goal.invariant-loop-at
invariant-loop-at l = listed l.by l.number ≡ listed (drop l.at-index l.by) l.number
