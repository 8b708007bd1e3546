use Rattle.gh_machine.proofs.Picks.{SameChoice, rest_of}
use Rattle.gh_machine.proofs.Names.{SameNames}
use Rattle.gh_machine.proofs.pick.pick_con.Given as goal

abbrev pub invariant-loop-alternative : goal.invariant-loop-alternative
invariant-loop-alternative l = record {
  choice : SameChoice (rest_of l.alternative-items l.other 0) (rest_of l.alternative-items l.other l.alternative-index) l.con l.count;
  names : SameNames (rest_of l.alternative-items l.other 0) (rest_of l.alternative-items l.other l.alternative-index) l.con l.count;
}
