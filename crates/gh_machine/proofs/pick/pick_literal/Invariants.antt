use Rattle.gh_machine.specs.Values.{literal_of}
use Rattle.gh_machine.proofs.Picks.{SameLiteral, rest_of}
use Rattle.gh_machine.proofs.pick.pick_literal.Given as goal

abbrev pub invariant-loop-alternative : goal.invariant-loop-alternative
invariant-loop-alternative l = SameLiteral (rest_of l.alternative-items l.other 0) (rest_of l.alternative-items l.other l.alternative-index) (literal_of l.literal)
