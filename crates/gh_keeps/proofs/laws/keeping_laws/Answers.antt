use Rattle.gh_keeps.proofs.Orders.{keeping_composes, keeping_ends}
use Rattle.gh_keeps.proofs.laws.keeping_laws.Goals as goal

pub returns : goal.returns
returns c = record { composes = keeping_composes; ends = keeping_ends }
