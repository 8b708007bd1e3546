use Rattle.gh_keeps.proofs.Bridge.{reaches_itself}
use Rattle.gh_keeps.proofs.Orders.{reaches_further, reaches_either}
use Rattle.gh_keeps.proofs.laws.reaching_laws.Goals as goal

pub returns : goal.returns
returns c = record { itself = reaches_itself; on = reaches_further; either = reaches_either }
