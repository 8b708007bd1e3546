use Rattle.gh_rules.proofs.Alongside.{begins, moves, takes, asks, enters, decides_guard}
use Rattle.gh_rules.proofs.laws.matching_laws.Goals as goal

pub returns : goal.returns
returns c = record { begins = begins; moves = moves; takes = takes; asks = asks; enters = enters; decides = decides_guard }
