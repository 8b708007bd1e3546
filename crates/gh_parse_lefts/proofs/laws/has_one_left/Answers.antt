use Rattle.gh_parse_lefts.proofs.Whole.{one_left_is}
use Rattle.gh_parse_lefts.proofs.laws.has_one_left.Goals as goal

pub returns : goal.returns
returns c = one_left_is
