use Rattle.gh_parse_tops.proofs.Whole.{one_top_is}
use Rattle.gh_parse_tops.proofs.laws.has_one_top.Goals as goal

pub returns : goal.returns
returns c = one_top_is
