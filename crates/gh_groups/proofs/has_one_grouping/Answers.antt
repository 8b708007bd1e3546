use Rattle.gh_groups.proofs.Law.{one_grouping}
use Rattle.gh_groups.proofs.has_one_grouping.Goals as goal

pub returns : goal.returns
returns c = one_grouping
