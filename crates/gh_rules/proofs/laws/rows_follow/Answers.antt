use Rattle.gh_rules.proofs.RowByRow.{rows_follow}
use Rattle.gh_rules.proofs.laws.rows_follow.Goals as goal

pub returns : goal.returns
returns c = rows_follow
