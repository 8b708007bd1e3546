use Rattle.gh_limits.proofs.FirstAnswer.{answers_first}
use Rattle.gh_limits.proofs.law.answers_the_first.Goals as goal

pub returns : goal.returns
returns c = answers_first
