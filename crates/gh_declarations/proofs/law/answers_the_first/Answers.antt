use Rattle.gh_declarations.proofs.FirstAnswer.{answers}
use Rattle.gh_declarations.proofs.law.answers_the_first.Goals as goal

pub returns : goal.returns
returns c = answers
