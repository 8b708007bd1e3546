use Rattle.gh_base.proofs.FixedConstants.{constants_hold}
use Rattle.gh_base.proofs.laws.constants_name_their_words.Goals as goal

pub returns : goal.returns
returns c = constants_hold
