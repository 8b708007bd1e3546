use Rattle.gh_core_text.proofs.SameByText.{same_by_text}
use Rattle.gh_core_text.proofs.laws.same_types_by_text.Goals as goal

pub returns : goal.returns
returns c = same_by_text
