use Rattle.gh_bindings.proofs.Keeping.{core_keeps_meaning, core_keeps_closely}
use Rattle.gh_bindings.proofs.laws.core_keeps_meaning.Goals as goal

pub returns : goal.returns
returns c = record { budget = core_keeps_meaning; closely = core_keeps_closely }
