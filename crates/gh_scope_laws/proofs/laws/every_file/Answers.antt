use Rattle.gh_scope_laws.proofs.AllTaken.{has_all}
use Rattle.gh_scope_laws.proofs.laws.every_file.Goals as goal

pub returns : goal.returns
returns c = has_all
