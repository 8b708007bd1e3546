use Rattle.std.specs.HashSet.{contains}
use Rattle.gh_scopes.specs.Keys.{same_key}
use Rattle.gh_scopes.proofs.Qualified.{one_more}
use Rattle.gh_scopes.proofs.qualifiers.put_import.Goals as goal

pub returns : goal.returns
returns c = one_more (contains same_key c.args.set.now) (contains same_key c.put_key.new.set) c.args.import.now c.qualifier_key.result c.qualifier_key.ensures c.in_ok-put_key.ensures
