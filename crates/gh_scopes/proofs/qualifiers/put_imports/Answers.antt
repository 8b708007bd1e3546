use Rattle.std.proofs.Common.{arith}
use Rattle.std.specs.HashSet.{contains}
use Rattle.gh_scopes.specs.Keys.{same_key, qualifier_key}
use Rattle.gh_scopes.proofs.Qualified.{or_end, imports_more}
use Rattle.gh_scopes.proofs.qualifiers.put_imports.Goals as goal

pub loop-import-init : goal.loop-import-init
loop-import-init c = λ q. or_end (contains same_key c.args.set.now (qualifier_key q))

pub loop-import-preserved : goal.loop-import-preserved
loop-import-preserved c = λ q.
    imports_more q c.args.imports.now c.loop-import.import-index c.import-item.result (contains same_key c.args.set.now (qualifier_key q))
    (contains same_key c.loop-import.set (qualifier_key q)) (contains same_key c.put_import.new.set (qualifier_key q))
    (omega arith) c.import-item.is (c.loop-import.invariant q) (c.in_ok-put_import.ensures q)
