use Rattle.gh_kind_unify.proofs.Failing.{first_clash}
use Rattle.gh_kind_unify.proofs.least.first_failing.Goals as goal

pub returns-in-Clash : goal.returns-in-Clash
returns-in-Clash c = first_clash c.args.count c.args.rules.now c.halves.bounds c.halves.invariant c.halves-test.false c.in-Clash.is
