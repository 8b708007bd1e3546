use Rattle.std.proofs.Common.{arith, map}
use Rattle.gh_limits.specs.Limits.{fields_at}
use Rattle.gh_limits.proofs.Found.{ends}
use Rattle.gh_limits.proofs.tops.next_constrs_place.Goals as goal

pub loop-next-init : goal.loop-next-init
loop-next-init c = (omega (ends (map fields_at c.args.constrs.now), arith), omega arith)
