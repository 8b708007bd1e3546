use Rattle.std.proofs.Common.{arith}
use Rattle.std.specs.HashMap.{get}
use Rattle.gh_core.specs.declared.terms.CoreName.TheVariants as name
use Rattle.gh_core_lint.specs.Branches.{tallied}
use Rattle.gh_core_lint.specs.Keys.{key_of, same_key}
use Rattle.gh_core_lint.proofs.Alternatives.{times_more}
use Rattle.gh_core_lint.proofs.cases.tally.Goals as goal

pub loop-alternative-preserved : goal.loop-alternative-preserved
loop-alternative-preserved c = λ o.
    times_more o c.args.alternatives.now c.loop-alternative.alternative-index c.alternative-item.result
    (tallied (get same_key c.loop-alternative.table (key_of (name.Plain o)))) (tallied (get same_key c.count_one.new.table (key_of (name.Plain o))))
    (omega arith) c.alternative-item.is (c.in_ok-count_one.ensures o) (c.loop-alternative.invariant o)
