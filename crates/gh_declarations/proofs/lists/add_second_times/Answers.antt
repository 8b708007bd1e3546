use Rattle.std.proofs.Common.{arith, ◌++◌}
use Rattle.gh_declarations.specs.Lists.{fail_again}
use Rattle.gh_declarations.proofs.Listed.{second_more, holds_more}
use Rattle.gh_declarations.proofs.lists.add_second_times.Goals as goal

pub loop-named-preserved : goal.loop-named-preserved
loop-named-preserved c = (
  second_more c.args.rule c.args.list.now c.loop-named.named-index _ c.loop-named.seen.keys c.loop-named.failures c.see.new.failures
      (c.args.failures.now ++ fail_again c.args.rule c.args.list.now)
      (omega arith) c.loop-named.invariant.1 c.loop-named.invariant.0 c.in_ok-see.ensures.failures,
  holds_more c.loop-named.seen.keys c.see.new.seen.keys c.args.list.now c.loop-named.named-index _
      (omega arith) c.loop-named.invariant.1 c.in_ok-see.ensures.seen,
)
