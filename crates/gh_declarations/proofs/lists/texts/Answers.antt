use Rattle.std.proofs.Common.{arith}
use Rattle.gh_declarations.proofs.Listed.{holds_more}
use Rattle.gh_declarations.proofs.lists.texts.Goals as goal

pub loop-named-preserved : goal.loop-named-preserved
loop-named-preserved c =
    holds_more c.loop-named.set.keys c.add_text.new.set.keys c.args.list.now c.loop-named.named-index _
    (omega arith) c.loop-named.invariant c.in_ok-add_text.ensures
