use Rattle.std.proofs.Common.{arith, ◌+◌, ◌++◌, None, drop, ap, ◌∙◌}
use Rattle.gh_declarations.specs.Lists.{unequal_behind}
use Rattle.gh_declarations.proofs.Listed.{unequal_more}
use Rattle.gh_declarations.proofs.lists.add_unequal.Goals as goal

pub loop-one-preserved : goal.loop-one-preserved
loop-one-preserved c =
    ap (λ f. c.add_unequal_of.new.failures ++ unequal_behind f (drop (c.loop-one.one-index + 1) c.args.declared.now)) c.first_behind-first.ensures
    ∙ unequal_more c.args.declared.now c.loop-one.one-index _ c.loop-one.first c.loop-one.failures c.add_unequal_of.new.failures
    (c.args.failures.now ++ unequal_behind None c.args.declared.now)
    (omega arith) c.loop-one.invariant c.in_ok-add_unequal_of.ensures
