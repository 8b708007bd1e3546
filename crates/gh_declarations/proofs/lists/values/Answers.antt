use Rattle.std.proofs.Common.{arith, ◌+◌, ◌++◌, drop, ap, ◌∙◌}
use Rattle.gh_declarations.specs.Lists.{values, values_behind}
use Rattle.gh_declarations.proofs.Listed.{value_more}
use Rattle.gh_declarations.proofs.lists.values.Goals as goal

pub loop-one-preserved : goal.loop-one-preserved
loop-one-preserved c =
    ap (λ f. c.add_value.new.list ++ values_behind f (drop (c.loop-one.one-index + 1) c.args.declared.now)) c.first_behind-first.ensures
    ∙ value_more c.args.declared.now c.loop-one.one-index _ c.loop-one.first c.loop-one.list c.add_value.new.list (values c.args.declared.now)
    (omega arith) c.loop-one.invariant c.in_ok-add_value.ensures
