use Rattle.std.proofs.Common.{arith, ◌++◌, map}
use Rattle.gh_declarations.specs.declared.named.Rule.TheVariants as rule
use Rattle.gh_declarations.specs.Names.{failure}
use Rattle.gh_declarations.specs.Lists.{undefined}
use Rattle.gh_declarations.proofs.Listed.{undefined_more}
use Rattle.gh_declarations.proofs.lists.add_undefined.Goals as goal

pub loop-named-preserved : goal.loop-named-preserved
loop-named-preserved c =
    undefined_more c.in_ok-defined.defined.keys c.args.values.now c.args.list.now c.loop-named.named-index _ c.loop-named.failures c.add_if_undefined.new.failures
    (c.args.failures.now ++ map (failure rule.Alone) (undefined c.args.values.now c.args.list.now))
    (omega arith) c.in_ok-defined.ensures c.loop-named.invariant c.in_ok-add_if_undefined.ensures
