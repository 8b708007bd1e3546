use Rattle.std.proofs.Common.{◌≡◌, ◌++◌, map, drop}
use Rattle.gh_declarations.specs.declared.named.Rule.TheVariants as rule
use Rattle.gh_declarations.specs.Names.{failure}
use Rattle.gh_declarations.specs.Lists.{undefined}
use Rattle.gh_declarations.proofs.lists.add_undefined.Given as goal

abbrev pub invariant-loop-named : goal.invariant-loop-named
invariant-loop-named l = l.failures ++ map (failure rule.Alone) (undefined l.values (drop l.named-index l.list)) ≡ l.initial.failures ++ map (failure rule.Alone) (undefined l.values l.list)
