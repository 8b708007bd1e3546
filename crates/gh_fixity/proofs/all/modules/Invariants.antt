use Rattle.std.proofs.Common.{◌≡◌, ◌++◌, map, reverse, length}
use Rattle.gh_fixity.specs.Programs.{module_tree, modules_clash}
use Rattle.gh_fixity.proofs.all.modules.Given as goal

abbrev pub invariant-loop-part : goal.invariant-loop-part
invariant-loop-part l = record {
  value : map (module_tree l.tops) l.fn.node ≡ l.done ++ map (module_tree l.tops) (reverse l.waiting);
  found : modules_clash l.tops l.fn.node ≡ modules_clash l.tops (reverse l.waiting);
}

abbrev pub decreases-loop-part : goal.decreases-loop-part
decreases-loop-part l = length l.waiting
