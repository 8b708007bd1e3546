use Rattle.std.proofs.Common.{arith, ◌+◌, min, map, sym, ap, ◌∙◌}
use Rattle.gh_limits.specs.Inside.{Declared, sum_of, patterns_at}
use Rattle.gh_limits.proofs.InsideAt.{decl_item_at}
use Rattle.gh_limits.proofs.Loops.{more_patterns}
use Rattle.gh_limits.proofs.clauses.patterns_in.Goals as goal

pub loop-item-preserved : goal.loop-item-preserved
loop-item-preserved c = (
  more_patterns patterns_at c.args.decls.now c.loop-item.item-index c.item-item.result (min 65 (sum_of (map patterns_at c.args.decls.now))) c.loop-item.count c.patterns_of.result c.enough-count.result
      (omega arith) (c.patterns_of.ensures.patterns ∙ ap (λ (d : Declared). d.patterns) (sym (decl_item_at _)) ∙ ap patterns_at c.item-item.is) c.loop-item.invariant.0 (c.enough-count.ensures ∙ ap (λ n. min 65 (n + c.patterns_of.result)) c.enough.ensures),
  omega (c.enough-count.ensures, arith),
)
