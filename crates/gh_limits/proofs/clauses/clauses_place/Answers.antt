use Rattle.std.proofs.Common.{arith, None, map, sym, ap, ◌∙◌}
use Rattle.gh_limits.specs.Inside.{Declared, clause_at, clause_counts}
use Rattle.gh_limits.specs.Places.{first_place}
use Rattle.gh_limits.proofs.Found.{ends}
use Rattle.gh_limits.proofs.InsideAt.{decl_item_at}
use Rattle.gh_limits.proofs.Loops.{more_clauses}
use Rattle.gh_limits.proofs.clauses.clauses_place.Goals as goal

pub loop-item-init : goal.loop-item-init
loop-item-init c = (omega (ends (clause_counts None 0 (map clause_at c.args.decls.now)), arith), omega arith, omega arith)

pub loop-item-preserved : goal.loop-item-preserved
loop-item-preserved c = (
  more_clauses clause_at c.args.decls.now c.loop-item.item-index c.item-item.result (first_place (clause_counts None 0 (map clause_at c.args.decls.now)))
      c.loop-item.best c.loop-item.many c.clauses_before-many.result c.place.result c.earlier-best.result c.loop-item.before c.clause_of-clause.result
      (omega arith) (c.clause_of-clause.ensures ∙ ap (λ (d : Declared). d.clause) (sym (decl_item_at _)) ∙ ap clause_at c.item-item.is) c.clauses_before-many.ensures.count
      c.place.ensures c.earlier-best.ensures c.loop-item.invariant.0,
  omega (c.clauses_before-many.ensures.bound, c.loop-item.invariant.1, arith),
  omega (c.earlier-best.ensures, c.loop-item.invariant.2, arith),
)
