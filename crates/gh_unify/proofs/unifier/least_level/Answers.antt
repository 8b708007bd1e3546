use Rattle.std.proofs.Common.{get_or, arith}
use Rattle.gh_unify.proofs.Levels.{least_first, least_none, least_next, reached_next}
use Rattle.gh_unify.proofs.unifier.least_level.Goals as goal

pub loop-number-init : goal.loop-number-init
loop-number-init c = record {
  least = least_none c.args.kept.now c.args.var (get_or c.args.kept.now c.args.var c.index-kept-var.result).level;
  reached = least_first c.args.kept.now c.args.var c.index-kept-var.result c.requires.drawn;
}

pub loop-number-preserved : goal.loop-number-preserved
loop-number-preserved c = record {
  least = least_next c.args.kept.now c.args.var c.loop-number.number c.loop-number.least c.lower-least.result c.loop-number.invariant.least c.lower-least.ensures;
  reached = λ u. reached_next c.args.kept.now c.args.var c.loop-number.number c.loop-number.least c.lower-least.result (omega arith) (c.loop-number.invariant.reached u) c.lower-least.ensures;
}
