use Rattle.std.proofs.Common.{◌≡◌, ap, arith}
use Rattle.gh_parse_exps.specs.Exps.{twins}
use Rattle.gh_tree.proofs.Steps.{deeper}
use Rattle.gh_parse_exps.proofs.exps.+exps.Goals as goal

pub decls-returns-then-depth-eq0 : goal.decls-returns-then-depth-eq0
unfolding twins
decls-returns-then-depth-eq0 t c = let none : c.args.depth ≡ 0 = omega arith in ap (λ n. (twins n).1 c.args.tokens.now) none

pub decls-returns : goal.decls-returns
unfolding twins
decls-returns t c = rw (deeper (λ n. (twins n).1 c.args.tokens.now) c.args.depth (omega arith)) c.whole_decls.ensures

pub exp-returns-then-depth-eq0 : goal.exp-returns-then-depth-eq0
unfolding twins
exp-returns-then-depth-eq0 t c = let none : c.args.depth ≡ 0 = omega arith in ap (λ n. (twins n).0 c.args.tokens.now) none

pub exp-returns : goal.exp-returns
unfolding twins
exp-returns t c = rw (deeper (λ n. (twins n).0 c.args.tokens.now) c.args.depth (omega arith)) c.whole_exp.ensures
