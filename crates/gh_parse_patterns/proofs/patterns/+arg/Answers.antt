use Rattle.std.proofs.Common.{◌≡◌, ap, arith}
use Rattle.gh_tree.specs.ReadPatterns.{arg}
use Rattle.gh_tree.proofs.Steps.{deeper}
use Rattle.gh_parse_patterns.proofs.patterns.+arg.Goals as goal

pub returns-then-depth-eq0 : goal.returns-then-depth-eq0
unfolding arg
returns-then-depth-eq0 t c = let none : c.args.depth ≡ 0 = omega arith in ap (λ n. arg n c.args.tokens.now) none

pub returns : goal.returns
unfolding arg
returns t c = rw (deeper (λ n. arg n c.args.tokens.now) c.args.depth (omega arith)) c.whole_arg.ensures
