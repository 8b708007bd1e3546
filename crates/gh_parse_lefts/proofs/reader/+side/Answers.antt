use Rattle.std.proofs.Common.{◌≡◌, ap, arith}
use Rattle.gh_tree.specs.ReadPatterns.{arg}
use Rattle.gh_tree.proofs.Steps.{deeper}
use Rattle.gh_parse_lefts.specs.Lefts.{side}
use Rattle.gh_parse_lefts.proofs.reader.+side.Goals as goal

pub returns-then-depth-eq0 : goal.returns-then-depth-eq0
unfolding side
returns-then-depth-eq0 t c = let none : c.args.depth ≡ 0 = omega arith in ap (λ n. side n c.args.tokens.now) none

pub returns : goal.returns
unfolding side
returns t c =
    rw (deeper (λ n. side n c.args.tokens.now) c.args.depth (omega arith), ← deeper arg c.args.depth (omega arith)) c.whole.ensures
