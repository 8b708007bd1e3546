use Rattle.std.proofs.Common.{◌≡◌, ◌-◌}
use Rattle.gh_parse_exps.specs.Exps.{knot}
use Rattle.gh_parse_exps.specs.Exps.{aexps, aexp}
use Rattle.gh_parse_exps.specs.Exps.{begins_aexp}
use Rattle.gh_tree.specs.Read.{many}
use Rattle.gh_tree.proofs.Loops.{with_front}
use Rattle.gh_parse_exps.proofs.reader.Reader.aexps.Given as goal

abbrev pub invariant-loop-turn : goal.invariant-loop-turn
invariant-loop-turn g l = (aexps (knot l.self.depth)) l.fn.tokens ≡ with_front l.found (many begins_aexp (aexp (knot l.self.depth)) (l._turn-end - l._turn) l.tokens)
