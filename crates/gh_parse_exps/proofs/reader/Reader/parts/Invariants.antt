use Rattle.std.proofs.Common.{◌≡◌, ◌-◌}
use Rattle.gh_parse_exps.specs.Exps.{knot}
use Rattle.gh_parse_exps.specs.Exps.{parts, part}
use Rattle.gh_tree.specs.Read.{comma_next}
use Rattle.gh_tree.specs.Read.{many}
use Rattle.gh_tree.proofs.Loops.{with_front}
use Rattle.gh_parse_exps.proofs.reader.Reader.parts.Given as goal

abbrev pub invariant-loop-turn : goal.invariant-loop-turn
invariant-loop-turn g l = (parts (knot l.self.depth)) l.fn.tokens ≡ with_front l.found (many comma_next (part (knot l.self.depth)) (l._turn-end - l._turn) l.tokens)
