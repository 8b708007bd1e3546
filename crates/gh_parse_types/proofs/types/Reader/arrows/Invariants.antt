use Rattle.std.proofs.Common.{◌≡◌, ◌-◌}
use Rattle.gh_tree.specs.ReadTypes.{arrow_next, arrow, arrows, type_expr}
use Rattle.gh_tree.specs.Read.{many}
use Rattle.gh_tree.proofs.Loops.{with_front}
use Rattle.gh_parse_types.proofs.types.Reader.arrows.Given as goal

abbrev pub invariant-loop-turn : goal.invariant-loop-turn
invariant-loop-turn g l = arrows (type_expr l.self.depth) l.fn.tokens ≡ with_front l.found (many arrow_next (arrow (type_expr l.self.depth)) (l._turn-end - l._turn) l.tokens)
