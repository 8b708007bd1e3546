use Rattle.std.proofs.Common.{◌≡◌, ◌-◌}
use Rattle.gh_tree.specs.Read.{comma_next}
use Rattle.gh_tree.specs.ReadTypes.{type_part, type_parts, type_expr}
use Rattle.gh_tree.specs.Read.{many}
use Rattle.gh_tree.proofs.Loops.{with_front}
use Rattle.gh_parse_types.proofs.types.Reader.type_parts.Given as goal

abbrev pub invariant-loop-turn : goal.invariant-loop-turn
invariant-loop-turn g l = type_parts (type_expr l.self.depth) l.fn.tokens ≡ with_front l.found (many comma_next (type_part (type_expr l.self.depth)) (l._turn-end - l._turn) l.tokens)
