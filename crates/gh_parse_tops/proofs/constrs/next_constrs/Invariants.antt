use Rattle.std.proofs.Common.{◌≡◌, ◌-◌}
use Rattle.gh_tree.specs.ReadTypes.{type_expr}
use Rattle.gh_parse_tops.specs.Tops.{next_constrs, next_constr}
use Rattle.gh_parse_exps.specs.Marks.{bar_next}
use Rattle.gh_tree.specs.Read.{many}
use Rattle.gh_tree.proofs.Loops.{with_front}
use Rattle.gh_parse_tops.proofs.constrs.next_constrs.Given as goal

abbrev pub invariant-loop-turn : goal.invariant-loop-turn
invariant-loop-turn l = (next_constrs (type_expr l.fn.depth)) l.fn.tokens ≡ with_front l.found (many bar_next (next_constr (type_expr l.fn.depth)) (l._turn-end - l._turn) l.tokens)
