use Rattle.std.proofs.Common.{◌≡◌, ◌-◌}
use Rattle.gh_parse_exps.specs.Decls.{next_ops, next_op}
use Rattle.gh_tree.specs.Read.{comma_next}
use Rattle.gh_tree.specs.Read.{many}
use Rattle.gh_tree.proofs.Loops.{with_front}
use Rattle.gh_parse_exps.proofs.signatures.next_ops.Given as goal

abbrev pub invariant-loop-turn : goal.invariant-loop-turn
invariant-loop-turn l = next_ops l.fn.tokens ≡ with_front l.found (many comma_next next_op (l._turn-end - l._turn) l.tokens)
