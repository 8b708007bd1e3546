use Rattle.std.proofs.Common.{◌≡◌, ◌-◌}
use Rattle.gh_tree.specs.ReadExports.{goes_on, next_export, next_exports}
use Rattle.gh_tree.specs.Read.{many}
use Rattle.gh_tree.proofs.Loops.{with_front}
use Rattle.gh_parse_heads.proofs.lists.next_exports.Given as goal

abbrev pub invariant-loop-turn : goal.invariant-loop-turn
invariant-loop-turn l = next_exports l.fn.tokens ≡ with_front l.found (many goes_on next_export (l._turn-end - l._turn) l.tokens)
