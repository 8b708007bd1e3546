use Rattle.std.proofs.Common.{◌≡◌, ◌-◌}
use Rattle.gh_tree.specs.ReadExports.{goes_on}
use Rattle.gh_parse_heads.specs.Imports.{next_entity, next_entities}
use Rattle.gh_tree.specs.Read.{many}
use Rattle.gh_tree.proofs.Loops.{with_front}
use Rattle.gh_parse_heads.proofs.imports.next_entities.Given as goal

abbrev pub invariant-loop-turn : goal.invariant-loop-turn
invariant-loop-turn l = next_entities l.fn.tokens ≡ with_front l.found (many goes_on next_entity (l._turn-end - l._turn) l.tokens)
