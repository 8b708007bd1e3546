use Rattle.std.proofs.Common.{◌≡◌, ◌-◌, length}
use Rattle.gh_parser.specs.Parse.{others_of}
use Rattle.gh_parser.proofs.Loop.{with_found}
use Rattle.gh_parser.proofs.items.next_items.Given as goal

abbrev pub invariant-loop-turn : goal.invariant-loop-turn
invariant-loop-turn l = others_of 2000 (length l.fn.tokens) l.fn.tops l.fn.end l.fn.tokens ≡ with_found l.found (others_of 2000 (l._turn-end - l._turn) l.before l.last l.tokens)
