use Rattle.std.proofs.Common.{◌≡◌, ◌-◌}
use Rattle.gh_tree.specs.ReadPatterns.{begins_arg, arg, args}
use Rattle.gh_tree.specs.Read.{many}
use Rattle.gh_tree.proofs.Loops.{with_front}
use Rattle.gh_parse_patterns.proofs.patterns.Reader.args.Given as goal

abbrev pub invariant-loop-turn : goal.invariant-loop-turn
invariant-loop-turn g l = args (arg l.self.depth) l.fn.tokens ≡ with_front l.found (many begins_arg (arg l.self.depth) (l._turn-end - l._turn) l.tokens)
