use Rattle.std.proofs.Common.{◌≡◌, ◌-◌}
use Rattle.gh_parse_exps.specs.Exps.{knot}
use Rattle.gh_parse_exps.specs.Decls.{decl_items, decl_item}
use Rattle.gh_parse_exps.specs.Marks.{begins_part}
use Rattle.gh_tree.specs.Read.{many}
use Rattle.gh_tree.proofs.Loops.{with_front}
use Rattle.gh_parse_exps.proofs.reader.Reader.decl_items.Given as goal

abbrev pub invariant-loop-turn : goal.invariant-loop-turn
invariant-loop-turn g l = (decl_items (knot l.self.depth)) l.fn.tokens ≡ with_front l.found (many begins_part (decl_item (knot l.self.depth)) (l._turn-end - l._turn) l.tokens)
