use Rattle.std.proofs.Common.{length, sym, ap, ◌∙◌}
use Rattle.gh_machine.proofs.Names.{bindings_counted}
use Rattle.gh_machine.proofs.pick.count_bindings.Goals as goal

pub returns-in-LetRec : goal.returns-in-LetRec
returns-in-LetRec c = sym (bindings_counted c.args.term.now c.in-LetRec.bindings c.in-LetRec.field-1 c.in-LetRec.is ∙ ap length (sym c.as_slice.ensures))
