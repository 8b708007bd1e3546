use Rattle.std.proofs.Common.{ap, ◌∙◌}
use Rattle.std.specs.Prelude.{slice_get}
use Rattle.gh_core.specs.Reading.{term_of}
use Rattle.gh_machine.proofs.Picks.{binding_some, binding_none}
use Rattle.gh_machine.proofs.pick.binding_of.Goals as goal

pub returns-in-Some : goal.returns-in-Some
returns-in-Some c = binding_some c.args.term.now c.in-LetRec.bindings c.in-LetRec.body c.args.index c.in-Some.binding.now c.in-LetRec.is (c.in-Some.ensures ∙ ap (λ xs. slice_get xs c.args.index) c.as_slice.ensures)

pub returns-in-None : goal.returns-in-None
returns-in-None c = ap term_of c.get.ensures ∙ binding_none c.args.term.now c.in-LetRec.bindings c.in-LetRec.body c.args.index c.in-LetRec.is (c.in-None.ensures ∙ ap (λ xs. slice_get xs c.args.index) c.as_slice.ensures)
