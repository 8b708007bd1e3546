use Rattle.std.proofs.Common.{rules, arith, ◌≡◌, map, sym, ap, ◌∙◌}
use Rattle.std.proofs.lemmas.List.{take_all}
use Rattle.gh_core.specs.Erase.{erased, erased_bind}
use Rattle.gh_core.specs.declared.erased.ErasedTerm.TheVariants as t
use Rattle.gh_core.proofs.Shapes.{letrec_out}
use Rattle.gh_core.proofs.erase.+erase.Goals as goal

pub erase_term-returns-in_ok-body-in-LetRec : goal.erase_term-returns-in_ok-body-in-LetRec
erase_term-returns-in_ok-body-in-LetRec k c =
    let bs : c.loop-name.made ≡ map erased_bind c.in-LetRec.bindings =
    c.loop-name.invariant ∙ ap (map erased_bind) (take_all c.loop-name.name-index c.as_slice-name-items.result.now (omega arith) ∙ c.as_slice-name-items.ensures) in
    let b : c.in_ok-body-in-LetRec.body ≡ erased c.in-LetRec.body = search rules in
    (λ i. t.LetRec (bs i) (b i)) ∙ sym (letrec_out c.in-LetRec.bindings c.in-LetRec.body) ∙ sym (ap erased c.in-LetRec.is)
