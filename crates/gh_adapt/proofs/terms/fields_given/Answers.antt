use Rattle.std.proofs.Common.{◌≡◌, suc, ◌+◌, ap, ◌∙◌, arith}
use Rattle.gh_core.specs.Typing.{a_var, an_app, code_of}
use Rattle.gh_adapt.specs.Typed.{fields_given}
use Rattle.gh_adapt.proofs.terms.fields_given.Goals as goal

pub loop-i-preserved : goal.loop-i-preserved
loop-i-preserved c =
    λ n e.
    let one : c.loop-i.i + 1 ≡ suc c.loop-i.i = omega arith in
    (λ j. fields_given ((c.in_ok-made.ensures ∙ ap (an_app (code_of c.loop-i.made)) (c.in_ok-field.ensures ∙ ap a_var (c.in_ok-next.ensures ∙ one))) j) (one j) n)
    ∙ c.loop-i.invariant (suc n) (omega arith)

pub returns : goal.returns
returns c = c.loop-i.invariant 0 (omega arith)
