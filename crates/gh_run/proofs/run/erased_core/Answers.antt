use Rattle.std.proofs.Common.{◌≡◌, IfOk, ap, ◌∙◌, subst}
use Rattle.gh_bindings.specs.Core.{core_program}
use Rattle.gh_core.specs.declared.terms.CoreProgram.{CoreProgram}
use Rattle.gh_core.specs.Erase.{erased_program}
use Rattle.gh_run.proofs.run.erased_core.Goals as goal

pub returns : goal.returns
returns c =
    let P : CoreProgram → Type 0 = λ p. IfOk c.erase_core.result (λ x. x ≡ erased_program p) in
    subst P (c.in_ok-program.ensures.program ∙ ap core_program c.as_slice.ensures) c.erase_core.ensures
