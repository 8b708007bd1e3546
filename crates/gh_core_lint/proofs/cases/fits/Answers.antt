use Rattle.std.proofs.Common.{List, ℕ, sym, ap, subst, ◌∙◌}
use Rattle.std.specs.Prelude.{◌↔◌, IsTrue}
use Rattle.gh_core.specs.Typing.{Branch, code_of, con_branch}
use Rattle.gh_core_lint.specs.Branches.{alt_code}
use Rattle.gh_core_lint.specs.Faults.{Fits}
use Rattle.gh_core_lint.specs.Programs.{program_of}
use Rattle.gh_core_lint.specs.Types.{type_at}
use Rattle.gh_core_lint.proofs.Codes.{alt_Con}
use Rattle.gh_core_lint.proofs.cases.fits.Goals as goal

pub returns-in-Con : goal.returns-in-Con
returns-in-Con c =
    let t = code_of c.in-Con.field-2 in
    subst (λ (b : Branch). IsTrue c.con_fits.result ↔ Fits (program_of c.args.known.now) (type_at c.args.scrutinee.now) b)
    (ap (λ (xs : List ℕ). con_branch c.in-Con.con xs t) c.as_slice.ensures ∙ sym (ap alt_code c.in-Con.is ∙ alt_Con c.in-Con.con c.in-Con.names c.in-Con.field-2))
    (c.con_fits.ensures t)
