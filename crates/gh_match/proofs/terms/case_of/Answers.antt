use Rattle.std.proofs.Common.{map, Some, ap, ◌∙◌}
use Rattle.gh_core.specs.Typing.{a_case, branches_of, code_of, type_of}
use Rattle.gh_match.specs.Compiled.{branch_of}
use Rattle.gh_match.proofs.Codes.{code_case}
use Rattle.gh_match.proofs.terms.case_of.Goals as goal

pub returns : goal.returns
returns c =
    ap code_of c.in_ok-new.ensures ∙ code_case c.in_ok-scrutinee.scrutinee c.into_inner.result c.args.alternatives c.in_ok-otherwise.otherwise
    ∙ (λ i. a_case (c.in_ok-scrutinee.ensures i) (type_of ((c.into_inner.ensures ∙ c.in_ok-ty.ensures) i)) (branches_of (map branch_of c.args.alternatives) (Some (c.in_ok-otherwise.ensures i))))
