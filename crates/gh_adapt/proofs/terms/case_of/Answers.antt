use Rattle.std.proofs.Common.{map, Some, ap, ◌∙◌}
use Rattle.gh_core.specs.Typing.{a_case, branches_of, code_of, type_of}
use Rattle.gh_adapt.specs.Typed.{branch_of}
use Rattle.gh_adapt.proofs.Steps.{case_seen}
use Rattle.gh_adapt.proofs.terms.case_of.Goals as goal

pub returns : goal.returns
returns c =
    ap code_of c.in_ok-new.ensures ∙ case_seen c.args.scrutinee c.into_inner.result c.args.alternatives c.in_ok-otherwise.otherwise
    ∙ (λ i. a_case (code_of c.args.scrutinee) (type_of ((c.into_inner.ensures ∙ c.in_ok-ty.ensures) i)) (branches_of (map branch_of c.args.alternatives) (Some (c.in_ok-otherwise.ensures i))))
