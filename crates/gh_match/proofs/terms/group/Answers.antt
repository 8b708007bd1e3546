use Rattle.std.proofs.Common.{ap, ◌∙◌}
use Rattle.gh_core.specs.Typing.{a_letrec, code_of}
use Rattle.gh_match.specs.Compiled.{group_code}
use Rattle.gh_match.proofs.Codes.{code_letrec}
use Rattle.gh_match.proofs.terms.group.Goals as goal

pub returns : goal.returns
returns c =
    ap code_of c.in_ok-new.ensures ∙ code_letrec c.in_ok-copies.copies c.args.body
    ∙ (λ i. a_letrec (group_code (c.in_ok-copies.ensures i)) (code_of c.args.body))
