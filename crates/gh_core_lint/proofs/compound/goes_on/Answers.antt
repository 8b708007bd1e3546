use Rattle.std.proofs.Common.{true, map, Option, sym, ap, subst}
use Rattle.std.specs.Prelude.{◌↔◌, option_map, IsTrue}
use Rattle.gh_core.specs.Typing.{branches_of, code_of, Code, IsCovered}
use Rattle.gh_core_lint.specs.Branches.{alt_code}
use Rattle.gh_core_lint.specs.Types.{type_at}
use Rattle.gh_core_lint.proofs.Composed.{else_covers}
use Rattle.gh_core_lint.proofs.compound.goes_on.Goals as goal

pub returns-in-Some : goal.returns-in-Some
returns-in-Some c =
    let decls = c.args.known.now.decls.now in
    let s = type_at c.args.scrutinee.now in
    let xs = map alt_code c.args.alternatives.now in
    subst (λ (o : Option Code). IsTrue true ↔ IsCovered decls s (branches_of xs o)) (sym (ap (option_map code_of) c.in-Some.is)) (else_covers decls s xs (code_of c.in-Some.field-0))
