use Rattle.std.proofs.Common.{refl, sym, ap, ◌∙◌, Some}
use Rattle.std.specs.Option.{option_copied}
use Rattle.gh_core_lint.specs.Types.{type_at}
use Rattle.gh_core_lint.proofs.Variables.{joined, var_in}
use Rattle.gh_core_lint.proofs.rules.var_rule.Goals as goal

pub returns-in_ok-share-in-Some-found-clause-ok : goal.returns-in_ok-share-in-Some-found-clause-ok
returns-in_ok-share-in-Some-found-clause-ok c =
    var_in c.args.vars.now c.args.x
    ∙ ap joined (sym c.of.ensures ∙ ap option_copied c.in-Some.is ∙ ap Some c.in-Some-found.is)
    ∙ ap (λ n. Some (type_at n)) (sym c.in_ok-share-in-Some-found.ensures)

pub returns-in-None-found-clause-err : goal.returns-in-None-found-clause-err
returns-in-None-found-clause-err c =
    (var_in c.args.vars.now c.args.x ∙ ap joined (sym c.of.ensures ∙ ap option_copied c.in-Some.is ∙ ap Some c.in-None-found.is), refl)

pub returns-in-None-clause-err : goal.returns-in-None-clause-err
returns-in-None-clause-err c = (var_in c.args.vars.now c.args.x ∙ ap joined (sym c.of.ensures ∙ ap option_copied c.in-None.is), refl)
