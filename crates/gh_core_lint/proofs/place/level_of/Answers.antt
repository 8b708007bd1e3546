use Rattle.std.proofs.Common.{◌≡◌, ◌+◌, sym, ap, ◌∙◌, length}
use Rattle.gh_core.specs.Typing.{level_in}
use Rattle.gh_core_lint.proofs.Places.{level_some, level_none}
use Rattle.gh_core_lint.proofs.Results.{ok_more}
use Rattle.gh_core_lint.proofs.place.level_of.Goals as goal

pub returns-in-Some : goal.returns-in-Some
returns-in-Some c = level_some c.args.kinds.now c.args.number c.in-Some.place (length c.args.kinds.now) (sym c.place.ensures ∙ c.in-Some.is)

pub returns-in-None : goal.returns-in-None
returns-in-None c =
    let ks = c.args.kinds.now in
    ok_more c.plus.result (λ level. level ≡ c.count.result + c.args.number) (λ level. level ≡ level_in ks c.args.number (length ks))
    (λ level e. e ∙ ap (λ n. n + c.args.number) c.count.ensures.value ∙ level_none ks c.args.number (length ks) (sym c.place.ensures ∙ c.in-None.is))
    c.plus.ensures
