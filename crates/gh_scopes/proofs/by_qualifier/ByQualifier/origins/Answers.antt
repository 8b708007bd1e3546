use Rattle.std.proofs.Common.{[], ap, ◌∙◌, unwrap_or}
use Rattle.std.specs.HashMap.{get}
use Rattle.gh_scopes.specs.Keys.{same_key}
use Rattle.gh_scopes.proofs.by_qualifier.ByQualifier.origins.Goals as goal

pub returns-in-Some : goal.returns-in-Some
returns-in-Some c =
    c.as_slice.ensures ∙ ap (λ o. unwrap_or o []) (c.in-Some.ensures.value ∙ ap (get same_key c.args.self.now.table) c.qualifier_key.ensures)
    ∙ c.args.self.now.exports_are c.args.qualifier

pub returns-in-None : goal.returns-in-None
returns-in-None c =
    ap (λ o. unwrap_or o []) (c.in-None.ensures.value ∙ ap (get same_key c.args.self.now.table) c.qualifier_key.ensures)
    ∙ c.args.self.now.exports_are c.args.qualifier
