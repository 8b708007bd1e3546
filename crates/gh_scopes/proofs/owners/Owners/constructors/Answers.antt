use Rattle.std.proofs.Common.{[], ap, ◌∙◌, unwrap_or}
use Rattle.std.specs.HashMap.{get}
use Rattle.gh_scopes.specs.Keys.{same_key, type_key}
use Rattle.gh_scopes.proofs.owners.Owners.constructors.Goals as goal

pub returns-in-Some : goal.returns-in-Some
returns-in-Some c =
    c.as_slice.ensures ∙ ap (λ o. unwrap_or o []) (c.in-Some.ensures.value ∙ ap (get same_key c.args.self.now.table) c.type_key.ensures)
    ∙ c.args.self.now.owners_are (type_key c.args.owner.«module» c.args.owner.name)

pub returns-in-None : goal.returns-in-None
returns-in-None c =
    ap (λ o. unwrap_or o []) (c.in-None.ensures.value ∙ ap (get same_key c.args.self.now.table) c.type_key.ensures)
    ∙ c.args.self.now.owners_are (type_key c.args.owner.«module» c.args.owner.name)
