use Rattle.std.proofs.Common.{◌≡◌, ◌++◌, [], ◌∷◌, List, unwrap_or, cond, true, None, sym, ap, ◌∙◌}
use Rattle.std.specs.HashMap.{get}
use Rattle.gh_base.specs.declared.place.Origin.{Origin}
use Rattle.gh_scopes.specs.Found.{entry, among}
use Rattle.gh_scopes.specs.Keys.{Key, same_key, qualifier_key}
use Rattle.gh_scopes.proofs.Qualified.{none_exported, is_exported, nothing_more}
use Rattle.gh_scopes.proofs.by_qualifier.put_entry.Goals as goal

pub returns-in-None : goal.returns-in-None
returns-in-None c = λ q.
    nothing_more (unwrap_or (get same_key c.args.table.now (qualifier_key q)) []) _ (none_exported c.args.once.now c.args.one q c.in-None.is)

pub returns-in_ok-put_at-in-Some : goal.returns-in_ok-put_at-in-Some
returns-in_ok-put_at-in-Some c = λ q.
    let before : List Origin = unwrap_or (get same_key c.args.table.now (qualifier_key q)) [] in
    let alone : among c.args.once.now (entry None c.args.one.origin) ≡ true = ap (among c.args.once.now) (sym c.entry.ensures) ∙ sym c.has.ensures ∙ c.if-has.true in
    c.in_ok-put_at-in-Some.ensures (qualifier_key q)
    ∙ ap (λ (k : Key). before ++ cond (same_key k (qualifier_key q)) (c.args.one.origin ∷ []) []) c.qualifier_key.ensures
    ∙ ap (λ (l : List Origin). before ++ l) (sym (is_exported c.args.once.now c.args.one c.in-Some.qualifier q c.in-Some.is alone))
