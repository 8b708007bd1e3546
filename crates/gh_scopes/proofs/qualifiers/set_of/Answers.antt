use Rattle.std.proofs.Common.{◌≡◌, ◌||◌, [], List, ap, ◌∙◌, rules}
use Rattle.std.specs.HashSet.{contains}
use Rattle.std.specs.List.{list_any}
use Rattle.gh_scopes.specs.declared.types.Import.{Import}
use Rattle.gh_scopes.specs.Keys.{Key, same_key, qualifier_key}
use Rattle.gh_scopes.specs.Exports.{has_qualifier}
use Rattle.gh_scopes.proofs.Qualified.{whole_set}
use Rattle.gh_scopes.proofs.qualifiers.set_of.Goals as goal

pub returns : goal.returns
returns c =
    let none : c.new-set.result.keys ≡ [] = search (rules, c.new-set.ensures.empty) in
    whole_set c.args.summary.now c.qualifier_key.result (contains same_key c.new-set.result) (contains same_key c.put_key.new.set) (contains same_key c.put_imports.new.set)
    c.qualifier_key.ensures (λ j. ap (λ (ks : List Key). list_any (same_key j) ks) none) c.in_ok-put_key.ensures
    (λ q. c.in_ok-put_imports.ensures q ∙ ap (λ (is : List Import). contains same_key c.put_key.new.set (qualifier_key q) || list_any (has_qualifier q) is) c.as_slice.ensures)
