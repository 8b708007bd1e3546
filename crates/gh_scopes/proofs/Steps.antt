-- Tables with one more entry.
use Rattle.std.proofs.Common.{◌≡◌, Bool, true, cond, List, [], ◌∷◌, ◌++◌, Option, Some, None, refl, sym, ap, ◌∙◌}
use Rattle.gh_base.specs.declared.place.Origin.{Origin}
use Rattle.gh_scopes.specs.declared.types.ScopeEntry.{ScopeEntry}
use Rattle.gh_scopes.specs.Keys.{Key, same_key, entry_key, origin_key, serves}
use Rattle.gh_scopes.specs.Found.{Found, one_more, found_from, found, among, has}
use Rattle.gh_scopes.specs.Imports.{is_one_of}
use Rattle.gh_scopes.proofs.Lists.{any_push, or_choice}
use Rattle.gh_scopes.proofs.SameKeys.{at_same}

found_push : (f : Option Found) (es : List ScopeEntry) (e : ScopeEntry) (k : Key)
    → found_from f (es ++ e ∷ []) k ≡ cond (same_key (serves e) k) (Some (one_more (found_from f es k) e.origin)) (found_from f es k)
found_push f [] e k = refl
found_push f (x ∷ es) e k = found_push (cond (same_key (serves x) k) (Some (one_more f x.origin)) f) es e k

-- the table by uses
pub names_step : (old new : Key → Option Found) (es : List ScopeEntry) (e : ScopeEntry)
    → ((k : Key) → old k ≡ found es k)
    → ((k : Key) → new k ≡ cond (same_key (serves e) k) (Some (one_more (old (serves e)) e.origin)) (old k))
    → (k : Key) → new k ≡ found (es ++ e ∷ []) k
names_step old new es e is up k =
    up k ∙ (λ j. cond (same_key (serves e) k) (Some (one_more (is (serves e) j) e.origin)) (is k j))
    ∙ at_same (serves e) k (found es) (λ o. Some (one_more o e.origin)) (found es k)
    ∙ sym (found_push None es e k)

-- the set of origins
pub anywhere_step : (old new : Key → Bool) (es : List ScopeEntry) (e : ScopeEntry)
    → ((o : Origin) → old (origin_key o) ≡ has es o)
    → ((k : Key) → new k ≡ cond (same_key (origin_key e.origin) k) true (old k))
    → (o : Origin) → new (origin_key o) ≡ has (es ++ e ∷ []) o
anywhere_step old new es e is up o =
    up (origin_key o) ∙ ap (cond (same_key (origin_key e.origin) (origin_key o)) true) (is o)
    ∙ or_choice (has es o) (same_key (origin_key e.origin) (origin_key o))
    ∙ sym (any_push (λ (x : ScopeEntry). same_key (origin_key x.origin) (origin_key o)) es e)

pub seen_step : (old new : Key → Bool) (es : List ScopeEntry) (e : ScopeEntry)
    → ((x : ScopeEntry) → old (entry_key x) ≡ among es x)
    → ((k : Key) → new k ≡ cond (same_key (entry_key e) k) true (old k))
    → (x : ScopeEntry) → new (entry_key x) ≡ among (es ++ e ∷ []) x
seen_step old new es e is up x =
    up (entry_key x) ∙ ap (cond (same_key (entry_key e) (entry_key x)) true) (is x)
    ∙ or_choice (among es x) (same_key (entry_key e) (entry_key x))
    ∙ sym (any_push (λ (y : ScopeEntry). same_key (entry_key y) (entry_key x)) es e)

pub picked_step : (old new : Key → Bool) (os : List Origin) (p : Origin)
    → ((o : Origin) → old (origin_key o) ≡ is_one_of os o)
    → ((k : Key) → new k ≡ cond (same_key (origin_key p) k) true (old k))
    → (o : Origin) → new (origin_key o) ≡ is_one_of (os ++ p ∷ []) o
picked_step old new os p is up o =
    up (origin_key o) ∙ ap (cond (same_key (origin_key p) (origin_key o)) true) (is o)
    ∙ or_choice (is_one_of os o) (same_key (origin_key p) (origin_key o))
    ∙ sym (any_push (λ (x : Origin). same_key (origin_key x) (origin_key o)) os p)
