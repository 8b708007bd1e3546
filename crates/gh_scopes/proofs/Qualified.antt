-- An entry with a qualifier, in the table by qualifiers.
use Rattle.std.proofs.Common.{◌≡◌, ℕ, ◌+◌, ◌<◌, Bool, true, false, ◌&&◌, ◌||◌, ◌==◌, nat_eq, cond, List, [], ◌∷◌, ◌++◌, length, get_or, take, Some, None, refl, sym, ap, ◌∙◌}
use Rattle.std.specs.List.{list_any}
use Rattle.std.proofs.lemmas.Bool.{eq-eqb}
use Rattle.gh_base.specs.declared.names.NameId.{NameId}
use Rattle.gh_base.specs.declared.place.Origin.{Origin}
use Rattle.gh_scopes.specs.declared.types.ScopeEntry.{ScopeEntry}
use Rattle.gh_scopes.specs.declared.types.Import.{Import}
use Rattle.gh_scopes.specs.declared.types.Summary.{Summary}
use Rattle.gh_scopes.specs.Keys.{Key, same_key, same_entry, entry_key, qualifier_key, qualifier_kind, qualifier_number, space_number}
use Rattle.gh_scopes.specs.Found.{entry, among}
use Rattle.gh_scopes.specs.Exports.{exported_by, has_qualifier, is_qualifier}
use Rattle.gh_scopes.proofs.Lists.{any_push, front_more, or_choice}

and_end : (b : Bool) → (b && true) ≡ b
and_end true = refl
and_end false = refl

same_self : (m s n : ℕ) → (nat_eq m m && (nat_eq s s && nat_eq n n)) ≡ true
same_self m s n = (λ j. eq-eqb m m refl j && (eq-eqb s s refl j && eq-eqb n n refl j))

-- qualifiers are told apart by their keys
pub key_is : (p q : NameId) → same_key (qualifier_key p) (qualifier_key q) ≡ (p.0 == q.0)
unfolding qualifier_key
key_is p q = and_end (nat_eq p.0 q.0)

-- one more import
pub one_more : (old new : Key → Bool) (i : Import) (k : Key) → k ≡ qualifier_key i.qualifier → ((j : Key) → new j ≡ cond (same_key k j) true (old j))
    → (q : NameId) → new (qualifier_key q) ≡ (old (qualifier_key q) || has_qualifier q i)
one_more old new i k is up q =
    up (qualifier_key q) ∙ or_choice (old (qualifier_key q)) (same_key k (qualifier_key q))
    ∙ ap (λ j. old (qualifier_key q) || same_key j (qualifier_key q)) is ∙ ap (λ b. old (qualifier_key q) || b) (key_is i.qualifier q)

or_assoc : (a b c : Bool) → ((a || b) || c) ≡ (a || (b || c))
or_assoc true b c = refl
or_assoc false b c = refl

pub or_end : (b : Bool) → b ≡ (b || false)
or_end true = refl
or_end false = refl

pub imports_more : (q : NameId) (is : List Import) (k : ℕ) (i : Import) (before now after : Bool) → k < length is → i ≡ get_or is k i
    → now ≡ (before || list_any (has_qualifier q) (take k is)) → after ≡ (now || has_qualifier q i) → after ≡ (before || list_any (has_qualifier q) (take (k + 1) is))
imports_more q is k i before now after lt at e up =
    up ∙ ap (λ b. b || has_qualifier q i) e ∙ or_assoc before (list_any (has_qualifier q) (take k is)) (has_qualifier q i)
    ∙ ap (λ b. before || b) (sym (any_push (has_qualifier q) (take k is) i)) ∙ ap (λ l. before || list_any (has_qualifier q) l) (sym (front_more is k i lt at))

-- the name of the module and those of the imports
pub whole_set : (s : Summary) (k : Key) (start first last : Key → Bool) → k ≡ qualifier_key s.name → ((j : Key) → start j ≡ false) → ((j : Key) → first j ≡ cond (same_key k j) true (start j))
    → ((q : NameId) → last (qualifier_key q) ≡ (first (qualifier_key q) || list_any (has_qualifier q) s.imports)) → (q : NameId) → last (qualifier_key q) ≡ is_qualifier s q
whole_set s k start first last is none up more q =
    more q ∙ ap (λ b. b || list_any (has_qualifier q) s.imports)
    (up (qualifier_key q) ∙ ap (cond (same_key k (qualifier_key q)) true) (none (qualifier_key q)) ∙ or_choice false (same_key k (qualifier_key q))
    ∙ ap (λ j. same_key j (qualifier_key q)) is ∙ key_is s.name q)

-- an entry has a qualifier where their keys are the same
pub by_key : (e : ScopeEntry) (p q : NameId) → e.qualifier ≡ Some p → same_entry e (entry (Some q) e.origin) ≡ same_key (qualifier_key p) (qualifier_key q)
unfolding entry_key qualifier_key
by_key e p q is =
    (λ j. nat_eq (qualifier_kind (is j)) 1 && (nat_eq (qualifier_number (is j)) q.0 && same_self e.origin.«module».0 (space_number e.origin.space) e.origin.name.0 j))

-- one without a qualifier has none of them
pub by_none : (e : ScopeEntry) (q : NameId) → e.qualifier ≡ None → same_entry e (entry (Some q) e.origin) ≡ false
unfolding entry_key
by_none e q is = ap (λ o. nat_eq (qualifier_kind o) 1 && (nat_eq (qualifier_number o) q.0 && (nat_eq e.origin.«module».0 e.origin.«module».0 && (nat_eq (space_number e.origin.space) (space_number e.origin.space) && nat_eq e.origin.name.0 e.origin.name.0)))) is

-- nothing is exported with an entry that has no qualifier
pub none_exported : (es : List ScopeEntry) (e : ScopeEntry) (q : NameId) → e.qualifier ≡ None → exported_by es q e ≡ []
none_exported es e q is = ap (λ b. cond (b && among es (entry None e.origin)) (e.origin ∷ []) []) (by_none e q is)

-- nothing is exported with an entry whose origin is not in scope without a qualifier
pub not_alone : (es : List ScopeEntry) (e : ScopeEntry) (q : NameId) → among es (entry None e.origin) ≡ false → exported_by es q e ≡ []
not_alone es e q is = ap (λ b. cond (same_entry e (entry (Some q) e.origin) && b) (e.origin ∷ []) []) is ∙ ap (λ b. cond b (e.origin ∷ []) []) (and_false (same_entry e (entry (Some q) e.origin)))
  where
    and_false : (b : Bool) → (b && false) ≡ false
    and_false true = refl
    and_false false = refl

-- another is exported with its qualifier
pub is_exported : (es : List ScopeEntry) (e : ScopeEntry) (p q : NameId) → e.qualifier ≡ Some p → among es (entry None e.origin) ≡ true
    → exported_by es q e ≡ cond (same_key (qualifier_key p) (qualifier_key q)) (e.origin ∷ []) []
is_exported es e p q is alone =
    (λ j. cond (by_key e p q is j && alone j) (e.origin ∷ []) [])
    ∙ ap (λ b. cond b (e.origin ∷ []) []) (and_end (same_key (qualifier_key p) (qualifier_key q)))

append_end : (xs : List Origin) → xs ++ [] ≡ xs
append_end [] = refl
append_end (x ∷ xs) = ap (λ l. x ∷ l) (append_end xs)

-- what stays as it is
pub nothing_more : (now more : List Origin) → more ≡ [] → now ≡ now ++ more
nothing_more now more e = sym (append_end now) ∙ ap (λ l. now ++ l) (sym e)
