-- Entries that are entered one after another.
use Rattle.std.proofs.Common.{◌≡◌, Bool, true, false, ◌||◌, if◌then◌else◌, List, [], ◌∷◌, ◌++◌, refl, sym, ap, ◌∙◌}
use Rattle.std.specs.List.{flat_map, list_any}
use Rattle.std.proofs.lemmas.List.Folds.{list_any-append}
use Rattle.std.proofs.lemmas.Bool.{false≢true, false_from_ne_true, or_parts}
use Rattle.gh_scopes.specs.declared.types.ScopeEntry.{ScopeEntry}
use Rattle.gh_scopes.specs.Keys.{Key, same_key, entry_key, same_entry}
use Rattle.gh_scopes.specs.Found.{among, with_entry, with_entries}
use Rattle.gh_scopes.specs.Imports.{own_given, import_gives, scope_of}
use Rattle.gh_scopes.proofs.SameKeys.{keys_equal}
use Rattle.gh_scope_laws.specs.Entries.{Apart, EachEntry, EachOnce}

-- an entry of the same key is in the same lists
same_among : (es : List ScopeEntry) (e x : ScopeEntry) → same_entry e x ≡ true → among es e ≡ among es x
same_among es e x h = ap (λ (k : Key). list_any (λ (y : ScopeEntry). same_key (entry_key y) k) es) (keys_equal (entry_key e) (entry_key x) h)

turned : (e x : ScopeEntry) → same_entry x e ≡ false → same_entry e x ≡ false
turned e x never = false_from_ne_true (same_entry e x) (λ h.
    let p = keys_equal (entry_key e) (entry_key x) h in
    false≢true (sym never ∙ (λ i. same_key (sym p i) (p i)) ∙ h))

or_end : (b : Bool) → (b || false) ≡ b
or_end true = refl
or_end false = refl

or_assoc : (a b c : Bool) → ((a || b) || c) ≡ (a || (b || c))
or_assoc true b c = refl
or_assoc false b c = refl

pushed : (es : List ScopeEntry) (e x : ScopeEntry) → among (es ++ e ∷ []) x ≡ (among es x || same_entry e x)
pushed es e x = list_any-append (λ y. same_entry y x) es (e ∷ []) ∙ ap (λ b. among es x || b) (or_end (same_entry e x))

-- what is there stays as it is
there : (a b : Bool) → (b ≡ true → a ≡ true) → a ≡ (a || b)
there true b h = refl
there false true h = h refl
there false false h = refl

entered_one : (es : List ScopeEntry) (e x : ScopeEntry) → among (with_entry es e) x ≡ (among es x || same_entry e x)
entered_one es e x = by (among es e) refl
  where
    by : (b : Bool) → among es e ≡ b → among (if b then es else es ++ e ∷ []) x ≡ (among es x || same_entry e x)
    by true h = there (among es x) (same_entry e x) (λ s. sym (same_among es e x s) ∙ h)
    by false h = pushed es e x

entered : (es xs : List ScopeEntry) (x : ScopeEntry) → among (with_entries es xs) x ≡ (among es x || among xs x)
entered es [] x = sym (or_end (among es x))
entered es (y ∷ ys) x =
    entered (with_entry es y) ys x ∙ ap (λ b. b || among ys x) (entered_one es y x) ∙ or_assoc (among es x) (same_entry y x) (among ys x)

pub each_entry : EachEntry
unfolding scope_of
each_entry ss exs s e =
    let own = flat_map (own_given s.name) s.definitions in
    let given = flat_map (import_gives ss exs) s.imports in
    entered [] (own ++ given) e ∙ list_any-append (λ y. same_entry y e) own given

apart_push : (es : List ScopeEntry) (e : ScopeEntry) → Apart es → among es e ≡ false → Apart (es ++ e ∷ [])
apart_push [] e a never = (refl, a)
apart_push (x ∷ es) e a never =
    let p = or_parts (same_entry x e) (among es e) never in
    (pushed es e x ∙ (λ i. a.0 i || turned e x p.0 i), apart_push es e a.1 p.1)

apart_one : (es : List ScopeEntry) (e : ScopeEntry) → Apart es → Apart (with_entry es e)
apart_one es e a = by (among es e) refl
  where
    by : (b : Bool) → among es e ≡ b → Apart (if b then es else es ++ e ∷ [])
    by true h = a
    by false h = apart_push es e a h

apart_all : (es xs : List ScopeEntry) → Apart es → Apart (with_entries es xs)
apart_all es [] a = a
apart_all es (x ∷ xs) a = apart_all (with_entry es x) xs (apart_one es x a)

pub each_once : EachOnce
unfolding scope_of
each_once ss exs s = apart_all [] (flat_map (own_given s.name) s.definitions ++ flat_map (import_gives ss exs) s.imports) tt
