-- Entries that are entered one after another, each once.
use Rattle.std.proofs.Common.{◌≡◌, ℕ, ◌+◌, ◌<◌, List, [], ◌∷◌, ◌++◌, length, get_or, take, map, Bool, cond, Result, Ok, Err, IfOk, refl, sym, ap, ◌∙◌}
use Rattle.std.specs.List.{flat_map}
use Rattle.gh_base.specs.declared.names.NameId.{NameId}
use Rattle.gh_base.specs.declared.place.Origin.{Origin}
use Rattle.gh_scopes.specs.Imports.{given_origin}
use Rattle.std.proofs.lemmas.List.Concat.{flat_map-append}
use Rattle.gh_scopes.specs.declared.types.ScopeEntry.{ScopeEntry}
use Rattle.gh_scopes.specs.Found.{with_entry, with_entries, once}
use Rattle.std.proofs.lemmas.List.{take_more}

pub entered_both : (it xs ys : List ScopeEntry) → with_entries it (xs ++ ys) ≡ with_entries (with_entries it xs) ys
entered_both it [] ys = refl
entered_both it (x ∷ xs) ys = entered_both (with_entry it x) xs ys

append_end : {A : Type 0} (xs : List A) → xs ++ [] ≡ xs
append_end [] = refl
append_end (x ∷ xs) = ap (λ l. x ∷ l) (append_end xs)

-- one more piece
pub entered_more : {X : Type 0} (f : X → List ScopeEntry) (it : List ScopeEntry) (xs : List X) (x : X)
    → with_entries (with_entries it (flat_map f xs)) (f x) ≡ with_entries it (flat_map f (xs ++ x ∷ []))
entered_more f it xs x =
    sym (entered_both it (flat_map f xs) (f x))
    ∙ ap (with_entries it) (ap (λ l. flat_map f xs ++ l) (sym (append_end (f x))) ∙ sym (flat_map-append f xs (x ∷ [])))

-- the piece of the next item, where items are read with what stands for those that are not there
pub entered_step : {X : Type 0} (f : X → List ScopeEntry) (it : List ScopeEntry) (xs : List X) (i : ℕ) (d : X) (now after : List ScopeEntry)
    → i < length xs → now ≡ with_entries it (flat_map f (take i xs)) → after ≡ with_entries now (f (get_or xs i d)) → after ≡ with_entries it (flat_map f (take (i + 1) xs))
entered_step f it xs i d now after lt is up =
    up ∙ ap (λ n. with_entries n (f (get_or xs i d))) is ∙ entered_more f it (take i xs) (get_or xs i d) ∙ ap (λ l. with_entries it (flat_map f l)) (sym (take_more xs i d lt))

mapped : {A B : Type 0} (h : A → B) (xs : List A) (x : A) → map h (xs ++ x ∷ []) ≡ map h xs ++ h x ∷ []
mapped h [] x = refl
mapped h (y ∷ ys) x = ap (λ l. h y ∷ l) (mapped h ys x)

-- one more entry of its own
pub entered_one : {X : Type 0} (h : X → ScopeEntry) (xs : List X) (i : ℕ) (d : X) (now after : List ScopeEntry)
    → i < length xs → now ≡ once (map h (take i xs)) → after ≡ with_entry now (h (get_or xs i d)) → after ≡ once (map h (take (i + 1) xs))
entered_one h xs i d now after lt is up =
    up ∙ ap (λ n. with_entry n (h (get_or xs i d))) is ∙ sym (entered_both [] (map h (take i xs)) (h (get_or xs i d) ∷ []))
    ∙ ap once (sym (mapped h (take i xs) (get_or xs i d))) ∙ ap (λ l. once (map h l)) (sym (take_more xs i d lt))

-- what is entered where something is wanted
pub chosen_up : (q : Bool) (n : NameId) (o : Origin) (now after : List ScopeEntry) (b w : Bool) → after ≡ with_entries now (cond b (given_origin q n o) []) → b ≡ w
    → after ≡ with_entries now (cond w (given_origin q n o) [])
chosen_up q n o now after b w is same = is ∙ ap (λ x. with_entries now (cond x (given_origin q n o) [])) same

-- first these entries, then those
pub both_up : {E : Type 0} (r : Result (List ScopeEntry) E) (it own given : List ScopeEntry) → IfOk r (λ x. x ≡ with_entries it given) → it ≡ with_entries [] own → IfOk r (λ x. x ≡ once (own ++ given))
both_up (Ok x) it own given is same = is ∙ ap (λ l. with_entries l given) same ∙ sym (entered_both [] own given)
both_up (Err e) it own given is same = is
