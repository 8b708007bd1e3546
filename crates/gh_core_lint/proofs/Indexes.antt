-- Tables of names, one name more in front.
use Rattle.std.proofs.Common.{◌≡◌, ℕ, suc, Bool, true, false, cond, List, [], ◌∷◌, drop, refl, sym, ap, subst, ◌∙◌, Option, Some}
use Rattle.std.proofs.lemmas.Bool.{false≢true}
use Rattle.std.specs.Option.{is_some}
use Rattle.gh_core.specs.declared.terms.CoreName.{CoreName}
use Rattle.gh_core.specs.Reduce.{same_name}
use Rattle.gh_core.specs.Typing.{name_among, NamesDiffer}
use Rattle.gh_core_lint.specs.Keys.{Key, key_of, same_key, first_from}
use Rattle.gh_core_lint.proofs.Keys.{keys_same}

-- one name more in front
pub put_first : (n : CoreName) (ns : List CoreName) (i : ℕ) (name : CoreName) (k : Key) (old new : Option ℕ) → k ≡ key_of n
    → new ≡ cond (same_key k (key_of name)) (Some i) old → old ≡ first_from (suc i) ns name → new ≡ first_from i (n ∷ ns) name
put_first n ns i name k old new e up h =
    up ∙ (λ j. cond (same_key (e j) (key_of name)) (Some i) (h j)) ∙ ap (λ b. cond b (Some i) (first_from (suc i) ns name)) (keys_same n name)

some_choice : (b : Bool) (i : ℕ) (o : Option ℕ) (r : Bool) → r ≡ is_some o → cond b true r ≡ is_some (cond b (Some i) o)
some_choice true i o r h = refl
some_choice false i o r h = h

-- a name is among others where it has a place
pub among_placed : (ns : List CoreName) (i : ℕ) (name : CoreName) → name_among ns name ≡ is_some (first_from i ns name)
among_placed [] i name = refl
among_placed (n ∷ ns) i name = some_choice (same_name n name) i (first_from (suc i) ns name) (name_among ns name) (among_placed ns (suc i) name)

-- the last of names that differ do so
pub rest_differ : (i : ℕ) (ns : List CoreName) → NamesDiffer ns → NamesDiffer (drop i ns)
rest_differ ℕ.zero ns h = h
rest_differ (ℕ.suc i) [] h = h
rest_differ (ℕ.suc i) (n ∷ ns) h = rest_differ i ns h.1

-- a name that stands before an equal one
pub doubled : (ns : List CoreName) (i x : ℕ) (n : CoreName) → drop i ns ≡ n ∷ drop (suc i) ns → first_from (suc i) (drop (suc i) ns) n ≡ Some x → NamesDiffer ns → ⊥
doubled ns i x n cut h d =
    let both = subst NamesDiffer cut (rest_differ i ns d) in
    let yes : name_among (drop (suc i) ns) n ≡ true = among_placed (drop (suc i) ns) (suc i) n ∙ ap is_some h in
    absurd (false≢true (sym both.0 ∙ yes))
