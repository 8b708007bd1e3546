-- A list with one more operator and leaf is a list.
use Rattle.std.proofs.Common.{◌≡◌, ℕ, true, List, [], ◌∷◌, ◌++◌, refl}
use Rattle.gh_base.specs.declared.place.Span.{Span}
use Rattle.gh_fixity.specs.declared.item.Fixity.{Fixity}
use Rattle.gh_fixity.specs.declared.item.Item.{Item}
use Rattle.gh_fixity.specs.declared.item.Item.TheVariants as item
use Rattle.gh_fixity.specs.Arrangement.{is_list, is_rest}

mutual
  pub longer_list : (xs : List Item) (f : Fixity) (s : Span) (n : ℕ) → is_list xs ≡ true → is_list (xs ++ item.Op f s ∷ item.Leaf n ∷ []) ≡ true
  longer_list [] f s n h = absurd (cc)
  longer_list (item.Leaf m ∷ xs) f s n h = longer_rest xs f s n h
  longer_list (item.Minus u ∷ []) f s n h = absurd (cc)
  longer_list (item.Minus u ∷ (item.Leaf m ∷ xs)) f s n h = longer_rest xs f s n h
  longer_list (item.Minus u ∷ (item.Minus v ∷ xs)) f s n h = absurd (cc)
  longer_list (item.Minus u ∷ (item.Op g v ∷ xs)) f s n h = absurd (cc)
  longer_list (item.Op g u ∷ xs) f s n h = absurd (cc)

  pub longer_rest : (xs : List Item) (f : Fixity) (s : Span) (n : ℕ) → is_rest xs ≡ true → is_rest (xs ++ item.Op f s ∷ item.Leaf n ∷ []) ≡ true
  longer_rest [] f s n h = refl
  longer_rest (item.Leaf m ∷ xs) f s n h = absurd (cc)
  longer_rest (item.Minus u ∷ xs) f s n h = absurd (cc)
  longer_rest (item.Op g u ∷ xs) f s n h = longer_list xs f s n h
