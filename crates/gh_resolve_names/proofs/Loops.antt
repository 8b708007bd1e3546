-- Loops over lists of parts: what one becomes after another, and the first of the wrong uses in them.
use Rattle.std.proofs.Common.{◌≡◌, ℕ, ◌+◌, ◌<◌, List, [], ◌∷◌, ◌++◌, length, map, drop, get_or, Option, refl, sym, ap, ◌∙◌, append_assoc}
use Rattle.std.proofs.lemmas.List.{drop_more}
use Rattle.gh_resolve_names.specs.declared.misuse.Misuse.{Misuse}
use Rattle.gh_resolve_names.specs.Misuses.{Walk, trees, all_misuses, earlier, least, joined}

pub least_append : (f : Option Misuse) (xs ys : List Misuse) → least f (xs ++ ys) ≡ least (least f xs) ys
least_append f [] ys = refl
least_append f (x ∷ xs) ys = least_append (earlier f x) xs ys

front : {X : Type 0} (xs : List X) (i : ℕ) (x : X) → i < length xs → x ≡ get_or xs i x → drop i xs ≡ x ∷ drop (i + 1) xs
front xs i x lt at = drop_more xs i x lt ∙ ap (λ y. y ∷ drop (i + 1) xs) (sym at)

module _ {L X Y : Type 0} (f : X → Walk L Y) (l : L) (xs : List X) (i : ℕ) (x : X) where
  -- one part more
  pub more_trees : (total done more : List Y) → i < length xs → x ≡ get_or xs i x → total ≡ done ++ trees l (map f (drop i xs)) → more ≡ done ++ (f x l).tree ∷ []
      → total ≡ more ++ trees l (map f (drop (i + 1) xs))
  more_trees total done more lt at t m =
      t ∙ ap (λ ys. done ++ trees l (map f ys)) (front xs i x lt at)
      ∙ sym (append_assoc done ((f x l).tree ∷ []) (trees l (map f (drop (i + 1) xs))))
      ∙ ap (λ d. d ++ trees l (map f (drop (i + 1) xs))) (sym m)

  -- the first wrong use, of one part more
  pub more_misuses : (total before after : Option Misuse) → i < length xs → x ≡ get_or xs i x → total ≡ least before (all_misuses l (map f (drop i xs))) → after ≡ least before (f x l).misuses
      → total ≡ least after (all_misuses l (map f (drop (i + 1) xs)))
  more_misuses total before after lt at t m =
      t ∙ ap (λ ys. least before (all_misuses l (map f ys))) (front xs i x lt at)
      ∙ least_append before (f x l).misuses (all_misuses l (map f (drop (i + 1) xs)))
      ∙ ap (λ b. least b (all_misuses l (map f (drop (i + 1) xs)))) (sym m)

module _ {X Y : Type 0} (f : X → List Y) (xs : List X) (i : ℕ) (x : X) where
  -- what one part more gives
  pub more_joined : (total done more : List Y) → i < length xs → x ≡ get_or xs i x → total ≡ done ++ joined (map f (drop i xs)) → more ≡ done ++ f x
      → total ≡ more ++ joined (map f (drop (i + 1) xs))
  more_joined total done more lt at t m =
      t ∙ ap (λ ys. done ++ joined (map f ys)) (front xs i x lt at)
      ∙ sym (append_assoc done (f x) (joined (map f (drop (i + 1) xs))))
      ∙ ap (λ d. d ++ joined (map f (drop (i + 1) xs))) (sym m)

pub stays : {A : Type 0} (xs ys : List A) → ys ≡ [] → xs ≡ xs ++ ys
stays [] ys e = sym e
stays (x ∷ xs) ys e = ap (λ l. x ∷ l) (stays xs ys e)
