-- Lists of nodes that are arranged one after another, and the first of their clashes.
use Rattle.std.proofs.Common.{◌≡◌, List, [], ◌∷◌, ◌++◌, reverse, Option, Some, None, refl, sym, ap, ◌∙◌, append_assoc}
use Rattle.std.proofs.lemmas.List.{reverse-append}
use Rattle.gh_base.specs.declared.place.Span.{Span}
use Rattle.gh_fixity.specs.declared.part.Clash.{Clash}
use Rattle.gh_fixity.specs.declared.part.Part.{Part}
use Rattle.gh_fixity.specs.Exps.{signed}
use Rattle.gh_fixity.specs.Fixities.{LocalFixities}
use Rattle.gh_fixity.specs.Walks.{Walk, trees, all_clashes, all_trees, earlier, least}

pub least_append : (f : Option Clash) (xs ys : List Clash) → least f (xs ++ ys) ≡ least (least f xs) ys
least_append f [] ys = refl
least_append f (x ∷ xs) ys = least_append (earlier f x) xs ys

pub signed_append : (m : Option Span) (xs ys : List Part) → signed m xs ++ ys ≡ signed m (xs ++ ys)
signed_append None xs ys = refl
signed_append (Some s) xs ys = refl

turned : {X : Type 0} (old new : List X) (x : X) → old ≡ new ++ x ∷ [] → reverse old ≡ x ∷ reverse new
turned old new x e = ap reverse e ∙ reverse-append new (x ∷ [])

module _ {X Y : Type 0} (h : List X → List (Walk Y)) (f : X → Walk Y) (cons : (x : X) (xs : List X) → h (x ∷ xs) ≡ f x ∷ h xs) (l m : LocalFixities) where
  -- one node more
  pub popped_tree : (old new : List X) (x : X) (y : Y) (total done more : List Y) → old ≡ new ++ x ∷ [] → y ≡ (f x m).tree → m ≡ l
      → total ≡ done ++ trees l (h (reverse old)) → more ≡ done ++ y ∷ [] → total ≡ more ++ trees l (h (reverse new))
  popped_tree old new x y total done more e v s t p =
      t ∙ ap (λ xs. done ++ trees l (h xs)) (turned old new x e) ∙ ap (λ gs. done ++ trees l gs) (cons x (reverse new))
      ∙ ap (λ k. done ++ ((f x k).tree ∷ trees l (h (reverse new)))) (sym s)
      ∙ ap (λ z. done ++ (z ∷ trees l (h (reverse new)))) (sym v)
      ∙ sym (append_assoc done (y ∷ []) (trees l (h (reverse new)))) ∙ ap (λ d. d ++ trees l (h (reverse new))) (sym p)

  pub popped_clashes : (old new : List X) (x : X) (total before after : Option Clash) → old ≡ new ++ x ∷ [] → after ≡ least before (f x m).clashes → m ≡ l
      → total ≡ least before (all_clashes l (h (reverse old))) → total ≡ least after (all_clashes l (h (reverse new)))
  popped_clashes old new x total before after e v s t =
      t ∙ ap (λ xs. least before (all_clashes l (h xs))) (turned old new x e) ∙ ap (λ gs. least before (all_clashes l gs)) (cons x (reverse new))
      ∙ least_append before (f x l).clashes (all_clashes l (h (reverse new)))
      ∙ ap (λ k. least (least before (f x k).clashes) (all_clashes l (h (reverse new)))) (sym s)
      ∙ ap (λ b. least b (all_clashes l (h (reverse new)))) (sym v)

module _ {X Y : Type 0} (h : List X → List (Walk (List Y))) (f : X → Walk (List Y)) (cons : (x : X) (xs : List X) → h (x ∷ xs) ≡ f x ∷ h xs) (l m : LocalFixities) where
  -- one node more, of which each is several parts
  pub popped_parts : (old new : List X) (x : X) (total done more : List Y) → old ≡ new ++ x ∷ [] → more ≡ done ++ (f x m).tree → m ≡ l
      → total ≡ done ++ all_trees l (h (reverse old)) → total ≡ more ++ all_trees l (h (reverse new))
  popped_parts old new x total done more e v s t =
      t ∙ ap (λ xs. done ++ all_trees l (h xs)) (turned old new x e) ∙ ap (λ gs. done ++ all_trees l gs) (cons x (reverse new))
      ∙ ap (λ k. done ++ ((f x k).tree ++ all_trees l (h (reverse new)))) (sym s)
      ∙ sym (append_assoc done (f x m).tree (all_trees l (h (reverse new)))) ∙ ap (λ d. d ++ all_trees l (h (reverse new))) (sym v)
