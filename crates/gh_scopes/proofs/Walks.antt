-- Walks in layers.
use Rattle.std.proofs.Common.{◌≡◌, ◌⊎◌, inl, inr, ℕ, suc, ◌+◌, ◌<◌, ◌≤◌, Bool, true, false, ◌==◌, if◌then◌else◌, List, [], ◌∷◌, ◌++◌, length, get_or, slice_index_or, Option, Some, None, refl, sym, ap, ◌∙◌, arith}
use Rattle.std.proofs.lemmas.Bool.{cases_lt, eqb-true}
use Rattle.std.proofs.lemmas.List.{get_or_read, get_or_past, get_or_append_left}
use Rattle.std.proofs.Math.Seq.{get_or-append_seam}
use Rattle.gh_scopes.specs.Graph.{walk, first_some, begin_with}
use Rattle.gh_scopes.specs.Layers.{here, one_further, IsLayer, AreLayers}
use Rattle.gh_scopes.proofs.Loops.{first_same}

-- what stands for a file in a layer
pub layer_here : (g : List (List ℕ)) (to : ℕ) (layers : List (List (Option (List ℕ)))) (i : ℕ) (layer : List (Option (List ℕ))) (a : ℕ) → i < length layers → layer ≡ get_or layers i layer
    → AreLayers g to (length layers) layers → slice_index_or layer a None ≡ walk g to i a
layer_here g to layers i layer a lt at are = ap (λ l. slice_index_or l a None) (get_or_read layers i layer lt at []) ∙ are i lt a

apart : (b : Bool) (a to : ℕ) → (a == to) ≡ b → to < a → here to a ≡ None
apart true a to h lt = absurd (let e = eqb-true a to h in omega arith)
apart false a to h lt = ap (λ c. if c then Some [] else None) h

nowhere : (a to : ℕ) → to < a → here to a ≡ None
nowhere a to lt = apart (a == to) a to refl lt

walk_here : (g : List (List ℕ)) (to a : ℕ) → walk g to 0 a ≡ here to a
unfolding walk
walk_here g to a = refl

-- the walks without imports
pub base_layer : (to count : ℕ) (layer : List (Option (List ℕ))) → to < count → length layer ≡ count → ((a : ℕ) → a < count → slice_index_or layer a None ≡ here to a)
    → (g : List (List ℕ)) → IsLayer g to 0 layer
base_layer to count layer lt many is g = λ a. by a (cases_lt a count)
  where
    by : (a : ℕ) → (a < count) ⊎ (count ≤ a) → slice_index_or layer a None ≡ walk g to 0 a
    by a (inl l) = is a l ∙ sym (walk_here g to a)
    by a (inr l) = get_or_past layer a None (omega arith) ∙ sym (nowhere a to (omega arith)) ∙ sym (walk_here g to a)

walk_more : (g : List (List ℕ)) (to n a : ℕ) → walk g to (suc n) a ≡ begin_with a (first_some (walk g to n) (slice_index_or g a []))
unfolding walk
walk_more g to n a = refl

-- the walks with one import more
pub further_layer : (g : List (List ℕ)) (layer next : List (Option (List ℕ))) → length next ≡ length g → ((a : ℕ) → a < length g → slice_index_or next a None ≡ one_further g layer a)
    → (to n : ℕ) → IsLayer g to n layer → IsLayer g to (suc n) next
further_layer g layer next many is to n now = λ a. by a (cases_lt a (length g))
  where
    by : (a : ℕ) → (a < length g) ⊎ (length g ≤ a) → slice_index_or next a None ≡ walk g to (suc n) a
    by a (inl l) = is a l ∙ ap (begin_with a) (first_same (λ (f : ℕ). slice_index_or layer f None) (walk g to n) (slice_index_or g a []) now) ∙ sym (walk_more g to n a)
    by a (inr l) = get_or_past next a None (omega arith) ∙ sym (ap (λ fs. begin_with a (first_some (walk g to n) fs)) (get_or_past g a [] l)) ∙ sym (walk_more g to n a)

-- one layer more
pub layers_push : (g : List (List ℕ)) (to n : ℕ) (layers : List (List (Option (List ℕ)))) (layer : List (Option (List ℕ))) → length layers ≡ n
    → AreLayers g to n layers → IsLayer g to n layer → AreLayers g to (n + 1) (layers ++ layer ∷ [])
layers_push g to n layers layer many are one = λ m lt. by m (cases_lt m n) lt
  where
    by : (m : ℕ) → (m < n) ⊎ (n ≤ m) → m < n + 1 → IsLayer g to m (slice_index_or (layers ++ layer ∷ []) m [])
    by m (inl l) lt = λ a. ap (λ x. slice_index_or x a None) (get_or_append_left layers (layer ∷ []) [] m (omega arith)) ∙ are m l a
    by m (inr l) lt = λ a.
        let e : length layers ≡ m = omega arith in
        let f : m ≡ n = omega arith in
        ap (λ k. slice_index_or (slice_index_or (layers ++ layer ∷ []) k []) a None) (sym e)
        ∙ ap (λ x. slice_index_or x a None) (get_or-append_seam layers layer [] []) ∙ one a ∙ ap (λ k. walk g to k a) (sym f)

-- a layer's entry for one file more
pub layer_push : (count : ℕ) (layer : List (Option (List ℕ))) (f : ℕ → Option (List ℕ)) (w : Option (List ℕ)) → length layer ≡ count
    → ((a : ℕ) → a < count → slice_index_or layer a None ≡ f a) → w ≡ f count → (a : ℕ) → a < count + 1 → slice_index_or (layer ++ w ∷ []) a None ≡ f a
layer_push count layer f w many is new a lt = by (cases_lt a count)
  where
    by : (a < count) ⊎ (count ≤ a) → slice_index_or (layer ++ w ∷ []) a None ≡ f a
    by (inl l) = get_or_append_left layer (w ∷ []) None a (omega arith) ∙ is a l
    by (inr l) =
        let e : length layer ≡ a = omega arith in
        let h : count ≡ a = omega arith in
        ap (λ k. slice_index_or (layer ++ w ∷ []) k None) (sym e) ∙ get_or-append_seam layer w [] None ∙ new ∙ ap f h
