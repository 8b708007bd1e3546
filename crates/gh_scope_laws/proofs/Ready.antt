-- What the search for the first ready file finds.
use Rattle.std.proofs.Common.{◌≡◌, ℕ, suc, zero, ◌+◌, ◌<◌, Bool, true, false, not, if◌then◌else◌, List, [], ◌∷◌, length, Option, Some, None, is_some, unwrap_or, slice_index_or, refl, sym, ap, ◌∙◌, arith}
use Rattle.std.proofs.lemmas.Bool.{false≢true, and_parts}
use Rattle.gh_scopes.specs.Order.{first_ready, is_ready, taken}
use Rattle.std.specs.List.{list_all}
use Rattle.gh_scope_laws.specs.Orders.{IsFirst}

neither : (b : Bool) (f : ℕ) (o : Option ℕ) → (if b then Some f else o) ≡ None → (b ≡ false) × (o ≡ None)
neither true f o e = absurd (false≢true (sym (ap is_some e)))
neither false f o e = (refl, e)

none_from : (done : List ℕ) (f : ℕ) (g : List (List ℕ)) → first_ready done f g ≡ None → (h k : ℕ) → k ≡ f + h → h < length g → is_ready done k (slice_index_or g h []) ≡ false
none_from done f [] e h k at lt = absurd (omega (arith, lt))
none_from done f (x ∷ g) e zero k at lt =
    let same : k ≡ f = omega arith in
    ap (λ n. is_ready done n x) same ∙ (neither (is_ready done f x) f (first_ready done (suc f) g) e).0
none_from done f (x ∷ g) e (suc h) k at lt =
    none_from done (suc f) g (neither (is_ready done f x) f (first_ready done (suc f) g) e).1 h k (omega arith) (omega arith)

-- where none is found, none is ready
pub none_ready : (done : List ℕ) (g : List (List ℕ)) → first_ready done 0 g ≡ None → (h : ℕ) → h < length g → is_ready done h (slice_index_or g h []) ≡ false
none_ready done g e h lt = none_from done 0 g e h h (omega arith) lt

record Found (done : List ℕ) (f : ℕ) (g : List (List ℕ)) (r : ℕ) : Type 0 where
  pub place : ℕ
  pub is : r ≡ f + place
  pub below : place < length g
  pub ready : is_ready done r (slice_index_or g place []) ≡ true
  pub first : (h k : ℕ) → k ≡ f + h → h < place → is_ready done k (slice_index_or g h []) ≡ false

not_first : (done : List ℕ) (f : ℕ) (x : List ℕ) (g : List (List ℕ)) (place : ℕ) → is_ready done f x ≡ false
    → ((h k : ℕ) → k ≡ suc f + h → h < place → is_ready done k (slice_index_or g h []) ≡ false)
    → (h k : ℕ) → k ≡ f + h → h < suc place → is_ready done k (slice_index_or (x ∷ g) h []) ≡ false
not_first done f x g place never rest zero k at lt =
    let same : k ≡ f = omega arith in
    ap (λ n. is_ready done n x) same ∙ never
not_first done f x g place never rest (suc h) k at lt = rest h k (omega arith) (omega arith)

found_by : (done : List ℕ) (f : ℕ) (x : List ℕ) (g : List (List ℕ)) (r : ℕ) (b : Bool) → is_ready done f x ≡ b → (if b then Some f else first_ready done (suc f) g) ≡ Some r
    → (first_ready done (suc f) g ≡ Some r → Found done (suc f) g r) → Found done f (x ∷ g) r
found_by done f x g r true h e ih =
    let same : r ≡ f = sym (ap (λ o. unwrap_or o 0) e) in
    record { place = 0; is = omega arith; below = omega arith; ready = ap (λ n. is_ready done n x) same ∙ h; first = λ h k at lt. absurd (omega (arith, lt)) }
found_by done f x g r false h e ih =
    let i = ih e in
    record { place = suc i.place; is = omega (arith, i.is); below = omega (arith, i.below); ready = i.ready; first = not_first done f x g i.place h i.first }

found : (done : List ℕ) (f : ℕ) (g : List (List ℕ)) (r : ℕ) → first_ready done f g ≡ Some r → Found done f g r
found done f [] r e = absurd (false≢true (ap is_some e))
found done f (x ∷ g) r e = found_by done f x g r (is_ready done f x) refl e (found done (suc f) g r)

-- what is found is the first that is ready
pub first_found : (done : List ℕ) (g : List (List ℕ)) (r : ℕ) → first_ready done 0 g ≡ Some r → IsFirst g done r
first_found done g r e =
    let i = found done 0 g r e in
    let same : i.place ≡ r = omega (arith, i.is) in
    record {
      below = omega (arith, i.below);
      is_ready = ap (λ n. is_ready done r (slice_index_or g n [])) (sym same) ∙ i.ready;
      first = λ h lt. i.first h h (omega arith) (omega arith);
    }

pub no_more : (b : Bool) → not b ≡ true → b ≡ false
no_more true e = absurd (false≢true e)
no_more false e = refl

pub not_taken : (g : List (List ℕ)) (done : List ℕ) (f : ℕ) → IsFirst g done f → taken done f ≡ false
not_taken g done f is = no_more (taken done f) (and_parts (not (taken done f)) (list_all (taken done) (slice_index_or g f [])) is.is_ready).0
