-- The set behind a table of names, as its list of texts.
use Rattle.std.proofs.Common.{◌≡◌, get_or, ℕ, Bool, true, false, ◌||◌, List, [], ◌∷◌, ◌++◌, length, slice_get, Some, option_map, refl, sym, ap, suc, length-append, ◌∙◌, arith, if◌then◌else◌}
use Rattle.std.proofs.Math.Seq.{get_or-append_seam}
use Rattle.std.proofs.lemmas.List.Quantifiers.{position-Some}
use Rattle.std.proofs.lemmas.Option.{slice_get-get_or, slice_get-map}
use Rattle.std.proofs.lemmas.Slice.Eq.{bytes_eq-Decides}
use Rattle.std.specs.List.{list_any, position}
use Rattle.std.specs.Str.{bytes_eq}
use Rattle.std.specs.declared.alloc.Global.{Global}
use Rattle.std.specs.declared.vec.Vec.{Vec}
use Rattle.indexmap.specs.IndexSet.{insert_key}
use Rattle.gh_base.specs.Stored.{texts}
use Rattle.gh_base.specs.Table.{has_text, with_text}

pub any_texts : (t : List ℕ) (ks : List (Vec ℕ Global)) → list_any (λ k. bytes_eq t k.items) ks ≡ has_text (texts ks) t
any_texts t [] = refl
any_texts t (k ∷ ks) = ap (λ b. bytes_eq t k.items || b) (any_texts t ks)

pub texts_push : (ks : List (Vec ℕ Global)) (k : Vec ℕ Global) → texts (ks ++ k ∷ []) ≡ texts ks ++ k.items ∷ []
texts_push [] k = refl
texts_push (x ∷ ks) k = ap (λ xs. x.items ∷ xs) (texts_push ks k)

-- what stands at the place that a search found
pub found_at : (t : List ℕ) (ks : List (Vec ℕ Global)) (i : ℕ) (d : Vec ℕ Global) → position (λ k. bytes_eq t k.items) ks ≡ Some i → slice_get (texts ks) i ≡ Some t
found_at t ks i d h =
    let p = position-Some (λ k. bytes_eq t k.items) ks i d h in
    slice_get-map (λ v. v.items) ks i ∙ ap (λ o. option_map (λ v. v.items) o) (slice_get-get_or ks i d p.0)
    ∙ ap Some (sym ((bytes_eq-Decides t (get_or ks i d).items).0 p.1))

pub inserted : (t : List ℕ) (ks : List (Vec ℕ Global)) (k : Vec ℕ Global) → k.items ≡ t
    → texts (insert_key (λ a b. bytes_eq a.items b.items) ks k) ≡ with_text (texts ks) t
inserted t ks k e = by (list_any (λ x. bytes_eq k.items x.items) ks) refl
  where
    by : (b : Bool) → list_any (λ x. bytes_eq k.items x.items) ks ≡ b → texts (insert_key (λ a b. bytes_eq a.items b.items) ks k) ≡ with_text (texts ks) t
    by true h = ap (λ c. texts (if c then ks else ks ++ k ∷ [])) h ∙ sym (ap (λ c. if c then texts ks else texts ks ++ t ∷ []) (sym (any_texts t ks) ∙ ap (λ u. list_any (λ x. bytes_eq u x.items) ks) (sym e) ∙ h))
    by false h = ap (λ c. texts (if c then ks else ks ++ k ∷ [])) h ∙ texts_push ks k ∙ ap (λ u. texts ks ++ u ∷ []) e
        ∙ sym (ap (λ c. if c then texts ks else texts ks ++ t ∷ []) (sym (any_texts t ks) ∙ ap (λ u. list_any (λ x. bytes_eq u x.items) ks) (sym e) ∙ h))

pub found_text : (t : List ℕ) (ks : List (Vec ℕ Global)) (i : ℕ) → position (λ k. bytes_eq t k.items) ks ≡ Some i → slice_get (texts ks) i ≡ Some t
found_text t [] i h = cc
found_text t (k ∷ ks) i h = found_at t (k ∷ ks) i k h

-- a text that is there changes nothing
pub kept : (xs : List (List ℕ)) (t : List ℕ) → has_text xs t ≡ true → xs ≡ with_text xs t
kept xs t h = sym (ap (λ c. if c then xs else xs ++ t ∷ []) h)

-- a new text stands at the end
pub last_at : (xs : List (List ℕ)) (t : List ℕ) (n : ℕ) → has_text xs t ≡ false → n ≡ length xs → slice_get (with_text xs t) n ≡ Some t
last_at xs t n h e =
    ap (λ c. slice_get (if c then xs else xs ++ t ∷ []) n) h ∙ slice_get-get_or (xs ++ t ∷ []) n [] (simp length-append (omega arith))
    ∙ ap Some (ap (λ m. get_or (xs ++ t ∷ []) m []) e ∙ get_or-append_seam xs t [] [])

pub length-texts : (ks : List (Vec ℕ Global)) → length (texts ks) ≡ length ks
length-texts [] = refl
length-texts (k ∷ ks) = ap suc (length-texts ks)
