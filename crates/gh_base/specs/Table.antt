-- Tables of names as lists of texts.
use Rattle.std.specs.Prelude.{◌≡◌, ℕ, suc, option_map, Bool, true, false, List, [], ◌∷◌, ◌++◌, Option, Some, None, if◌then◌else◌}
use Rattle.std.proofs.Common.{refl, sym, ap, ◌∙◌, append_assoc, append-nil}
use Rattle.std.specs.List.{list_any}
use Rattle.std.specs.Str.{bytes_eq}

-- the text is in the list
abbrev pub has_text : List (List ℕ) → List ℕ → Bool
has_text texts text = list_any (bytes_eq text) texts

-- the table after a text was asked for: it goes last where it is new
abbrev pub with_text : List (List ℕ) → List ℕ → List (List ℕ)
with_text texts text = if has_text texts text then texts else texts ++ text ∷ []

-- the table after several texts were asked for, one after another
abbrev pub with_all : List (List ℕ) → List (List ℕ) → List (List ℕ)
with_all texts [] = texts
with_all texts (t ∷ ts) = with_all (with_text texts t) ts

-- the first place of a text, from 0
abbrev pub place_of : List (List ℕ) → List ℕ → Option ℕ
place_of [] text = None
place_of (t ∷ texts) text = if bytes_eq text t then Some 0 else option_map (λ i. suc i) (place_of texts text)

-- the new table has the old texts at their places, and maybe more
pub record IsGrown (old new : List (List ℕ)) : Type 0 where
  pub more : List (List ℕ)
  pub is : new ≡ old ++ more

pub grown_same : (t : List (List ℕ)) → IsGrown t t
grown_same t = record { more = []; is = sym (append-nil t) }

pub grown_then : (a b c : List (List ℕ)) → IsGrown a b → IsGrown b c → IsGrown a c
grown_then a b c f g = record { more = f.more ++ g.more; is = g.is ∙ ap (λ x. x ++ g.more) f.is ∙ append_assoc a f.more g.more }

pub grown_with : (t : List (List ℕ)) (text : List ℕ) → IsGrown t (with_text t text)
grown_with t text = by (has_text t text) refl
  where
    by : (b : Bool) → has_text t text ≡ b → IsGrown t (with_text t text)
    by true h = record { more = []; is = ap (λ c. if c then t else t ++ text ∷ []) h ∙ sym (append-nil t) }
    by false h = record { more = text ∷ []; is = ap (λ c. if c then t else t ++ text ∷ []) h }
