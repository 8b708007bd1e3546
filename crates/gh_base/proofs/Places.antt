-- The first place of a text in a table.
use Rattle.std.proofs.Common.{◌≡◌, get_or, ℕ, zero, suc, ◌<◌, Bool, true, false, ◌||◌, List, [], ◌∷◌, ◌++◌, length, Option, Some, None, option_map, refl, sym, ap, ◌∙◌, arith, slice_index_or, if◌then◌else◌}
use Rattle.std.proofs.lemmas.Slice.Eq.{bytes_eq-Decides}
use Rattle.std.proofs.lemmas.List.Quantifiers.{position-Some}
use Rattle.std.specs.List.{position}
use Rattle.std.specs.Str.{bytes_eq}
use Rattle.std.specs.declared.alloc.Global.{Global}
use Rattle.std.specs.declared.vec.Vec.{Vec}
use Rattle.gh_base.specs.Table.{has_text, with_text, place_of, IsGrown}
use Rattle.gh_base.specs.Stored.{texts}

abbrev choice : Bool → Option ℕ → Option ℕ
choice b rest = if b then Some 0 else option_map (λ i. suc i) rest

-- no earlier text is this one
first_place : (t : List ℕ) (ks : List (Vec ℕ Global)) (i : ℕ) (d : Vec ℕ Global) → i < length ks → bytes_eq t (get_or ks i d).items ≡ true
    → ((k : ℕ) → k < i → bytes_eq t (get_or ks k d).items ≡ false) → place_of (texts ks) t ≡ Some i
first_place t [] i d h e before = absurd (omega arith)
first_place t (x ∷ ks) zero d h e before = ap (λ b. choice b (place_of (texts ks) t)) e
first_place t (x ∷ ks) (suc i) d h e before =
    let first : 0 < suc i = omega arith in
    ap (λ b. choice b (place_of (texts ks) t)) (before 0 first)
    ∙ ap (option_map (λ n. suc n)) (first_place t ks i d (omega arith) e (λ k lt. before (suc k) (omega arith)))

pub found_place : (t : List ℕ) (ks : List (Vec ℕ Global)) (i : ℕ) → position (λ k. bytes_eq t k.items) ks ≡ Some i → place_of (texts ks) t ≡ Some i
found_place t [] i h = cc
found_place t (k ∷ ks) i h =
    let p = position-Some (λ x. bytes_eq t x.items) (k ∷ ks) i k h in
    first_place t (k ∷ ks) i k p.0 p.1 p.2

or_left : (a b : Bool) → a || b ≡ false → a ≡ false
or_left true b h = h
or_left false b h = refl

or_right : (a b : Bool) → a || b ≡ false → b ≡ false
or_right true b h = absurd (cc)
or_right false b h = h

pub new_place : (xs : List (List ℕ)) (t : List ℕ) → has_text xs t ≡ false → place_of (xs ++ t ∷ []) t ≡ Some (length xs)
new_place [] t h = ap (λ b. choice b None) ((bytes_eq-Decides t t).1 refl)
new_place (x ∷ xs) t h =
    ap (λ b. choice b (place_of (xs ++ t ∷ []) t)) (or_left (bytes_eq t x) (has_text xs t) h)
    ∙ ap (option_map (λ n. suc n)) (new_place xs t (or_right (bytes_eq t x) (has_text xs t) h))

pub last_place : (xs : List (List ℕ)) (t : List ℕ) (n : ℕ) → has_text xs t ≡ false → n ≡ length xs → place_of (with_text xs t) t ≡ Some n
last_place xs t n h e = ap (λ b. place_of (if b then xs else xs ++ t ∷ []) t) h ∙ new_place xs t h ∙ ap Some (sym e)

place_step : (p q : Option ℕ) (i : ℕ) → ((j : ℕ) → p ≡ Some j → q ≡ Some j) → option_map (λ n. suc n) p ≡ Some i → option_map (λ n. suc n) q ≡ Some i
place_step None q i f h = absurd (cc)
place_step (Some j) q i f h = ap (option_map (λ n. suc n)) (f j refl) ∙ h

place_choice : (b : Bool) (p q : Option ℕ) (i : ℕ) → ((j : ℕ) → p ≡ Some j → q ≡ Some j) → choice b p ≡ Some i → choice b q ≡ Some i
place_choice true p q i f h = h
place_choice false p q i f h = place_step p q i f h

-- a text keeps its number while the table grows
place_append : (xs more : List (List ℕ)) (t : List ℕ) (i : ℕ) → place_of xs t ≡ Some i → place_of (xs ++ more) t ≡ Some i
place_append [] more t i h = absurd (cc)
place_append (x ∷ xs) more t i h = place_choice (bytes_eq t x) (place_of xs t) (place_of (xs ++ more) t) i (λ j e. place_append xs more t j e) h

pub place_grown : (old new : List (List ℕ)) (t : List ℕ) (i : ℕ) → IsGrown old new → place_of old t ≡ Some i → place_of new t ≡ Some i
place_grown old new t i g h = ap (λ xs. place_of xs t) g.is ∙ place_append old g.more t i h

suc_some : (j i : ℕ) → option_map (λ n. suc n) (Some j) ≡ Some i → i ≡ suc j
suc_some j i h = cc

zero_some : (i : ℕ) → let o : Option ℕ = Some 0 in o ≡ Some i → i ≡ 0
zero_some i h = cc

placed_rest : (x t : List ℕ) (xs : List (List ℕ)) (p : Option ℕ) (i : ℕ) → ((j : ℕ) → p ≡ Some j → slice_index_or xs j [] ≡ t)
    → option_map (λ n. suc n) p ≡ Some i → slice_index_or (x ∷ xs) i [] ≡ t
placed_rest x t xs None i f h = absurd (cc)
placed_rest x t xs (Some j) i f h = ap (λ n. slice_index_or (x ∷ xs) n []) (suc_some j i h) ∙ f j refl

placed_choice : (b : Bool) (x t : List ℕ) (xs : List (List ℕ)) (p : Option ℕ) (i : ℕ) → bytes_eq t x ≡ b → ((j : ℕ) → p ≡ Some j → slice_index_or xs j [] ≡ t)
    → choice b p ≡ Some i → slice_index_or (x ∷ xs) i [] ≡ t
placed_choice true x t xs p i e f h = ap (λ n. slice_index_or (x ∷ xs) n []) (zero_some i h) ∙ sym ((bytes_eq-Decides t x).0 e)
placed_choice false x t xs p i e f h = placed_rest x t xs p i f h

-- the text at the number of a text is that text
pub text_placed : (xs : List (List ℕ)) (t : List ℕ) (i : ℕ) → place_of xs t ≡ Some i → slice_index_or xs i [] ≡ t
text_placed [] t i h = absurd (cc)
text_placed (x ∷ xs) t i h = placed_choice (bytes_eq t x) x t xs (place_of xs t) i refl (λ j e. text_placed xs t j e) h
