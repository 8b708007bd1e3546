-- What is added to an output, piece by piece.
use Rattle.std.proofs.Common.{◌≡◌, ℕ, zero, suc, ◌+◌, List, [], ◌∷◌, ◌++◌, length, take, Option, None, Some, refl, sym, ap, ◌∙◌, arith, append_assoc, append-nil, option_map, min}
use Rattle.std.proofs.lemmas.List.{take_all}
use Rattle.gh_outside.specs.Outside.{Appends, AppendsFront}

pub appends_then : (a b c : Option (List ℕ)) (x y : List ℕ) → Appends a x b → Appends b y c → Appends a (x ++ y) c
appends_then None b c x y f g = g ∙ ap (option_map (λ z. z ++ y)) f
appends_then (Some s) b c x y f g = g ∙ ap (option_map (λ z. z ++ y)) f ∙ ap Some (append_assoc s x y)

pub appends_none : (a : Option (List ℕ)) → Appends a [] a
appends_none None = refl
appends_none (Some s) = ap Some (sym (append-nil s))

front_min : (k : ℕ) (e r : List ℕ) → take (min k (length e)) (e ++ r) ≡ take k e
front_min zero e r = let same : min 0 (length e) ≡ 0 = omega arith in ap (λ n. take n (e ++ r)) same
front_min (suc k) [] r = let same : min (suc k) 0 ≡ 0 = omega arith in ap (λ n. take n r) same
front_min (suc k) (x ∷ e) r =
    let same : min (suc k) (suc (length e)) ≡ suc (min k (length e)) = omega arith in
    ap (λ n. take n (x ∷ (e ++ r))) same ∙ ap (λ z. x ∷ z) (front_min k e r)

take_past : (a b : List ℕ) (k : ℕ) → take (length a + k) (a ++ b) ≡ a ++ take k b
take_past [] b k = let same : 0 + k ≡ k = omega arith in ap (λ n. take n b) same
take_past (x ∷ a) b k =
    let same : suc (length a) + k ≡ suc (length a + k) = omega arith in
    ap (λ n. take n (x ∷ (a ++ b))) same ∙ ap (λ z. x ∷ z) (take_past a b k)

pub front_joined : (a b c : Option (List ℕ)) (whole front piece rest : List ℕ) → whole ≡ front ++ (piece ++ rest) → Appends a front b → AppendsFront b piece c → AppendsFront a whole c
front_joined a b c whole front piece rest is f g =
    let n : ℕ = length front + min g.0 (length piece) in
    let cut : take n whole ≡ front ++ take g.0 piece =
    ap (take n) is ∙ take_past front (piece ++ rest) (min g.0 (length piece)) ∙ ap (λ z. front ++ z) (front_min g.0 piece rest) in
    (n, rw cut (appends_then a b c front (take g.0 piece) f g.1))

pub whole_front : (a b : Option (List ℕ)) (x : List ℕ) → Appends a x b → AppendsFront a x b
whole_front a b x f = (length x, rw (take_all (length x) x (omega arith)) f)

pub front_nothing : (a : Option (List ℕ)) (x : List ℕ) → AppendsFront a x a
front_nothing a x = (0, appends_none a)
