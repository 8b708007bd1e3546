-- The first and the last place of a piece.
use Rattle.std.proofs.lemmas.List.{take_more}
use Rattle.std.proofs.Common.{append-nil, arith, ◌≡◌, ℕ, ◌+◌, ◌-◌, ◌<◌, Bool, true, false, List, [], ◌∷◌, ◌++◌, length, take, Option, Some, refl, sym, ap, ◌∙◌, cond, get_or}
use Rattle.gh_base.specs.declared.place.Span.{Span}
use Rattle.gh_tree.specs.declared.symbol.Sym.{Sym}
use Rattle.gh_tree.specs.Syms.{nowhere, places, joined, last_of, is_inserted}
use Rattle.gh_reader.specs.Ends.{first, last}

-- what the two give
abbrev pub between : Option Span → Option Span → Span
between (Some a) (Some b) = record { file = a.file; from = a.from; to = b.to }
between _ _ = nowhere

pub joined_ends : (ps : List Span) → joined ps ≡ between (first ps) (last ps)
joined_ends [] = refl
joined_ends (a ∷ as') = refl

places_append : (a b : List Sym) → places (a ++ b) ≡ places a ++ places b
places_append [] b = refl
places_append (s ∷ a) b = at_kind (is_inserted s.kind) (places_append a b)
  where
    at_kind : (t : Bool) → places (a ++ b) ≡ places a ++ places b → cond t (places (a ++ b)) (s.span ∷ places (a ++ b)) ≡ cond t (places a) (s.span ∷ places a) ++ places b
    at_kind true e = e
    at_kind false e = ap (λ ps. s.span ∷ ps) e

last_of_snoc : (a p : Span) (ps : List Span) → last_of a (ps ++ p ∷ []) ≡ p
last_of_snoc a p [] = refl
last_of_snoc a p (b ∷ ps) = last_of_snoc b p ps

last_snoc : (ps : List Span) (p : Span) → last (ps ++ p ∷ []) ≡ Some p
last_snoc [] p = refl
last_snoc (a ∷ ps) p = ap Some (last_of_snoc a p ps)

one_place : (x : Sym) (t : Bool) → is_inserted x.kind ≡ t → places (x ∷ []) ≡ cond t [] (x.span ∷ [])
one_place x t e = ap (λ b. cond b [] (x.span ∷ [])) e

snoc : (piece : List Sym) (i : ℕ) (x : Sym) → i < length piece → x ≡ get_or piece (length piece - 1 - i) x → take (length piece - i) piece ≡ take (length piece - (i + 1)) piece ++ x ∷ []
snoc piece i x lt is =
    let at : length piece - i ≡ (length piece - 1 - i) + 1 = omega (arith, lt) in
    let before : length piece - 1 - i ≡ length piece - (i + 1) = omega (arith, lt) in
    let below : length piece - 1 - i < length piece = omega (arith, lt) in
    ap (λ n. take n piece) at ∙ take_more piece (length piece - 1 - i) x below ∙ ap (λ n. take n piece ++ get_or piece (length piece - 1 - i) x ∷ []) before ∙ ap (λ y. take (length piece - (i + 1)) piece ++ y ∷ []) (sym is)

-- the last token that was looked at stands in the file
pub last_found : (piece : List Sym) (i : ℕ) (x : Sym) → i < length piece → x ≡ get_or piece (length piece - 1 - i) x → is_inserted x.kind ≡ false
    → last (places piece) ≡ last (places (take (length piece - i) piece)) → Some x.span ≡ last (places piece)
last_found piece i x lt is real so_far =
    let front = take (length piece - (i + 1)) piece in
    sym (so_far ∙ ap (λ ss. last (places ss)) (snoc piece i x lt is) ∙ ap last (places_append front (x ∷ [])) ∙ ap (λ ps. last (places front ++ ps)) (one_place x false real) ∙ last_snoc (places front) x.span)

-- it was inserted
pub last_skipped : (piece : List Sym) (i : ℕ) (x : Sym) → i < length piece → x ≡ get_or piece (length piece - 1 - i) x → is_inserted x.kind ≡ true
    → last (places piece) ≡ last (places (take (length piece - i) piece)) → last (places piece) ≡ last (places (take (length piece - (i + 1)) piece))
last_skipped piece i x lt is mark so_far =
    let front = take (length piece - (i + 1)) piece in
    so_far ∙ ap (λ ss. last (places ss)) (snoc piece i x lt is) ∙ ap last (places_append front (x ∷ [])) ∙ ap (λ ps. last (places front ++ ps)) (one_place x true mark) ∙ ap last (append-nil (places front))
