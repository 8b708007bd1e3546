-- What a scan finds is the longest piece.
use Rattle.std.proofs.Common.{◌≡◌, ◌⊎◌, inl, inr, ℕ, zero, suc, ◌+◌, ◌<◌, ◌≤◌, Bool, true, false, ◌&&◌, ◌==◌, if◌then◌else◌, List, [], ◌∷◌, length, take, Option, None, Result, Ok, Err, refl, ap, arith}
use Rattle.gh_lexer.specs.declared.scan.Class.TheVariants as class
use Rattle.gh_lexer.specs.declared.scan.Scan.{Scan}
use Rattle.gh_lexer.specs.declared.scan.Wrong.{Wrong}
use Rattle.gh_lexer.specs.declared.scan.Wrong.TheVariants as wrong
use Rattle.gh_lexer.specs.Chars.{is_small, is_large, is_digit, is_symbol, is_bracket, is_blank}
use Rattle.gh_lexer.specs.Scan.{scanned, scan_at, other_at, small_at, large_at, number_at, symbol_at, text_at, quote_at, brace_at}
use Rattle.gh_lexer.specs.Pieces.{Sort, is_if, is_empty, piece_of, small_piece, large_piece, number_piece, symbol_piece, text_piece, quote_piece, brace_piece, other_piece}
use Rattle.gh_lexer.proofs.Cutting.{LongestOf}
use Rattle.gh_lexer.proofs.LongestNames.{Has, small_longest, large_longest}
use Rattle.gh_lexer.proofs.LongestNumbers.{number_longest, symbol_longest}
use Rattle.gh_lexer.proofs.LongestTexts.{text_longest, quote_longest, brace_longest}
use Rattle.gh_lexer.proofs.Runs.{RunsTo, longest_after}

-- a longest piece, or none at all
abbrev HasOrNone : (List ℕ → Option Sort) → List ℕ → Result Scan Wrong → Type 0
HasOrNone P rest (Ok s) = (n : ℕ) × ((s.len ≡ n + 1) × RunsTo P rest n (Ok s.class))
HasOrNone P rest (Err why) = ((n : ℕ) × RunsTo P rest n (Err why)) ⊎ (((m : ℕ) → P (take m rest) ≡ None) × (why ≡ wrong.NoToken))

has : (P : List ℕ → Option Sort) (rest : List ℕ) (o : Result Scan Wrong) → Has 1 P rest o → HasOrNone P rest o
has P rest (Ok s) h = h
has P rest (Err why) h = inl h

either : (b : Bool) (P Q : List ℕ → Option Sort) (rest : List ℕ) (x y : Result Scan Wrong) → HasOrNone P rest x → HasOrNone Q rest y → HasOrNone (λ xs. if b then P xs else Q xs) rest (if b then x else y)
either true P Q rest x y f g = f
either false P Q rest x y f g = g

single : (sort : Sort) (b : Bool) (rest : List ℕ) → b ≡ true → RunsTo (λ xs. is_if (b && is_empty xs) sort) rest 0 sort
single sort b rest e = record { within = omega arith; is = ap (λ x. is_if (x && true) sort) e; longest = by rest }
  where
    by : (rest : List ℕ) (m : ℕ) → 0 < m → m ≤ length rest → is_if (b && is_empty (take m rest)) sort ≡ None
    by rest zero lt le = absurd (omega arith)
    by [] (suc m) lt le = absurd (omega arith)
    by (x ∷ rest) (suc m) lt le = ap (λ y. is_if (y && false) sort) e

bracket : (b : Bool) (rest : List ℕ) → HasOrNone (λ xs. is_if (b && is_empty xs) (Ok class.Mark)) rest (if b then scanned class.Mark 1 else Err wrong.NoToken)
bracket true rest = (0, (refl, single (Ok class.Mark) true rest refl))
bracket false rest = inr (λ m. refl, refl)

other_longest : (c : ℕ) (rest : List ℕ) → HasOrNone (other_piece c) rest (other_at c rest)
unfolding other_at
other_longest c rest =
    either (is_digit c) (number_piece c) _ rest (number_at c rest) _ (has (number_piece c) rest (number_at c rest) (number_longest c rest))
    (either (is_symbol c) (symbol_piece c) _ rest (symbol_at c rest) _ (has (symbol_piece c) rest (symbol_at c rest) (symbol_longest c rest))
    (either (c == 34) text_piece _ rest (text_at rest) _ (has text_piece rest (text_at rest) (text_longest rest))
    (either (c == 39) quote_piece _ rest (quote_at rest) _ (has quote_piece rest (quote_at rest) (quote_longest rest))
    (either (c == 123) brace_piece _ rest (brace_at rest) _ (has brace_piece rest (brace_at rest) (brace_longest rest))
    (bracket (is_bracket c) rest)))))

abbrev kind : ℕ → List ℕ → Option Sort
kind c xs =
    if is_blank c then is_if (is_empty xs) (Ok class.Skip)
    else (if is_small c then small_piece c xs
    else (if is_large c then large_piece xs else other_piece c xs))

front_longest : (c : ℕ) (rest : List ℕ) → HasOrNone (kind c) rest (scan_at (c ∷ rest))
unfolding scan_at
front_longest c rest =
    either (is_blank c) (λ xs. is_if (is_empty xs) (Ok class.Skip)) _ rest (scanned class.Skip 1) _ (0, (refl, single (Ok class.Skip) true rest refl))
    (either (is_small c) (small_piece c) _ rest (small_at c rest) _ (has (small_piece c) rest (small_at c rest) (small_longest c rest))
    (either (is_large c) large_piece (other_piece c) rest (large_at rest) (other_at c rest) (has large_piece rest (large_at rest) (large_longest rest)) (other_longest c rest)))

kind_is : (c : ℕ) (xs : List ℕ) → piece_of (c ∷ xs) ≡ kind c xs
unfolding piece_of
kind_is c xs = refl

none_front : (c : ℕ) (rest : List ℕ) → ((m : ℕ) → kind c (take m rest) ≡ None) → (n : ℕ) → n ≤ length (c ∷ rest) → piece_of (take n (c ∷ rest)) ≡ None
unfolding piece_of
none_front c rest h zero le = refl
none_front c rest h (suc n) le = h n

to_longest : (c : ℕ) (rest : List ℕ) (o : Result Scan Wrong) → HasOrNone (kind c) rest o → LongestOf (c ∷ rest) o
to_longest c rest (Ok s) h = (omega (arith, h.1.0), longest_after c rest (kind c) (kind_is c) s.len h.0 (Ok s.class) h.1.0 h.1.1)
to_longest c rest (Err why) (inl h) = inl (h.0 + 1, longest_after c rest (kind c) (kind_is c) (h.0 + 1) h.0 (Err why) refl h.1)
to_longest c rest (Err why) (inr h) = inr (none_front c rest h.0, h.1)

none_nil : (n : ℕ) → piece_of (take n []) ≡ None
unfolding piece_of
none_nil zero = refl
none_nil (suc n) = refl

nothing : LongestOf [] (scan_at [])
unfolding scan_at
nothing = inr (λ n le. none_nil n, refl)

pub scan_longest : (bytes : List ℕ) → LongestOf bytes (scan_at bytes)
scan_longest [] = nothing
scan_longest (c ∷ rest) = to_longest c rest (scan_at (c ∷ rest)) (front_longest c rest)
