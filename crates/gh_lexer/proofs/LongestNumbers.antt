-- What a scan finds is the longest piece: numbers and operators.
use Rattle.std.proofs.Common.{◌≡◌, ℕ, zero, suc, ◌+◌, ◌-◌, ◌<◌, ◌≤◌, Bool, true, false, cond, ◌&&◌, ◌||◌, ◌==◌, if◌then◌else◌, List, [], ◌∷◌, length, take, drop, Option, Some, None, Result, Ok, Err, refl, sym, ap, ◌∙◌, arith, subst}
use Rattle.std.proofs.lemmas.List.Sums.{prefix_len-le-length}
use Rattle.std.proofs.lemmas.Bool.{eqb-true}
use Rattle.std.proofs.lemmas.Grind.{common_steps}
use Rattle.std.specs.List.{prefix_len, list_all}
use Rattle.gh_lexer.specs.declared.scan.Class.TheVariants as class
use Rattle.gh_lexer.specs.declared.scan.Scan.{Scan}
use Rattle.gh_lexer.specs.declared.scan.Wrong.{Wrong}
use Rattle.gh_lexer.specs.declared.scan.Wrong.TheVariants as wrong
use Rattle.gh_lexer.specs.Chars.{is_digit, is_octal, is_hex, is_symbol, is_in_line, is_dashes, is_operator, begins}
use Rattle.gh_lexer.specs.Literal.{is_based}
use Rattle.gh_lexer.specs.Scan.{scanned, operator_class, is_fraction, is_exponent, decimal_at, number_at, operator_at, symbol_at}
use Rattle.gh_lexer.specs.Pieces.{Sort, is_if, is_byte, is_e, is_sign, after_digits, number_piece, symbol_piece}
use Rattle.gh_lexer.proofs.LongestNames.{Has, has_or, after_run, run_sort, if_true, if_false}
use Rattle.gh_lexer.proofs.Runs.{RunsTo, same_from, shift, prefix_take, take_front, drop_front}

-- the tests of a decimal integer's tail agree
same_tests : (A E D Z : Bool) → (A && D) || (E && (D || Z)) ≡ ((A || E) && D) || (E && Z)
same_tests true true true Z = refl
same_tests true true false Z = refl
same_tests true false true Z = refl
same_tests true false false Z = refl
same_tests false true true Z = refl
same_tests false true false Z = refl
same_tests false false true Z = refl
same_tests false false false Z = refl

and_right : (a b : Bool) → a && b ≡ true → b ≡ true
and_right true b e = e
and_right false b e = absurd (cc)

and_false : (a : Bool) → a && false ≡ false
and_false true = refl
and_false false = refl

no_sign : (b : ℕ) → is_digit b ≡ true → is_sign b ≡ false
no_sign b e = grind (arith, common_steps)

abbrev tail_wrong : List ℕ → Bool
tail_wrong after = is_fraction after || is_exponent after

-- after the digits of a decimal integer
abbrev tail : List ℕ → Result Scan Wrong → ℕ → Type 0
tail after o n = Has (n + 1) after_digits after o

digits_end : (n : ℕ) (after : List ℕ) → ((m : ℕ) → 0 < m → m ≤ length after → after_digits (take m after) ≡ None) → Has (n + 1) after_digits after (scanned class.Int (n + 1))
digits_end n after none = (0, (omega arith, record { within = omega arith; is = refl; longest = none }))

module _ (n a b : ℕ) where
  abbrev short : Bool
  short = (a == 46 || is_e a) && is_digit b

  or_nothing : (x y : Bool) → x || (y && false) ≡ x
  or_nothing true y = refl
  or_nothing false y = and_false y

  two_tests : tail_wrong (a ∷ b ∷ []) ≡ short
  two_tests = same_tests (a == 46) (is_e a) (is_digit b) (is_sign b && false) ∙ ap (λ z. short || (is_e a && z)) (and_false (is_sign b)) ∙ or_nothing short (is_e a)

  two_none : short ≡ false → (m : ℕ) → 0 < m → m ≤ length (a ∷ b ∷ []) → after_digits (take m (a ∷ b ∷ [])) ≡ None
  two_none s zero lt le = absurd (omega arith)
  two_none s (suc zero) lt le = refl
  two_none s (suc (suc zero)) lt le = ap (λ x. is_if x (Err wrong.NoToken)) s
  two_none s (suc (suc (suc m))) lt le = absurd (omega arith)

  module _ (c : ℕ) (more : List ℕ) where
    abbrev long : Bool
    long = is_e a && (is_sign b && is_digit c)

    abbrev after : List ℕ
    after = a ∷ b ∷ c ∷ more

    tests : tail_wrong after ≡ short || long
    tests = same_tests (a == 46) (is_e a) (is_digit b) (is_sign b && is_digit c)

    past_three_more : (m : ℕ) (xs : List ℕ) → m < length xs → after_digits (a ∷ b ∷ c ∷ take (suc m) xs) ≡ None
    past_three_more m [] lt = absurd (omega arith)
    past_three_more m (x ∷ xs) lt = refl

    past_three : (m : ℕ) → 3 < m → m ≤ length after → after_digits (take m after) ≡ None
    past_three zero lt le = absurd (omega arith)
    past_three (suc zero) lt le = absurd (omega arith)
    past_three (suc (suc zero)) lt le = absurd (omega arith)
    past_three (suc (suc (suc zero))) lt le = absurd (omega arith)
    past_three (suc (suc (suc (suc m)))) lt le = past_three_more m more (omega arith)

    past_two : long ≡ false → (m : ℕ) → 2 < m → m ≤ length after → after_digits (take m after) ≡ None
    past_two l zero lt le = absurd (omega arith)
    past_two l (suc zero) lt le = absurd (omega arith)
    past_two l (suc (suc zero)) lt le = absurd (omega arith)
    past_two l (suc (suc (suc zero))) lt le = ap (λ x. is_if x (Err wrong.NoToken)) l
    past_two l (suc (suc (suc (suc m)))) lt le = past_three_more m more (omega arith)

    past_none : short ≡ false → long ≡ false → (m : ℕ) → 0 < m → m ≤ length after → after_digits (take m after) ≡ None
    past_none s l zero lt le = absurd (omega arith)
    past_none s l (suc zero) lt le = refl
    past_none s l (suc (suc zero)) lt le = ap (λ x. is_if x (Err wrong.NoToken)) s
    past_none s l (suc (suc (suc m))) lt le = past_two l (suc (suc (suc m))) (omega arith) le

    abbrev answer : Bool → Result Scan Wrong
    answer w = if w then Err wrong.NoToken else scanned class.Int (n + 1)

    to_answer : (w : Bool) → tail_wrong after ≡ w → Has (n + 1) after_digits after (answer w) → Has (n + 1) after_digits after (answer (tail_wrong after))
    to_answer w e h = let P : Bool → Type 0 = λ v. Has (n + 1) after_digits after (answer v) in subst P (sym e) h

    split : (s : Bool) → short ≡ s → (l : Bool) → long ≡ l → Has (n + 1) after_digits after (answer (tail_wrong after))
    split true s l k =
        let no_long : long ≡ false = ap (λ x. is_e a && (x && is_digit c)) (no_sign b (and_right (a == 46 || is_e a) (is_digit b) s)) ∙ and_false (is_e a) in
        to_answer true (tests ∙ ap (λ x. x || long) s) (2, record { within = omega arith; is = ap (λ x. is_if x (Err wrong.NoToken)) s; longest = past_two no_long })
    split false s true k =
        to_answer true (tests ∙ ap (λ x. x || long) s ∙ k) (3, record { within = omega arith; is = ap (λ x. is_if x (Err wrong.NoToken)) k; longest = past_three })
    split false s false k = to_answer false (tests ∙ ap (λ x. x || long) s ∙ k) (digits_end n after (past_none s k))

one_none : (a m : ℕ) → 0 < m → m ≤ length (a ∷ []) → after_digits (take m (a ∷ [])) ≡ None
one_none a zero lt le = absurd (omega arith)
one_none a (suc zero) lt le = refl
one_none a (suc (suc m)) lt le = absurd (omega arith)

one_wrong : (a : ℕ) → tail_wrong (a ∷ []) ≡ false
one_wrong a = ap (λ b. b || (is_e a && false)) (and_false (a == 46)) ∙ and_false (is_e a)

true_false : (b : Bool) → b ≡ false → b ≡ true → ⊥
true_false b e f = cc

digits_tail : (n : ℕ) (after : List ℕ) → Has (n + 1) after_digits after (if tail_wrong after then Err wrong.NoToken else scanned class.Int (n + 1))
digits_tail n [] = digits_end n [] (λ m lt le. absurd (omega arith))
digits_tail n (a ∷ []) =
    has_or (tail_wrong (a ∷ [])) (n + 1) after_digits (a ∷ []) (Err wrong.NoToken) (scanned class.Int (n + 1))
    (λ e. absurd (true_false (tail_wrong (a ∷ [])) (one_wrong a) e))
    (λ e. digits_end n (a ∷ []) (one_none a))
digits_tail n (a ∷ b ∷ []) =
    has_or (tail_wrong (a ∷ b ∷ [])) (n + 1) after_digits (a ∷ b ∷ []) (Err wrong.NoToken) (scanned class.Int (n + 1))
    (λ e. (2, record { within = omega arith; is = ap (λ x. is_if x (Err wrong.NoToken)) (sym (two_tests n a b) ∙ e); longest = λ m lt le. absurd (omega arith) }))
    (λ e. digits_end n (a ∷ b ∷ []) (two_none n a b (sym (two_tests n a b) ∙ e)))
digits_tail n (a ∷ b ∷ c ∷ more) = split n a b c more (short n a b) refl (long n a b c more) refl

-- a front of three bytes or more tells whether a base is named
based_front : (u v : ℕ) (p : ℕ → Bool) (rest : List ℕ) (m : ℕ) → is_based u v p (take (suc (suc m)) rest) ≡ is_based u v p rest
based_front u v p [] m = refl
based_front u v p (x ∷ []) m = refl
based_front u v p (x ∷ y ∷ rest) m = refl

based_none : (u v : ℕ) (p : ℕ → Bool) (rest : List ℕ) (m : ℕ) → is_based u v p rest ≡ false → is_based u v p (take m rest) ≡ false
based_none u v p rest zero e = refl
based_none u v p [] (suc zero) e = refl
based_none u v p (x ∷ rest) (suc zero) e = refl
based_none u v p rest (suc (suc m)) e = based_front u v p rest m ∙ e

and_kept : (a b c : Bool) → (b ≡ false → c ≡ false) → a && b ≡ false → a && c ≡ false
and_kept true b c f e = f e
and_kept false b c f e = refl

-- the digits of a base after its letter
based_run : (u v : ℕ) (p : ℕ → Bool) (rest : List ℕ) → is_based u v p rest ≡ true → (1 ≤ prefix_len p (drop 1 rest)) × (1 ≤ length rest)
based_run u v p [] e = absurd (cc)
based_run u v p (x ∷ []) e = absurd (cc)
based_run u v p (x ∷ y ∷ rest) e = (counts (p y) (and_right (x == u || x == v) (p y) e), omega arith)
  where
    counts : (b : Bool) → b ≡ true → 1 ≤ cond b (1 + prefix_len p rest) 0
    counts true e = omega arith
    counts false e = absurd (cc)

abbrev based_digits : (ℕ → Bool) → List ℕ → Option Sort
based_digits p xs = is_if (list_all p xs) (Ok class.Int)

-- an integer with a base, where its kind is that of its digits once there are two bytes after the 0
based_longest : (P : List ℕ → Option Sort) (u v : ℕ) (p : ℕ → Bool) (rest : List ℕ) → is_based u v p rest ≡ true
    → ((m : ℕ) → P (take (suc (suc m)) rest) ≡ based_digits p (drop 1 (take (suc (suc m)) rest))) → Has 1 P rest (scanned class.Int (prefix_len p (drop 1 rest) + 2))
based_longest P u v p rest e same =
    let n = prefix_len p (drop 1 rest) in
    let some = based_run u v p rest e in
    let le : n ≤ length (drop 1 rest) = prefix_len-le-length p (drop 1 rest) in
    (1 + n, (omega arith, shift P (based_digits p) rest 1 n (Ok class.Int) some.1 (λ j h. at j (omega arith)) (run_sort p (λ xs. Ok class.Int) (drop 1 rest) (Ok class.Int) refl)))
  where
    at : (j : ℕ) → 1 ≤ j → P (take (1 + j) rest) ≡ based_digits p (take j (drop 1 rest))
    at zero h = absurd (omega arith)
    at (suc m) h =
        let two : 1 + suc m ≡ suc (suc m) = omega arith in
        ap (λ k. P (take k rest)) two ∙ same m ∙ ap (λ k. based_digits p (drop 1 (take k rest))) (sym two) ∙ ap (based_digits p) (drop_front 1 (suc m) rest)

pub number_longest : (c : ℕ) (rest : List ℕ) → Has 1 (number_piece c) rest (number_at c rest)
unfolding number_at decimal_at
number_longest c rest =
    let n = prefix_len is_digit rest in
    has_or (c == 48 && is_based 120 88 is_hex rest) 1 (number_piece c) rest _ _
    (λ e. based_longest (number_piece c) 120 88 is_hex rest (and_right (c == 48) (is_based 120 88 is_hex rest) e)
    (λ m. if_true (Option Sort) (c == 48 && is_based 120 88 is_hex (take (suc (suc m)) rest)) _ _ (ap (λ b. c == 48 && b) (based_front 120 88 is_hex rest m) ∙ e)))
    (λ e. has_or (c == 48 && is_based 111 79 is_octal rest) 1 (number_piece c) rest _ _
    (λ f. based_longest (number_piece c) 111 79 is_octal rest (and_right (c == 48) (is_based 111 79 is_octal rest) f)
    (λ m. if_false (Option Sort) (c == 48 && is_based 120 88 is_hex (take (suc (suc m)) rest)) _ _ (ap (λ b. c == 48 && b) (based_front 120 88 is_hex rest m) ∙ e)
    ∙ if_true (Option Sort) (c == 48 && is_based 111 79 is_octal (take (suc (suc m)) rest)) _ _ (ap (λ b. c == 48 && b) (based_front 111 79 is_octal rest m) ∙ f)))
    (λ f. after_run (number_piece c) after_digits rest n _ (prefix_len-le-length is_digit rest)
    (λ j. let le : n ≤ n + j = omega arith in
    let same = prefix_take is_digit rest (n + j) le in
    if_false (Option Sort) (c == 48 && is_based 120 88 is_hex (take (n + j) rest)) _ _
    (and_kept (c == 48) (is_based 120 88 is_hex rest) (is_based 120 88 is_hex (take (n + j) rest)) (λ b. based_none 120 88 is_hex rest (n + j) b) e)
    ∙ if_false (Option Sort) (c == 48 && is_based 111 79 is_octal (take (n + j) rest)) _ _
    (and_kept (c == 48) (is_based 111 79 is_octal rest) (is_based 111 79 is_octal (take (n + j) rest)) (λ b. based_none 111 79 is_octal rest (n + j) b) f)
    ∙ ap (λ i. after_digits (drop i (take (n + j) rest))) same ∙ ap after_digits (drop_front n j rest))
    (digits_tail n (drop n rest))))

byte_begins : (c : ℕ) (rest : List ℕ) (m : ℕ) → begins c rest ≡ false → is_byte c (take m rest) ≡ false
byte_begins c rest zero e = refl
byte_begins c [] (suc m) e = refl
byte_begins c (d ∷ rest) (suc m) e = by (take m rest)
  where
    by : (xs : List ℕ) → is_byte c (d ∷ xs) ≡ false
    by [] = e
    by (x ∷ xs) = refl

-- `|}` is not a front of anything longer
bar_more : (c d e : ℕ) (more : List ℕ) → d ≡ 125 → symbol_piece c (d ∷ e ∷ more) ≡ None
unfolding is_dashes
bar_more c d e more f =
    let after : symbol_piece c (125 ∷ e ∷ more) ≡ None = and_none (c == 124) in
    ap (λ x. symbol_piece c (x ∷ e ∷ more)) f ∙ after
  where
    and_none : (b : Bool) → let none : Option Sort = None in (if b && false then Some (Ok class.Mark) else none) ≡ none
    and_none true = refl
    and_none false = refl

operator_longest : (c : ℕ) (rest : List ℕ) → ((m : ℕ) → c == 124 && is_byte 125 (take m rest) ≡ false) → Has 1 (symbol_piece c) rest (operator_at c rest)
unfolding operator_at
operator_longest c rest apart =
    let n = prefix_len is_symbol rest in
    let long = prefix_len-le-length is_symbol rest in
    let F : List ℕ → Sort = λ xs. if is_operator (c ∷ xs) then Ok class.Mark else Ok (class.Name (operator_class c)) in
    let to_rest : (m : ℕ) → symbol_piece c (take m rest) ≡ (if is_dashes (c ∷ take (prefix_len is_symbol (take m rest)) (take m rest)) then is_if (list_all is_in_line (drop (prefix_len is_symbol (take m rest)) (take m rest))) (Ok class.Skip) else is_if (list_all is_symbol (take m rest)) (F (take m rest)))
    = λ m. if_false (Option Sort) (c == 124 && is_byte 125 (take m rest)) _ _ (apart m) in
    let at : (j : ℕ) → prefix_len is_symbol (take (n + j) rest) ≡ n = λ j. let le : n ≤ n + j = omega arith in prefix_take is_symbol rest (n + j) le in
    let front : (j : ℕ) → is_dashes (c ∷ take (prefix_len is_symbol (take (n + j) rest)) (take (n + j) rest)) ≡ is_dashes (c ∷ take n rest)
    = λ j. ap (λ i. is_dashes (c ∷ take i (take (n + j) rest))) (at j) ∙ ap (λ xs. is_dashes (c ∷ xs)) (take_front n j rest) in
    let plain : is_dashes (c ∷ take n rest) ≡ false → (m : ℕ) → n ≤ m → symbol_piece c (take m rest) ≡ is_if (list_all is_symbol (take m rest)) (F (take m rest))
    = λ e m le. let same : n + (m - n) ≡ m = omega arith in
    to_rest m ∙ if_false (Option Sort) (is_dashes (c ∷ take (prefix_len is_symbol (take m rest)) (take m rest))) _ _
    (ap (λ k. is_dashes (c ∷ take (prefix_len is_symbol (take k rest)) (take k rest))) (sym same) ∙ front (m - n) ∙ e) in
    has_or (is_dashes (c ∷ take n rest)) 1 (symbol_piece c) rest _ _
    (λ e. (
      n + prefix_len is_in_line (drop n rest),
      (
        omega arith,
        shift (symbol_piece c) (λ xs. is_if (list_all is_in_line xs) (Ok class.Skip)) rest n (prefix_len is_in_line (drop n rest)) (Ok class.Skip) long
            (λ j h. to_rest (n + j) ∙ if_true (Option Sort) (is_dashes (c ∷ take (prefix_len is_symbol (take (n + j) rest)) (take (n + j) rest))) _ _ (front j ∙ e)
            ∙ ap (λ i. is_if (list_all is_in_line (drop i (take (n + j) rest))) (Ok class.Skip)) (at j) ∙ ap (λ xs. is_if (list_all is_in_line xs) (Ok class.Skip)) (drop_front n j rest))
            (run_sort is_in_line (λ xs. Ok class.Skip) (drop n rest) (Ok class.Skip) refl),
      ),
    ))
    (λ e. has_or (is_operator (c ∷ take n rest)) 1 (symbol_piece c) rest _ _
    (λ f. (
      n,
      (
        refl,
        same_from (symbol_piece c) (λ xs. is_if (list_all is_symbol xs) (F xs)) rest n (Ok class.Mark) (plain e)
            (run_sort is_symbol F rest (Ok class.Mark) (if_true Sort (is_operator (c ∷ take n rest)) (Ok class.Mark) (Ok (class.Name (operator_class c))) f)),
      ),
    ))
    (λ f. (
      n,
      (
        refl,
        same_from (symbol_piece c) (λ xs. is_if (list_all is_symbol xs) (F xs)) rest n (Ok (class.Name (operator_class c))) (plain e)
            (run_sort is_symbol F rest (Ok (class.Name (operator_class c))) (if_false Sort (is_operator (c ∷ take n rest)) (Ok class.Mark) (Ok (class.Name (operator_class c))) f)),
      ),
    )))

and_both : (a b : Bool) → a && b ≡ true → (a ≡ true) × (b ≡ true)
and_both true b e = (refl, e)
and_both false b e = absurd (cc)

bar_longest : (c : ℕ) (rest : List ℕ) → c == 124 ≡ true → begins 125 rest ≡ true → RunsTo (symbol_piece c) rest 1 (Ok class.Mark)
bar_longest c [] e f = absurd (cc)
bar_longest c (d ∷ more) e f = record {
  within = omega arith;
  is = ap (λ b. if b && (d == 125) then Some (Ok class.Mark) else other) e ∙ ap (λ b. if b then Some (Ok class.Mark) else other) f;
  longest = by more;
}
  where
    other : Option Sort
    other = if is_dashes (c ∷ take (prefix_len is_symbol (d ∷ [])) (d ∷ [])) then is_if (list_all is_in_line (drop (prefix_len is_symbol (d ∷ [])) (d ∷ []))) (Ok class.Skip)
        else is_if (list_all is_symbol (d ∷ [])) (if is_operator (c ∷ d ∷ []) then Ok class.Mark else Ok (class.Name (operator_class c)))

    by : (more : List ℕ) (m : ℕ) → 1 < m → m ≤ length (d ∷ more) → symbol_piece c (take m (d ∷ more)) ≡ None
    by more zero lt le = absurd (omega arith)
    by more (suc zero) lt le = absurd (omega arith)
    by [] (suc (suc m)) lt le = absurd (omega arith)
    by (x ∷ xs) (suc (suc m)) lt le = bar_more c d x (take m xs) (eqb-true d 125 f)

pub symbol_longest : (c : ℕ) (rest : List ℕ) → Has 1 (symbol_piece c) rest (symbol_at c rest)
unfolding symbol_at
symbol_longest c rest =
    has_or (c == 124 && begins 125 rest) 1 (symbol_piece c) rest (scanned class.Mark 2) (operator_at c rest)
    (λ e. let s = and_both (c == 124) (begins 125 rest) e in (1, (refl, bar_longest c rest s.0 s.1)))
    (λ e. operator_longest c rest (λ m. and_kept (c == 124) (begins 125 rest) (is_byte 125 (take m rest)) (λ b. byte_begins 125 rest m b) e))
