-- What a scan finds is the longest piece: characters, strings and comments.
use Rattle.std.proofs.Common.{◌≡◌, ◌⊎◌, inl, inr, ℕ, zero, suc, ◌+◌, ◌-◌, ◌<◌, ◌≤◌, Bool, true, false, ◌&&◌, ◌||◌, ◌==◌, nat_lt, if◌then◌else◌, List, [], ◌∷◌, length, take, drop, Option, Some, None, option_map, Ok, Err, refl, sym, ap, ◌∙◌, arith, length-drop, length-take, subst, eq-eqb}
use Rattle.std.proofs.lemmas.Bool.{ne_eqb, ltb-false, ltb-true, lt-ltb, le-ltb}
use Rattle.std.specs.List.{prefix_len}
use Rattle.std.specs.Str.{continuation_len, lead_bits}
use Rattle.gh_lexer.specs.declared.scan.Class.TheVariants as class
use Rattle.gh_lexer.specs.declared.scan.Wrong.TheVariants as wrong
use Rattle.gh_lexer.specs.declared.scan.Item.{Item}
use Rattle.gh_lexer.specs.declared.scan.Meaning.TheVariants as meaning
use Rattle.gh_lexer.specs.Chars.{is_digit, is_octal, is_hex, is_blank, begins}
use Rattle.gh_lexer.specs.Literal.{value_of, meaning_of, is_scalar, letter_escape, numeric_escape, letter_or, escape_at, empty_at, character_on, plain_item, plain_at, backslash_at, item_at, letter_at, on_item, close_at}
use Rattle.gh_lexer.specs.Scan.{scanned, comment_end, closing, closed, brace_at, quoted, quote_at, text_at}
use Rattle.gh_lexer.specs.Pieces.{Sort, is_if, is_byte, is_empty, is_whole, text_piece, closed_letter, quote_piece, comment_piece, brace_piece}
use Rattle.gh_lexer.proofs.LongestNames.{Has, has_or, if_true, if_false}
use Rattle.gh_lexer.proofs.Runs.{RunsTo, prefix_take, prefix_within, take_front, drop_front}

-- both find the same items of less than m bytes
record SameBelow (m : ℕ) (o q : Option Item) : Type 0 where
  to : (i : Item) → i.len < m → o ≡ Some i → q ≡ Some i
  back : (i : Item) → i.len < m → q ≡ Some i → o ≡ Some i

same_all : (m : ℕ) (o q : Option Item) → o ≡ q → SameBelow m o q
same_all m o q e = record { to = λ i lt f. sym e ∙ f; back = λ i lt f. e ∙ f }

-- neither finds such an item
same_none : (m : ℕ) (o q : Option Item) → ((i : Item) → o ≡ Some i → m ≤ i.len) → ((i : Item) → q ≡ Some i → m ≤ i.len) → SameBelow m o q
same_none m o q f g = record { to = λ i lt e. let k = f i e in absurd (omega (arith, k, lt)); back = λ i lt e. let k = g i e in absurd (omega (arith, k, lt)) }

same_if : (b : Bool) (m : ℕ) (o o' q q' : Option Item) → (b ≡ true → SameBelow m o q) → (b ≡ false → SameBelow m o' q') → SameBelow m (if b then o else o') (if b then q else q')
same_if true m o o' q q' f g = f refl
same_if false m o o' q q' f g = g refl

item_some : (i j : Item) → Some i ≡ Some j → i ≡ j
item_some i j e = cc

none_item : (i : Item) → let none : Option Item = None in none ≡ Some i → ⊥
none_item i e = cc

nil_is : (xs : List ℕ) → let nil : List ℕ = [] in xs ≡ nil → length xs ≡ 0
nil_is xs e = ap length e

-- a run of digits that ends within the front
abbrev number_item : ℕ → ℕ → (ℕ → Bool) → List ℕ → ℕ → Option Item
number_item before base p digits n =
    if n == 0 then None else Some (record { len = before + n; meaning = meaning_of (value_of base (take n digits)) })

number_len : (before base : ℕ) (p : ℕ → Bool) (digits : List ℕ) (n : ℕ) (i : Item) → number_item before base p digits n ≡ Some i → i.len ≡ before + n
number_len before base p digits n i e = by (n == 0) e
  where
    by : (b : Bool) → (if b then None else Some (record { len = before + n; meaning = meaning_of (value_of base (take n digits)) })) ≡ Some i → i.len ≡ before + n
    by true e = absurd (none_item i e)
    by false e = ap (λ j. j.len) (sym (item_some (record { len = before + n; meaning = meaning_of (value_of base (take n digits)) }) i e))

numeric_front : (before base : ℕ) (p : ℕ → Bool) (digits : List ℕ) (m : ℕ) → SameBelow (before + m) (numeric_escape before base p (take m digits)) (numeric_escape before base p digits)
unfolding numeric_escape
numeric_front before base p digits m = by (nat_lt (prefix_len p digits) m) refl
  where
    by : (b : Bool) → nat_lt (prefix_len p digits) m ≡ b → SameBelow (before + m) (number_item before base p (take m digits) (prefix_len p (take m digits))) (number_item before base p digits (prefix_len p digits))
    by true e =
        let lt = ltb-true (prefix_len p digits) m e in
        let le : prefix_len p digits ≤ m = omega arith in
        let same = prefix_take p digits m le in
        let split : prefix_len p digits + (m - prefix_len p digits) ≡ m = omega arith in
        same_all (before + m) _ _ (ap (number_item before base p (take m digits)) same
        ∙ ap (λ xs. if prefix_len p digits == 0 then None else Some (record { len = before + prefix_len p digits; meaning = meaning_of (value_of base xs) }))
        (ap (λ k. take (prefix_len p digits) (take k digits)) (sym split) ∙ take_front (prefix_len p digits) (m - prefix_len p digits) digits))
    by false e =
        let ge = ltb-false (prefix_len p digits) m e in
        let same = prefix_within p digits m ge in
        same_none (before + m) _ _
        (λ i f. let k = number_len before base p (take m digits) (prefix_len p (take m digits)) i f in omega (arith, k, same))
        (λ i f. let k = number_len before base p digits (prefix_len p digits) i f in omega (arith, k, ge))

letter_same : (o : Option ℕ) (m : ℕ) (x y : Option Item) → SameBelow m x y → SameBelow m (letter_or o x) (letter_or o y)
letter_same (Some v) m x y s = same_all m _ _ refl
letter_same None m x y s = s

shift_below : (m n : ℕ) (o q : Option Item) → m ≡ n → SameBelow m o q → SameBelow n o q
shift_below m n o q e s = subst (λ k. SameBelow k o q) e s

-- an escape, counted with its backslash, that ends within the front
escape_front : (c : ℕ) (rest : List ℕ) (m : ℕ) → SameBelow (2 + m) (escape_at (c ∷ take m rest)) (escape_at (c ∷ rest))
unfolding escape_at
escape_front c rest m =
    let one : 1 + suc m ≡ 2 + m = omega arith in
    letter_same (letter_escape c) (2 + m) _ _
    (same_if (is_digit c) (2 + m) _ _ _ _
    (λ e. shift_below (1 + suc m) (2 + m) _ _ one (numeric_front 1 10 is_digit (c ∷ rest) (suc m)))
    (λ e. same_if (c == 120) (2 + m) _ _ _ _ (λ f. numeric_front 2 16 is_hex rest m)
    (λ f. same_if (c == 111) (2 + m) _ _ _ _ (λ g. numeric_front 2 8 is_octal rest m) (λ g. same_all (2 + m) None None refl))))

-- where the longest item would go on past the front, nothing shorter is found
begins_front : (c : ℕ) (xs : List ℕ) (m : ℕ) → 0 < m → begins c (take m xs) ≡ begins c xs
begins_front c xs zero h = absurd (omega arith)
begins_front c [] (suc m) h = refl
begins_front c (x ∷ xs) (suc m) h = refl

abbrev gap_item : List ℕ → ℕ → Option Item
gap_item bytes n = if n == 0 then None else (if begins 92 (drop n bytes) then Some (record { len = n + 2; meaning = meaning.Nothing }) else None)

gap_len : (bytes : List ℕ) (n : ℕ) (i : Item) → gap_item bytes n ≡ Some i → i.len ≡ n + 2
gap_len bytes n i e = by (n == 0) (begins 92 (drop n bytes)) e
  where
    by : (b d : Bool) → (if b then None else (if d then Some (record { len = n + 2; meaning = meaning.Nothing }) else None)) ≡ Some i → i.len ≡ n + 2
    by true d e = absurd (none_item i e)
    by false true e = ap (λ j. j.len) (sym (item_some (record { len = n + 2; meaning = meaning.Nothing }) i e))
    by false false e = absurd (none_item i e)

empty_front : (bytes : List ℕ) (m : ℕ) → 0 < m → SameBelow (1 + m) (empty_at (take m bytes)) (empty_at bytes)
unfolding empty_at
empty_front bytes m pos =
    let amp = begins_front 38 bytes m pos in
    subst (λ b. SameBelow (1 + m) (if b then Some (record { len = 2; meaning = meaning.Nothing }) else gap_item (take m bytes) (prefix_len is_blank (take m bytes)))
    (if begins 38 bytes then Some (record { len = 2; meaning = meaning.Nothing }) else gap_item bytes (prefix_len is_blank bytes))) (sym amp)
    (same_if (begins 38 bytes) (1 + m) _ _ _ _ (λ e. same_all (1 + m) _ _ refl) (λ e. by (nat_lt (prefix_len is_blank bytes) m) refl))
  where
    by : (b : Bool) → nat_lt (prefix_len is_blank bytes) m ≡ b → SameBelow (1 + m) (gap_item (take m bytes) (prefix_len is_blank (take m bytes))) (gap_item bytes (prefix_len is_blank bytes))
    by true e =
        let lt = ltb-true (prefix_len is_blank bytes) m e in
        let le : prefix_len is_blank bytes ≤ m = omega arith in
        let same = prefix_take is_blank bytes m le in
        let n = prefix_len is_blank bytes in
        let split : n + (m - n) ≡ m = omega arith in
        let some : 0 < m - n = omega arith in
        let close : begins 92 (drop n (take m bytes)) ≡ begins 92 (drop n bytes) =
        ap (λ k. begins 92 (drop n (take k bytes))) (sym split) ∙ ap (begins 92) (drop_front n (m - n) bytes) ∙ begins_front 92 (drop n bytes) (m - n) some in
        same_all (1 + m) _ _ (ap (gap_item (take m bytes)) same
        ∙ ap (λ b. if n == 0 then None else (if b then Some (record { len = n + 2; meaning = meaning.Nothing }) else None)) close)
    by false e =
        let ge = ltb-false (prefix_len is_blank bytes) m e in
        let same = prefix_within is_blank bytes m ge in
        same_none (1 + m) _ _
        (λ i f. let k = gap_len (take m bytes) (prefix_len is_blank (take m bytes)) i f in omega (arith, k, same))
        (λ i f. let k = gap_len bytes (prefix_len is_blank bytes) i f in omega (arith, k, ge))

-- a plain character
plain_len : (n v : ℕ) (i : Item) → plain_item n v ≡ Some i → i.len ≡ n
plain_len n v i e = by (is_scalar v) e
  where
    by : (b : Bool) → (if b then Some (record { len = n; meaning = meaning.Char v }) else None) ≡ Some i → i.len ≡ n
    by true e = ap (λ j. j.len) (sym (item_some (record { len = n; meaning = meaning.Char v }) i e))
    by false e = absurd (none_item i e)

plain_at_len : (c : ℕ) (rest : List ℕ) (i : Item) → plain_at c rest ≡ Some i → i.len ≡ continuation_len c + 1
unfolding plain_at
plain_at_len c rest i e = by (nat_lt c 32) (nat_lt (length rest) (continuation_len c)) e
  where
    by : (a b : Bool) → (if a then None else (if b then None else plain_item (continuation_len c + 1) (character_on (lead_bits c) (take (continuation_len c) rest)))) ≡ Some i → i.len ≡ continuation_len c + 1
    by true b e = absurd (none_item i e)
    by false true e = absurd (none_item i e)
    by false false e = plain_len (continuation_len c + 1) (character_on (lead_bits c) (take (continuation_len c) rest)) i e

same_length_test : (m n : ℕ) (rest : List ℕ) → n < m → nat_lt (length (take m rest)) n ≡ nat_lt (length rest) n
same_length_test m n rest lt = by (nat_lt (length rest) n) refl
  where
    by : (b : Bool) → nat_lt (length rest) n ≡ b → nat_lt (length (take m rest)) n ≡ nat_lt (length rest) n
    by true e =
        let few = ltb-true (length rest) n e in
        let len = length-take m rest in
        lt-ltb (length (take m rest)) n (omega (arith, few, len)) ∙ sym e
    by false e =
        let many = ltb-false (length rest) n e in
        let len = length-take m rest in
        le-ltb (length (take m rest)) n (omega (arith, many, len, lt)) ∙ sym e

plain_front : (c : ℕ) (rest : List ℕ) (m : ℕ) → SameBelow (1 + m) (plain_at c (take m rest)) (plain_at c rest)
unfolding plain_at
plain_front c rest m = by (nat_lt (continuation_len c) m) refl
  where
    by : (b : Bool) → nat_lt (continuation_len c) m ≡ b → SameBelow (1 + m) (plain_at c (take m rest)) (plain_at c rest)
    by true e =
        let lt = ltb-true (continuation_len c) m e in
        let split : continuation_len c + (m - continuation_len c) ≡ m = omega arith in
        same_all (1 + m) _ _
        (ap (λ b. if nat_lt c 32 then None else (if b then None else plain_item (continuation_len c + 1) (character_on (lead_bits c) (take (continuation_len c) (take m rest))))) (same_length_test m (continuation_len c) rest lt)
        ∙ ap (λ xs. if nat_lt c 32 then None else (if nat_lt (length rest) (continuation_len c) then None else plain_item (continuation_len c + 1) (character_on (lead_bits c) xs)))
        (ap (λ k. take (continuation_len c) (take k rest)) (sym split) ∙ take_front (continuation_len c) (m - continuation_len c) rest))
    by false e =
        let ge = ltb-false (continuation_len c) m e in
        same_none (1 + m) _ _ (λ i f. let k = plain_at_len c (take m rest) i f in omega (arith, k, ge)) (λ i f. let k = plain_at_len c rest i f in omega (arith, k, ge))

-- each item has a byte
letter_or_some : (o : Option ℕ) (q : Option Item) (i : Item) → ((j : Item) → q ≡ Some j → 1 ≤ j.len) → letter_or o q ≡ Some i → 1 ≤ i.len
letter_or_some (Some v) q i f e = let two = ap (λ j. j.len) (sym (item_some (record { len = 2; meaning = meaning.Char v }) i e)) in omega (arith, two)
letter_or_some None q i f e = f i e

if_some : (b : Bool) (o q : Option Item) (i : Item) → (o ≡ Some i → 1 ≤ i.len) → (q ≡ Some i → 1 ≤ i.len) → (if b then o else q) ≡ Some i → 1 ≤ i.len
if_some true o q i f g e = f e
if_some false o q i f g e = g e

numeric_some : (before base : ℕ) (p : ℕ → Bool) (digits : List ℕ) (i : Item) → 1 ≤ before → numeric_escape before base p digits ≡ Some i → 1 ≤ i.len
unfolding numeric_escape
numeric_some before base p digits i some e = let k = number_len before base p digits (prefix_len p digits) i e in omega (arith, k, some)

escape_some : (xs : List ℕ) (i : Item) → escape_at xs ≡ Some i → 1 ≤ i.len
unfolding escape_at
escape_some [] i e = absurd (none_item i e)
escape_some (c ∷ rest) i e = letter_or_some (letter_escape c) _ i
    (λ j f. if_some (is_digit c) _ _ j (λ g. numeric_some 1 10 is_digit (c ∷ rest) j (omega arith) g)
    (λ g. if_some (c == 120) _ _ j (λ h. numeric_some 2 16 is_hex rest j (omega arith) h)
    (λ h. if_some (c == 111) _ _ j (λ k. numeric_some 2 8 is_octal rest j (omega arith) k) (λ k. absurd (none_item j k)) h) g) f) e

empty_some : (xs : List ℕ) (i : Item) → empty_at xs ≡ Some i → 1 ≤ i.len
unfolding empty_at
empty_some xs i e = if_some (begins 38 xs) _ (gap_item xs (prefix_len is_blank xs)) i
    (λ f. let two = ap (λ j. j.len) (sym (item_some (record { len = 2; meaning = meaning.Nothing }) i f)) in omega (arith, two))
    (λ f. let k = gap_len xs (prefix_len is_blank xs) i f in omega (arith, k)) e

backslash_some : (xs : List ℕ) (i : Item) → backslash_at xs ≡ Some i → 1 ≤ i.len
unfolding backslash_at
backslash_some [] i e = absurd (none_item i e)
backslash_some (c ∷ rest) i e = if_some (c == 38 || is_blank c) _ _ i (λ f. empty_some (c ∷ rest) i f) (λ f. escape_some (c ∷ rest) i f) e

backslash_front : (rest : List ℕ) (m : ℕ) → SameBelow (1 + m) (backslash_at (take m rest)) (backslash_at rest)
unfolding backslash_at
backslash_front [] zero = same_all 1 _ _ refl
backslash_front [] (suc m) = same_all (1 + suc m) _ _ refl
backslash_front (c ∷ rest) zero = same_none 1 _ _ (λ i e. absurd (none_item i e)) (λ i e. backslash_some (c ∷ rest) i e)
backslash_front (c ∷ rest) (suc m) =
    let some : 0 < suc m = omega arith in
    let two : 2 + m ≡ 1 + suc m = omega arith in
    same_if (c == 38 || is_blank c) (1 + suc m) _ _ _ _ (λ e. empty_front (c ∷ rest) (suc m) some) (λ e. shift_below (2 + m) (1 + suc m) _ _ two (escape_front c rest m))

item_front : (c : ℕ) (rest : List ℕ) (m : ℕ) → SameBelow (1 + m) (item_at (c ∷ take m rest)) (item_at (c ∷ rest))
unfolding item_at
item_front c rest m = same_if (c == 92) (1 + m) _ _ _ _ (λ e. backslash_front rest m) (λ e. plain_front c rest m)

escape_whole : (rest : List ℕ) (m : ℕ) → SameBelow (1 + m) (escape_at (take m rest)) (escape_at rest)
unfolding escape_at
escape_whole [] zero = same_all 1 _ _ refl
escape_whole [] (suc m) = same_all (1 + suc m) _ _ refl
escape_whole (c ∷ rest) zero = same_none 1 _ _ (λ i e. absurd (none_item i e)) (λ i e. escape_some (c ∷ rest) i e)
escape_whole (c ∷ rest) (suc m) = let two : 2 + m ≡ 1 + suc m = omega arith in shift_below (2 + m) (1 + suc m) _ _ two (escape_front c rest m)

letter_front : (c : ℕ) (rest : List ℕ) (m : ℕ) → SameBelow (1 + m) (letter_at (c ∷ take m rest)) (letter_at (c ∷ rest))
unfolding letter_at
letter_front c rest m = same_if (c == 39) (1 + m) _ _ _ _ (λ e. same_all (1 + m) _ _ refl)
    (λ e. same_if (c == 92) (1 + m) _ _ _ _ (λ f. escape_whole rest m) (λ f. plain_front c rest m))

-- a length after one byte
suc_some : (o : Option ℕ) (n : ℕ) → option_map (λ k. suc k) o ≡ Some n → (k : ℕ) × ((o ≡ Some k) × (n ≡ suc k))
suc_some None n e = absurd (let x : None ≡ Some n = e in cc)
suc_some (Some k) n e = (k, (refl, let x : Some (suc k) ≡ Some n = e in cc))

item_then : (o : Option Item) (go : ℕ → Option ℕ) (n : ℕ) → on_item o go ≡ Some n → (i : Item) × ((o ≡ Some i) × ((k : ℕ) × ((go (i.len - 1) ≡ Some k) × (n ≡ suc k))))
item_then None go n e = absurd (let x : None ≡ Some n = e in cc)
item_then (Some i) go n e = (i, (refl, suc_some (go (i.len - 1)) n e))

close_bounds : (skip : ℕ) (xs : List ℕ) (n : ℕ) → close_at skip xs ≡ Some n → (skip < n) × (n ≤ length xs)
close_bounds skip [] n e = absurd (let x : None ≡ Some n = e in cc)
close_bounds (suc skip) (c ∷ rest) n e =
    let s = suc_some (close_at skip rest) n e in
    let more = close_bounds skip rest s.0 s.1.0 in
    (omega (arith, s.1.1, more.0), omega (arith, s.1.1, more.1))
close_bounds zero (c ∷ rest) n e = by (c == 34) e (λ k l f. close_bounds k rest l f)
  where
    by : (b : Bool) → (if b then Some 1 else on_item (item_at (c ∷ rest)) (λ skip. close_at skip rest)) ≡ Some n → ((k l : ℕ) → close_at k rest ≡ Some l → (k < l) × (l ≤ length rest)) → (0 < n) × (n ≤ length (c ∷ rest))
    by true e more = let one : 1 ≡ n = let x : Some 1 ≡ Some n = e in cc in (omega (arith, one), omega (arith, one))
    by false e more =
        let s = item_then (item_at (c ∷ rest)) (λ skip. close_at skip rest) n e in
        let m = more (s.0.len - 1) s.1.1.0 s.1.1.1.0 in
        (omega (arith, s.1.1.1.1), omega (arith, s.1.1.1.1, m.1))

pub close_to : (xs : List ℕ) (skip m n : ℕ) → close_at skip (take m xs) ≡ Some n → close_at skip xs ≡ Some n
close_to [] skip zero n e = e
close_to [] skip (suc m) n e = e
close_to (c ∷ rest) skip zero n e = absurd (let x : None ≡ Some n = e in cc)
close_to (c ∷ rest) (suc skip) (suc m) n e =
    let s = suc_some (close_at skip (take m rest)) n e in
    ap (option_map (λ k. suc k)) (close_to rest skip m s.0 s.1.0) ∙ ap Some (sym s.1.1)
close_to (c ∷ rest) zero (suc m) n e = by (c == 34) e (λ k l f. close_to rest k m l f)
  where
    by : (b : Bool) → (if b then Some 1 else on_item (item_at (c ∷ take m rest)) (λ skip. close_at skip (take m rest))) ≡ Some n
        → ((k l : ℕ) → close_at k (take m rest) ≡ Some l → close_at k rest ≡ Some l) → (if b then Some 1 else on_item (item_at (c ∷ rest)) (λ skip. close_at skip rest)) ≡ Some n
    by true e more = e
    by false e more =
        let s = item_then (item_at (c ∷ take m rest)) (λ skip. close_at skip (take m rest)) n e in
        let b = close_bounds (s.0.len - 1) (take m rest) s.1.1.0 s.1.1.1.0 in
        let len = length-take m rest in
        let short : s.0.len < 1 + m = omega (arith, b.0, b.1, len) in
        let same = (item_front c rest m).to s.0 short s.1.0 in
        ap (λ o. on_item o (λ skip. close_at skip rest)) same ∙ ap (option_map (λ k. suc k)) (more (s.0.len - 1) s.1.1.0 s.1.1.1.0) ∙ ap Some (sym s.1.1.1.1)

pub close_back : (xs : List ℕ) (skip m n : ℕ) → close_at skip xs ≡ Some n → n ≤ m → close_at skip (take m xs) ≡ Some n
close_back [] skip zero n e le = e
close_back [] skip (suc m) n e le = e
close_back (c ∷ rest) skip zero n e le = let b = close_bounds skip (c ∷ rest) n e in absurd (omega (arith, b.0, le))
close_back (c ∷ rest) (suc skip) (suc m) n e le =
    let s = suc_some (close_at skip rest) n e in
    ap (option_map (λ k. suc k)) (close_back rest skip m s.0 s.1.0 (omega (arith, s.1.1, le))) ∙ ap Some (sym s.1.1)
close_back (c ∷ rest) zero (suc m) n e le = by (c == 34) e (λ k l f h. close_back rest k m l f h)
  where
    by : (b : Bool) → (if b then Some 1 else on_item (item_at (c ∷ rest)) (λ skip. close_at skip rest)) ≡ Some n
        → ((k l : ℕ) → close_at k rest ≡ Some l → l ≤ m → close_at k (take m rest) ≡ Some l) → (if b then Some 1 else on_item (item_at (c ∷ take m rest)) (λ skip. close_at skip (take m rest))) ≡ Some n
    by true e more = e
    by false e more =
        let s = item_then (item_at (c ∷ rest)) (λ skip. close_at skip rest) n e in
        let b = close_bounds (s.0.len - 1) rest s.1.1.0 s.1.1.1.0 in
        let few : s.1.1.0 ≤ m = omega (arith, s.1.1.1.1, le) in
        let short : s.0.len < 1 + m = omega (arith, b.0, few) in
        let same = (item_front c rest m).back s.0 short s.1.0 in
        ap (λ o. on_item o (λ skip. close_at skip (take m rest))) same ∙ ap (option_map (λ k. suc k)) (more (s.0.len - 1) s.1.1.0 s.1.1.1.0 few) ∙ ap Some (sym s.1.1.1.1)

-- a length that is that of the whole
whole_is : (o : Option ℕ) (n len : ℕ) → o ≡ Some n → n ≡ len → is_whole o len ≡ true
whole_is o n len e f = ap (λ x. is_whole x len) e ∙ eq-eqb n len f

whole_other : (o : Option ℕ) (n len : ℕ) → o ≡ Some n → (n ≡ len → ⊥) → is_whole o len ≡ false
whole_other o n len e f = ap (λ x. is_whole x len) e ∙ ne_eqb n len f

whole_never : (o : Option ℕ) (len : ℕ) → ((n : ℕ) → o ≡ Some n → ⊥) → is_whole o len ≡ false
whole_never None len f = refl
whole_never (Some n) len f = absurd (f n refl)

none_len : (o : Option ℕ) (n : ℕ) → o ≡ None → o ≡ Some n → ⊥
none_len o n e f = let x : None ≡ Some n = sym e ∙ f in cc

text_some : (xs : List ℕ) → 0 < length xs → text_piece xs ≡ is_if (is_whole (close_at 0 xs) (length xs)) (Ok class.Str)
text_some [] h = absurd (omega arith)
text_some (c ∷ xs) h = refl

comment_some : (xs : List ℕ) → 0 < length xs → comment_piece xs ≡ is_if (is_whole (comment_end false 0 xs) (length xs)) (Ok class.Skip)
comment_some [] h = absurd (omega arith)
comment_some (c ∷ xs) h = refl

len_of_front : (m : ℕ) (rest : List ℕ) → m ≤ length rest → length (take m rest) ≡ m
len_of_front m rest le = let len = length-take m rest in omega (arith, len, le)

pub text_longest : (rest : List ℕ) → Has 1 text_piece rest (text_at rest)
unfolding text_at
text_longest rest = by (close_at 0 rest) refl
  where
    by : (o : Option ℕ) → close_at 0 rest ≡ o → Has 1 text_piece rest (closed class.Str 1 wrong.OpenText o)
    by None e = (
      0,
      record {
        within = omega arith;
        is = refl;
        longest = λ m lt le.
            let len = len_of_front m rest le in
            text_some (take m rest) (omega (arith, len, lt))
            ∙ ap (λ b. is_if b (Ok class.Str)) (whole_never (close_at 0 (take m rest)) (length (take m rest)) (λ n f. none_len (close_at 0 rest) n e (close_to rest 0 m n f)));
      },
    )
    by (Some n) e =
        let b = close_bounds 0 rest n e in (
          n,
          (
            refl,
            record {
              within = b.1;
              is =
                  let len = len_of_front n rest b.1 in
                  let here : n ≤ n = omega arith in
                  text_some (take n rest) (omega (arith, len, b.0))
                  ∙ ap (λ x. is_if x (Ok class.Str)) (whole_is (close_at 0 (take n rest)) n (length (take n rest)) (close_back rest 0 n n e here) (sym len));
              longest = λ m lt le.
                  let len = len_of_front m rest le in
                  let most : n ≤ m = omega arith in
                  text_some (take m rest) (omega (arith, len, lt))
                  ∙ ap (λ x. is_if x (Ok class.Str)) (whole_other (close_at 0 (take m rest)) n (length (take m rest)) (close_back rest 0 m n e most) (λ f. omega (arith, len, lt, f)));
            },
          ),
        )

-- comments
abbrev comment_step : ℕ → List ℕ → Bool → Bool → Option ℕ
comment_step depth rest close opens =
    if close then closing depth (λ outer. comment_end true outer rest)
    else (if opens then option_map (λ n. suc n) (comment_end true (suc depth) rest)
    else option_map (λ n. suc n) (comment_end false depth rest))

begins_length : (c : ℕ) (rest : List ℕ) → begins c rest ≡ true → 1 ≤ length rest
begins_length c [] e = absurd (cc)
begins_length c (d ∷ rest) e = omega arith

and_true_right : (a b : Bool) → a && b ≡ true → b ≡ true
and_true_right true b e = e
and_true_right false b e = absurd (cc)

closing_some : (depth : ℕ) (go : ℕ → Option ℕ) (n : ℕ) → closing depth go ≡ Some n → (n ≡ 2) ⊎ ((d : ℕ) × ((k : ℕ) × ((go d ≡ Some k) × (n ≡ suc k))))
closing_some zero go n e = inl (let x : Some 2 ≡ Some n = e in cc)
closing_some (suc d) go n e = let s = suc_some (go d) n e in inr (d, (s.0, (s.1.0, s.1.1)))

comment_bounds : (skip : Bool) (depth : ℕ) (xs : List ℕ) (n : ℕ) → comment_end skip depth xs ≡ Some n → (2 ≤ n) × (n ≤ length xs)
comment_bounds skip depth [] n e = absurd (let x : None ≡ Some n = e in cc)
comment_bounds true depth (c ∷ rest) n e =
    let s = suc_some (comment_end false depth rest) n e in
    let b = comment_bounds false depth rest s.0 s.1.0 in
    (omega (arith, s.1.1, b.0), omega (arith, s.1.1, b.1))
comment_bounds false depth (c ∷ rest) n e = by (c == 45 && begins 125 rest) refl (c == 123 && begins 45 rest) e (λ s d k f. comment_bounds s d rest k f)
  where
    one : (o : Option ℕ) → option_map (λ k. suc k) o ≡ Some n → ((k : ℕ) → o ≡ Some k → (2 ≤ k) × (k ≤ length rest)) → (2 ≤ n) × (n ≤ length (c ∷ rest))
    one o e f = let s = suc_some o n e in let b = f s.0 s.1.0 in (omega (arith, s.1.1, b.0), omega (arith, s.1.1, b.1))

    by : (close : Bool) → c == 45 && begins 125 rest ≡ close → (opens : Bool) → comment_step depth rest close opens ≡ Some n
        → ((s : Bool) (d k : ℕ) → comment_end s d rest ≡ Some k → (2 ≤ k) × (k ≤ length rest)) → (2 ≤ n) × (n ≤ length (c ∷ rest))
    by true f opens e more =
        let some = begins_length 125 rest (and_true_right (c == 45) (begins 125 rest) f) in
        elim (closing_some depth (λ outer. comment_end true outer rest) n e) [
          | inl two ↦ (omega (arith, two), omega (arith, two, some))
          | inr s ↦ let b = more true s.0 s.1.0 s.1.1.0 in (omega (arith, s.1.1.1, b.0), omega (arith, s.1.1.1, b.1))
        ]
    by false f true e more = one (comment_end true (suc depth) rest) e (λ k g. more true (suc depth) k g)
    by false f false e more = one (comment_end false depth rest) e (λ k g. more false depth k g)

map_step : (o q : Option ℕ) (n : ℕ) → option_map (λ k. suc k) o ≡ Some n → ((k : ℕ) → o ≡ Some k → n ≡ suc k → q ≡ Some k) → option_map (λ k. suc k) q ≡ Some n
map_step o q n e f = let s = suc_some o n e in ap (option_map (λ k. suc k)) (f s.0 s.1.0 s.1.1) ∙ ap Some (sym s.1.1)

closing_step : (depth : ℕ) (go to : ℕ → Option ℕ) (n : ℕ) → closing depth go ≡ Some n → ((d k : ℕ) → go d ≡ Some k → n ≡ suc k → to d ≡ Some k) → closing depth to ≡ Some n
closing_step zero go to n e f = e
closing_step (suc d) go to n e f = map_step (go d) (to d) n e (f d)

-- both steps go the same way
move_step : (depth : ℕ) (from to : List ℕ) (close opens : Bool) (n : ℕ) → comment_step depth from close opens ≡ Some n
    → ((s : Bool) (d k : ℕ) → comment_end s d from ≡ Some k → n ≡ suc k → comment_end s d to ≡ Some k) → comment_step depth to close opens ≡ Some n
move_step depth from to true opens n e f = closing_step depth (λ outer. comment_end true outer from) (λ outer. comment_end true outer to) n e (λ d k g h. f true d k g h)
move_step depth from to false true n e f = map_step (comment_end true (suc depth) from) (comment_end true (suc depth) to) n e (f true (suc depth))
move_step depth from to false false n e f = map_step (comment_end false depth from) (comment_end false depth to) n e (f false depth)

same_marks : (c depth m : ℕ) (rest to : List ℕ) → comment_step depth to (c == 45 && begins 125 (take (suc m) rest)) (c == 123 && begins 45 (take (suc m) rest))
    ≡ comment_step depth to (c == 45 && begins 125 rest) (c == 123 && begins 45 rest)
same_marks c depth m [] to = refl
same_marks c depth m (d ∷ rest) to = refl

pub comment_to : (xs : List ℕ) (skip : Bool) (depth m n : ℕ) → comment_end skip depth (take m xs) ≡ Some n → comment_end skip depth xs ≡ Some n
comment_to [] skip depth zero n e = e
comment_to [] skip depth (suc m) n e = e
comment_to (c ∷ rest) skip depth zero n e = absurd (let x : None ≡ Some n = e in cc)
comment_to (c ∷ rest) true depth (suc m) n e = map_step (comment_end false depth (take m rest)) (comment_end false depth rest) n e (λ k f h. comment_to rest false depth m k f)
comment_to (c ∷ rest) false depth (suc zero) n e = let b = comment_bounds false depth (c ∷ []) n e in absurd (omega (arith, b.0, b.1))
comment_to (c ∷ rest) false depth (suc (suc m)) n e =
    move_step depth (take (suc m) rest) rest (c == 45 && begins 125 rest) (c == 123 && begins 45 rest) n (sym (same_marks c depth m rest (take (suc m) rest)) ∙ e)
    (λ s d k f h. comment_to rest s d (suc m) k f)

pub comment_back : (xs : List ℕ) (skip : Bool) (depth m n : ℕ) → comment_end skip depth xs ≡ Some n → n ≤ m → comment_end skip depth (take m xs) ≡ Some n
comment_back [] skip depth zero n e le = e
comment_back [] skip depth (suc m) n e le = e
comment_back (c ∷ rest) skip depth zero n e le = let b = comment_bounds skip depth (c ∷ rest) n e in absurd (omega (arith, b.0, le))
comment_back (c ∷ rest) true depth (suc m) n e le =
    map_step (comment_end false depth rest) (comment_end false depth (take m rest)) n e (λ k f h. comment_back rest false depth m k f (omega (arith, h, le)))
comment_back (c ∷ rest) false depth (suc zero) n e le = let b = comment_bounds false depth (c ∷ rest) n e in absurd (omega (arith, b.0, le))
comment_back (c ∷ rest) false depth (suc (suc m)) n e le =
    same_marks c depth m rest (take (suc m) rest)
    ∙ move_step depth rest (take (suc m) rest) (c == 45 && begins 125 rest) (c == 123 && begins 45 rest) n e (λ s d k f h. comment_back rest s d (suc m) k f (omega (arith, h, le)))

-- after `{`
module _ (d : ℕ) (ys : List ℕ) where
  comment_longest : d == 45 ≡ true → Has 1 brace_piece (d ∷ ys) (closed class.Skip 2 wrong.OpenComment (comment_end false 0 ys))
  comment_longest dash = by (comment_end false 0 ys) refl
    where
      as_comment : (xs : List ℕ) → brace_piece (d ∷ xs) ≡ comment_piece xs
      as_comment xs = if_true (Option Sort) (d == 45) (comment_piece xs) (is_if (d == 124 && is_empty xs) (Ok class.Mark)) dash

      past : (f : (m : ℕ) → 0 < m → m ≤ length ys → is_whole (comment_end false 0 (take m ys)) (length (take m ys)) ≡ false) → (m : ℕ) → 1 < m → m ≤ length (d ∷ ys) → brace_piece (take m (d ∷ ys)) ≡ None
      past f zero lt le = absurd (omega arith)
      past f (suc m) lt le =
          let few : m ≤ length ys = omega arith in
          let len = len_of_front m ys few in
          as_comment (take m ys) ∙ comment_some (take m ys) (omega (arith, len, lt)) ∙ ap (λ b. is_if b (Ok class.Skip)) (f m (omega arith) few)

      by : (o : Option ℕ) → comment_end false 0 ys ≡ o → Has 1 brace_piece (d ∷ ys) (closed class.Skip 2 wrong.OpenComment o)
      by None e = (
        1,
        record {
          within = omega arith;
          is = as_comment [];
          longest = past (λ m lt le. whole_never (comment_end false 0 (take m ys)) (length (take m ys)) (λ n f. none_len (comment_end false 0 ys) n e (comment_to ys false 0 m n f)));
        },
      )
      by (Some n) e =
          let b = comment_bounds false 0 ys n e in
          let one : n + 1 ≡ suc n = omega arith in
          let here : n ≤ n = omega arith in
          let len = len_of_front n ys b.1 in (
            n + 1,
            (
              omega arith,
              record {
                within = omega (arith, b.1);
                is = ap (λ k. brace_piece (take k (d ∷ ys))) one ∙ as_comment (take n ys) ∙ comment_some (take n ys) (omega (arith, len, b.0))
                    ∙ ap (λ x. is_if x (Ok class.Skip)) (whole_is (comment_end false 0 (take n ys)) n (length (take n ys)) (comment_back ys false 0 n n e here) (sym len));
                longest = λ m lt le. longer n e b.0 m lt le;
              },
            ),
          )
        where
          longer : (n : ℕ) → comment_end false 0 ys ≡ Some n → 2 ≤ n → (m : ℕ) → n + 1 < m → m ≤ length (d ∷ ys) → brace_piece (take m (d ∷ ys)) ≡ None
          longer n e two zero lt le = absurd (omega arith)
          longer n e two (suc m) lt le =
              let few : m ≤ length ys = omega arith in
              let len = len_of_front m ys few in
              let most : n ≤ m = omega arith in
              as_comment (take m ys) ∙ comment_some (take m ys) (omega (arith, len, lt))
              ∙ ap (λ x. is_if x (Ok class.Skip)) (whole_other (comment_end false 0 (take m ys)) n (length (take m ys)) (comment_back ys false 0 m n e most) (λ f. omega (arith, len, lt, f)))

  mark_longest : d == 45 ≡ false → d == 124 ≡ true → Has 1 brace_piece (d ∷ ys) (scanned class.Mark 2)
  mark_longest dash bar = (
    1,
    (
      refl,
      record {
        within = omega arith;
        is = as_mark [] ∙ ap (λ b. is_if (b && true) (Ok class.Mark)) bar;
        longest = past ys;
      },
    ),
  )
    where
      as_mark : (xs : List ℕ) → brace_piece (d ∷ xs) ≡ is_if (d == 124 && is_empty xs) (Ok class.Mark)
      as_mark xs = if_false (Option Sort) (d == 45) (comment_piece xs) (is_if (d == 124 && is_empty xs) (Ok class.Mark)) dash

      past : (ys : List ℕ) (m : ℕ) → 1 < m → m ≤ length (d ∷ ys) → brace_piece (take m (d ∷ ys)) ≡ None
      past ys zero lt le = absurd (omega arith)
      past ys (suc zero) lt le = absurd (omega arith)
      past [] (suc (suc m)) lt le = absurd (omega arith)
      past (y ∷ ys) (suc (suc m)) lt le = as_mark (y ∷ take m ys) ∙ ap (λ b. is_if (b && false) (Ok class.Mark)) bar

  brace_alone : d == 45 ≡ false → d == 124 ≡ false → Has 1 brace_piece (d ∷ ys) (scanned class.Mark 1)
  brace_alone dash bar = (0, (refl, record { within = omega arith; is = refl; longest = past }))
    where
      past : (m : ℕ) → 0 < m → m ≤ length (d ∷ ys) → brace_piece (take m (d ∷ ys)) ≡ None
      past zero lt le = absurd (omega arith)
      past (suc m) lt le = if_false (Option Sort) (d == 45) (comment_piece (take m ys)) (is_if (d == 124 && is_empty (take m ys)) (Ok class.Mark)) dash
          ∙ ap (λ b. is_if (b && is_empty (take m ys)) (Ok class.Mark)) bar

pub brace_longest : (rest : List ℕ) → Has 1 brace_piece rest (brace_at rest)
unfolding brace_at
brace_longest [] = (0, (refl, record { within = omega arith; is = refl; longest = λ m lt le. absurd (omega arith) }))
brace_longest (d ∷ ys) = has_or (d == 45) 1 brace_piece (d ∷ ys) _ _ (λ e. comment_longest d ys e)
    (λ e. has_or (d == 124) 1 brace_piece (d ∷ ys) _ _ (λ f. mark_longest d ys e f) (λ f. brace_alone d ys e f))

-- characters
is_byte_begins : (c : ℕ) (xs : List ℕ) → is_byte c xs ≡ true → (begins c xs ≡ true) × (length xs ≡ 1)
is_byte_begins c [] e = absurd (cc)
is_byte_begins c (d ∷ []) e = (e, refl)
is_byte_begins c (d ∷ e ∷ more) f = absurd (cc)

one_byte : (c : ℕ) (xs : List ℕ) → begins c xs ≡ true → is_byte c (take 1 xs) ≡ true
one_byte c [] e = absurd (cc)
one_byte c (d ∷ xs) e = e

more_bytes : (c : ℕ) (xs : List ℕ) → 1 < length xs → is_byte c xs ≡ false
more_bytes c [] h = refl
more_bytes c (d ∷ []) h = absurd (omega arith)
more_bytes c (d ∷ e ∷ more) h = refl

front_begins : (c m : ℕ) (xs : List ℕ) → begins c (take m xs) ≡ true → begins c xs ≡ true
front_begins c zero xs e = absurd (cc)
front_begins c (suc m) [] e = absurd (cc)
front_begins c (suc m) (x ∷ xs) e = e

drop_all_len : (n : ℕ) (xs : List ℕ) → 0 < length (drop n xs) → n < length xs
drop_all_len n xs h = let len = length-drop n xs in omega (arith, len, h)

letter_some : (c : ℕ) (rest : List ℕ) (i : Item) → letter_at (c ∷ rest) ≡ Some i → 1 ≤ i.len
unfolding letter_at
letter_some c rest i e = if_some (c == 39) _ _ i (λ f. absurd (none_item i f))
    (λ f. if_some (c == 92) _ _ i (λ g. escape_some rest i g) (λ g. let k = plain_at_len c rest i g in omega (arith, k)) f) e

module _ (c : ℕ) (rest : List ℕ) where
  abbrev quote : List ℕ
  quote = c ∷ rest

  split_at : (i : Item) (m : ℕ) → i.len ≤ m → drop i.len (take m quote) ≡ take (m - i.len) (drop i.len quote)
  split_at i m le =
      let same : i.len + (m - i.len) ≡ m = omega arith in
      ap (λ k. drop i.len (take k quote)) (sym same) ∙ drop_front i.len (m - i.len) quote

  closed_none : (o : Option Item) (xs : List ℕ) → ((i : Item) → o ≡ Some i → is_byte 39 (drop i.len xs) ≡ false) → closed_letter o xs ≡ None
  closed_none None xs f = refl
  closed_none (Some i) xs f = ap (λ b. is_if b (Ok class.Char)) (f i refl)

  bool_not : (b : Bool) → (b ≡ true → ⊥) → b ≡ false
  bool_not true f = absurd (f refl)
  bool_not false f = refl

  -- no front of the literal is one where the whole is none
  no_letter : ((i : Item) → letter_at quote ≡ Some i → begins 39 (drop i.len quote) ≡ false) → RunsTo quote_piece quote 0 (Err wrong.OpenText)
  no_letter none = record { within = omega arith; is = refl; longest = past }
    where
      past : (m : ℕ) → 0 < m → m ≤ length quote → quote_piece (take m quote) ≡ None
      past zero lt le = absurd (omega arith)
      past (suc m) lt le = closed_none (letter_at (c ∷ take m rest)) (c ∷ take m rest) (λ i e. bool_not (is_byte 39 (drop i.len (c ∷ take m rest))) (λ f. clash i e f))
        where
          clash : (i : Item) → letter_at (c ∷ take m rest) ≡ Some i → is_byte 39 (drop i.len (c ∷ take m rest)) ≡ true → ⊥
          clash i e f =
              let s = is_byte_begins 39 (drop i.len (c ∷ take m rest)) f in
              let room = drop_all_len i.len (c ∷ take m rest) (omega (arith, s.1)) in
              let len = length-take m rest in
              let short : i.len < 1 + m = omega (arith, room, len) in
              let whole = (letter_front c rest m).to i short e in
              let le : i.len ≤ suc m = omega arith in
              let front : begins 39 (take (suc m - i.len) (drop i.len quote)) ≡ true = ap (begins 39) (sym (split_at i (suc m) le)) ∙ s.0 in
              let here = front_begins 39 (suc m - i.len) (drop i.len quote) front in
              let no = none i whole in
              let x : true ≡ false = sym here ∙ no in cc

  letter_found : (i : Item) → letter_at quote ≡ Some i → begins 39 (drop i.len quote) ≡ true → RunsTo quote_piece quote (i.len + 1) (Ok class.Char)
  letter_found i e f = record { within = omega (arith, long, room); is = is_here (i.len + 1) one; longest = past }
    where
      some : 1 ≤ length (drop i.len quote)
      some = begins_length 39 (drop i.len quote) f

      long : length (drop i.len quote) ≡ length quote - i.len
      long = length-drop i.len quote

      room : i.len < length quote
      room = omega (arith, some, long)

      one : i.len + 1 ≡ i.len + 1
      one = refl

      at : (m : ℕ) → i.len ≤ m → quote_piece (take (suc m) quote) ≡ is_if (is_byte 39 (take (suc m - i.len) (drop i.len quote))) (Ok class.Char)
      at m le =
          let short : i.len < 1 + m = omega arith in
          let less : i.len ≤ suc m = omega arith in
          ap (λ o. closed_letter o (c ∷ take m rest)) ((letter_front c rest m).back i short e) ∙ ap (λ xs. is_if (is_byte 39 xs) (Ok class.Char)) (split_at i (suc m) less)

      is_here : (n : ℕ) → n ≡ i.len + 1 → quote_piece (take n quote) ≡ Some (Ok class.Char)
      is_here zero g = absurd (omega arith)
      is_here (suc m) g =
          let le : i.len ≤ m = omega arith in
          let left : suc m - i.len ≡ 1 = omega arith in
          at m le ∙ ap (λ k. is_if (is_byte 39 (take k (drop i.len quote))) (Ok class.Char)) left ∙ ap (λ b. is_if b (Ok class.Char)) (one_byte 39 (drop i.len quote) f)

      past : (n : ℕ) → i.len + 1 < n → n ≤ length quote → quote_piece (take n quote) ≡ None
      past zero lt le = absurd (omega arith)
      past (suc m) lt le =
          let less : i.len ≤ m = omega arith in
          let few : suc m - i.len ≤ length (drop i.len quote) = omega (arith, long) in
          let len = len_of_front (suc m - i.len) (drop i.len quote) few in
          at m less ∙ ap (λ b. is_if b (Ok class.Char)) (more_bytes 39 (take (suc m - i.len) (drop i.len quote)) (omega (arith, len, lt)))

pub quote_longest : (rest : List ℕ) → Has 1 quote_piece rest (quote_at rest)
unfolding quote_at letter_at
quote_longest [] = (0, record { within = omega arith; is = refl; longest = λ m lt le. absurd (omega arith) })
quote_longest (c ∷ rest) = by (letter_at (c ∷ rest)) refl
  where
    by : (o : Option Item) → letter_at (c ∷ rest) ≡ o → Has 1 quote_piece (c ∷ rest) (quoted o (c ∷ rest))
    by None e = (0, no_letter c rest (λ i f. absurd (none_item i (sym e ∙ f))))
    by (Some i) e = has_or (begins 39 (drop i.len (c ∷ rest))) 1 quote_piece (c ∷ rest) (scanned class.Char (i.len + 2)) (Err wrong.OpenText)
        (λ f. (i.len + 1, (omega arith, letter_found c rest i e f)))
        (λ f. (0, no_letter c rest (λ j g. let same : i ≡ j = item_some i j (sym e ∙ g) in ap (λ k. begins 39 (drop k.len (c ∷ rest))) (sym same) ∙ f)))
