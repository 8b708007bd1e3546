-- What a scan finds is the longest piece: names, numbers and operators.
use Rattle.std.proofs.Common.{◌≡◌, ℕ, zero, suc, ◌+◌, ◌<◌, ◌≤◌, Bool, true, false, ◌||◌, ◌==◌, if◌then◌else◌, List, [], ◌∷◌, length, take, drop, Option, Some, None, Result, Ok, Err, refl, ap, ◌∙◌, arith}
use Rattle.std.proofs.lemmas.List.Sums.{prefix_len-le-length}
use Rattle.std.specs.List.{prefix_len, list_all}
use Rattle.gh_lexer.specs.declared.scan.Class.{Class}
use Rattle.gh_lexer.specs.declared.scan.Class.TheVariants as class
use Rattle.gh_lexer.specs.declared.scan.Scan.{Scan}
use Rattle.gh_lexer.specs.declared.scan.Wrong.{Wrong}
use Rattle.gh_lexer.specs.declared.scan.Wrong.TheVariants as wrong
use Rattle.gh_lexer.specs.declared.token.NameClass.TheVariants as name
use Rattle.gh_lexer.specs.Chars.{is_small, is_large, is_name_char, is_symbol, is_dashes, is_word, is_operator}
use Rattle.gh_lexer.specs.Scan.{scanned, small_at, operator_class, part_at, qualified_at, large_at}
use Rattle.gh_lexer.specs.Pieces.{Sort, is_if, small_piece, part_piece, after_name, large_piece}
use Rattle.gh_lexer.proofs.Runs.{RunsTo, same_from, shift, run_longest, prefix_take, drop_front}

-- the longest piece of a kind, with the length of the scan counted from `base` on
abbrev pub Has : ℕ → (List ℕ → Option Sort) → List ℕ → Result Scan Wrong → Type 0
Has base P rest (Ok s) = (n : ℕ) × ((s.len ≡ n + base) × RunsTo P rest n (Ok s.class))
Has base P rest (Err why) = (n : ℕ) × RunsTo P rest n (Err why)

pub has_if : (b : Bool) (base : ℕ) (P Q : List ℕ → Option Sort) (rest : List ℕ) (x y : Result Scan Wrong) → (b ≡ true → Has base P rest x) → (b ≡ false → Has base Q rest y)
    → Has base (λ xs. if b then P xs else Q xs) rest (if b then x else y)
has_if true base P Q rest x y f g = f refl
has_if false base P Q rest x y f g = g refl

-- the same test on the scan alone
pub has_or : (b : Bool) (base : ℕ) (P : List ℕ → Option Sort) (rest : List ℕ) (x y : Result Scan Wrong) → (b ≡ true → Has base P rest x) → (b ≡ false → Has base P rest y) → Has base P rest (if b then x else y)
has_or true base P rest x y f g = f refl
has_or false base P rest x y f g = g refl

pub run_sort : (p : ℕ → Bool) (F : List ℕ → Sort) (rest : List ℕ) (sort : Sort) → F (take (prefix_len p rest) rest) ≡ sort → RunsTo (λ xs. is_if (list_all p xs) (F xs)) rest (prefix_len p rest) sort
run_sort p F rest sort e =
    let r = run_longest p F rest (prefix_len-le-length p rest) in
    record { within = r.within; is = r.is ∙ ap Some e; longest = r.longest }

pub if_true : (A : Type 0) (b : Bool) (x y : A) → b ≡ true → (if b then x else y) ≡ x
if_true A true x y e = refl
if_true A false x y e = absurd (cc)

pub if_false : (A : Type 0) (b : Bool) (x y : A) → b ≡ false → (if b then x else y) ≡ y
if_false A true x y e = absurd (cc)
if_false A false x y e = refl

pub small_longest : (c : ℕ) (rest : List ℕ) → Has 1 (small_piece c) rest (small_at c rest)
unfolding small_at
small_longest c rest =
    let F : List ℕ → Sort = λ xs. if is_word (c ∷ xs) then Ok class.Word else Ok (class.Name name.VarId) in
    let n = prefix_len is_name_char rest in
    has_or (is_word (c ∷ take n rest)) 1 (small_piece c) rest (scanned class.Word (n + 1)) (scanned (class.Name name.VarId) (n + 1))
    (λ e. (n, (refl, run_sort is_name_char F rest (Ok class.Word) (if_true Sort (is_word (c ∷ take n rest)) (Ok class.Word) (Ok (class.Name name.VarId)) e))))
    (λ e. (n, (refl, run_sort is_name_char F rest (Ok (class.Name name.VarId)) (if_false Sort (is_word (c ∷ take n rest)) (Ok class.Word) (Ok (class.Name name.VarId)) e))))

-- a name alone, where no last part follows
alone : (size : ℕ) (after : List ℕ) → ((m : ℕ) → 0 < m → m ≤ length after → after_name size (take m after) ≡ None) → Has size (after_name size) after (scanned (class.Name name.ConId) size)
alone size after none = (0, (omega arith, record { within = omega arith; is = refl; longest = none }))

-- a last part after a dot
module _ (size dot d : ℕ) (more : List ℕ) where
  no_part : ((j : ℕ) → j ≤ length more → after_name size (dot ∷ d ∷ take j more) ≡ None) → Has size (after_name size) (dot ∷ d ∷ more) (scanned (class.Name name.ConId) size)
  no_part none = alone size (dot ∷ d ∷ more) by
    where
      by : (m : ℕ) → 0 < m → m ≤ length (dot ∷ d ∷ more) → after_name size (take m (dot ∷ d ∷ more)) ≡ None
      by zero lt le = absurd (omega arith)
      by (suc zero) lt le = refl
      by (suc (suc j)) lt le = none j (omega arith)

  part : (n : ℕ) (sort : Sort) → dot == 46 ≡ true → RunsTo (part_piece size d) more n sort → RunsTo (after_name size) (dot ∷ d ∷ more) (n + 2) sort
  part n sort e r =
      let in_more = r.within in
      let two : n + 2 ≡ suc (suc n) = omega arith in
      record {
        within = omega (arith, in_more);
        is = ap (λ k. after_name size (take k (dot ∷ d ∷ more))) two ∙ if_true (Option Sort) (dot == 46) (part_piece size d (take n more)) None e ∙ r.is;
        longest = λ m lt le. by m lt le;
      }
    where
      by : (m : ℕ) → n + 2 < m → m ≤ length (dot ∷ d ∷ more) → after_name size (take m (dot ∷ d ∷ more)) ≡ None
      by zero lt le = absurd (omega arith)
      by (suc zero) lt le = absurd (omega arith)
      by (suc (suc j)) lt le = if_true (Option Sort) (dot == 46) (part_piece size d (take j more)) None e ∙ r.longest j (omega arith) (omega arith)

  part_has : (n len : ℕ) (c : Class) → dot == 46 ≡ true → len ≡ size + 2 + n → RunsTo (part_piece size d) more n (Ok c) → Has size (after_name size) (dot ∷ d ∷ more) (scanned c len)
  part_has n len c e same r = (n + 2, (omega arith, part n (Ok c) e r))

  part_wrong : (n : ℕ) → dot == 46 ≡ true → RunsTo (part_piece size d) more n (Err wrong.NoToken) → Has size (after_name size) (dot ∷ d ∷ more) (Err wrong.NoToken)
  part_wrong n e r = (n + 2, part n (Err wrong.NoToken) e r)

  abbrev small_part : List ℕ → Option Sort
  small_part xs = is_if (list_all is_name_char xs) (if is_word (d ∷ xs) then Err wrong.NoToken else Ok (class.Qualified name.VarId size))

  abbrev large_part : List ℕ → Option Sort
  large_part xs = is_if (list_all is_name_char xs) (Ok (class.Qualified name.ConId size))

  abbrev symbol_part : List ℕ → Option Sort
  symbol_part xs = is_if (list_all is_symbol xs) (if is_operator (d ∷ xs) || is_dashes (d ∷ xs) then Err wrong.NoToken else Ok (class.Qualified (operator_class d) size))

  as_small : is_small d ≡ true → (xs : List ℕ) → part_piece size d xs ≡ small_part xs
  as_small e xs = if_true (Option Sort) (is_small d) (small_part xs) (if is_large d then large_part xs else (if is_symbol d then symbol_part xs else None)) e

  as_large : is_small d ≡ false → is_large d ≡ true → (xs : List ℕ) → part_piece size d xs ≡ large_part xs
  as_large e f xs = if_false (Option Sort) (is_small d) (small_part xs) (if is_large d then large_part xs else (if is_symbol d then symbol_part xs else None)) e
      ∙ if_true (Option Sort) (is_large d) (large_part xs) (if is_symbol d then symbol_part xs else None) f

  as_rest : is_small d ≡ false → is_large d ≡ false → (xs : List ℕ) → part_piece size d xs ≡ (if is_symbol d then symbol_part xs else None)
  as_rest e f xs = if_false (Option Sort) (is_small d) (small_part xs) (if is_large d then large_part xs else (if is_symbol d then symbol_part xs else None)) e
      ∙ if_false (Option Sort) (is_large d) (large_part xs) (if is_symbol d then symbol_part xs else None) f

  runs_as : (Q : List ℕ → Option Sort) (n : ℕ) (sort : Sort) → ((xs : List ℕ) → part_piece size d xs ≡ Q xs) → RunsTo Q more n sort → RunsTo (part_piece size d) more n sort
  runs_as Q n sort e r = same_from (part_piece size d) Q more n sort (λ m le. e (take m more)) r

  part_longest : dot == 46 ≡ true → Has size (after_name size) (dot ∷ d ∷ more) (part_at size d more)
  unfolding part_at
  part_longest e =
      let n = prefix_len is_name_char more in
      let k = prefix_len is_symbol more in
      let P = after_name size in
      let F : List ℕ → Sort = λ xs. if is_word (d ∷ xs) then Err wrong.NoToken else Ok (class.Qualified name.VarId size) in
      let G : List ℕ → Sort = λ xs. if is_operator (d ∷ xs) || is_dashes (d ∷ xs) then Err wrong.NoToken else Ok (class.Qualified (operator_class d) size) in
      has_or (is_small d) size P (dot ∷ d ∷ more) _ _
      (λ small. has_or (is_word (d ∷ take n more)) size P (dot ∷ d ∷ more) _ _
      (λ word. part_wrong n e (runs_as small_part n (Err wrong.NoToken) (as_small small)
      (run_sort is_name_char F more (Err wrong.NoToken) (if_true Sort (is_word (d ∷ take n more)) (Err wrong.NoToken) (Ok (class.Qualified name.VarId size)) word))))
      (λ word. part_has n (size + 2 + n) (class.Qualified name.VarId size) e refl (runs_as small_part n (Ok (class.Qualified name.VarId size)) (as_small small)
      (run_sort is_name_char F more (Ok (class.Qualified name.VarId size)) (if_false Sort (is_word (d ∷ take n more)) (Err wrong.NoToken) (Ok (class.Qualified name.VarId size)) word)))))
      (λ small. has_or (is_large d) size P (dot ∷ d ∷ more) _ _
      (λ large. part_has n (size + 2 + n) (class.Qualified name.ConId size) e refl (runs_as large_part n (Ok (class.Qualified name.ConId size)) (as_large small large)
      (run_sort is_name_char (λ xs. Ok (class.Qualified name.ConId size)) more (Ok (class.Qualified name.ConId size)) refl)))
      (λ large. has_or (is_symbol d) size P (dot ∷ d ∷ more) _ _
      (λ symbol.
      let as_symbol : (xs : List ℕ) → part_piece size d xs ≡ symbol_part xs = λ xs. as_rest small large xs ∙ if_true (Option Sort) (is_symbol d) (symbol_part xs) None symbol in
      has_or (is_operator (d ∷ take k more) || is_dashes (d ∷ take k more)) size P (dot ∷ d ∷ more) _ _
      (λ bad. part_wrong k e (runs_as symbol_part k (Err wrong.NoToken) as_symbol
      (run_sort is_symbol G more (Err wrong.NoToken) (if_true Sort (is_operator (d ∷ take k more) || is_dashes (d ∷ take k more)) (Err wrong.NoToken) (Ok (class.Qualified (operator_class d) size)) bad))))
      (λ good. part_has k (size + 2 + k) (class.Qualified (operator_class d) size) e refl (runs_as symbol_part k (Ok (class.Qualified (operator_class d) size)) as_symbol
      (run_sort is_symbol G more (Ok (class.Qualified (operator_class d) size)) (if_false Sort (is_operator (d ∷ take k more) || is_dashes (d ∷ take k more)) (Err wrong.NoToken) (Ok (class.Qualified (operator_class d) size)) good)))))
      (λ symbol. no_part (λ j le. if_true (Option Sort) (dot == 46) (part_piece size d (take j more)) None e ∙ as_rest small large (take j more)
      ∙ if_false (Option Sort) (is_symbol d) (symbol_part (take j more)) None symbol))))

qualified_longest : (size : ℕ) (after : List ℕ) → Has size (after_name size) after (qualified_at size after)
unfolding qualified_at
qualified_longest size [] = alone size [] (λ m lt le. absurd (omega arith))
qualified_longest size (dot ∷ []) = alone size (dot ∷ []) by
  where
    by : (m : ℕ) → 0 < m → m ≤ length (dot ∷ []) → after_name size (take m (dot ∷ [])) ≡ None
    by zero lt le = absurd (omega arith)
    by (suc zero) lt le = refl
    by (suc (suc j)) lt le = absurd (omega arith)
qualified_longest size (dot ∷ d ∷ more) = has_or (dot == 46) size (after_name size) (dot ∷ d ∷ more) (part_at size d more) (scanned (class.Name name.ConId) size)
    (λ e. part_longest size dot d more e)
    (λ e. no_part size dot d more (λ j le. if_false (Option Sort) (dot == 46) (part_piece size d (take j more)) None e))

-- what is found after a run is found from the first byte on
pub after_run : (P Q : List ℕ → Option Sort) (rest : List ℕ) (n : ℕ) (o : Result Scan Wrong) → n ≤ length rest → ((j : ℕ) → P (take (n + j) rest) ≡ Q (take j (drop n rest)))
    → Has (n + 1) Q (drop n rest) o → Has 1 P rest o
after_run P Q rest n (Ok s) le e (k, (len, r)) = (n + k, (omega arith, shift P Q rest n k (Ok s.class) le (λ j h. e j) r))
after_run P Q rest n (Err why) le e (k, r) = (n + k, shift P Q rest n k (Err why) le (λ j h. e j) r)

pub large_longest : (rest : List ℕ) → Has 1 large_piece rest (large_at rest)
large_longest rest =
    let n = prefix_len is_name_char rest in
    after_run large_piece (after_name (n + 1)) rest n (large_at rest) (prefix_len-le-length is_name_char rest)
    (λ j. let le : n ≤ n + j = omega arith in
    let same = prefix_take is_name_char rest (n + j) le in
    ap (λ i. after_name (i + 1) (drop i (take (n + j) rest))) same ∙ ap (after_name (n + 1)) (drop_front n j rest))
    (qualified_longest (n + 1) (drop n rest))
