-- Which whole texts are pieces: of a class of tokens, white space, a comment, or a text that is no token though it would be the longest piece.
use Rattle.std.specs.Prelude.{◌≡◌, ℕ, ◌+◌, ◌<◌, ◌≤◌, Bool, true, false, ◌&&◌, ◌||◌, ◌==◌, if◌then◌else◌, List, [], ◌∷◌, length, take, drop, Option, Some, None, Result, Ok, Err}
use Rattle.std.specs.List.{prefix_len, list_all}
use Rattle.gh_lexer.specs.declared.scan.Class.{Class}
use Rattle.gh_lexer.specs.declared.scan.Class.TheVariants as class
use Rattle.gh_lexer.specs.declared.scan.Wrong.{Wrong}
use Rattle.gh_lexer.specs.declared.scan.Wrong.TheVariants as wrong
use Rattle.gh_lexer.specs.declared.scan.Item.{Item}
use Rattle.gh_lexer.specs.declared.token.NameClass.TheVariants as name
use Rattle.gh_lexer.specs.Chars.{is_small, is_large, is_digit, is_octal, is_hex, is_name_char, is_symbol, is_bracket, is_blank, is_in_line, is_dashes, is_word, is_operator}
use Rattle.gh_lexer.specs.Literal.{is_based, letter_at, close_at}
use Rattle.gh_lexer.specs.Scan.{operator_class, comment_end}

-- what a text is: a piece of a class, or why it is no token
abbrev pub Sort : Type 0
Sort = Result Class Wrong

-- it is of this sort, if the test holds
abbrev pub is_if : Bool → Sort → Option Sort
is_if b sort = if b then Some sort else None

-- the text is this one byte
abbrev pub is_byte : ℕ → List ℕ → Bool
is_byte c [] = false
is_byte c (d ∷ []) = d == c
is_byte c (d ∷ e ∷ more) = false

-- there is nothing more
abbrev pub is_empty : List ℕ → Bool
is_empty [] = true
is_empty (c ∷ more) = false

-- there is a length, and it is that of the whole
abbrev pub is_whole : Option ℕ → ℕ → Bool
is_whole None len = false
is_whole (Some n) len = n == len

-- a lower-case letter and what may follow it: a reserved word or a name
abbrev pub small_piece : ℕ → List ℕ → Option Sort
small_piece c xs = is_if (list_all is_name_char xs) (if is_word (c ∷ xs) then Ok class.Word else Ok (class.Name name.VarId))

-- after a qualifier of so many bytes and its dot: a reserved word, a reserved operator and comment dashes are no tokens there
abbrev pub part_piece : ℕ → ℕ → List ℕ → Option Sort
part_piece size d more =
    if is_small d then is_if (list_all is_name_char more) (if is_word (d ∷ more) then Err wrong.NoToken else Ok (class.Qualified name.VarId size))
    else (if is_large d then is_if (list_all is_name_char more) (Ok (class.Qualified name.ConId size))
    else (if is_symbol d then is_if (list_all is_symbol more) (if is_operator (d ∷ more) || is_dashes (d ∷ more) then Err wrong.NoToken else Ok (class.Qualified (operator_class d) size))
    else None))

-- what stands after the name characters of a name with an upper-case letter: nothing, or a dot and a last part
abbrev pub after_name : ℕ → List ℕ → Option Sort
after_name size [] = Some (Ok (class.Name name.ConId))
after_name size (dot ∷ []) = None
after_name size (dot ∷ d ∷ more) = if dot == 46 then part_piece size d more else None

-- what may follow an upper-case letter
abbrev pub large_piece : List ℕ → Option Sort
large_piece xs = after_name (prefix_len is_name_char xs + 1) (drop (prefix_len is_name_char xs) xs)

-- `e` or `E`
abbrev pub is_e : ℕ → Bool
is_e c = c == 101 || c == 69

-- `+` or `-`
abbrev pub is_sign : ℕ → Bool
is_sign c = c == 43 || c == 45

-- what stands after the digits of a decimal integer: nothing, or `.` and a digit, or `e`, maybe a sign, and a digit, and then it is no token
abbrev pub after_digits : List ℕ → Option Sort
after_digits [] = Some (Ok class.Int)
after_digits (a ∷ []) = None
after_digits (a ∷ b ∷ []) = is_if ((a == 46 || is_e a) && is_digit b) (Err wrong.NoToken)
after_digits (a ∷ b ∷ c ∷ []) = is_if (is_e a && (is_sign b && is_digit c)) (Err wrong.NoToken)
after_digits (a ∷ b ∷ c ∷ d ∷ more) = None

-- what may follow the first digit of an integer
abbrev pub number_piece : ℕ → List ℕ → Option Sort
number_piece c xs =
    if c == 48 && is_based 120 88 is_hex xs then is_if (list_all is_hex (drop 1 xs)) (Ok class.Int)
    else (if c == 48 && is_based 111 79 is_octal xs then is_if (list_all is_octal (drop 1 xs)) (Ok class.Int)
    else after_digits (drop (prefix_len is_digit xs) xs))

-- a run of symbol characters, `|}`, or a run of two dashes or more and the rest of its line
abbrev pub symbol_piece : ℕ → List ℕ → Option Sort
symbol_piece c xs =
    if c == 124 && is_byte 125 xs then Some (Ok class.Mark)
    else (if is_dashes (c ∷ take (prefix_len is_symbol xs) xs) then is_if (list_all is_in_line (drop (prefix_len is_symbol xs) xs)) (Ok class.Skip)
    else is_if (list_all is_symbol xs) (if is_operator (c ∷ xs) then Ok class.Mark else Ok (class.Name (operator_class c))))

-- after `"`: a string up to its close; the quote alone is no token
abbrev pub text_piece : List ℕ → Option Sort
text_piece [] = Some (Err wrong.OpenText)
text_piece (c ∷ xs) = is_if (is_whole (close_at 0 (c ∷ xs)) (length (c ∷ xs))) (Ok class.Str)

-- the item of a character literal, and nothing more than its closing quote
abbrev pub closed_letter : Option Item → List ℕ → Option Sort
closed_letter None xs = None
closed_letter (Some i) xs = is_if (is_byte 39 (drop i.len xs)) (Ok class.Char)

-- after `'`: one character or escape, and the close; the quote alone is no token
abbrev pub quote_piece : List ℕ → Option Sort
quote_piece [] = Some (Err wrong.OpenText)
quote_piece (c ∷ xs) = closed_letter (letter_at (c ∷ xs)) (c ∷ xs)

-- after `{-`: a comment up to its close; the opening alone is no token
abbrev pub comment_piece : List ℕ → Option Sort
comment_piece [] = Some (Err wrong.OpenComment)
comment_piece (c ∷ xs) = is_if (is_whole (comment_end false 0 (c ∷ xs)) (length (c ∷ xs))) (Ok class.Skip)

-- after `{`
abbrev pub brace_piece : List ℕ → Option Sort
brace_piece [] = Some (Ok class.Mark)
brace_piece (c ∷ xs) = if c == 45 then comment_piece xs else is_if (c == 124 && is_empty xs) (Ok class.Mark)

-- what may follow a character that begins no name
abbrev pub other_piece : ℕ → List ℕ → Option Sort
other_piece c xs =
    if is_digit c then number_piece c xs
    else (if is_symbol c then symbol_piece c xs
    else (if c == 34 then text_piece xs
    else (if c == 39 then quote_piece xs
    else (if c == 123 then brace_piece xs
    else is_if (is_bracket c && is_empty xs) (Ok class.Mark)))))

-- what a whole text is, where it is a piece
unfoldable pub piece_of : List ℕ → Option Sort
piece_of [] = None
piece_of (c ∷ xs) =
    if is_blank c then is_if (is_empty xs) (Ok class.Skip)
    else (if is_small c then small_piece c xs
    else (if is_large c then large_piece xs else other_piece c xs))

-- the longest piece at the front has this length
pub record IsLongest (bytes : List ℕ) (len : ℕ) (sort : Sort) : Type 0 where
  pub within : len ≤ length bytes
  pub is : piece_of (take len bytes) ≡ Some sort
  pub longest : (n : ℕ) → len < n → n ≤ length bytes → piece_of (take n bytes) ≡ None
