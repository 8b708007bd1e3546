-- The longest piece at the front of the bytes.
use Rattle.std.specs.Prelude.{◌<◌, ◌≤◌, ℕ, zero, suc, ◌+◌, Bool, true, false, ◌&&◌, ◌||◌, ◌==◌, if◌then◌else◌, List, [], ◌∷◌, length, take, drop, Option, Some, None, option_map, Result, Ok, Err}
use Rattle.std.specs.List.{prefix_len}
use Rattle.gh_lexer.specs.declared.scan.Class.{Class}
use Rattle.gh_lexer.specs.declared.scan.Class.TheVariants as class
use Rattle.gh_lexer.specs.declared.scan.Scan.{Scan}
use Rattle.gh_lexer.specs.declared.scan.Wrong.{Wrong}
use Rattle.gh_lexer.specs.declared.scan.Wrong.TheVariants as wrong
use Rattle.gh_lexer.specs.declared.scan.Item.{Item}
use Rattle.gh_lexer.specs.declared.token.NameClass.{NameClass}
use Rattle.gh_lexer.specs.declared.token.NameClass.TheVariants as name
use Rattle.gh_lexer.specs.Chars.{is_small, is_large, is_digit, is_octal, is_hex, is_name_char, is_symbol, is_bracket, is_blank, is_in_line, is_dashes, is_word, is_operator, begins, begins_with}
use Rattle.gh_lexer.specs.Literal.{is_based, letter_at, close_at}

-- a piece of a class and so many bytes
abbrev pub scanned : Class → ℕ → Result Scan Wrong
scanned c n = Ok (record { class = c; len = n })

-- a name that begins with a lower-case letter is as long as it can be
unfoldable pub small_at : ℕ → List ℕ → Result Scan Wrong
small_at c rest =
    if is_word (c ∷ take (prefix_len is_name_char rest) rest) then scanned class.Word (prefix_len is_name_char rest + 1)
    else scanned (class.Name name.VarId) (prefix_len is_name_char rest + 1)

-- the class of an operator by its first character
abbrev pub operator_class : ℕ → NameClass
operator_class c = if c == 58 then name.ConSym else name.VarSym

-- after a name of `size` bytes and a dot
unfoldable pub part_at : ℕ → ℕ → List ℕ → Result Scan Wrong
part_at size d more =
    if is_small d then
    (if is_word (d ∷ take (prefix_len is_name_char more) more) then Err wrong.NoToken
    else scanned (class.Qualified name.VarId size) (size + 2 + prefix_len is_name_char more))
    else (if is_large d then scanned (class.Qualified name.ConId size) (size + 2 + prefix_len is_name_char more)
    else (if is_symbol d then
    (if is_operator (d ∷ take (prefix_len is_symbol more) more) || is_dashes (d ∷ take (prefix_len is_symbol more) more) then Err wrong.NoToken
    else scanned (class.Qualified (operator_class d) size) (size + 2 + prefix_len is_symbol more))
    else scanned (class.Name name.ConId) size))

-- after a name of `size` bytes that begins with an upper-case letter
unfoldable pub qualified_at : ℕ → List ℕ → Result Scan Wrong
qualified_at size [] = scanned (class.Name name.ConId) size
qualified_at size (dot ∷ []) = scanned (class.Name name.ConId) size
qualified_at size (dot ∷ d ∷ more) = if dot == 46 then part_at size d more else scanned (class.Name name.ConId) size

-- a name that begins with an upper-case letter
abbrev pub large_at : List ℕ → Result Scan Wrong
large_at rest = qualified_at (prefix_len is_name_char rest + 1) (drop (prefix_len is_name_char rest) rest)

-- `.` and a digit
abbrev pub is_fraction : List ℕ → Bool
is_fraction [] = false
is_fraction (c ∷ rest) = c == 46 && begins_with is_digit rest

-- a digit, or a sign and a digit
abbrev pub is_exponent_part : List ℕ → Bool
is_exponent_part [] = false
is_exponent_part (c ∷ rest) = is_digit c || ((c == 43 || c == 45) && begins_with is_digit rest)

-- `e` or `E`, an optional sign and a digit
abbrev pub is_exponent : List ℕ → Bool
is_exponent [] = false
is_exponent (c ∷ rest) = (c == 101 || c == 69) && is_exponent_part rest

-- a decimal integer after its first digit
unfoldable pub decimal_at : List ℕ → Result Scan Wrong
decimal_at rest =
    if is_fraction (drop (prefix_len is_digit rest) rest) || is_exponent (drop (prefix_len is_digit rest) rest) then Err wrong.NoToken
    else scanned class.Int (prefix_len is_digit rest + 1)

-- an integer by its first digit and the rest
unfoldable pub number_at : ℕ → List ℕ → Result Scan Wrong
number_at c rest =
    if c == 48 && is_based 120 88 is_hex rest then scanned class.Int (prefix_len is_hex (drop 1 rest) + 2)
    else (if c == 48 && is_based 111 79 is_octal rest then scanned class.Int (prefix_len is_octal (drop 1 rest) + 2)
    else decimal_at rest)

-- a run of symbol characters, with what follows it
unfoldable pub operator_at : ℕ → List ℕ → Result Scan Wrong
operator_at c rest =
    if is_dashes (c ∷ take (prefix_len is_symbol rest) rest)
    then scanned class.Skip (prefix_len is_symbol rest + 1 + prefix_len is_in_line (drop (prefix_len is_symbol rest) rest))
    else (if is_operator (c ∷ take (prefix_len is_symbol rest) rest) then scanned class.Mark (prefix_len is_symbol rest + 1)
    else scanned (class.Name (operator_class c)) (prefix_len is_symbol rest + 1))

-- `|}`, or a run of symbol characters
unfoldable pub symbol_at : ℕ → List ℕ → Result Scan Wrong
symbol_at c rest = if c == 124 && begins 125 rest then scanned class.Mark 2 else operator_at c rest

-- a close ends the outermost comment, or one around which others are open
abbrev pub closing : ℕ → (ℕ → Option ℕ) → Option ℕ
closing zero go = Some 2
closing (suc depth) go = option_map (λ n. suc n) (go depth)

-- the length of a comment up to and with its close, `depth` comments being open around it; `skip` says that one byte belongs to what came before
abbrev pub comment_end : Bool → ℕ → List ℕ → Option ℕ
comment_end skip depth [] = None
comment_end true depth (c ∷ rest) = option_map (λ n. suc n) (comment_end false depth rest)
comment_end false depth (c ∷ rest) =
    if c == 45 && begins 125 rest then closing depth (λ outer. comment_end true outer rest)
    else (if c == 123 && begins 45 rest then option_map (λ n. suc n) (comment_end true (suc depth) rest)
    else option_map (λ n. suc n) (comment_end false depth rest))

-- a literal or comment with its close, if it comes
abbrev pub closed : Class → ℕ → Wrong → Option ℕ → Result Scan Wrong
closed c before w None = Err w
closed c before w (Some n) = scanned c (n + before)

-- after `{`
unfoldable pub brace_at : List ℕ → Result Scan Wrong
brace_at rest =
    if begins 45 rest then closed class.Skip 2 wrong.OpenComment (comment_end false 0 (drop 1 rest))
    else (if begins 124 rest then scanned class.Mark 2 else scanned class.Mark 1)

-- one item and a closing quote
abbrev pub quoted : Option Item → List ℕ → Result Scan Wrong
quoted None rest = Err wrong.OpenText
quoted (Some i) rest = if begins 39 (drop i.len rest) then scanned class.Char (i.len + 2) else Err wrong.OpenText

-- after `'`
unfoldable pub quote_at : List ℕ → Result Scan Wrong
quote_at rest = quoted (letter_at rest) rest

-- after `"`
unfoldable pub text_at : List ℕ → Result Scan Wrong
text_at rest = closed class.Str 1 wrong.OpenText (close_at 0 rest)

-- what begins with no letter
unfoldable pub other_at : ℕ → List ℕ → Result Scan Wrong
other_at c rest =
    if is_digit c then number_at c rest
    else (if is_symbol c then symbol_at c rest
    else (if c == 34 then text_at rest
    else (if c == 39 then quote_at rest
    else (if c == 123 then brace_at rest
    else (if is_bracket c then scanned class.Mark 1 else Err wrong.NoToken)))))

-- what stands at the front of the bytes
unfoldable pub scan_at : List ℕ → Result Scan Wrong
scan_at [] = Err wrong.NoToken
scan_at (c ∷ rest) =
    if is_blank c then scanned class.Skip 1
    else (if is_small c then small_at c rest
    else (if is_large c then large_at rest else other_at c rest))

-- what a scan says of the bytes
pub record IsWithin (s : Scan) (bytes : List ℕ) : Type 0 where
  pub some : 0 < s.len
  pub in_bounds : s.len ≤ length bytes
