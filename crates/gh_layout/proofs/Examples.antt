-- Layouts that were worked by hand. The definition computes each of them.
use Rattle.std.proofs.Common.{◌≡◌, ℕ, Bool, true, false, List, [], ◌∷◌, None, Ok, Err, refl}
use Rattle.gh_base.specs.declared.fixed.TheConstants.{CASE, CLOSE_BRACE, CLOSE_BRACKET, CLOSE_PARENTHESIS, COMMA, ELSE, EQUALS, IF, IN, LET, MODULE, OF, OPEN_BRACE, OPEN_BRACKET, OPEN_PARENTHESIS, RIGHT_ARROW, SEMICOLON, THEN, WHERE}
use Rattle.gh_base.specs.declared.names.NameId.{NameId}
use Rattle.gh_base.specs.declared.place.Span.{Span}
use Rattle.gh_base.specs.declared.refusal.Refusal.TheVariants.{BadLayout, Unclosed}
use Rattle.gh_lexer.specs.declared.token.NameClass.TheVariants as class
use Rattle.gh_lexer.specs.declared.token.Token.{Token}
use Rattle.gh_lexer.specs.declared.token.TokenKind.{TokenKind}
use Rattle.gh_lexer.specs.declared.token.TokenKind.TheVariants as kind
use Rattle.gh_layout.specs.Layout.{layout}
use Rattle.gh_layout.specs.declared.laying.LaidToken.TheVariants.{Real, Begin, Semi, End}

abbrev name : TokenKind
name = kind.Name class.VarId None (record { 0 = 200 })

abbrev word : NameId → TokenKind
word n = kind.Word n

abbrev mark : NameId → TokenKind
mark n = kind.Mark n

abbrev bytes : ℕ → ℕ → Span
bytes from to = record { file = 1; from = from; to = to }

abbrev token_at : Bool → TokenKind → ℕ → ℕ → ℕ → Token
token_at is_first k from to column = record { kind = k; span = bytes from to; line = 1; column = column; first = is_first }

-- a token that is the first of its line, with its bytes and its column
abbrev first : TokenKind → ℕ → ℕ → ℕ → Token
first k from to column = token_at true k from to column

-- a token that is not
abbrev next : TokenKind → ℕ → ℕ → ℕ → Token
next k from to column = token_at false k from to column

-- An empty file has an empty block.
--
abbrev empty_file : List Token
empty_file = []

pub empty : layout empty_file ≡ Ok (Begin 0 ∷ End 0 ∷ [])
empty = refl

-- A `let` block on one line ends before `in`.
--     x = let y = 1 in y
abbrev one_line_file : List Token
one_line_file = first name 0 1 1 ∷ next (mark EQUALS) 2 3 3 ∷ next (word LET) 4 7 5 ∷ next name 8 9 9 ∷ next (mark EQUALS) 10 11 11 ∷ next name 12 13 13 ∷ next (word IN) 14 16 15 ∷ next name 17 18 18 ∷ []

pub one_line : layout one_line_file ≡ Ok (Begin 0 ∷ Real 0 ∷ Real 1 ∷ Real 2 ∷ Begin 3 ∷ Real 3 ∷ Real 4 ∷ Real 5 ∷ End 6 ∷ Real 6 ∷ Real 7 ∷ End 8 ∷ [])
one_line = refl

-- Lines at the column of the block begin items; a line right of it goes on.
--     x = 1
--       + 2
--     y = 3
abbrev items_file : List Token
items_file = first name 0 1 1 ∷ next (mark EQUALS) 2 3 3 ∷ next name 4 5 5 ∷ first name 8 9 3 ∷ next name 10 11 5 ∷ first name 12 13 1 ∷ next (mark EQUALS) 14 15 3 ∷ next name 16 17 5 ∷ []

pub items : layout items_file ≡ Ok (Begin 0 ∷ Real 0 ∷ Real 1 ∷ Real 2 ∷ Real 3 ∷ Real 4 ∷ Semi 5 ∷ Real 5 ∷ Real 6 ∷ Real 7 ∷ End 8 ∷ [])
items = refl

-- After a header the block of the body begins at the next token.
--     module M where
--     x = 1
abbrev header_file : List Token
header_file = first (word MODULE) 0 6 1 ∷ next name 7 8 8 ∷ next (word WHERE) 9 14 10 ∷ first name 15 16 1 ∷ next (mark EQUALS) 17 18 3 ∷ next name 19 20 5 ∷ []

pub header : layout header_file ≡ Ok (Real 0 ∷ Real 1 ∷ Real 2 ∷ Begin 3 ∷ Real 3 ∷ Real 4 ∷ Real 5 ∷ End 6 ∷ [])
header = refl

-- Nested blocks are ended together by a line left of both.
--     x = y where
--       y = z where
--         z = 1
--     w = 2
abbrev together_file : List Token
together_file = first name 0 1 1 ∷ next (mark EQUALS) 2 3 3 ∷ next name 4 5 5 ∷ next (word WHERE) 6 11 7 ∷ first name 14 15 3 ∷ next (mark EQUALS) 16 17 5 ∷ next name 18 19 7 ∷ next (word WHERE) 20 25 9 ∷ first name 30 31 5 ∷ next (mark EQUALS) 32 33 7 ∷ next name 34 35 9 ∷ first name 36 37 1 ∷ next (mark EQUALS) 38 39 3 ∷ next name 40 41 5 ∷ []

pub together : layout together_file ≡ Ok (Begin 0 ∷ Real 0 ∷ Real 1 ∷ Real 2 ∷ Real 3 ∷ Begin 4 ∷ Real 4 ∷ Real 5 ∷ Real 6 ∷ Real 7 ∷ Begin 8 ∷ Real 8 ∷ Real 9 ∷ Real 10 ∷ End 11 ∷ End 11 ∷ Semi 11 ∷ Real 11 ∷ Real 12 ∷ Real 13 ∷ End 14 ∷ [])
together = refl

-- A `case` in parentheses: its block ends before `)`.
--     x = (case y of z -> 1)
abbrev in_parentheses_file : List Token
in_parentheses_file = first name 0 1 1 ∷ next (mark EQUALS) 2 3 3 ∷ next (mark OPEN_PARENTHESIS) 4 5 5 ∷ next (word CASE) 5 9 6 ∷ next name 10 11 11 ∷ next (word OF) 12 14 13 ∷ next name 15 16 16 ∷ next (mark RIGHT_ARROW) 17 19 18 ∷ next name 20 21 21 ∷ next (mark CLOSE_PARENTHESIS) 21 22 22 ∷ []

pub in_parentheses : layout in_parentheses_file ≡ Ok (Begin 0 ∷ Real 0 ∷ Real 1 ∷ Real 2 ∷ Real 3 ∷ Real 4 ∷ Real 5 ∷ Begin 6 ∷ Real 6 ∷ Real 7 ∷ Real 8 ∷ End 9 ∷ Real 9 ∷ End 10 ∷ [])
in_parentheses = refl

-- A `,` in brackets ends the block of an `of`, and a `let` block whose item has an `=`.
--     x = (case y of z -> 1, let a = 1 in a)
abbrev comma_file : List Token
comma_file = first name 0 1 1 ∷ next (mark EQUALS) 2 3 3 ∷ next (mark OPEN_PARENTHESIS) 4 5 5 ∷ next (word CASE) 5 9 6 ∷ next name 10 11 11 ∷ next (word OF) 12 14 13 ∷ next name 15 16 16 ∷ next (mark RIGHT_ARROW) 17 19 18 ∷ next name 20 21 21 ∷ next (mark COMMA) 21 22 22 ∷ next (word LET) 23 26 24 ∷ next name 27 28 28 ∷ next (mark EQUALS) 29 30 30 ∷ next name 31 32 32 ∷ next (word IN) 33 35 34 ∷ next name 36 37 37 ∷ next (mark CLOSE_PARENTHESIS) 37 38 38 ∷ []

pub comma : layout comma_file ≡ Ok (Begin 0 ∷ Real 0 ∷ Real 1 ∷ Real 2 ∷ Real 3 ∷ Real 4 ∷ Real 5 ∷ Begin 6 ∷ Real 6 ∷ Real 7 ∷ Real 8 ∷ End 9 ∷ Real 9 ∷ Real 10 ∷ Begin 11 ∷ Real 11 ∷ Real 12 ∷ Real 13 ∷ End 14 ∷ Real 14 ∷ Real 15 ∷ Real 16 ∷ End 17 ∷ [])
comma = refl

-- A `,` before the `=` of an item of a `let` block stays in the block.
--     x = [let (a, b) = y in a]
abbrev comma_stays_file : List Token
comma_stays_file = first name 0 1 1 ∷ next (mark EQUALS) 2 3 3 ∷ next (mark OPEN_BRACKET) 4 5 5 ∷ next (word LET) 5 8 6 ∷ next (mark OPEN_PARENTHESIS) 9 10 10 ∷ next name 10 11 11 ∷ next (mark COMMA) 11 12 12 ∷ next name 13 14 14 ∷ next (mark CLOSE_PARENTHESIS) 14 15 15 ∷ next (mark EQUALS) 16 17 17 ∷ next name 18 19 19 ∷ next (word IN) 20 22 21 ∷ next name 23 24 24 ∷ next (mark CLOSE_BRACKET) 24 25 25 ∷ []

pub comma_stays : layout comma_stays_file ≡ Ok (Begin 0 ∷ Real 0 ∷ Real 1 ∷ Real 2 ∷ Real 3 ∷ Begin 4 ∷ Real 4 ∷ Real 5 ∷ Real 6 ∷ Real 7 ∷ Real 8 ∷ Real 9 ∷ Real 10 ∷ End 11 ∷ Real 11 ∷ Real 12 ∷ Real 13 ∷ End 14 ∷ [])
comma_stays = refl

-- A `where` ends blocks of keywords whose item is empty.
--     x = case y of
--       z -> 1
--       where w = 1
abbrev empty_where_file : List Token
empty_where_file = first name 0 1 1 ∷ next (mark EQUALS) 2 3 3 ∷ next (word CASE) 4 8 5 ∷ next name 9 10 10 ∷ next (word OF) 11 13 12 ∷ first name 16 17 3 ∷ next (mark RIGHT_ARROW) 18 20 5 ∷ next name 21 22 8 ∷ first (word WHERE) 25 30 3 ∷ next name 31 32 9 ∷ next (mark EQUALS) 33 34 11 ∷ next name 35 36 13 ∷ []

pub empty_where : layout empty_where_file ≡ Ok (Begin 0 ∷ Real 0 ∷ Real 1 ∷ Real 2 ∷ Real 3 ∷ Real 4 ∷ Begin 5 ∷ Real 5 ∷ Real 6 ∷ Real 7 ∷ Semi 8 ∷ End 8 ∷ Real 8 ∷ Begin 9 ∷ Real 9 ∷ Real 10 ∷ Real 11 ∷ End 12 ∷ End 12 ∷ [])
empty_where = refl

-- A block that does not stand right of the one around it is empty.
--     x = y where
--     z = 1
abbrev no_block_file : List Token
no_block_file = first name 0 1 1 ∷ next (mark EQUALS) 2 3 3 ∷ next name 4 5 5 ∷ next (word WHERE) 6 11 7 ∷ first name 12 13 1 ∷ next (mark EQUALS) 14 15 3 ∷ next name 16 17 5 ∷ []

pub no_block : layout no_block_file ≡ Ok (Begin 0 ∷ Real 0 ∷ Real 1 ∷ Real 2 ∷ Real 3 ∷ Begin 4 ∷ End 4 ∷ Semi 4 ∷ Real 4 ∷ Real 5 ∷ Real 6 ∷ End 7 ∷ [])
no_block = refl

-- A block in braces takes no mark.
--     module M where {
--     x = 1 ;
--     y = 2 }
abbrev braces_file : List Token
braces_file = first (word MODULE) 0 6 1 ∷ next name 7 8 8 ∷ next (word WHERE) 9 14 10 ∷ next (mark OPEN_BRACE) 15 16 16 ∷ first name 17 18 1 ∷ next (mark EQUALS) 19 20 3 ∷ next name 21 22 5 ∷ next (mark SEMICOLON) 23 24 7 ∷ first name 25 26 1 ∷ next (mark EQUALS) 27 28 3 ∷ next name 29 30 5 ∷ next (mark CLOSE_BRACE) 31 32 7 ∷ []

pub braces : layout braces_file ≡ Ok (Real 0 ∷ Real 1 ∷ Real 2 ∷ Real 3 ∷ Real 4 ∷ Real 5 ∷ Real 6 ∷ Real 7 ∷ Real 8 ∷ Real 9 ∷ Real 10 ∷ Real 11 ∷ [])
braces = refl

-- `if`, `then` and `else` end the blocks that stand on them.
--     x = if case y of z -> a then 1 else 2
abbrev if_then_else_file : List Token
if_then_else_file = first name 0 1 1 ∷ next (mark EQUALS) 2 3 3 ∷ next (word IF) 4 6 5 ∷ next (word CASE) 7 11 8 ∷ next name 12 13 13 ∷ next (word OF) 14 16 15 ∷ next name 17 18 18 ∷ next (mark RIGHT_ARROW) 19 21 20 ∷ next name 22 23 23 ∷ next (word THEN) 24 28 25 ∷ next name 29 30 30 ∷ next (word ELSE) 31 35 32 ∷ next name 36 37 37 ∷ []

pub if_then_else : layout if_then_else_file ≡ Ok (Begin 0 ∷ Real 0 ∷ Real 1 ∷ Real 2 ∷ Real 3 ∷ Real 4 ∷ Real 5 ∷ Begin 6 ∷ Real 6 ∷ Real 7 ∷ Real 8 ∷ End 9 ∷ Real 9 ∷ Real 10 ∷ Real 11 ∷ Real 12 ∷ End 13 ∷ [])
if_then_else = refl

-- A line at the column of the block in an open bracket has no answer.
--     x = (
--     y
abbrev line_in_bracket_file : List Token
line_in_bracket_file = first name 0 1 1 ∷ next (mark EQUALS) 2 3 3 ∷ next (mark OPEN_PARENTHESIS) 4 5 5 ∷ first name 6 7 1 ∷ []

pub line_in_bracket : layout line_in_bracket_file ≡ Err (BadLayout (bytes 6 7))
line_in_bracket = refl

-- A close that fits nothing has no answer.
--     x = ]
abbrev wrong_close_file : List Token
wrong_close_file = first name 0 1 1 ∷ next (mark EQUALS) 2 3 3 ∷ next (mark CLOSE_BRACKET) 4 5 5 ∷ []

pub wrong_close : layout wrong_close_file ≡ Err (BadLayout (bytes 4 5))
wrong_close = refl

-- What is left open is refused at the token that opened it.
--     main = (
abbrev unclosed_file : List Token
unclosed_file = first name 0 4 1 ∷ next (mark EQUALS) 5 6 6 ∷ next (mark OPEN_PARENTHESIS) 7 8 8 ∷ []

pub unclosed : layout unclosed_file ≡ Err (Unclosed (bytes 7 8))
unclosed = refl

-- Of several the lowest is refused.
--     x = (if y then let z = 1
abbrev unclosed_lowest_file : List Token
unclosed_lowest_file = first name 0 1 1 ∷ next (mark EQUALS) 2 3 3 ∷ next (mark OPEN_PARENTHESIS) 4 5 5 ∷ next (word IF) 5 7 6 ∷ next name 8 9 9 ∷ next (word THEN) 10 14 11 ∷ next (word LET) 15 18 16 ∷ next name 19 20 20 ∷ next (mark EQUALS) 21 22 22 ∷ next name 23 24 24 ∷ []

pub unclosed_lowest : layout unclosed_lowest_file ≡ Err (Unclosed (bytes 4 5))
unclosed_lowest = refl

-- A `then` is refused at its `if`.
--     x = if y then (1)
abbrev unclosed_then_file : List Token
unclosed_then_file = first name 0 1 1 ∷ next (mark EQUALS) 2 3 3 ∷ next (word IF) 4 6 5 ∷ next name 7 8 8 ∷ next (word THEN) 9 13 10 ∷ next (mark OPEN_PARENTHESIS) 14 15 15 ∷ next name 15 16 16 ∷ next (mark CLOSE_PARENTHESIS) 16 17 17 ∷ []

pub unclosed_then : layout unclosed_then_file ≡ Err (Unclosed (bytes 4 6))
unclosed_then = refl

-- At a mark that no token follows the refusal is at the last token.
--     x = let
abbrev last_token_file : List Token
last_token_file = first name 0 1 1 ∷ next (mark EQUALS) 2 3 3 ∷ next (word LET) 4 7 5 ∷ []

pub last_token : layout last_token_file ≡ Err (BadLayout (bytes 4 7))
last_token = refl
