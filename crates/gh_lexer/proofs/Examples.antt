-- Small files with their readings.
use Rattle.std.proofs.Common.{◌≡◌, ℕ, Bool, true, false, List, [], ◌∷◌, Some, None, Ok, Err, refl}
use Rattle.std.specs.Prelude.{codes, map, take, drop, replicate}
use Rattle.gh_base.specs.declared.refusal.Refusal.TheVariants.{NotUtf8, NoToken, OpenComment, OpenText, NumberOutOfRange, NameTooLong}
use Rattle.gh_lexer.specs.declared.token.NameClass.TheVariants as name
use Rattle.gh_lexer.specs.declared.scan.Class.TheVariants as class
use Rattle.gh_lexer.specs.declared.scan.Wrong.TheVariants as wrong
use Rattle.gh_lexer.specs.Chars.{is_word, is_operator, is_dashes}
use Rattle.gh_lexer.specs.Lexeme.{Lexeme, Piece, Named, Mark, Number, Letter, Text}
use Rattle.gh_lexer.specs.Literal.{integer_of, numeric_escape, escape_at, empty_at, plain_at, backslash_at, item_at, letter_at}
use Rattle.gh_lexer.specs.Pieces.{piece_of}
use Rattle.gh_lexer.specs.Place.{past}
use Rattle.gh_base.specs.Fixed.{fixed_texts}
use Rattle.std.specs.Char.{encode_utf8}
use Rattle.std.specs.Str.{is_utf8, chars}
use Rattle.std.specs.Str.Lossy.{utf8_valid_len}
use Rattle.gh_lexer.specs.declared.scan.TheConstants.{RESERVED, OPERATORS}
use Rattle.gh_lexer.specs.Reading.{reading, span_at, read}
use Rattle.gh_lexer.specs.Scan.{small_at, part_at, qualified_at, decimal_at, number_at, operator_at, symbol_at, brace_at, quote_at, text_at, other_at, scan_at}

-- a token with its bytes, line and column, and whether it is the first of its line
abbrev at : Piece → ℕ → ℕ → ℕ → ℕ → Bool → Lexeme
at p from to line column first = record { piece = p; span = span_at 1 from to; line = line; column = column; first = first }

abbrev var : List ℕ → Piece
var text = Named name.VarId None text

abbrev con : List ℕ → Piece
con text = Named name.ConId None text

pub empty_file : read 1 [] ≡ Ok []
unfolding read
empty_file = refl

pub a_binding : read 1 (codes "main = \"a\"") ≡ Ok (at (var (codes "main")) 0 4 1 1 true ∷ at (Mark (codes "=")) 5 6 1 6 false ∷ at (Text (codes "a")) 7 10 1 8 false ∷ [])
unfolding read scan_at small_at other_at symbol_at operator_at text_at item_at plain_at is_word is_operator is_dashes past fixed_texts
a_binding = refl

pub an_open_string : read 1 (codes "main = \"a") ≡ Err (OpenText (span_at 1 7 8))
unfolding read scan_at small_at other_at symbol_at operator_at text_at item_at plain_at is_word is_operator is_dashes past fixed_texts
an_open_string = refl

-- a gap and `\&` give nothing
pub a_gap : read 1 (codes "\"\\233\\&1\\ \n \\\"") ≡ Ok (at (Text (233 ∷ 49 ∷ [])) 0 14 1 1 true ∷ [])
unfolding read scan_at other_at text_at item_at backslash_at empty_at escape_at numeric_escape plain_at past
a_gap = refl

-- a qualified name is one token, and has one qualifier
pub a_qualified_name : read 1 (codes "A.b") ≡ Ok (at (Named name.VarId (Some (codes "A")) (codes "b")) 0 3 1 1 true ∷ [])
unfolding read scan_at qualified_at part_at is_word past fixed_texts
a_qualified_name = refl

pub one_qualifier : read 1 (codes "A.B.c") ≡ Ok (at (Named name.ConId (Some (codes "A")) (codes "B")) 0 3 1 1 true ∷ at (Named name.VarSym None (codes ".")) 3 4 1 4 false ∷ at (var (codes "c")) 4 5 1 5 false ∷ [])
unfolding read scan_at small_at qualified_at part_at other_at symbol_at operator_at is_word is_operator is_dashes past fixed_texts
one_qualifier = refl

-- a reserved word after a qualifier is no token
pub a_word_after_a_dot : read 1 (codes " A.where") ≡ Err (NoToken (span_at 1 1 2))
unfolding read scan_at qualified_at part_at is_word past fixed_texts
a_word_after_a_dot = refl

-- dashes and another symbol are an operator, and dashes alone begin a comment
pub a_dash_operator : read 1 (codes "--> -- x") ≡ Ok (at (Named name.VarSym None (codes "-->")) 0 3 1 1 true ∷ [])
unfolding read scan_at other_at symbol_at operator_at is_operator is_dashes past fixed_texts
a_dash_operator = refl

-- comments nest, and an open one is refused where the outermost begins
pub a_nested_comment : read 1 (codes "{- {- -} -}a") ≡ Ok (at (var (codes "a")) 11 12 1 12 true ∷ [])
unfolding read scan_at small_at other_at brace_at is_word past fixed_texts
a_nested_comment = refl

pub an_open_comment : read 1 (codes "a {- {- -}") ≡ Err (OpenComment (span_at 1 2 3))
unfolding read scan_at small_at other_at brace_at is_word past fixed_texts
an_open_comment = refl

-- a tab goes on to column 9, and CR LF ends one line
pub places : read 1 (codes "a\tb\r\nc d") ≡ Ok (at (var (codes "a")) 0 1 1 1 true ∷ at (var (codes "b")) 2 3 1 9 false ∷ at (var (codes "c")) 5 6 2 1 true ∷ at (var (codes "d")) 7 8 2 3 false ∷ [])
unfolding read scan_at small_at is_word past fixed_texts
places = refl

-- integers in three bases, of which one is too great
pub integers : read 1 (codes "10 0x1F 0o17") ≡ Ok (at (Number 10) 0 2 1 1 true ∷ at (Number 31) 3 7 1 4 false ∷ at (Number 15) 8 12 1 9 false ∷ [])
unfolding read scan_at other_at number_at decimal_at integer_of past
integers = refl

pub too_great : read 1 (codes "9223372036854775808") ≡ Err (NumberOutOfRange (span_at 1 0 19))
unfolding read scan_at other_at number_at decimal_at integer_of past
too_great = refl

pub a_fraction : read 1 (codes "1.5") ≡ Err (NoToken (span_at 1 0 1))
unfolding read scan_at other_at number_at decimal_at past
a_fraction = refl

-- a surrogate is no character
pub a_surrogate : read 1 (codes "'\\55296'") ≡ Err (NumberOutOfRange (span_at 1 1 7))
unfolding read scan_at other_at quote_at letter_at escape_at numeric_escape past
a_surrogate = refl

pub letters : read 1 (codes "'a' '\\x41' '\"'") ≡ Ok (at (Letter 97) 0 3 1 1 true ∷ at (Letter 65) 4 10 1 5 false ∷ at (Letter 34) 11 14 1 12 false ∷ [])
unfolding read scan_at other_at quote_at letter_at escape_at numeric_escape plain_at past
letters = refl

-- whole texts and what they are
pub a_word : piece_of (codes "where") ≡ Some (Ok class.Word)
unfolding piece_of is_word fixed_texts
a_word = refl

pub two_names : piece_of (codes "a b") ≡ None
unfolding piece_of is_word fixed_texts
two_names = refl

pub a_float : piece_of (codes "1e+5") ≡ Some (Err wrong.NoToken)
unfolding piece_of
a_float = refl

pub a_close : piece_of (codes "|}") ≡ Some (Ok class.Mark)
unfolding piece_of is_dashes
a_close = refl

pub a_string : piece_of (codes "\"a\\\"b\"") ≡ Some (Ok class.Str)
unfolding piece_of item_at backslash_at escape_at plain_at
a_string = refl

-- the fixed names of the table begin with the reserved words and then the reserved operators
pub words_are_fixed : map (λ w. w.now) RESERVED ≡ take 22 fixed_texts
unfolding fixed_texts
words_are_fixed = refl

pub operators_are_fixed : map (λ w. w.now) OPERATORS ≡ take 11 (drop 22 fixed_texts)
unfolding fixed_texts
operators_are_fixed = refl

-- a name of 255 bytes is read, and one of 256 is not
pub a_long_name : read 1 (replicate 255 97) ≡ Ok (at (var (replicate 255 97)) 0 255 1 1 true ∷ [])
unfolding read scan_at small_at is_word past fixed_texts
a_long_name = refl

pub a_name_too_long : read 1 (replicate 256 97) ≡ Err (NameTooLong (span_at 1 0 256))
unfolding read scan_at small_at is_word past fixed_texts
a_name_too_long = refl

-- UTF-8 is tested before anything else
pub ill_formed : reading 1 (1 ∷ 32 ∷ 255 ∷ []) ≡ Err (NotUtf8 (span_at 1 2 3))
unfolding reading utf8_valid_len is_utf8 chars encode_utf8
ill_formed = refl
