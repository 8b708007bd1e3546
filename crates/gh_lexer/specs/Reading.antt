-- The reading of a file as tokens, from its first byte on.
use Rattle.std.specs.Prelude.{ℕ, zero, suc, ◌+◌, ◌-◌, ◌^◌, not, ◌==◌, nat_lt, if◌then◌else◌, List, [], ◌∷◌, ◌++◌, length, take, drop, Option, Some, None, Result, Ok, Err}
use Rattle.std.specs.Str.Lossy.{utf8_valid_len}
use Rattle.gh_base.specs.declared.place.Span.{Span}
use Rattle.gh_base.specs.declared.refusal.Refusal.{Refusal}
use Rattle.gh_base.specs.declared.refusal.Refusal.TheVariants.{NotUtf8, NoToken, OpenComment, OpenText, NumberOutOfRange, NameTooLong}
use Rattle.gh_lexer.specs.declared.place.Place.{Place}
use Rattle.gh_lexer.specs.declared.scan.Class.{Class}
use Rattle.gh_lexer.specs.declared.scan.Class.TheVariants as class
use Rattle.gh_lexer.specs.declared.scan.Scan.{Scan}
use Rattle.gh_lexer.specs.declared.scan.Wrong.{Wrong}
use Rattle.gh_lexer.specs.declared.scan.Wrong.TheVariants as wrong
use Rattle.gh_lexer.specs.declared.scan.Item.{Item}
use Rattle.gh_lexer.specs.declared.scan.Escape.{Escape}
use Rattle.gh_lexer.specs.declared.scan.Meaning.{Meaning}
use Rattle.gh_lexer.specs.declared.scan.Meaning.TheVariants as meaning
use Rattle.gh_lexer.specs.Lexeme.{Lexeme, Piece, Named, Word, Mark, Number, Letter, Text}
use Rattle.gh_lexer.specs.Literal.{integer_of, letter_at, spelled}
use Rattle.gh_lexer.specs.Place.{moved, start}
use Rattle.gh_lexer.specs.Scan.{scan_at}

-- the bytes of a file from one place up to another
abbrev pub span_at : ℕ → ℕ → ℕ → Span
span_at file from to = record { file = file; from = from; to = to }

-- the span of one byte
abbrev pub byte_at : ℕ → ℕ → Span
byte_at file at = span_at file at (at + 1)

-- the refusal of bytes that begin no piece
abbrev pub refusal_of : ℕ → ℕ → Wrong → Refusal
refusal_of file at wrong.NoToken = NoToken (byte_at file at)
refusal_of file at wrong.OpenComment = OpenComment (byte_at file at)
refusal_of file at wrong.OpenText = OpenText (byte_at file at)

-- the token of a piece, if it is one, or why it is refused
abbrev pub Valued : Type 0
Valued = Result (Option Piece) Refusal

-- a name is at most 255 bytes long, its qualifier and the dot included
abbrev pub named : ℕ → ℕ → ℕ → Piece → Valued
named file at len p = if nat_lt 255 len then Err (NameTooLong (span_at file at (at + len))) else Ok (Some p)

-- an integer is less than 2^63
abbrev pub number : ℕ → ℕ → ℕ → ℕ → Valued
number file at len n = if nat_lt n (2 ^ 63) then Ok (Some (Number n)) else Err (NumberOutOfRange (span_at file at (at + len)))

-- a character literal gives one character
abbrev pub letter_meant : ℕ → ℕ → ℕ → Meaning → Valued
letter_meant file at len (meaning.Char c) = Ok (Some (Letter c))
letter_meant file at len meaning.TooGreat = Err (NumberOutOfRange (span_at file (at + 1) (at + 1 + len)))
letter_meant file at len meaning.Nothing = Err (OpenText (byte_at file at))

-- a character literal by the item after its quote
abbrev pub letter : ℕ → ℕ → Option Item → Valued
letter file at None = Err (OpenText (byte_at file at))
letter file at (Some i) = letter_meant file at i.len i.meaning

-- a string by what its body spells
abbrev pub text : ℕ → ℕ → Result (List ℕ) Escape → Valued
text file at (Ok chars) = Ok (Some (Text chars))
text file at (Err bad) = Err (NumberOutOfRange (span_at file (at + bad.from) (at + bad.to)))

-- what stands between two quotes
abbrev pub body_of : List ℕ → List ℕ
body_of bytes = take (length bytes - 2) (drop 1 bytes)

-- the value of a piece by its class and its bytes; white space and comments have none
abbrev pub valued : ℕ → ℕ → Class → List ℕ → Valued
valued file at class.Skip bytes = Ok None
valued file at (class.Name c) bytes = named file at (length bytes) (Named c None bytes)
valued file at (class.Qualified c size) bytes = named file at (length bytes) (Named c (Some (take size bytes)) (drop 1 (drop size bytes)))
valued file at class.Word bytes = Ok (Some (Word bytes))
valued file at class.Mark bytes = Ok (Some (Mark bytes))
valued file at class.Int bytes = number file at (length bytes) (integer_of bytes)
valued file at class.Char bytes = letter file at (letter_at (drop 1 bytes))
valued file at class.Str bytes = text file at (spelled (body_of bytes))

-- how far a file is read: the place, and the line of the last token, or 0
pub record Where : Type 0 where
  pub at : ℕ
  pub place : Place
  pub last : ℕ

-- a token where the reader stands
abbrev pub lexeme_at : ℕ → Where → ℕ → Piece → Lexeme
lexeme_at file w len p = record { piece = p; span = span_at file w.at (w.at + len); line = w.place.line; column = w.place.column; first = not (w.place.line == w.last) }

-- after a piece of so many bytes
abbrev pub skipped : ℕ → List ℕ → Where → Where
skipped len bytes w = record { at = w.at + len; place = moved len bytes w.place; last = w.last }

-- after a token of so many bytes
abbrev pub passed : ℕ → List ℕ → Where → Where
passed len bytes w = record { at = w.at + len; place = moved len bytes w.place; last = w.place.line }

-- the tokens of a file, or its first refusal
abbrev pub Lexemes : Type 0
Lexemes = Result (List Lexeme) Refusal

-- a token before those of the rest
abbrev pub onto : Lexeme → Lexemes → Lexemes
onto t (Ok ts) = Ok (t ∷ ts)
onto t (Err r) = Err r

-- a piece and then the rest, or its refusal
abbrev pub on_value : ℕ → Where → List ℕ → ℕ → Valued → (Where → Lexemes) → Lexemes
on_value file w bytes len (Err r) go = Err r
on_value file w bytes len (Ok None) go = go (skipped len bytes w)
on_value file w bytes len (Ok (Some p)) go = onto (lexeme_at file w len p) (go (passed len bytes w))

-- what a scan found and then the rest, or its refusal
abbrev pub on_scan : ℕ → Where → List ℕ → Result Scan Wrong → (ℕ → Where → Lexemes) → Lexemes
on_scan file w bytes (Err why) go = Err (refusal_of file w.at why)
on_scan file w bytes (Ok s) go = on_value file w bytes s.len (valued file w.at s.class (take s.len bytes)) (go s.len)

-- the tokens from a place on, or the first refusal; at most n pieces
abbrev pub read_from : ℕ → ℕ → Where → List ℕ → Lexemes
read_from file zero w bytes = Ok []
read_from file (suc n) w [] = Ok []
read_from file (suc n) w (c ∷ rest) = on_scan file w (c ∷ rest) (scan_at (c ∷ rest)) (λ len next. read_from file n next (drop len (c ∷ rest)))

-- before the first byte
abbrev pub beginning : Where
beginning = record { at = 0; place = start; last = 0 }

-- the tokens of a file that is UTF-8, or its first refusal
unfoldable pub read : ℕ → List ℕ → Lexemes
read file bytes = read_from file (length bytes) beginning bytes

-- a file is tested for UTF-8 first, and then read
unfoldable pub reading : ℕ → List ℕ → Lexemes
reading file bytes = if utf8_valid_len bytes == length bytes then read file bytes else Err (NotUtf8 (byte_at file (utf8_valid_len bytes)))

-- lexemes, and then what else is read
abbrev pub after : List Lexeme → Lexemes → Lexemes
after ts (Ok more) = Ok (ts ++ more)
after ts (Err r) = Err r
