-- A file as white space, comments and the pieces of tokens in order, each the longest at its place.
use Rattle.std.specs.Prelude.{◌⊎◌, ◌≡◌, ℕ, ◌+◌, ◌<◌, ◌≤◌, not, ◌==◌, List, [], ◌∷◌, ◌++◌, length, take, Option, Some, None, Ok, Err}
use Rattle.std.specs.List.{list_any}
use Rattle.std.specs.Str.Lossy.{utf8_valid_len}
use Rattle.gh_base.specs.declared.refusal.Refusal.{Refusal}
use Rattle.gh_base.specs.declared.refusal.Refusal.TheVariants.{NotUtf8}
use Rattle.gh_lexer.specs.declared.scan.Class.{Class}
use Rattle.gh_lexer.specs.declared.scan.Wrong.{Wrong}
use Rattle.gh_lexer.specs.declared.scan.Wrong.TheVariants as wrong
use Rattle.gh_lexer.specs.Lexeme.{Lexeme, Piece}
use Rattle.gh_lexer.specs.Pieces.{IsLongest, piece_of}
use Rattle.gh_lexer.specs.Place.{moved, start}
use Rattle.gh_lexer.specs.Reading.{Lexemes, valued, refusal_of, span_at, byte_at}

-- a piece of a file: its bytes, its class, and the token that it is, if any
pub record Segment : Type 0 where
  pub text : List ℕ
  pub class : Class
  pub token : Option Piece

-- the bytes of segments, one after another
abbrev pub texts : List Segment → List ℕ
texts [] = []
texts (s ∷ ss) = s.text ++ texts ss

-- after the bytes `before`, the segment is the longest piece at its place, and has its value
pub record IsSegment (file : ℕ) (before : List ℕ) (s : Segment) (rest : List ℕ) : Type 0 where
  pub longest : IsLongest (s.text ++ rest) (length s.text) (Ok s.class)
  pub value : valued file (length before) s.class s.text ≡ Ok s.token

-- so is each of these segments, before the rest of the file
abbrev pub IsCut : ℕ → List ℕ → List Segment → List ℕ → Type 0
IsCut file before [] rest = Unit {0}
IsCut file before (s ∷ ss) rest = IsSegment file before s (texts ss ++ rest) × IsCut file (before ++ s.text) ss rest

-- the token of a segment: line and column are those of its first byte in the file, and it is the first of its line where no
-- earlier token begins on that line
abbrev pub placed : ℕ → List ℕ → List ℕ → List ℕ → List ℕ → Piece → Lexeme
placed file bytes before lines text p = record {
  piece = p;
  span = span_at file (length before) (length before + length text);
  line = (moved (length before) bytes start).line;
  column = (moved (length before) bytes start).column;
  first = not (list_any (λ line. (moved (length before) bytes start).line == line) lines);
}

-- the token of a segment, if it is one, and then the tokens of the segments after it
abbrev pub token_then : ℕ → List ℕ → List ℕ → List ℕ → List ℕ → Option Piece → (List ℕ → List Lexeme) → List Lexeme
token_then file bytes before lines text None more = more lines
token_then file bytes before lines text (Some p) more = placed file bytes before lines text p ∷ more ((moved (length before) bytes start).line ∷ lines)

-- the tokens of segments that stand after the bytes `before`, where earlier tokens begin on these lines
abbrev pub tokens_of : ℕ → List ℕ → List ℕ → List ℕ → List Segment → List Lexeme
tokens_of file bytes before lines [] = []
tokens_of file bytes before lines (s ∷ ss) = token_then file bytes before lines s.text s.token (λ more. tokens_of file bytes (before ++ s.text) more ss)

-- at a place there is no good piece: no piece at all, or the longest one is no token, or it has no value
pub data Stops (file at : ℕ) (rest : List ℕ) (r : Refusal) : Type 0 where
  no_piece : ((n : ℕ) → n ≤ length rest → piece_of (take n rest) ≡ None) → r ≡ refusal_of file at wrong.NoToken → Stops file at rest r
  no_token : (len : ℕ) (why : Wrong) → IsLongest rest len (Err why) → r ≡ refusal_of file at why → Stops file at rest r
  no_value : (len : ℕ) (class : Class) → IsLongest rest len (Ok class) → valued file at class (take len rest) ≡ Err r → Stops file at rest r

-- nothing is left of the file and these are its tokens, or the first refusal comes at the rest
abbrev pub Ends : ℕ → List ℕ → List Segment → List ℕ → Lexemes → Type 0
Ends file bytes segments [] (Ok ls) = ls ≡ tokens_of file bytes [] [] segments
Ends file bytes segments [] (Err r) = ⊥
Ends file bytes segments (c ∷ rest) (Ok ls) = ⊥
Ends file bytes segments (c ∷ rest) (Err r) = Stops file (length (texts segments)) (c ∷ rest) r

-- the file is cut into longest pieces, as far as they are good ones, with these tokens or this refusal
pub record Reads (file : ℕ) (bytes : List ℕ) (answer : Lexemes) : Type 0 where
  pub segments : List Segment
  pub rest : List ℕ
  pub whole : texts segments ++ rest ≡ bytes
  pub cut : IsCut file [] segments rest
  pub ends : Ends file bytes segments rest answer

-- a file is UTF-8 as a whole and is read, or its first ill-formed sequence is refused
abbrev pub IsReading : ℕ → List ℕ → Lexemes → Type 0
IsReading file bytes answer = ((utf8_valid_len bytes ≡ length bytes) × Reads file bytes answer)
    ⊎ ((utf8_valid_len bytes < length bytes) × (answer ≡ Err (NotUtf8 (byte_at file (utf8_valid_len bytes)))))
