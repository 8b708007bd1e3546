-- Tokens as texts, apart from any table of names.
use Rattle.std.specs.Prelude.{ℕ, Bool, List, Option}
use Rattle.gh_base.specs.declared.place.Span.{Span}
use Rattle.gh_lexer.specs.declared.token.NameClass.{NameClass}

-- what a token is: texts are bytes, and characters are code points
pub data Piece : Type 0 where
  Named : (class : NameClass) → (qualifier : Option (List ℕ)) → (text : List ℕ) → Piece
  Word : (text : List ℕ) → Piece
  Mark : (text : List ℕ) → Piece
  Number : (value : ℕ) → Piece
  Letter : (char : ℕ) → Piece
  Text : (chars : List ℕ) → Piece

-- a token with its place: the bytes of the file, and line and column of its first byte, from 1
pub record Lexeme : Type 0 where
  pub piece : Piece
  pub span : Span
  pub line : ℕ
  pub column : ℕ
  pub first : Bool
