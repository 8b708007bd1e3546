-- Tokens read by a table of names.
use Rattle.std.specs.Prelude.{◌≡◌, ℕ, ◌<◌, List, [], ◌∷◌, length, map, Option, Some, None, option_map}
use Rattle.gh_base.specs.Ids.{text_in}
use Rattle.gh_base.specs.Table.{place_of}
use Rattle.gh_base.specs.declared.names.NameId.{NameId}
use Rattle.gh_lexer.specs.declared.token.TokenKind.{TokenKind}
use Rattle.gh_lexer.specs.declared.token.TokenKind.TheVariants as kind
use Rattle.gh_lexer.specs.declared.token.Token.{Token}
use Rattle.gh_lexer.specs.Lexeme.{Piece, Named, Word, Mark, Number, Letter, Text, Lexeme}

-- a table of names as its texts
abbrev pub Table : Type 0
Table = List (List ℕ)

-- what a token is, its ids read as texts
abbrev pub piece_in : Table → TokenKind → Piece
piece_in table (kind.Name c qualifier id) = Named c (option_map (λ q. text_in table q) qualifier) (text_in table id)
piece_in table (kind.Word id) = Word (text_in table id)
piece_in table (kind.Mark id) = Mark (text_in table id)
piece_in table (kind.Int n) = Number n
piece_in table (kind.Char c) = Letter c
piece_in table (kind.Str chars) = Text chars

-- a token as texts and values
abbrev pub lexeme_in : Table → Token → Lexeme
lexeme_in table t = record { piece = piece_in table t.kind; span = t.span; line = t.line; column = t.column; first = t.first }

-- tokens as texts and values
abbrev pub lexemes_in : Table → List Token → List Lexeme
lexemes_in table ts = map (lexeme_in table) ts

-- an id of the table, and the one that its text has
pub record IsPlaced (table : Table) (id : NameId) : Type 0 where
  pub known : id.0 < length table
  pub place : place_of table (text_in table id) ≡ Some id.0

-- so is the id, if there is one
abbrev pub IsPlacedIfSome : Table → Option NameId → Type 0
IsPlacedIfSome table None = Unit {0}
IsPlacedIfSome table (Some id) = IsPlaced table id

-- the ids of a token are of the table, each the one of its text
abbrev pub IdsPlaced : Table → TokenKind → Type 0
IdsPlaced table (kind.Name c qualifier id) = IsPlacedIfSome table qualifier × IsPlaced table id
IdsPlaced table (kind.Word id) = IsPlaced table id
IdsPlaced table (kind.Mark id) = IsPlaced table id
IdsPlaced table (kind.Int n) = Unit {0}
IdsPlaced table (kind.Char c) = Unit {0}
IdsPlaced table (kind.Str chars) = Unit {0}

-- the ids of all these tokens
abbrev pub AllPlaced : Table → List Token → Type 0
AllPlaced table [] = Unit {0}
AllPlaced table (t ∷ ts) = IdsPlaced table t.kind × AllPlaced table ts

-- the same for what may be no token
abbrev pub piece_if : Table → Option TokenKind → Option Piece
piece_if table k = option_map (piece_in table) k

-- the ids of a token, if there is one
abbrev pub PlacedIfSome : Table → Option TokenKind → Type 0
PlacedIfSome table None = Unit {0}
PlacedIfSome table (Some k) = IdsPlaced table k
