-- Laid tokens as the grammar sees them, and the bytes that a list of them covers.
use Rattle.std.specs.Prelude.{ℕ, Bool, true, false, ◌&&◌, ◌==◌, if◌then◌else◌, List, [], ◌∷◌, map, Option, Some, None, slice_get}
use Rattle.gh_base.specs.declared.fixed.TheConstants.{CASE, DATA, ELSE, IF, IMPORT, IN, INFIX, INFIXL, INFIXR, LET, MODULE, NEWTYPE, OF, THEN, TYPE, WHERE, UNDERSCORE, DOT_DOT, COLON, DOUBLE_COLON, EQUALS, BACKSLASH, BAR, RIGHT_ARROW, AT, DOUBLE_ARROW, OPEN_PARENTHESIS, CLOSE_PARENTHESIS, COMMA, SEMICOLON, OPEN_BRACKET, CLOSE_BRACKET, BACKQUOTE, OPEN_BRACE, CLOSE_BRACE, OPEN_BANANA, CLOSE_BANANA}
use Rattle.gh_base.specs.declared.names.NameId.{NameId}
use Rattle.gh_base.specs.declared.place.Span.{Span}
use Rattle.gh_lexer.specs.declared.token.NameClass.TheVariants as class
use Rattle.gh_lexer.specs.declared.token.Token.{Token}
use Rattle.gh_lexer.specs.declared.token.TokenKind.{TokenKind}
use Rattle.gh_lexer.specs.declared.token.TokenKind.TheVariants as token
use Rattle.gh_layout.specs.declared.laying.LaidToken.{LaidToken}
use Rattle.gh_layout.specs.declared.laying.LaidToken.TheVariants as laid
use Rattle.gh_tree.specs.declared.symbol.Kind.{Kind}
use Rattle.gh_tree.specs.declared.symbol.Kind.TheVariants as k
use Rattle.gh_tree.specs.declared.symbol.Sym.{Sym}

abbrev pub nowhere : Span
nowhere = record { file = 0; from = 0; to = 0 }

-- a laid token of this kind at this place
abbrev pub at : Kind → Span → Sym
at kind span = record { kind = kind; span = span }

-- the entry of a number in a list of numbers and kinds, or a kind for all others
abbrev pub listed : List (NameId × Kind) → Kind → NameId → Kind
listed [] other name = other
listed (p ∷ ps) other name = if p.0.0 == name.0 then p.1 else listed ps other name

abbrev pub words : List (NameId × Kind)
words = (CASE, k.Case) ∷ (DATA, k.Data) ∷ (ELSE, k.Else) ∷ (IF, k.If) ∷ (IMPORT, k.Import) ∷ (IN, k.In) ∷ (INFIX, k.Infix) ∷ (INFIXL, k.Infixl) ∷ (INFIXR, k.Infixr)
    ∷ (LET, k.Let) ∷ (MODULE, k.Module) ∷ (NEWTYPE, k.Newtype) ∷ (OF, k.Of) ∷ (THEN, k.Then) ∷ (TYPE, k.TypeWord) ∷ (WHERE, k.Where) ∷ (UNDERSCORE, k.Underscore) ∷ []

abbrev pub marks : List (NameId × Kind)
marks = (DOT_DOT, k.DotDot) ∷ (COLON, k.Colon) ∷ (DOUBLE_COLON, k.Colons) ∷ (EQUALS, k.Equals) ∷ (BACKSLASH, k.Backslash) ∷ (BAR, k.Bar) ∷ (RIGHT_ARROW, k.Arrow) ∷ (AT, k.At)
    ∷ (DOUBLE_ARROW, k.DoubleArrow) ∷ (OPEN_PARENTHESIS, k.Open) ∷ (CLOSE_PARENTHESIS, k.Close) ∷ (COMMA, k.Comma) ∷ (SEMICOLON, k.Semicolon) ∷ (OPEN_BRACKET, k.OpenList)
    ∷ (CLOSE_BRACKET, k.CloseList) ∷ (BACKQUOTE, k.Backquote) ∷ (OPEN_BRACE, k.OpenBrace) ∷ (CLOSE_BRACE, k.CloseBrace) ∷ (OPEN_BANANA, k.OpenBanana) ∷ (CLOSE_BANANA, k.CloseBanana) ∷ []

-- what a token of the file is for the grammar
abbrev pub kind_of : TokenKind → Kind
kind_of (token.Name class.VarId q n) = k.VarId q n
kind_of (token.Name class.ConId q n) = k.ConId q n
kind_of (token.Name class.VarSym q n) = k.VarSym q n
kind_of (token.Name class.ConSym q n) = k.ConSym q n
kind_of (token.Word n) = listed words (k.Unused n) n
kind_of (token.Mark n) = listed marks (k.Unused n) n
kind_of (token.Int n) = k.Int n
kind_of (token.Char c) = k.Char c
kind_of (token.Str cs) = k.Str cs

abbrev pub real : ℕ → Option Token → Sym
real place None = at (k.InsertedSemicolon place) nowhere
real place (Some t) = at (kind_of t.kind) t.span

-- what a laid token is, by the tokens of the file
abbrev pub sym_of : List Token → LaidToken → Sym
sym_of tokens (laid.Real place) = real place (slice_get tokens place)
sym_of tokens (laid.Begin place) = at (k.InsertedOpen place) nowhere
sym_of tokens (laid.Semi place) = at (k.InsertedSemicolon place) nowhere
sym_of tokens (laid.End place) = at (k.InsertedClose place) nowhere

abbrev pub syms_of : List Token → List LaidToken → List Sym
syms_of tokens ls = map (sym_of tokens) ls

abbrev pub is_inserted : Kind → Bool
is_inserted (k.InsertedOpen p) = true
is_inserted (k.InsertedSemicolon p) = true
is_inserted (k.InsertedClose p) = true
is_inserted _ = false

-- the places of the tokens that stand in the file
abbrev pub places : List Sym → List Span
places [] = []
places (s ∷ ss) = if is_inserted s.kind then places ss else s.span ∷ places ss

abbrev pub last_of : Span → List Span → Span
last_of a [] = a
last_of a (b ∷ bs) = last_of b bs

abbrev pub joined : List Span → Span
joined [] = nowhere
joined (a ∷ as') = record { file = a.file; from = a.from; to = (last_of a as').to }

-- the bytes from the first to the last token of a list that stands in the file
unfoldable pub cover : List Sym → Span
cover ss = joined (places ss)

abbrev pub same_span : Span → Span → Bool
same_span a b = a.file == b.file && (a.from == b.from && a.to == b.to)
