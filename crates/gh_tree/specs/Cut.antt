-- Where the header and each item of a body end, and what the items of a file are from there on.
use Rattle.std.specs.Prelude.{◌≡◌, ℕ, zero, suc, Bool, true, false, List, [], ◌∷◌, ◌++◌, Option, Some, None, IsTrue}
use Rattle.gh_base.specs.declared.place.Span.{Span}
use Rattle.gh_layout.specs.declared.laying.LaidToken.{LaidToken}
use Rattle.gh_lexer.specs.declared.token.Token.{Token}
use Rattle.gh_tree.specs.declared.names.BlockMark.{BlockMark}
use Rattle.gh_tree.specs.declared.names.BlockMark.TheVariants as m
use Rattle.gh_tree.specs.declared.symbol.Kind.{Kind}
use Rattle.gh_tree.specs.declared.symbol.Kind.TheVariants as k
use Rattle.gh_tree.specs.declared.symbol.Sym.{Sym}
use Rattle.gh_tree.specs.Items.{Brace, opening_brace, part_mark, closing_brace, no_brace, brace, TopItem, ended, not_ended, body_items}
use Rattle.gh_tree.specs.Syms.{nowhere, is_inserted, syms_of}

-- how many braces are open behind a token, where so many were open before it; none where the token ends the item
abbrev pub behind : Brace → ℕ → Option ℕ
behind opening_brace depth = Some (suc depth)
behind part_mark zero = None
behind part_mark (suc depth) = Some (suc depth)
behind closing_brace zero = None
behind closing_brace (suc depth) = Some depth
behind no_brace depth = Some depth

abbrev pub opens : Brace → Bool
opens opening_brace = true
opens _ = false

abbrev pub size_step : Option ℕ → (ℕ → ℕ) → ℕ
size_step None next = zero
size_step (Some depth) next = suc (next depth)

-- how many tokens an item of a body has, where so many braces are open inside it: all of them, where no token ends it
abbrev pub item_size : List Sym → ℕ → ℕ
item_size [] depth = zero
item_size (s ∷ ss) depth = size_step (behind (brace s.kind) depth) (item_size ss)

abbrev pub header_step : Brace → ℕ → ℕ
header_step opening_brace n = zero
header_step _ n = suc n

-- how many tokens the header has: all of them, where there is no `{`
abbrev pub header_size : List Sym → ℕ
header_size [] = zero
header_size (s ∷ ss) = header_step (brace s.kind) (header_size ss)

-- the items of a file whose header is these tokens, by what stands behind them
abbrev pub header_cut_at : Brace → List Sym → Sym → List Sym → List TopItem
header_cut_at opening_brace front s rest = ended front ∷ body_items rest zero
header_cut_at _ front s rest = not_ended (front ++ s ∷ rest) ∷ []

abbrev pub header_cut : List Sym → List Sym → List TopItem
header_cut front [] = not_ended front ∷ []
header_cut front (s ∷ rest) = header_cut_at (brace s.kind) front s rest

-- the items of a body whose first item is these tokens, by what stands behind them
abbrev pub last_cut : List Sym → Sym → List Sym → List TopItem
last_cut front s [] = ended front ∷ []
last_cut front s (t ∷ ts) = not_ended (front ++ s ∷ t ∷ ts) ∷ []

abbrev pub item_cut_at : Brace → List Sym → Sym → List Sym → List TopItem
item_cut_at part_mark front s rest = ended front ∷ body_items rest zero
item_cut_at closing_brace front s rest = last_cut front s rest
item_cut_at _ front s rest = not_ended (front ++ s ∷ rest) ∷ []

abbrev pub item_cut : List Sym → List Sym → List TopItem
item_cut front [] = not_ended front ∷ []
item_cut front (s ∷ rest) = item_cut_at (brace s.kind) front s rest

-- the mark of a block that a token is: inserted with its place, or written with its bytes
abbrev pub mark_by : Kind → Span → BlockMark
mark_by (k.InsertedOpen p) span = m.Inserted p
mark_by (k.InsertedSemicolon p) span = m.Inserted p
mark_by (k.InsertedClose p) span = m.Inserted p
mark_by _ span = m.Written span

abbrev pub mark_of : Sym → BlockMark
mark_of s = mark_by s.kind s.span

-- a token that the layout inserted has no bytes
abbrev pub IsPlaced : Sym → Type 0
IsPlaced s = IsTrue (is_inserted s.kind) → s.span ≡ nowhere

abbrev pub ArePlaced : List Sym → Type 0
ArePlaced [] = Unit {0}
ArePlaced (s ∷ ss) = IsPlaced s × ArePlaced ss

-- so it is in each file
abbrev pub HavePlacedMarks : Type 0
HavePlacedMarks = (tokens : List Token) (ls : List LaidToken) → ArePlaced (syms_of tokens ls)

-- a mark of a block prints the token that it was made of
abbrev pub PrintsAgain : Brace → (BlockMark → Sym) → Type 0
PrintsAgain b print = (s : Sym) → brace s.kind ≡ b → IsPlaced s → print (mark_of s) ≡ s
