-- The top items of a file. Item 0 is the header, up to the body's `{`, which is the first `{` of the file. Each further item is a
-- part of the body between two `;` that stand directly in its braces.
use Rattle.std.specs.Prelude.{◌≡◌, ℕ, zero, suc, Bool, true, false, List, [], ◌∷◌, Option, IsTrue}
use Rattle.gh_base.specs.declared.place.Span.{Span}
use Rattle.gh_lexer.specs.declared.token.Token.{Token}
use Rattle.gh_layout.specs.declared.laying.LaidToken.{LaidToken}
use Rattle.gh_tree.specs.declared.symbol.Kind.{Kind}
use Rattle.gh_tree.specs.declared.symbol.Kind.TheVariants as k
use Rattle.gh_tree.specs.declared.symbol.Sym.{Sym}
use Rattle.gh_tree.specs.declared.module_tree.Header.{Header}
use Rattle.gh_tree.specs.declared.module_tree.Item.{Item}
use Rattle.gh_tree.specs.declared.module_tree.Item.TheVariants as v_Item
use Rattle.gh_tree.specs.Syms.{syms_of, cover}
use Rattle.gh_tree.specs.Print.{header, item, is_no_import}

-- what a token is for the braces around it
pub data Brace : Type 0 where
  opening_brace : Brace
  part_mark : Brace
  closing_brace : Brace
  no_brace : Brace

abbrev pub brace : Kind → Brace
brace k.OpenBrace = opening_brace
brace (k.InsertedOpen p) = opening_brace
brace k.Semicolon = part_mark
brace (k.InsertedSemicolon p) = part_mark
brace k.CloseBrace = closing_brace
brace (k.InsertedClose p) = closing_brace
brace _ = no_brace

-- the tokens of an item, and whether it ends as an item does: item 0 at a `{`, each other at a `;` of the body or at the `}` that
-- ends the body and the file
pub record TopItem : Type 0 where
  pub tokens : List Sym
  pub is_ended : Bool

abbrev pub ended : List Sym → TopItem
ended ss = record { tokens = ss; is_ended = true }

abbrev pub not_ended : List Sym → TopItem
not_ended ss = record { tokens = ss; is_ended = false }

-- a token before the first of the items
abbrev pub front : Sym → List TopItem → List TopItem
front s [] = not_ended (s ∷ []) ∷ []
front s (i ∷ is) = record i { tokens = s ∷ i.tokens } ∷ is

-- from the `}` of the body on: what stands behind it belongs to the last item
abbrev pub body_end : Sym → List Sym → List TopItem
body_end s [] = ended [] ∷ []
body_end s (t ∷ ts) = not_ended (s ∷ t ∷ ts) ∷ []

-- one token of a body: `depth` braces are open inside it, and `next` gives the items of what follows
abbrev pub body_step : Brace → Sym → List Sym → (ℕ → List TopItem) → ℕ → List TopItem
body_step opening_brace s ss next depth = front s (next (suc depth))
body_step part_mark s ss next zero = ended [] ∷ next zero
body_step part_mark s ss next (suc depth) = front s (next (suc depth))
body_step closing_brace s ss next zero = body_end s ss
body_step closing_brace s ss next (suc depth) = front s (next depth)
body_step no_brace s ss next depth = front s (next depth)

-- the items of a body, behind its `{`, where so many braces are open inside it
abbrev pub body_items : List Sym → ℕ → List TopItem
body_items [] depth = not_ended [] ∷ []
body_items (s ∷ ss) depth = body_step (brace s.kind) s ss (body_items ss) depth

-- one token before the body
abbrev pub top_step : Brace → Sym → List Sym → List TopItem → List TopItem
top_step opening_brace s ss rest = ended [] ∷ body_items ss zero
top_step _ s ss rest = front s rest

-- all items of a file; where there is no `{`, all tokens are item 0
abbrev pub top_items : List Sym → List TopItem
top_items [] = not_ended [] ∷ []
top_items (s ∷ ss) = top_step (brace s.kind) s ss (top_items ss)

-- the items of a file, by its tokens and its laid tokens
abbrev pub items_of : List Token → List LaidToken → List TopItem
items_of tokens ls = top_items (syms_of tokens ls)

-- the bytes of an item: from its first to its last token; none, at byte 0, where it has no token
abbrev pub item_span : TopItem → Span
item_span i = cover i.tokens

-- these are the tokens of a header, or of none
abbrev pub IsHeader : TopItem → Option Header → Type 0
IsHeader i h = IsTrue i.is_ended × IsTrue (header h).good × ((header h).flat ≡ i.tokens)

-- these are the tokens of an item; behind a declaration of the top it is no import
abbrev pub may_stand : Bool → Item → Bool
may_stand true i = is_no_import i
may_stand false i = true

abbrev pub IsItem : Bool → TopItem → Item → Type 0
IsItem tops_before i x = IsTrue i.is_ended × IsTrue (item x).good × ((item x).flat ≡ i.tokens) × IsTrue (may_stand tops_before x)

-- whether a declaration of the top is among an item and those before it
abbrev pub is_top : Item → Bool
is_top (v_Item.Top t) = true
is_top _ = false

abbrev pub tops_behind : Bool → Item → Bool
tops_behind true x = true
tops_behind false x = is_top x
