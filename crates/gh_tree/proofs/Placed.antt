-- A token that the layout inserted has no bytes, so a mark of a block prints the token that it was made of.
use Rattle.std.proofs.Common.{◌≡◌, ℕ, zero, suc, Bool, true, false, not, ◌&&◌, ◌==◌, cond, List, [], ◌∷◌, drop, slice_get, Option, Some, None, refl, sym, ap, IsTrue}
use Rattle.gh_base.specs.declared.names.NameId.{NameId}
use Rattle.gh_base.specs.declared.place.Span.{Span}
use Rattle.gh_layout.specs.declared.laying.LaidToken.{LaidToken}
use Rattle.gh_layout.specs.declared.laying.LaidToken.TheVariants as laid
use Rattle.gh_lexer.specs.declared.token.NameClass.TheVariants as class
use Rattle.gh_lexer.specs.declared.token.Token.{Token}
use Rattle.gh_lexer.specs.declared.token.TokenKind.{TokenKind}
use Rattle.gh_lexer.specs.declared.token.TokenKind.TheVariants as token
use Rattle.gh_tree.specs.declared.symbol.Kind.{Kind}
use Rattle.gh_tree.specs.declared.symbol.Kind.TheVariants as k
use Rattle.gh_tree.specs.declared.symbol.Sym.{Sym}
use Rattle.gh_tree.specs.Items.{opening_brace, part_mark, closing_brace, brace}
use Rattle.gh_tree.specs.Print.{block_open, block_semi, block_close}
use Rattle.gh_tree.specs.Syms.{at, nowhere, listed, words, marks, kind_of, real, sym_of, is_inserted}
use Rattle.gh_tree.specs.Cut.{mark_by, IsPlaced, ArePlaced, HavePlacedMarks, PrintsAgain}

-- ---- marks

open_by : (kind : Kind) (span : Span) → brace kind ≡ opening_brace → (IsTrue (is_inserted kind) → span ≡ nowhere) → block_open (mark_by kind span) ≡ at kind span
open_by k.OpenBrace span e placed = refl
open_by (k.InsertedOpen p) span e placed = ap (at (k.InsertedOpen p)) (sym (placed refl))
open_by _ span e placed = absurd (cc)

semi_by : (kind : Kind) (span : Span) → brace kind ≡ part_mark → (IsTrue (is_inserted kind) → span ≡ nowhere) → block_semi (mark_by kind span) ≡ at kind span
semi_by k.Semicolon span e placed = refl
semi_by (k.InsertedSemicolon p) span e placed = ap (at (k.InsertedSemicolon p)) (sym (placed refl))
semi_by _ span e placed = absurd (cc)

close_by : (kind : Kind) (span : Span) → brace kind ≡ closing_brace → (IsTrue (is_inserted kind) → span ≡ nowhere) → block_close (mark_by kind span) ≡ at kind span
close_by k.CloseBrace span e placed = refl
close_by (k.InsertedClose p) span e placed = ap (at (k.InsertedClose p)) (sym (placed refl))
close_by _ span e placed = absurd (cc)

pub open_again : PrintsAgain opening_brace block_open
open_again s e placed = open_by s.kind s.span e placed

pub semi_again : PrintsAgain part_mark block_semi
semi_again s e placed = semi_by s.kind s.span e placed

pub close_again : PrintsAgain closing_brace block_close
close_again s e placed = close_by s.kind s.span e placed

-- ---- tokens of a file

-- no entry of a list is a token that the layout inserts
abbrev all_written : List (NameId × Kind) → Bool
all_written [] = true
all_written (p ∷ ps) = not (is_inserted p.1) && all_written ps

entry_written : (b : Bool) (a c : Kind) → is_inserted a ≡ false → is_inserted c ≡ false → is_inserted (cond b a c) ≡ false
entry_written true a c e f = e
entry_written false a c e f = f

both_parts : (a b : Bool) → not a && b ≡ true → (a ≡ false) × (b ≡ true)
both_parts true b e = absurd (cc)
both_parts false b e = (refl, e)

listed_written : (ps : List (NameId × Kind)) (other : Kind) (name : NameId) → all_written ps ≡ true → is_inserted other ≡ false → is_inserted (listed ps other name) ≡ false
listed_written [] other name all rest = rest
listed_written (p ∷ ps) other name all rest =
    let parts = both_parts (is_inserted p.1) (all_written ps) all in
    entry_written (p.0.0 == name.0) p.1 (listed ps other name) parts.0 (listed_written ps other name parts.1 rest)

kind_written : (t : TokenKind) → is_inserted (kind_of t) ≡ false
kind_written (token.Name class.VarId q n) = refl
kind_written (token.Name class.ConId q n) = refl
kind_written (token.Name class.VarSym q n) = refl
kind_written (token.Name class.ConSym q n) = refl
kind_written (token.Word n) = listed_written words (k.Unused n) n refl refl
kind_written (token.Mark n) = listed_written marks (k.Unused n) n refl refl
kind_written (token.Int n) = refl
kind_written (token.Char c) = refl
kind_written (token.Str cs) = refl

real_placed : (place : ℕ) (t : Option Token) → IsPlaced (real place t)
real_placed place None = λ e. refl
real_placed place (Some t) = λ e. let written = kind_written t.kind in absurd (cc)

sym_placed : (tokens : List Token) (l : LaidToken) → IsPlaced (sym_of tokens l)
sym_placed tokens (laid.Real place) = real_placed place (slice_get tokens place)
sym_placed tokens (laid.Begin place) = λ e. refl
sym_placed tokens (laid.Semi place) = λ e. refl
sym_placed tokens (laid.End place) = λ e. refl

pub syms_placed : HavePlacedMarks
syms_placed tokens [] = tt
syms_placed tokens (l ∷ ls) = (sym_placed tokens l, syms_placed tokens ls)

-- what is left of such tokens
pub placed_drop : (n : ℕ) (ss : List Sym) → ArePlaced ss → ArePlaced (drop n ss)
placed_drop zero ss placed = placed
placed_drop (suc n) [] placed = tt
placed_drop (suc n) (s ∷ ss) placed = placed_drop n ss placed.1
