-- What is read as a mark, or as the mark of a block, is printed so; and what is read as a block's parts has a `;` behind each but the last.
use Rattle.std.proofs.Common.{◌≡◌, Bool, true, false, cond, List, [], ◌∷◌, ◌++◌, length, map, Option, Some, refl, sym, ap, ◌∙◌}
use Rattle.gh_base.specs.declared.place.Span.{Span}
use Rattle.gh_tree.specs.declared.symbol.Kind.{Kind}
use Rattle.gh_tree.specs.declared.symbol.Kind.TheVariants as k
use Rattle.gh_tree.specs.declared.symbol.Sym.{Sym}
use Rattle.gh_tree.specs.declared.names.BlockMark.{BlockMark}
use Rattle.gh_tree.specs.declared.names.BlockMark.TheVariants as n_BlockMark
use Rattle.gh_tree.specs.Syms.{at, nowhere, same_span}
use Rattle.gh_tree.specs.Print.{Print, print, flat_all, parted, is_some, block_part}
use Rattle.gh_tree.specs.Print as printed
use Rattle.gh_tree.specs.Read.{taken, expect, is_arrow}
use Rattle.gh_tree.proofs.Steps.{same_span_is}
use Rattle.gh_tree.proofs.Many.{Taken, many_sound}
use Rattle.gh_reader.proofs.Sound.{SoundAt, built, only_if, expect_sound}
use Rattle.gh_parse_exps.specs.Ops.{is_banana}
use Rattle.gh_parse_exps.specs.Marks.{is_equals, is_bar, is_colons, is_of, is_in, is_then, is_else, is_close_banana, placed, block_open, block_open_by, semi, semi_by, block_close, block_close_by, semi_next, semis}

-- one of two ways
pub either : {A : Type 0} (print : A → Print) (ss : List Sym) (x : A) (rest : List Sym) (b : Bool) (p q : Option (A × List Sym)) → (b ≡ true → p ≡ taken x rest → Taken print ss x rest)
    → (b ≡ false → q ≡ taken x rest → Taken print ss x rest) → cond b p q ≡ taken x rest → Taken print ss x rest
either print ss x rest true p q f g e = f refl e
either print ss x rest false p q f g e = g refl e

-- ---- marks

arrow_is : (x : Kind) → is_arrow (Some x) ≡ true → x ≡ k.Arrow
arrow_is k.Arrow e = refl
arrow_is _ e = absurd (cc)

equals_is : (x : Kind) → is_equals (Some x) ≡ true → x ≡ k.Equals
equals_is k.Equals e = refl
equals_is _ e = absurd (cc)

bar_is : (x : Kind) → is_bar (Some x) ≡ true → x ≡ k.Bar
bar_is k.Bar e = refl
bar_is _ e = absurd (cc)

colons_is : (x : Kind) → is_colons (Some x) ≡ true → x ≡ k.Colons
colons_is k.Colons e = refl
colons_is _ e = absurd (cc)

of_is : (x : Kind) → is_of (Some x) ≡ true → x ≡ k.Of
of_is k.Of e = refl
of_is _ e = absurd (cc)

in_is : (x : Kind) → is_in (Some x) ≡ true → x ≡ k.In
in_is k.In e = refl
in_is _ e = absurd (cc)

then_is : (x : Kind) → is_then (Some x) ≡ true → x ≡ k.Then
then_is k.Then e = refl
then_is _ e = absurd (cc)

else_is : (x : Kind) → is_else (Some x) ≡ true → x ≡ k.Else
else_is k.Else e = refl
else_is _ e = absurd (cc)

banana_is : (x : Kind) → is_banana (Some x) ≡ true → x ≡ k.OpenBanana
banana_is k.OpenBanana e = refl
banana_is _ e = absurd (cc)

close_banana_is : (x : Kind) → is_close_banana (Some x) ≡ true → x ≡ k.CloseBanana
close_banana_is k.CloseBanana e = refl
close_banana_is _ e = absurd (cc)

-- a mark of this kind, expected by this test, stands there
abbrev Expects : (Option Kind → Bool) → Kind → Type 0
Expects is kind = (ss : List Sym) (b : Span) (rest : List Sym) → expect is ss ≡ taken b rest → ss ≡ at kind b ∷ rest

pub arrow_sound : Expects is_arrow k.Arrow
arrow_sound = expect_sound is_arrow k.Arrow refl arrow_is

pub equals_sound : Expects is_equals k.Equals
equals_sound = expect_sound is_equals k.Equals refl equals_is

pub bar_sound : Expects is_bar k.Bar
bar_sound = expect_sound is_bar k.Bar refl bar_is

pub colons_sound : Expects is_colons k.Colons
colons_sound = expect_sound is_colons k.Colons refl colons_is

pub of_sound : Expects is_of k.Of
of_sound = expect_sound is_of k.Of refl of_is

pub in_sound : Expects is_in k.In
in_sound = expect_sound is_in k.In refl in_is

pub then_sound : Expects is_then k.Then
then_sound = expect_sound is_then k.Then refl then_is

pub else_sound : Expects is_else k.Else
else_sound = expect_sound is_else k.Else refl else_is

pub banana_sound : Expects is_banana k.OpenBanana
banana_sound = expect_sound is_banana k.OpenBanana refl banana_is

pub close_banana_sound : Expects is_close_banana k.CloseBanana
close_banana_sound = expect_sound is_close_banana k.CloseBanana refl close_banana_is

-- ---- marks of blocks

abbrev mark_print : (BlockMark → Sym) → BlockMark → Print
mark_print mark m = print (mark m ∷ []) true

placed_sound : (mark : BlockMark → Sym) (kind : Kind) (m : BlockMark) → mark m ≡ at kind nowhere → (a : Span) (ss : List Sym) (x : BlockMark) (rest : List Sym) → placed m (at kind a ∷ ss) ≡ taken x rest
    → Taken (mark_print mark) (at kind a ∷ ss) x rest
unfolding placed
placed_sound mark kind m is a ss x rest e =
    let h = only_if (same_span a nowhere) (m, ss) (x, rest) e in
    let same = same_span_is a nowhere h.0 in
    let flat : at kind a ∷ ss ≡ mark m ∷ ss = ap (λ s. at kind s ∷ ss) same ∙ ap (λ (s : Sym). s ∷ ss) (sym is) in
    built (mark_print mark) (mark_print mark m) (at kind a ∷ ss) ss m x rest refl h.1 flat refl

open_by_sound : (kind : Kind) (span : Span) (ss : List Sym) (x : BlockMark) (rest : List Sym) → block_open_by (Some kind) (at kind span ∷ ss) ≡ taken x rest → Taken (mark_print printed.block_open) (at kind span ∷ ss) x rest
open_by_sound k.OpenBrace a ss x rest e = built (mark_print printed.block_open) (mark_print printed.block_open (n_BlockMark.Written a)) _ ss _ x rest refl e refl refl
open_by_sound (k.InsertedOpen p) a ss x rest e = placed_sound printed.block_open (k.InsertedOpen p) (n_BlockMark.Inserted p) refl a ss x rest e
open_by_sound _ a ss x rest e = absurd (cc)

open_mark_sound : SoundAt (mark_print printed.block_open) block_open
unfolding block_open
open_mark_sound [] x rest e = absurd (cc)
open_mark_sound (s ∷ ss) x rest e = open_by_sound s.kind s.span ss x rest e

semi_by_sound : (kind : Kind) (span : Span) (ss : List Sym) (x : BlockMark) (rest : List Sym) → semi_by (Some kind) (at kind span ∷ ss) ≡ taken x rest → Taken (mark_print printed.block_semi) (at kind span ∷ ss) x rest
semi_by_sound k.Semicolon a ss x rest e = built (mark_print printed.block_semi) (mark_print printed.block_semi (n_BlockMark.Written a)) _ ss _ x rest refl e refl refl
semi_by_sound (k.InsertedSemicolon p) a ss x rest e = placed_sound printed.block_semi (k.InsertedSemicolon p) (n_BlockMark.Inserted p) refl a ss x rest e
semi_by_sound _ a ss x rest e = absurd (cc)

semi_mark_sound : SoundAt (mark_print printed.block_semi) semi
unfolding semi
semi_mark_sound [] x rest e = absurd (cc)
semi_mark_sound (s ∷ ss) x rest e = semi_by_sound s.kind s.span ss x rest e

close_by_sound : (kind : Kind) (span : Span) (ss : List Sym) (x : BlockMark) (rest : List Sym) → block_close_by (Some kind) (at kind span ∷ ss) ≡ taken x rest → Taken (mark_print printed.block_close) (at kind span ∷ ss) x rest
close_by_sound k.CloseBrace a ss x rest e = built (mark_print printed.block_close) (mark_print printed.block_close (n_BlockMark.Written a)) _ ss _ x rest refl e refl refl
close_by_sound (k.InsertedClose p) a ss x rest e = placed_sound printed.block_close (k.InsertedClose p) (n_BlockMark.Inserted p) refl a ss x rest e
close_by_sound _ a ss x rest e = absurd (cc)

close_mark_sound : SoundAt (mark_print printed.block_close) block_close
unfolding block_close
close_mark_sound [] x rest e = absurd (cc)
close_mark_sound (s ∷ ss) x rest e = close_by_sound s.kind s.span ss x rest e

pub block_open_sound : (ss : List Sym) (b : BlockMark) (rest : List Sym) → block_open ss ≡ taken b rest → ss ≡ printed.block_open b ∷ rest
block_open_sound ss b rest e = (open_mark_sound ss b rest e).flat

pub block_close_sound : (ss : List Sym) (b : BlockMark) (rest : List Sym) → block_close ss ≡ taken b rest → ss ≡ printed.block_close b ∷ rest
block_close_sound ss b rest e = (close_mark_sound ss b rest e).flat

semis_flat : (ms : List BlockMark) → flat_all (map (mark_print printed.block_semi) ms) ≡ map printed.block_semi ms
semis_flat [] = refl
semis_flat (m ∷ ms) = ap (λ ss. printed.block_semi m ∷ ss) (semis_flat ms)

pub semis_sound : (ss : List Sym) (ms : List BlockMark) (rest : List Sym) → semis ss ≡ taken ms rest → ss ≡ map printed.block_semi ms ++ rest
unfolding semis
semis_sound ss ms rest e =
    let h = many_sound (mark_print printed.block_semi) semi_next semi (λ ss x rest b e. semi_mark_sound ss x rest e) (length ss) ss ms rest e in
    h.flat ∙ ap (λ us. us ++ rest) (semis_flat ms)
