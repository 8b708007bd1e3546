-- What is printed of the marks of a block, and of the parts of a block, is read.
use Rattle.std.proofs.Common.{◌≡◌, ℕ, ◌≤◌, Bool, true, false, not, ◌&&◌, cond, List, [], ◌∷◌, ◌++◌, length, map, Option, Some, None, refl, sym, ap, ◌∙◌, subst, append_assoc, arith, length-append}
use Rattle.std.proofs.lemmas.Bool.Decides.{nat_tests}
use Rattle.gh_base.specs.declared.place.Span.{Span}
use Rattle.gh_tree.specs.declared.symbol.Kind.{Kind}
use Rattle.gh_tree.specs.declared.symbol.Kind.TheVariants as k
use Rattle.gh_tree.specs.declared.symbol.Sym.{Sym}
use Rattle.gh_tree.specs.declared.names.BlockMark.{BlockMark}
use Rattle.gh_tree.specs.declared.names.BlockMark.TheVariants as n_BlockMark
use Rattle.gh_tree.specs.Print.{Print, print, flat_all, good_all, parted, is_some, block_part}
use Rattle.gh_tree.specs.Print as printed
use Rattle.gh_tree.specs.Read.{Read, and_then, taken, kind, covered, all}
use Rattle.gh_tree.proofs.Steps.{chain, both, spanned_span}
use Rattle.gh_tree.proofs.Many.{items_complete, all_complete, AllRead, Complete}
use Rattle.gh_parse_exps.specs.Marks.{block_open, block_close, semi, semis, placed, is_semi, semi_next, begins_part, begins_part_by, part_ends}
use Rattle.gh_parse_exps.proofs.Ends.{ends_decl, ends_decl_by}
use Rattle.gh_parse_exps.proofs.Starts.{some_of}

pub block_open_complete : (a : BlockMark) (rest : List Sym) → block_open (printed.block_open a ∷ rest) ≡ taken a rest
unfolding block_open placed
block_open_complete (n_BlockMark.Written s) rest = refl
block_open_complete (n_BlockMark.Inserted p) rest = refl

pub block_close_complete : (b : BlockMark) (rest : List Sym) → block_close (printed.block_close b ∷ rest) ≡ taken b rest
unfolding block_close placed
block_close_complete (n_BlockMark.Written s) rest = refl
block_close_complete (n_BlockMark.Inserted p) rest = refl

semi_complete : (m : BlockMark) (rest : List Sym) → semi (printed.block_semi m ∷ rest) ≡ taken m rest
unfolding semi placed
semi_complete (n_BlockMark.Written s) rest = refl
semi_complete (n_BlockMark.Inserted p) rest = refl

abbrev semi_mark : BlockMark → Print
semi_mark m = print (printed.block_semi m ∷ []) true

semis_flat : (ms : List BlockMark) → flat_all (map semi_mark ms) ≡ map printed.block_semi ms
semis_flat [] = refl
semis_flat (m ∷ ms) = ap (λ ss. printed.block_semi m ∷ ss) (semis_flat ms)

semis_good : (ms : List BlockMark) → good_all (map semi_mark ms) ≡ true
semis_good [] = refl
semis_good (m ∷ ms) = semis_good ms

semi_starts : (m : BlockMark) (rest : List Sym) → semi_next (printed.block_semi m ∷ rest) ≡ true
semi_starts (n_BlockMark.Written s) rest = refl
semi_starts (n_BlockMark.Inserted p) rest = refl

pub semis_complete : (ms : List BlockMark) (rest : List Sym) → semi_next rest ≡ false → semis (map printed.block_semi ms ++ rest) ≡ taken ms rest
unfolding semis
semis_complete ms rest ends =
    ap (λ us. all semi_next semi (us ++ rest)) (sym (semis_flat ms))
    ∙ items_complete semi_mark semi_next semi refl (λ ss. true) (length (flat_all (map semi_mark ms))) (λ x rest g. semi_starts x rest) (λ x rest g f e. semi_complete x rest) (λ ss e. refl)
    ms rest (semis_good ms) (omega arith) refl ends

-- ---- the end of a block

pub close_no_part : (b : BlockMark) (rest : List Sym) → begins_part (printed.block_close b ∷ rest) ≡ false
close_no_part (n_BlockMark.Written s) rest = refl
close_no_part (n_BlockMark.Inserted p) rest = refl

close_no_semi : (b : BlockMark) (rest : List Sym) → semi_next (printed.block_close b ∷ rest) ≡ false
close_no_semi (n_BlockMark.Written s) rest = refl
close_no_semi (n_BlockMark.Inserted p) rest = refl

-- ---- parts

-- a part comes next: neither the end of the tokens, nor a `;` or a `}`
abbrev pub begins_item_by : Option Kind → Bool
begins_item_by kind = not (ends_decl_by kind)

abbrev pub begins_item : List Sym → Bool
begins_item ss = begins_item_by (kind ss)

item_begins_by : (kind : Option Kind) → begins_item_by kind ≡ true → (begins_part_by kind ≡ true) × (is_semi kind ≡ false)
item_begins_by None e = absurd (cc)
item_begins_by (Some k.Semicolon) e = absurd (cc)
item_begins_by (Some (k.InsertedSemicolon p)) e = absurd (cc)
item_begins_by (Some k.CloseBrace) e = absurd (cc)
item_begins_by (Some (k.InsertedClose p)) e = absurd (cc)
item_begins_by (Some _) e = (refl, refl)

no_part_ends_by : (kind : Option Kind) → begins_part_by kind ≡ false → ends_decl_by kind ≡ true
no_part_ends_by None e = refl
no_part_ends_by (Some k.CloseBrace) e = refl
no_part_ends_by (Some (k.InsertedClose p)) e = refl
no_part_ends_by _ e = absurd (cc)

marks_end : (ms : List BlockMark) (rest : List Sym) → (is_some ms ≡ false → begins_part rest ≡ false) → ends_decl (map printed.block_semi ms ++ rest) ≡ true
marks_end [] rest last = no_part_ends_by (kind rest) (last refl)
marks_end (n_BlockMark.Written s ∷ ms) rest last = refl
marks_end (n_BlockMark.Inserted p ∷ ms) rest last = refl

pub is_some_more : {A : Type 0} (x : A) (xs : List A) → is_some (x ∷ xs) ≡ true
is_some_more x xs = grind (arith, nat_tests)

part_ended : {A : Type 0} (ms : List BlockMark) (x : A) (rest : List Sym) → (is_some ms ≡ false → begins_part rest ≡ false) → part_ends ms x rest ≡ taken x rest
unfolding part_ends
part_ended [] x rest last = ap (λ b. cond b None (taken x rest)) (last refl)
part_ended (m ∷ ms) x rest last = ap (λ b. cond (not b) (cond (begins_part rest) None (taken x rest)) (taken x rest)) (is_some_more m ms)

-- parts of a block, each an `A` with the `;` behind it
module _ {A Item : Type 0} (flat_of : A → Print) (print_of : Item → Print) (one : Read A) (item : Read Item) (part : Item → A) (marks : Item → List BlockMark) (make : A → List BlockMark → Item)
    (item_at : (x : Item) → print_of x ≡ block_part (flat_of (part x)) (marks x)) (made : (x : Item) → make (part x) (marks x) ≡ x)
    (item_is : (ss : List Sym) → item ss ≡ and_then (one ss) (λ x us. and_then (semis us) (λ ms vs. part_ends ms (make x ms) vs)))
    (most : ℕ) (one_complete : Complete flat_of ends_decl most one)
    (one_starts : (x : A) (rest : List Sym) → (flat_of x).good ≡ true → begins_item ((flat_of x).flat ++ rest) ≡ true) where
  part_good : (x : Item) → (print_of x).good ≡ true → (flat_of (part x)).good ≡ true
  part_good x good = ap (λ (p : Print). p.good) (sym (item_at x)) ∙ good

  item_starts : (x : Item) (rest : List Sym) → (print_of x).good ≡ true → begins_item ((print_of x).flat ++ rest) ≡ true
  item_starts x rest good =
      ap (λ (p : Print). begins_item (p.flat ++ rest)) (item_at x)
      ∙ ap begins_item (append_assoc (flat_of (part x)).flat (map printed.block_semi (marks x)) rest)
      ∙ one_starts (part x) (map printed.block_semi (marks x) ++ rest) (part_good x good)

  item_reads : (x : Item) (rest : List Sym) → (print_of x).good ≡ true → length (print_of x).flat ≤ most → semi_next rest ≡ false → ((print_of x).is_parted ≡ false → begins_part rest ≡ false)
      → item ((print_of x).flat ++ rest) ≡ taken x rest
  item_reads x rest good fits stop last =
      let ms = marks x in
      let head = (flat_of (part x)).flat in
      let behind = map printed.block_semi ms in
      let e = item_at x in
      let fits' : length (head ++ behind) ≤ most = subst (λ (p : Print). length p.flat ≤ most) e fits in
      let size = length-append head behind in
      let last' : is_some ms ≡ false → begins_part rest ≡ false = λ none. last (ap (λ (p : Print). p.is_parted) e ∙ none) in
      ap (λ (p : Print). item (p.flat ++ rest)) e
      ∙ ap item (append_assoc head behind rest)
      ∙ item_is (head ++ (behind ++ rest))
      ∙ chain _ (one_complete (part x) (behind ++ rest) (part_good x good) (omega (arith, size, fits')) (marks_end ms rest last'))
      (chain _ (semis_complete ms rest stop) (part_ended ms (make (part x) ms) rest last' ∙ ap (λ (z : Item). taken z rest) (made x)))

  pub parts_no_semi : (xs : List Item) (b : BlockMark) (rest : List Sym) → good_all (map print_of xs) ≡ true → semi_next (flat_all (map print_of xs) ++ (printed.block_close b ∷ rest)) ≡ false
  parts_no_semi [] b rest good = close_no_semi b rest
  parts_no_semi (x ∷ xs) b rest good =
      let tail : List Sym = flat_all (map print_of xs) ++ (printed.block_close b ∷ rest) in
      ap semi_next (append_assoc (print_of x).flat (flat_all (map print_of xs)) (printed.block_close b ∷ rest))
      ∙ (item_begins_by _ (item_starts x tail (both (print_of x).good (good_all (map print_of xs)) good).0)).1

  parts_read : (xs : List Item) (b : BlockMark) (rest : List Sym) → good_all (map print_of xs) ≡ true → parted (map print_of xs) ≡ true → length (flat_all (map print_of xs)) ≤ most
      → AllRead print_of begins_part item xs (printed.block_close b ∷ rest)
  parts_read [] b rest good behind fits = tt
  parts_read (x ∷ []) b rest good behind fits =
      let tail : List Sym = printed.block_close b ∷ rest in
      let g = (both (print_of x).good true good).0 in
      let size = length-append (print_of x).flat [] in (
        (item_begins_by _ (item_starts x tail g)).0,
        item_reads x tail g (omega (arith, size, fits)) (close_no_semi b rest) (λ e. close_no_part b rest),
        tt,
      )
  parts_read (x ∷ y ∷ ys) b rest good behind fits =
      let others = flat_all (map print_of (y ∷ ys)) in
      let tail : List Sym = others ++ (printed.block_close b ∷ rest) in
      let g = both (print_of x).good (good_all (map print_of (y ∷ ys))) good in
      let h = both (print_of x).is_parted (parted (map print_of (y ∷ ys))) behind in
      let is = h.0 in
      let size = length-append (print_of x).flat others in (
        (item_begins_by _ (item_starts x tail g.0)).0,
        item_reads x tail g.0 (omega (arith, size, fits)) (parts_no_semi (y ∷ ys) b rest g.1) (λ e. absurd (cc (is, e))),
        parts_read (y ∷ ys) b rest g.1 h.1 (omega (arith, size, fits)),
      )

  pub parts_complete : (xs : List Item) (b : BlockMark) (rest : List Sym) → good_all (map print_of xs) ≡ true → parted (map print_of xs) ≡ true → length (flat_all (map print_of xs)) ≤ most
      → all begins_part item (flat_all (map print_of xs) ++ (printed.block_close b ∷ rest)) ≡ taken xs (printed.block_close b ∷ rest)
  parts_complete xs b rest good behind fits =
      all_complete print_of begins_part item (λ x g. some_of begins_item (print_of x).flat refl (item_starts x [] g)) xs (printed.block_close b ∷ rest) good (parts_read xs b rest good behind fits) (close_no_part b rest)

-- ---- a block

abbrev pub block_tail : List Print → BlockMark → List Sym → List Sym
block_tail ps b rest = flat_all ps ++ (printed.block_close b ∷ rest)

abbrev pub block_start : BlockMark → List BlockMark → List Print → BlockMark → List Sym → List Sym
block_start a ms ps b rest = printed.block_open a ∷ (map printed.block_semi ms ++ block_tail ps b rest)

-- a well-formed block of so many tokens at most, with other tokens behind it
pub record Block (s : Span) (a : BlockMark) (ms : List BlockMark) (ps : List Print) (b : BlockMark) (rest : List Sym) (most : ℕ) : Type 0 where
  pub parts : good_all ps ≡ true
  pub ended : parted ps ≡ true
  pub fits : length (flat_all ps) ≤ most
  pub split : (printed.block s a ms ps b).flat ++ rest ≡ block_start a ms ps b rest
  pub span : covered (block_start a ms ps b rest) rest ≡ s

pub block_of : (s : Span) (a : BlockMark) (ms : List BlockMark) (ps : List Print) (b : BlockMark) (rest : List Sym) (most : ℕ) → (printed.block s a ms ps b).good ≡ true → length (printed.block s a ms ps b).flat ≤ most → Block s a ms ps b rest most
block_of s a ms ps b rest most good fits =
    let before = map printed.block_semi ms in
    let inside = flat_all ps in
    let close : List Sym = printed.block_close b ∷ [] in
    let flat : List Sym = printed.block_open a ∷ (before ++ (inside ++ close)) in
    let h = both (good_all ps && parted ps) _ good in
    let g = both (good_all ps) (parted ps) h.0 in
    let size = length-append before (inside ++ close) in
    let size2 = length-append inside close in
    let split : flat ++ rest ≡ block_start a ms ps b rest = ap (λ us. printed.block_open a ∷ us) (append_assoc before (inside ++ close) rest ∙ ap (λ us. before ++ us) (append_assoc inside close rest)) in
    record {
      parts = g.0;
      ended = g.1;
      fits = omega (arith, size, size2, fits);
      split = split;
      span = ap (λ us. covered us rest) (sym split) ∙ spanned_span s rest flat (good_all ps && parted ps) good;
    }
