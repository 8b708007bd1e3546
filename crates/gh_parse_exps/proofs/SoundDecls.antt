-- What is read as a declaration, or as a block of declarations, is the print of a well-formed one.
use Rattle.std.proofs.Common.{◌≡◌, ℕ, true, not, nat_lt, List, [], ◌∷◌, ◌++◌, length, map, Option, Some, None, refl, ap, ◌∙◌, cond}
use Rattle.gh_base.specs.declared.place.Span.{Span}
use Rattle.gh_tree.specs.declared.symbol.Kind.{Kind}
use Rattle.gh_tree.specs.declared.symbol.Kind.TheVariants as k
use Rattle.gh_tree.specs.declared.symbol.Sym.{Sym}
use Rattle.gh_tree.specs.declared.names.BlockMark.{BlockMark}
use Rattle.gh_tree.specs.declared.names.FixityWord.{FixityWord}
use Rattle.gh_tree.specs.declared.names.FixityWord.TheVariants as n_FixityWord
use Rattle.gh_tree.specs.declared.names.NextVar.{NextVar}
use Rattle.gh_tree.specs.declared.names.NextOp.{NextOp}
use Rattle.gh_tree.specs.declared.patterns.FunLhs.{FunLhs}
use Rattle.gh_tree.specs.declared.patterns.Pattern.{Pattern}
use Rattle.gh_tree.specs.declared.expressions.Decl.{Decl}
use Rattle.gh_tree.specs.declared.expressions.DeclItem.{DeclItem, roll-DeclItem}
use Rattle.gh_tree.specs.declared.expressions.Decls.{Decls}
use Rattle.gh_tree.specs.declared.expressions.Guard.{Guard}
use Rattle.gh_tree.specs.declared.expressions.Rhs.{Rhs}
use Rattle.gh_tree.specs.declared.expressions.Where.{Where}
use Rattle.gh_tree.specs.declared.expressions.Where.TheVariants as v_Where
use Rattle.gh_tree.specs.Syms.{at}
use Rattle.gh_tree.specs.Print.{Print, print, flat_all, good_all, op_flat, level_flat, is_level}
use Rattle.gh_tree.specs.Print as printed
use Rattle.gh_tree.specs.Read.{taken, kind, expect, covered, comma_next}
use Rattle.gh_tree.specs.ReadNames.{var}
use Rattle.gh_tree.proofs.Steps.{bound, both, and_is, spanned_taken}
use Rattle.gh_tree.proofs.Many.{Taken, AllTaken, many_sound}
use Rattle.gh_tree.proofs.Printed.{printed_decl_signature, printed_decl_fixity, printed_decl_function, printed_decl_pattern, printed_rhs_plain, printed_rhs_guarded, printed_where_absent, printed_where_block, printed_decl_item, printed_decls, printed_guard}
use Rattle.gh_reader.proofs.Sound.{SoundAt, built, only_if, comma_first, between3}
use Rattle.gh_reader.proofs.NamesSound.{var_sound}
use Rattle.gh_parse_lefts.specs.declared.sides.Left.{Left}
use Rattle.gh_parse_lefts.specs.declared.sides.Left.TheVariants as v_Left
use Rattle.gh_parse_lefts.specs.Lefts.{left_print}
use Rattle.gh_parse_exps.specs.Knot.{Knot}
use Rattle.gh_parse_exps.specs.Ops.{defined_op}
use Rattle.gh_parse_exps.specs.Marks.{is_equals, is_bar, is_colons, bar_next, block_open, block_close, semis}
use Rattle.gh_parse_exps.specs.Decls.{fixity_word, fixity_word_by, level, level_by, next_op, next_ops, fixity, next_var, next_vars, signature_next, closed, signature, where_block, where_by, where_part, guard, guards, plain_rhs, guarded_rhs, rhs_by, rhs, sided_by, sided, decl_by, decl, decl_item, decl_items, decls_end, whole_decls}
use Rattle.gh_parse_exps.proofs.SoundMarks.{either, equals_sound, bar_sound, colons_sound, block_open_sound, block_close_sound, semis_sound}
use Rattle.gh_parse_exps.proofs.SoundBlocks.{PartTaken, part_sound, parts_sound, block_flat, block_front}
use Rattle.gh_parse_exps.proofs.SoundOps.{defined_op_sound}
use Rattle.gh_parse_exps.proofs.SoundKnot.{KnotSound, closed_sound}

-- ---- fixities

abbrev word_print : FixityWord → Print
word_print w = print (printed.fixity_word w ∷ []) true

abbrev level_print : Option (Span × ℕ) → Print
level_print l = print (level_flat l) (is_level l)

word_by_sound : (kind : Kind) (span : Span) (ss : List Sym) (x : FixityWord) (rest : List Sym) → fixity_word_by (Some kind) (at kind span ∷ ss) ≡ taken x rest → Taken word_print (at kind span ∷ ss) x rest
word_by_sound k.Infixl a ss x rest e = built word_print (word_print (n_FixityWord.Left a)) _ ss _ x rest refl e refl refl
word_by_sound k.Infixr a ss x rest e = built word_print (word_print (n_FixityWord.Right a)) _ ss _ x rest refl e refl refl
word_by_sound k.Infix a ss x rest e = built word_print (word_print (n_FixityWord.Neither a)) _ ss _ x rest refl e refl refl
word_by_sound _ a ss x rest e = absurd (cc)

word_sound : SoundAt word_print fixity_word
unfolding fixity_word
word_sound [] x rest e = absurd (cc)
word_sound (s ∷ ss) x rest e = word_by_sound s.kind s.span ss x rest e

no_level : (ss : List Sym) (x : Option (Span × ℕ)) (rest : List Sym) → taken None ss ≡ taken x rest → Taken level_print ss x rest
no_level ss x rest e = built level_print (level_print None) ss ss None x rest refl e refl refl

level_by_sound : (kind : Kind) (span : Span) (ss : List Sym) (x : Option (Span × ℕ)) (rest : List Sym) → level_by (Some kind) (at kind span ∷ ss) ≡ taken x rest → Taken level_print (at kind span ∷ ss) x rest
level_by_sound (k.Int n) a ss x rest e =
    let j = only_if (nat_lt n 10) (Some (a, n), ss) (x, rest) e in
    built level_print (level_print (Some (a, n))) (at (k.Int n) a ∷ ss) ss (Some (a, n)) x rest refl j.1 refl j.0
level_by_sound kind a ss x rest e = no_level (at kind a ∷ ss) x rest e

level_sound : SoundAt level_print level
unfolding level
level_sound [] x rest e = no_level [] x rest e
level_sound (s ∷ ss) x rest e = level_by_sound s.kind s.span ss x rest e

next_op_sound : (ss : List Sym) (x : NextOp) (rest : List Sym) → comma_next ss ≡ true → next_op ss ≡ taken x rest → Taken printed.next_op ss x rest
unfolding next_op
next_op_sound [] x rest b e = absurd (cc)
next_op_sound (s ∷ ss) x rest b e =
    let h = bound (defined_op ss) _ x rest e in
    let o = defined_op_sound ss h.x h.mid h.first in
    built printed.next_op (printed.next_op (record { mark = s.span; op = h.x })) (s ∷ ss) h.mid _ x rest refl h.then (comma_first s ss b ∙ ap (λ m. at k.Comma s.span ∷ m) o.flat) o.good

next_ops_sound : (ss : List Sym) (xs : List NextOp) (rest : List Sym) → next_ops ss ≡ taken xs rest → AllTaken printed.next_op ss xs rest
unfolding next_ops
next_ops_sound ss xs rest e = many_sound printed.next_op comma_next next_op next_op_sound (length ss) ss xs rest e

fixity_sound : (ss : List Sym) (x : Decl) (rest : List Sym) → fixity ss ss ≡ taken x rest → Taken printed.decl ss x rest
unfolding fixity
fixity_sound ss x rest e =
    let f = bound (fixity_word ss) _ x rest e in
    let g = bound (level f.mid) _ x rest f.then in
    let h = bound (defined_op g.mid) _ x rest g.then in
    let i = bound (next_ops h.mid) _ x rest h.then in
    let word = word_sound ss f.x f.mid f.first in
    let number = level_sound f.mid g.x g.mid g.first in
    let first = defined_op_sound g.mid h.x h.mid h.first in
    let others = next_ops_sound h.mid i.x i.mid i.first in
    let more : List Sym = flat_all (map printed.next_op i.x) in
    let ops : g.mid ≡ (op_flat h.x ++ more) ++ i.mid = between3 g.mid h.mid (op_flat h.x) more i.mid first.flat others.flat in
    let inside : f.mid ≡ (level_flat g.x ++ (op_flat h.x ++ more)) ++ i.mid = between3 f.mid g.mid (level_flat g.x) (op_flat h.x ++ more) i.mid number.flat ops in
    let flat : ss ≡ printed.fixity_word f.x ∷ ((level_flat g.x ++ (op_flat h.x ++ more)) ++ i.mid) = word.flat ∙ ap (λ us. printed.fixity_word f.x ∷ us) inside in
    built printed.decl _ ss i.mid _ x rest (printed_decl_fixity (covered ss i.mid) f.x g.x h.x i.x) i.then flat (spanned_taken ss i.mid _ _ flat (and_is number.good (and_is first.good others.good)))

-- ---- variables of a signature

next_var_sound : (ss : List Sym) (x : NextVar) (rest : List Sym) → comma_next ss ≡ true → next_var ss ≡ taken x rest → Taken printed.next_var ss x rest
unfolding next_var
next_var_sound [] x rest b e = absurd (cc)
next_var_sound (s ∷ ss) x rest b e =
    let h = bound (var ss) _ x rest e in
    let v = var_sound ss h.x h.mid h.first in
    built printed.next_var (printed.next_var (record { mark = s.span; var = h.x })) (s ∷ ss) h.mid _ x rest refl h.then (comma_first s ss b ∙ ap (λ m. at k.Comma s.span ∷ m) v.flat) v.good

next_vars_sound : (ss : List Sym) (xs : List NextVar) (rest : List Sym) → next_vars ss ≡ taken xs rest → AllTaken printed.next_var ss xs rest
unfolding next_vars
next_vars_sound ss xs rest e = many_sound printed.next_var comma_next next_var next_var_sound (length ss) ss xs rest e

absent_sound : (ss : List Sym) (x : Where) (rest : List Sym) → taken v_Where.Absent ss ≡ taken x rest → Taken printed.where_part ss x rest
absent_sound ss x rest e = built printed.where_part (print [] true) ss ss v_Where.Absent x rest printed_where_absent e refl refl

module _ (K : Knot) (sound : KnotSound K) where
  signature_sound : (ss : List Sym) (x : Decl) (rest : List Sym) → signature K ss ss ≡ taken x rest → Taken printed.decl ss x rest
  unfolding signature
  signature_sound ss x rest e =
      let f = bound (var ss) _ x rest e in
      let g = bound (next_vars f.mid) _ x rest f.then in
      let h = bound (expect is_colons g.mid) _ x rest g.then in
      let i = bound (K.typ h.mid) _ x rest h.then in
      let first = var_sound ss f.x f.mid f.first in
      let others = next_vars_sound f.mid g.x g.mid g.first in
      let mark = colons_sound g.mid h.x h.mid h.first in
      let typ = sound.typ h.mid i.x i.mid i.first in
      let end : List Sym = at k.Colons h.x ∷ (printed.type_expr i.x).flat in
      let more : List Sym = flat_all (map printed.next_var g.x) in
      let last : g.mid ≡ end ++ i.mid = mark ∙ ap (λ us. at k.Colons h.x ∷ us) typ.flat in
      let inside : f.mid ≡ (more ++ end) ++ i.mid = between3 f.mid g.mid more end i.mid others.flat last in
      let flat : ss ≡ (printed.var f.x ++ (more ++ end)) ++ i.mid = between3 ss f.mid (printed.var f.x) (more ++ end) i.mid first.flat inside in
      built printed.decl _ ss i.mid _ x rest (printed_decl_signature (covered ss i.mid) f.x g.x h.x i.x) i.then flat (spanned_taken ss i.mid _ _ flat (and_is first.good (and_is others.good typ.good)))

  -- ---- right sides

  where_block_sound : (a : Span) (ss : List Sym) (x : Where) (rest : List Sym) → where_block K (at k.Where a ∷ ss) ≡ taken x rest → Taken printed.where_part (at k.Where a ∷ ss) x rest
  unfolding where_block
  where_block_sound a ss x rest e =
      let h = bound (K.decls ss) _ x rest e in
      let ds = sound.decls ss h.x h.mid h.first in
      built printed.where_part _ (at k.Where a ∷ ss) h.mid _ x rest (printed_where_block a h.x) h.then (ap (λ us. at k.Where a ∷ us) ds.flat) ds.good

  where_by_sound : (kind : Kind) (span : Span) (ss : List Sym) (x : Where) (rest : List Sym) → where_by K (Some kind) (at kind span ∷ ss) ≡ taken x rest → Taken printed.where_part (at kind span ∷ ss) x rest
  where_by_sound k.Where a ss x rest e = where_block_sound a ss x rest e
  where_by_sound kind a ss x rest e = absent_sound (at kind a ∷ ss) x rest e

  pub where_sound : SoundAt printed.where_part (where_part K)
  unfolding where_part
  where_sound [] x rest e = absent_sound [] x rest e
  where_sound (s ∷ ss) x rest e = where_by_sound s.kind s.span ss x rest e

  guard_sound : SoundAt printed.guard (guard K)
  unfolding guard
  guard_sound ss x rest e =
      let f = bound (expect is_bar ss) _ x rest e in
      let g = bound (closed K f.mid) _ x rest f.then in
      let h = bound (expect is_equals g.mid) _ x rest g.then in
      let i = bound (K.exp h.mid) _ x rest h.then in
      let bar = bar_sound ss f.x f.mid f.first in
      let test = closed_sound K sound f.mid g.x g.mid g.first in
      let mark = equals_sound g.mid h.x h.mid h.first in
      let body = sound.exp h.mid i.x i.mid i.first in
      let end : List Sym = at k.Equals h.x ∷ (printed.exp i.x).flat in
      let last : g.mid ≡ end ++ i.mid = mark ∙ ap (λ us. at k.Equals h.x ∷ us) body.flat in
      let flat : ss ≡ at k.Bar f.x ∷ (((printed.operands g.x).flat ++ end) ++ i.mid) =
      bar ∙ ap (λ us. at k.Bar f.x ∷ us) (between3 f.mid g.mid (printed.operands g.x).flat end i.mid test.flat last) in
      let is = both (printed.operands g.x).good (not (printed.operands g.x).is_open) test.good in
      built printed.guard _ ss i.mid _ x rest (printed_guard (covered ss i.mid) f.x g.x h.x i.x) i.then flat (spanned_taken ss i.mid _ _ flat (and_is is.0 (and_is is.1 body.good)))

  guards_sound : (ss : List Sym) (xs : List Guard) (rest : List Sym) → guards K ss ≡ taken xs rest → AllTaken printed.guard ss xs rest
  unfolding guards
  guards_sound ss xs rest e = many_sound printed.guard bar_next (guard K) (λ ss x rest b e. guard_sound ss x rest e) (length ss) ss xs rest e

  plain_rhs_sound : (a : Span) (ss : List Sym) (x : Rhs) (rest : List Sym) → plain_rhs K (at k.Equals a ∷ ss) (at k.Equals a ∷ ss) ≡ taken x rest → Taken printed.rhs (at k.Equals a ∷ ss) x rest
  unfolding plain_rhs
  plain_rhs_sound a ss x rest e =
      let start : List Sym = at k.Equals a ∷ ss in
      let h = bound (K.exp ss) _ x rest e in
      let i = bound (where_part K h.mid) _ x rest h.then in
      let body = sound.exp ss h.x h.mid h.first in
      let whr = where_sound h.mid i.x i.mid i.first in
      let flat : start ≡ at k.Equals a ∷ (((printed.exp h.x).flat ++ (printed.where_part i.x).flat) ++ i.mid) =
      ap (λ us. at k.Equals a ∷ us) (between3 ss h.mid (printed.exp h.x).flat (printed.where_part i.x).flat i.mid body.flat whr.flat) in
      built printed.rhs _ start i.mid _ x rest (printed_rhs_plain (covered start i.mid) a h.x i.x) i.then flat (spanned_taken start i.mid _ _ flat (and_is body.good whr.good))

  guarded_rhs_sound : (ss : List Sym) (x : Rhs) (rest : List Sym) → guarded_rhs K ss ss ≡ taken x rest → Taken printed.rhs ss x rest
  unfolding guarded_rhs
  guarded_rhs_sound ss x rest e =
      let g = bound (guard K ss) _ x rest e in
      let h = bound (guards K g.mid) _ x rest g.then in
      let i = bound (where_part K h.mid) _ x rest h.then in
      let first = guard_sound ss g.x g.mid g.first in
      let others = guards_sound g.mid h.x h.mid h.first in
      let whr = where_sound h.mid i.x i.mid i.first in
      let more : List Sym = flat_all (map printed.guard h.x) ++ (printed.where_part i.x).flat in
      let inside : g.mid ≡ more ++ i.mid = between3 g.mid h.mid (flat_all (map printed.guard h.x)) (printed.where_part i.x).flat i.mid others.flat whr.flat in
      let flat : ss ≡ ((printed.guard g.x).flat ++ more) ++ i.mid = between3 ss g.mid (printed.guard g.x).flat more i.mid first.flat inside in
      built printed.rhs _ ss i.mid _ x rest (printed_rhs_guarded (covered ss i.mid) g.x h.x i.x) i.then flat (spanned_taken ss i.mid _ _ flat (and_is first.good (and_is others.good whr.good)))

  rhs_by_sound : (kind : Kind) (span : Span) (ss : List Sym) (x : Rhs) (rest : List Sym) → rhs_by K (Some kind) (at kind span ∷ ss) (at kind span ∷ ss) ≡ taken x rest → Taken printed.rhs (at kind span ∷ ss) x rest
  rhs_by_sound k.Equals a ss x rest e = plain_rhs_sound a ss x rest e
  rhs_by_sound kind a ss x rest e = guarded_rhs_sound (at kind a ∷ ss) x rest e

  pub rhs_sound : SoundAt printed.rhs (rhs K)
  unfolding rhs
  rhs_sound [] x rest e = guarded_rhs_sound [] x rest e
  rhs_sound (s ∷ ss) x rest e = rhs_by_sound s.kind s.span ss x rest e

  -- ---- declarations

  function_sound : (us ss : List Sym) (f : FunLhs) (x : Decl) (rest : List Sym) → Taken left_print us (v_Left.Function f) ss → sided_by K (v_Left.Function f) us ss ≡ taken x rest → Taken printed.decl us x rest
  function_sound us ss f x rest before e =
      let h = bound (rhs K ss) _ x rest e in
      let right = rhs_sound ss h.x h.mid h.first in
      let flat : us ≡ ((printed.fun_lhs f).flat ++ (printed.rhs h.x).flat) ++ h.mid = between3 us ss (printed.fun_lhs f).flat (printed.rhs h.x).flat h.mid before.flat right.flat in
      built printed.decl _ us h.mid _ x rest (printed_decl_function (covered us h.mid) f h.x) h.then flat (spanned_taken us h.mid _ _ flat (and_is before.good right.good))

  pattern_decl_sound : (us ss : List Sym) (p : Pattern) (x : Decl) (rest : List Sym) → Taken left_print us (v_Left.Pattern p) ss → sided_by K (v_Left.Pattern p) us ss ≡ taken x rest → Taken printed.decl us x rest
  pattern_decl_sound us ss p x rest before e =
      let h = bound (rhs K ss) _ x rest e in
      let right = rhs_sound ss h.x h.mid h.first in
      let flat : us ≡ ((printed.pattern p).flat ++ (printed.rhs h.x).flat) ++ h.mid = between3 us ss (printed.pattern p).flat (printed.rhs h.x).flat h.mid before.flat right.flat in
      let is = both (printed.pattern p).good (not (printed.pattern p).is_var) before.good in
      built printed.decl _ us h.mid _ x rest (printed_decl_pattern (covered us h.mid) p h.x) h.then flat (spanned_taken us h.mid _ _ flat (and_is is.0 (and_is right.good is.1)))

  sided_by_sound : (us ss : List Sym) (l : Left) (x : Decl) (rest : List Sym) → Taken left_print us l ss → sided_by K l us ss ≡ taken x rest → Taken printed.decl us x rest
  sided_by_sound us ss (v_Left.Function f) x rest before e = function_sound us ss f x rest before e
  sided_by_sound us ss (v_Left.Pattern p) x rest before e = pattern_decl_sound us ss p x rest before e

  sided_sound : (ss : List Sym) (x : Decl) (rest : List Sym) → sided K ss ss ≡ taken x rest → Taken printed.decl ss x rest
  unfolding sided
  sided_sound ss x rest e =
      let h = bound (K.left ss) _ x rest e in
      sided_by_sound ss h.mid h.x x rest (sound.left ss h.x h.mid h.first) h.then

  other_decl_sound : (ss : List Sym) (x : Decl) (rest : List Sym) → cond (signature_next ss) (signature K ss ss) (sided K ss ss) ≡ taken x rest → Taken printed.decl ss x rest
  other_decl_sound ss x rest e = either printed.decl ss x rest (signature_next ss) (signature K ss ss) (sided K ss ss) (λ b. signature_sound ss x rest) (λ b. sided_sound ss x rest) e

  decl_by_sound : (kind : Option Kind) (ss : List Sym) (x : Decl) (rest : List Sym) → decl_by K kind ss ss ≡ taken x rest → Taken printed.decl ss x rest
  decl_by_sound (Some k.Infixl) ss x rest e = fixity_sound ss x rest e
  decl_by_sound (Some k.Infixr) ss x rest e = fixity_sound ss x rest e
  decl_by_sound (Some k.Infix) ss x rest e = fixity_sound ss x rest e
  decl_by_sound _ ss x rest e = other_decl_sound ss x rest e

  pub decl_sound : SoundAt printed.decl (decl K)
  unfolding decl
  decl_sound ss x rest e = decl_by_sound (kind ss) ss x rest e

  -- ---- blocks of declarations

  decl_item_sound : (ss : List Sym) (x : DeclItem) (rest : List Sym) → decl_item K ss ≡ taken x rest → PartTaken printed.decl_item ss x rest
  unfolding decl_item
  decl_item_sound = part_sound printed.decl printed.decl_item (decl K) (λ d ms. roll-DeclItem (record { decl = d; marks = ms })) printed_decl_item decl_sound

  pub decls_end_sound : (start ss : List Sym) (a : BlockMark) (ms : List BlockMark) (x : Decls) (rest : List Sym) → start ≡ printed.block_open a ∷ (map printed.block_semi ms ++ ss) → decls_end K start a ms ss ≡ taken x rest
      → Taken printed.decls start x rest
  unfolding decls_end decl_items
  decls_end_sound start ss a ms x rest before e =
      let h = bound (decl_items K ss) _ x rest e in
      let i = bound (block_close h.mid) _ x rest h.then in
      let ds = parts_sound printed.decl_item (decl_item K) decl_item_sound (length ss) ss h.x h.mid h.first in
      let last = block_close_sound h.mid i.x i.mid i.first in
      let flat = block_flat printed.decl_item start ss h.mid i.mid a ms h.x i.x before ds.parts.flat last in
      built printed.decls _ start i.mid _ x rest (printed_decls (covered start i.mid) a ms h.x i.x) i.then flat (spanned_taken start i.mid _ _ flat (and_is ds.parts.good ds.ends))

  pub whole_decls_sound : SoundAt printed.decls (whole_decls K)
  unfolding whole_decls
  whole_decls_sound ss x rest e =
      let g = bound (block_open ss) _ x rest e in
      let h = bound (semis g.mid) _ x rest g.then in
      let front = block_front ss g.mid h.mid g.x h.x (block_open_sound ss g.x g.mid g.first) (semis_sound g.mid h.x h.mid h.first) in
      decls_end_sound ss h.mid g.x h.x x rest front h.then
