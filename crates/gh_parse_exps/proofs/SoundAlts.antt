-- What is read as alternatives or as local declarations is the print of well-formed ones.
use Rattle.std.proofs.Common.{◌≡◌, not, List, [], ◌∷◌, ◌++◌, length, map, Some, None, refl, ap, ◌∙◌}
use Rattle.gh_base.specs.declared.place.Span.{Span}
use Rattle.gh_tree.specs.declared.symbol.Kind.{Kind}
use Rattle.gh_tree.specs.declared.symbol.Kind.TheVariants as k
use Rattle.gh_tree.specs.declared.symbol.Sym.{Sym}
use Rattle.gh_tree.specs.declared.names.BlockMark.{BlockMark}
use Rattle.gh_tree.specs.declared.names.Name.{Name}
use Rattle.gh_tree.specs.declared.patterns.Pattern.{Pattern}
use Rattle.gh_tree.specs.declared.expressions.Alt.{Alt}
use Rattle.gh_tree.specs.declared.expressions.AltGuard.{AltGuard}
use Rattle.gh_tree.specs.declared.expressions.AltItem.{AltItem, roll-AltItem}
use Rattle.gh_tree.specs.declared.expressions.Alts.{Alts, roll-Alts}
use Rattle.gh_tree.specs.declared.expressions.Locals.{Locals}
use Rattle.gh_tree.specs.declared.expressions.Locals.TheVariants as v_Locals
use Rattle.gh_tree.specs.declared.expressions.RedefItem.{RedefItem, roll-RedefItem}
use Rattle.gh_tree.specs.declared.expressions.Redefs.{Redefs, roll-Redefs}
use Rattle.gh_tree.specs.Syms.{at}
use Rattle.gh_tree.specs.Print.{Print, print, flat_all, is_some, plain}
use Rattle.gh_tree.specs.Print as printed
use Rattle.gh_tree.specs.Read.{and_then, taken, kind, expect, covered, is_arrow}
use Rattle.gh_tree.specs.ReadExports.{any_var}
use Rattle.gh_tree.specs.ReadPatterns.{pattern}
use Rattle.gh_tree.proofs.Steps.{bound, both, and_is, spanned_taken}
use Rattle.gh_tree.proofs.Many.{Taken, AllTaken, many_sound}
use Rattle.gh_tree.proofs.Printed.{printed_alt_plain, printed_alt_guarded, printed_locals_decls, printed_locals_redefs, printed_alt_guard, printed_alt_item, printed_alts, printed_redef, printed_redef_item, printed_redefs}
use Rattle.gh_reader.proofs.Sound.{SoundAt, built, only_if, between3}
use Rattle.gh_parse_patterns.proofs.Sound.{pattern_sound}
use Rattle.gh_parse_heads.proofs.Sound.{any_var_sound}
use Rattle.gh_parse_exps.specs.Knot.{Knot}
use Rattle.gh_parse_exps.specs.Ops.{is_banana, call_next}
use Rattle.gh_parse_exps.specs.Marks.{is_equals, is_bar, is_close_banana, bar_next, block_open, block_close, semis}
use Rattle.gh_parse_exps.specs.Decls.{closed, where_part, decls_end}
use Rattle.gh_parse_exps.specs.Exps.{word, word_by, alt_guard, alt_guards, plain_alt, guarded_alt, alt_by, behind_pattern, alt, alt_item, alt_items, alts_end, alts, redef, redef_item, redef_items, redefs_end, locals}
use Rattle.gh_parse_exps.proofs.SoundMarks.{either, arrow_sound, equals_sound, bar_sound, banana_sound, close_banana_sound, block_open_sound, block_close_sound, semis_sound}
use Rattle.gh_parse_exps.proofs.SoundBlocks.{PartTaken, part_sound, parts_sound, block_flat, block_front, some_parts}
use Rattle.gh_parse_exps.proofs.SoundKnot.{KnotSound, closed_sound}
use Rattle.gh_parse_exps.proofs.SoundDecls.{where_sound, decls_end_sound}

abbrev pub word_print : Name → Print
word_print n = print (printed.var_id n ∷ []) (plain n)

word_by_sound : (kind : Kind) (span : Span) (ss : List Sym) (x : Name) (rest : List Sym) → word_by (Some kind) (at kind span ∷ ss) ≡ taken x rest → Taken word_print (at kind span ∷ ss) x rest
word_by_sound (k.VarId None n) a ss x rest e = built word_print (word_print (record { span = a; qualifier = None; id = n })) _ ss _ x rest refl e refl refl
word_by_sound _ a ss x rest e = absurd (cc)

pub word_sound : SoundAt word_print word
unfolding word
word_sound [] x rest e = absurd (cc)
word_sound (s ∷ ss) x rest e = word_by_sound s.kind s.span ss x rest e

module _ (K : Knot) (sound : KnotSound K) where
  -- ---- alternatives

  alt_guard_sound : SoundAt printed.alt_guard (alt_guard K)
  unfolding alt_guard
  alt_guard_sound ss x rest e =
      let f = bound (expect is_bar ss) _ x rest e in
      let g = bound (closed K f.mid) _ x rest f.then in
      let h = bound (expect is_arrow g.mid) _ x rest g.then in
      let i = bound (K.exp h.mid) _ x rest h.then in
      let bar = bar_sound ss f.x f.mid f.first in
      let test = closed_sound K sound f.mid g.x g.mid g.first in
      let mark = arrow_sound g.mid h.x h.mid h.first in
      let body = sound.exp h.mid i.x i.mid i.first in
      let end : List Sym = at k.Arrow h.x ∷ (printed.exp i.x).flat in
      let last : g.mid ≡ end ++ i.mid = mark ∙ ap (λ us. at k.Arrow h.x ∷ us) body.flat in
      let flat : ss ≡ at k.Bar f.x ∷ (((printed.operands g.x).flat ++ end) ++ i.mid) =
      bar ∙ ap (λ us. at k.Bar f.x ∷ us) (between3 f.mid g.mid (printed.operands g.x).flat end i.mid test.flat last) in
      let is = both (printed.operands g.x).good (not (printed.operands g.x).is_open) test.good in
      built printed.alt_guard _ ss i.mid _ x rest (printed_alt_guard (covered ss i.mid) f.x g.x h.x i.x) i.then flat (spanned_taken ss i.mid _ _ flat (and_is is.0 (and_is is.1 body.good)))

  alt_guards_sound : (ss : List Sym) (xs : List AltGuard) (rest : List Sym) → alt_guards K ss ≡ taken xs rest → AllTaken printed.alt_guard ss xs rest
  unfolding alt_guards
  alt_guards_sound ss xs rest e = many_sound printed.alt_guard bar_next (alt_guard K) (λ ss x rest b e. alt_guard_sound ss x rest e) (length ss) ss xs rest e

  plain_alt_sound : (us : List Sym) (p : Pattern) (a : Span) (ss : List Sym) (x : Alt) (rest : List Sym) → Taken printed.pattern us p (at k.Arrow a ∷ ss) → plain_alt K us p (at k.Arrow a ∷ ss) ≡ taken x rest → Taken printed.alt us x rest
  unfolding plain_alt
  plain_alt_sound us p a ss x rest before e =
      let h = bound (K.exp ss) _ x rest e in
      let i = bound (where_part K h.mid) _ x rest h.then in
      let body = sound.exp ss h.x h.mid h.first in
      let whr = where_sound K sound h.mid i.x i.mid i.first in
      let inside : List Sym = (printed.exp h.x).flat ++ (printed.where_part i.x).flat in
      let right : ss ≡ inside ++ i.mid = between3 ss h.mid (printed.exp h.x).flat (printed.where_part i.x).flat i.mid body.flat whr.flat in
      let flat : us ≡ ((printed.pattern p).flat ++ (at k.Arrow a ∷ inside)) ++ i.mid =
      between3 us (at k.Arrow a ∷ ss) (printed.pattern p).flat (at k.Arrow a ∷ inside) i.mid before.flat (ap (λ ts. at k.Arrow a ∷ ts) right) in
      built printed.alt _ us i.mid _ x rest (printed_alt_plain (covered us i.mid) p a h.x i.x) i.then flat (spanned_taken us i.mid _ _ flat (and_is before.good (and_is body.good whr.good)))

  guarded_alt_sound : (us : List Sym) (p : Pattern) (ss : List Sym) (x : Alt) (rest : List Sym) → Taken printed.pattern us p ss → guarded_alt K us p ss ≡ taken x rest → Taken printed.alt us x rest
  unfolding guarded_alt
  guarded_alt_sound us p ss x rest before e =
      let g = bound (alt_guard K ss) _ x rest e in
      let h = bound (alt_guards K g.mid) _ x rest g.then in
      let i = bound (where_part K h.mid) _ x rest h.then in
      let first = alt_guard_sound ss g.x g.mid g.first in
      let others = alt_guards_sound g.mid h.x h.mid h.first in
      let whr = where_sound K sound h.mid i.x i.mid i.first in
      let more : List Sym = flat_all (map printed.alt_guard h.x) ++ (printed.where_part i.x).flat in
      let inside : List Sym = (printed.alt_guard g.x).flat ++ more in
      let last : g.mid ≡ more ++ i.mid = between3 g.mid h.mid (flat_all (map printed.alt_guard h.x)) (printed.where_part i.x).flat i.mid others.flat whr.flat in
      let right : ss ≡ inside ++ i.mid = between3 ss g.mid (printed.alt_guard g.x).flat more i.mid first.flat last in
      let flat : us ≡ ((printed.pattern p).flat ++ inside) ++ i.mid = between3 us ss (printed.pattern p).flat inside i.mid before.flat right in
      built printed.alt _ us i.mid _ x rest (printed_alt_guarded (covered us i.mid) p g.x h.x i.x) i.then flat
      (spanned_taken us i.mid _ _ flat (and_is before.good (and_is first.good (and_is others.good whr.good))))

  alt_by_sound : (us : List Sym) (p : Pattern) (kind : Kind) (span : Span) (ss : List Sym) (x : Alt) (rest : List Sym) → Taken printed.pattern us p (at kind span ∷ ss) → alt_by K (Some kind) us p (at kind span ∷ ss) ≡ taken x rest
      → Taken printed.alt us x rest
  alt_by_sound us p k.Arrow a ss x rest before e = plain_alt_sound us p a ss x rest before e
  alt_by_sound us p kind a ss x rest before e = guarded_alt_sound us p (at kind a ∷ ss) x rest before e

  behind_pattern_sound : (us : List Sym) (p : Pattern) (ss : List Sym) (x : Alt) (rest : List Sym) → Taken printed.pattern us p ss → behind_pattern K us p ss ≡ taken x rest → Taken printed.alt us x rest
  unfolding behind_pattern
  behind_pattern_sound us p [] x rest before e = guarded_alt_sound us p [] x rest before e
  behind_pattern_sound us p (s ∷ ss) x rest before e = alt_by_sound us p s.kind s.span ss x rest before e

  alt_sound : SoundAt printed.alt (alt K)
  unfolding alt
  alt_sound ss x rest e =
      let h = bound (pattern K.arg ss) _ x rest e in
      behind_pattern_sound ss h.x h.mid x rest (pattern_sound K.arg sound.arg ss h.x h.mid h.first) h.then

  alt_item_sound : (ss : List Sym) (x : AltItem) (rest : List Sym) → alt_item K ss ≡ taken x rest → PartTaken printed.alt_item ss x rest
  unfolding alt_item
  alt_item_sound = part_sound printed.alt printed.alt_item (alt K) (λ x ms. roll-AltItem (record { alt = x; marks = ms })) printed_alt_item alt_sound

  alts_end_sound : (start ss : List Sym) (a : BlockMark) (ms : List BlockMark) (x : Alts) (rest : List Sym) → start ≡ printed.block_open a ∷ (map printed.block_semi ms ++ ss) → alts_end K start a ms ss ≡ taken x rest
      → Taken printed.alts start x rest
  unfolding alts_end alt_items
  alts_end_sound start ss a ms x rest before e =
      let h = bound (alt_items K ss) _ x rest e in
      let i = bound (block_close h.mid) _ x rest h.then in
      let xs = parts_sound printed.alt_item (alt_item K) alt_item_sound (length ss) ss h.x h.mid h.first in
      let last = block_close_sound h.mid i.x i.mid i.first in
      let j = only_if (is_some h.x) (roll-Alts (record { span = covered start i.mid; «open» = a; before = ms; alts = h.x; close = i.x }), i.mid) (x, rest) i.then in
      let flat = block_flat printed.alt_item start ss h.mid i.mid a ms h.x i.x before xs.parts.flat last in
      built printed.alts _ start i.mid _ x rest (printed_alts (covered start i.mid) a ms h.x i.x) j.1 flat
      (and_is (spanned_taken start i.mid _ _ flat (and_is xs.parts.good xs.ends)) (some_parts printed.alt_item h.x j.0))

  pub alts_sound : SoundAt printed.alts (alts K)
  unfolding alts
  alts_sound ss x rest e =
      let g = bound (block_open ss) _ x rest e in
      let h = bound (semis g.mid) _ x rest g.then in
      let front = block_front ss g.mid h.mid g.x h.x (block_open_sound ss g.x g.mid g.first) (semis_sound g.mid h.x h.mid h.first) in
      alts_end_sound ss h.mid g.x h.x x rest front h.then

  -- ---- redefinitions

  redef_sound : SoundAt printed.redef (redef K)
  unfolding redef
  redef_sound ss x rest e =
      let d = bound (any_var ss) _ x rest e in
      let f = bound (expect is_banana d.mid) _ x rest d.then in
      let g = bound (word f.mid) _ x rest f.then in
      let h = bound (expect is_close_banana g.mid) _ x rest g.then in
      let i = bound (expect is_equals h.mid) _ x rest h.then in
      let j = bound (K.exp i.mid) _ x rest i.then in
      let function = any_var_sound ss d.x d.mid d.first in
      let left = banana_sound d.mid f.x f.mid f.first in
      let variable = word_sound f.mid g.x g.mid g.first in
      let right = close_banana_sound g.mid h.x h.mid h.first in
      let equals = equals_sound h.mid i.x i.mid i.first in
      let body = sound.exp i.mid j.x j.mid j.first in
      let end : List Sym = at k.OpenBanana f.x ∷ printed.var_id g.x ∷ at k.CloseBanana h.x ∷ at k.Equals i.x ∷ (printed.exp j.x).flat in
      let tail : g.mid ≡ at k.CloseBanana h.x ∷ at k.Equals i.x ∷ ((printed.exp j.x).flat ++ j.mid) = right ∙ ap (λ us. at k.CloseBanana h.x ∷ us) (equals ∙ ap (λ us. at k.Equals i.x ∷ us) body.flat) in
      let behind : d.mid ≡ end ++ j.mid = left ∙ ap (λ us. at k.OpenBanana f.x ∷ us) (variable.flat ∙ ap (λ us. printed.var_id g.x ∷ us) tail) in
      let flat : ss ≡ (printed.var d.x ++ end) ++ j.mid = between3 ss d.mid (printed.var d.x) end j.mid function.flat behind in
      built printed.redef _ ss j.mid _ x rest (printed_redef (covered ss j.mid) d.x f.x g.x h.x i.x j.x) j.then flat (spanned_taken ss j.mid _ _ flat (and_is variable.good body.good))

  redef_item_sound : (ss : List Sym) (x : RedefItem) (rest : List Sym) → redef_item K ss ≡ taken x rest → PartTaken printed.redef_item ss x rest
  unfolding redef_item
  redef_item_sound = part_sound printed.redef printed.redef_item (redef K) (λ x ms. roll-RedefItem (record { redef = x; marks = ms })) printed_redef_item redef_sound

  redefs_end_sound : (start ss : List Sym) (a : BlockMark) (ms : List BlockMark) (x : Redefs) (rest : List Sym) → start ≡ printed.block_open a ∷ (map printed.block_semi ms ++ ss) → redefs_end K start a ms ss ≡ taken x rest
      → Taken printed.redefs start x rest
  unfolding redefs_end redef_items
  redefs_end_sound start ss a ms x rest before e =
      let h = bound (redef_items K ss) _ x rest e in
      let i = bound (block_close h.mid) _ x rest h.then in
      let xs = parts_sound printed.redef_item (redef_item K) redef_item_sound (length ss) ss h.x h.mid h.first in
      let last = block_close_sound h.mid i.x i.mid i.first in
      let j = only_if (is_some h.x) (roll-Redefs (record { span = covered start i.mid; «open» = a; before = ms; redefs = h.x; close = i.x }), i.mid) (x, rest) i.then in
      let flat = block_flat printed.redef_item start ss h.mid i.mid a ms h.x i.x before xs.parts.flat last in
      built printed.redefs _ start i.mid _ x rest (printed_redefs (covered start i.mid) a ms h.x i.x) j.1 flat
      (and_is (spanned_taken start i.mid _ _ flat (and_is xs.parts.good xs.ends)) (some_parts printed.redef_item h.x j.0))

  -- ---- local declarations

  local_redefs_sound : (start ss : List Sym) (a : BlockMark) (ms : List BlockMark) (x : Locals) (rest : List Sym) → start ≡ printed.block_open a ∷ (map printed.block_semi ms ++ ss)
      → and_then (redefs_end K start a ms ss) (λ rs rest. taken (v_Locals.Redefs rs) rest) ≡ taken x rest → Taken printed.locals start x rest
  local_redefs_sound start ss a ms x rest before e =
      let h = bound (redefs_end K start a ms ss) _ x rest e in
      let rs = redefs_end_sound start ss a ms h.x h.mid before h.first in
      built printed.locals _ start h.mid _ x rest (printed_locals_redefs h.x) h.then rs.flat rs.good

  local_decls_sound : (start ss : List Sym) (a : BlockMark) (ms : List BlockMark) (x : Locals) (rest : List Sym) → start ≡ printed.block_open a ∷ (map printed.block_semi ms ++ ss)
      → and_then (decls_end K start a ms ss) (λ ds rest. taken (v_Locals.Decls ds) rest) ≡ taken x rest → Taken printed.locals start x rest
  local_decls_sound start ss a ms x rest before e =
      let h = bound (decls_end K start a ms ss) _ x rest e in
      let ds = decls_end_sound K sound start ss a ms h.x h.mid before h.first in
      built printed.locals _ start h.mid _ x rest (printed_locals_decls h.x) h.then ds.flat ds.good

  pub locals_sound : SoundAt printed.locals (locals K)
  unfolding locals
  locals_sound ss x rest e =
      let g = bound (block_open ss) _ x rest e in
      let h = bound (semis g.mid) _ x rest g.then in
      let front = block_front ss g.mid h.mid g.x h.x (block_open_sound ss g.x g.mid g.first) (semis_sound g.mid h.x h.mid h.first) in
      either printed.locals ss x rest (call_next h.mid) (and_then (redefs_end K ss g.x h.x h.mid) (λ rs rest. taken (v_Locals.Redefs rs) rest)) (and_then (decls_end K ss g.x h.x h.mid) (λ ds rest. taken (v_Locals.Decls ds) rest))
      (λ b. local_redefs_sound ss h.mid g.x h.x x rest front) (λ b. local_decls_sound ss h.mid g.x h.x x rest front) h.then
