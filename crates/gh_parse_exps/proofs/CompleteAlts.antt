-- What is printed of well-formed alternatives and local declarations is read, where what stands inside is.
use Rattle.std.proofs.Common.{◌≡◌, ℕ, suc, ◌≤◌, Bool, true, false, not, ◌&&◌, cond, List, [], ◌∷◌, ◌++◌, length, map, Option, Some, None, refl, sym, ap, ◌∙◌, subst, append_assoc, arith, length-append, nat_lt}
use Rattle.std.proofs.lemmas.List.{length-map}
use Rattle.gh_base.specs.declared.names.NameId.{NameId}
use Rattle.gh_base.specs.declared.place.Span.{Span}
use Rattle.gh_tree.specs.declared.symbol.Kind.{Kind}
use Rattle.gh_tree.specs.declared.symbol.Kind.TheVariants as k
use Rattle.gh_tree.specs.declared.symbol.Sym.{Sym}
use Rattle.gh_tree.specs.declared.names.BlockMark.{BlockMark}
use Rattle.gh_tree.specs.declared.names.Name.{Name}
use Rattle.gh_tree.specs.declared.names.Var.{Var}
use Rattle.gh_tree.specs.declared.names.Var.TheVariants as n_Var
use Rattle.gh_tree.specs.declared.patterns.Pattern.{Pattern}
use Rattle.gh_tree.specs.declared.expressions.Alt.{Alt, roll-Alt, out-Alt, roll-out-Alt}
use Rattle.gh_tree.specs.declared.expressions.Alt.TheVariants as v_Alt
use Rattle.gh_tree.specs.declared.expressions.AltGuard.{AltGuard, roll-AltGuard, out-AltGuard, roll-out-AltGuard}
use Rattle.gh_tree.specs.declared.expressions.AltItem.{AltItem, roll-AltItem, out-AltItem, roll-out-AltItem}
use Rattle.gh_tree.specs.declared.expressions.Alts.{Alts, roll-Alts, out-Alts, roll-out-Alts}
use Rattle.gh_tree.specs.declared.expressions.Decls.{Decls, roll-Decls, out-Decls, roll-out-Decls}
use Rattle.gh_tree.specs.declared.expressions.Exp.{Exp}
use Rattle.gh_tree.specs.declared.expressions.Locals.{Locals, roll-Locals, out-Locals, roll-out-Locals}
use Rattle.gh_tree.specs.declared.expressions.Locals.TheVariants as v_Locals
use Rattle.gh_tree.specs.declared.expressions.Redef.{Redef, roll-Redef, out-Redef, roll-out-Redef}
use Rattle.gh_tree.specs.declared.expressions.RedefItem.{RedefItem, roll-RedefItem, out-RedefItem, roll-out-RedefItem}
use Rattle.gh_tree.specs.declared.expressions.Redefs.{Redefs, roll-Redefs, out-Redefs, roll-out-Redefs}
use Rattle.gh_tree.specs.declared.expressions.Where.{Where}
use Rattle.gh_tree.specs.declared.expressions.Aexp.TheOpen.{Alt-F, Locals-F}
use Rattle.gh_tree.specs.Syms.{at}
use Rattle.gh_tree.specs.Print.{Print, spanned, flat_all, good_all, parted, is_some, is_none}
use Rattle.gh_tree.specs.Print as printed
use Rattle.gh_tree.specs.Read.{and_then, taken, kind, after, covered}
use Rattle.gh_tree.specs.ReadNames.{con_op_next, con_op_next_by}
use Rattle.gh_tree.specs.ReadPatterns.{begins_arg_by, is_at, ends_pattern}
use Rattle.gh_tree.proofs.Steps.{chain, both, and_is, not_is, spanned_span}
use Rattle.gh_tree.proofs.Many.{items_complete, Complete, anything}
use Rattle.gh_tree.proofs.CompletePatterns.{pattern_starts, pattern_complete}
use Rattle.gh_parse_exps.specs.Knot.{Knot}
use Rattle.gh_parse_exps.specs.Ops.{is_banana, call_next}
use Rattle.gh_parse_exps.specs.Marks.{is_bar, bar_next, semi_next, semis, part_ends}
use Rattle.gh_parse_exps.specs.Decls.{decls_end}
use Rattle.gh_parse_exps.specs.Exps.{word, alt_guard, alt_guards, plain_alt, guarded_alt, alt_by, behind_pattern, alt, alt_item, alt_items, alts_end, alts, redef, redef_item, redef_items, redefs_end, locals_end, locals}
use Rattle.gh_parse_exps.proofs.Layers.{alt_guard_at, AltLayer, alt_layer, alt_at, alt_item_at, alts_at, redef_at, redef_item_at, redefs_at, LocalsLayer, locals_layer, locals_at, decls_at}
use Rattle.gh_parse_exps.proofs.Ends.{ends_exp, ends_decl, arrow_ends, bar_ends, decl_ends_exp}
use Rattle.gh_parse_exps.proofs.Starts.{some_of}
use Rattle.gh_parse_exps.proofs.CompleteMarks.{begins_item, block_open_complete, block_close_complete, semis_complete, parts_complete, parts_no_semi, block_tail, block_start, block_of}
use Rattle.gh_parse_exps.proofs.CompleteOps.{any_var_complete, any_var_looks, var_behind}
use Rattle.gh_parse_exps.proofs.CompleteDecls.{left_item, closed_complete, where_complete, where_ends_exp, where_no_bar, decls_end_complete, decls_no_semi, decls_no_call}
use Rattle.gh_parse_exps.proofs.Premises.{KnotComplete}

-- ---- what each begins with

alt_guard_starts : (x : AltGuard) (rest : List Sym) → (printed.alt_guard x).good ≡ true → bar_next ((printed.alt_guard x).flat ++ rest) ≡ true
alt_guard_starts x rest good = ap (λ (p : Print). bar_next (p.flat ++ rest)) (alt_guard_at x)

alt_guard_some : (x : AltGuard) → (printed.alt_guard x).good ≡ true → 1 ≤ length (printed.alt_guard x).flat
alt_guard_some x good = some_of bar_next (printed.alt_guard x).flat refl (alt_guard_starts x [] good)

alt_guards_end_exp : (xs : List AltGuard) (rest : List Sym) → good_all (map printed.alt_guard xs) ≡ true → ends_exp rest ≡ true → ends_exp (flat_all (map printed.alt_guard xs) ++ rest) ≡ true
alt_guards_end_exp [] rest good ends = ends
alt_guards_end_exp (x ∷ xs) rest good ends =
    ap ends_exp (append_assoc (printed.alt_guard x).flat (flat_all (map printed.alt_guard xs)) rest)
    ∙ bar_ends _ (alt_guard_starts x (flat_all (map printed.alt_guard xs) ++ rest) (both (printed.alt_guard x).good (good_all (map printed.alt_guard xs)) good).0)

pattern_item : (x : Pattern) (rest : List Sym) → (printed.pattern x).good ≡ true → begins_item ((printed.pattern x).flat ++ rest) ≡ true
pattern_item x rest good = left_item _ (pattern_starts x rest good)

alt_layer_starts : (y : AltLayer) (rest : List Sym) → (alt_layer y).good ≡ true → begins_item ((alt_layer y).flat ++ rest) ≡ true
unfolding alt_layer
alt_layer_starts (Alt-F.Alt::Plain s p a x w) rest good =
    let behind : List Sym = at k.Arrow a ∷ ((printed.exp x).flat ++ (printed.where_part w).flat) in
    let h = both ((printed.pattern p).good && ((printed.exp x).good && (printed.where_part w).good)) _ good in
    let g = both (printed.pattern p).good ((printed.exp x).good && (printed.where_part w).good) h.0 in
    ap begins_item (append_assoc (printed.pattern p).flat behind rest) ∙ pattern_item p (behind ++ rest) g.0
alt_layer_starts (Alt-F.Alt::Guarded s p x xs w) rest good =
    let behind : List Sym = (printed.alt_guard x).flat ++ (flat_all (map printed.alt_guard xs) ++ (printed.where_part w).flat) in
    let behind_good : Bool = (printed.alt_guard x).good && (good_all (map printed.alt_guard xs) && (printed.where_part w).good) in
    let h = both ((printed.pattern p).good && behind_good) _ good in
    let g = both (printed.pattern p).good behind_good h.0 in
    ap begins_item (append_assoc (printed.pattern p).flat behind rest) ∙ pattern_item p (behind ++ rest) g.0

alt_starts : (x : Alt) (rest : List Sym) → (printed.alt x).good ≡ true → begins_item ((printed.alt x).flat ++ rest) ≡ true
alt_starts x rest good =
    ap (λ (p : Print). begins_item (p.flat ++ rest)) (alt_at x) ∙ alt_layer_starts (out-Alt x) rest (sym (ap (λ (p : Print). p.good) (alt_at x)) ∙ good)

var_item : (v : Var) (rest : List Sym) → begins_item (printed.var v ++ rest) ≡ true
var_item (n_Var.Word n) rest = refl
var_item (n_Var.Symbol a n b) rest = refl

abbrev redef_behind : Redef → List Sym
redef_behind x = at k.OpenBanana (out-Redef x).open ∷ printed.var_id (out-Redef x).variable ∷ at k.CloseBanana (out-Redef x).close ∷ at k.Equals (out-Redef x).equals ∷ (printed.exp (out-Redef x).body).flat

redef_starts : (x : Redef) (rest : List Sym) → (printed.redef x).good ≡ true → begins_item ((printed.redef x).flat ++ rest) ≡ true
redef_starts x rest good =
    ap (λ (p : Print). begins_item (p.flat ++ rest)) (redef_at x) ∙ ap begins_item (append_assoc (printed.var (out-Redef x).function) (redef_behind x) rest) ∙ var_item (out-Redef x).function _

var_call : (v : Var) (rest : List Sym) → is_banana (kind rest) ≡ true → call_next (printed.var v ++ rest) ≡ true
unfolding call_next
var_call v rest e = and_is (any_var_looks v rest) (ap is_banana (var_behind v rest) ∙ e)

redef_call : (x : Redef) (rest : List Sym) → call_next ((printed.redef x).flat ++ rest) ≡ true
redef_call x rest =
    ap (λ (p : Print). call_next (p.flat ++ rest)) (redef_at x)
    ∙ ap call_next (append_assoc (printed.var (out-Redef x).function) (redef_behind x) rest)
    ∙ var_call (out-Redef x).function (redef_behind x ++ rest) refl

redefs_call : (xs : List RedefItem) (rest : List Sym) → is_some xs ≡ true → call_next (flat_all (map printed.redef_item xs) ++ rest) ≡ true
redefs_call [] rest some = absurd (cc)
redefs_call (x ∷ xs) rest some =
    let y = out-RedefItem x in
    let tail : List Sym = flat_all (map printed.redef_item xs) ++ rest in
    ap call_next (append_assoc (printed.redef_item x).flat (flat_all (map printed.redef_item xs)) rest)
    ∙ ap (λ (p : Print). call_next (p.flat ++ tail)) (redef_item_at x)
    ∙ ap call_next (append_assoc (printed.redef y.redef).flat (map printed.block_semi y.marks) tail)
    ∙ redef_call y.redef (map printed.block_semi y.marks ++ tail)

-- ---- what can stand behind a pattern

record PatternEnds (first second : Option Kind) : Type 0 where
  name : is_at first ≡ false
  argument : begins_arg_by first ≡ false
  op : con_op_next_by first second ≡ false

bar_stops_pattern : (first second : Option Kind) → is_bar first ≡ true → PatternEnds first second
bar_stops_pattern (Some k.Bar) second e = record { name = refl; argument = refl; op = refl }
bar_stops_pattern _ second e = absurd (cc)

bar_ends_pattern : (ss : List Sym) → bar_next ss ≡ true → ends_pattern ss ≡ true
unfolding con_op_next
bar_ends_pattern ss e =
    let s = bar_stops_pattern (kind ss) (kind (after ss)) e in
    and_is (and_is (ap not s.name) (ap not s.argument)) (ap not s.op)

arrow_ends_pattern : (a : Span) (ss : List Sym) → ends_pattern (at k.Arrow a ∷ ss) ≡ true
unfolding con_op_next
arrow_ends_pattern a ss = refl

-- ---- a variable without a qualifier

word_parts : (span : Span) (q : Option NameId) (n : NameId) (rest : List Sym) → is_none q ≡ true → word (at (k.VarId q n) span ∷ rest) ≡ taken (record { span = span; qualifier = q; id = n }) rest
unfolding word
word_parts span None n rest e = refl
word_parts span (Some m) n rest e = absurd (cc)

pub word_complete : (n : Name) (rest : List Sym) → printed.plain n ≡ true → word (printed.var_id n ∷ rest) ≡ taken n rest
word_complete n rest good = word_parts n.span n.qualifier n.id rest good

-- some parts are as many as their prints
some_parts : {A : Type 0} (xs : List A) (print_of : A → Print) → is_some (map print_of xs) ≡ true → is_some xs ≡ true
some_parts xs print_of some = ap (λ n. nat_lt 0 n) (sym (length-map xs print_of)) ∙ some

module _ (K : Knot) (m : ℕ) (C : KnotComplete K m) where
  -- ---- alternatives

  alt_guard_complete : Complete printed.alt_guard ends_exp (suc m) (alt_guard K)
  unfolding alt_guard
  alt_guard_complete x rest good fits ends =
      let y = out-AltGuard x in
      let e = alt_guard_at x in
      let test = printed.operands y.test in
      let body = printed.exp y.body in
      let inner : List Sym = at k.Arrow y.mark ∷ body.flat in
      let flat : List Sym = at k.Bar y.bar ∷ (test.flat ++ inner) in
      let all_good : Bool = test.good && (not test.is_open && body.good) in
      let good' : (spanned y.span flat all_good).good ≡ true = sym (ap (λ (p : Print). p.good) e) ∙ good in
      let fits' : length flat ≤ suc m = subst (λ (p : Print). length p.flat ≤ suc m) e fits in
      let h = both all_good _ good' in
      let g = both test.good (not test.is_open && body.good) h.0 in
      let gs = both (not test.is_open) body.good g.1 in
      let size = length-append test.flat inner in
      let tail : List Sym = at k.Arrow y.mark ∷ (body.flat ++ rest) in
      let start : List Sym = at k.Bar y.bar ∷ (test.flat ++ tail) in
      let split : flat ++ rest ≡ start = ap (λ us. at k.Bar y.bar ∷ us) (append_assoc test.flat inner rest) in
      let span : covered start rest ≡ y.span = ap (λ us. covered us rest) (sym split) ∙ spanned_span y.span rest flat all_good good' in
      ap (λ (p : Print). alt_guard K (p.flat ++ rest)) e
      ∙ ap (alt_guard K) split
      ∙ chain _ (closed_complete K m C y.test tail g.0 (not_is _ gs.0) (omega (arith, size, fits')) (arrow_ends y.mark (body.flat ++ rest)))
      (chain _ (C.exp y.body rest gs.1 (omega (arith, size, fits')) ends)
      (ap (λ (s : Span). taken (roll-AltGuard (record { span = s; bar = y.bar; test = y.test; mark = y.mark; body = y.body })) rest) span))
      ∙ ap (λ (z : AltGuard). taken z rest) (roll-out-AltGuard x)

  alt_guards_complete : (xs : List AltGuard) (rest : List Sym) → good_all (map printed.alt_guard xs) ≡ true → length (flat_all (map printed.alt_guard xs)) ≤ suc m → ends_exp rest ≡ true → bar_next rest ≡ false
      → alt_guards K (flat_all (map printed.alt_guard xs) ++ rest) ≡ taken xs rest
  unfolding alt_guards
  alt_guards_complete xs rest good fits ends end = items_complete printed.alt_guard bar_next (alt_guard K) refl ends_exp (suc m) alt_guard_starts alt_guard_complete bar_ends xs rest good fits ends end

  plain_alt_complete : (s : Span) (p : Pattern) (a : Span) (x : Exp) (w : Where) (rest : List Sym) → (alt_layer (Alt-F.Alt::Plain s p a x w)).good ≡ true → length (alt_layer (Alt-F.Alt::Plain s p a x w)).flat ≤ suc m → ends_decl rest ≡ true
      → alt K ((alt_layer (Alt-F.Alt::Plain s p a x w)).flat ++ rest) ≡ taken (v_Alt.Plain s p a x w) rest
  unfolding alt behind_pattern plain_alt alt_layer
  plain_alt_complete s p a x w rest good fits ends =
      let head = (printed.pattern p).flat in
      let inside = (printed.exp x).flat in
      let behind = (printed.where_part w).flat in
      let flat : List Sym = head ++ (at k.Arrow a ∷ (inside ++ behind)) in
      let all_good : Bool = (printed.pattern p).good && ((printed.exp x).good && (printed.where_part w).good) in
      let h = both all_good _ good in
      let g = both (printed.pattern p).good ((printed.exp x).good && (printed.where_part w).good) h.0 in
      let gs = both (printed.exp x).good (printed.where_part w).good g.1 in
      let size = length-append head (at k.Arrow a ∷ (inside ++ behind)) in
      let size2 = length-append inside behind in
      let tail : List Sym = at k.Arrow a ∷ (inside ++ (behind ++ rest)) in
      let start : List Sym = head ++ tail in
      let split : flat ++ rest ≡ start = append_assoc head (at k.Arrow a ∷ (inside ++ behind)) rest ∙ ap (λ us. head ++ (at k.Arrow a ∷ us)) (append_assoc inside behind rest) in
      let span : covered start rest ≡ s = ap (λ us. covered us rest) (sym split) ∙ spanned_span s rest flat all_good good in
      ap (alt K) split
      ∙ chain (behind_pattern K start) (pattern_complete m K.arg C.arg p tail g.0 (omega (arith, size, fits)) (arrow_ends_pattern a (inside ++ (behind ++ rest))))
      (chain _ (C.exp x (behind ++ rest) gs.0 (omega (arith, size, size2, fits)) (where_ends_exp w rest ends))
      (chain _ (where_complete K m C w rest gs.1 (omega (arith, size, size2, fits)) ends)
      (ap (λ z. taken (v_Alt.Plain z p a x w) rest) span)))

  behind_guarded : (start : List Sym) (p : Pattern) (ss : List Sym) → bar_next ss ≡ true → behind_pattern K start p ss ≡ guarded_alt K start p ss
  unfolding behind_pattern
  behind_guarded start p ss e = at_kind (kind ss) e
    where
      at_kind : (kind : Option Kind) → is_bar kind ≡ true → alt_by K kind start p ss ≡ guarded_alt K start p ss
      at_kind (Some k.Bar) e = refl
      at_kind _ e = absurd (cc)

  guarded_alt_complete : (s : Span) (p : Pattern) (x : AltGuard) (xs : List AltGuard) (w : Where) (rest : List Sym) → (alt_layer (Alt-F.Alt::Guarded s p x xs w)).good ≡ true
      → length (alt_layer (Alt-F.Alt::Guarded s p x xs w)).flat ≤ suc m → ends_decl rest ≡ true → alt K ((alt_layer (Alt-F.Alt::Guarded s p x xs w)).flat ++ rest) ≡ taken (v_Alt.Guarded s p x xs w) rest
  unfolding alt guarded_alt alt_layer
  guarded_alt_complete s p x xs w rest good fits ends =
      let head = (printed.pattern p).flat in
      let first = (printed.alt_guard x).flat in
      let others = flat_all (map printed.alt_guard xs) in
      let behind = (printed.where_part w).flat in
      let flat : List Sym = head ++ (first ++ (others ++ behind)) in
      let behind_good : Bool = (printed.alt_guard x).good && (good_all (map printed.alt_guard xs) && (printed.where_part w).good) in
      let all_good : Bool = (printed.pattern p).good && behind_good in
      let h = both all_good _ good in
      let g0 = both (printed.pattern p).good behind_good h.0 in
      let g = both (printed.alt_guard x).good (good_all (map printed.alt_guard xs) && (printed.where_part w).good) g0.1 in
      let gs = both (good_all (map printed.alt_guard xs)) (printed.where_part w).good g.1 in
      let size0 = length-append head (first ++ (others ++ behind)) in
      let size = length-append first (others ++ behind) in
      let size2 = length-append others behind in
      let guards : List Sym = others ++ (behind ++ rest) in
      let tail : List Sym = first ++ guards in
      let start : List Sym = head ++ tail in
      let split : flat ++ rest ≡ start =
      append_assoc head (first ++ (others ++ behind)) rest ∙ ap (λ us. head ++ us) (append_assoc first (others ++ behind) rest ∙ ap (λ us. first ++ us) (append_assoc others behind rest)) in
      let span : covered start rest ≡ s = ap (λ us. covered us rest) (sym split) ∙ spanned_span s rest flat all_good good in
      let end = where_ends_exp w rest ends in
      let bar = alt_guard_starts x guards g.0 in
      let some = alt_guard_some x g.0 in
      ap (alt K) split
      ∙ chain (behind_pattern K start) (pattern_complete m K.arg C.arg p tail g0.0 (omega (arith, size0, size, some, fits)) (bar_ends_pattern tail bar))
      (behind_guarded start p tail bar
      ∙ chain _ (alt_guard_complete x guards g.0 (omega (arith, size0, size, fits)) (alt_guards_end_exp xs (behind ++ rest) gs.0 end))
      (chain _ (alt_guards_complete xs (behind ++ rest) gs.0 (omega (arith, size0, size, size2, fits)) end (where_no_bar w rest ends))
      (chain _ (where_complete K m C w rest gs.1 (omega (arith, size0, size, size2, fits)) ends)
      (ap (λ z. taken (v_Alt.Guarded z p x xs w) rest) span))))

  alt_layer_complete : (y : AltLayer) (rest : List Sym) → (alt_layer y).good ≡ true → length (alt_layer y).flat ≤ suc m → ends_decl rest ≡ true → alt K ((alt_layer y).flat ++ rest) ≡ taken (roll-Alt y) rest
  alt_layer_complete (Alt-F.Alt::Plain s p a x w) rest good fits ends = plain_alt_complete s p a x w rest good fits ends ∙ ap (λ (z : Alt). taken z rest) (sym (v_Alt.rolls-Plain s p a x w))
  alt_layer_complete (Alt-F.Alt::Guarded s p x xs w) rest good fits ends = guarded_alt_complete s p x xs w rest good fits ends ∙ ap (λ (z : Alt). taken z rest) (sym (v_Alt.rolls-Guarded s p x xs w))

  alt_complete : Complete printed.alt ends_decl (suc m) (alt K)
  alt_complete x rest good fits ends =
      let e = alt_at x in
      ap (λ (p : Print). alt K (p.flat ++ rest)) e
      ∙ alt_layer_complete (out-Alt x) rest (sym (ap (λ (p : Print). p.good) e) ∙ good) (subst (λ (p : Print). length p.flat ≤ suc m) e fits) ends
      ∙ ap (λ (z : Alt). taken z rest) (roll-out-Alt x)

  alt_item_is : (ss : List Sym) → alt_item K ss ≡ and_then (alt K ss) (λ x us. and_then (semis us) (λ ms vs. part_ends ms (roll-AltItem (record { alt = x; marks = ms })) vs))
  unfolding alt_item
  alt_item_is ss = refl

  alts_end_complete : (start : List Sym) (a : BlockMark) (ms : List BlockMark) (xs : List AltItem) (b : BlockMark) (rest : List Sym) → good_all (map printed.alt_item xs) ≡ true → parted (map printed.alt_item xs) ≡ true → is_some xs ≡ true
      → length (flat_all (map printed.alt_item xs)) ≤ suc m
      → alts_end K start a ms (flat_all (map printed.alt_item xs) ++ (printed.block_close b ∷ rest)) ≡ taken (roll-Alts (record { span = covered start rest; «open» = a; before = ms; alts = xs; close = b })) rest
  unfolding alts_end alt_items
  alts_end_complete start a ms xs b rest good behind some fits =
      chain _ (parts_complete printed.alt printed.alt_item (alt K) (alt_item K) (λ x. (out-AltItem x).alt) (λ x. (out-AltItem x).marks) (λ d ms. roll-AltItem (record { alt = d; marks = ms }))
      alt_item_at roll-out-AltItem alt_item_is (suc m) alt_complete alt_starts xs b rest good behind fits)
      (chain _ (block_close_complete b rest)
      (ap (λ c. cond c (taken (roll-Alts (record { span = covered start rest; «open» = a; before = ms; alts = xs; close = b })) rest) None) some))

  alts_no_semi : (xs : List AltItem) (b : BlockMark) (rest : List Sym) → good_all (map printed.alt_item xs) ≡ true → semi_next (flat_all (map printed.alt_item xs) ++ (printed.block_close b ∷ rest)) ≡ false
  alts_no_semi xs b rest good =
      parts_no_semi printed.alt printed.alt_item (alt K) (alt_item K) (λ x. (out-AltItem x).alt) (λ x. (out-AltItem x).marks) (λ d ms. roll-AltItem (record { alt = d; marks = ms }))
      alt_item_at roll-out-AltItem alt_item_is (suc m) alt_complete alt_starts xs b rest good

  pub alts_complete : Complete printed.alts anything (suc m) (alts K)
  unfolding alts
  alts_complete x rest good fits ends =
      let y = out-Alts x in
      let e = alts_at x in
      let ps = map printed.alt_item y.alts in
      let g = both (printed.block y.span y.open y.before ps y.close).good (is_some ps) (sym (ap (λ (p : Print). p.good) e) ∙ good) in
      let f = block_of y.span y.open y.before ps y.close rest (suc m) g.0 (subst (λ (p : Print). length p.flat ≤ suc m) e fits) in
      let start : List Sym = block_start y.open y.before ps y.close rest in
      let tail : List Sym = block_tail ps y.close rest in
      ap (λ (p : Print). alts K (p.flat ++ rest)) e
      ∙ ap (alts K) f.split
      ∙ chain _ (block_open_complete y.open (map printed.block_semi y.before ++ tail))
      (chain _ (semis_complete y.before tail (alts_no_semi y.alts y.close rest f.parts))
      (alts_end_complete start y.open y.before y.alts y.close rest f.parts f.ended (some_parts y.alts printed.alt_item g.1) f.fits
      ∙ ap (λ (s : Span). taken (roll-Alts (record { span = s; «open» = y.open; before = y.before; alts = y.alts; close = y.close })) rest) f.span))
      ∙ ap (λ (z : Alts). taken z rest) (roll-out-Alts x)

  -- ---- redefinitions

  redef_complete : Complete printed.redef ends_decl (suc m) (redef K)
  unfolding redef
  redef_complete x rest good fits ends =
      let y = out-Redef x in
      let e = redef_at x in
      let body = printed.exp y.body in
      let head = printed.var y.function in
      let behind = redef_behind x in
      let flat : List Sym = head ++ behind in
      let all_good : Bool = printed.plain y.variable && body.good in
      let good' : (spanned y.span flat all_good).good ≡ true = sym (ap (λ (p : Print). p.good) e) ∙ good in
      let fits' : length flat ≤ suc m = subst (λ (p : Print). length p.flat ≤ suc m) e fits in
      let h = both all_good _ good' in
      let g = both (printed.plain y.variable) body.good h.0 in
      let size = length-append head behind in
      let tail : List Sym = behind ++ rest in
      let start : List Sym = head ++ tail in
      let split : flat ++ rest ≡ start = append_assoc head behind rest in
      let span : covered start rest ≡ y.span = ap (λ us. covered us rest) (sym split) ∙ spanned_span y.span rest flat all_good good' in
      ap (λ (p : Print). redef K (p.flat ++ rest)) e
      ∙ ap (redef K) split
      ∙ chain _ (any_var_complete y.function tail)
      (chain _ (word_complete y.variable (at k.CloseBanana y.close ∷ at k.Equals y.equals ∷ (body.flat ++ rest)) g.0)
      (chain _ (C.exp y.body rest g.1 (omega (arith, size, fits')) (decl_ends_exp rest ends))
      (ap (λ (s : Span). taken (roll-Redef (record { span = s; function = y.function; «open» = y.open; variable = y.variable; close = y.close; equals = y.equals; body = y.body })) rest) span)))
      ∙ ap (λ (z : Redef). taken z rest) (roll-out-Redef x)

  redef_item_is : (ss : List Sym) → redef_item K ss ≡ and_then (redef K ss) (λ x us. and_then (semis us) (λ ms vs. part_ends ms (roll-RedefItem (record { redef = x; marks = ms })) vs))
  unfolding redef_item
  redef_item_is ss = refl

  redefs_end_complete : (start : List Sym) (a : BlockMark) (ms : List BlockMark) (xs : List RedefItem) (b : BlockMark) (rest : List Sym) → good_all (map printed.redef_item xs) ≡ true → parted (map printed.redef_item xs) ≡ true → is_some xs ≡ true
      → length (flat_all (map printed.redef_item xs)) ≤ suc m
      → redefs_end K start a ms (flat_all (map printed.redef_item xs) ++ (printed.block_close b ∷ rest)) ≡ taken (roll-Redefs (record { span = covered start rest; «open» = a; before = ms; redefs = xs; close = b })) rest
  unfolding redefs_end redef_items
  redefs_end_complete start a ms xs b rest good behind some fits =
      chain _ (parts_complete printed.redef printed.redef_item (redef K) (redef_item K) (λ x. (out-RedefItem x).redef) (λ x. (out-RedefItem x).marks) (λ d ms. roll-RedefItem (record { redef = d; marks = ms }))
      redef_item_at roll-out-RedefItem redef_item_is (suc m) redef_complete redef_starts xs b rest good behind fits)
      (chain _ (block_close_complete b rest)
      (ap (λ c. cond c (taken (roll-Redefs (record { span = covered start rest; «open» = a; before = ms; redefs = xs; close = b })) rest) None) some))

  redefs_no_semi : (xs : List RedefItem) (b : BlockMark) (rest : List Sym) → good_all (map printed.redef_item xs) ≡ true → semi_next (flat_all (map printed.redef_item xs) ++ (printed.block_close b ∷ rest)) ≡ false
  redefs_no_semi xs b rest good =
      parts_no_semi printed.redef printed.redef_item (redef K) (redef_item K) (λ x. (out-RedefItem x).redef) (λ x. (out-RedefItem x).marks) (λ d ms. roll-RedefItem (record { redef = d; marks = ms }))
      redef_item_at roll-out-RedefItem redef_item_is (suc m) redef_complete redef_starts xs b rest good

  -- ---- local declarations

  call_locals : (start : List Sym) (a : BlockMark) (ms : List BlockMark) (ss : List Sym) → call_next ss ≡ true → locals_end K start a ms ss ≡ and_then (redefs_end K start a ms ss) (λ rs us. taken (v_Locals.Redefs rs) us)
  call_locals start a ms ss is = ap (λ b. cond b (and_then (redefs_end K start a ms ss) (λ rs us. taken (v_Locals.Redefs rs) us)) (and_then (decls_end K start a ms ss) (λ ds us. taken (v_Locals.Decls ds) us))) is

  no_call_locals : (start : List Sym) (a : BlockMark) (ms : List BlockMark) (ss : List Sym) → call_next ss ≡ false → locals_end K start a ms ss ≡ and_then (decls_end K start a ms ss) (λ ds us. taken (v_Locals.Decls ds) us)
  no_call_locals start a ms ss is = ap (λ b. cond b (and_then (redefs_end K start a ms ss) (λ rs us. taken (v_Locals.Redefs rs) us)) (and_then (decls_end K start a ms ss) (λ ds us. taken (v_Locals.Decls ds) us))) is

  redefs_locals : (x : Redefs) (rest : List Sym) → (printed.redefs x).good ≡ true → length (printed.redefs x).flat ≤ suc m → locals K ((printed.redefs x).flat ++ rest) ≡ taken (v_Locals.Redefs x) rest
  unfolding locals
  redefs_locals x rest good fits =
      let y = out-Redefs x in
      let e = redefs_at x in
      let ps = map printed.redef_item y.redefs in
      let g = both (printed.block y.span y.open y.before ps y.close).good (is_some ps) (sym (ap (λ (p : Print). p.good) e) ∙ good) in
      let f = block_of y.span y.open y.before ps y.close rest (suc m) g.0 (subst (λ (p : Print). length p.flat ≤ suc m) e fits) in
      let start : List Sym = block_start y.open y.before ps y.close rest in
      let tail : List Sym = block_tail ps y.close rest in
      let some = some_parts y.redefs printed.redef_item g.1 in
      ap (λ (p : Print). locals K (p.flat ++ rest)) e
      ∙ ap (locals K) f.split
      ∙ chain _ (block_open_complete y.open (map printed.block_semi y.before ++ tail))
      (chain (locals_end K start y.open) (semis_complete y.before tail (redefs_no_semi y.redefs y.close rest f.parts))
      (call_locals start y.open y.before tail (redefs_call y.redefs (printed.block_close y.close ∷ rest) some)
      ∙ chain _ (redefs_end_complete start y.open y.before y.redefs y.close rest f.parts f.ended some f.fits)
      (ap (λ (s : Span). taken (v_Locals.Redefs (roll-Redefs (record { span = s; «open» = y.open; before = y.before; redefs = y.redefs; close = y.close }))) rest) f.span
      ∙ ap (λ (z : Redefs). taken (v_Locals.Redefs z) rest) (roll-out-Redefs x))))

  decls_locals : (x : Decls) (rest : List Sym) → (printed.decls x).good ≡ true → length (printed.decls x).flat ≤ suc m → locals K ((printed.decls x).flat ++ rest) ≡ taken (v_Locals.Decls x) rest
  unfolding locals
  decls_locals x rest good fits =
      let y = out-Decls x in
      let e = decls_at x in
      let ps = map printed.decl_item y.decls in
      let f = block_of y.span y.open y.before ps y.close rest (suc m) (sym (ap (λ (p : Print). p.good) e) ∙ good) (subst (λ (p : Print). length p.flat ≤ suc m) e fits) in
      let start : List Sym = block_start y.open y.before ps y.close rest in
      let tail : List Sym = block_tail ps y.close rest in
      ap (λ (p : Print). locals K (p.flat ++ rest)) e
      ∙ ap (locals K) f.split
      ∙ chain _ (block_open_complete y.open (map printed.block_semi y.before ++ tail))
      (chain (locals_end K start y.open) (semis_complete y.before tail (decls_no_semi K m C y.decls y.close rest f.parts))
      (no_call_locals start y.open y.before tail (decls_no_call y.decls y.close rest f.parts)
      ∙ chain _ (decls_end_complete K m C start y.open y.before y.decls y.close rest f.parts f.ended f.fits)
      (ap (λ (s : Span). taken (v_Locals.Decls (roll-Decls (record { span = s; «open» = y.open; before = y.before; decls = y.decls; close = y.close }))) rest) f.span
      ∙ ap (λ (z : Decls). taken (v_Locals.Decls z) rest) (roll-out-Decls x))))

  locals_layer_complete : (y : LocalsLayer) (rest : List Sym) → (locals_layer y).good ≡ true → length (locals_layer y).flat ≤ suc m → locals K ((locals_layer y).flat ++ rest) ≡ taken (roll-Locals y) rest
  unfolding locals_layer
  locals_layer_complete (Locals-F.Decls x) rest good fits = decls_locals x rest good fits ∙ ap (λ (z : Locals). taken z rest) (sym (v_Locals.rolls-Decls x))
  locals_layer_complete (Locals-F.Redefs x) rest good fits = redefs_locals x rest good fits ∙ ap (λ (z : Locals). taken z rest) (sym (v_Locals.rolls-Redefs x))

  pub locals_complete : Complete printed.locals anything (suc m) (locals K)
  locals_complete x rest good fits ends =
      let e = locals_at x in
      ap (λ (p : Print). locals K (p.flat ++ rest)) e
      ∙ locals_layer_complete (out-Locals x) rest (sym (ap (λ (p : Print). p.good) e) ∙ good) (subst (λ (p : Print). length p.flat ≤ suc m) e fits)
      ∙ ap (λ (z : Locals). taken z rest) (roll-out-Locals x)
