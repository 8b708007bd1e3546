-- What is read as a constructor of a datatype is the print of a well-formed one.
use Rattle.std.proofs.Common.{◌≡◌, true, ◌&&◌, List, [], ◌∷◌, ◌++◌, length, map, Option, Some, None, refl, sym, ap, ◌∙◌}
use Rattle.gh_tree.specs.declared.symbol.Kind.{Kind}
use Rattle.gh_tree.specs.declared.symbol.Kind.TheVariants as k
use Rattle.gh_tree.specs.declared.symbol.Sym.{Sym}
use Rattle.gh_tree.specs.declared.names.Con.{Con}
use Rattle.gh_tree.specs.declared.names.Con.TheVariants as n_Con
use Rattle.gh_tree.specs.declared.types.ArgType.{ArgType, out-ArgType}
use Rattle.gh_tree.specs.declared.types.ArgType.TheOpen.{ArgType-F}
use Rattle.gh_tree.specs.declared.types.BType.{BType, out-BType}
use Rattle.gh_tree.specs.declared.types.TypeExpr.{TypeExpr}
use Rattle.gh_tree.specs.declared.tops.Constr.{Constr}
use Rattle.gh_tree.specs.declared.tops.Constr.TheVariants as v_Constr
use Rattle.gh_tree.specs.declared.tops.NextConstr.{NextConstr}
use Rattle.gh_tree.specs.Syms.{at}
use Rattle.gh_tree.specs.Print.{Print, spanned, flat_all, good_all, plain, plain_con, plain_con_op}
use Rattle.gh_tree.specs.Print as printed
use Rattle.gh_tree.specs.Read.{Read, taken, covered}
use Rattle.gh_tree.specs.ReadNames.{con_op_next, con_op}
use Rattle.gh_tree.specs.ReadExports.{con}
use Rattle.gh_tree.specs.ReadTypes.{arg_types, btype}
use Rattle.gh_tree.proofs.Steps.{bound, both, and_is, spanned_taken}
use Rattle.gh_tree.proofs.Many.{Taken, AllTaken, many_sound}
use Rattle.gh_tree.proofs.CompleteTypes.{Layer, layer}
use Rattle.gh_reader.proofs.Sound.{SoundAt, built, only_if, between3}
use Rattle.gh_reader.proofs.NamesSound.{con_op_sound}
use Rattle.gh_parse_heads.proofs.Sound.{con_sound}
use Rattle.gh_parse_types.proofs.Sound.{args_sound, btype_sound}
use Rattle.gh_parse_exps.specs.Marks.{is_bar, bar_next}
use Rattle.gh_parse_exps.proofs.SoundMarks.{either}
use Rattle.gh_parse_tops.specs.Tops.{symbol_next, fields_by, fields_of, prefix_or, infix_constr, prefix_constr, symbol_constr, other_constr, constr, next_constr, next_constrs}
use Rattle.gh_parse_tops.proofs.Shapes.{arg_at, btype_at}

-- ---- the constructor and the fields that an applied type stands for

pair_or : {A B : Type 0} → A × B → Option (A × B) → A × B
pair_or d (Some p) = p
pair_or d None = d

pair_is : {A B : Type 0} (p q : A × B) → Some p ≡ Some q → (p.0 ≡ q.0) × (p.1 ≡ q.1)
unfolding pair_or
pair_is p q e = (ap (λ o. (pair_or p o).0) e, ap (λ o. (pair_or p o).1) e)

record HeadIs (y : Layer) (args : List ArgType) (c : Con) (ts : List ArgType) : Type 0 where
  flat : (layer y).flat ≡ printed.con c
  good : plain_con c ≡ true
  fields : args ≡ ts

head_is : (y : Layer) (args : List ArgType) (c : Con) (ts : List ArgType) → fields_by y args ≡ Some (c, ts) → HeadIs y args c ts
unfolding layer
head_is (ArgType-F.Con n) args c ts e =
    let h = only_if (plain n) (n_Con.Word n, args) (c, ts) e in
    let i = pair_is (n_Con.Word n, args) (c, ts) h.1 in
    record { flat = ap printed.con i.0; good = sym (ap plain_con i.0) ∙ h.0; fields = i.1 }
head_is _ args c ts e = absurd (cc)

record FieldsAre (x : BType) (c : Con) (ts : List ArgType) : Type 0 where
  flat : (printed.btype x).flat ≡ printed.con c ++ flat_all (map printed.arg_type ts)
  good : (printed.btype x).good ≡ true → (plain_con c && good_all (map printed.arg_type ts)) ≡ true

fields_are : (x : BType) (c : Con) (ts : List ArgType) → fields_of x ≡ Some (c, ts) → FieldsAre x c ts
unfolding fields_of
fields_are x c ts e =
    let y = out-BType x in
    let h = head_is (out-ArgType y.head) y.args c ts e in
    let head = printed.arg_type y.head in
    let args = map printed.arg_type y.args in
    record {
      flat = ap (λ (p : Print). p.flat) (btype_at x) ∙ ap (λ (p : Print). p.flat ++ flat_all args) (arg_at y.head) ∙ ap (λ us. us ++ flat_all args) h.flat ∙ ap (λ (us : List ArgType). printed.con c ++ flat_all (map printed.arg_type us)) h.fields;
      good = λ is.
          let g = both (head.good && good_all args) _ (sym (ap (λ (p : Print). p.good) (btype_at x)) ∙ is) in
          and_is h.good (sym (ap (λ (us : List ArgType). good_all (map printed.arg_type us)) h.fields) ∙ (both head.good (good_all args) g.0).1);
    }

bar_is : (x : Kind) → is_bar (Some x) ≡ true → x ≡ k.Bar
bar_is k.Bar e = refl
bar_is _ e = absurd (cc)

bar_first : (s : Sym) (ss : List Sym) → bar_next (s ∷ ss) ≡ true → s ∷ ss ≡ at k.Bar s.span ∷ ss
bar_first s ss e = let j = bar_is s.kind e in λ t. at (j t) s.span ∷ ss

module _ (T : Read TypeExpr) (sound : SoundAt printed.type_expr T) where
  infix_sound : (us ss : List Sym) (l : BType) (x : Constr) (rest : List Sym) → Taken printed.btype us l ss → infix_constr T us l ss ≡ taken x rest → Taken printed.constr us x rest
  unfolding infix_constr
  infix_sound us ss l x rest before e =
      let h = bound (con_op ss) _ x rest e in
      let i = bound (btype T h.mid) _ x rest h.then in
      let op = con_op_sound ss h.x h.mid h.first in
      let right = btype_sound T sound h.mid i.x i.mid i.first in
      let j = only_if (plain_con_op h.x) (v_Constr.Infix (covered us i.mid) l h.x i.x, i.mid) (x, rest) i.then in
      let more : List Sym = printed.con_op h.x ++ (printed.btype i.x).flat in
      let flat : us ≡ ((printed.btype l).flat ++ more) ++ i.mid = between3 us ss (printed.btype l).flat more i.mid before.flat (between3 ss h.mid (printed.con_op h.x) (printed.btype i.x).flat i.mid op.flat right.flat) in
      built printed.constr (printed.constr (v_Constr.Infix (covered us i.mid) l h.x i.x)) us i.mid _ x rest refl j.1 flat (spanned_taken us i.mid _ _ flat (and_is before.good (and_is j.0 right.good)))

  prefix_by_sound : (us ss : List Sym) (l : BType) (c : Option (Con × List ArgType)) (x : Constr) (rest : List Sym) → Taken printed.btype us l ss → fields_of l ≡ c → prefix_or c (covered us ss) ss ≡ taken x rest → Taken printed.constr us x rest
  prefix_by_sound us ss l None x rest before is e = absurd (cc)
  prefix_by_sound us ss l (Some c) x rest before is e =
      let h = fields_are l c.0 c.1 is in
      let flat : us ≡ (printed.con c.0 ++ flat_all (map printed.arg_type c.1)) ++ ss = before.flat ∙ ap (λ vs. vs ++ ss) h.flat in
      built printed.constr (printed.constr (v_Constr.Prefix (covered us ss) c.0 c.1)) us ss _ x rest refl e flat (spanned_taken us ss _ _ flat (h.good before.good))

  prefix_sound : (us ss : List Sym) (l : BType) (x : Constr) (rest : List Sym) → Taken printed.btype us l ss → prefix_constr T us l ss ≡ taken x rest → Taken printed.constr us x rest
  unfolding prefix_constr
  prefix_sound us ss l x rest before e = prefix_by_sound us ss l (fields_of l) x rest before refl e

  symbol_sound : (ss : List Sym) (x : Constr) (rest : List Sym) → symbol_constr T ss ss ≡ taken x rest → Taken printed.constr ss x rest
  unfolding symbol_constr
  symbol_sound ss x rest e =
      let h = bound (con ss) _ x rest e in
      let i = bound (arg_types T h.mid) _ x rest h.then in
      let name = con_sound ss h.x h.mid h.first in
      let fields = args_sound T sound h.mid i.x i.mid i.first in
      let flat = between3 ss h.mid (printed.con h.x) (flat_all (map printed.arg_type i.x)) i.mid name.flat fields.flat in
      built printed.constr (printed.constr (v_Constr.Prefix (covered ss i.mid) h.x i.x)) ss i.mid _ x rest refl i.then flat (spanned_taken ss i.mid _ _ flat (and_is name.good fields.good))

  other_sound : (ss : List Sym) (x : Constr) (rest : List Sym) → other_constr T ss ss ≡ taken x rest → Taken printed.constr ss x rest
  unfolding other_constr
  other_sound ss x rest e =
      let h = bound (btype T ss) _ x rest e in
      let left = btype_sound T sound ss h.x h.mid h.first in
      either printed.constr ss x rest (con_op_next h.mid) (infix_constr T ss h.x h.mid) (prefix_constr T ss h.x h.mid) (λ b. infix_sound ss h.mid h.x x rest left) (λ b. prefix_sound ss h.mid h.x x rest left) h.then

  pub constr_sound : SoundAt printed.constr (constr T)
  unfolding constr
  constr_sound ss x rest e = either printed.constr ss x rest (symbol_next ss) (symbol_constr T ss ss) (other_constr T ss ss) (λ b. symbol_sound ss x rest) (λ b. other_sound ss x rest) e

  next_constr_sound : (ss : List Sym) (x : NextConstr) (rest : List Sym) → bar_next ss ≡ true → next_constr T ss ≡ taken x rest → Taken printed.next_constr ss x rest
  unfolding next_constr
  next_constr_sound [] x rest b e = absurd (cc)
  next_constr_sound (s ∷ ss) x rest b e =
      let h = bound (constr T ss) _ x rest e in
      let c = constr_sound ss h.x h.mid h.first in
      built printed.next_constr (printed.next_constr (record { mark = s.span; constr = h.x })) (s ∷ ss) h.mid _ x rest refl h.then (bar_first s ss b ∙ ap (λ m. at k.Bar s.span ∷ m) c.flat) c.good

  pub next_constrs_sound : (ss : List Sym) (xs : List NextConstr) (rest : List Sym) → next_constrs T ss ≡ taken xs rest → AllTaken printed.next_constr ss xs rest
  unfolding next_constrs
  next_constrs_sound ss xs rest e = many_sound printed.next_constr bar_next (next_constr T) next_constr_sound (length ss) ss xs rest e
