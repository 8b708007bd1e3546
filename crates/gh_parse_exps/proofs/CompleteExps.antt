-- What is printed of a well-formed expression is read, where what stands inside is, whatever follows that does not go on with it.
use Rattle.std.proofs.Common.{◌≡◌, ℕ, suc, ◌≤◌, Bool, true, false, not, ◌&&◌, cond, List, [], ◌∷◌, ◌++◌, length, map, Option, Some, None, refl, sym, ap, ◌∙◌, subst, append_assoc, arith, length-append, nat_lt}
use Rattle.std.proofs.lemmas.List.{length-map}
use Rattle.gh_base.specs.declared.place.Span.{Span}
use Rattle.gh_tree.specs.declared.symbol.Kind.{Kind}
use Rattle.gh_tree.specs.declared.symbol.Kind.TheVariants as k
use Rattle.gh_tree.specs.declared.symbol.Sym.{Sym}
use Rattle.gh_tree.specs.declared.names.GenCon.{GenCon}
use Rattle.gh_tree.specs.declared.names.Op.{Op}
use Rattle.gh_tree.specs.declared.names.Op.TheVariants as n_Op
use Rattle.gh_tree.specs.declared.names.VarOp.TheVariants as n_VarOp
use Rattle.gh_tree.specs.declared.names.ConOp.TheVariants as n_ConOp
use Rattle.gh_tree.specs.declared.names.Var.{Var}
use Rattle.gh_tree.specs.declared.types.TypeExpr.{TypeExpr}
use Rattle.gh_tree.specs.declared.patterns.ArgPattern.{ArgPattern}
use Rattle.gh_tree.specs.declared.expressions.Aexp.{Aexp, roll-Aexp, out-Aexp, roll-out-Aexp}
use Rattle.gh_tree.specs.declared.expressions.Aexp.TheVariants as v_Aexp
use Rattle.gh_tree.specs.declared.expressions.Alts.{Alts}
use Rattle.gh_tree.specs.declared.expressions.Exp.{Exp, roll-Exp, out-Exp, roll-out-Exp}
use Rattle.gh_tree.specs.declared.expressions.Exp.TheVariants as v_Exp
use Rattle.gh_tree.specs.declared.expressions.Locals.{Locals}
use Rattle.gh_tree.specs.declared.expressions.NextOperand.{NextOperand, out-NextOperand, roll-out-NextOperand}
use Rattle.gh_tree.specs.declared.expressions.Open.{Open, roll-Open, out-Open, roll-out-Open}
use Rattle.gh_tree.specs.declared.expressions.Open.TheVariants as v_Open
use Rattle.gh_tree.specs.declared.expressions.Operand.{Operand, roll-Operand, out-Operand, roll-out-Operand}
use Rattle.gh_tree.specs.declared.expressions.Operand.TheVariants as v_Operand
use Rattle.gh_tree.specs.declared.expressions.OperandList.{OperandList, roll-OperandList, out-OperandList, roll-out-OperandList}
use Rattle.gh_tree.specs.declared.expressions.Part.{Part, out-Part, roll-out-Part}
use Rattle.gh_tree.specs.declared.expressions.Aexp.TheOpen.{Aexp-F, Exp-F, Open-F, Operand-F}
use Rattle.gh_tree.specs.Syms.{at}
use Rattle.gh_tree.specs.Print.{Print, spanned, flat_all, good_all, is_tuple, op_flat, minus_flat, closed_before, last_open}
use Rattle.gh_tree.specs.Print as printed
use Rattle.gh_tree.specs.Read.{and_then, taken, kind, covered, is_close, is_comma, comma_next}
use Rattle.gh_tree.specs.ReadNames.{gen_con}
use Rattle.gh_tree.specs.ReadPatterns.{begins_arg, args, ends_arg}
use Rattle.gh_tree.proofs.Steps.{chain, both, and_is, not_is, spanned_span}
use Rattle.gh_tree.proofs.Many.{items_complete, all_complete, AllRead, Complete}
use Rattle.gh_tree.proofs.CompleteNames.{gen_con_complete}
use Rattle.gh_tree.proofs.CompletePatterns.{arg_starts}
use Rattle.gh_parse_lefts.proofs.Begins.{arg_ends_arg, args_end_arg}
use Rattle.gh_parse_exps.specs.Knot.{Knot}
use Rattle.gh_parse_exps.specs.Ops.{is_banana, con_next, any_var_next, goes_on}
use Rattle.gh_parse_exps.specs.Marks.{is_colons}
use Rattle.gh_parse_exps.specs.Decls.{closed_or}
use Rattle.gh_parse_exps.specs.Exps.{begins_aexp, begins_aexp_by, paren, left_section, lambda, let_in, conditional, part, parts, tuple, behind_by, behind, right_section, enclosed, opened, listed, generic, after_var_by, after_var, var_aexp, other_aexp, no_con_aexp, aexp, aexps, apply, case_of, operand_by, operand, next_operand, next_operands, operands, typed, whole_by, behind_operands, whole_exp}
use Rattle.gh_parse_exps.proofs.IsOpen.{open_always, plain_plain}
use Rattle.gh_parse_exps.proofs.Layers.{AexpLayer, aexp_layer, aexp_at, ExpLayer, exp_layer, exp_at, OpenLayer, open_layer, open_at, OperandLayer, operand_layer, operand_at, operands_at, next_operand_at, part_at}
use Rattle.gh_parse_exps.proofs.Ends.{ends_aexp, ends_operand, ends_closed, ends_exp, stops_exp, exp_closed, exp_type, closed_of, op_ends, comma_ends}
use Rattle.gh_parse_exps.proofs.Starts.{some_of, aexp_starts, operand_starts, operands_starts, exp_starts, begins_exp, exp_no_close, exp_is_no_right, exp_is_no_con, exp_is_no_var, list_is_no_con, list_is_no_var, op_right, op_is_no_con, op_is_no_var, op_ends_operand, next_operand_starts, part_starts}
use Rattle.gh_parse_exps.proofs.CompleteOps.{op_complete, minus_complete, any_var_complete, any_var_looks, var_is_no_con, con_looks}
use Rattle.gh_parse_exps.proofs.CompleteDecls.{plain_complete}
use Rattle.gh_parse_exps.proofs.CompleteAlts.{alts_complete, locals_complete}
use Rattle.gh_parse_exps.proofs.Premises.{KnotComplete, ClosedComplete}

-- ---- what can stand behind an argument and an operand

aexp_no_banana_by : (kind : Option Kind) → begins_aexp_by kind ≡ true → is_banana kind ≡ false
aexp_no_banana_by (Some (k.VarId q n)) e = refl
aexp_no_banana_by (Some (k.ConId q n)) e = refl
aexp_no_banana_by (Some (k.Int n)) e = refl
aexp_no_banana_by (Some (k.Char n)) e = refl
aexp_no_banana_by (Some (k.Str cs)) e = refl
aexp_no_banana_by (Some k.Open) e = refl
aexp_no_banana_by (Some k.OpenList) e = refl
aexp_no_banana_by _ e = absurd (cc)

aexp_ends_aexp : (ss : List Sym) → begins_aexp ss ≡ true → ends_aexp ss ≡ true
aexp_ends_aexp ss e = ap not (aexp_no_banana_by (kind ss) e)

aexps_end_aexp : (xs : List Aexp) (rest : List Sym) → ends_aexp rest ≡ true → ends_aexp (flat_all (map printed.aexp xs) ++ rest) ≡ true
aexps_end_aexp [] rest ends = ends
aexps_end_aexp (x ∷ xs) rest ends =
    ap ends_aexp (append_assoc (printed.aexp x).flat (flat_all (map printed.aexp xs)) rest) ∙ aexp_ends_aexp _ (aexp_starts x (flat_all (map printed.aexp xs) ++ rest))

-- what may follow an operand that goes on to the right, or not
record Follows (open_end : Bool) (rest : List Sym) : Type 0 where
  operand : ends_operand rest ≡ true
  whole : open_end ≡ true → ends_exp rest ≡ true

op_no_banana : (o : Op) (ss : List Sym) → is_banana (kind (op_flat o ++ ss)) ≡ false
op_no_banana (n_Op.Var (n_VarOp.Symbol n)) ss = refl
op_no_banana (n_Op.Var (n_VarOp.Quoted a n b)) ss = refl
op_no_banana (n_Op.Con (n_ConOp.Symbol n)) ss = refl
op_no_banana (n_Op.Con (n_ConOp.Colon a)) ss = refl
op_no_banana (n_Op.Con (n_ConOp.Quoted a n b)) ss = refl

-- an operand ends before the next operator, or before what follows the operands
follows_in : (was : Bool) (xs : List NextOperand) (rest : List Sym) → closed_before was (map printed.next_operand xs) ≡ true → Follows (last_open was (map printed.next_operand xs)) rest
    → Follows was (flat_all (map printed.next_operand xs) ++ rest)
follows_in was [] rest closed end = end
follows_in was (x ∷ xs) rest closed end =
    let y = out-NextOperand x in
    let shut = not_is was (both (not was) (closed_before (printed.next_operand x).is_open (map printed.next_operand xs)) closed).0 in
    let tail : List Sym = flat_all (map printed.next_operand xs) ++ rest in
    let behind : List Sym = minus_flat y.minus ++ (printed.operand y.operand).flat in
    let split : flat_all (map printed.next_operand (x ∷ xs)) ++ rest ≡ op_flat y.op ++ (behind ++ tail) =
    append_assoc (printed.next_operand x).flat (flat_all (map printed.next_operand xs)) rest
    ∙ ap (λ (p : Print). p.flat ++ tail) (next_operand_at x)
    ∙ append_assoc (op_flat y.op) behind tail in
    record {
      operand = ap ends_operand split ∙ and_is (ap not (op_ends_operand y.op (behind ++ tail))) (ap not (op_no_banana y.op (behind ++ tail)));
      whole = λ e. absurd (cc (shut, e));
    }

-- a tuple goes on with a comma
next_comma : (xs : List Part) (rest : List Sym) → is_tuple xs ≡ true → comma_next (flat_all (map printed.part xs) ++ rest) ≡ true
next_comma [] rest e = absurd (cc)
next_comma (x ∷ xs) rest e =
    ap comma_next (append_assoc (printed.part x).flat (flat_all (map printed.part xs)) rest) ∙ part_starts x (flat_all (map printed.part xs) ++ rest)

parts_end_exp : (xs : List Part) (rest : List Sym) → ends_exp rest ≡ true → ends_exp (flat_all (map printed.part xs) ++ rest) ≡ true
parts_end_exp [] rest ends = ends
parts_end_exp (x ∷ xs) rest ends =
    ap ends_exp (append_assoc (printed.part x).flat (flat_all (map printed.part xs)) rest) ∙ comma_ends _ (part_starts x (flat_all (map printed.part xs) ++ rest))

module _ (K : Knot) (m : ℕ) (C : KnotComplete K m) where
  -- ---- operands that go on to the right

  pub args_complete : (xs : List ArgPattern) (rest : List Sym) → good_all (map printed.arg_pattern xs) ≡ true → length (flat_all (map printed.arg_pattern xs)) ≤ m → ends_arg rest ≡ true → begins_arg rest ≡ false
      → args K.arg (flat_all (map printed.arg_pattern xs) ++ rest) ≡ taken xs rest
  unfolding args
  args_complete xs rest good fits ends end = items_complete printed.arg_pattern begins_arg K.arg refl ends_arg m arg_starts C.arg arg_ends_arg xs rest good fits ends end

  lambda_complete : (s a : Span) (x : ArgPattern) (xs : List ArgPattern) (b : Span) (e : Exp) (rest : List Sym) → (open_layer (Open-F.Lambda s a x xs b e)).good ≡ true
      → length (open_layer (Open-F.Lambda s a x xs b e)).flat ≤ suc m → ends_exp rest ≡ true
      → lambda K ((open_layer (Open-F.Lambda s a x xs b e)).flat ++ rest) ((open_layer (Open-F.Lambda s a x xs b e)).flat ++ rest) ≡ taken (v_Open.Lambda s a x xs b e) rest
  unfolding lambda open_layer
  lambda_complete s a x xs b e rest good fits ends =
      let first = (printed.arg_pattern x).flat in
      let others = flat_all (map printed.arg_pattern xs) in
      let inside = (printed.exp e).flat in
      let flat : List Sym = at k.Backslash a ∷ (first ++ (others ++ (at k.Arrow b ∷ inside))) in
      let all_good : Bool = (printed.arg_pattern x).good && (good_all (map printed.arg_pattern xs) && (printed.exp e).good) in
      let h = both all_good _ good in
      let g = both (printed.arg_pattern x).good (good_all (map printed.arg_pattern xs) && (printed.exp e).good) h.0 in
      let gs = both (good_all (map printed.arg_pattern xs)) (printed.exp e).good g.1 in
      let size = length-append first (others ++ (at k.Arrow b ∷ inside)) in
      let size2 = length-append others (at k.Arrow b ∷ inside) in
      let arrow : List Sym = at k.Arrow b ∷ (inside ++ rest) in
      let start : List Sym = flat ++ rest in
      let split : start ≡ at k.Backslash a ∷ (first ++ (others ++ arrow)) =
      ap (λ us. at k.Backslash a ∷ us) (append_assoc first (others ++ (at k.Arrow b ∷ inside)) rest ∙ ap (λ us. first ++ us) (append_assoc others (at k.Arrow b ∷ inside) rest)) in
      ap (lambda K start) split
      ∙ chain _ (C.arg x (others ++ arrow) g.0 (omega (arith, size, fits)) (args_end_arg xs arrow gs.0 refl))
      (chain _ (args_complete xs arrow gs.0 (omega (arith, size, size2, fits)) refl refl)
      (chain _ (C.exp e rest gs.1 (omega (arith, size, size2, fits)) ends)
      (ap (λ z. taken (v_Open.Lambda z a x xs b e) rest) (spanned_span s rest flat all_good good))))

  let_complete : (s a : Span) (x : Locals) (b : Span) (e : Exp) (rest : List Sym) → (open_layer (Open-F.Let s a x b e)).good ≡ true → length (open_layer (Open-F.Let s a x b e)).flat ≤ suc m → ends_exp rest ≡ true
      → let_in K ((open_layer (Open-F.Let s a x b e)).flat ++ rest) ((open_layer (Open-F.Let s a x b e)).flat ++ rest) ≡ taken (v_Open.Let s a x b e) rest
  unfolding let_in open_layer
  let_complete s a x b e rest good fits ends =
      let first = (printed.locals x).flat in
      let inside = (printed.exp e).flat in
      let flat : List Sym = at k.Let a ∷ (first ++ (at k.In b ∷ inside)) in
      let all_good : Bool = (printed.locals x).good && (printed.exp e).good in
      let h = both all_good _ good in
      let g = both (printed.locals x).good (printed.exp e).good h.0 in
      let size = length-append first (at k.In b ∷ inside) in
      let start : List Sym = flat ++ rest in
      let split : start ≡ at k.Let a ∷ (first ++ (at k.In b ∷ (inside ++ rest))) = ap (λ us. at k.Let a ∷ us) (append_assoc first (at k.In b ∷ inside) rest) in
      ap (let_in K start) split
      ∙ chain _ (locals_complete K m C x (at k.In b ∷ (inside ++ rest)) g.0 (omega (arith, size, fits)) refl)
      (chain _ (C.exp e rest g.1 (omega (arith, size, fits)) ends)
      (ap (λ z. taken (v_Open.Let z a x b e) rest) (spanned_span s rest flat all_good good)))

  if_complete : (s a : Span) (x : Exp) (b : Span) (y : Exp) (c : Span) (z : Exp) (rest : List Sym) → (open_layer (Open-F.If s a x b y c z)).good ≡ true → length (open_layer (Open-F.If s a x b y c z)).flat ≤ suc m → ends_exp rest ≡ true
      → conditional K ((open_layer (Open-F.If s a x b y c z)).flat ++ rest) ((open_layer (Open-F.If s a x b y c z)).flat ++ rest) ≡ taken (v_Open.If s a x b y c z) rest
  unfolding conditional open_layer
  if_complete s a x b y c z rest good fits ends =
      let test = (printed.exp x).flat in
      let first = (printed.exp y).flat in
      let second = (printed.exp z).flat in
      let flat : List Sym = at k.If a ∷ (test ++ (at k.Then b ∷ (first ++ (at k.Else c ∷ second)))) in
      let all_good : Bool = (printed.exp x).good && ((printed.exp y).good && (printed.exp z).good) in
      let h = both all_good _ good in
      let g = both (printed.exp x).good ((printed.exp y).good && (printed.exp z).good) h.0 in
      let gs = both (printed.exp y).good (printed.exp z).good g.1 in
      let size = length-append test (at k.Then b ∷ (first ++ (at k.Else c ∷ second))) in
      let size2 = length-append first (at k.Else c ∷ second) in
      let start : List Sym = flat ++ rest in
      let tail2 : List Sym = at k.Else c ∷ (second ++ rest) in
      let tail : List Sym = at k.Then b ∷ (first ++ tail2) in
      let split : start ≡ at k.If a ∷ (test ++ tail) =
      ap (λ us. at k.If a ∷ us) (append_assoc test (at k.Then b ∷ (first ++ (at k.Else c ∷ second))) rest ∙ ap (λ us. test ++ (at k.Then b ∷ us)) (append_assoc first (at k.Else c ∷ second) rest)) in
      ap (conditional K start) split
      ∙ chain _ (C.exp x tail g.0 (omega (arith, size, fits)) (stops_exp tail refl))
      (chain _ (C.exp y tail2 gs.0 (omega (arith, size, size2, fits)) (stops_exp tail2 refl))
      (chain _ (C.exp z rest gs.1 (omega (arith, size, size2, fits)) ends)
      (ap (λ t. taken (v_Open.If t a x b y c z) rest) (spanned_span s rest flat all_good good))))

  open_layer_complete : (y : OpenLayer) (rest : List Sym) → (open_layer y).good ≡ true → length (open_layer y).flat ≤ suc m → ends_exp rest ≡ true → operand K ((open_layer y).flat ++ rest) ≡ taken (v_Operand.Open (roll-Open y)) rest
  unfolding operand open_layer
  open_layer_complete (Open-F.Lambda s a x xs b e) rest good fits ends = chain _ (lambda_complete s a x xs b e rest good fits ends) (ap (λ (z : Open). taken (v_Operand.Open z) rest) (sym (v_Open.rolls-Lambda s a x xs b e)))
  open_layer_complete (Open-F.Let s a x b e) rest good fits ends = chain _ (let_complete s a x b e rest good fits ends) (ap (λ (z : Open). taken (v_Operand.Open z) rest) (sym (v_Open.rolls-Let s a x b e)))
  open_layer_complete (Open-F.If s a x b y c z) rest good fits ends = chain _ (if_complete s a x b y c z rest good fits ends) (ap (λ (t : Open). taken (v_Operand.Open t) rest) (sym (v_Open.rolls-If s a x b y c z)))

  open_complete : (x : Open) (rest : List Sym) → (printed.open_operand x).good ≡ true → length (printed.open_operand x).flat ≤ suc m → ends_exp rest ≡ true → operand K ((printed.open_operand x).flat ++ rest) ≡ taken (v_Operand.Open x) rest
  open_complete x rest good fits ends =
      let e = open_at x in
      ap (λ (p : Print). operand K (p.flat ++ rest)) e
      ∙ open_layer_complete (out-Open x) rest (sym (ap (λ (p : Print). p.good) e) ∙ good) (subst (λ (p : Print). length p.flat ≤ suc m) e fits) ends
      ∙ ap (λ (z : Open). taken (v_Operand.Open z) rest) (roll-out-Open x)

  case_complete : (s a : Span) (x : Exp) (b : Span) (y : Alts) (rest : List Sym) → (operand_layer (Operand-F.Case s a x b y)).good ≡ true → length (operand_layer (Operand-F.Case s a x b y)).flat ≤ suc m
      → operand K ((operand_layer (Operand-F.Case s a x b y)).flat ++ rest) ≡ taken (v_Operand.Case s a x b y) rest
  unfolding operand case_of operand_layer
  case_complete s a x b y rest good fits =
      let first = (printed.exp x).flat in
      let inside = (printed.alts y).flat in
      let flat : List Sym = at k.Case a ∷ (first ++ (at k.Of b ∷ inside)) in
      let all_good : Bool = (printed.exp x).good && (printed.alts y).good in
      let h = both all_good _ good in
      let g = both (printed.exp x).good (printed.alts y).good h.0 in
      let size = length-append first (at k.Of b ∷ inside) in
      let tail : List Sym = at k.Of b ∷ (inside ++ rest) in
      let start : List Sym = at k.Case a ∷ (first ++ tail) in
      let split : flat ++ rest ≡ start = ap (λ us. at k.Case a ∷ us) (append_assoc first (at k.Of b ∷ inside) rest) in
      let span : covered start rest ≡ s = ap (λ us. covered us rest) (sym split) ∙ spanned_span s rest flat all_good good in
      ap (operand K) split
      ∙ chain _ (C.exp x tail g.0 (omega (arith, size, fits)) (stops_exp tail refl))
      (chain _ (alts_complete K m C y rest g.1 (omega (arith, size, fits)) refl)
      (ap (λ z. taken (v_Operand.Case z a x b y) rest) span))

  -- ---- arguments: which rule is picked

  aexp_con : (ss : List Sym) → con_next ss ≡ true → aexp K ss ≡ and_then (gen_con ss) (λ c us. taken (v_Aexp.Con c) us)
  unfolding aexp
  aexp_con ss is = ap (λ b. cond b (and_then (gen_con ss) (λ c us. taken (v_Aexp.Con c) us)) (no_con_aexp K ss)) is

  aexp_var : (ss : List Sym) → con_next ss ≡ false → any_var_next ss ≡ true → aexp K ss ≡ var_aexp K ss ss
  unfolding aexp
  aexp_var ss con is =
      ap (λ b. cond b (and_then (gen_con ss) (λ c us. taken (v_Aexp.Con c) us)) (no_con_aexp K ss)) con ∙ ap (λ b. cond b (var_aexp K ss ss) (other_aexp K ss ss)) is

  aexp_other : (ss : List Sym) → con_next ss ≡ false → any_var_next ss ≡ false → aexp K ss ≡ other_aexp K ss ss
  unfolding aexp
  aexp_other ss con is =
      ap (λ b. cond b (and_then (gen_con ss) (λ c us. taken (v_Aexp.Con c) us)) (no_con_aexp K ss)) con ∙ ap (λ b. cond b (var_aexp K ss ss) (other_aexp K ss ss)) is

  opened_exp : (a : Span) (ss : List Sym) → begins_exp ss ≡ true → aexp K (at k.Open a ∷ ss) ≡ and_then (K.exp ss) (behind K (at k.Open a ∷ ss) a)
  unfolding other_aexp opened enclosed
  opened_exp a ss e =
      aexp_other (at k.Open a ∷ ss) (exp_is_no_con a ss e) (exp_is_no_var a ss e)
      ∙ ap (λ b. cond b (right_section K (at k.Open a ∷ ss) a ss) (and_then (K.exp ss) (behind K (at k.Open a ∷ ss) a))) (exp_is_no_right ss e)

  opened_op : (a : Span) (o : Op) (ss : List Sym) → printed.is_minus o ≡ false → is_close (kind ss) ≡ false → aexp K (at k.Open a ∷ (op_flat o ++ ss)) ≡ right_section K (at k.Open a ∷ (op_flat o ++ ss)) a (op_flat o ++ ss)
  unfolding other_aexp opened
  opened_op a o ss minus shut =
      let us : List Sym = op_flat o ++ ss in
      let start : List Sym = at k.Open a ∷ us in
      aexp_other start (op_is_no_con a o ss shut) (op_is_no_var a o ss shut)
      ∙ ap (λ b. cond b (right_section K start a us) (enclosed K start a us)) (op_right o ss minus)

  listed_exp : (a : Span) (ss : List Sym) → begins_exp ss ≡ true → aexp K (at k.OpenList a ∷ ss) ≡ listed K (at k.OpenList a ∷ ss) a ss
  unfolding other_aexp
  listed_exp a ss e = aexp_other (at k.OpenList a ∷ ss) (list_is_no_con a ss e) (list_is_no_var a ss)

  behind_comma : (start : List Sym) (a : Span) (first : Exp) (ss : List Sym) → comma_next ss ≡ true → behind K start a first ss ≡ tuple K start a first ss
  unfolding behind
  behind_comma start a first ss e = at_kind (kind ss) e
    where
      at_kind : (kind : Option Kind) → is_comma kind ≡ true → behind_by K kind start a first ss ≡ tuple K start a first ss
      at_kind (Some k.Comma) e = refl
      at_kind _ e = absurd (cc)

  behind_op : (start : List Sym) (a : Span) (first : Exp) (o : Op) (ss : List Sym) → behind K start a first (op_flat o ++ ss) ≡ left_section start a first (op_flat o ++ ss)
  unfolding behind
  behind_op start a first (n_Op.Var (n_VarOp.Symbol n)) ss = refl
  behind_op start a first (n_Op.Var (n_VarOp.Quoted b n c)) ss = refl
  behind_op start a first (n_Op.Con (n_ConOp.Symbol n)) ss = refl
  behind_op start a first (n_Op.Con (n_ConOp.Colon b)) ss = refl
  behind_op start a first (n_Op.Con (n_ConOp.Quoted b n c)) ss = refl

  -- ---- arguments

  after_var_alone : (start : List Sym) (v : Var) (ss : List Sym) → ends_aexp ss ≡ true → after_var K start v ss ≡ taken (v_Aexp.Var v) ss
  unfolding after_var
  after_var_alone start v ss e = at_kind (kind ss) (not_is (is_banana (kind ss)) e)
    where
      at_kind : (kind : Option Kind) → is_banana kind ≡ false → after_var_by K kind start v ss ≡ taken (v_Aexp.Var v) ss
      at_kind (Some k.OpenBanana) e = absurd (cc)
      at_kind _ e = refl

  var_complete : (v : Var) (rest : List Sym) → ends_aexp rest ≡ true → aexp K (printed.var v ++ rest) ≡ taken (v_Aexp.Var v) rest
  unfolding var_aexp
  var_complete v rest ends =
      aexp_var (printed.var v ++ rest) (var_is_no_con v rest) (any_var_looks v rest)
      ∙ chain _ (any_var_complete v rest) (after_var_alone (printed.var v ++ rest) v rest ends)

  generic_complete : (s : Span) (v : Var) (a : Span) (t : TypeExpr) (b : Span) (rest : List Sym) → (aexp_layer (Aexp-F.Generic s v a t b)).good ≡ true → length (aexp_layer (Aexp-F.Generic s v a t b)).flat ≤ suc m
      → aexp K ((aexp_layer (Aexp-F.Generic s v a t b)).flat ++ rest) ≡ taken (v_Aexp.Generic s v a t b) rest
  unfolding var_aexp after_var generic aexp_layer
  generic_complete s v a t b rest good fits =
      let head = printed.var v in
      let inside = (printed.type_expr t).flat in
      let flat : List Sym = head ++ (at k.OpenBanana a ∷ (inside ++ at k.CloseBanana b ∷ [])) in
      let h = both (printed.type_expr t).good _ good in
      let size = length-append head (at k.OpenBanana a ∷ (inside ++ at k.CloseBanana b ∷ [])) in
      let size2 = length-append inside (at k.CloseBanana b ∷ []) in
      let tail : List Sym = at k.OpenBanana a ∷ (inside ++ (at k.CloseBanana b ∷ rest)) in
      let start : List Sym = head ++ tail in
      let split : flat ++ rest ≡ start =
      append_assoc head (at k.OpenBanana a ∷ (inside ++ at k.CloseBanana b ∷ [])) rest ∙ ap (λ us. head ++ (at k.OpenBanana a ∷ us)) (append_assoc inside (at k.CloseBanana b ∷ []) rest) in
      let span : covered start rest ≡ s = ap (λ us. covered us rest) (sym split) ∙ spanned_span s rest flat (printed.type_expr t).good good in
      ap (aexp K) split
      ∙ aexp_var start (var_is_no_con v tail) (any_var_looks v tail)
      ∙ chain (after_var K start) (any_var_complete v tail)
      (chain _ (C.typ t (at k.CloseBanana b ∷ rest) h.0 (omega (arith, size, size2, fits)) refl)
      (ap (λ z. taken (v_Aexp.Generic z v a t b) rest) span))

  con_complete : (c : GenCon) (rest : List Sym) → (printed.gen_con c).good ≡ true → aexp K ((printed.gen_con c).flat ++ rest) ≡ taken (v_Aexp.Con c) rest
  con_complete c rest good = aexp_con _ (con_looks c rest good) ∙ chain _ (gen_con_complete c rest good) refl

  int_complete : (a : Span) (n : ℕ) (rest : List Sym) → aexp K (at (k.Int n) a ∷ rest) ≡ taken (v_Aexp.Int a n) rest
  unfolding aexp other_aexp con_next any_var_next
  int_complete a n rest = refl

  char_complete : (a : Span) (n : ℕ) (rest : List Sym) → aexp K (at (k.Char n) a ∷ rest) ≡ taken (v_Aexp.Char a n) rest
  unfolding aexp other_aexp con_next any_var_next
  char_complete a n rest = refl

  str_complete : (a : Span) (cs : List ℕ) (rest : List Sym) → aexp K (at (k.Str cs) a ∷ rest) ≡ taken (v_Aexp.Str a cs) rest
  unfolding aexp other_aexp con_next any_var_next
  str_complete a cs rest = refl

  part_complete : Complete printed.part ends_exp (suc m) (part K)
  unfolding part
  part_complete x rest good fits ends =
      let y = out-Part x in
      let e = part_at x in
      let g : (printed.exp y.exp).good ≡ true = sym (ap (λ (p : Print). p.good) e) ∙ good in
      let n : length (printed.part x).flat ≡ suc (length (printed.exp y.exp).flat) = ap (λ (p : Print). length p.flat) e in
      ap (λ (p : Print). part K (p.flat ++ rest)) e
      ∙ chain _ (C.exp y.exp rest g (omega (arith, n, fits)) ends) (ap (λ (z : Part). taken z rest) (roll-out-Part x))

  parts_complete : (xs : List Part) (rest : List Sym) → good_all (map printed.part xs) ≡ true → length (flat_all (map printed.part xs)) ≤ suc m → ends_exp rest ≡ true → comma_next rest ≡ false
      → parts K (flat_all (map printed.part xs) ++ rest) ≡ taken xs rest
  unfolding parts
  parts_complete xs rest good fits ends end = items_complete printed.part comma_next (part K) refl ends_exp (suc m) (λ x us g. part_starts x us) part_complete comma_ends xs rest good fits ends end

  paren_complete : (s a : Span) (x : Exp) (b : Span) (rest : List Sym) → (aexp_layer (Aexp-F.Paren s a x b)).good ≡ true → length (aexp_layer (Aexp-F.Paren s a x b)).flat ≤ suc m
      → aexp K ((aexp_layer (Aexp-F.Paren s a x b)).flat ++ rest) ≡ taken (v_Aexp.Paren s a x b) rest
  unfolding behind paren aexp_layer
  paren_complete s a x b rest good fits =
      let inside = (printed.exp x).flat in
      let flat : List Sym = at k.Open a ∷ (inside ++ at k.Close b ∷ []) in
      let g = both (printed.exp x).good _ good in
      let size = length-append inside (at k.Close b ∷ []) in
      let tail : List Sym = at k.Close b ∷ rest in
      let start : List Sym = at k.Open a ∷ (inside ++ tail) in
      let split : flat ++ rest ≡ start = ap (λ us. at k.Open a ∷ us) (append_assoc inside (at k.Close b ∷ []) rest) in
      let span : covered start rest ≡ s = ap (λ us. covered us rest) (sym split) ∙ spanned_span s rest flat (printed.exp x).good good in
      ap (aexp K) split
      ∙ opened_exp a (inside ++ tail) (exp_starts x tail)
      ∙ chain (behind K start a) (C.exp x tail g.0 (omega (arith, size, fits)) (stops_exp tail refl))
      (ap (λ z. taken (v_Aexp.Paren z a x b) rest) span)

  tuple_all : (start : List Sym) (a : Span) (x : Exp) (xs : List Part) (b : Span) (rest : List Sym) → is_tuple xs ≡ true → good_all (map printed.part xs) ≡ true → length (flat_all (map printed.part xs)) ≤ suc m
      → tuple K start a x (flat_all (map printed.part xs) ++ (at k.Close b ∷ rest)) ≡ taken (v_Aexp.Tuple (covered start rest) a x xs b) rest
  unfolding tuple
  tuple_all start a x xs b rest many good fits =
      chain _ (parts_complete xs (at k.Close b ∷ rest) good fits (stops_exp (at k.Close b ∷ rest) refl) refl)
      (ap (λ c. cond c (taken (v_Aexp.Tuple (covered start rest) a x xs b) rest) None) many)

  tuple_complete : (s a : Span) (x : Exp) (xs : List Part) (b : Span) (rest : List Sym) → (aexp_layer (Aexp-F.Tuple s a x xs b)).good ≡ true → length (aexp_layer (Aexp-F.Tuple s a x xs b)).flat ≤ suc m
      → aexp K ((aexp_layer (Aexp-F.Tuple s a x xs b)).flat ++ rest) ≡ taken (v_Aexp.Tuple s a x xs b) rest
  unfolding aexp_layer
  tuple_complete s a x xs b rest good fits =
      let inside = (printed.exp x).flat in
      let others = flat_all (map printed.part xs) in
      let flat : List Sym = at k.Open a ∷ (inside ++ (others ++ at k.Close b ∷ [])) in
      let all_good : Bool = (printed.exp x).good && (good_all (map printed.part xs) && is_tuple (map printed.part xs)) in
      let h = both all_good _ good in
      let g = both (printed.exp x).good (good_all (map printed.part xs) && is_tuple (map printed.part xs)) h.0 in
      let gs = both (good_all (map printed.part xs)) (is_tuple (map printed.part xs)) g.1 in
      let many : is_tuple xs ≡ true = ap (λ n. nat_lt 0 n && nat_lt n 7) (sym (length-map xs printed.part)) ∙ gs.1 in
      let size = length-append inside (others ++ at k.Close b ∷ []) in
      let size2 = length-append others (at k.Close b ∷ []) in
      let tail : List Sym = others ++ (at k.Close b ∷ rest) in
      let comma = next_comma xs (at k.Close b ∷ rest) many in
      let start : List Sym = at k.Open a ∷ (inside ++ tail) in
      let split : flat ++ rest ≡ start = ap (λ us. at k.Open a ∷ us) (append_assoc inside (others ++ at k.Close b ∷ []) rest ∙ ap (λ us. inside ++ us) (append_assoc others (at k.Close b ∷ []) rest)) in
      let span : covered start rest ≡ s = ap (λ us. covered us rest) (sym split) ∙ spanned_span s rest flat all_good good in
      ap (aexp K) split
      ∙ opened_exp a (inside ++ tail) (exp_starts x tail)
      ∙ chain (behind K start a) (C.exp x tail g.0 (omega (arith, size, fits)) (comma_ends tail comma))
      (behind_comma start a x tail comma ∙ tuple_all start a x xs b rest many gs.0 (omega (arith, size, size2, fits)))
      ∙ ap (λ z. taken (v_Aexp.Tuple z a x xs b) rest) span

  list_complete : (s a : Span) (x : Exp) (xs : List Part) (b : Span) (rest : List Sym) → (aexp_layer (Aexp-F.List s a x xs b)).good ≡ true → length (aexp_layer (Aexp-F.List s a x xs b)).flat ≤ suc m
      → aexp K ((aexp_layer (Aexp-F.List s a x xs b)).flat ++ rest) ≡ taken (v_Aexp.List s a x xs b) rest
  unfolding listed aexp_layer
  list_complete s a x xs b rest good fits =
      let inside = (printed.exp x).flat in
      let others = flat_all (map printed.part xs) in
      let flat : List Sym = at k.OpenList a ∷ (inside ++ (others ++ at k.CloseList b ∷ [])) in
      let all_good : Bool = (printed.exp x).good && good_all (map printed.part xs) in
      let h = both all_good _ good in
      let g = both (printed.exp x).good (good_all (map printed.part xs)) h.0 in
      let size = length-append inside (others ++ at k.CloseList b ∷ []) in
      let size2 = length-append others (at k.CloseList b ∷ []) in
      let close : List Sym = at k.CloseList b ∷ rest in
      let tail : List Sym = others ++ close in
      let start : List Sym = at k.OpenList a ∷ (inside ++ tail) in
      let split : flat ++ rest ≡ start = ap (λ us. at k.OpenList a ∷ us) (append_assoc inside (others ++ at k.CloseList b ∷ []) rest ∙ ap (λ us. inside ++ us) (append_assoc others (at k.CloseList b ∷ []) rest)) in
      let span : covered start rest ≡ s = ap (λ us. covered us rest) (sym split) ∙ spanned_span s rest flat all_good good in
      let ends = stops_exp close refl in
      ap (aexp K) split
      ∙ listed_exp a (inside ++ tail) (exp_starts x tail)
      ∙ chain _ (C.exp x tail g.0 (omega (arith, size, fits)) (parts_end_exp xs close ends))
      (chain _ (parts_complete xs close g.1 (omega (arith, size, size2, fits)) ends refl)
      (ap (λ z. taken (v_Aexp.List z a x xs b) rest) span))

  left_all : (start : List Sym) (a : Span) (xs : OperandList) (o : Op) (b : Span) (rest : List Sym) → (printed.operands xs).is_open ≡ false
      → left_section start a (v_Exp.Plain xs) (op_flat o ++ (at k.Close b ∷ rest)) ≡ taken (v_Aexp.Left (covered start rest) a xs o b) rest
  unfolding left_section
  left_all start a xs o b rest shut =
      let tail : List Sym = op_flat o ++ (at k.Close b ∷ rest) in
      chain _ (ap (λ p. closed_or p tail) (plain_plain xs) ∙ ap (λ c. cond (not c) (taken xs tail) None) shut)
      (chain _ (op_complete o (at k.Close b ∷ rest)) refl)

  left_complete : (s a : Span) (xs : OperandList) (o : Op) (b : Span) (rest : List Sym) → (aexp_layer (Aexp-F.Left s a xs o b)).good ≡ true → length (aexp_layer (Aexp-F.Left s a xs o b)).flat ≤ suc m
      → aexp K ((aexp_layer (Aexp-F.Left s a xs o b)).flat ++ rest) ≡ taken (v_Aexp.Left s a xs o b) rest
  unfolding aexp_layer
  left_complete s a xs o b rest good fits =
      let inside = (printed.operands xs).flat in
      let sign = op_flat o in
      let flat : List Sym = at k.Open a ∷ (inside ++ (sign ++ at k.Close b ∷ [])) in
      let all_good : Bool = (printed.operands xs).good && not (printed.operands xs).is_open in
      let h = both all_good _ good in
      let g = both (printed.operands xs).good (not (printed.operands xs).is_open) h.0 in
      let shut = not_is (printed.operands xs).is_open g.1 in
      let size = length-append inside (sign ++ at k.Close b ∷ []) in
      let size2 = length-append sign (at k.Close b ∷ []) in
      let tail : List Sym = sign ++ (at k.Close b ∷ rest) in
      let start : List Sym = at k.Open a ∷ (inside ++ tail) in
      let split : flat ++ rest ≡ start = ap (λ us. at k.Open a ∷ us) (append_assoc inside (sign ++ at k.Close b ∷ []) rest ∙ ap (λ us. inside ++ us) (append_assoc sign (at k.Close b ∷ []) rest)) in
      let span : covered start rest ≡ s = ap (λ us. covered us rest) (sym split) ∙ spanned_span s rest flat all_good good in
      ap (aexp K) split
      ∙ opened_exp a (inside ++ tail) (operands_starts xs tail)
      ∙ chain (behind K start a) (C.closed xs tail g.0 shut (omega (arith, size, size2, fits)) (exp_closed tail (op_ends o b rest)))
      (behind_op start a (v_Exp.Plain xs) o (at k.Close b ∷ rest) ∙ left_all start a xs o b rest shut)
      ∙ ap (λ z. taken (v_Aexp.Left z a xs o b) rest) span

  right_complete : (s a : Span) (o : Op) (xs : OperandList) (b : Span) (rest : List Sym) → (aexp_layer (Aexp-F.Right s a o xs b)).good ≡ true → length (aexp_layer (Aexp-F.Right s a o xs b)).flat ≤ suc m
      → aexp K ((aexp_layer (Aexp-F.Right s a o xs b)).flat ++ rest) ≡ taken (v_Aexp.Right s a o xs b) rest
  unfolding right_section aexp_layer
  right_complete s a o xs b rest good fits =
      let inside = (printed.operands xs).flat in
      let sign = op_flat o in
      let flat : List Sym = at k.Open a ∷ (sign ++ (inside ++ at k.Close b ∷ [])) in
      let all_good : Bool = (printed.operands xs).good && not (printed.is_minus o) in
      let h = both all_good _ good in
      let g = both (printed.operands xs).good (not (printed.is_minus o)) h.0 in
      let size = length-append sign (inside ++ at k.Close b ∷ []) in
      let size2 = length-append inside (at k.Close b ∷ []) in
      let close : List Sym = at k.Close b ∷ rest in
      let tail : List Sym = inside ++ close in
      let start : List Sym = at k.Open a ∷ (sign ++ tail) in
      let split : flat ++ rest ≡ start = ap (λ us. at k.Open a ∷ us) (append_assoc sign (inside ++ at k.Close b ∷ []) rest ∙ ap (λ us. sign ++ us) (append_assoc inside (at k.Close b ∷ []) rest)) in
      let span : covered start rest ≡ s = ap (λ us. covered us rest) (sym split) ∙ spanned_span s rest flat all_good good in
      ap (aexp K) split
      ∙ opened_op a o tail (not_is (printed.is_minus o) g.1) (exp_no_close tail (operands_starts xs close))
      ∙ chain _ (op_complete o tail)
      (chain _ (plain_complete K m C xs close g.0 (omega (arith, size, size2, fits)) (stops_exp close refl))
      (ap (λ z. taken (v_Aexp.Right z a o xs b) rest) span))

  aexp_layer_complete : (y : AexpLayer) (rest : List Sym) → (aexp_layer y).good ≡ true → length (aexp_layer y).flat ≤ suc m → ends_aexp rest ≡ true → aexp K ((aexp_layer y).flat ++ rest) ≡ taken (roll-Aexp y) rest
  unfolding aexp_layer
  aexp_layer_complete (Aexp-F.Var v) rest good fits ends = var_complete v rest ends ∙ ap (λ (z : Aexp). taken z rest) (sym (v_Aexp.rolls-Var v))
  aexp_layer_complete (Aexp-F.Generic s v a t b) rest good fits ends = generic_complete s v a t b rest good fits ∙ ap (λ (z : Aexp). taken z rest) (sym (v_Aexp.rolls-Generic s v a t b))
  aexp_layer_complete (Aexp-F.Con c) rest good fits ends = con_complete c rest good ∙ ap (λ (z : Aexp). taken z rest) (sym (v_Aexp.rolls-Con c))
  aexp_layer_complete (Aexp-F.Int a n) rest good fits ends = int_complete a n rest ∙ ap (λ (z : Aexp). taken z rest) (sym (v_Aexp.rolls-Int a n))
  aexp_layer_complete (Aexp-F.Char a n) rest good fits ends = char_complete a n rest ∙ ap (λ (z : Aexp). taken z rest) (sym (v_Aexp.rolls-Char a n))
  aexp_layer_complete (Aexp-F.Str a cs) rest good fits ends = str_complete a cs rest ∙ ap (λ (z : Aexp). taken z rest) (sym (v_Aexp.rolls-Str a cs))
  aexp_layer_complete (Aexp-F.Paren s a x b) rest good fits ends = paren_complete s a x b rest good fits ∙ ap (λ (z : Aexp). taken z rest) (sym (v_Aexp.rolls-Paren s a x b))
  aexp_layer_complete (Aexp-F.Tuple s a x xs b) rest good fits ends = tuple_complete s a x xs b rest good fits ∙ ap (λ (z : Aexp). taken z rest) (sym (v_Aexp.rolls-Tuple s a x xs b))
  aexp_layer_complete (Aexp-F.List s a x xs b) rest good fits ends = list_complete s a x xs b rest good fits ∙ ap (λ (z : Aexp). taken z rest) (sym (v_Aexp.rolls-List s a x xs b))
  aexp_layer_complete (Aexp-F.Left s a xs o b) rest good fits ends = left_complete s a xs o b rest good fits ∙ ap (λ (z : Aexp). taken z rest) (sym (v_Aexp.rolls-Left s a xs o b))
  aexp_layer_complete (Aexp-F.Right s a o xs b) rest good fits ends = right_complete s a o xs b rest good fits ∙ ap (λ (z : Aexp). taken z rest) (sym (v_Aexp.rolls-Right s a o xs b))

  pub aexp_complete : Complete printed.aexp ends_aexp (suc m) (aexp K)
  aexp_complete x rest good fits ends =
      let e = aexp_at x in
      ap (λ (p : Print). aexp K (p.flat ++ rest)) e
      ∙ aexp_layer_complete (out-Aexp x) rest (sym (ap (λ (p : Print). p.good) e) ∙ good) (subst (λ (p : Print). length p.flat ≤ suc m) e fits) ends
      ∙ ap (λ (z : Aexp). taken z rest) (roll-out-Aexp x)

  aexps_complete : (xs : List Aexp) (rest : List Sym) → good_all (map printed.aexp xs) ≡ true → length (flat_all (map printed.aexp xs)) ≤ suc m → ends_aexp rest ≡ true → begins_aexp rest ≡ false
      → aexps K (flat_all (map printed.aexp xs) ++ rest) ≡ taken xs rest
  unfolding aexps
  aexps_complete xs rest good fits ends end = items_complete printed.aexp begins_aexp (aexp K) refl ends_aexp (suc m) (λ x us g. aexp_starts x us) aexp_complete aexp_ends_aexp xs rest good fits ends end

  -- ---- operands

  operand_apply : (ss : List Sym) → begins_aexp ss ≡ true → operand K ss ≡ apply K ss ss
  unfolding operand
  operand_apply ss e = at_kind (kind ss) e
    where
      at_kind : (kind : Option Kind) → begins_aexp_by kind ≡ true → operand_by K kind ss ss ≡ apply K ss ss
      at_kind (Some k.Case) e = absurd (cc)
      at_kind (Some k.Backslash) e = absurd (cc)
      at_kind (Some k.Let) e = absurd (cc)
      at_kind (Some k.If) e = absurd (cc)
      at_kind _ e = refl

  apply_complete : (s : Span) (x : Aexp) (xs : List Aexp) (rest : List Sym) → (operand_layer (Operand-F.Apply s x xs)).good ≡ true → length (operand_layer (Operand-F.Apply s x xs)).flat ≤ suc m → ends_operand rest ≡ true
      → operand K ((operand_layer (Operand-F.Apply s x xs)).flat ++ rest) ≡ taken (v_Operand.Apply s x xs) rest
  unfolding apply operand_layer
  apply_complete s x xs rest good fits ends =
      let first = (printed.aexp x).flat in
      let others = flat_all (map printed.aexp xs) in
      let flat : List Sym = first ++ others in
      let all_good : Bool = (printed.aexp x).good && good_all (map printed.aexp xs) in
      let h = both all_good _ good in
      let g = both (printed.aexp x).good (good_all (map printed.aexp xs)) h.0 in
      let size = length-append first others in
      let start : List Sym = first ++ (others ++ rest) in
      let split : flat ++ rest ≡ start = append_assoc first others rest in
      let span : covered start rest ≡ s = ap (λ us. covered us rest) (sym split) ∙ spanned_span s rest flat all_good good in
      let e = both (not (begins_aexp rest)) (not (is_banana (kind rest))) ends in
      ap (operand K) split
      ∙ operand_apply start (aexp_starts x (others ++ rest))
      ∙ chain _ (aexp_complete x (others ++ rest) g.0 (omega (arith, size, fits)) (aexps_end_aexp xs rest e.1))
      (chain _ (aexps_complete xs rest g.1 (omega (arith, size, fits)) e.1 (not_is (begins_aexp rest) e.0))
      (ap (λ z. taken (v_Operand.Apply z x xs) rest) span))

  operand_layer_complete : (y : OperandLayer) (rest : List Sym) → (operand_layer y).good ≡ true → length (operand_layer y).flat ≤ suc m → Follows (operand_layer y).is_open rest → operand K ((operand_layer y).flat ++ rest) ≡ taken (roll-Operand y) rest
  unfolding operand_layer
  operand_layer_complete (Operand-F.Apply s x xs) rest good fits end = apply_complete s x xs rest good fits end.operand ∙ ap (λ (z : Operand). taken z rest) (sym (v_Operand.rolls-Apply s x xs))
  operand_layer_complete (Operand-F.Case s a x b y) rest good fits end = case_complete s a x b y rest good fits ∙ ap (λ (z : Operand). taken z rest) (sym (v_Operand.rolls-Case s a x b y))
  operand_layer_complete (Operand-F.Open x) rest good fits end = open_complete x rest good fits (end.whole (open_always x)) ∙ ap (λ (z : Operand). taken z rest) (sym (v_Operand.rolls-Open x))

  operand_complete : (x : Operand) (rest : List Sym) → (printed.operand x).good ≡ true → length (printed.operand x).flat ≤ suc m → Follows (printed.operand x).is_open rest → operand K ((printed.operand x).flat ++ rest) ≡ taken x rest
  operand_complete x rest good fits end =
      let e = operand_at x in
      ap (λ (p : Print). operand K (p.flat ++ rest)) e
      ∙ operand_layer_complete (out-Operand x) rest (sym (ap (λ (p : Print). p.good) e) ∙ good) (subst (λ (p : Print). length p.flat ≤ suc m) e fits) (subst (λ (p : Print). Follows p.is_open rest) e end)
      ∙ ap (λ (z : Operand). taken z rest) (roll-out-Operand x)

  next_operand_complete : (x : NextOperand) (rest : List Sym) → (printed.next_operand x).good ≡ true → length (printed.next_operand x).flat ≤ suc m → Follows (printed.next_operand x).is_open rest
      → next_operand K ((printed.next_operand x).flat ++ rest) ≡ taken x rest
  unfolding next_operand
  next_operand_complete x rest good fits end =
      let y = out-NextOperand x in
      let e = next_operand_at x in
      let sign = op_flat y.op in
      let minus = minus_flat y.minus in
      let inside = (printed.operand y.operand).flat in
      let fits' : length (sign ++ (minus ++ inside)) ≤ suc m = subst (λ (p : Print). length p.flat ≤ suc m) e fits in
      let size = length-append sign (minus ++ inside) in
      let size2 = length-append minus inside in
      let split : (sign ++ (minus ++ inside)) ++ rest ≡ sign ++ (minus ++ (inside ++ rest)) = append_assoc sign (minus ++ inside) rest ∙ ap (λ us. sign ++ us) (append_assoc minus inside rest) in
      ap (λ (p : Print). next_operand K (p.flat ++ rest)) e
      ∙ ap (next_operand K) split
      ∙ chain _ (op_complete y.op (minus ++ (inside ++ rest)))
      (chain _ (minus_complete y.minus (inside ++ rest) (operand_starts y.operand rest))
      (chain _ (operand_complete y.operand rest (sym (ap (λ (p : Print). p.good) e) ∙ good) (omega (arith, size, size2, fits')) (subst (λ (p : Print). Follows p.is_open rest) e end))
      (ap (λ (z : NextOperand). taken z rest) (roll-out-NextOperand x))))

  nexts_read : (was : Bool) (xs : List NextOperand) (rest : List Sym) → good_all (map printed.next_operand xs) ≡ true → length (flat_all (map printed.next_operand xs)) ≤ suc m → closed_before was (map printed.next_operand xs) ≡ true
      → Follows (last_open was (map printed.next_operand xs)) rest → AllRead printed.next_operand goes_on (next_operand K) xs rest
  nexts_read was [] rest good fits closed end = tt
  nexts_read was (x ∷ xs) rest good fits closed end =
      let g = both (printed.next_operand x).good (good_all (map printed.next_operand xs)) good in
      let c = both (not was) (closed_before (printed.next_operand x).is_open (map printed.next_operand xs)) closed in
      let size = length-append (printed.next_operand x).flat (flat_all (map printed.next_operand xs)) in (
        next_operand_starts x (flat_all (map printed.next_operand xs) ++ rest),
        next_operand_complete x (flat_all (map printed.next_operand xs) ++ rest) g.0 (omega (arith, size, fits)) (follows_in (printed.next_operand x).is_open xs rest c.1 end),
        nexts_read (printed.next_operand x).is_open xs rest g.1 (omega (arith, size, fits)) c.1 end,
      )

  nothing_goes_on : goes_on [] ≡ false
  unfolding goes_on
  nothing_goes_on = refl

  next_operands_complete : (was : Bool) (xs : List NextOperand) (rest : List Sym) → good_all (map printed.next_operand xs) ≡ true → length (flat_all (map printed.next_operand xs)) ≤ suc m → closed_before was (map printed.next_operand xs) ≡ true
      → goes_on rest ≡ false → Follows (last_open was (map printed.next_operand xs)) rest → next_operands K (flat_all (map printed.next_operand xs) ++ rest) ≡ taken xs rest
  unfolding next_operands
  next_operands_complete was xs rest good fits closed stop end =
      all_complete printed.next_operand goes_on (next_operand K) (λ x g. some_of goes_on (printed.next_operand x).flat nothing_goes_on (next_operand_starts x [])) xs rest good (nexts_read was xs rest good fits closed end) stop

  operands_complete : (x : OperandList) (rest : List Sym) → (printed.operands x).good ≡ true → length (printed.operands x).flat ≤ suc m → goes_on rest ≡ false → Follows (printed.operands x).is_open rest
      → operands K ((printed.operands x).flat ++ rest) ≡ taken x rest
  unfolding operands
  operands_complete x rest good fits stop end =
      let y = out-OperandList x in
      let e = operands_at x in
      let first = printed.operand y.first in
      let nexts = map printed.next_operand y.others in
      let minus = minus_flat y.minus in
      let others = flat_all nexts in
      let flat : List Sym = minus ++ (first.flat ++ others) in
      let all_good : Bool = first.good && (good_all nexts && closed_before first.is_open nexts) in
      let good' : (spanned y.span flat all_good).good ≡ true = sym (ap (λ (p : Print). p.good) e) ∙ good in
      let fits' : length flat ≤ suc m = subst (λ (p : Print). length p.flat ≤ suc m) e fits in
      let h = both all_good _ good' in
      let g = both first.good (good_all nexts && closed_before first.is_open nexts) h.0 in
      let gs = both (good_all nexts) (closed_before first.is_open nexts) g.1 in
      let size = length-append minus (first.flat ++ others) in
      let size2 = length-append first.flat others in
      let end' : Follows (last_open first.is_open nexts) rest = subst (λ (p : Print). Follows p.is_open rest) e end in
      let tail : List Sym = others ++ rest in
      let start : List Sym = minus ++ (first.flat ++ tail) in
      let split : flat ++ rest ≡ start = append_assoc minus (first.flat ++ others) rest ∙ ap (λ us. minus ++ us) (append_assoc first.flat others rest) in
      let span : covered start rest ≡ y.span = ap (λ us. covered us rest) (sym split) ∙ spanned_span y.span rest flat all_good good' in
      ap (λ (p : Print). operands K (p.flat ++ rest)) e
      ∙ ap (operands K) split
      ∙ chain _ (minus_complete y.minus (first.flat ++ tail) (operand_starts y.first tail))
      (chain _ (operand_complete y.first tail g.0 (omega (arith, size, size2, fits')) (follows_in first.is_open y.others rest gs.1 end'))
      (chain _ (next_operands_complete first.is_open y.others rest gs.0 (omega (arith, size, size2, fits')) gs.1 stop end')
      (ap (λ c. cond c (taken (roll-OperandList (record { span = covered start rest; minus = y.minus; first = y.first; others = y.others })) rest) None) gs.1
      ∙ ap (λ (s : Span). taken (roll-OperandList (record { span = s; minus = y.minus; first = y.first; others = y.others })) rest) span)))
      ∙ ap (λ (z : OperandList). taken z rest) (roll-out-OperandList x)

  -- ---- expressions

  no_colons : (start : List Sym) (xs : OperandList) (ss : List Sym) → is_colons (kind ss) ≡ false → behind_operands K start xs ss ≡ taken (v_Exp.Plain xs) ss
  unfolding behind_operands
  no_colons start xs ss e = at_kind (kind ss) e
    where
      at_kind : (kind : Option Kind) → is_colons kind ≡ false → whole_by K kind start xs ss ≡ taken (v_Exp.Plain xs) ss
      at_kind (Some k.Colons) e = absurd (cc)
      at_kind _ e = refl

  plain_exp : (xs : OperandList) (rest : List Sym) → (printed.operands xs).good ≡ true → length (printed.operands xs).flat ≤ suc m → ends_closed rest ≡ true → ((printed.operands xs).is_open ≡ true → ends_exp rest ≡ true)
      → whole_exp K ((printed.operands xs).flat ++ rest) ≡ taken (v_Exp.Plain xs) rest
  unfolding whole_exp
  plain_exp xs rest good fits ends whole =
      let c = closed_of rest ends in
      chain _ (operands_complete xs rest good fits c.on (record { operand = c.operand; whole = whole })) (no_colons _ xs rest c.colons)

  typed_exp : (s : Span) (xs : OperandList) (a : Span) (t : TypeExpr) (rest : List Sym) → (exp_layer (Exp-F.Typed s xs a t)).good ≡ true → length (exp_layer (Exp-F.Typed s xs a t)).flat ≤ suc m → ends_exp rest ≡ true
      → whole_exp K ((exp_layer (Exp-F.Typed s xs a t)).flat ++ rest) ≡ taken (v_Exp.Typed s xs a t) rest
  unfolding whole_exp behind_operands typed exp_layer goes_on
  typed_exp s xs a t rest good fits ends =
      let first = (printed.operands xs).flat in
      let inside = (printed.type_expr t).flat in
      let flat : List Sym = first ++ (at k.Colons a ∷ inside) in
      let all_good : Bool = (printed.operands xs).good && (not (printed.operands xs).is_open && (printed.type_expr t).good) in
      let h = both all_good _ good in
      let g = both (printed.operands xs).good (not (printed.operands xs).is_open && (printed.type_expr t).good) h.0 in
      let gs = both (not (printed.operands xs).is_open) (printed.type_expr t).good g.1 in
      let shut = not_is (printed.operands xs).is_open gs.0 in
      let size = length-append first (at k.Colons a ∷ inside) in
      let tail : List Sym = at k.Colons a ∷ (inside ++ rest) in
      let start : List Sym = first ++ tail in
      let split : flat ++ rest ≡ start = append_assoc first (at k.Colons a ∷ inside) rest in
      let span : covered start rest ≡ s = ap (λ us. covered us rest) (sym split) ∙ spanned_span s rest flat all_good good in
      ap (whole_exp K) split
      ∙ chain (behind_operands K start) (operands_complete xs tail g.0 (omega (arith, size, fits)) refl (record { operand = refl; whole = λ e. absurd (cc (shut, e)) }))
      (chain _ (C.typ t rest gs.1 (omega (arith, size, fits)) (exp_type rest ends))
      (ap (λ c. cond c (taken (v_Exp.Typed (covered start rest) xs a t) rest) None) gs.0
      ∙ ap (λ z. taken (v_Exp.Typed z xs a t) rest) span))

  exp_layer_complete : (y : ExpLayer) (rest : List Sym) → (exp_layer y).good ≡ true → length (exp_layer y).flat ≤ suc m → ends_exp rest ≡ true → whole_exp K ((exp_layer y).flat ++ rest) ≡ taken (roll-Exp y) rest
  unfolding exp_layer
  exp_layer_complete (Exp-F.Exp::Plain xs) rest good fits ends = plain_exp xs rest good fits (exp_closed rest ends) (λ e. ends) ∙ ap (λ (z : Exp). taken z rest) (sym (v_Exp.rolls-Plain xs))
  exp_layer_complete (Exp-F.Typed s xs a t) rest good fits ends = typed_exp s xs a t rest good fits ends ∙ ap (λ (z : Exp). taken z rest) (sym (v_Exp.rolls-Typed s xs a t))

  pub whole_exp_complete : Complete printed.exp ends_exp (suc m) (whole_exp K)
  whole_exp_complete x rest good fits ends =
      let e = exp_at x in
      ap (λ (p : Print). whole_exp K (p.flat ++ rest)) e
      ∙ exp_layer_complete (out-Exp x) rest (sym (ap (λ (p : Print). p.good) e) ∙ good) (subst (λ (p : Print). length p.flat ≤ suc m) e fits) ends
      ∙ ap (λ (z : Exp). taken z rest) (roll-out-Exp x)

  pub whole_closed_complete : ClosedComplete (suc m) (whole_exp K)
  whole_closed_complete xs rest good shut fits ends = plain_exp xs rest good fits ends (λ e. absurd (cc (shut, e)))
