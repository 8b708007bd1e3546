-- What is printed of a well-formed left side is read, whatever follows that does not go on with it.
use Rattle.std.proofs.Common.{◌≡◌, ◌⊎◌, inl, inr, ℕ, zero, suc, ◌≤◌, Bool, true, false, not, ◌&&◌, cond, List, [], ◌∷◌, ◌++◌, length, map, Option, Some, None, refl, sym, ap, ◌∙◌, subst, append_assoc, append-nil, arith, length-append, nat_lt}
use Rattle.std.proofs.lemmas.List.{length-map}
use Rattle.gh_base.specs.declared.place.Span.{Span}
use Rattle.gh_tree.specs.declared.symbol.Kind.{Kind}
use Rattle.gh_tree.specs.declared.symbol.Kind.TheVariants as k
use Rattle.gh_tree.specs.declared.symbol.Sym.{Sym}
use Rattle.gh_tree.specs.declared.names.Var.{Var}
use Rattle.gh_tree.specs.declared.names.Var.TheVariants as n_Var
use Rattle.gh_tree.specs.declared.names.VarOp.{VarOp}
use Rattle.gh_tree.specs.declared.names.Con.TheVariants as n_Con
use Rattle.gh_tree.specs.declared.names.GenCon.{GenCon}
use Rattle.gh_tree.specs.declared.names.GenCon.TheVariants as n_GenCon
use Rattle.gh_tree.specs.declared.patterns.ArgPattern.{ArgPattern, roll-ArgPattern, out-ArgPattern, roll-out-ArgPattern}
use Rattle.gh_tree.specs.declared.patterns.ArgPattern.TheVariants as v_ArgPattern
use Rattle.gh_tree.specs.declared.patterns.ArgPattern.TheOpen.{ArgPattern-F, PatOperand-F}
use Rattle.gh_tree.specs.declared.patterns.PatOperand.{PatOperand, roll-PatOperand, out-PatOperand, roll-out-PatOperand}
use Rattle.gh_tree.specs.declared.patterns.PatOperand.TheVariants as v_PatOperand
use Rattle.gh_tree.specs.declared.patterns.NextPattern.{NextPattern}
use Rattle.gh_tree.specs.declared.patterns.PatPart.{PatPart, out-PatPart, roll-out-PatPart}
use Rattle.gh_tree.specs.declared.patterns.Pattern.{Pattern, roll-Pattern, out-Pattern, roll-out-Pattern}
use Rattle.gh_tree.specs.declared.patterns.FunLhs.{FunLhs, roll-FunLhs, out-FunLhs, roll-out-FunLhs}
use Rattle.gh_tree.specs.declared.patterns.FunLhs.TheVariants as v_FunLhs
use Rattle.gh_tree.specs.declared.patterns.FunLhs.TheOpen.{FunLhs-F}
use Rattle.gh_tree.specs.Syms.{at, cover, same_span}
use Rattle.gh_tree.specs.Print.{Print, print, spanned, flat_all, good_all, is_tuple, is_some, plain_var, plain_var_op, plain_nexts}
use Rattle.gh_tree.specs.Print as printed
use Rattle.gh_tree.specs.Read.{Read, ◌>>=◌, taken, next, kind, after, covered, is_open, is_comma, comma_next}
use Rattle.gh_tree.specs.ReadNames.{gen_con_next, var_next, con_op_next}
use Rattle.gh_tree.specs.ReadPatterns.{begins_arg, at_next, args, operand, pat_part, pat_parts, enclosed, as_end, arg, ends_arg, ends_operand, ends_pattern}
use Rattle.gh_tree.proofs.Steps.{chain, both, and_is, not_is, spanned_span}
use Rattle.gh_tree.proofs.Many.{items_complete, Complete, CompleteAll}
use Rattle.gh_tree.proofs.CompleteNames.{var_complete, var_looks, var_is_no_con, gen_con_looks}
use Rattle.gh_tree.proofs.CompletePatterns.{Layer, OperandLayer, layer, operand_layer, arg_starts, pattern_starts, operand_complete, nexts_complete, pattern_complete, arg_complete}
use Rattle.gh_tree.proofs.Printed.{printed_pat_part, printed_pattern, printed_fun_lhs_prefix, printed_fun_lhs_infix, printed_fun_lhs_nested}
use Rattle.gh_parse_lefts.specs.declared.sides.Left.{Left}
use Rattle.gh_parse_lefts.specs.declared.sides.Left.TheVariants as v_Left
use Rattle.gh_parse_lefts.specs.declared.sides.Side.{Side}
use Rattle.gh_parse_lefts.specs.declared.sides.Side.TheVariants as v_Side
use Rattle.gh_parse_lefts.specs.declared.sides.Front.{Front}
use Rattle.gh_parse_lefts.specs.declared.sides.Front.TheVariants as v_Front
use Rattle.gh_parse_lefts.specs.Operators.{var_op_next, var_op_next_by}
use Rattle.gh_parse_lefts.specs.Lefts.{left_print, ends_left, begins_left, begins_rhs, behind_var, follows_var, var_lhs, var_operand, var_pattern, pattern_of, function_of, given, paren_front, patterned, alone, prefix, named, unnamed, behind_name, var_front, operand_front, tuple_front, applied, nested, behind_close, closed, behind_inside, infixed, behind_operands, behind_alone, go, opened, no_var, no_con, front, whole, side, left}
use Rattle.gh_parse_lefts.proofs.OpLaws.{var_op_complete, var_op_looks, var_op_ends}
use Rattle.gh_parse_lefts.proofs.Shapes.{arg_at, operand_at, pattern_good, pattern_is_flat, pattern_is_good, pattern_var_is, operand_shape, var_operand_printed, pattern_shape}
use Rattle.gh_parse_lefts.proofs.Begins.{arg_begins, var_starts, operand_starts, open_is_no_con, open_is_no_var, list_is_no_con, arg_is_no_at, arg_ends_arg, comma_ends_pattern, args_start, args_end_arg, nexts_end_operand, rhs_follows, var_op_follows, nexts_follow, args_follow}

never : {X : Type 0} → true ≡ false → X
never e = absurd (cc)

-- ---- left sides of functions, level by level

abbrev pub LhsLayer : Type 0
LhsLayer = FunLhs-F FunLhs

unfoldable pub lhs_layer : LhsLayer → Print
lhs_layer (FunLhs-F.Prefix s v xs) = spanned s (printed.var v ++ flat_all (map printed.arg_pattern xs)) (plain_var v && good_all (map printed.arg_pattern xs))
lhs_layer (FunLhs-F.Infix s x xs o y ys) = spanned s ((printed.pat_operand x).flat ++ (flat_all (map printed.next_pattern xs) ++ (printed.var_op o ++ ((printed.pat_operand y).flat ++ flat_all (map printed.next_pattern ys))))) ((printed.pat_operand x).good && (good_all (map printed.next_pattern xs) && (plain_var_op o && ((printed.pat_operand y).good && (good_all (map printed.next_pattern ys) && (plain_nexts xs && plain_nexts ys))))))
lhs_layer (FunLhs-F.Nested s a f b y ys) = spanned s (at k.Open a ∷ ((printed.fun_lhs f).flat ++ (at k.Close b ∷ ((printed.arg_pattern y).flat ++ flat_all (map printed.arg_pattern ys))))) ((printed.fun_lhs f).good && ((printed.arg_pattern y).good && good_all (map printed.arg_pattern ys)))

lhs_printed : (y : LhsLayer) → printed.fun_lhs (roll-FunLhs y) ≡ lhs_layer y
unfolding lhs_layer
lhs_printed (FunLhs-F.Prefix s v xs) = ap printed.fun_lhs (v_FunLhs.rolls-Prefix s v xs) ∙ printed_fun_lhs_prefix s v xs
lhs_printed (FunLhs-F.Infix s x xs o y ys) = ap printed.fun_lhs (v_FunLhs.rolls-Infix s x xs o y ys) ∙ printed_fun_lhs_infix s x xs o y ys
lhs_printed (FunLhs-F.Nested s a f b y ys) = ap printed.fun_lhs (v_FunLhs.rolls-Nested s a f b y ys) ∙ printed_fun_lhs_nested s a f b y ys

lhs_at : (f : FunLhs) → printed.fun_lhs f ≡ lhs_layer (out-FunLhs f)
lhs_at f = ap printed.fun_lhs (sym (roll-out-FunLhs f)) ∙ lhs_printed (out-FunLhs f)

-- one variable without arguments
abbrev bare : LhsLayer → Bool
bare (FunLhs-F.Prefix s v []) = true
bare _ = false

-- ---- what each begins with

lhs_layer_starts : (y : LhsLayer) (rest : List Sym) → (lhs_layer y).good ≡ true → begins_left ((lhs_layer y).flat ++ rest) ≡ true
unfolding lhs_layer
lhs_layer_starts (FunLhs-F.Prefix s v xs) rest good =
    let h = both (plain_var v && good_all (map printed.arg_pattern xs)) _ good in
    ap begins_left (append_assoc (printed.var v) (flat_all (map printed.arg_pattern xs)) rest)
    ∙ arg_begins _ (var_starts v (flat_all (map printed.arg_pattern xs) ++ rest) (both (plain_var v) (good_all (map printed.arg_pattern xs)) h.0).0)
lhs_layer_starts (FunLhs-F.Infix s x xs o y ys) rest good =
    let tail : List Sym = flat_all (map printed.next_pattern xs) ++ (printed.var_op o ++ ((printed.pat_operand y).flat ++ flat_all (map printed.next_pattern ys))) in
    let others : Bool = good_all (map printed.next_pattern xs) && (plain_var_op o && ((printed.pat_operand y).good && (good_all (map printed.next_pattern ys) && (plain_nexts xs && plain_nexts ys)))) in
    let h = both ((printed.pat_operand x).good && others) _ good in
    ap begins_left (append_assoc (printed.pat_operand x).flat tail rest) ∙ operand_starts x (tail ++ rest) (both (printed.pat_operand x).good others h.0).0
lhs_layer_starts (FunLhs-F.Nested s a f b y ys) rest good = refl

lhs_starts : (f : FunLhs) (rest : List Sym) → (printed.fun_lhs f).good ≡ true → begins_left ((printed.fun_lhs f).flat ++ rest) ≡ true
lhs_starts f rest good =
    ap (λ (p : Print). begins_left (p.flat ++ rest)) (lhs_at f)
    ∙ lhs_layer_starts (out-FunLhs f) rest (sym (ap (λ (p : Print). p.good) (lhs_at f)) ∙ good)

-- a well-formed left side begins with an argument, or with a minus sign and an integer
pub left_starts : (x : Left) (rest : List Sym) → (left_print x).good ≡ true → begins_left ((left_print x).flat ++ rest) ≡ true
left_starts (v_Left.Function f) rest good = lhs_starts f rest good
left_starts (v_Left.Pattern p) rest good = pattern_starts p rest (both (printed.pattern p).good (not (printed.pattern p).is_var) good).0

-- ---- what stands behind the variable at the front

behind_is : (v : Var) (rest : List Sym) → behind_var (printed.var v ++ rest) ≡ kind rest
behind_is (n_Var.Word n) rest = refl
behind_is (n_Var.Symbol a n b) rest = refl

con_is_no_var : (c : GenCon) (rest : List Sym) → (printed.gen_con c).good ≡ true → var_next ((printed.gen_con c).flat ++ rest) ≡ false
unfolding var_next
con_is_no_var (n_GenCon.Con (n_Con.Word n)) rest good = refl
con_is_no_var (n_GenCon.Con (n_Con.Symbol a n b)) rest good = refl
con_is_no_var (n_GenCon.Unit s a b) rest good = refl
con_is_no_var (n_GenCon.Nil s a b) rest good = refl
con_is_no_var (n_GenCon.Tuple s a [] b) rest good = absurd (cc)
con_is_no_var (n_GenCon.Tuple s a (c ∷ cs) b) rest good = refl

-- a variable at the front of an argument that is neither it alone nor has `@` behind it
abbrev plain_layer : Layer → Bool
plain_layer (ArgPattern-F.Var v) = false
plain_layer (ArgPattern-F.As s v a x) = false
plain_layer _ = true

paren_begins : (a : Span) (x : Pattern) (more rest : List Sym) → (printed.pattern x).good ≡ true → (gen_con_next (at k.Open a ∷ (((printed.pattern x).flat ++ more) ++ rest)) ≡ false) × (var_next (at k.Open a ∷ (((printed.pattern x).flat ++ more) ++ rest)) ≡ false)
paren_begins a x more rest good =
    let e : begins_left (((printed.pattern x).flat ++ more) ++ rest) ≡ true = ap begins_left (append_assoc (printed.pattern x).flat more rest) ∙ pattern_starts x (more ++ rest) good in
    (open_is_no_con a _ e, open_is_no_var a _ e)

layer_is_no_var : (y : Layer) (rest : List Sym) → plain_layer y ≡ true → (layer y).good ≡ true → var_next ((layer y).flat ++ rest) ≡ false
unfolding layer var_next
layer_is_no_var (ArgPattern-F.Var v) rest is good = absurd (cc)
layer_is_no_var (ArgPattern-F.As s v a x) rest is good = absurd (cc)
layer_is_no_var (ArgPattern-F.Wild a) rest is good = refl
layer_is_no_var (ArgPattern-F.ArgPattern::Con c) rest is good = con_is_no_var c rest (good)
layer_is_no_var (ArgPattern-F.Int a n) rest is good = refl
layer_is_no_var (ArgPattern-F.Char a n) rest is good = refl
layer_is_no_var (ArgPattern-F.Str a n) rest is good = refl
layer_is_no_var (ArgPattern-F.Paren s a x b) rest is good = (paren_begins a x (at k.Close b ∷ []) rest (both (printed.pattern x).good _ good).0).1
layer_is_no_var (ArgPattern-F.Tuple s a x xs b) rest is good =
    let parts : Bool = good_all (map printed.pat_part xs) && is_tuple (map printed.pat_part xs) in
    let h = both ((printed.pattern x).good && parts) _ good in
    (paren_begins a x (flat_all (map printed.pat_part xs) ++ at k.Close b ∷ []) rest (both (printed.pattern x).good parts h.0).0).1
layer_is_no_var (ArgPattern-F.List s a x xs b) rest is good = refl

layer_behind : (y : Layer) (rest : List Sym) → (layer y).good ≡ true → follows_var (kind rest) ≡ true → var_next ((layer y).flat ++ rest) ≡ true → follows_var (behind_var ((layer y).flat ++ rest)) ≡ true
unfolding layer
layer_behind (ArgPattern-F.Var v) rest good ends is = ap follows_var (behind_is v rest) ∙ ends
layer_behind (ArgPattern-F.As s v a x) rest good ends is =
    ap (λ us. follows_var (behind_var us)) (append_assoc (printed.var v) (at k.At a ∷ (printed.arg_pattern x).flat) rest)
    ∙ ap follows_var (behind_is v (at k.At a ∷ ((printed.arg_pattern x).flat ++ rest)))
layer_behind (ArgPattern-F.Wild a) rest good ends is = never (sym is ∙ layer_is_no_var (ArgPattern-F.Wild a) rest refl good)
layer_behind (ArgPattern-F.ArgPattern::Con c) rest good ends is = never (sym is ∙ layer_is_no_var (ArgPattern-F.ArgPattern::Con c) rest refl good)
layer_behind (ArgPattern-F.Int a n) rest good ends is = never (sym is ∙ layer_is_no_var (ArgPattern-F.Int a n) rest refl good)
layer_behind (ArgPattern-F.Char a n) rest good ends is = never (sym is ∙ layer_is_no_var (ArgPattern-F.Char a n) rest refl good)
layer_behind (ArgPattern-F.Str a n) rest good ends is = never (sym is ∙ layer_is_no_var (ArgPattern-F.Str a n) rest refl good)
layer_behind (ArgPattern-F.Paren s a x b) rest good ends is = never (sym is ∙ layer_is_no_var (ArgPattern-F.Paren s a x b) rest refl good)
layer_behind (ArgPattern-F.Tuple s a x xs b) rest good ends is = never (sym is ∙ layer_is_no_var (ArgPattern-F.Tuple s a x xs b) rest refl good)
layer_behind (ArgPattern-F.List s a x xs b) rest good ends is = never (sym is ∙ layer_is_no_var (ArgPattern-F.List s a x xs b) rest refl good)

operand_layer_behind : (y : OperandLayer) (rest : List Sym) → (operand_layer y).good ≡ true → follows_var (kind rest) ≡ true → var_next ((operand_layer y).flat ++ rest) ≡ true → follows_var (behind_var ((operand_layer y).flat ++ rest)) ≡ true
unfolding operand_layer var_next
operand_layer_behind (PatOperand-F.Negative s a b n) rest good ends is = absurd (cc)
operand_layer_behind (PatOperand-F.Arg x) rest good ends is =
    ap (λ (p : Print). follows_var (behind_var (p.flat ++ rest))) (arg_at x)
    ∙ layer_behind (out-ArgPattern x) rest (sym (ap (λ (p : Print). p.good) (arg_at x)) ∙ good) ends (sym (ap (λ (p : Print). var_next (p.flat ++ rest)) (arg_at x)) ∙ is)
operand_layer_behind (PatOperand-F.PatOperand::Con s c x xs) rest good ends is =
    let tail : List Sym = (printed.arg_pattern x).flat ++ flat_all (map printed.arg_pattern xs) in
    let parts : Bool = (printed.arg_pattern x).good && good_all (map printed.arg_pattern xs) in
    let h = both ((printed.gen_con c).good && parts) _ good in
    never (sym is ∙ ap var_next (append_assoc (printed.gen_con c).flat tail rest) ∙ con_is_no_var c (tail ++ rest) (both (printed.gen_con c).good parts h.0).0)

operand_behind : (x : PatOperand) (rest : List Sym) → (printed.pat_operand x).good ≡ true → follows_var (kind rest) ≡ true → var_next ((printed.pat_operand x).flat ++ rest) ≡ true → follows_var (behind_var ((printed.pat_operand x).flat ++ rest)) ≡ true
operand_behind x rest good ends is =
    ap (λ (p : Print). follows_var (behind_var (p.flat ++ rest))) (operand_at x)
    ∙ operand_layer_behind (out-PatOperand x) rest (sym (ap (λ (p : Print). p.good) (operand_at x)) ∙ good) ends (sym (ap (λ (p : Print). var_next (p.flat ++ rest)) (operand_at x)) ∙ is)

lhs_layer_behind : (y : LhsLayer) (rest : List Sym) → (lhs_layer y).good ≡ true → begins_rhs rest ≡ true → var_next ((lhs_layer y).flat ++ rest) ≡ true → follows_var (behind_var ((lhs_layer y).flat ++ rest)) ≡ true
unfolding lhs_layer
lhs_layer_behind (FunLhs-F.Prefix s v xs) rest good rhs is =
    let h = both (plain_var v && good_all (map printed.arg_pattern xs)) _ good in
    ap (λ us. follows_var (behind_var us)) (append_assoc (printed.var v) (flat_all (map printed.arg_pattern xs)) rest)
    ∙ ap follows_var (behind_is v (flat_all (map printed.arg_pattern xs) ++ rest))
    ∙ args_follow xs rest (both (plain_var v) (good_all (map printed.arg_pattern xs)) h.0).1 (rhs_follows rest rhs)
lhs_layer_behind (FunLhs-F.Infix s x xs o y ys) rest good rhs is =
    let right : List Sym = (printed.pat_operand y).flat ++ flat_all (map printed.next_pattern ys) in
    let tail : List Sym = flat_all (map printed.next_pattern xs) ++ (printed.var_op o ++ right) in
    let others : Bool = good_all (map printed.next_pattern xs) && (plain_var_op o && ((printed.pat_operand y).good && (good_all (map printed.next_pattern ys) && (plain_nexts xs && plain_nexts ys)))) in
    let h = both ((printed.pat_operand x).good && others) _ good in
    let g = both (printed.pat_operand x).good others h.0 in
    let gs = both (good_all (map printed.next_pattern xs)) _ g.1 in
    let split = append_assoc (printed.pat_operand x).flat tail rest in
    let more : follows_var (kind (tail ++ rest)) ≡ true =
    ap (λ us. follows_var (kind us)) (append_assoc (flat_all (map printed.next_pattern xs)) (printed.var_op o ++ right) rest)
    ∙ nexts_follow xs ((printed.var_op o ++ right) ++ rest) gs.0 (ap (λ us. follows_var (kind us)) (append_assoc (printed.var_op o) right rest) ∙ var_op_follows o (right ++ rest)) in
    ap (λ us. follows_var (behind_var us)) split ∙ operand_behind x (tail ++ rest) g.0 more (sym (ap var_next split) ∙ is)
lhs_layer_behind (FunLhs-F.Nested s a f b y ys) rest good rhs is =
    let tail : List Sym = at k.Close b ∷ ((printed.arg_pattern y).flat ++ flat_all (map printed.arg_pattern ys)) in
    let others : Bool = (printed.arg_pattern y).good && good_all (map printed.arg_pattern ys) in
    let h = both ((printed.fun_lhs f).good && others) _ good in
    let begins : begins_left (((printed.fun_lhs f).flat ++ tail) ++ rest) ≡ true = ap begins_left (append_assoc (printed.fun_lhs f).flat tail rest) ∙ lhs_starts f (tail ++ rest) (both (printed.fun_lhs f).good others h.0).0 in
    never (sym is ∙ open_is_no_var a _ begins)

-- what stands behind the variable at the front of a left side with a right side: no comma, `::` or `{|` among it
pub left_behind : (x : Left) (rest : List Sym) → (left_print x).good ≡ true → begins_rhs rest ≡ true → var_next ((left_print x).flat ++ rest) ≡ true → follows_var (behind_var ((left_print x).flat ++ rest)) ≡ true
left_behind (v_Left.Function f) rest good rhs is =
    ap (λ (p : Print). follows_var (behind_var (p.flat ++ rest))) (lhs_at f)
    ∙ lhs_layer_behind (out-FunLhs f) rest (sym (ap (λ (p : Print). p.good) (lhs_at f)) ∙ good) rhs (sym (ap (λ (p : Print). var_next (p.flat ++ rest)) (lhs_at f)) ∙ is)
left_behind (v_Left.Pattern p) rest good rhs is =
    let y = out-Pattern p in
    let others = flat_all (map printed.next_pattern y.others) in
    let g = both (pattern_good p) _ (sym (pattern_is_good p) ∙ (both (printed.pattern p).good (not (printed.pattern p).is_var) good).0) in
    let gs = both (printed.pat_operand y.first).good (good_all (map printed.next_pattern y.others)) g.0 in
    let split : (printed.pattern p).flat ++ rest ≡ (printed.pat_operand y.first).flat ++ (others ++ rest) = ap (λ us. us ++ rest) (pattern_is_flat p) ∙ append_assoc (printed.pat_operand y.first).flat others rest in
    ap (λ us. follows_var (behind_var us)) split
    ∙ operand_behind y.first (others ++ rest) gs.0 (nexts_follow y.others rest gs.1 (rhs_follows rest rhs)) (sym (ap var_next split) ∙ is)

-- ---- a part of a tuple

part_at : (x : PatPart) → printed.pat_part x ≡ print (at k.Comma (out-PatPart x).mark ∷ (printed.pattern (out-PatPart x).part).flat) (printed.pattern (out-PatPart x).part).good
part_at x = ap printed.pat_part (sym (roll-out-PatPart x)) ∙ printed_pat_part (out-PatPart x).mark (out-PatPart x).part

part_starts : (x : PatPart) (rest : List Sym) → (printed.pat_part x).good ≡ true → comma_next ((printed.pat_part x).flat ++ rest) ≡ true
part_starts x rest good = ap (λ (p : Print). comma_next (p.flat ++ rest)) (part_at x)

-- a tuple goes on with a comma
parts_start : (xs : List PatPart) (rest : List Sym) → is_tuple xs ≡ true → good_all (map printed.pat_part xs) ≡ true → comma_next (flat_all (map printed.pat_part xs) ++ rest) ≡ true
parts_start [] rest e good = absurd (cc)
parts_start (x ∷ xs) rest e good =
    ap comma_next (append_assoc (printed.pat_part x).flat (flat_all (map printed.pat_part xs)) rest)
    ∙ part_starts x (flat_all (map printed.pat_part xs) ++ rest) (both (printed.pat_part x).good (good_all (map printed.pat_part xs)) good).0

comma_no_op_by : (first second : Option Kind) → is_comma first ≡ true → var_op_next_by first second ≡ false
comma_no_op_by (Some k.Comma) second e = refl
comma_no_op_by _ second e = absurd (cc)

comma_ends_left : (ss : List Sym) → comma_next ss ≡ true → ends_left ss ≡ true
unfolding var_op_next
comma_ends_left ss e = and_is (comma_ends_pattern ss e) (ap not (comma_no_op_by (kind ss) (kind (after ss)) e))

close_ends_left : (b : Span) (rest : List Sym) → ends_left (at k.Close b ∷ rest) ≡ true
unfolding con_op_next var_op_next
close_ends_left b rest = refl

-- what ends a left side ends all that it is made of
record Ends (rest : List Sym) : Type 0 where
  whole_pattern : ends_pattern rest ≡ true
  operand : ends_operand rest ≡ true
  arg : ends_arg rest ≡ true
  no_arg : begins_arg rest ≡ false
  no_op : var_op_next rest ≡ false

operand_ends : (rest : List Sym) → ends_pattern rest ≡ true → ends_operand rest ≡ true
operand_ends rest e = (both (ends_operand rest) (not (con_op_next rest)) e).0

ends_parts : (rest : List Sym) → ends_left rest ≡ true → Ends rest
ends_parts rest e =
    let h = both (ends_pattern rest) (not (var_op_next rest)) e in
    let i = operand_ends rest h.0 in
    let j = both (not (at_next rest)) (not (begins_arg rest)) i in
    record { whole_pattern = h.0; operand = i; arg = j.0; no_arg = not_is (begins_arg rest) j.1; no_op = not_is (var_op_next rest) h.1 }

-- ---- what a reader of left sides reads back, of so many tokens at most

pub record CompleteSide (most : ℕ) (S : Read Side) : Type 0 where
  pub one : (s : Span) (v : Var) (rest : List Sym) → (spanned s (printed.var v ++ []) (plain_var v && true)).good ≡ true → length (printed.var v) ≤ most → ends_left rest ≡ true
      → S (printed.var v ++ rest) ≡ taken (v_Side.Alone s v) rest
  pub lhs : (f : FunLhs) (rest : List Sym) → bare (out-FunLhs f) ≡ false → (printed.fun_lhs f).good ≡ true → length (printed.fun_lhs f).flat ≤ most → ends_left rest ≡ true
      → S ((printed.fun_lhs f).flat ++ rest) ≡ taken (v_Side.Function f) rest
  pub pat : (p : Pattern) (rest : List Sym) → (printed.pattern p).is_var ≡ false → (printed.pattern p).good ≡ true → length (printed.pattern p).flat ≤ most → ends_left rest ≡ true
      → S ((printed.pattern p).flat ++ rest) ≡ taken (v_Side.Pattern p) rest

-- a left side that stands for this was read
record Stands {A : Type 0} (S : Read Side) (of : Side → Option A) (x : A) (flat rest : List Sym) : Type 0 where
  found : Side
  read : S (flat ++ rest) ≡ taken found rest
  is : of found ≡ Some x

-- a function's left side is a variable alone, or more
lhs_shape : (f : FunLhs) → ((s : Span) × (v : Var) × (f ≡ var_lhs s v)) ⊎ (bare (out-FunLhs f) ≡ false)
lhs_shape f = elim (at_layer (out-FunLhs f)) [
  | inl h ↦ inl (h.0, h.1, sym (roll-out-FunLhs f) ∙ h.2)
  | inr h ↦ inr h
]
  where
    at_layer : (y : LhsLayer) → ((s : Span) × (v : Var) × (roll-FunLhs y ≡ var_lhs s v)) ⊎ (bare y ≡ false)
    at_layer (FunLhs-F.Prefix s v []) = inl (s, v, v_FunLhs.rolls-Prefix s v [])
    at_layer (FunLhs-F.Prefix s v (x ∷ xs)) = inr refl
    at_layer (FunLhs-F.Infix s x xs o y ys) = inr refl
    at_layer (FunLhs-F.Nested s a f b y ys) = inr refl

var_pattern_printed : (s : Span) (v : Var) → ((printed.pattern (var_pattern s v)).flat ≡ printed.var v ++ []) × ((printed.pattern (var_pattern s v)).good ≡ (spanned s (printed.var v ++ []) (plain_var v && true)).good)
var_pattern_printed s v =
    let e = printed_pattern s (var_operand v) [] in
    let o = var_operand_printed v in (
      ap (λ (p : Print). p.flat) e ∙ ap (λ (p : Print). p.flat ++ []) o,
      ap (λ (p : Print). p.good) e ∙ ap (λ (p : Print). (p.good && true) && same_span s (cover (p.flat ++ []))) o,
    )

module _ (most : ℕ) (S : Read Side) (inside : CompleteSide most S) where
  one_stands : (s : Span) (v : Var) (rest : List Sym) → (spanned s (printed.var v ++ []) (plain_var v && true)).good ≡ true → length (printed.var v ++ []) ≤ most → ends_left rest ≡ true
      → S ((printed.var v ++ []) ++ rest) ≡ taken (v_Side.Alone s v) rest
  one_stands s v rest good fits ends =
      ap (λ us. S (us ++ rest)) (append-nil (printed.var v)) ∙ inside.one s v rest good (subst (λ us. length us ≤ most) (append-nil (printed.var v)) fits) ends

  pattern_stands : (p : Pattern) (rest : List Sym) → (printed.pattern p).good ≡ true → length (printed.pattern p).flat ≤ most → ends_left rest ≡ true → Stands S pattern_of p (printed.pattern p).flat rest
  pattern_stands p rest good fits ends = elim (pattern_shape p) [
    | inl h ↦ let s = (out-Pattern p).span in
        let e = var_pattern_printed s h.0 in
        let flat : (printed.pattern p).flat ≡ printed.var h.0 ++ [] = ap (λ (q : Pattern). (printed.pattern q).flat) h.1 ∙ e.0 in
        record {
          found = v_Side.Alone s h.0;
          read = ap (λ us. S (us ++ rest)) flat ∙ one_stands s h.0 rest (sym e.1 ∙ sym (ap (λ (q : Pattern). (printed.pattern q).good) h.1) ∙ good) (subst (λ us. length us ≤ most) flat fits) ends;
          is = ap (λ (q : Pattern). Some q) (sym h.1);
        }
    | inr h ↦ record { found = v_Side.Pattern p; read = inside.pat p rest h good fits ends; is = refl }
  ]

  lhs_stands : (f : FunLhs) (rest : List Sym) → (printed.fun_lhs f).good ≡ true → length (printed.fun_lhs f).flat ≤ most → ends_left rest ≡ true → Stands S function_of f (printed.fun_lhs f).flat rest
  lhs_stands f rest good fits ends = elim (lhs_shape f) [
    | inl h ↦ let e : printed.fun_lhs f ≡ spanned h.0 (printed.var h.1 ++ []) (plain_var h.1 && true) = ap printed.fun_lhs h.2 ∙ printed_fun_lhs_prefix h.0 h.1 [] in
        record {
          found = v_Side.Alone h.0 h.1;
          read = ap (λ (q : Print). S (q.flat ++ rest)) e ∙ one_stands h.0 h.1 rest (sym (ap (λ (q : Print). q.good) e) ∙ good) (subst (λ (q : Print). length q.flat ≤ most) e fits) ends;
          is = ap (λ (g : FunLhs). Some g) (sym h.2);
        }
    | inr h ↦ record { found = v_Side.Function f; read = inside.lhs f rest h good fits ends; is = refl }
  ]

-- ---- the steps of reading

module _ (A : Read ArgPattern) (S : Read Side) where
  front_con : (start ss : List Sym) → gen_con_next ss ≡ true → front A S start ss ≡ operand_front A ss
  unfolding front
  front_con start ss is = ap (λ b. cond b (operand_front A ss) (no_con A S start ss)) is

  front_var : (start ss : List Sym) → gen_con_next ss ≡ false → var_next ss ≡ true → front A S start ss ≡ var_front A start ss
  unfolding front
  front_var start ss none is = ap (λ b. cond b (operand_front A ss) (no_con A S start ss)) none ∙ ap (λ b. cond b (var_front A start ss) (no_var A S start ss)) is

  front_open : (start : List Sym) (a : Span) (ss : List Sym) → gen_con_next (at k.Open a ∷ ss) ≡ false → var_next (at k.Open a ∷ ss) ≡ false → front A S start (at k.Open a ∷ ss) ≡ opened A S start (at k.Open a ∷ ss)
  unfolding front
  front_open start a ss none is =
      ap (λ b. cond b (operand_front A (at k.Open a ∷ ss)) (no_con A S start (at k.Open a ∷ ss))) none
      ∙ ap (λ b. cond b (var_front A start (at k.Open a ∷ ss)) (no_var A S start (at k.Open a ∷ ss))) is

  front_other : (start ss : List Sym) → gen_con_next ss ≡ false → var_next ss ≡ false → is_open (kind ss) ≡ false → front A S start ss ≡ operand_front A ss
  unfolding front
  front_other start ss none is other =
      ap (λ b. cond b (operand_front A ss) (no_con A S start ss)) none
      ∙ ap (λ b. cond b (var_front A start ss) (no_var A S start ss)) is
      ∙ ap (λ b. cond b (opened A S start ss) (operand_front A ss)) other

  front_read : (ss : List Sym) (x : PatOperand) (rest : List Sym) → operand A ss ≡ taken x rest → operand_front A ss ≡ taken (v_Front.Operand x) rest
  unfolding operand_front
  front_read ss x rest e = chain _ e refl

  -- behind a variable
  name_args : (start : List Sym) (v : Var) (ss : List Sym) → begins_arg ss ≡ true → behind_name A start v ss ≡ prefix A start v ss
  name_args start v ss e =
      ap (λ b. cond b ((next >>= named A start v) ss) (unnamed A start v ss)) (arg_is_no_at ss e)
      ∙ ap (λ b. cond b (prefix A start v ss) (taken (v_Front.Alone v) ss)) e

  name_alone : (start : List Sym) (v : Var) (ss : List Sym) → ends_operand ss ≡ true → behind_name A start v ss ≡ taken (v_Front.Alone v) ss
  name_alone start v ss e =
      let h = both (not (at_next ss)) (not (begins_arg ss)) e in
      ap (λ b. cond b ((next >>= named A start v) ss) (unnamed A start v ss)) (not_is (at_next ss) h.0)
      ∙ ap (λ b. cond b (prefix A start v ss) (taken (v_Front.Alone v) ss)) (not_is (begins_arg ss) h.1)

  front_name : (v : Var) (ss : List Sym) → plain_var v ≡ true → front A S (printed.var v ++ ss) (printed.var v ++ ss) ≡ behind_name A (printed.var v ++ ss) v ss
  unfolding var_front
  front_name v ss good =
      front_var (printed.var v ++ ss) (printed.var v ++ ss) (var_is_no_con v ss) (var_looks v ss good)
      ∙ chain (behind_name A (printed.var v ++ ss)) (var_complete v ss good) refl

  -- behind `(` and a left side
  inside_comma : (start : List Sym) (a : Span) (y : Side) (p : Pattern) (ss : List Sym) (x : ArgPattern) (rest : List Sym) → pattern_of y ≡ Some p → comma_next ss ≡ true → enclosed A start a p ss ≡ taken x rest
      → behind_inside A start a y ss ≡ taken (v_Front.Operand (v_PatOperand.Arg x)) rest
  unfolding behind_inside tuple_front
  inside_comma start a y p ss x rest is comma e =
      ap (λ b. cond b (tuple_front A start a y ss) (closed A start a y ss)) comma
      ∙ ap (λ o. given o (λ (q : Pattern). enclosed A start a q >>= λ z us. taken (v_Front.Operand (v_PatOperand.Arg z)) us) ss) is
      ∙ chain _ e refl

  inside_close : (start : List Sym) (a : Span) (y : Side) (b : Span) (rest : List Sym) → behind_inside A start a y (at k.Close b ∷ rest) ≡ behind_close A start a y b rest
  unfolding behind_inside closed
  inside_close start a y b rest = refl

  close_args : (start : List Sym) (a : Span) (y : Side) (f : FunLhs) (b : Span) (ss : List Sym) → function_of y ≡ Some f → begins_arg ss ≡ true → behind_close A start a y b ss ≡ applied A start a b f ss
  unfolding nested
  close_args start a y f b ss is begins =
      ap (λ c. cond c (nested A start a b y ss) (paren_front start a b y ss)) begins
      ∙ ap (λ o. given o (applied A start a b) ss) is

  close_alone : (start : List Sym) (a : Span) (y : Side) (p : Pattern) (b : Span) (ss : List Sym) → pattern_of y ≡ Some p → begins_arg ss ≡ false
      → behind_close A start a y b ss ≡ taken (v_Front.Operand (v_PatOperand.Arg (v_ArgPattern.Paren (covered start ss) a p b))) ss
  unfolding paren_front
  close_alone start a y p b ss is none =
      ap (λ c. cond c (nested A start a b y ss) (paren_front start a b y ss)) none
      ∙ ap (λ o. given o (λ (q : Pattern) us. taken (v_Front.Operand (v_PatOperand.Arg (v_ArgPattern.Paren (covered start us) a q b))) us) ss) is

-- a variable with more behind it
alone_more : (start : List Sym) (v : Var) (xs : List NextPattern) (rest : List Sym) → not (is_some (map printed.next_pattern xs)) ≡ false
    → alone start v xs rest ≡ taken (v_Side.Pattern (roll-Pattern (record { span = covered start rest; first = var_operand v; others = xs }))) rest
unfolding alone patterned
alone_more start v [] rest some = absurd (cc)
alone_more start v (x ∷ xs) rest some = refl

-- ---- what is printed is read, where readers of arguments and of what stands inside do so

module _ (m : ℕ) (A : Read ArgPattern) (complete : Complete printed.arg_pattern ends_arg (suc m) A) (S : Read Side) (inside : CompleteSide m S) where
  args_complete : CompleteAll printed.arg_pattern ends_operand (suc m) (args A)
  unfolding args
  args_complete xs rest good fits ends =
      let h = both (not (at_next rest)) (not (begins_arg rest)) ends in
      items_complete printed.arg_pattern begins_arg A refl ends_arg (suc m) arg_starts complete arg_ends_arg xs rest good fits h.0 (not_is (begins_arg rest) h.1)

  part_complete : Complete printed.pat_part ends_pattern (suc m) (pat_part A)
  unfolding pat_part
  part_complete x rest good fits ends =
      let y = out-PatPart x in
      let e = part_at x in
      let g : (printed.pattern y.part).good ≡ true = sym (ap (λ (p : Print). p.good) e) ∙ good in
      let n : length (printed.pat_part x).flat ≡ suc (length (printed.pattern y.part).flat) = ap (λ (p : Print). length p.flat) e in
      ap (λ (p : Print). pat_part A (p.flat ++ rest)) e
      ∙ chain _ (pattern_complete (suc m) A complete y.part rest g (omega (arith, n, fits)) ends) (ap (λ (z : PatPart). taken z rest) (roll-out-PatPart x))

  parts_complete : (xs : List PatPart) (rest : List Sym) → good_all (map printed.pat_part xs) ≡ true → length (flat_all (map printed.pat_part xs)) ≤ suc m → ends_pattern rest ≡ true → comma_next rest ≡ false
      → pat_parts A (flat_all (map printed.pat_part xs) ++ rest) ≡ taken xs rest
  unfolding pat_parts
  parts_complete = items_complete printed.pat_part comma_next (pat_part A) refl ends_pattern (suc m) part_starts part_complete comma_ends_pattern

  enclosed_complete : (start : List Sym) (a : Span) (x : Pattern) (xs : List PatPart) (b : Span) (rest : List Sym) → is_tuple xs ≡ true → good_all (map printed.pat_part xs) ≡ true
      → length (flat_all (map printed.pat_part xs)) ≤ suc m → enclosed A start a x (flat_all (map printed.pat_part xs) ++ (at k.Close b ∷ rest)) ≡ taken (v_ArgPattern.Tuple (covered start rest) a x xs b) rest
  unfolding enclosed con_op_next
  enclosed_complete start a x xs b rest tuple good fits =
      chain _ (parts_complete xs (at k.Close b ∷ rest) good fits refl refl) (ap (λ c. cond c (taken (v_ArgPattern.Tuple (covered start rest) a x xs b) rest) None) tuple)

  -- a variable, `@` and a pattern
  as_front : (s : Span) (v : Var) (a : Span) (x : ArgPattern) (rest : List Sym) → (layer (ArgPattern-F.As s v a x)).good ≡ true → length (layer (ArgPattern-F.As s v a x)).flat ≤ suc m → ends_arg rest ≡ true
      → front A S ((layer (ArgPattern-F.As s v a x)).flat ++ rest) ((layer (ArgPattern-F.As s v a x)).flat ++ rest) ≡ taken (v_Front.Operand (v_PatOperand.Arg (v_ArgPattern.As s v a x))) rest
  unfolding layer named as_end
  as_front s v a x rest good fits ends =
      let head = printed.var v in
      let flat : List Sym = head ++ (at k.At a ∷ (printed.arg_pattern x).flat) in
      let all_good : Bool = plain_var v && (printed.arg_pattern x).good in
      let g = both (plain_var v) (printed.arg_pattern x).good (both all_good _ good).0 in
      let size = length-append head (at k.At a ∷ (printed.arg_pattern x).flat) in
      let split : flat ++ rest ≡ head ++ (at k.At a ∷ ((printed.arg_pattern x).flat ++ rest)) = append_assoc head (at k.At a ∷ (printed.arg_pattern x).flat) rest in
      let span : covered (head ++ (at k.At a ∷ ((printed.arg_pattern x).flat ++ rest))) rest ≡ s = ap (λ us. covered us rest) (sym split) ∙ spanned_span s rest flat all_good good in
      ap (λ us. front A S us us) split
      ∙ front_name A S v (at k.At a ∷ ((printed.arg_pattern x).flat ++ rest)) g.0
      ∙ chain _ (chain _ (complete x rest g.1 (omega (arith, size, fits)) ends) refl)
      (ap (λ z. taken (v_Front.Operand (v_PatOperand.Arg (v_ArgPattern.As z v a x))) rest) span)

  paren_complete : (s a : Span) (p : Pattern) (b : Span) (rest : List Sym) → (layer (ArgPattern-F.Paren s a p b)).good ≡ true → length (layer (ArgPattern-F.Paren s a p b)).flat ≤ suc m → begins_arg rest ≡ false
      → front A S ((layer (ArgPattern-F.Paren s a p b)).flat ++ rest) ((layer (ArgPattern-F.Paren s a p b)).flat ++ rest) ≡ taken (v_Front.Operand (v_PatOperand.Arg (v_ArgPattern.Paren s a p b))) rest
  unfolding layer opened
  paren_complete s a p b rest good fits none =
      let within = (printed.pattern p).flat in
      let flat : List Sym = at k.Open a ∷ (within ++ at k.Close b ∷ []) in
      let g = both (printed.pattern p).good _ good in
      let size = length-append within (at k.Close b ∷ []) in
      let tail : List Sym = at k.Close b ∷ rest in
      let split : flat ++ rest ≡ at k.Open a ∷ (within ++ tail) = ap (λ us. at k.Open a ∷ us) (append_assoc within (at k.Close b ∷ []) rest) in
      let start : List Sym = at k.Open a ∷ (within ++ tail) in
      let begins = pattern_starts p tail g.0 in
      let h = pattern_stands m S inside p tail g.0 (omega (arith, size, fits)) (close_ends_left b rest) in
      let span : covered start rest ≡ s = ap (λ us. covered us rest) (sym split) ∙ spanned_span s rest flat (printed.pattern p).good good in
      ap (λ us. front A S us us) split
      ∙ front_open A S start a (within ++ tail) (open_is_no_con a (within ++ tail) begins) (open_is_no_var a (within ++ tail) begins)
      ∙ chain (behind_inside A start a) h.read (inside_close A S start a h.found b rest ∙ close_alone A S start a h.found p b rest h.is none)
      ∙ ap (λ z. taken (v_Front.Operand (v_PatOperand.Arg (v_ArgPattern.Paren z a p b))) rest) span

  tuple_complete : (s a : Span) (p : Pattern) (xs : List PatPart) (b : Span) (rest : List Sym) → (layer (ArgPattern-F.Tuple s a p xs b)).good ≡ true → length (layer (ArgPattern-F.Tuple s a p xs b)).flat ≤ suc m
      → front A S ((layer (ArgPattern-F.Tuple s a p xs b)).flat ++ rest) ((layer (ArgPattern-F.Tuple s a p xs b)).flat ++ rest) ≡ taken (v_Front.Operand (v_PatOperand.Arg (v_ArgPattern.Tuple s a p xs b))) rest
  unfolding layer opened
  tuple_complete s a p xs b rest good fits =
      let within = (printed.pattern p).flat in
      let others = flat_all (map printed.pat_part xs) in
      let flat : List Sym = at k.Open a ∷ (within ++ (others ++ at k.Close b ∷ [])) in
      let parts : Bool = good_all (map printed.pat_part xs) && is_tuple (map printed.pat_part xs) in
      let g = both (printed.pattern p).good parts (both ((printed.pattern p).good && parts) _ good).0 in
      let gs = both (good_all (map printed.pat_part xs)) (is_tuple (map printed.pat_part xs)) g.1 in
      let tuple : is_tuple xs ≡ true = ap (λ n. nat_lt 0 n && nat_lt n 7) (sym (length-map xs printed.pat_part)) ∙ gs.1 in
      let size = length-append within (others ++ at k.Close b ∷ []) in
      let size2 = length-append others (at k.Close b ∷ []) in
      let tail : List Sym = others ++ (at k.Close b ∷ rest) in
      let comma = parts_start xs (at k.Close b ∷ rest) tuple gs.0 in
      let split : flat ++ rest ≡ at k.Open a ∷ (within ++ tail) = ap (λ us. at k.Open a ∷ us) (append_assoc within (others ++ at k.Close b ∷ []) rest ∙ ap (λ us. within ++ us) (append_assoc others (at k.Close b ∷ []) rest)) in
      let start : List Sym = at k.Open a ∷ (within ++ tail) in
      let begins = pattern_starts p tail g.0 in
      let h = pattern_stands m S inside p tail g.0 (omega (arith, size, fits)) (comma_ends_left tail comma) in
      let span : covered start rest ≡ s = ap (λ us. covered us rest) (sym split) ∙ spanned_span s rest flat ((printed.pattern p).good && parts) good in
      ap (λ us. front A S us us) split
      ∙ front_open A S start a (within ++ tail) (open_is_no_con a (within ++ tail) begins) (open_is_no_var a (within ++ tail) begins)
      ∙ chain (behind_inside A start a) h.read
      (inside_comma A S start a h.found p tail (v_ArgPattern.Tuple (covered start rest) a p xs b) rest h.is comma (enclosed_complete start a p xs b rest tuple gs.0 (omega (arith, size, size2, fits))))
      ∙ ap (λ z. taken (v_Front.Operand (v_PatOperand.Arg (v_ArgPattern.Tuple z a p xs b))) rest) span

  -- the front reads every operand but a variable
  layer_front : (y : Layer) (rest : List Sym) → (layer y).is_var ≡ false → (layer y).good ≡ true → length (layer y).flat ≤ suc m → ends_operand rest ≡ true
      → operand A ((layer y).flat ++ rest) ≡ taken (v_PatOperand.Arg (roll-ArgPattern y)) rest
      → front A S ((layer y).flat ++ rest) ((layer y).flat ++ rest) ≡ taken (v_Front.Operand (v_PatOperand.Arg (roll-ArgPattern y))) rest
  unfolding layer gen_con_next var_next
  layer_front (ArgPattern-F.Var v) rest lone good fits ends read = absurd (cc)
  layer_front (ArgPattern-F.As s v a x) rest lone good fits ends read =
      as_front s v a x rest good fits (both (not (at_next rest)) (not (begins_arg rest)) ends).0
      ∙ ap (λ (z : ArgPattern). taken (v_Front.Operand (v_PatOperand.Arg z)) rest) (sym (v_ArgPattern.rolls-As s v a x))
  layer_front (ArgPattern-F.Wild a) rest lone good fits ends read = front_other A S _ _ refl refl refl ∙ front_read A S _ _ rest read
  layer_front (ArgPattern-F.ArgPattern::Con c) rest lone good fits ends read = front_con A S _ _ (gen_con_looks c rest good) ∙ front_read A S _ _ rest read
  layer_front (ArgPattern-F.Int a n) rest lone good fits ends read = front_other A S _ _ refl refl refl ∙ front_read A S _ _ rest read
  layer_front (ArgPattern-F.Char a n) rest lone good fits ends read = front_other A S _ _ refl refl refl ∙ front_read A S _ _ rest read
  layer_front (ArgPattern-F.Str a n) rest lone good fits ends read = front_other A S _ _ refl refl refl ∙ front_read A S _ _ rest read
  layer_front (ArgPattern-F.Paren s a p b) rest lone good fits ends read =
      paren_complete s a p b rest good fits (not_is (begins_arg rest) (both (not (at_next rest)) (not (begins_arg rest)) ends).1)
      ∙ ap (λ (z : ArgPattern). taken (v_Front.Operand (v_PatOperand.Arg z)) rest) (sym (v_ArgPattern.rolls-Paren s a p b))
  layer_front (ArgPattern-F.Tuple s a p xs b) rest lone good fits ends read =
      tuple_complete s a p xs b rest good fits
      ∙ ap (λ (z : ArgPattern). taken (v_Front.Operand (v_PatOperand.Arg z)) rest) (sym (v_ArgPattern.rolls-Tuple s a p xs b))
  layer_front (ArgPattern-F.List s a p xs b) rest lone good fits ends read =
      let more : List Sym = flat_all (map printed.pat_part xs) ++ at k.CloseList b ∷ [] in
      let h = both ((printed.pattern p).good && good_all (map printed.pat_part xs)) _ good in
      let begins : begins_left (((printed.pattern p).flat ++ more) ++ rest) ≡ true = ap begins_left (append_assoc (printed.pattern p).flat more rest) ∙ pattern_starts p (more ++ rest) (both (printed.pattern p).good (good_all (map printed.pat_part xs)) h.0).0 in
      front_other A S _ _ (list_is_no_con a _ begins) refl refl ∙ front_read A S _ _ rest read

  operand_layer_front : (y : OperandLayer) (rest : List Sym) → (operand_layer y).is_var ≡ false → (operand_layer y).good ≡ true → length (operand_layer y).flat ≤ suc m → ends_operand rest ≡ true
      → operand A ((operand_layer y).flat ++ rest) ≡ taken (roll-PatOperand y) rest
      → front A S ((operand_layer y).flat ++ rest) ((operand_layer y).flat ++ rest) ≡ taken (v_Front.Operand (roll-PatOperand y)) rest
  unfolding operand_layer gen_con_next var_next
  operand_layer_front (PatOperand-F.Negative s a b n) rest lone good fits ends read = front_other A S _ _ refl refl refl ∙ front_read A S _ _ rest read
  operand_layer_front (PatOperand-F.Arg x) rest lone good fits ends read =
      let e = arg_at x in
      let z : v_PatOperand.Arg (roll-ArgPattern (out-ArgPattern x)) ≡ roll-PatOperand (PatOperand-F.Arg x) = ap (λ (z : ArgPattern). v_PatOperand.Arg z) (roll-out-ArgPattern x) ∙ sym (v_PatOperand.rolls-Arg x) in
      ap (λ (p : Print). front A S (p.flat ++ rest) (p.flat ++ rest)) e
      ∙ layer_front (out-ArgPattern x) rest (sym (ap (λ (p : Print). p.is_var) e) ∙ lone) (sym (ap (λ (p : Print). p.good) e) ∙ good) (subst (λ (p : Print). length p.flat ≤ suc m) e fits) ends
      (sym (ap (λ (p : Print). operand A (p.flat ++ rest)) e) ∙ read ∙ ap (λ (o : PatOperand). taken o rest) (sym z))
      ∙ ap (λ (o : PatOperand). taken (v_Front.Operand o) rest) z
  operand_layer_front (PatOperand-F.PatOperand::Con s c x xs) rest lone good fits ends read =
      let tail : List Sym = (printed.arg_pattern x).flat ++ flat_all (map printed.arg_pattern xs) in
      let parts : Bool = (printed.arg_pattern x).good && good_all (map printed.arg_pattern xs) in
      let h = both ((printed.gen_con c).good && parts) _ good in
      front_con A S _ _ (ap gen_con_next (append_assoc (printed.gen_con c).flat tail rest) ∙ gen_con_looks c (tail ++ rest) (both (printed.gen_con c).good parts h.0).0) ∙ front_read A S _ _ rest read

  operand_front_complete : (x : PatOperand) (rest : List Sym) → (printed.pat_operand x).is_var ≡ false → (printed.pat_operand x).good ≡ true → length (printed.pat_operand x).flat ≤ suc m → ends_operand rest ≡ true
      → front A S ((printed.pat_operand x).flat ++ rest) ((printed.pat_operand x).flat ++ rest) ≡ taken (v_Front.Operand x) rest
  operand_front_complete x rest lone good fits ends =
      let e = operand_at x in
      let read = operand_complete (suc m) A complete x rest good fits ends in
      ap (λ (p : Print). front A S (p.flat ++ rest) (p.flat ++ rest)) e
      ∙ operand_layer_front (out-PatOperand x) rest (sym (ap (λ (p : Print). p.is_var) e) ∙ lone) (sym (ap (λ (p : Print). p.good) e) ∙ good) (subst (λ (p : Print). length p.flat ≤ suc m) e fits) ends
      (sym (ap (λ (p : Print). operand A (p.flat ++ rest)) e) ∙ read ∙ ap (λ (o : PatOperand). taken o rest) (sym (roll-out-PatOperand x)))
      ∙ ap (λ (o : PatOperand). taken (v_Front.Operand o) rest) (roll-out-PatOperand x)

  var_front_complete : (v : Var) (rest : List Sym) → plain_var v ≡ true → ends_operand rest ≡ true → front A S (printed.var v ++ rest) (printed.var v ++ rest) ≡ taken (v_Front.Alone v) rest
  var_front_complete v rest good ends = front_name A S v rest good ∙ name_alone A S (printed.var v ++ rest) v rest ends

  -- ---- the whole

  whole_at : (ss : List Sym) (x : Front) (mid : List Sym) (y : Side) (rest : List Sym) → front A S ss ss ≡ taken x mid → go A ss x mid ≡ taken y rest → whole A S ss ≡ taken y rest
  unfolding whole
  whole_at ss x mid y rest e e' = chain (go A ss) e e'

  one_complete : (s : Span) (v : Var) (rest : List Sym) → (spanned s (printed.var v ++ []) (plain_var v && true)).good ≡ true → ends_left rest ≡ true → whole A S (printed.var v ++ rest) ≡ taken (v_Side.Alone s v) rest
  unfolding go alone
  one_complete s v rest good ends =
      let h = ends_parts rest ends in
      let g = both (plain_var v && true) _ good in
      let ss : List Sym = printed.var v ++ rest in
      let none = nexts_complete (suc m) A complete [] rest refl (omega arith) h.whole_pattern in
      let span : covered ss rest ≡ s = ap (λ us. covered (us ++ rest) rest) (sym (append-nil (printed.var v))) ∙ spanned_span s rest (printed.var v ++ []) (plain_var v && true) good in
      whole_at ss (v_Front.Alone v) rest (v_Side.Alone s v) rest (var_front_complete v rest (both (plain_var v) true g.0).0 h.operand)
      (chain (behind_alone A ss v) none (ap (λ b. cond b (infixed A ss (var_operand v) [] rest) (alone ss v [] rest)) h.no_op ∙ ap (λ z. taken (v_Side.Alone z v) rest) span))

  -- operands before a variable operator
  infix_go : (x : PatOperand) (xs : List NextPattern) (ss : List Sym) (y : Side) (rest : List Sym) → (printed.pat_operand x).good ≡ true → good_all (map printed.next_pattern xs) ≡ true
      → length (printed.pat_operand x).flat ≤ suc m → length (flat_all (map printed.next_pattern xs)) ≤ suc m → ends_pattern ss ≡ true → var_op_next ss ≡ true
      → infixed A ((printed.pat_operand x).flat ++ (flat_all (map printed.next_pattern xs) ++ ss)) x xs ss ≡ taken y rest
      → whole A S ((printed.pat_operand x).flat ++ (flat_all (map printed.next_pattern xs) ++ ss)) ≡ taken y rest
  unfolding go
  infix_go x xs ss y rest good goods fits fits' ends is e =
      let mid : List Sym = flat_all (map printed.next_pattern xs) ++ ss in
      let begins : ends_operand mid ≡ true = nexts_end_operand xs ss goods (operand_ends ss ends) in
      let others = nexts_complete (suc m) A complete xs ss goods fits' ends in
      elim (operand_shape x) [
        | inl h ↦ let p : printed.pat_operand x ≡ printed.pat_operand (var_operand h.0) = ap printed.pat_operand h.1 in
            let flat : (printed.pat_operand x).flat ≡ printed.var h.0 = ap (λ (q : Print). q.flat) (p ∙ var_operand_printed h.0) in
            let plain : plain_var h.0 ≡ true = sym (ap (λ (q : Print). q.good) (p ∙ var_operand_printed h.0)) ∙ good in
            let start : List Sym = printed.var h.0 ++ mid in
            ap (λ us. whole A S (us ++ mid)) flat
            ∙ whole_at start (v_Front.Alone h.0) mid y rest (var_front_complete h.0 mid plain begins)
            (chain (behind_alone A start h.0) others (ap (λ b. cond b (infixed A start (var_operand h.0) xs ss) (alone start h.0 xs ss)) is
            ∙ ap (λ (z : PatOperand). infixed A start z xs ss) (sym h.1) ∙ ap (λ us. infixed A (us ++ mid) x xs ss) (sym flat) ∙ e))
        | inr h ↦ let start : List Sym = (printed.pat_operand x).flat ++ mid in
            whole_at start (v_Front.Operand x) mid y rest (operand_front_complete x mid h good fits begins)
            (chain (behind_operands A start x) others (ap (λ b. cond b (infixed A start x xs ss) (patterned start x xs ss)) is ∙ e))
      ]

  infix_complete : (s : Span) (x : PatOperand) (xs : List NextPattern) (o : VarOp) (y : PatOperand) (ys : List NextPattern) (rest : List Sym) → (lhs_layer (FunLhs-F.Infix s x xs o y ys)).good ≡ true
      → length (lhs_layer (FunLhs-F.Infix s x xs o y ys)).flat ≤ suc m → ends_left rest ≡ true
      → whole A S ((lhs_layer (FunLhs-F.Infix s x xs o y ys)).flat ++ rest) ≡ taken (v_Side.Function (v_FunLhs.Infix s x xs o y ys)) rest
  unfolding lhs_layer infixed
  infix_complete s x xs o y ys rest good fits ends =
      let fx = (printed.pat_operand x).flat in
      let fxs = flat_all (map printed.next_pattern xs) in
      let fo = printed.var_op o in
      let fy = (printed.pat_operand y).flat in
      let fys = flat_all (map printed.next_pattern ys) in
      let flat : List Sym = fx ++ (fxs ++ (fo ++ (fy ++ fys))) in
      let plains : Bool = plain_nexts xs && plain_nexts ys in
      let g5 : Bool = good_all (map printed.next_pattern ys) && plains in
      let g4 : Bool = (printed.pat_operand y).good && g5 in
      let g3 : Bool = plain_var_op o && g4 in
      let g2 : Bool = good_all (map printed.next_pattern xs) && g3 in
      let h1 = both (printed.pat_operand x).good g2 (both ((printed.pat_operand x).good && g2) _ good).0 in
      let h2 = both (good_all (map printed.next_pattern xs)) g3 h1.1 in
      let h3 = both (plain_var_op o) g4 h2.1 in
      let h4 = both (printed.pat_operand y).good g5 h3.1 in
      let h5 = both (good_all (map printed.next_pattern ys)) plains h4.1 in
      let size1 = length-append fx (fxs ++ (fo ++ (fy ++ fys))) in
      let size2 = length-append fxs (fo ++ (fy ++ fys)) in
      let size3 = length-append fo (fy ++ fys) in
      let size4 = length-append fy fys in
      let end = ends_parts rest ends in
      let right : List Sym = fy ++ (fys ++ rest) in
      let split : flat ++ rest ≡ fx ++ (fxs ++ (fo ++ right)) = append_assoc fx (fxs ++ (fo ++ (fy ++ fys))) rest
      ∙ ap (λ us. fx ++ us) (append_assoc fxs (fo ++ (fy ++ fys)) rest ∙ ap (λ us. fxs ++ us) (append_assoc fo (fy ++ fys) rest ∙ ap (λ us. fo ++ us) (append_assoc fy fys rest))) in
      let start : List Sym = fx ++ (fxs ++ (fo ++ right)) in
      let span : covered start rest ≡ s = ap (λ us. covered us rest) (sym split) ∙ spanned_span s rest flat ((printed.pat_operand x).good && g2) good in
      ap (whole A S) split
      ∙ infix_go x xs (fo ++ right) (v_Side.Function (v_FunLhs.Infix s x xs o y ys)) rest h1.0 h2.0 (omega (arith, size1, fits)) (omega (arith, size1, size2, fits)) (var_op_ends o right) (var_op_looks o right h3.0)
      (chain _ (var_op_complete o right h3.0)
      (chain _ (operand_complete (suc m) A complete y (fys ++ rest) h4.0 (omega (arith, size1, size2, size3, size4, fits)) (nexts_end_operand ys rest h5.0 end.operand))
      (chain _ (nexts_complete (suc m) A complete ys rest h5.0 (omega (arith, size1, size2, size3, size4, fits)) end.whole_pattern)
      (ap (λ b. cond b (taken (v_Side.Function (v_FunLhs.Infix (covered start rest) x xs o y ys)) rest) None) h5.1
      ∙ ap (λ z. taken (v_Side.Function (v_FunLhs.Infix z x xs o y ys)) rest) span))))

  prefix_complete : (s : Span) (v : Var) (x : ArgPattern) (xs : List ArgPattern) (rest : List Sym) → (lhs_layer (FunLhs-F.Prefix s v (x ∷ xs))).good ≡ true
      → length (lhs_layer (FunLhs-F.Prefix s v (x ∷ xs))).flat ≤ suc m → ends_left rest ≡ true
      → whole A S ((lhs_layer (FunLhs-F.Prefix s v (x ∷ xs))).flat ++ rest) ≡ taken (v_Side.Function (v_FunLhs.Prefix s v (x ∷ xs))) rest
  unfolding lhs_layer prefix go
  prefix_complete s v x xs rest good fits ends =
      let head = printed.var v in
      let others = flat_all (map printed.arg_pattern (x ∷ xs)) in
      let flat : List Sym = head ++ others in
      let goods : Bool = good_all (map printed.arg_pattern (x ∷ xs)) in
      let g = both (plain_var v) goods (both (plain_var v && goods) _ good).0 in
      let size = length-append head others in
      let split : flat ++ rest ≡ head ++ (others ++ rest) = append_assoc head others rest in
      let start : List Sym = head ++ (others ++ rest) in
      let span : covered start rest ≡ s = ap (λ us. covered us rest) (sym split) ∙ spanned_span s rest flat (plain_var v && goods) good in
      ap (whole A S) split
      ∙ whole_at start (v_Front.Ended (v_FunLhs.Prefix (covered start rest) v (x ∷ xs))) rest _ rest
      (front_name A S v (others ++ rest) g.0 ∙ name_args A S start v (others ++ rest) (args_start x xs rest g.1)
      ∙ chain _ (args_complete (x ∷ xs) rest g.1 (omega (arith, size, fits)) (ends_parts rest ends).operand) refl) refl
      ∙ ap (λ z. taken (v_Side.Function (v_FunLhs.Prefix z v (x ∷ xs))) rest) span

  nested_complete : (s a : Span) (f : FunLhs) (b : Span) (y : ArgPattern) (ys : List ArgPattern) (rest : List Sym) → (lhs_layer (FunLhs-F.Nested s a f b y ys)).good ≡ true
      → length (lhs_layer (FunLhs-F.Nested s a f b y ys)).flat ≤ suc m → ends_left rest ≡ true
      → whole A S ((lhs_layer (FunLhs-F.Nested s a f b y ys)).flat ++ rest) ≡ taken (v_Side.Function (v_FunLhs.Nested s a f b y ys)) rest
  unfolding lhs_layer opened go
  nested_complete s a f b y ys rest good fits ends =
      let within = (printed.fun_lhs f).flat in
      let fy = (printed.arg_pattern y).flat in
      let fys = flat_all (map printed.arg_pattern ys) in
      let flat : List Sym = at k.Open a ∷ (within ++ (at k.Close b ∷ (fy ++ fys))) in
      let parts : Bool = (printed.arg_pattern y).good && good_all (map printed.arg_pattern ys) in
      let g = both (printed.fun_lhs f).good parts (both ((printed.fun_lhs f).good && parts) _ good).0 in
      let gs = both (printed.arg_pattern y).good (good_all (map printed.arg_pattern ys)) g.1 in
      let size1 = length-append within (at k.Close b ∷ (fy ++ fys)) in
      let size2 = length-append fy fys in
      let end = ends_parts rest ends in
      let behind : List Sym = fy ++ (fys ++ rest) in
      let tail : List Sym = at k.Close b ∷ behind in
      let split : flat ++ rest ≡ at k.Open a ∷ (within ++ tail) = ap (λ us. at k.Open a ∷ us) (append_assoc within (at k.Close b ∷ (fy ++ fys)) rest ∙ ap (λ us. within ++ (at k.Close b ∷ us)) (append_assoc fy fys rest)) in
      let start : List Sym = at k.Open a ∷ (within ++ tail) in
      let span : covered start rest ≡ s = ap (λ us. covered us rest) (sym split) ∙ spanned_span s rest flat ((printed.fun_lhs f).good && parts) good in
      let begins = lhs_starts f tail g.0 in
      let h = lhs_stands m S inside f tail g.0 (omega (arith, size1, fits)) (close_ends_left b behind) in
      ap (whole A S) split
      ∙ whole_at start (v_Front.Ended (v_FunLhs.Nested (covered start rest) a f b y ys)) rest _ rest
      (front_open A S start a (within ++ tail) (open_is_no_con a (within ++ tail) begins) (open_is_no_var a (within ++ tail) begins)
      ∙ chain (behind_inside A start a) h.read (inside_close A S start a h.found b behind
      ∙ close_args A S start a h.found f b behind h.is (arg_starts y (fys ++ rest) gs.0)
      ∙ chain _ (complete y (fys ++ rest) gs.0 (omega (arith, size1, size2, fits)) (args_end_arg ys rest gs.1 end.arg))
      (chain _ (args_complete ys rest gs.1 (omega (arith, size1, size2, fits)) end.operand) refl))) refl
      ∙ ap (λ z. taken (v_Side.Function (v_FunLhs.Nested z a f b y ys)) rest) span

  lhs_layer_complete : (y : LhsLayer) (rest : List Sym) → bare y ≡ false → (lhs_layer y).good ≡ true → length (lhs_layer y).flat ≤ suc m → ends_left rest ≡ true
      → whole A S ((lhs_layer y).flat ++ rest) ≡ taken (v_Side.Function (roll-FunLhs y)) rest
  lhs_layer_complete (FunLhs-F.Prefix s v []) rest more good fits ends = absurd (cc)
  lhs_layer_complete (FunLhs-F.Prefix s v (x ∷ xs)) rest more good fits ends = prefix_complete s v x xs rest good fits ends ∙ ap (λ (z : FunLhs). taken (v_Side.Function z) rest) (sym (v_FunLhs.rolls-Prefix s v (x ∷ xs)))
  lhs_layer_complete (FunLhs-F.Infix s x xs o y ys) rest more good fits ends = infix_complete s x xs o y ys rest good fits ends ∙ ap (λ (z : FunLhs). taken (v_Side.Function z) rest) (sym (v_FunLhs.rolls-Infix s x xs o y ys))
  lhs_layer_complete (FunLhs-F.Nested s a f b y ys) rest more good fits ends = nested_complete s a f b y ys rest good fits ends ∙ ap (λ (z : FunLhs). taken (v_Side.Function z) rest) (sym (v_FunLhs.rolls-Nested s a f b y ys))

  lhs_complete : (f : FunLhs) (rest : List Sym) → bare (out-FunLhs f) ≡ false → (printed.fun_lhs f).good ≡ true → length (printed.fun_lhs f).flat ≤ suc m → ends_left rest ≡ true
      → whole A S ((printed.fun_lhs f).flat ++ rest) ≡ taken (v_Side.Function f) rest
  lhs_complete f rest more good fits ends =
      let e = lhs_at f in
      ap (λ (p : Print). whole A S (p.flat ++ rest)) e
      ∙ lhs_layer_complete (out-FunLhs f) rest more (sym (ap (λ (p : Print). p.good) e) ∙ good) (subst (λ (p : Print). length p.flat ≤ suc m) e fits) ends
      ∙ ap (λ (z : FunLhs). taken (v_Side.Function z) rest) (roll-out-FunLhs f)

  -- a pattern that is more than a variable, by its parts
  parts_go : (x : PatOperand) (xs : List NextPattern) (rest : List Sym) → ((printed.pat_operand x).is_var && not (is_some (map printed.next_pattern xs))) ≡ false → (printed.pat_operand x).good ≡ true → good_all (map printed.next_pattern xs) ≡ true
      → length (printed.pat_operand x).flat ≤ suc m → length (flat_all (map printed.next_pattern xs)) ≤ suc m → ends_left rest ≡ true
      → whole A S ((printed.pat_operand x).flat ++ (flat_all (map printed.next_pattern xs) ++ rest))
      ≡ taken (v_Side.Pattern (roll-Pattern (record { span = covered ((printed.pat_operand x).flat ++ (flat_all (map printed.next_pattern xs) ++ rest)) rest; first = x; others = xs }))) rest
  unfolding go patterned
  parts_go x xs rest more good goods fits fits' ends =
      let end = ends_parts rest ends in
      let mid : List Sym = flat_all (map printed.next_pattern xs) ++ rest in
      let begins : ends_operand mid ≡ true = nexts_end_operand xs rest goods end.operand in
      let others = nexts_complete (suc m) A complete xs rest goods fits' end.whole_pattern in
      elim (operand_shape x) [
        | inl h ↦ let p : printed.pat_operand x ≡ record { flat = printed.var h.0; good = plain_var h.0; is_open = false; is_var = true; is_parted = false } = ap printed.pat_operand h.1 ∙ var_operand_printed h.0 in
            let flat : (printed.pat_operand x).flat ≡ printed.var h.0 = ap (λ (q : Print). q.flat) p in
            let plain : plain_var h.0 ≡ true = sym (ap (λ (q : Print). q.good) p) ∙ good in
            let some : not (is_some (map printed.next_pattern xs)) ≡ false = sym (ap (λ (q : Print). q.is_var && not (is_some (map printed.next_pattern xs))) p) ∙ more in
            let start : List Sym = printed.var h.0 ++ mid in
            ap (λ us. whole A S (us ++ mid)) flat
            ∙ whole_at start (v_Front.Alone h.0) mid _ rest (var_front_complete h.0 mid plain begins)
            (chain (behind_alone A start h.0) others (ap (λ b. cond b (infixed A start (var_operand h.0) xs rest) (alone start h.0 xs rest)) end.no_op
            ∙ alone_more start h.0 xs rest some))
            ∙ ap (λ (z : PatOperand). taken (v_Side.Pattern (roll-Pattern (record { span = covered start rest; first = z; others = xs }))) rest) (sym h.1)
            ∙ ap (λ us. taken (v_Side.Pattern (roll-Pattern (record { span = covered (us ++ mid) rest; first = x; others = xs }))) rest) (sym flat)
        | inr h ↦ let start : List Sym = (printed.pat_operand x).flat ++ mid in
            whole_at start (v_Front.Operand x) mid _ rest (operand_front_complete x mid h good fits begins)
            (chain (behind_operands A start x) others (ap (λ b. cond b (infixed A start x xs rest) (patterned start x xs rest)) end.no_op))
      ]

  pat_complete : (p : Pattern) (rest : List Sym) → (printed.pattern p).is_var ≡ false → (printed.pattern p).good ≡ true → length (printed.pattern p).flat ≤ suc m → ends_left rest ≡ true
      → whole A S ((printed.pattern p).flat ++ rest) ≡ taken (v_Side.Pattern p) rest
  pat_complete p rest more good fits ends =
      let y = out-Pattern p in
      let head = (printed.pat_operand y.first).flat in
      let others = flat_all (map printed.next_pattern y.others) in
      let good' = sym (pattern_is_good p) ∙ good in
      let g = both (printed.pat_operand y.first).good (good_all (map printed.next_pattern y.others)) (both (pattern_good p) _ good').0 in
      let fits' : length (head ++ others) ≤ suc m = subst (λ us. length us ≤ suc m) (pattern_is_flat p) fits in
      let size = length-append head others in
      let split : (printed.pattern p).flat ++ rest ≡ head ++ (others ++ rest) = ap (λ us. us ++ rest) (pattern_is_flat p) ∙ append_assoc head others rest in
      let start : List Sym = head ++ (others ++ rest) in
      let span : covered start rest ≡ y.span = ap (λ us. covered us rest) (sym (append_assoc head others rest)) ∙ spanned_span y.span rest (head ++ others) (pattern_good p) good' in
      ap (whole A S) split
      ∙ parts_go y.first y.others rest (sym (pattern_var_is p) ∙ more) g.0 g.1 (omega (arith, size, fits')) (omega (arith, size, fits')) ends
      ∙ ap (λ (z : Span). taken (v_Side.Pattern (roll-Pattern (record { span = z; first = y.first; others = y.others }))) rest) span
      ∙ ap (λ (z : Pattern). taken (v_Side.Pattern z) rest) (roll-out-Pattern p)

  whole_complete : CompleteSide (suc m) (whole A S)
  whole_complete = record {
    one = λ s v rest good fits ends. one_complete s v rest good ends;
    lhs = lhs_complete;
    pat = pat_complete;
  }

-- ---- every depth

begins_some : (flat : List Sym) → begins_left (flat ++ []) ≡ true → 1 ≤ length flat
begins_some [] e = absurd (cc)
begins_some (s ∷ ss) e = omega arith

var_some : (v : Var) → 1 ≤ length (printed.var v)
var_some (n_Var.Word n) = omega arith
var_some (n_Var.Symbol a n b) = omega arith

pub side_complete : (n : ℕ) → CompleteSide n (side n)
unfolding side
side_complete zero = record {
  one = λ s v rest good fits ends. absurd (let h = var_some v in omega arith);
  lhs = λ f rest more good fits ends. absurd (let h = begins_some (printed.fun_lhs f).flat (lhs_starts f [] good) in omega arith);
  pat = λ p rest more good fits ends. absurd (let h = begins_some (printed.pattern p).flat (pattern_starts p [] good) in omega arith);
}
side_complete (suc n) = whole_complete n (arg (suc n)) (arg_complete (suc n)) (side n) (side_complete n)

-- a left side of at most so many tokens is read back, where what follows does not go on with it
pub left_complete : (n : ℕ) → Complete left_print ends_left n (left n)
unfolding left
left_complete n (v_Left.Function f) rest good fits ends = elim (lhs_shape f) [
  | inl h ↦ let e : printed.fun_lhs f ≡ spanned h.0 (printed.var h.1 ++ []) (plain_var h.1 && true) = ap printed.fun_lhs h.2 ∙ printed_fun_lhs_prefix h.0 h.1 [] in
      ap (λ (q : Print). left n (q.flat ++ rest)) e
      ∙ chain _ (one_stands n (side n) (side_complete n) h.0 h.1 rest (sym (ap (λ (q : Print). q.good) e) ∙ good) (subst (λ (q : Print). length q.flat ≤ n) e fits) ends)
      (ap (λ (g : FunLhs). taken (v_Left.Function g) rest) (sym h.2))
  | inr h ↦ chain _ ((side_complete n).lhs f rest h good fits ends) refl
]
left_complete n (v_Left.Pattern p) rest good fits ends =
    let g = both (printed.pattern p).good (not (printed.pattern p).is_var) good in
    chain _ ((side_complete n).pat p rest (not_is (printed.pattern p).is_var g.1) g.0 fits ends) refl
