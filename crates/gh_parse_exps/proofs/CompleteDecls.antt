-- What is printed of a well-formed declaration, right side or block of declarations is read, where what stands inside is.
use Rattle.std.proofs.Common.{◌≡◌, ℕ, suc, ◌≤◌, Bool, true, false, not, ◌&&◌, cond, List, [], ◌∷◌, ◌++◌, length, map, Option, Some, None, refl, sym, ap, ◌∙◌, subst, append_assoc, arith, length-append}
use Rattle.gh_base.specs.declared.place.Span.{Span}
use Rattle.gh_tree.specs.declared.symbol.Kind.{Kind}
use Rattle.gh_tree.specs.declared.symbol.Kind.TheVariants as k
use Rattle.gh_tree.specs.declared.symbol.Sym.{Sym}
use Rattle.gh_tree.specs.declared.names.BlockMark.{BlockMark}
use Rattle.gh_tree.specs.declared.names.BlockMark.TheVariants as n_BlockMark
use Rattle.gh_tree.specs.declared.names.FixityWord.{FixityWord}
use Rattle.gh_tree.specs.declared.names.FixityWord.TheVariants as n_FixityWord
use Rattle.gh_tree.specs.declared.names.Op.{Op}
use Rattle.gh_tree.specs.declared.names.Op.TheVariants as n_Op
use Rattle.gh_tree.specs.declared.names.VarOp.TheVariants as n_VarOp
use Rattle.gh_tree.specs.declared.names.ConOp.TheVariants as n_ConOp
use Rattle.gh_tree.specs.declared.names.NextVar.{NextVar}
use Rattle.gh_tree.specs.declared.names.NextOp.{NextOp}
use Rattle.gh_tree.specs.declared.names.Var.{Var}
use Rattle.gh_tree.specs.declared.names.Var.TheVariants as n_Var
use Rattle.gh_tree.specs.declared.types.TypeExpr.{TypeExpr}
use Rattle.gh_tree.specs.declared.patterns.Pattern.{Pattern}
use Rattle.gh_tree.specs.declared.expressions.Decl.{Decl, roll-Decl, out-Decl, roll-out-Decl}
use Rattle.gh_tree.specs.declared.expressions.Decl.TheVariants as v_Decl
use Rattle.gh_tree.specs.declared.expressions.DeclItem.{DeclItem, roll-DeclItem, out-DeclItem, roll-out-DeclItem}
use Rattle.gh_tree.specs.declared.expressions.Decls.{Decls, roll-Decls, out-Decls, roll-out-Decls}
use Rattle.gh_tree.specs.declared.expressions.Exp.{Exp}
use Rattle.gh_tree.specs.declared.expressions.Exp.TheVariants as v_Exp
use Rattle.gh_tree.specs.declared.expressions.Guard.{Guard, roll-Guard, out-Guard, roll-out-Guard}
use Rattle.gh_tree.specs.declared.expressions.OperandList.{OperandList}
use Rattle.gh_tree.specs.declared.expressions.Rhs.{Rhs, roll-Rhs, out-Rhs, roll-out-Rhs}
use Rattle.gh_tree.specs.declared.expressions.Rhs.TheVariants as v_Rhs
use Rattle.gh_tree.specs.declared.expressions.Where.{Where, roll-Where, out-Where, roll-out-Where}
use Rattle.gh_tree.specs.declared.expressions.Where.TheVariants as v_Where
use Rattle.gh_tree.specs.declared.expressions.Aexp.TheOpen.{Decl-F, Rhs-F, Where-F}
use Rattle.gh_tree.specs.Syms.{at}
use Rattle.gh_tree.specs.Print.{Print, print, spanned, flat_all, good_all, parted, is_some, is_level, level_flat, op_flat, plain_op, plain_var, block}
use Rattle.gh_tree.specs.Print as printed
use Rattle.gh_tree.specs.Read.{and_then, taken, kind, after, covered}
use Rattle.gh_tree.proofs.Steps.{chain, both, and_is, not_is, spanned_span}
use Rattle.gh_tree.proofs.Many.{items_complete, Complete, anything}
use Rattle.gh_tree.proofs.CompleteNames.{var_complete, var_looks}
use Rattle.gh_tree.proofs.Printed.{printed_exp_plain}
use Rattle.gh_parse_lefts.specs.declared.sides.Left.{Left}
use Rattle.gh_parse_lefts.specs.declared.sides.Left.TheVariants as v_Left
use Rattle.gh_parse_lefts.specs.Lefts.{left_print, begins_left, begins_left_by, begins_rhs, begins_rhs_by}
use Rattle.gh_parse_lefts.proofs.Complete.{left_starts}
use Rattle.gh_parse_exps.specs.Knot.{Knot}
use Rattle.gh_parse_exps.specs.Ops.{is_banana, any_var_next, call_next}
use Rattle.gh_parse_exps.specs.Marks.{is_where, is_bar, bar_next, semi_next, semis, part_ends}
use Rattle.gh_parse_exps.specs.Decls.{fixity_word, level, fixity, signs, signature_next, plain_or, closed_or, plain, closed, signature, where_block, where_by, where_part, guard, guards, plain_rhs, guarded_rhs, rhs_by, rhs, sided_by, sided, other_decl, decl_by, decl, decl_item, decl_items, decls_end, whole_decls}
use Rattle.gh_parse_exps.proofs.IsOpen.{plain_plain}
use Rattle.gh_parse_exps.proofs.Layers.{where_layer, where_at, WhereLayer, guard_at, rhs_layer, rhs_at, RhsLayer, decl_layer, decl_at, DeclLayer, decl_item_at, decls_at}
use Rattle.gh_parse_exps.proofs.Ends.{ends_closed, ends_exp, ends_decl, stops_exp, exp_closed, exp_type, bar_ends, decl_ends_exp, decl_no_where, decl_no_bar, decl_no_comma, rhs_ends_left}
use Rattle.gh_parse_exps.proofs.Starts.{some_of}
use Rattle.gh_parse_exps.proofs.CompleteMarks.{begins_item, begins_item_by, block_open_complete, block_close_complete, semis_complete, parts_complete, parts_no_semi, block_tail, block_start, block_of}
use Rattle.gh_parse_exps.proofs.CompleteOps.{var_behind, defined_op_complete, next_vars_complete, next_ops_complete}
use Rattle.gh_parse_exps.proofs.Lefts.{left_no_signature, left_no_call}
use Rattle.gh_parse_exps.proofs.Premises.{KnotComplete}

-- ---- what each begins with

pub guard_starts : (x : Guard) (rest : List Sym) → (printed.guard x).good ≡ true → bar_next ((printed.guard x).flat ++ rest) ≡ true
guard_starts x rest good = ap (λ (p : Print). bar_next (p.flat ++ rest)) (guard_at x)

bar_begins_rhs : (kind : Option Kind) → is_bar kind ≡ true → begins_rhs_by kind ≡ true
bar_begins_rhs (Some k.Bar) e = refl
bar_begins_rhs _ e = absurd (cc)

rhs_layer_starts : (y : RhsLayer) (rest : List Sym) → (rhs_layer y).good ≡ true → begins_rhs ((rhs_layer y).flat ++ rest) ≡ true
unfolding rhs_layer
rhs_layer_starts (Rhs-F.Rhs::Plain s m x w) rest good = refl
rhs_layer_starts (Rhs-F.Rhs::Guarded s x xs w) rest good =
    let others : List Sym = flat_all (map printed.guard xs) ++ (printed.where_part w).flat in
    let h = both ((printed.guard x).good && (good_all (map printed.guard xs) && (printed.where_part w).good)) _ good in
    let g = both (printed.guard x).good (good_all (map printed.guard xs) && (printed.where_part w).good) h.0 in
    ap begins_rhs (append_assoc (printed.guard x).flat others rest) ∙ bar_begins_rhs _ (guard_starts x (others ++ rest) g.0)

pub rhs_starts : (x : Rhs) (rest : List Sym) → (printed.rhs x).good ≡ true → begins_rhs ((printed.rhs x).flat ++ rest) ≡ true
rhs_starts x rest good =
    ap (λ (p : Print). begins_rhs (p.flat ++ rest)) (rhs_at x) ∙ rhs_layer_starts (out-Rhs x) rest (sym (ap (λ (p : Print). p.good) (rhs_at x)) ∙ good)

rhs_some : (x : Rhs) → (printed.rhs x).good ≡ true → 1 ≤ length (printed.rhs x).flat
rhs_some x good = some_of begins_rhs (printed.rhs x).flat refl (rhs_starts x [] good)

-- ---- what stands behind the last expression of a right side

record BehindExp (ss : List Sym) : Type 0 where
  ends : ends_exp ss ≡ true
  no_bar : bar_next ss ≡ false

where_layer_behind : (y : WhereLayer) (rest : List Sym) → ends_decl rest ≡ true → BehindExp ((where_layer y).flat ++ rest)
unfolding where_layer
where_layer_behind Where-F.Absent rest e = record { ends = decl_ends_exp rest e; no_bar = decl_no_bar rest e }
where_layer_behind (Where-F.Block m ds) rest e = record { ends = stops_exp (at k.Where m ∷ ((printed.decls ds).flat ++ rest)) refl; no_bar = refl }

where_behind : (x : Where) (rest : List Sym) → ends_decl rest ≡ true → BehindExp ((printed.where_part x).flat ++ rest)
where_behind x rest e = subst (λ (p : Print). BehindExp (p.flat ++ rest)) (sym (where_at x)) (where_layer_behind (out-Where x) rest e)

pub where_ends_exp : (x : Where) (rest : List Sym) → ends_decl rest ≡ true → ends_exp ((printed.where_part x).flat ++ rest) ≡ true
where_ends_exp x rest e = (where_behind x rest e).ends

pub where_no_bar : (x : Where) (rest : List Sym) → ends_decl rest ≡ true → bar_next ((printed.where_part x).flat ++ rest) ≡ false
where_no_bar x rest e = (where_behind x rest e).no_bar

pub guards_end_exp : (xs : List Guard) (rest : List Sym) → good_all (map printed.guard xs) ≡ true → ends_exp rest ≡ true → ends_exp (flat_all (map printed.guard xs) ++ rest) ≡ true
guards_end_exp [] rest good ends = ends
guards_end_exp (x ∷ xs) rest good ends =
    ap ends_exp (append_assoc (printed.guard x).flat (flat_all (map printed.guard xs)) rest)
    ∙ bar_ends _ (guard_starts x (flat_all (map printed.guard xs) ++ rest) (both (printed.guard x).good (good_all (map printed.guard xs)) good).0)

-- ---- which rule is picked

abbrev is_fixity : Option Kind → Bool
is_fixity (Some k.Infixl) = true
is_fixity (Some k.Infixr) = true
is_fixity (Some k.Infix) = true
is_fixity _ = false

record LeftFirst (first : Option Kind) : Type 0 where
  item : begins_item_by first ≡ true
  no_fixity : is_fixity first ≡ false

left_first : (first second : Option Kind) → begins_left_by first second ≡ true → LeftFirst first
left_first (Some (k.VarSym None n)) second e = record { item = refl; no_fixity = refl }
left_first (Some (k.VarId None n)) second e = record { item = refl; no_fixity = refl }
left_first (Some (k.ConId q n)) second e = record { item = refl; no_fixity = refl }
left_first (Some (k.Int n)) second e = record { item = refl; no_fixity = refl }
left_first (Some (k.Char n)) second e = record { item = refl; no_fixity = refl }
left_first (Some (k.Str n)) second e = record { item = refl; no_fixity = refl }
left_first (Some k.Underscore) second e = record { item = refl; no_fixity = refl }
left_first (Some k.Open) second e = record { item = refl; no_fixity = refl }
left_first (Some k.OpenList) second e = record { item = refl; no_fixity = refl }
left_first _ second e = absurd (cc)

pub left_item : (ss : List Sym) → begins_left ss ≡ true → begins_item ss ≡ true
left_item ss e = (left_first (kind ss) (kind (after ss)) e).item

var_first : (v : Var) (rest : List Sym) → LeftFirst (kind (printed.var v ++ rest))
var_first (n_Var.Word n) rest = record { item = refl; no_fixity = refl }
var_first (n_Var.Symbol a n b) rest = record { item = refl; no_fixity = refl }

and_no : (a b : Bool) → b ≡ false → (a && b) ≡ false
and_no true b e = e
and_no false b e = refl

-- behind the first variable of a signature
signature_behind : (vs : List NextVar) (m : Span) (ss : List Sym) → (signs (kind (flat_all (map printed.next_var vs) ++ (at k.Colons m ∷ ss))) ≡ true) × (is_banana (kind (flat_all (map printed.next_var vs) ++ (at k.Colons m ∷ ss))) ≡ false)
signature_behind [] m ss = (refl, refl)
signature_behind (v ∷ vs) m ss = (refl, refl)

abbrev signature_flat : Var → List NextVar → Span → TypeExpr → List Sym
signature_flat v vs m t = printed.var v ++ (flat_all (map printed.next_var vs) ++ (at k.Colons m ∷ (printed.type_expr t).flat))

signature_split : (v : Var) (vs : List NextVar) (m : Span) (t : TypeExpr) (rest : List Sym)
    → signature_flat v vs m t ++ rest ≡ printed.var v ++ (flat_all (map printed.next_var vs) ++ (at k.Colons m ∷ ((printed.type_expr t).flat ++ rest)))
signature_split v vs m t rest =
    append_assoc (printed.var v) (flat_all (map printed.next_var vs) ++ (at k.Colons m ∷ (printed.type_expr t).flat)) rest
    ∙ ap (λ us. printed.var v ++ us) (append_assoc (flat_all (map printed.next_var vs)) (at k.Colons m ∷ (printed.type_expr t).flat) rest)

signature_looks : (v : Var) (vs : List NextVar) (m : Span) (ss : List Sym) → plain_var v ≡ true → signature_next (printed.var v ++ (flat_all (map printed.next_var vs) ++ (at k.Colons m ∷ ss))) ≡ true
unfolding signature_next
signature_looks v vs m ss good =
    let tail : List Sym = flat_all (map printed.next_var vs) ++ (at k.Colons m ∷ ss) in
    and_is (var_looks v tail good) (ap signs (var_behind v tail) ∙ (signature_behind vs m ss).0)

signature_no_call : (v : Var) (vs : List NextVar) (m : Span) (ss : List Sym) → call_next (printed.var v ++ (flat_all (map printed.next_var vs) ++ (at k.Colons m ∷ ss))) ≡ false
unfolding call_next
signature_no_call v vs m ss =
    let tail : List Sym = flat_all (map printed.next_var vs) ++ (at k.Colons m ∷ ss) in
    and_no _ _ (ap is_banana (var_behind v tail) ∙ (signature_behind vs m ss).1)

fixity_no_call : (w : FixityWord) (ss : List Sym) → call_next (printed.fixity_word w ∷ ss) ≡ false
unfolding call_next any_var_next
fixity_no_call (n_FixityWord.Left s) ss = refl
fixity_no_call (n_FixityWord.Right s) ss = refl
fixity_no_call (n_FixityWord.Neither s) ss = refl

close_no_call : (b : BlockMark) (rest : List Sym) → call_next (printed.block_close b ∷ rest) ≡ false
unfolding call_next any_var_next
close_no_call (n_BlockMark.Written s) rest = refl
close_no_call (n_BlockMark.Inserted p) rest = refl

-- ---- fixities

fixity_word_complete : (w : FixityWord) (rest : List Sym) → fixity_word (printed.fixity_word w ∷ rest) ≡ taken w rest
unfolding fixity_word
fixity_word_complete (n_FixityWord.Left s) rest = refl
fixity_word_complete (n_FixityWord.Right s) rest = refl
fixity_word_complete (n_FixityWord.Neither s) rest = refl

level_complete : (l : Option (Span × ℕ)) (o : Op) (rest : List Sym) → is_level l ≡ true → level (level_flat l ++ (op_flat o ++ rest)) ≡ taken l (op_flat o ++ rest)
unfolding level
level_complete None (n_Op.Var (n_VarOp.Symbol n)) rest good = refl
level_complete None (n_Op.Var (n_VarOp.Quoted a n b)) rest good = refl
level_complete None (n_Op.Con (n_ConOp.Symbol n)) rest good = refl
level_complete None (n_Op.Con (n_ConOp.Colon a)) rest good = refl
level_complete None (n_Op.Con (n_ConOp.Quoted a n b)) rest good = refl
level_complete (Some l) o rest good = ap (λ b. cond b (taken (Some l) (op_flat o ++ rest)) None) good

fixity_complete : (s : Span) (w : FixityWord) (l : Option (Span × ℕ)) (o : Op) (os : List NextOp) (rest : List Sym) → (decl_layer (Decl-F.Fixity s w l o os)).good ≡ true → ends_decl rest ≡ true
    → fixity ((decl_layer (Decl-F.Fixity s w l o os)).flat ++ rest) ((decl_layer (Decl-F.Fixity s w l o os)).flat ++ rest) ≡ taken (v_Decl.Fixity s w l o os) rest
unfolding fixity decl_layer
fixity_complete s w l o os rest good ends =
    let others = flat_all (map printed.next_op os) in
    let flat : List Sym = printed.fixity_word w ∷ (level_flat l ++ (op_flat o ++ others)) in
    let all_good : Bool = is_level l && (plain_op o && good_all (map printed.next_op os)) in
    let h = both all_good _ good in
    let g = both (is_level l) (plain_op o && good_all (map printed.next_op os)) h.0 in
    let gs = both (plain_op o) (good_all (map printed.next_op os)) g.1 in
    let start : List Sym = flat ++ rest in
    let tail : List Sym = level_flat l ++ (op_flat o ++ (others ++ rest)) in
    let split : start ≡ printed.fixity_word w ∷ tail =
    ap (λ us. printed.fixity_word w ∷ us) (append_assoc (level_flat l) (op_flat o ++ others) rest ∙ ap (λ us. level_flat l ++ us) (append_assoc (op_flat o) others rest)) in
    ap (fixity start) split
    ∙ chain _ (fixity_word_complete w tail)
    (chain _ (level_complete l o (others ++ rest) g.0)
    (chain _ (defined_op_complete o (others ++ rest) gs.0)
    (chain _ (next_ops_complete os rest gs.1 (decl_no_comma rest ends))
    (ap (λ z. taken (v_Decl.Fixity z w l o os) rest) (spanned_span s rest flat all_good good)))))

-- a left side and a right side
pattern_goods : (s : Span) (p : Pattern) (r : Rhs) → (decl_layer (Decl-F.Pattern s p r)).good ≡ true → ((left_print (v_Left.Pattern p)).good ≡ true) × ((printed.rhs r).good ≡ true)
unfolding decl_layer
pattern_goods s p r good =
    let h = both ((printed.pattern p).good && ((printed.rhs r).good && not (printed.pattern p).is_var)) _ good in
    let g = both (printed.pattern p).good ((printed.rhs r).good && not (printed.pattern p).is_var) h.0 in
    let gs = both (printed.rhs r).good (not (printed.pattern p).is_var) g.1 in
    (and_is g.0 gs.1, gs.0)

abbrev side_decl : Left → Span → Rhs → Decl
side_decl (v_Left.Function f) s r = v_Decl.Function s f r
side_decl (v_Left.Pattern p) s r = v_Decl.Pattern s p r

decl_layer_starts : (y : DeclLayer) (rest : List Sym) → (decl_layer y).good ≡ true → begins_item ((decl_layer y).flat ++ rest) ≡ true
unfolding decl_layer
decl_layer_starts (Decl-F.Signature s v vs a t) rest good =
    ap begins_item (signature_split v vs a t rest) ∙ (var_first v (flat_all (map printed.next_var vs) ++ (at k.Colons a ∷ ((printed.type_expr t).flat ++ rest)))).item
decl_layer_starts (Decl-F.Fixity s (n_FixityWord.Left a) l o os) rest good = refl
decl_layer_starts (Decl-F.Fixity s (n_FixityWord.Right a) l o os) rest good = refl
decl_layer_starts (Decl-F.Fixity s (n_FixityWord.Neither a) l o os) rest good = refl
decl_layer_starts (Decl-F.Function s f r) rest good =
    let h = both ((printed.fun_lhs f).good && (printed.rhs r).good) _ good in
    let g = both (printed.fun_lhs f).good (printed.rhs r).good h.0 in
    ap begins_item (append_assoc (printed.fun_lhs f).flat (printed.rhs r).flat rest)
    ∙ (left_first _ _ (left_starts (v_Left.Function f) ((printed.rhs r).flat ++ rest) g.0)).item
decl_layer_starts (Decl-F.Pattern s p r) rest good =
    let g = pattern_goods s p r good in
    ap begins_item (append_assoc (printed.pattern p).flat (printed.rhs r).flat rest)
    ∙ (left_first _ _ (left_starts (v_Left.Pattern p) ((printed.rhs r).flat ++ rest) g.0)).item

pub decl_starts : (x : Decl) (rest : List Sym) → (printed.decl x).good ≡ true → begins_item ((printed.decl x).flat ++ rest) ≡ true
decl_starts x rest good =
    ap (λ (p : Print). begins_item (p.flat ++ rest)) (decl_at x) ∙ decl_layer_starts (out-Decl x) rest (sym (ap (λ (p : Print). p.good) (decl_at x)) ∙ good)

decl_layer_no_call : (y : DeclLayer) (rest : List Sym) → (decl_layer y).good ≡ true → call_next ((decl_layer y).flat ++ rest) ≡ false
unfolding decl_layer
decl_layer_no_call (Decl-F.Signature s v vs a t) rest good = ap call_next (signature_split v vs a t rest) ∙ signature_no_call v vs a ((printed.type_expr t).flat ++ rest)
decl_layer_no_call (Decl-F.Fixity s w l o os) rest good = fixity_no_call w _
decl_layer_no_call (Decl-F.Function s f r) rest good =
    let h = both ((printed.fun_lhs f).good && (printed.rhs r).good) _ good in
    let g = both (printed.fun_lhs f).good (printed.rhs r).good h.0 in
    ap call_next (append_assoc (printed.fun_lhs f).flat (printed.rhs r).flat rest) ∙ left_no_call (v_Left.Function f) ((printed.rhs r).flat ++ rest) g.0 (rhs_starts r rest g.1)
decl_layer_no_call (Decl-F.Pattern s p r) rest good =
    let g = pattern_goods s p r good in
    ap call_next (append_assoc (printed.pattern p).flat (printed.rhs r).flat rest) ∙ left_no_call (v_Left.Pattern p) ((printed.rhs r).flat ++ rest) g.0 (rhs_starts r rest g.1)

pub decl_no_call : (x : Decl) (rest : List Sym) → (printed.decl x).good ≡ true → call_next ((printed.decl x).flat ++ rest) ≡ false
decl_no_call x rest good =
    ap (λ (p : Print). call_next (p.flat ++ rest)) (decl_at x) ∙ decl_layer_no_call (out-Decl x) rest (sym (ap (λ (p : Print). p.good) (decl_at x)) ∙ good)

-- a block of declarations does not begin with the redefinition of a generic function
pub decls_no_call : (xs : List DeclItem) (b : BlockMark) (rest : List Sym) → good_all (map printed.decl_item xs) ≡ true → call_next (flat_all (map printed.decl_item xs) ++ (printed.block_close b ∷ rest)) ≡ false
decls_no_call [] b rest good = close_no_call b rest
decls_no_call (x ∷ xs) b rest good =
    let y = out-DeclItem x in
    let e = decl_item_at x in
    let g = (both (printed.decl_item x).good (good_all (map printed.decl_item xs)) good).0 in
    let tail : List Sym = flat_all (map printed.decl_item xs) ++ (printed.block_close b ∷ rest) in
    ap call_next (append_assoc (printed.decl_item x).flat (flat_all (map printed.decl_item xs)) (printed.block_close b ∷ rest))
    ∙ ap (λ (p : Print). call_next (p.flat ++ tail)) e
    ∙ ap call_next (append_assoc (printed.decl y.decl).flat (map printed.block_semi y.marks) tail)
    ∙ decl_no_call y.decl (map printed.block_semi y.marks ++ tail) (sym (ap (λ (p : Print). p.good) e) ∙ g)

module _ (K : Knot) (m : ℕ) (C : KnotComplete K m) where
  -- ---- operands without a type

  pub closed_complete : (xs : OperandList) (rest : List Sym) → (printed.operands xs).good ≡ true → (printed.operands xs).is_open ≡ false → length (printed.operands xs).flat ≤ m → ends_closed rest ≡ true
      → closed K ((printed.operands xs).flat ++ rest) ≡ taken xs rest
  unfolding closed
  closed_complete xs rest good shut fits ends =
      chain _ (C.closed xs rest good shut fits ends)
      (ap (λ o. closed_or o rest) (plain_plain xs) ∙ ap (λ b. cond (not b) (taken xs rest) None) shut)

  pub plain_complete : (xs : OperandList) (rest : List Sym) → (printed.operands xs).good ≡ true → length (printed.operands xs).flat ≤ m → ends_exp rest ≡ true
      → plain K ((printed.operands xs).flat ++ rest) ≡ taken xs rest
  unfolding plain
  plain_complete xs rest good fits ends =
      let e = printed_exp_plain xs in
      let good' : (printed.exp (v_Exp.Plain xs)).good ≡ true = ap (λ (p : Print). p.good) e ∙ good in
      let fits' : length (printed.exp (v_Exp.Plain xs)).flat ≤ m = subst (λ (p : Print). length p.flat ≤ m) (sym e) fits in
      chain _ (ap (λ (p : Print). K.exp (p.flat ++ rest)) (sym e) ∙ C.exp (v_Exp.Plain xs) rest good' fits' ends)
      (ap (λ o. plain_or o rest) (plain_plain xs))

  -- ---- right sides

  where_layer_complete : (y : WhereLayer) (rest : List Sym) → (where_layer y).good ≡ true → length (where_layer y).flat ≤ suc m → ends_decl rest ≡ true → where_part K ((where_layer y).flat ++ rest) ≡ taken (roll-Where y) rest
  unfolding where_layer where_part where_block
  where_layer_complete Where-F.Absent rest good fits ends = at_kind (kind rest) (decl_no_where rest ends) ∙ ap (λ (z : Where). taken z rest) (sym v_Where.rolls-Absent)
    where
      at_kind : (kind : Option Kind) → is_where kind ≡ false → where_by K kind rest ≡ taken v_Where.Absent rest
      at_kind (Some k.Where) e = absurd (cc)
      at_kind _ e = refl
  where_layer_complete (Where-F.Block a ds) rest good fits ends =
      chain _ (C.decls ds rest good (omega (arith, fits)) refl) (ap (λ (z : Where). taken z rest) (sym (v_Where.rolls-Block a ds)))

  pub where_complete : Complete printed.where_part ends_decl (suc m) (where_part K)
  where_complete x rest good fits ends =
      let e = where_at x in
      ap (λ (p : Print). where_part K (p.flat ++ rest)) e
      ∙ where_layer_complete (out-Where x) rest (sym (ap (λ (p : Print). p.good) e) ∙ good) (subst (λ (p : Print). length p.flat ≤ suc m) e fits) ends
      ∙ ap (λ (z : Where). taken z rest) (roll-out-Where x)

  guard_complete : Complete printed.guard ends_exp (suc m) (guard K)
  unfolding guard
  guard_complete x rest good fits ends =
      let y = out-Guard x in
      let e = guard_at x in
      let test = printed.operands y.test in
      let body = printed.exp y.body in
      let inner : List Sym = at k.Equals y.mark ∷ body.flat in
      let flat : List Sym = at k.Bar y.bar ∷ (test.flat ++ inner) in
      let all_good : Bool = test.good && (not test.is_open && body.good) in
      let good' : (spanned y.span flat all_good).good ≡ true = sym (ap (λ (p : Print). p.good) e) ∙ good in
      let fits' : length flat ≤ suc m = subst (λ (p : Print). length p.flat ≤ suc m) e fits in
      let h = both all_good _ good' in
      let g = both test.good (not test.is_open && body.good) h.0 in
      let gs = both (not test.is_open) body.good g.1 in
      let size = length-append test.flat inner in
      let tail : List Sym = at k.Equals y.mark ∷ (body.flat ++ rest) in
      let start : List Sym = at k.Bar y.bar ∷ (test.flat ++ tail) in
      let split : flat ++ rest ≡ start = ap (λ us. at k.Bar y.bar ∷ us) (append_assoc test.flat inner rest) in
      let span : covered start rest ≡ y.span = ap (λ us. covered us rest) (sym split) ∙ spanned_span y.span rest flat all_good good' in
      ap (λ (p : Print). guard K (p.flat ++ rest)) e
      ∙ ap (guard K) split
      ∙ chain _ (closed_complete y.test tail g.0 (not_is _ gs.0) (omega (arith, size, fits')) (exp_closed tail (stops_exp tail refl)))
      (chain _ (C.exp y.body rest gs.1 (omega (arith, size, fits')) ends)
      (ap (λ (s : Span). taken (roll-Guard (record { span = s; bar = y.bar; test = y.test; mark = y.mark; body = y.body })) rest) span))
      ∙ ap (λ (z : Guard). taken z rest) (roll-out-Guard x)

  guards_complete : (xs : List Guard) (rest : List Sym) → good_all (map printed.guard xs) ≡ true → length (flat_all (map printed.guard xs)) ≤ suc m → ends_exp rest ≡ true → bar_next rest ≡ false
      → guards K (flat_all (map printed.guard xs) ++ rest) ≡ taken xs rest
  unfolding guards
  guards_complete xs rest good fits ends end = items_complete printed.guard bar_next (guard K) refl ends_exp (suc m) guard_starts guard_complete bar_ends xs rest good fits ends end

  rhs_guarded : (ss : List Sym) → bar_next ss ≡ true → rhs K ss ≡ guarded_rhs K ss ss
  unfolding rhs
  rhs_guarded ss e = at_kind (kind ss) e
    where
      at_kind : (kind : Option Kind) → is_bar kind ≡ true → rhs_by K kind ss ss ≡ guarded_rhs K ss ss
      at_kind (Some k.Bar) e = refl
      at_kind _ e = absurd (cc)

  plain_rhs_complete : (s a : Span) (x : Exp) (w : Where) (rest : List Sym) → (rhs_layer (Rhs-F.Rhs::Plain s a x w)).good ≡ true → length (rhs_layer (Rhs-F.Rhs::Plain s a x w)).flat ≤ suc m → ends_decl rest ≡ true
      → rhs K ((rhs_layer (Rhs-F.Rhs::Plain s a x w)).flat ++ rest) ≡ taken (v_Rhs.Plain s a x w) rest
  unfolding rhs plain_rhs rhs_layer
  plain_rhs_complete s a x w rest good fits ends =
      let inside = (printed.exp x).flat in
      let behind = (printed.where_part w).flat in
      let flat : List Sym = at k.Equals a ∷ (inside ++ behind) in
      let all_good : Bool = (printed.exp x).good && (printed.where_part w).good in
      let h = both all_good _ good in
      let g = both (printed.exp x).good (printed.where_part w).good h.0 in
      let size = length-append inside behind in
      let start : List Sym = at k.Equals a ∷ (inside ++ (behind ++ rest)) in
      let split : flat ++ rest ≡ start = ap (λ us. at k.Equals a ∷ us) (append_assoc inside behind rest) in
      let span : covered start rest ≡ s = ap (λ us. covered us rest) (sym split) ∙ spanned_span s rest flat all_good good in
      ap (rhs K) split
      ∙ chain _ (C.exp x (behind ++ rest) g.0 (omega (arith, size, fits)) (where_ends_exp w rest ends))
      (chain _ (where_complete w rest g.1 (omega (arith, size, fits)) ends)
      (ap (λ z. taken (v_Rhs.Plain z a x w) rest) span))

  guarded_rhs_complete : (s : Span) (x : Guard) (xs : List Guard) (w : Where) (rest : List Sym) → (rhs_layer (Rhs-F.Rhs::Guarded s x xs w)).good ≡ true → length (rhs_layer (Rhs-F.Rhs::Guarded s x xs w)).flat ≤ suc m → ends_decl rest ≡ true
      → rhs K ((rhs_layer (Rhs-F.Rhs::Guarded s x xs w)).flat ++ rest) ≡ taken (v_Rhs.Guarded s x xs w) rest
  unfolding guarded_rhs rhs_layer
  guarded_rhs_complete s x xs w rest good fits ends =
      let first = (printed.guard x).flat in
      let others = flat_all (map printed.guard xs) in
      let behind = (printed.where_part w).flat in
      let flat : List Sym = first ++ (others ++ behind) in
      let all_good : Bool = (printed.guard x).good && (good_all (map printed.guard xs) && (printed.where_part w).good) in
      let h = both all_good _ good in
      let g = both (printed.guard x).good (good_all (map printed.guard xs) && (printed.where_part w).good) h.0 in
      let gs = both (good_all (map printed.guard xs)) (printed.where_part w).good g.1 in
      let size = length-append first (others ++ behind) in
      let size2 = length-append others behind in
      let tail : List Sym = others ++ (behind ++ rest) in
      let start : List Sym = first ++ tail in
      let split : flat ++ rest ≡ start = append_assoc first (others ++ behind) rest ∙ ap (λ us. first ++ us) (append_assoc others behind rest) in
      let span : covered start rest ≡ s = ap (λ us. covered us rest) (sym split) ∙ spanned_span s rest flat all_good good in
      let end = where_ends_exp w rest ends in
      ap (rhs K) split
      ∙ rhs_guarded start (guard_starts x tail g.0)
      ∙ chain _ (guard_complete x tail g.0 (omega (arith, size, fits)) (guards_end_exp xs (behind ++ rest) gs.0 end))
      (chain _ (guards_complete xs (behind ++ rest) gs.0 (omega (arith, size, size2, fits)) end (where_no_bar w rest ends))
      (chain _ (where_complete w rest gs.1 (omega (arith, size, size2, fits)) ends)
      (ap (λ z. taken (v_Rhs.Guarded z x xs w) rest) span)))

  rhs_layer_complete : (y : RhsLayer) (rest : List Sym) → (rhs_layer y).good ≡ true → length (rhs_layer y).flat ≤ suc m → ends_decl rest ≡ true → rhs K ((rhs_layer y).flat ++ rest) ≡ taken (roll-Rhs y) rest
  rhs_layer_complete (Rhs-F.Rhs::Plain s a x w) rest good fits ends = plain_rhs_complete s a x w rest good fits ends ∙ ap (λ (z : Rhs). taken z rest) (sym (v_Rhs.rolls-Plain s a x w))
  rhs_layer_complete (Rhs-F.Rhs::Guarded s x xs w) rest good fits ends = guarded_rhs_complete s x xs w rest good fits ends ∙ ap (λ (z : Rhs). taken z rest) (sym (v_Rhs.rolls-Guarded s x xs w))

  pub rhs_complete : Complete printed.rhs ends_decl (suc m) (rhs K)
  rhs_complete x rest good fits ends =
      let e = rhs_at x in
      ap (λ (p : Print). rhs K (p.flat ++ rest)) e
      ∙ rhs_layer_complete (out-Rhs x) rest (sym (ap (λ (p : Print). p.good) e) ∙ good) (subst (λ (p : Print). length p.flat ≤ suc m) e fits) ends
      ∙ ap (λ (z : Rhs). taken z rest) (roll-out-Rhs x)

  -- ---- declarations

  decl_other : (ss : List Sym) → is_fixity (kind ss) ≡ false → decl K ss ≡ other_decl K ss ss
  unfolding decl
  decl_other ss e = at_kind (kind ss) e
    where
      at_kind : (kind : Option Kind) → is_fixity kind ≡ false → decl_by K kind ss ss ≡ other_decl K ss ss
      at_kind (Some k.Infixl) e = absurd (cc)
      at_kind (Some k.Infixr) e = absurd (cc)
      at_kind (Some k.Infix) e = absurd (cc)
      at_kind _ e = refl

  decl_fixity : (w : FixityWord) (ss : List Sym) → decl K (printed.fixity_word w ∷ ss) ≡ fixity (printed.fixity_word w ∷ ss) (printed.fixity_word w ∷ ss)
  unfolding decl
  decl_fixity (n_FixityWord.Left s) ss = refl
  decl_fixity (n_FixityWord.Right s) ss = refl
  decl_fixity (n_FixityWord.Neither s) ss = refl

  decl_signature : (ss : List Sym) → is_fixity (kind ss) ≡ false → signature_next ss ≡ true → decl K ss ≡ signature K ss ss
  decl_signature ss other is = decl_other ss other ∙ ap (λ b. cond b (signature K ss ss) (sided K ss ss)) is

  decl_sided : (ss : List Sym) → is_fixity (kind ss) ≡ false → signature_next ss ≡ false → decl K ss ≡ sided K ss ss
  decl_sided ss other is = decl_other ss other ∙ ap (λ b. cond b (signature K ss ss) (sided K ss ss)) is

  signature_complete : (s : Span) (v : Var) (vs : List NextVar) (a : Span) (t : TypeExpr) (rest : List Sym) → (decl_layer (Decl-F.Signature s v vs a t)).good ≡ true
      → length (decl_layer (Decl-F.Signature s v vs a t)).flat ≤ suc m → ends_decl rest ≡ true → decl K ((decl_layer (Decl-F.Signature s v vs a t)).flat ++ rest) ≡ taken (v_Decl.Signature s v vs a t) rest
  unfolding signature decl_layer
  signature_complete s v vs a t rest good fits ends =
      let others = flat_all (map printed.next_var vs) in
      let inside = (printed.type_expr t).flat in
      let flat = signature_flat v vs a t in
      let all_good : Bool = plain_var v && (good_all (map printed.next_var vs) && (printed.type_expr t).good) in
      let h = both all_good _ good in
      let g = both (plain_var v) (good_all (map printed.next_var vs) && (printed.type_expr t).good) h.0 in
      let gs = both (good_all (map printed.next_var vs)) (printed.type_expr t).good g.1 in
      let size = length-append (printed.var v) (others ++ (at k.Colons a ∷ inside)) in
      let size2 = length-append others (at k.Colons a ∷ inside) in
      let tail : List Sym = others ++ (at k.Colons a ∷ (inside ++ rest)) in
      let start : List Sym = printed.var v ++ tail in
      let split : flat ++ rest ≡ start = signature_split v vs a t rest in
      let span : covered start rest ≡ s = ap (λ us. covered us rest) (sym split) ∙ spanned_span s rest flat all_good good in
      ap (decl K) split
      ∙ decl_signature start (var_first v tail).no_fixity (signature_looks v vs a (inside ++ rest) g.0)
      ∙ chain _ (var_complete v tail g.0)
      (chain _ (next_vars_complete vs (at k.Colons a ∷ (inside ++ rest)) gs.0 refl)
      (chain _ (C.typ t rest gs.1 (omega (arith, size, size2, fits)) (exp_type rest (decl_ends_exp rest ends)))
      (ap (λ z. taken (v_Decl.Signature z v vs a t) rest) span)))

  sided_by_is : (l : Left) (start ss : List Sym) → sided_by K l start ss ≡ and_then (rhs K ss) (λ r us. taken (side_decl l (covered start us) r) us)
  sided_by_is (v_Left.Function f) start ss = refl
  sided_by_is (v_Left.Pattern p) start ss = refl

  sided_complete : (s : Span) (l : Left) (r : Rhs) (all_good : Bool) (rest : List Sym) → (left_print l).good ≡ true → (printed.rhs r).good ≡ true → (spanned s ((left_print l).flat ++ (printed.rhs r).flat) all_good).good ≡ true
      → length ((left_print l).flat ++ (printed.rhs r).flat) ≤ suc m → ends_decl rest ≡ true → decl K (((left_print l).flat ++ (printed.rhs r).flat) ++ rest) ≡ taken (side_decl l s r) rest
  unfolding sided
  sided_complete s l r all_good rest gl gr good fits ends =
      let head = (left_print l).flat in
      let side = (printed.rhs r).flat in
      let size = length-append head side in
      let start : List Sym = head ++ (side ++ rest) in
      let split : (head ++ side) ++ rest ≡ start = append_assoc head side rest in
      let span : covered start rest ≡ s = ap (λ us. covered us rest) (sym split) ∙ spanned_span s rest (head ++ side) all_good good in
      let begins = rhs_starts r rest gr in
      let first = left_first (kind start) _ (left_starts l (side ++ rest) gl) in
      let some = rhs_some r gr in
      ap (decl K) split
      ∙ decl_sided start first.no_fixity (left_no_signature l (side ++ rest) gl begins)
      ∙ chain _ (C.left l (side ++ rest) gl (omega (arith, size, some, fits)) (rhs_ends_left (side ++ rest) begins))
      (sided_by_is l start (side ++ rest)
      ∙ chain _ (rhs_complete r rest gr (omega (arith, size, fits)) ends) (ap (λ z. taken (side_decl l z r) rest) span))

  decl_layer_complete : (y : DeclLayer) (rest : List Sym) → (decl_layer y).good ≡ true → length (decl_layer y).flat ≤ suc m → ends_decl rest ≡ true → decl K ((decl_layer y).flat ++ rest) ≡ taken (roll-Decl y) rest
  unfolding decl_layer
  decl_layer_complete (Decl-F.Signature s v vs a t) rest good fits ends = signature_complete s v vs a t rest good fits ends ∙ ap (λ (z : Decl). taken z rest) (sym (v_Decl.rolls-Signature s v vs a t))
  decl_layer_complete (Decl-F.Fixity s w l o os) rest good fits ends =
      decl_fixity w _ ∙ fixity_complete s w l o os rest good ends ∙ ap (λ (z : Decl). taken z rest) (sym (v_Decl.rolls-Fixity s w l o os))
  decl_layer_complete (Decl-F.Function s f r) rest good fits ends =
      let h = both ((printed.fun_lhs f).good && (printed.rhs r).good) _ good in
      let g = both (printed.fun_lhs f).good (printed.rhs r).good h.0 in
      sided_complete s (v_Left.Function f) r ((printed.fun_lhs f).good && (printed.rhs r).good) rest g.0 g.1 good fits ends ∙ ap (λ (z : Decl). taken z rest) (sym (v_Decl.rolls-Function s f r))
  decl_layer_complete (Decl-F.Pattern s p r) rest good fits ends =
      let g = pattern_goods s p r good in
      sided_complete s (v_Left.Pattern p) r ((printed.pattern p).good && ((printed.rhs r).good && not (printed.pattern p).is_var)) rest g.0 g.1 good fits ends ∙ ap (λ (z : Decl). taken z rest) (sym (v_Decl.rolls-Pattern s p r))

  pub decl_complete : Complete printed.decl ends_decl (suc m) (decl K)
  decl_complete x rest good fits ends =
      let e = decl_at x in
      ap (λ (p : Print). decl K (p.flat ++ rest)) e
      ∙ decl_layer_complete (out-Decl x) rest (sym (ap (λ (p : Print). p.good) e) ∙ good) (subst (λ (p : Print). length p.flat ≤ suc m) e fits) ends
      ∙ ap (λ (z : Decl). taken z rest) (roll-out-Decl x)

  decl_item_is : (ss : List Sym) → decl_item K ss ≡ and_then (decl K ss) (λ x us. and_then (semis us) (λ ms vs. part_ends ms (roll-DeclItem (record { decl = x; marks = ms })) vs))
  unfolding decl_item
  decl_item_is ss = refl

  pub decls_end_complete : (start : List Sym) (a : BlockMark) (ms : List BlockMark) (xs : List DeclItem) (b : BlockMark) (rest : List Sym) → good_all (map printed.decl_item xs) ≡ true → parted (map printed.decl_item xs) ≡ true
      → length (flat_all (map printed.decl_item xs)) ≤ suc m
      → decls_end K start a ms (flat_all (map printed.decl_item xs) ++ (printed.block_close b ∷ rest)) ≡ taken (roll-Decls (record { span = covered start rest; «open» = a; before = ms; decls = xs; close = b })) rest
  unfolding decls_end decl_items
  decls_end_complete start a ms xs b rest good behind fits =
      chain _ (parts_complete printed.decl printed.decl_item (decl K) (decl_item K) (λ x. (out-DeclItem x).decl) (λ x. (out-DeclItem x).marks) (λ d ms. roll-DeclItem (record { decl = d; marks = ms }))
      decl_item_at roll-out-DeclItem decl_item_is (suc m) decl_complete decl_starts xs b rest good behind fits)
      (chain _ (block_close_complete b rest) refl)

  pub decls_no_semi : (xs : List DeclItem) (b : BlockMark) (rest : List Sym) → good_all (map printed.decl_item xs) ≡ true → semi_next (flat_all (map printed.decl_item xs) ++ (printed.block_close b ∷ rest)) ≡ false
  decls_no_semi xs b rest good =
      parts_no_semi printed.decl printed.decl_item (decl K) (decl_item K) (λ x. (out-DeclItem x).decl) (λ x. (out-DeclItem x).marks) (λ d ms. roll-DeclItem (record { decl = d; marks = ms }))
      decl_item_at roll-out-DeclItem decl_item_is (suc m) decl_complete decl_starts xs b rest good

  pub whole_decls_complete : Complete printed.decls anything (suc m) (whole_decls K)
  unfolding whole_decls
  whole_decls_complete x rest good fits ends =
      let y = out-Decls x in
      let e = decls_at x in
      let ps = map printed.decl_item y.decls in
      let f = block_of y.span y.open y.before ps y.close rest (suc m) (sym (ap (λ (p : Print). p.good) e) ∙ good) (subst (λ (p : Print). length p.flat ≤ suc m) e fits) in
      let start : List Sym = block_start y.open y.before ps y.close rest in
      let tail : List Sym = block_tail ps y.close rest in
      ap (λ (p : Print). whole_decls K (p.flat ++ rest)) e
      ∙ ap (whole_decls K) f.split
      ∙ chain _ (block_open_complete y.open (map printed.block_semi y.before ++ tail))
      (chain _ (semis_complete y.before tail (decls_no_semi y.decls y.close rest f.parts))
      (decls_end_complete start y.open y.before y.decls y.close rest f.parts f.ended f.fits
      ∙ ap (λ (s : Span). taken (roll-Decls (record { span = s; «open» = y.open; before = y.before; decls = y.decls; close = y.close })) rest) f.span))
      ∙ ap (λ (z : Decls). taken z rest) (roll-out-Decls x)
