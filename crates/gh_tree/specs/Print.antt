-- What each tree is printed as, and whether it is well formed: one case for each production of the grammar.
use Rattle.std.specs.Prelude.{◌≡◌, ℕ, Bool, true, false, not, ◌&&◌, nat_lt, ◌==◌, List, [], ◌∷◌, ◌++◌, length, map, Option, Some, None, IsTrue}
use Rattle.gh_base.specs.declared.fixed.TheConstants.{MINUS, AS, QUALIFIED, HIDING, EXTENDS}
use Rattle.gh_base.specs.declared.place.Span.{Span}
use Rattle.gh_base.specs.declared.names.NameId.{NameId}
use Rattle.gh_tree.specs.declared.symbol.Kind.{Kind}
use Rattle.gh_tree.specs.declared.symbol.Kind.TheVariants as k
use Rattle.gh_tree.specs.declared.symbol.Sym.{Sym}
use Rattle.gh_tree.specs.Syms.{at, nowhere, cover, same_span}
use Rattle.gh_tree.specs.declared.names.Name.{Name}
use Rattle.gh_tree.specs.declared.names.Var.{Var}
use Rattle.gh_tree.specs.declared.names.Var.TheVariants as n_Var
use Rattle.gh_tree.specs.declared.names.Con.{Con}
use Rattle.gh_tree.specs.declared.names.Con.TheVariants as n_Con
use Rattle.gh_tree.specs.declared.names.VarOp.{VarOp}
use Rattle.gh_tree.specs.declared.names.VarOp.TheVariants as n_VarOp
use Rattle.gh_tree.specs.declared.names.ConOp.{ConOp}
use Rattle.gh_tree.specs.declared.names.ConOp.TheVariants as n_ConOp
use Rattle.gh_tree.specs.declared.names.Op.{Op}
use Rattle.gh_tree.specs.declared.names.Op.TheVariants as n_Op
use Rattle.gh_tree.specs.declared.names.GenCon.{GenCon}
use Rattle.gh_tree.specs.declared.names.GenCon.TheVariants as n_GenCon
use Rattle.gh_tree.specs.declared.names.BlockMark.{BlockMark}
use Rattle.gh_tree.specs.declared.names.BlockMark.TheVariants as n_BlockMark
use Rattle.gh_tree.specs.declared.names.FixityWord.{FixityWord}
use Rattle.gh_tree.specs.declared.names.FixityWord.TheVariants as n_FixityWord
use Rattle.gh_tree.specs.declared.names.NextVar.{NextVar}
use Rattle.gh_tree.specs.declared.names.NextOp.{NextOp}
use Rattle.gh_tree.specs.declared.names.NextName.{NextName}
use Rattle.gh_tree.specs.declared.types.ArgType.{ArgType, fold-ArgType}
use Rattle.gh_tree.specs.declared.types.Arrow.{Arrow, fold-Arrow}
use Rattle.gh_tree.specs.declared.types.BType.{BType, fold-BType}
use Rattle.gh_tree.specs.declared.types.TypeExpr.{TypeExpr, fold-TypeExpr}
use Rattle.gh_tree.specs.declared.types.TypePart.{TypePart, fold-TypePart}
use Rattle.gh_tree.specs.declared.types.ArgType.TheOpen.{ArgType-F, Arrow-F, BType-F, TypeExpr-F, TypePart-F}
use Rattle.gh_tree.specs.declared.patterns.ArgPattern.{ArgPattern, fold-ArgPattern}
use Rattle.gh_tree.specs.declared.patterns.PatOperand.{PatOperand, fold-PatOperand}
use Rattle.gh_tree.specs.declared.patterns.NextPattern.{NextPattern, fold-NextPattern, out-NextPattern}
use Rattle.gh_tree.specs.declared.patterns.PatPart.{PatPart, fold-PatPart}
use Rattle.gh_tree.specs.declared.patterns.Pattern.{Pattern, fold-Pattern}
use Rattle.gh_tree.specs.declared.patterns.ArgPattern.TheOpen.{ArgPattern-F, PatOperand-F, NextPattern-F, PatPart-F, Pattern-F}
use Rattle.gh_tree.specs.declared.patterns.FunLhs.{FunLhs, fold-FunLhs}
use Rattle.gh_tree.specs.declared.patterns.FunLhs.TheOpen.{FunLhs-F}
use Rattle.gh_tree.specs.declared.expressions.Aexp.{Aexp, fold-Aexp}
use Rattle.gh_tree.specs.declared.expressions.Alt.{Alt, fold-Alt}
use Rattle.gh_tree.specs.declared.expressions.Decl.{Decl, fold-Decl}
use Rattle.gh_tree.specs.declared.expressions.Exp.{Exp, fold-Exp}
use Rattle.gh_tree.specs.declared.expressions.Locals.{Locals, fold-Locals}
use Rattle.gh_tree.specs.declared.expressions.Open.{Open, fold-Open}
use Rattle.gh_tree.specs.declared.expressions.Operand.{Operand, fold-Operand}
use Rattle.gh_tree.specs.declared.expressions.Rhs.{Rhs, fold-Rhs}
use Rattle.gh_tree.specs.declared.expressions.Where.{Where, fold-Where}
use Rattle.gh_tree.specs.declared.expressions.AltGuard.{AltGuard, fold-AltGuard}
use Rattle.gh_tree.specs.declared.expressions.AltItem.{AltItem, fold-AltItem}
use Rattle.gh_tree.specs.declared.expressions.Alts.{Alts, fold-Alts}
use Rattle.gh_tree.specs.declared.expressions.DeclItem.{DeclItem, fold-DeclItem}
use Rattle.gh_tree.specs.declared.expressions.Decls.{Decls, fold-Decls}
use Rattle.gh_tree.specs.declared.expressions.Guard.{Guard, fold-Guard}
use Rattle.gh_tree.specs.declared.expressions.NextOperand.{NextOperand, fold-NextOperand}
use Rattle.gh_tree.specs.declared.expressions.OperandList.{OperandList, fold-OperandList}
use Rattle.gh_tree.specs.declared.expressions.Part.{Part, fold-Part}
use Rattle.gh_tree.specs.declared.expressions.Redef.{Redef, fold-Redef}
use Rattle.gh_tree.specs.declared.expressions.RedefItem.{RedefItem, fold-RedefItem}
use Rattle.gh_tree.specs.declared.expressions.Redefs.{Redefs, fold-Redefs}
use Rattle.gh_tree.specs.declared.expressions.Aexp.TheOpen.{Aexp-F, Alt-F, Decl-F, Exp-F, Locals-F, Open-F, Operand-F, Rhs-F, Where-F, AltGuard-F, AltItem-F, Alts-F, DeclItem-F, Decls-F, Guard-F, NextOperand-F, OperandList-F, Part-F, Redef-F, RedefItem-F, Redefs-F}
use Rattle.gh_tree.specs.declared.tops.Exports.{Exports}
use Rattle.gh_tree.specs.declared.tops.Export.{Export}
use Rattle.gh_tree.specs.declared.tops.Parts.{Parts}
use Rattle.gh_tree.specs.declared.tops.Import.{Import}
use Rattle.gh_tree.specs.declared.tops.Alias.{Alias}
use Rattle.gh_tree.specs.declared.tops.Entity.{Entity}
use Rattle.gh_tree.specs.declared.tops.NextEntity.{NextEntity}
use Rattle.gh_tree.specs.declared.tops.NextExport.{NextExport}
use Rattle.gh_tree.specs.declared.tops.NextCon.{NextCon}
use Rattle.gh_tree.specs.declared.tops.Entities.{Entities}
use Rattle.gh_tree.specs.declared.tops.ExportList.{ExportList}
use Rattle.gh_tree.specs.declared.tops.ImportList.{ImportList}
use Rattle.gh_tree.specs.declared.tops.Top.{Top}
use Rattle.gh_tree.specs.declared.tops.GenVars.{GenVars}
use Rattle.gh_tree.specs.declared.tops.OtherVars.{OtherVars}
use Rattle.gh_tree.specs.declared.tops.Context.{Context}
use Rattle.gh_tree.specs.declared.tops.Deps.{Deps}
use Rattle.gh_tree.specs.declared.tops.Dep.{Dep}
use Rattle.gh_tree.specs.declared.tops.NextDep.{NextDep}
use Rattle.gh_tree.specs.declared.tops.Constr.{Constr}
use Rattle.gh_tree.specs.declared.tops.NextConstr.{NextConstr}
use Rattle.gh_tree.specs.declared.tops.Export.TheVariants as v_Export
use Rattle.gh_tree.specs.declared.tops.Parts.TheVariants as v_Parts
use Rattle.gh_tree.specs.declared.tops.Entity.TheVariants as v_Entity
use Rattle.gh_tree.specs.declared.tops.Top.TheVariants as v_Top
use Rattle.gh_tree.specs.declared.tops.Constr.TheVariants as v_Constr
use Rattle.gh_tree.specs.declared.module_tree.ModuleTree.{ModuleTree}
use Rattle.gh_tree.specs.declared.module_tree.Header.{Header}
use Rattle.gh_tree.specs.declared.module_tree.Item.{Item}
use Rattle.gh_tree.specs.declared.module_tree.NextItem.{NextItem}
use Rattle.gh_tree.specs.declared.module_tree.Item.TheVariants as v_Item

pub record Print : Type 0 where
  -- the laid tokens
  pub flat : List Sym
  -- whether it is well formed
  pub good : Bool
  -- whether a lambda, a `let` or a conditional stands at its end
  pub is_open : Bool
  -- whether it is one variable and no more
  pub is_var : Bool
  -- whether a `;` stands behind it
  pub is_parted : Bool

abbrev pub print : List Sym → Bool → Print
print flat good = record { flat = flat; good = good; is_open = false; is_var = false; is_parted = false }

-- a node with a span of its own: it is that of its tokens
abbrev pub spanned : Span → List Sym → Bool → Print
spanned span flat good = print flat (good && same_span span (cover flat))

abbrev pub flat_all : List Print → List Sym
flat_all [] = []
flat_all (p ∷ ps) = p.flat ++ flat_all ps

abbrev pub good_all : List Print → Bool
good_all [] = true
good_all (p ∷ ps) = p.good && good_all ps

-- behind an operand that is open, or not, stand others: of all these only the last may be open
abbrev pub closed_before : Bool → List Print → Bool
closed_before was [] = true
closed_before was (q ∷ qs) = not was && closed_before q.is_open qs

abbrev pub last_open : Bool → List Print → Bool
last_open was [] = was
last_open was (q ∷ qs) = last_open q.is_open qs

-- each part of a block but the last has a `;` behind it
abbrev pub parted : List Print → Bool
parted [] = true
parted (p ∷ []) = true
parted (p ∷ q ∷ ps) = p.is_parted && parted (q ∷ ps)

-- a tuple has 2 to 7 parts, and 1 to 6 commas
abbrev pub is_tuple : {A : Type 0} → List A → Bool
is_tuple others = nat_lt 0 (length others) && nat_lt (length others) 7

abbrev pub is_some : {A : Type 0} → List A → Bool
is_some xs = nat_lt 0 (length xs)

abbrev pub is_none : Option NameId → Bool
is_none None = true
is_none (Some n) = false

-- names and operators

abbrev pub var_id : Name → Sym
var_id n = at (k.VarId n.qualifier n.id) n.span

abbrev pub con_id : Name → Sym
con_id n = at (k.ConId n.qualifier n.id) n.span

abbrev pub var_sym : Name → Sym
var_sym n = at (k.VarSym n.qualifier n.id) n.span

abbrev pub con_sym : Name → Sym
con_sym n = at (k.ConSym n.qualifier n.id) n.span

abbrev pub plain : Name → Bool
plain n = is_none n.qualifier

abbrev pub var : Var → List Sym
var (n_Var.Word n) = var_id n ∷ []
var (n_Var.Symbol a n b) = at k.Open a ∷ var_sym n ∷ at k.Close b ∷ []

abbrev pub plain_var : Var → Bool
plain_var (n_Var.Word n) = plain n
plain_var (n_Var.Symbol a n b) = plain n

abbrev pub con : Con → List Sym
con (n_Con.Word n) = con_id n ∷ []
con (n_Con.Symbol a n b) = at k.Open a ∷ con_sym n ∷ at k.Close b ∷ []

abbrev pub plain_con : Con → Bool
plain_con (n_Con.Word n) = plain n
plain_con (n_Con.Symbol a n b) = plain n

abbrev pub var_op : VarOp → List Sym
var_op (n_VarOp.Symbol n) = var_sym n ∷ []
var_op (n_VarOp.Quoted a n b) = at k.Backquote a ∷ var_id n ∷ at k.Backquote b ∷ []

abbrev pub plain_var_op : VarOp → Bool
plain_var_op (n_VarOp.Symbol n) = plain n
plain_var_op (n_VarOp.Quoted a n b) = plain n

abbrev pub con_op : ConOp → List Sym
con_op (n_ConOp.Symbol n) = con_sym n ∷ []
con_op (n_ConOp.Colon a) = at k.Colon a ∷ []
con_op (n_ConOp.Quoted a n b) = at k.Backquote a ∷ con_id n ∷ at k.Backquote b ∷ []

abbrev pub plain_con_op : ConOp → Bool
plain_con_op (n_ConOp.Symbol n) = plain n
plain_con_op (n_ConOp.Colon a) = true
plain_con_op (n_ConOp.Quoted a n b) = plain n

abbrev pub op_flat : Op → List Sym
op_flat (n_Op.Var o) = var_op o
op_flat (n_Op.Con o) = con_op o

abbrev pub plain_op : Op → Bool
plain_op (n_Op.Var o) = plain_var_op o
plain_op (n_Op.Con o) = plain_con_op o

-- the operator `-` without a qualifier
abbrev pub is_minus : Op → Bool
is_minus (n_Op.Var (n_VarOp.Symbol n)) = plain n && n.id.0 == MINUS.0
is_minus (n_Op.Var (n_VarOp.Quoted a n b)) = false
is_minus (n_Op.Con o) = false

abbrev pub minus_flat : Option Span → List Sym
minus_flat None = []
minus_flat (Some a) = at (k.VarSym None MINUS) a ∷ []

abbrev pub commas : List Span → List Sym
commas cs = map (at k.Comma) cs

abbrev pub gen_con : GenCon → Print
gen_con (n_GenCon.Con c) = print (con c) true
gen_con (n_GenCon.Unit s a b) = spanned s (at k.Open a ∷ at k.Close b ∷ []) true
gen_con (n_GenCon.Nil s a b) = spanned s (at k.OpenList a ∷ at k.CloseList b ∷ []) true
gen_con (n_GenCon.Tuple s a cs b) = spanned s (at k.Open a ∷ (commas cs ++ at k.Close b ∷ [])) (is_tuple cs)

abbrev pub block_open : BlockMark → Sym
block_open (n_BlockMark.Written s) = at k.OpenBrace s
block_open (n_BlockMark.Inserted p) = at (k.InsertedOpen p) nowhere

abbrev pub block_semi : BlockMark → Sym
block_semi (n_BlockMark.Written s) = at k.Semicolon s
block_semi (n_BlockMark.Inserted p) = at (k.InsertedSemicolon p) nowhere

abbrev pub block_close : BlockMark → Sym
block_close (n_BlockMark.Written s) = at k.CloseBrace s
block_close (n_BlockMark.Inserted p) = at (k.InsertedClose p) nowhere

abbrev pub fixity_word : FixityWord → Sym
fixity_word (n_FixityWord.Left s) = at k.Infixl s
fixity_word (n_FixityWord.Right s) = at k.Infixr s
fixity_word (n_FixityWord.Neither s) = at k.Infix s

abbrev pub level_flat : Option (Span × ℕ) → List Sym
level_flat None = []
level_flat (Some l) = at (k.Int l.1) l.0 ∷ []

abbrev pub is_level : Option (Span × ℕ) → Bool
is_level None = true
is_level (Some l) = nat_lt l.1 10

abbrev pub next_var : NextVar → Print
next_var x = print (at k.Comma x.mark ∷ var x.var) (plain_var x.var)

abbrev pub next_op : NextOp → Print
next_op x = print (at k.Comma x.mark ∷ op_flat x.op) (plain_op x.op)

abbrev pub next_name : NextName → Print
next_name x = print (at k.Comma x.mark ∷ var_id x.name ∷ []) (plain x.name)

-- a block: its `{`, the `;` before its first part, its parts and its `}`
abbrev pub block : Span → BlockMark → List BlockMark → List Print → BlockMark → Print
block s a ms ps b = spanned s (block_open a ∷ (map block_semi ms ++ (flat_all ps ++ block_close b ∷ []))) (good_all ps && parted ps)

-- a part of a block, with the `;` behind it
abbrev pub block_part : Print → List BlockMark → Print
block_part p ms = record { flat = p.flat ++ map block_semi ms; good = p.good; is_open = false; is_var = false; is_parted = is_some ms }

-- a block of one part at least
abbrev pub block_some : Span → BlockMark → List BlockMark → List Print → BlockMark → Print
block_some s a ms ps b = record (block s a ms ps b) { good = (block s a ms ps b).good && is_some ps }

-- an operand that goes on to the right as far as it can
abbrev pub opened : Span → List Sym → Bool → Print
opened span flat good = record { flat = flat; good = good && same_span span (cover flat); is_open = true; is_var = false; is_parted = false }

-- operands, of which only the last may be open
abbrev pub operands_of : Span → List Sym → Print → List Print → Print
operands_of span minus p ps = record {
  flat = minus ++ (p.flat ++ flat_all ps);
  good = (p.good && (good_all ps && closed_before p.is_open ps)) && same_span span (cover (minus ++ (p.flat ++ flat_all ps)));
  is_open = last_open p.is_open ps;
  is_var = false;
  is_parted = false;
}

-- types

abbrev pub arg_type_step : ArgType-F Print Print Print Print Print → Print
arg_type_step (ArgType-F.Con x0) = print (con_id x0 ∷ []) true
arg_type_step (ArgType-F.Var x0) = print (var_id x0 ∷ []) (plain x0)
arg_type_step (ArgType-F.Unit x0 x1 x2) = spanned x0 (at k.Open x1 ∷ at k.Close x2 ∷ []) true
arg_type_step (ArgType-F.NoList x0 x1 x2) = spanned x0 (at k.OpenList x1 ∷ at k.CloseList x2 ∷ []) true
arg_type_step (ArgType-F.NoArrow x0 x1 x2 x3) = spanned x0 (at k.Open x1 ∷ at k.Arrow x2 ∷ at k.Close x3 ∷ []) true
arg_type_step (ArgType-F.NoTuple x0 x1 x2 x3) = spanned x0 (at k.Open x1 ∷ (commas x2 ++ at k.Close x3 ∷ [])) (is_tuple x2)
arg_type_step (ArgType-F.Paren x0 x1 x2 x3) = spanned x0 (at k.Open x1 ∷ (x2.flat ++ at k.Close x3 ∷ [])) x2.good
arg_type_step (ArgType-F.Tuple x0 x1 x2 x3 x4) = spanned x0 (at k.Open x1 ∷ (x2.flat ++ (flat_all x3 ++ at k.Close x4 ∷ []))) (x2.good && (good_all x3 && is_tuple x3))
arg_type_step (ArgType-F.List x0 x1 x2 x3) = spanned x0 (at k.OpenList x1 ∷ (x2.flat ++ at k.CloseList x3 ∷ [])) x2.good

abbrev pub arrow_step : Arrow-F Print Print Print Print Print → Print
arrow_step x = print (at k.Arrow x.mark ∷ x.to.flat) x.to.good

abbrev pub btype_step : BType-F Print Print Print Print Print → Print
btype_step x = spanned x.span (x.head.flat ++ flat_all x.args) (x.head.good && good_all x.args)

abbrev pub type_expr_step : TypeExpr-F Print Print Print Print Print → Print
type_expr_step x = spanned x.span (x.first.flat ++ flat_all x.arrows) (x.first.good && good_all x.arrows)

abbrev pub type_part_step : TypePart-F Print Print Print Print Print → Print
type_part_step x = print (at k.Comma x.mark ∷ x.part.flat) x.part.good

unfoldable pub arg_type : ArgType → Print
arg_type = fold-ArgType Print Print Print Print Print arg_type_step arrow_step btype_step type_expr_step type_part_step

unfoldable pub arrow : Arrow → Print
arrow = fold-Arrow Print Print Print Print Print arg_type_step arrow_step btype_step type_expr_step type_part_step

unfoldable pub btype : BType → Print
btype = fold-BType Print Print Print Print Print arg_type_step arrow_step btype_step type_expr_step type_part_step

unfoldable pub type_expr : TypeExpr → Print
type_expr = fold-TypeExpr Print Print Print Print Print arg_type_step arrow_step btype_step type_expr_step type_part_step

unfoldable pub type_part : TypePart → Print
type_part = fold-TypePart Print Print Print Print Print arg_type_step arrow_step btype_step type_expr_step type_part_step

-- patterns

abbrev pub arg_pattern_step : ArgPattern-F Print Print Print Print Print → Print
arg_pattern_step (ArgPattern-F.Var x0) = record { flat = var x0; good = plain_var x0; is_open = false; is_var = true; is_parted = false }
arg_pattern_step (ArgPattern-F.As x0 x1 x2 x3) = spanned x0 (var x1 ++ (at k.At x2 ∷ x3.flat)) (plain_var x1 && x3.good)
arg_pattern_step (ArgPattern-F.Wild x0) = print (at k.Underscore x0 ∷ []) true
arg_pattern_step (ArgPattern-F.ArgPattern::Con x0) = gen_con x0
arg_pattern_step (ArgPattern-F.Int x0 x1) = print (at (k.Int x1) x0 ∷ []) true
arg_pattern_step (ArgPattern-F.Char x0 x1) = print (at (k.Char x1) x0 ∷ []) true
arg_pattern_step (ArgPattern-F.Str x0 x1) = print (at (k.Str x1) x0 ∷ []) true
arg_pattern_step (ArgPattern-F.Paren x0 x1 x2 x3) = spanned x0 (at k.Open x1 ∷ (x2.flat ++ at k.Close x3 ∷ [])) x2.good
arg_pattern_step (ArgPattern-F.Tuple x0 x1 x2 x3 x4) = spanned x0 (at k.Open x1 ∷ (x2.flat ++ (flat_all x3 ++ at k.Close x4 ∷ []))) (x2.good && (good_all x3 && is_tuple x3))
arg_pattern_step (ArgPattern-F.List x0 x1 x2 x3 x4) = spanned x0 (at k.OpenList x1 ∷ (x2.flat ++ (flat_all x3 ++ at k.CloseList x4 ∷ []))) (x2.good && good_all x3)

abbrev pub pat_operand_step : PatOperand-F Print Print Print Print Print → Print
pat_operand_step (PatOperand-F.Negative x0 x1 x2 x3) = spanned x0 (at (k.VarSym None MINUS) x1 ∷ at (k.Int x3) x2 ∷ []) true
pat_operand_step (PatOperand-F.Arg x0) = x0
pat_operand_step (PatOperand-F.PatOperand::Con x0 x1 x2 x3) = spanned x0 ((gen_con x1).flat ++ (x2.flat ++ flat_all x3)) ((gen_con x1).good && (x2.good && good_all x3))

abbrev pub next_pattern_step : NextPattern-F Print Print Print Print Print → Print
next_pattern_step x = print (con_op x.op ++ x.operand.flat) x.operand.good

abbrev pub pat_part_step : PatPart-F Print Print Print Print Print → Print
pat_part_step x = print (at k.Comma x.mark ∷ x.part.flat) x.part.good

abbrev pub pattern_step : Pattern-F Print Print Print Print Print → Print
pattern_step x = record { flat = x.first.flat ++ flat_all x.others; good = (x.first.good && good_all x.others) && same_span x.span (cover (x.first.flat ++ flat_all x.others)); is_open = false; is_var = x.first.is_var && not (is_some x.others); is_parted = false }

unfoldable pub arg_pattern : ArgPattern → Print
arg_pattern = fold-ArgPattern Print Print Print Print Print arg_pattern_step pat_operand_step next_pattern_step pat_part_step pattern_step

unfoldable pub pat_operand : PatOperand → Print
pat_operand = fold-PatOperand Print Print Print Print Print arg_pattern_step pat_operand_step next_pattern_step pat_part_step pattern_step

unfoldable pub next_pattern : NextPattern → Print
next_pattern = fold-NextPattern Print Print Print Print Print arg_pattern_step pat_operand_step next_pattern_step pat_part_step pattern_step

unfoldable pub pat_part : PatPart → Print
pat_part = fold-PatPart Print Print Print Print Print arg_pattern_step pat_operand_step next_pattern_step pat_part_step pattern_step

unfoldable pub pattern : Pattern → Print
pattern = fold-Pattern Print Print Print Print Print arg_pattern_step pat_operand_step next_pattern_step pat_part_step pattern_step

-- left sides of functions

abbrev pub plain_nexts : List NextPattern → Bool
plain_nexts [] = true
plain_nexts (x ∷ xs) = plain_con_op (out-NextPattern x).op && plain_nexts xs

abbrev pub fun_lhs_step : FunLhs-F Print → Print
fun_lhs_step (FunLhs-F.Prefix x0 x1 x2) = spanned x0 (var x1 ++ flat_all (map arg_pattern x2)) (plain_var x1 && good_all (map arg_pattern x2))
fun_lhs_step (FunLhs-F.Infix x0 x1 x2 x3 x4 x5) = spanned x0 ((pat_operand x1).flat ++ (flat_all (map next_pattern x2) ++ (var_op x3 ++ ((pat_operand x4).flat ++ flat_all (map next_pattern x5))))) ((pat_operand x1).good && (good_all (map next_pattern x2) && (plain_var_op x3 && ((pat_operand x4).good && (good_all (map next_pattern x5) && (plain_nexts x2 && plain_nexts x5))))))
fun_lhs_step (FunLhs-F.Nested x0 x1 x2 x3 x4 x5) = spanned x0 (at k.Open x1 ∷ (x2.flat ++ (at k.Close x3 ∷ ((arg_pattern x4).flat ++ flat_all (map arg_pattern x5))))) (x2.good && ((arg_pattern x4).good && good_all (map arg_pattern x5)))

unfoldable pub fun_lhs : FunLhs → Print
fun_lhs = fold-FunLhs Print fun_lhs_step

-- expressions and declarations

abbrev pub aexp_step : Aexp-F Print Print Print Print Print Print Print Print Print Print Print Print Print Print Print Print Print Print Print Print Print → Print
aexp_step (Aexp-F.Var x0) = print (var x0) true
aexp_step (Aexp-F.Generic x0 x1 x2 x3 x4) = spanned x0 (var x1 ++ (at k.OpenBanana x2 ∷ ((type_expr x3).flat ++ at k.CloseBanana x4 ∷ []))) (type_expr x3).good
aexp_step (Aexp-F.Con x0) = gen_con x0
aexp_step (Aexp-F.Int x0 x1) = print (at (k.Int x1) x0 ∷ []) true
aexp_step (Aexp-F.Char x0 x1) = print (at (k.Char x1) x0 ∷ []) true
aexp_step (Aexp-F.Str x0 x1) = print (at (k.Str x1) x0 ∷ []) true
aexp_step (Aexp-F.Paren x0 x1 x2 x3) = spanned x0 (at k.Open x1 ∷ (x2.flat ++ at k.Close x3 ∷ [])) x2.good
aexp_step (Aexp-F.Tuple x0 x1 x2 x3 x4) = spanned x0 (at k.Open x1 ∷ (x2.flat ++ (flat_all x3 ++ at k.Close x4 ∷ []))) (x2.good && (good_all x3 && is_tuple x3))
aexp_step (Aexp-F.List x0 x1 x2 x3 x4) = spanned x0 (at k.OpenList x1 ∷ (x2.flat ++ (flat_all x3 ++ at k.CloseList x4 ∷ []))) (x2.good && good_all x3)
aexp_step (Aexp-F.Left x0 x1 x2 x3 x4) = spanned x0 (at k.Open x1 ∷ (x2.flat ++ (op_flat x3 ++ at k.Close x4 ∷ []))) (x2.good && not x2.is_open)
aexp_step (Aexp-F.Right x0 x1 x2 x3 x4) = spanned x0 (at k.Open x1 ∷ (op_flat x2 ++ (x3.flat ++ at k.Close x4 ∷ []))) (x3.good && not (is_minus x2))

abbrev pub alt_step : Alt-F Print Print Print Print Print Print Print Print Print Print Print Print Print Print Print Print Print Print Print Print Print → Print
alt_step (Alt-F.Alt::Plain x0 x1 x2 x3 x4) = spanned x0 ((pattern x1).flat ++ (at k.Arrow x2 ∷ (x3.flat ++ x4.flat))) ((pattern x1).good && (x3.good && x4.good))
alt_step (Alt-F.Alt::Guarded x0 x1 x2 x3 x4) = spanned x0 ((pattern x1).flat ++ (x2.flat ++ (flat_all x3 ++ x4.flat))) ((pattern x1).good && (x2.good && (good_all x3 && x4.good)))

abbrev pub decl_step : Decl-F Print Print Print Print Print Print Print Print Print Print Print Print Print Print Print Print Print Print Print Print Print → Print
decl_step (Decl-F.Signature x0 x1 x2 x3 x4) = spanned x0 (var x1 ++ (flat_all (map next_var x2) ++ (at k.Colons x3 ∷ (type_expr x4).flat))) (plain_var x1 && (good_all (map next_var x2) && (type_expr x4).good))
decl_step (Decl-F.Fixity x0 x1 x2 x3 x4) = spanned x0 (fixity_word x1 ∷ (level_flat x2 ++ (op_flat x3 ++ flat_all (map next_op x4)))) (is_level x2 && (plain_op x3 && good_all (map next_op x4)))
decl_step (Decl-F.Function x0 x1 x2) = spanned x0 ((fun_lhs x1).flat ++ x2.flat) ((fun_lhs x1).good && x2.good)
decl_step (Decl-F.Pattern x0 x1 x2) = spanned x0 ((pattern x1).flat ++ x2.flat) ((pattern x1).good && (x2.good && not (pattern x1).is_var))

abbrev pub exp_step : Exp-F Print Print Print Print Print Print Print Print Print Print Print Print Print Print Print Print Print Print Print Print Print → Print
exp_step (Exp-F.Exp::Plain x0) = x0
exp_step (Exp-F.Typed x0 x1 x2 x3) = spanned x0 (x1.flat ++ (at k.Colons x2 ∷ (type_expr x3).flat)) (x1.good && (not x1.is_open && (type_expr x3).good))

abbrev pub locals_step : Locals-F Print Print Print Print Print Print Print Print Print Print Print Print Print Print Print Print Print Print Print Print Print → Print
locals_step (Locals-F.Decls x0) = x0
locals_step (Locals-F.Redefs x0) = x0

abbrev pub open_operand_step : Open-F Print Print Print Print Print Print Print Print Print Print Print Print Print Print Print Print Print Print Print Print Print → Print
open_operand_step (Open-F.Lambda x0 x1 x2 x3 x4 x5) = opened x0 (at k.Backslash x1 ∷ ((arg_pattern x2).flat ++ (flat_all (map arg_pattern x3) ++ (at k.Arrow x4 ∷ x5.flat)))) ((arg_pattern x2).good && (good_all (map arg_pattern x3) && x5.good))
open_operand_step (Open-F.Let x0 x1 x2 x3 x4) = opened x0 (at k.Let x1 ∷ (x2.flat ++ (at k.In x3 ∷ x4.flat))) (x2.good && x4.good)
open_operand_step (Open-F.If x0 x1 x2 x3 x4 x5 x6) = opened x0 (at k.If x1 ∷ (x2.flat ++ (at k.Then x3 ∷ (x4.flat ++ (at k.Else x5 ∷ x6.flat))))) (x2.good && (x4.good && x6.good))

abbrev pub operand_step : Operand-F Print Print Print Print Print Print Print Print Print Print Print Print Print Print Print Print Print Print Print Print Print → Print
operand_step (Operand-F.Apply x0 x1 x2) = spanned x0 (x1.flat ++ flat_all x2) (x1.good && good_all x2)
operand_step (Operand-F.Case x0 x1 x2 x3 x4) = spanned x0 (at k.Case x1 ∷ (x2.flat ++ (at k.Of x3 ∷ x4.flat))) (x2.good && x4.good)
operand_step (Operand-F.Open x0) = x0

abbrev pub rhs_step : Rhs-F Print Print Print Print Print Print Print Print Print Print Print Print Print Print Print Print Print Print Print Print Print → Print
rhs_step (Rhs-F.Rhs::Plain x0 x1 x2 x3) = spanned x0 (at k.Equals x1 ∷ (x2.flat ++ x3.flat)) (x2.good && x3.good)
rhs_step (Rhs-F.Rhs::Guarded x0 x1 x2 x3) = spanned x0 (x1.flat ++ (flat_all x2 ++ x3.flat)) (x1.good && (good_all x2 && x3.good))

abbrev pub where_part_step : Where-F Print Print Print Print Print Print Print Print Print Print Print Print Print Print Print Print Print Print Print Print Print → Print
where_part_step (Where-F.Absent) = print [] true
where_part_step (Where-F.Block x0 x1) = print (at k.Where x0 ∷ x1.flat) x1.good

abbrev pub alt_guard_step : AltGuard-F Print Print Print Print Print Print Print Print Print Print Print Print Print Print Print Print Print Print Print Print Print → Print
alt_guard_step x = spanned x.span (at k.Bar x.bar ∷ (x.test.flat ++ (at k.Arrow x.mark ∷ x.body.flat))) (x.test.good && (not x.test.is_open && x.body.good))

abbrev pub alt_item_step : AltItem-F Print Print Print Print Print Print Print Print Print Print Print Print Print Print Print Print Print Print Print Print Print → Print
alt_item_step x = block_part x.alt x.marks

abbrev pub alts_step : Alts-F Print Print Print Print Print Print Print Print Print Print Print Print Print Print Print Print Print Print Print Print Print → Print
alts_step x = block_some x.span x.open x.before x.alts x.close

abbrev pub decl_item_step : DeclItem-F Print Print Print Print Print Print Print Print Print Print Print Print Print Print Print Print Print Print Print Print Print → Print
decl_item_step x = block_part x.decl x.marks

abbrev pub decls_step : Decls-F Print Print Print Print Print Print Print Print Print Print Print Print Print Print Print Print Print Print Print Print Print → Print
decls_step x = block x.span x.open x.before x.decls x.close

abbrev pub guard_step : Guard-F Print Print Print Print Print Print Print Print Print Print Print Print Print Print Print Print Print Print Print Print Print → Print
guard_step x = spanned x.span (at k.Bar x.bar ∷ (x.test.flat ++ (at k.Equals x.mark ∷ x.body.flat))) (x.test.good && (not x.test.is_open && x.body.good))

abbrev pub next_operand_step : NextOperand-F Print Print Print Print Print Print Print Print Print Print Print Print Print Print Print Print Print Print Print Print Print → Print
next_operand_step x = record { flat = op_flat x.op ++ (minus_flat x.minus ++ x.operand.flat); good = x.operand.good; is_open = x.operand.is_open; is_var = false; is_parted = false }

abbrev pub operands_step : OperandList-F Print Print Print Print Print Print Print Print Print Print Print Print Print Print Print Print Print Print Print Print Print → Print
operands_step x = operands_of x.span (minus_flat x.minus) x.first x.others

abbrev pub part_step : Part-F Print Print Print Print Print Print Print Print Print Print Print Print Print Print Print Print Print Print Print Print Print → Print
part_step x = print (at k.Comma x.mark ∷ x.exp.flat) x.exp.good

abbrev pub redef_step : Redef-F Print Print Print Print Print Print Print Print Print Print Print Print Print Print Print Print Print Print Print Print Print → Print
redef_step x = spanned x.span (var x.function ++ (at k.OpenBanana x.open ∷ var_id x.variable ∷ at k.CloseBanana x.close ∷ at k.Equals x.equals ∷ x.body.flat)) (plain x.variable && x.body.good)

abbrev pub redef_item_step : RedefItem-F Print Print Print Print Print Print Print Print Print Print Print Print Print Print Print Print Print Print Print Print Print → Print
redef_item_step x = block_part x.redef x.marks

abbrev pub redefs_step : Redefs-F Print Print Print Print Print Print Print Print Print Print Print Print Print Print Print Print Print Print Print Print Print → Print
redefs_step x = block_some x.span x.open x.before x.redefs x.close

unfoldable pub aexp : Aexp → Print
aexp = fold-Aexp Print Print Print Print Print Print Print Print Print Print Print Print Print Print Print Print Print Print Print Print Print aexp_step alt_step decl_step exp_step locals_step open_operand_step operand_step rhs_step where_part_step alt_guard_step alt_item_step alts_step decl_item_step decls_step guard_step next_operand_step operands_step part_step redef_step redef_item_step redefs_step

unfoldable pub alt : Alt → Print
alt = fold-Alt Print Print Print Print Print Print Print Print Print Print Print Print Print Print Print Print Print Print Print Print Print aexp_step alt_step decl_step exp_step locals_step open_operand_step operand_step rhs_step where_part_step alt_guard_step alt_item_step alts_step decl_item_step decls_step guard_step next_operand_step operands_step part_step redef_step redef_item_step redefs_step

unfoldable pub decl : Decl → Print
decl = fold-Decl Print Print Print Print Print Print Print Print Print Print Print Print Print Print Print Print Print Print Print Print Print aexp_step alt_step decl_step exp_step locals_step open_operand_step operand_step rhs_step where_part_step alt_guard_step alt_item_step alts_step decl_item_step decls_step guard_step next_operand_step operands_step part_step redef_step redef_item_step redefs_step

unfoldable pub exp : Exp → Print
exp = fold-Exp Print Print Print Print Print Print Print Print Print Print Print Print Print Print Print Print Print Print Print Print Print aexp_step alt_step decl_step exp_step locals_step open_operand_step operand_step rhs_step where_part_step alt_guard_step alt_item_step alts_step decl_item_step decls_step guard_step next_operand_step operands_step part_step redef_step redef_item_step redefs_step

unfoldable pub locals : Locals → Print
locals = fold-Locals Print Print Print Print Print Print Print Print Print Print Print Print Print Print Print Print Print Print Print Print Print aexp_step alt_step decl_step exp_step locals_step open_operand_step operand_step rhs_step where_part_step alt_guard_step alt_item_step alts_step decl_item_step decls_step guard_step next_operand_step operands_step part_step redef_step redef_item_step redefs_step

unfoldable pub open_operand : Open → Print
open_operand = fold-Open Print Print Print Print Print Print Print Print Print Print Print Print Print Print Print Print Print Print Print Print Print aexp_step alt_step decl_step exp_step locals_step open_operand_step operand_step rhs_step where_part_step alt_guard_step alt_item_step alts_step decl_item_step decls_step guard_step next_operand_step operands_step part_step redef_step redef_item_step redefs_step

unfoldable pub operand : Operand → Print
operand = fold-Operand Print Print Print Print Print Print Print Print Print Print Print Print Print Print Print Print Print Print Print Print Print aexp_step alt_step decl_step exp_step locals_step open_operand_step operand_step rhs_step where_part_step alt_guard_step alt_item_step alts_step decl_item_step decls_step guard_step next_operand_step operands_step part_step redef_step redef_item_step redefs_step

unfoldable pub rhs : Rhs → Print
rhs = fold-Rhs Print Print Print Print Print Print Print Print Print Print Print Print Print Print Print Print Print Print Print Print Print aexp_step alt_step decl_step exp_step locals_step open_operand_step operand_step rhs_step where_part_step alt_guard_step alt_item_step alts_step decl_item_step decls_step guard_step next_operand_step operands_step part_step redef_step redef_item_step redefs_step

unfoldable pub where_part : Where → Print
where_part = fold-Where Print Print Print Print Print Print Print Print Print Print Print Print Print Print Print Print Print Print Print Print Print aexp_step alt_step decl_step exp_step locals_step open_operand_step operand_step rhs_step where_part_step alt_guard_step alt_item_step alts_step decl_item_step decls_step guard_step next_operand_step operands_step part_step redef_step redef_item_step redefs_step

unfoldable pub alt_guard : AltGuard → Print
alt_guard = fold-AltGuard Print Print Print Print Print Print Print Print Print Print Print Print Print Print Print Print Print Print Print Print Print aexp_step alt_step decl_step exp_step locals_step open_operand_step operand_step rhs_step where_part_step alt_guard_step alt_item_step alts_step decl_item_step decls_step guard_step next_operand_step operands_step part_step redef_step redef_item_step redefs_step

unfoldable pub alt_item : AltItem → Print
alt_item = fold-AltItem Print Print Print Print Print Print Print Print Print Print Print Print Print Print Print Print Print Print Print Print Print aexp_step alt_step decl_step exp_step locals_step open_operand_step operand_step rhs_step where_part_step alt_guard_step alt_item_step alts_step decl_item_step decls_step guard_step next_operand_step operands_step part_step redef_step redef_item_step redefs_step

unfoldable pub alts : Alts → Print
alts = fold-Alts Print Print Print Print Print Print Print Print Print Print Print Print Print Print Print Print Print Print Print Print Print aexp_step alt_step decl_step exp_step locals_step open_operand_step operand_step rhs_step where_part_step alt_guard_step alt_item_step alts_step decl_item_step decls_step guard_step next_operand_step operands_step part_step redef_step redef_item_step redefs_step

unfoldable pub decl_item : DeclItem → Print
decl_item = fold-DeclItem Print Print Print Print Print Print Print Print Print Print Print Print Print Print Print Print Print Print Print Print Print aexp_step alt_step decl_step exp_step locals_step open_operand_step operand_step rhs_step where_part_step alt_guard_step alt_item_step alts_step decl_item_step decls_step guard_step next_operand_step operands_step part_step redef_step redef_item_step redefs_step

unfoldable pub decls : Decls → Print
decls = fold-Decls Print Print Print Print Print Print Print Print Print Print Print Print Print Print Print Print Print Print Print Print Print aexp_step alt_step decl_step exp_step locals_step open_operand_step operand_step rhs_step where_part_step alt_guard_step alt_item_step alts_step decl_item_step decls_step guard_step next_operand_step operands_step part_step redef_step redef_item_step redefs_step

unfoldable pub guard : Guard → Print
guard = fold-Guard Print Print Print Print Print Print Print Print Print Print Print Print Print Print Print Print Print Print Print Print Print aexp_step alt_step decl_step exp_step locals_step open_operand_step operand_step rhs_step where_part_step alt_guard_step alt_item_step alts_step decl_item_step decls_step guard_step next_operand_step operands_step part_step redef_step redef_item_step redefs_step

unfoldable pub next_operand : NextOperand → Print
next_operand = fold-NextOperand Print Print Print Print Print Print Print Print Print Print Print Print Print Print Print Print Print Print Print Print Print aexp_step alt_step decl_step exp_step locals_step open_operand_step operand_step rhs_step where_part_step alt_guard_step alt_item_step alts_step decl_item_step decls_step guard_step next_operand_step operands_step part_step redef_step redef_item_step redefs_step

unfoldable pub operands : OperandList → Print
operands = fold-OperandList Print Print Print Print Print Print Print Print Print Print Print Print Print Print Print Print Print Print Print Print Print aexp_step alt_step decl_step exp_step locals_step open_operand_step operand_step rhs_step where_part_step alt_guard_step alt_item_step alts_step decl_item_step decls_step guard_step next_operand_step operands_step part_step redef_step redef_item_step redefs_step

unfoldable pub part : Part → Print
part = fold-Part Print Print Print Print Print Print Print Print Print Print Print Print Print Print Print Print Print Print Print Print Print aexp_step alt_step decl_step exp_step locals_step open_operand_step operand_step rhs_step where_part_step alt_guard_step alt_item_step alts_step decl_item_step decls_step guard_step next_operand_step operands_step part_step redef_step redef_item_step redefs_step

unfoldable pub redef : Redef → Print
redef = fold-Redef Print Print Print Print Print Print Print Print Print Print Print Print Print Print Print Print Print Print Print Print Print aexp_step alt_step decl_step exp_step locals_step open_operand_step operand_step rhs_step where_part_step alt_guard_step alt_item_step alts_step decl_item_step decls_step guard_step next_operand_step operands_step part_step redef_step redef_item_step redefs_step

unfoldable pub redef_item : RedefItem → Print
redef_item = fold-RedefItem Print Print Print Print Print Print Print Print Print Print Print Print Print Print Print Print Print Print Print Print Print aexp_step alt_step decl_step exp_step locals_step open_operand_step operand_step rhs_step where_part_step alt_guard_step alt_item_step alts_step decl_item_step decls_step guard_step next_operand_step operands_step part_step redef_step redef_item_step redefs_step

unfoldable pub redefs : Redefs → Print
redefs = fold-Redefs Print Print Print Print Print Print Print Print Print Print Print Print Print Print Print Print Print Print Print Print Print aexp_step alt_step decl_step exp_step locals_step open_operand_step operand_step rhs_step where_part_step alt_guard_step alt_item_step alts_step decl_item_step decls_step guard_step next_operand_step operands_step part_step redef_step redef_item_step redefs_step

-- exports and imports

abbrev pub optional : Option Span → Kind → List Sym
optional None kind = []
optional (Some s) kind = at kind s ∷ []

abbrev pub next_con : NextCon → Print
next_con x = print (at k.Comma x.mark ∷ con x.con) (plain_con x.con)

abbrev pub parts : Option Parts → Print
parts None = print [] true
parts (Some (v_Parts.All s a m b)) = spanned s (at k.Open a ∷ at k.DotDot m ∷ at k.Close b ∷ []) true
parts (Some (v_Parts.Empty s a b)) = spanned s (at k.Open a ∷ at k.Close b ∷ []) true
parts (Some (v_Parts.Listed s a c cs b)) = spanned s (at k.Open a ∷ (con c ++ (flat_all (map next_con cs) ++ at k.Close b ∷ []))) (plain_con c && good_all (map next_con cs))

abbrev pub export : Export → Print
export (v_Export.Var v) = print (var v) true
export (v_Export.Con s n ps) = spanned s (con_id n ∷ (parts ps).flat) (parts ps).good
export (v_Export.Module s a n) = spanned s (at k.Module a ∷ con_id n ∷ []) (plain n)

abbrev pub next_export : NextExport → Print
next_export x = print (at k.Comma x.mark ∷ (export x.export).flat) (export x.export).good

abbrev pub export_list : Option ExportList → Print
export_list None = print [] true
export_list (Some l) = print ((export l.first).flat ++ flat_all (map next_export l.others)) ((export l.first).good && good_all (map next_export l.others))

abbrev pub exports : Option Exports → Print
exports None = print [] true
exports (Some x) = spanned x.span (at k.Open x.open ∷ ((export_list x.list).flat ++ (optional x.comma k.Comma ++ at k.Close x.close ∷ []))) (export_list x.list).good

abbrev pub entity : Entity → Print
entity (v_Entity.Var v) = print (var v) (plain_var v)
entity (v_Entity.Con s n ps) = spanned s (con_id n ∷ (parts ps).flat) (plain n && (parts ps).good)

abbrev pub next_entity : NextEntity → Print
next_entity x = print (at k.Comma x.mark ∷ (entity x.entity).flat) (entity x.entity).good

abbrev pub entities : Option Entities → Print
entities None = print [] true
entities (Some l) = print ((entity l.first).flat ++ flat_all (map next_entity l.others)) ((entity l.first).good && good_all (map next_entity l.others))

abbrev pub alias : Option Alias → Print
alias None = print [] true
alias (Some x) = print (at (k.VarId None AS) x.mark ∷ con_id x.name ∷ []) (plain x.name)

abbrev pub import_list : Option ImportList → Print
import_list None = print [] true
import_list (Some x) = print (optional x.hiding (k.VarId None HIDING) ++ (at k.Open x.open ∷ ((entities x.list).flat ++ (optional x.comma k.Comma ++ at k.Close x.close ∷ [])))) (entities x.list).good

abbrev pub import_item : Import → Print
import_item x = spanned x.span (at k.Import x.mark ∷ (optional x.qualified (k.VarId None QUALIFIED) ++ (con_id x.name ∷ ((alias x.alias).flat ++ (import_list x.list).flat))))
    (plain x.name && ((alias x.alias).good && (import_list x.list).good))

-- top declarations

abbrev pub tyvars : List Name → Print
tyvars [] = print [] true
tyvars (n ∷ ns) = print (var_id n ∷ (tyvars ns).flat) (plain n && (tyvars ns).good)

abbrev pub other_vars : Option OtherVars → Print
other_vars None = print [] true
other_vars (Some x) = print (at k.Bar x.mark ∷ var_id x.first ∷ flat_all (map next_name x.others)) (plain x.first && good_all (map next_name x.others))

abbrev pub gen_vars : GenVars → Print
gen_vars x = spanned x.span (at k.OpenBanana x.open ∷ var_id x.first ∷ (flat_all (map next_name x.others) ++ ((other_vars x.rest).flat ++ at k.CloseBanana x.close ∷ [])))
    (plain x.first && (good_all (map next_name x.others) && (other_vars x.rest).good))

abbrev pub dep : Dep → Print
dep x = spanned x.span (var x.function ++ (gen_vars x.vars).flat) (gen_vars x.vars).good

abbrev pub next_dep : NextDep → Print
next_dep x = print (at k.Comma x.mark ∷ (dep x.dep).flat) (dep x.dep).good

-- no other dependency stands where there is no first
abbrev pub dep_list : Option Dep → List NextDep → Print
dep_list None ds = print (flat_all (map next_dep ds)) (not (is_some ds))
dep_list (Some d) ds = print ((dep d).flat ++ flat_all (map next_dep ds)) ((dep d).good && good_all (map next_dep ds))

abbrev pub deps : Deps → Print
deps x = spanned x.span (at k.Open x.open ∷ ((dep_list x.first x.others).flat ++ at k.Close x.close ∷ [])) (dep_list x.first x.others).good

abbrev pub context : Option Context → Print
context None = print [] true
context (Some x) = print ((deps x.deps).flat ++ at k.DoubleArrow x.mark ∷ []) (deps x.deps).good

abbrev pub constr : Constr → Print
constr (v_Constr.Prefix s c ts) = spanned s (con c ++ flat_all (map arg_type ts)) (plain_con c && good_all (map arg_type ts))
constr (v_Constr.Infix s l o r) = spanned s ((btype l).flat ++ (con_op o ++ (btype r).flat)) ((btype l).good && (plain_con_op o && (btype r).good))

abbrev pub next_constr : NextConstr → Print
next_constr x = print (at k.Bar x.mark ∷ (constr x.constr).flat) (constr x.constr).good

abbrev pub top : Top → Print
top (v_Top.Synonym s a n ps m t) = spanned s (at k.TypeWord a ∷ con_id n ∷ ((tyvars ps).flat ++ (at k.Equals m ∷ (type_expr t).flat))) (plain n && ((tyvars ps).good && (type_expr t).good))
top (v_Top.Data s a n ps m c cs) = spanned s (at k.Data a ∷ con_id n ∷ ((tyvars ps).flat ++ (at k.Equals m ∷ ((constr c).flat ++ flat_all (map next_constr cs)))))
    (plain n && ((tyvars ps).good && ((constr c).good && good_all (map next_constr cs))))
top (v_Top.Newtype s a n ps m c t) = spanned s (at k.Newtype a ∷ con_id n ∷ ((tyvars ps).flat ++ (at k.Equals m ∷ (con c ++ (arg_type t).flat)))) (plain n && ((tyvars ps).good && (plain_con c && (arg_type t).good)))
top (v_Top.Signature s v vs m c t) = spanned s (var v ++ ((gen_vars vs).flat ++ (at k.Colons m ∷ ((context c).flat ++ (type_expr t).flat)))) (plain_var v && ((gen_vars vs).good && ((context c).good && (type_expr t).good)))
top (v_Top.Case s v a t b ps r) = spanned s (var v ++ (at k.OpenBanana a ∷ ((type_expr t).flat ++ (at k.CloseBanana b ∷ (flat_all (map arg_pattern ps) ++ (rhs r).flat)))))
    (plain_var v && ((type_expr t).good && (good_all (map arg_pattern ps) && (rhs r).good)))
top (v_Top.Extends s v m w) = spanned s (var v ++ (at (k.VarId None EXTENDS) m ∷ var w)) (plain_var v)
top (v_Top.Decl d) = decl d

-- files

abbrev pub item : Item → Print
item v_Item.Empty = print [] true
item (v_Item.Import x) = import_item x
item (v_Item.Top x) = top x

abbrev pub next_item : NextItem → Print
next_item x = print (block_semi x.mark ∷ (item x.item).flat) (item x.item).good

abbrev pub is_no_import : Item → Bool
is_no_import (v_Item.Import x) = false
is_no_import _ = true

-- no import stands behind a top declaration
abbrev pub tops_alone : List NextItem → Bool
tops_alone [] = true
tops_alone (x ∷ xs) = is_no_import x.item && tops_alone xs

abbrev pub imports_first : Item → List NextItem → Bool
imports_first (v_Item.Top t) xs = tops_alone xs
imports_first _ [] = true
imports_first _ (x ∷ xs) = imports_first x.item xs

abbrev pub header : Option Header → Print
header None = print [] true
header (Some h) = spanned h.span (at k.Module h.mark ∷ con_id h.name ∷ ((exports h.exports).flat ++ at k.Where h.begins ∷ [])) (plain h.name && (exports h.exports).good)

abbrev pub module_print : ModuleTree → Print
module_print t = spanned t.span ((header t.header).flat ++ (block_open t.open ∷ ((item t.first).flat ++ (flat_all (map next_item t.others) ++ block_close t.close ∷ []))))
    ((header t.header).good && ((item t.first).good && (good_all (map next_item t.others) && imports_first t.first t.others)))

-- the laid tokens of a file's tree
abbrev pub flat : ModuleTree → List Sym
flat t = (module_print t).flat

abbrev pub IsWellFormed : ModuleTree → Type 0
IsWellFormed t = IsTrue (module_print t).good

-- these laid tokens are those of a well-formed tree
abbrev pub Spells : List Sym → ModuleTree → Type 0
Spells ss t = IsWellFormed t × (flat t ≡ ss)

-- well-formed trees with the same laid tokens are one tree
abbrev pub HaveOneTree : Type 0
HaveOneTree = (t u : ModuleTree) → IsWellFormed t → IsWellFormed u → flat t ≡ flat u → t ≡ u

abbrev pub HaveOneType : Type 0
HaveOneType = (t u : TypeExpr) → IsTrue (type_expr t).good → IsTrue (type_expr u).good → (type_expr t).flat ≡ (type_expr u).flat → t ≡ u

abbrev pub HaveOnePattern : Type 0
HaveOnePattern = (t u : Pattern) → IsTrue (pattern t).good → IsTrue (pattern u).good → (pattern t).flat ≡ (pattern u).flat → t ≡ u

abbrev pub HaveOneExportList : Type 0
HaveOneExportList = (t u : Exports) → IsTrue (exports (Some t)).good → IsTrue (exports (Some u)).good → (exports (Some t)).flat ≡ (exports (Some u)).flat → t ≡ u
