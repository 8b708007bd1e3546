-- How deep a tree is: the greatest weight of a path of nodes. A node weighs one; one with a list of operands, arguments,
-- elements, local bindings, alternatives, guards or types of an arrow weighs as many as that list has parts, where these
-- are more than one. The fields of a constructor's declaration are none of these lists. Each production is a node. Names,
-- operators and marks are none.
use Rattle.std.specs.Prelude.{ℕ, ◌+◌, ◌-◌, ◌^◌, min, max, List, [], ◌∷◌, length, map, Option, Some, None}
use Rattle.gh_tree.specs.declared.types.ArgType.{ArgType, fold-ArgType}
use Rattle.gh_tree.specs.declared.types.Arrow.{Arrow, fold-Arrow}
use Rattle.gh_tree.specs.declared.types.BType.{BType, fold-BType}
use Rattle.gh_tree.specs.declared.types.TypeExpr.{TypeExpr, fold-TypeExpr}
use Rattle.gh_tree.specs.declared.types.TypePart.{TypePart, fold-TypePart}
use Rattle.gh_tree.specs.declared.types.ArgType.TheOpen.{ArgType-F, Arrow-F, BType-F, TypeExpr-F, TypePart-F}
use Rattle.gh_tree.specs.declared.patterns.ArgPattern.{ArgPattern, fold-ArgPattern}
use Rattle.gh_tree.specs.declared.patterns.PatOperand.{PatOperand, fold-PatOperand}
use Rattle.gh_tree.specs.declared.patterns.NextPattern.{NextPattern, fold-NextPattern}
use Rattle.gh_tree.specs.declared.patterns.PatPart.{PatPart, fold-PatPart}
use Rattle.gh_tree.specs.declared.patterns.Pattern.{Pattern, fold-Pattern}
use Rattle.gh_tree.specs.declared.patterns.ArgPattern.TheOpen.{ArgPattern-F, PatOperand-F, NextPattern-F, PatPart-F, Pattern-F}
use Rattle.gh_tree.specs.declared.patterns.FunLhs.{FunLhs, fold-FunLhs}
use Rattle.gh_tree.specs.declared.patterns.FunLhs.TheOpen.{FunLhs-F}
use Rattle.gh_tree.specs.declared.expressions.Aexp.{Aexp, fold-Aexp}
use Rattle.gh_tree.specs.declared.expressions.Alt.{Alt, fold-Alt}
use Rattle.gh_tree.specs.declared.expressions.Decl.{Decl, fold-Decl}
use Rattle.gh_tree.specs.declared.expressions.Exp.{Exp, fold-Exp}
use Rattle.gh_tree.specs.declared.expressions.Locals.{Locals, fold-Locals}
use Rattle.gh_tree.specs.declared.expressions.Open.{Open, fold-Open}
use Rattle.gh_tree.specs.declared.expressions.Operand.{Operand, fold-Operand}
use Rattle.gh_tree.specs.declared.expressions.Rhs.{Rhs, fold-Rhs}
use Rattle.gh_tree.specs.declared.expressions.Where.{Where, fold-Where}
use Rattle.gh_tree.specs.declared.expressions.AltGuard.{AltGuard, fold-AltGuard}
use Rattle.gh_tree.specs.declared.expressions.AltItem.{AltItem, fold-AltItem}
use Rattle.gh_tree.specs.declared.expressions.Alts.{Alts, fold-Alts}
use Rattle.gh_tree.specs.declared.expressions.DeclItem.{DeclItem, fold-DeclItem}
use Rattle.gh_tree.specs.declared.expressions.Decls.{Decls, fold-Decls}
use Rattle.gh_tree.specs.declared.expressions.Guard.{Guard, fold-Guard}
use Rattle.gh_tree.specs.declared.expressions.NextOperand.{NextOperand, fold-NextOperand}
use Rattle.gh_tree.specs.declared.expressions.OperandList.{OperandList, fold-OperandList}
use Rattle.gh_tree.specs.declared.expressions.Part.{Part, fold-Part}
use Rattle.gh_tree.specs.declared.expressions.Redef.{Redef, fold-Redef}
use Rattle.gh_tree.specs.declared.expressions.RedefItem.{RedefItem, fold-RedefItem}
use Rattle.gh_tree.specs.declared.expressions.Redefs.{Redefs, fold-Redefs}
use Rattle.gh_tree.specs.declared.expressions.Aexp.TheOpen.{Aexp-F, Alt-F, Decl-F, Exp-F, Locals-F, Open-F, Operand-F, Rhs-F, Where-F, AltGuard-F, AltItem-F, Alts-F, DeclItem-F, Decls-F, Guard-F, NextOperand-F, OperandList-F, Part-F, Redef-F, RedefItem-F, Redefs-F}
use Rattle.gh_tree.specs.declared.tops.Exports.{Exports}
use Rattle.gh_tree.specs.declared.tops.Export.{Export}
use Rattle.gh_tree.specs.declared.tops.Parts.{Parts}
use Rattle.gh_tree.specs.declared.tops.Import.{Import}
use Rattle.gh_tree.specs.declared.tops.Entity.{Entity}
use Rattle.gh_tree.specs.declared.tops.Entities.{Entities}
use Rattle.gh_tree.specs.declared.tops.ExportList.{ExportList}
use Rattle.gh_tree.specs.declared.tops.ImportList.{ImportList}
use Rattle.gh_tree.specs.declared.tops.Top.{Top}
use Rattle.gh_tree.specs.declared.tops.Context.{Context}
use Rattle.gh_tree.specs.declared.tops.Dep.{Dep}
use Rattle.gh_tree.specs.declared.tops.Constr.{Constr}
use Rattle.gh_tree.specs.declared.tops.Export.TheVariants as export
use Rattle.gh_tree.specs.declared.tops.Entity.TheVariants as entity
use Rattle.gh_tree.specs.declared.tops.Top.TheVariants as top
use Rattle.gh_tree.specs.declared.tops.Constr.TheVariants as constr
use Rattle.gh_tree.specs.declared.module_tree.ModuleTree.{ModuleTree}
use Rattle.gh_tree.specs.declared.module_tree.Header.{Header}
use Rattle.gh_tree.specs.declared.module_tree.Item.{Item}
use Rattle.gh_tree.specs.declared.module_tree.Item.TheVariants as item

-- a number, or the greatest `u32` for all above
unfoldable pub capped : ℕ → ℕ
capped n = min n (2 ^ 32 - 1)

-- a sum that stands still at the greatest `u32`
unfoldable pub capped_sum : ℕ → ℕ → ℕ
capped_sum a b = min (a + b) (2 ^ 32 - 1)

-- the weight of a node whose list has so many parts
abbrev pub weight_of : ℕ → ℕ
weight_of count = max 1 count

-- the greatest depth of several nodes
abbrev pub deepest : List ℕ → ℕ
deepest [] = 0
deepest (d ∷ ds) = max d (deepest ds)

-- types

abbrev pub arg_type_step : ArgType-F ℕ ℕ ℕ ℕ ℕ → ℕ
arg_type_step (ArgType-F.Con x0) = 1
arg_type_step (ArgType-F.Var x0) = 1
arg_type_step (ArgType-F.Unit x0 x1 x2) = 1
arg_type_step (ArgType-F.NoList x0 x1 x2) = 1
arg_type_step (ArgType-F.NoArrow x0 x1 x2 x3) = 1
arg_type_step (ArgType-F.NoTuple x0 x1 x2 x3) = 1
arg_type_step (ArgType-F.Paren x0 x1 x2 x3) = 1 + x2
arg_type_step (ArgType-F.Tuple x0 x1 x2 x3 x4) = 1 + length x3 + (max x2 (deepest x3))
arg_type_step (ArgType-F.List x0 x1 x2 x3) = 1 + x2

abbrev pub arrow_step : Arrow-F ℕ ℕ ℕ ℕ ℕ → ℕ
arrow_step x = x.to

abbrev pub btype_step : BType-F ℕ ℕ ℕ ℕ ℕ → ℕ
btype_step x = weight_of (length x.args) + (max x.head (deepest x.args))

abbrev pub type_step : TypeExpr-F ℕ ℕ ℕ ℕ ℕ → ℕ
type_step x = 1 + length x.arrows + (max x.first (deepest x.arrows))

abbrev pub type_part_step : TypePart-F ℕ ℕ ℕ ℕ ℕ → ℕ
type_part_step x = x.part

unfoldable pub arg_type_depth : ArgType → ℕ
arg_type_depth = fold-ArgType ℕ ℕ ℕ ℕ ℕ arg_type_step arrow_step btype_step type_step type_part_step

unfoldable pub arrow_depth : Arrow → ℕ
arrow_depth = fold-Arrow ℕ ℕ ℕ ℕ ℕ arg_type_step arrow_step btype_step type_step type_part_step

unfoldable pub btype_depth : BType → ℕ
btype_depth = fold-BType ℕ ℕ ℕ ℕ ℕ arg_type_step arrow_step btype_step type_step type_part_step

unfoldable pub type_depth : TypeExpr → ℕ
type_depth = fold-TypeExpr ℕ ℕ ℕ ℕ ℕ arg_type_step arrow_step btype_step type_step type_part_step

unfoldable pub type_part_depth : TypePart → ℕ
type_part_depth = fold-TypePart ℕ ℕ ℕ ℕ ℕ arg_type_step arrow_step btype_step type_step type_part_step

-- patterns

abbrev pub arg_pattern_step : ArgPattern-F ℕ ℕ ℕ ℕ ℕ → ℕ
arg_pattern_step (ArgPattern-F.Var x0) = 1
arg_pattern_step (ArgPattern-F.As x0 x1 x2 x3) = 1 + x3
arg_pattern_step (ArgPattern-F.Wild x0) = 1
arg_pattern_step (ArgPattern-F.ArgPattern::Con x0) = 1 + 1
arg_pattern_step (ArgPattern-F.Int x0 x1) = 1
arg_pattern_step (ArgPattern-F.Char x0 x1) = 1
arg_pattern_step (ArgPattern-F.Str x0 x1) = 1
arg_pattern_step (ArgPattern-F.Paren x0 x1 x2 x3) = 1 + x2
arg_pattern_step (ArgPattern-F.Tuple x0 x1 x2 x3 x4) = 1 + length x3 + (max x2 (deepest x3))
arg_pattern_step (ArgPattern-F.List x0 x1 x2 x3 x4) = 1 + length x3 + (max x2 (deepest x3))

abbrev pub pat_operand_step : PatOperand-F ℕ ℕ ℕ ℕ ℕ → ℕ
pat_operand_step (PatOperand-F.Negative x0 x1 x2 x3) = 1
pat_operand_step (PatOperand-F.Arg x0) = 1 + x0
pat_operand_step (PatOperand-F.PatOperand::Con x0 x1 x2 x3) = 1 + length x3 + (max 1 (max x2 (deepest x3)))

abbrev pub next_pattern_step : NextPattern-F ℕ ℕ ℕ ℕ ℕ → ℕ
next_pattern_step x = x.operand

abbrev pub pat_part_step : PatPart-F ℕ ℕ ℕ ℕ ℕ → ℕ
pat_part_step x = x.part

abbrev pub pattern_step : Pattern-F ℕ ℕ ℕ ℕ ℕ → ℕ
pattern_step x = 1 + length x.others + (max x.first (deepest x.others))

unfoldable pub arg_pattern_depth : ArgPattern → ℕ
arg_pattern_depth = fold-ArgPattern ℕ ℕ ℕ ℕ ℕ arg_pattern_step pat_operand_step next_pattern_step pat_part_step pattern_step

unfoldable pub pat_operand_depth : PatOperand → ℕ
pat_operand_depth = fold-PatOperand ℕ ℕ ℕ ℕ ℕ arg_pattern_step pat_operand_step next_pattern_step pat_part_step pattern_step

unfoldable pub next_pattern_depth : NextPattern → ℕ
next_pattern_depth = fold-NextPattern ℕ ℕ ℕ ℕ ℕ arg_pattern_step pat_operand_step next_pattern_step pat_part_step pattern_step

unfoldable pub pat_part_depth : PatPart → ℕ
pat_part_depth = fold-PatPart ℕ ℕ ℕ ℕ ℕ arg_pattern_step pat_operand_step next_pattern_step pat_part_step pattern_step

unfoldable pub pattern_depth : Pattern → ℕ
pattern_depth = fold-Pattern ℕ ℕ ℕ ℕ ℕ arg_pattern_step pat_operand_step next_pattern_step pat_part_step pattern_step

-- left sides of functions

abbrev pub fun_lhs_step : FunLhs-F ℕ → ℕ
fun_lhs_step (FunLhs-F.Prefix x0 x1 x2) = weight_of (length x2) + (deepest (map arg_pattern_depth x2))
fun_lhs_step (FunLhs-F.Infix x0 x1 x2 x3 x4 x5) = 2 + length x2 + length x5 + (max (pat_operand_depth x1) (max (deepest (map next_pattern_depth x2)) (max (pat_operand_depth x4) (deepest (map next_pattern_depth x5)))))
fun_lhs_step (FunLhs-F.Nested x0 x1 x2 x3 x4 x5) = 1 + length x5 + (max x2 (max (arg_pattern_depth x4) (deepest (map arg_pattern_depth x5))))

unfoldable pub fun_lhs_depth : FunLhs → ℕ
fun_lhs_depth = fold-FunLhs ℕ fun_lhs_step

-- expressions and declarations

abbrev pub aexp_step : Aexp-F ℕ ℕ ℕ ℕ ℕ ℕ ℕ ℕ ℕ ℕ ℕ ℕ ℕ ℕ ℕ ℕ ℕ ℕ ℕ ℕ ℕ → ℕ
aexp_step (Aexp-F.Var x0) = 1
aexp_step (Aexp-F.Generic x0 x1 x2 x3 x4) = 1 + (type_depth x3)
aexp_step (Aexp-F.Con x0) = 1 + 1
aexp_step (Aexp-F.Int x0 x1) = 1
aexp_step (Aexp-F.Char x0 x1) = 1
aexp_step (Aexp-F.Str x0 x1) = 1
aexp_step (Aexp-F.Paren x0 x1 x2 x3) = 1 + x2
aexp_step (Aexp-F.Tuple x0 x1 x2 x3 x4) = 1 + length x3 + (max x2 (deepest x3))
aexp_step (Aexp-F.List x0 x1 x2 x3 x4) = 1 + length x3 + (max x2 (deepest x3))
aexp_step (Aexp-F.Left x0 x1 x2 x3 x4) = 1 + x2
aexp_step (Aexp-F.Right x0 x1 x2 x3 x4) = 1 + x3

abbrev pub alt_step : Alt-F ℕ ℕ ℕ ℕ ℕ ℕ ℕ ℕ ℕ ℕ ℕ ℕ ℕ ℕ ℕ ℕ ℕ ℕ ℕ ℕ ℕ → ℕ
alt_step (Alt-F.Alt::Plain x0 x1 x2 x3 x4) = 1 + (max (pattern_depth x1) (max x3 x4))
alt_step (Alt-F.Alt::Guarded x0 x1 x2 x3 x4) = 1 + length x3 + (max (pattern_depth x1) (max x2 (max (deepest x3) x4)))

abbrev pub decl_step : Decl-F ℕ ℕ ℕ ℕ ℕ ℕ ℕ ℕ ℕ ℕ ℕ ℕ ℕ ℕ ℕ ℕ ℕ ℕ ℕ ℕ ℕ → ℕ
decl_step (Decl-F.Signature x0 x1 x2 x3 x4) = 1 + (type_depth x4)
decl_step (Decl-F.Fixity x0 x1 x2 x3 x4) = 1 + 1
decl_step (Decl-F.Function x0 x1 x2) = 1 + (max (fun_lhs_depth x1) x2)
decl_step (Decl-F.Pattern x0 x1 x2) = 1 + (max (pattern_depth x1) x2)

abbrev pub exp_step : Exp-F ℕ ℕ ℕ ℕ ℕ ℕ ℕ ℕ ℕ ℕ ℕ ℕ ℕ ℕ ℕ ℕ ℕ ℕ ℕ ℕ ℕ → ℕ
exp_step (Exp-F.Exp::Plain x0) = 1 + x0
exp_step (Exp-F.Typed x0 x1 x2 x3) = 1 + (max x1 (type_depth x3))

abbrev pub locals_step : Locals-F ℕ ℕ ℕ ℕ ℕ ℕ ℕ ℕ ℕ ℕ ℕ ℕ ℕ ℕ ℕ ℕ ℕ ℕ ℕ ℕ ℕ → ℕ
locals_step (Locals-F.Decls x0) = 1 + x0
locals_step (Locals-F.Redefs x0) = x0

abbrev pub open_step : Open-F ℕ ℕ ℕ ℕ ℕ ℕ ℕ ℕ ℕ ℕ ℕ ℕ ℕ ℕ ℕ ℕ ℕ ℕ ℕ ℕ ℕ → ℕ
open_step (Open-F.Lambda x0 x1 x2 x3 x4 x5) = 1 + length x3 + (max (arg_pattern_depth x2) (max (deepest (map arg_pattern_depth x3)) x5))
open_step (Open-F.Let x0 x1 x2 x3 x4) = 1 + (max x2 x4)
open_step (Open-F.If x0 x1 x2 x3 x4 x5 x6) = 1 + (max x2 (max x4 x6))

abbrev pub operand_step : Operand-F ℕ ℕ ℕ ℕ ℕ ℕ ℕ ℕ ℕ ℕ ℕ ℕ ℕ ℕ ℕ ℕ ℕ ℕ ℕ ℕ ℕ → ℕ
operand_step (Operand-F.Apply x0 x1 x2) = weight_of (length x2) + (max x1 (deepest x2))
operand_step (Operand-F.Case x0 x1 x2 x3 x4) = 1 + (max x2 x4)
operand_step (Operand-F.Open x0) = 1 + x0

abbrev pub rhs_step : Rhs-F ℕ ℕ ℕ ℕ ℕ ℕ ℕ ℕ ℕ ℕ ℕ ℕ ℕ ℕ ℕ ℕ ℕ ℕ ℕ ℕ ℕ → ℕ
rhs_step (Rhs-F.Rhs::Plain x0 x1 x2 x3) = 1 + (max x2 x3)
rhs_step (Rhs-F.Rhs::Guarded x0 x1 x2 x3) = 1 + length x2 + (max x1 (max (deepest x2) x3))

abbrev pub where_step : Where-F ℕ ℕ ℕ ℕ ℕ ℕ ℕ ℕ ℕ ℕ ℕ ℕ ℕ ℕ ℕ ℕ ℕ ℕ ℕ ℕ ℕ → ℕ
where_step (Where-F.Absent) = 0
where_step (Where-F.Block x0 x1) = x1

abbrev pub alt_guard_step : AltGuard-F ℕ ℕ ℕ ℕ ℕ ℕ ℕ ℕ ℕ ℕ ℕ ℕ ℕ ℕ ℕ ℕ ℕ ℕ ℕ ℕ ℕ → ℕ
alt_guard_step x = 1 + (max x.test x.body)

abbrev pub alt_item_step : AltItem-F ℕ ℕ ℕ ℕ ℕ ℕ ℕ ℕ ℕ ℕ ℕ ℕ ℕ ℕ ℕ ℕ ℕ ℕ ℕ ℕ ℕ → ℕ
alt_item_step x = x.alt

abbrev pub alts_step : Alts-F ℕ ℕ ℕ ℕ ℕ ℕ ℕ ℕ ℕ ℕ ℕ ℕ ℕ ℕ ℕ ℕ ℕ ℕ ℕ ℕ ℕ → ℕ
alts_step x = weight_of (length x.alts) + (deepest x.alts)

abbrev pub decl_item_step : DeclItem-F ℕ ℕ ℕ ℕ ℕ ℕ ℕ ℕ ℕ ℕ ℕ ℕ ℕ ℕ ℕ ℕ ℕ ℕ ℕ ℕ ℕ → ℕ
decl_item_step x = x.decl

abbrev pub decls_step : Decls-F ℕ ℕ ℕ ℕ ℕ ℕ ℕ ℕ ℕ ℕ ℕ ℕ ℕ ℕ ℕ ℕ ℕ ℕ ℕ ℕ ℕ → ℕ
decls_step x = weight_of (length x.decls) + (deepest x.decls)

abbrev pub guard_step : Guard-F ℕ ℕ ℕ ℕ ℕ ℕ ℕ ℕ ℕ ℕ ℕ ℕ ℕ ℕ ℕ ℕ ℕ ℕ ℕ ℕ ℕ → ℕ
guard_step x = 1 + (max x.test x.body)

abbrev pub next_operand_step : NextOperand-F ℕ ℕ ℕ ℕ ℕ ℕ ℕ ℕ ℕ ℕ ℕ ℕ ℕ ℕ ℕ ℕ ℕ ℕ ℕ ℕ ℕ → ℕ
next_operand_step x = x.operand

abbrev pub operands_step : OperandList-F ℕ ℕ ℕ ℕ ℕ ℕ ℕ ℕ ℕ ℕ ℕ ℕ ℕ ℕ ℕ ℕ ℕ ℕ ℕ ℕ ℕ → ℕ
operands_step x = 1 + length x.others + (max x.first (deepest x.others))

abbrev pub part_step : Part-F ℕ ℕ ℕ ℕ ℕ ℕ ℕ ℕ ℕ ℕ ℕ ℕ ℕ ℕ ℕ ℕ ℕ ℕ ℕ ℕ ℕ → ℕ
part_step x = x.exp

abbrev pub redef_step : Redef-F ℕ ℕ ℕ ℕ ℕ ℕ ℕ ℕ ℕ ℕ ℕ ℕ ℕ ℕ ℕ ℕ ℕ ℕ ℕ ℕ ℕ → ℕ
redef_step x = 1 + x.body

abbrev pub redef_item_step : RedefItem-F ℕ ℕ ℕ ℕ ℕ ℕ ℕ ℕ ℕ ℕ ℕ ℕ ℕ ℕ ℕ ℕ ℕ ℕ ℕ ℕ ℕ → ℕ
redef_item_step x = x.redef

abbrev pub redefs_step : Redefs-F ℕ ℕ ℕ ℕ ℕ ℕ ℕ ℕ ℕ ℕ ℕ ℕ ℕ ℕ ℕ ℕ ℕ ℕ ℕ ℕ ℕ → ℕ
redefs_step x = weight_of (length x.redefs) + (deepest x.redefs)

unfoldable pub aexp_depth : Aexp → ℕ
aexp_depth = fold-Aexp ℕ ℕ ℕ ℕ ℕ ℕ ℕ ℕ ℕ ℕ ℕ ℕ ℕ ℕ ℕ ℕ ℕ ℕ ℕ ℕ ℕ aexp_step alt_step decl_step exp_step locals_step open_step operand_step rhs_step where_step alt_guard_step alt_item_step alts_step decl_item_step decls_step guard_step next_operand_step operands_step part_step redef_step redef_item_step redefs_step

unfoldable pub alt_depth : Alt → ℕ
alt_depth = fold-Alt ℕ ℕ ℕ ℕ ℕ ℕ ℕ ℕ ℕ ℕ ℕ ℕ ℕ ℕ ℕ ℕ ℕ ℕ ℕ ℕ ℕ aexp_step alt_step decl_step exp_step locals_step open_step operand_step rhs_step where_step alt_guard_step alt_item_step alts_step decl_item_step decls_step guard_step next_operand_step operands_step part_step redef_step redef_item_step redefs_step

unfoldable pub decl_depth : Decl → ℕ
decl_depth = fold-Decl ℕ ℕ ℕ ℕ ℕ ℕ ℕ ℕ ℕ ℕ ℕ ℕ ℕ ℕ ℕ ℕ ℕ ℕ ℕ ℕ ℕ aexp_step alt_step decl_step exp_step locals_step open_step operand_step rhs_step where_step alt_guard_step alt_item_step alts_step decl_item_step decls_step guard_step next_operand_step operands_step part_step redef_step redef_item_step redefs_step

unfoldable pub exp_depth : Exp → ℕ
exp_depth = fold-Exp ℕ ℕ ℕ ℕ ℕ ℕ ℕ ℕ ℕ ℕ ℕ ℕ ℕ ℕ ℕ ℕ ℕ ℕ ℕ ℕ ℕ aexp_step alt_step decl_step exp_step locals_step open_step operand_step rhs_step where_step alt_guard_step alt_item_step alts_step decl_item_step decls_step guard_step next_operand_step operands_step part_step redef_step redef_item_step redefs_step

unfoldable pub locals_depth : Locals → ℕ
locals_depth = fold-Locals ℕ ℕ ℕ ℕ ℕ ℕ ℕ ℕ ℕ ℕ ℕ ℕ ℕ ℕ ℕ ℕ ℕ ℕ ℕ ℕ ℕ aexp_step alt_step decl_step exp_step locals_step open_step operand_step rhs_step where_step alt_guard_step alt_item_step alts_step decl_item_step decls_step guard_step next_operand_step operands_step part_step redef_step redef_item_step redefs_step

unfoldable pub open_depth : Open → ℕ
open_depth = fold-Open ℕ ℕ ℕ ℕ ℕ ℕ ℕ ℕ ℕ ℕ ℕ ℕ ℕ ℕ ℕ ℕ ℕ ℕ ℕ ℕ ℕ aexp_step alt_step decl_step exp_step locals_step open_step operand_step rhs_step where_step alt_guard_step alt_item_step alts_step decl_item_step decls_step guard_step next_operand_step operands_step part_step redef_step redef_item_step redefs_step

unfoldable pub operand_depth : Operand → ℕ
operand_depth = fold-Operand ℕ ℕ ℕ ℕ ℕ ℕ ℕ ℕ ℕ ℕ ℕ ℕ ℕ ℕ ℕ ℕ ℕ ℕ ℕ ℕ ℕ aexp_step alt_step decl_step exp_step locals_step open_step operand_step rhs_step where_step alt_guard_step alt_item_step alts_step decl_item_step decls_step guard_step next_operand_step operands_step part_step redef_step redef_item_step redefs_step

unfoldable pub rhs_depth : Rhs → ℕ
rhs_depth = fold-Rhs ℕ ℕ ℕ ℕ ℕ ℕ ℕ ℕ ℕ ℕ ℕ ℕ ℕ ℕ ℕ ℕ ℕ ℕ ℕ ℕ ℕ aexp_step alt_step decl_step exp_step locals_step open_step operand_step rhs_step where_step alt_guard_step alt_item_step alts_step decl_item_step decls_step guard_step next_operand_step operands_step part_step redef_step redef_item_step redefs_step

unfoldable pub where_depth : Where → ℕ
where_depth = fold-Where ℕ ℕ ℕ ℕ ℕ ℕ ℕ ℕ ℕ ℕ ℕ ℕ ℕ ℕ ℕ ℕ ℕ ℕ ℕ ℕ ℕ aexp_step alt_step decl_step exp_step locals_step open_step operand_step rhs_step where_step alt_guard_step alt_item_step alts_step decl_item_step decls_step guard_step next_operand_step operands_step part_step redef_step redef_item_step redefs_step

unfoldable pub alt_guard_depth : AltGuard → ℕ
alt_guard_depth = fold-AltGuard ℕ ℕ ℕ ℕ ℕ ℕ ℕ ℕ ℕ ℕ ℕ ℕ ℕ ℕ ℕ ℕ ℕ ℕ ℕ ℕ ℕ aexp_step alt_step decl_step exp_step locals_step open_step operand_step rhs_step where_step alt_guard_step alt_item_step alts_step decl_item_step decls_step guard_step next_operand_step operands_step part_step redef_step redef_item_step redefs_step

unfoldable pub alt_item_depth : AltItem → ℕ
alt_item_depth = fold-AltItem ℕ ℕ ℕ ℕ ℕ ℕ ℕ ℕ ℕ ℕ ℕ ℕ ℕ ℕ ℕ ℕ ℕ ℕ ℕ ℕ ℕ aexp_step alt_step decl_step exp_step locals_step open_step operand_step rhs_step where_step alt_guard_step alt_item_step alts_step decl_item_step decls_step guard_step next_operand_step operands_step part_step redef_step redef_item_step redefs_step

unfoldable pub alts_depth : Alts → ℕ
alts_depth = fold-Alts ℕ ℕ ℕ ℕ ℕ ℕ ℕ ℕ ℕ ℕ ℕ ℕ ℕ ℕ ℕ ℕ ℕ ℕ ℕ ℕ ℕ aexp_step alt_step decl_step exp_step locals_step open_step operand_step rhs_step where_step alt_guard_step alt_item_step alts_step decl_item_step decls_step guard_step next_operand_step operands_step part_step redef_step redef_item_step redefs_step

unfoldable pub decl_item_depth : DeclItem → ℕ
decl_item_depth = fold-DeclItem ℕ ℕ ℕ ℕ ℕ ℕ ℕ ℕ ℕ ℕ ℕ ℕ ℕ ℕ ℕ ℕ ℕ ℕ ℕ ℕ ℕ aexp_step alt_step decl_step exp_step locals_step open_step operand_step rhs_step where_step alt_guard_step alt_item_step alts_step decl_item_step decls_step guard_step next_operand_step operands_step part_step redef_step redef_item_step redefs_step

unfoldable pub decls_depth : Decls → ℕ
decls_depth = fold-Decls ℕ ℕ ℕ ℕ ℕ ℕ ℕ ℕ ℕ ℕ ℕ ℕ ℕ ℕ ℕ ℕ ℕ ℕ ℕ ℕ ℕ aexp_step alt_step decl_step exp_step locals_step open_step operand_step rhs_step where_step alt_guard_step alt_item_step alts_step decl_item_step decls_step guard_step next_operand_step operands_step part_step redef_step redef_item_step redefs_step

unfoldable pub guard_depth : Guard → ℕ
guard_depth = fold-Guard ℕ ℕ ℕ ℕ ℕ ℕ ℕ ℕ ℕ ℕ ℕ ℕ ℕ ℕ ℕ ℕ ℕ ℕ ℕ ℕ ℕ aexp_step alt_step decl_step exp_step locals_step open_step operand_step rhs_step where_step alt_guard_step alt_item_step alts_step decl_item_step decls_step guard_step next_operand_step operands_step part_step redef_step redef_item_step redefs_step

unfoldable pub next_operand_depth : NextOperand → ℕ
next_operand_depth = fold-NextOperand ℕ ℕ ℕ ℕ ℕ ℕ ℕ ℕ ℕ ℕ ℕ ℕ ℕ ℕ ℕ ℕ ℕ ℕ ℕ ℕ ℕ aexp_step alt_step decl_step exp_step locals_step open_step operand_step rhs_step where_step alt_guard_step alt_item_step alts_step decl_item_step decls_step guard_step next_operand_step operands_step part_step redef_step redef_item_step redefs_step

unfoldable pub operands_depth : OperandList → ℕ
operands_depth = fold-OperandList ℕ ℕ ℕ ℕ ℕ ℕ ℕ ℕ ℕ ℕ ℕ ℕ ℕ ℕ ℕ ℕ ℕ ℕ ℕ ℕ ℕ aexp_step alt_step decl_step exp_step locals_step open_step operand_step rhs_step where_step alt_guard_step alt_item_step alts_step decl_item_step decls_step guard_step next_operand_step operands_step part_step redef_step redef_item_step redefs_step

unfoldable pub part_depth : Part → ℕ
part_depth = fold-Part ℕ ℕ ℕ ℕ ℕ ℕ ℕ ℕ ℕ ℕ ℕ ℕ ℕ ℕ ℕ ℕ ℕ ℕ ℕ ℕ ℕ aexp_step alt_step decl_step exp_step locals_step open_step operand_step rhs_step where_step alt_guard_step alt_item_step alts_step decl_item_step decls_step guard_step next_operand_step operands_step part_step redef_step redef_item_step redefs_step

unfoldable pub redef_depth : Redef → ℕ
redef_depth = fold-Redef ℕ ℕ ℕ ℕ ℕ ℕ ℕ ℕ ℕ ℕ ℕ ℕ ℕ ℕ ℕ ℕ ℕ ℕ ℕ ℕ ℕ aexp_step alt_step decl_step exp_step locals_step open_step operand_step rhs_step where_step alt_guard_step alt_item_step alts_step decl_item_step decls_step guard_step next_operand_step operands_step part_step redef_step redef_item_step redefs_step

unfoldable pub redef_item_depth : RedefItem → ℕ
redef_item_depth = fold-RedefItem ℕ ℕ ℕ ℕ ℕ ℕ ℕ ℕ ℕ ℕ ℕ ℕ ℕ ℕ ℕ ℕ ℕ ℕ ℕ ℕ ℕ aexp_step alt_step decl_step exp_step locals_step open_step operand_step rhs_step where_step alt_guard_step alt_item_step alts_step decl_item_step decls_step guard_step next_operand_step operands_step part_step redef_step redef_item_step redefs_step

unfoldable pub redefs_depth : Redefs → ℕ
redefs_depth = fold-Redefs ℕ ℕ ℕ ℕ ℕ ℕ ℕ ℕ ℕ ℕ ℕ ℕ ℕ ℕ ℕ ℕ ℕ ℕ ℕ ℕ ℕ aexp_step alt_step decl_step exp_step locals_step open_step operand_step rhs_step where_step alt_guard_step alt_item_step alts_step decl_item_step decls_step guard_step next_operand_step operands_step part_step redef_step redef_item_step redefs_step

-- exports, imports and top declarations

-- the list of constructors of a type is a node
abbrev pub parts_depth : Option Parts → ℕ
parts_depth None = 0
parts_depth (Some p) = 1

abbrev pub export_depth : Export → ℕ
export_depth (export.Var v) = 1
export_depth (export.Con s n p) = 1 + parts_depth p
export_depth (export.Module s a n) = 1

abbrev pub export_list_depth : Option ExportList → ℕ
export_list_depth None = 0
export_list_depth (Some l) = max (export_depth l.first) (deepest (map (λ x. export_depth x.export) l.others))

abbrev pub exports_depth : Exports → ℕ
exports_depth x = 1 + export_list_depth x.list

abbrev pub entity_depth : Entity → ℕ
entity_depth (entity.Var v) = 1
entity_depth (entity.Con s n p) = 1 + parts_depth p

abbrev pub entities_depth : Option Entities → ℕ
entities_depth None = 0
entities_depth (Some l) = max (entity_depth l.first) (deepest (map (λ x. entity_depth x.entity) l.others))

abbrev pub import_list_depth : Option ImportList → ℕ
import_list_depth None = 0
import_list_depth (Some l) = entities_depth l.list

abbrev pub import_depth : Import → ℕ
import_depth x = 1 + import_list_depth x.list

abbrev pub deps_inside : Option Dep → ℕ
deps_inside None = 0
deps_inside (Some d) = 2

-- a dependency is a node over the node of its variables
abbrev pub context_depth : Option Context → ℕ
context_depth None = 0
context_depth (Some c) = 1 + deps_inside c.deps.first

abbrev pub constr_depth : Constr → ℕ
constr_depth (constr.Prefix s c ts) = 1 + deepest (map arg_type_depth ts)
constr_depth (constr.Infix s l o r) = 1 + max (btype_depth l) (btype_depth r)

abbrev pub top_depth : Top → ℕ
top_depth (top.Synonym s a n ps m t) = 1 + type_depth t
top_depth (top.Data s a n ps m k ks) = 1 + max (constr_depth k) (deepest (map (λ x. constr_depth x.constr) ks))
top_depth (top.Newtype s a n ps m k t) = 1 + arg_type_depth t
top_depth (top.Signature s v vs m c t) = 1 + max 1 (max (context_depth c) (type_depth t))
top_depth (top.Case s v a t b ps r) = weight_of (length ps) + max (type_depth t) (max (deepest (map arg_pattern_depth ps)) (rhs_depth r))
top_depth (top.Extends s v m w) = 1
top_depth (top.Decl d) = 1 + decl_depth d

abbrev pub item_depth : Item → ℕ
item_depth item.Empty = 1
item_depth (item.Import x) = 1 + import_depth x
item_depth (item.Top x) = 1 + top_depth x

abbrev pub exports_of : Option Exports → ℕ
exports_of None = 0
exports_of (Some x) = exports_depth x

abbrev pub header_depth : Option Header → ℕ
header_depth None = 0
header_depth (Some h) = exports_of h.exports

-- the greatest depth of an item; the header is one
abbrev pub depth_of : ModuleTree → ℕ
depth_of t = max (header_depth t.header) (max (item_depth t.first) (deepest (map (λ x. item_depth x.item) t.others)))
