-- Trees that are not well formed, each for one cause that its comment names.
use Rattle.std.proofs.Common.{◌≡◌, ℕ, ◌+◌, true, false, [], ◌∷◌, Option, Some, None, refl}
use Rattle.gh_base.specs.declared.fixed.TheConstants.{MINUS, PLUS}
use Rattle.gh_base.specs.declared.names.NameId.{NameId}
use Rattle.gh_base.specs.declared.place.Span.{Span}
use Rattle.gh_tree.specs.declared.names.Name.{Name}
use Rattle.gh_tree.specs.declared.names.Var.TheVariants as v_Var
use Rattle.gh_tree.specs.declared.names.VarOp.TheVariants as v_VarOp
use Rattle.gh_tree.specs.declared.names.Op.TheVariants as v_Op
use Rattle.gh_tree.specs.declared.names.BlockMark.TheVariants as v_BlockMark
use Rattle.gh_tree.specs.declared.names.FixityWord.TheVariants as v_FixityWord
use Rattle.gh_tree.specs.declared.types.ArgType.TheVariants as v_ArgType
use Rattle.gh_tree.specs.declared.types.BType.{roll-BType}
use Rattle.gh_tree.specs.declared.types.TypeExpr.{TypeExpr, roll-TypeExpr}
use Rattle.gh_tree.specs.declared.patterns.ArgPattern.TheVariants as v_ArgPattern
use Rattle.gh_tree.specs.declared.patterns.PatOperand.TheVariants as v_PatOperand
use Rattle.gh_tree.specs.declared.patterns.Pattern.{roll-Pattern}
use Rattle.gh_tree.specs.declared.expressions.Aexp.TheVariants as v_Aexp
use Rattle.gh_tree.specs.declared.expressions.Decl.TheVariants as v_Decl
use Rattle.gh_tree.specs.declared.expressions.Exp.{Exp}
use Rattle.gh_tree.specs.declared.expressions.Exp.TheVariants as v_Exp
use Rattle.gh_tree.specs.declared.expressions.Open.TheVariants as v_Open
use Rattle.gh_tree.specs.declared.expressions.Operand.{Operand}
use Rattle.gh_tree.specs.declared.expressions.Operand.TheVariants as v_Operand
use Rattle.gh_tree.specs.declared.expressions.Rhs.TheVariants as v_Rhs
use Rattle.gh_tree.specs.declared.expressions.Where.TheVariants as v_Where
use Rattle.gh_tree.specs.declared.expressions.Alts.{roll-Alts}
use Rattle.gh_tree.specs.declared.expressions.OperandList.{roll-OperandList}
use Rattle.gh_tree.specs.declared.module_tree.Item.{Item}
use Rattle.gh_tree.specs.declared.module_tree.Item.TheVariants as v_Item
use Rattle.gh_tree.specs.declared.tops.Top.TheVariants as v_Top
use Rattle.gh_tree.specs.Print.{type_expr, exp, decl, alts, imports_first}
use Rattle.gh_tree.specs.Syms.{cover}
use Rattle.gh_tree.proofs.Printed.{printed}

abbrev sp : ℕ → ℕ → Span
sp a b = record { file = 1; from = a; to = b }

abbrev id : ℕ → NameId
id n = record { 0 = n }

abbrev name : ℕ → Option NameId → NameId → Name
name i q n = record { span = sp i (i + 1); qualifier = q; id = n }

abbrev one_type : Span → Name → TypeExpr
one_type s n = roll-TypeExpr (record { span = s; first = roll-BType (record { span = sp 0 1; head = v_ArgType.Var n; args = [] }); arrows = [] })

abbrev alone : Span → Operand → Exp
alone s x = v_Exp.Plain (roll-OperandList (record { span = s; minus = None; first = x; others = [] }))

abbrev one : ℕ → ℕ → Exp
one i n = alone (sp i (i + 1)) (v_Operand.Apply (sp i (i + 1)) (v_Aexp.Int (sp i (i + 1)) n) [])

--     a : with the bytes of two tokens
pub wrong_span : (type_expr (one_type (sp 0 2) (name 0 None (id 200)))).good ≡ false
unfolding cover
wrong_span = simp printed

--     M.a : a type variable with a qualifier
pub qualified_variable : (type_expr (one_type (sp 0 1) (name 0 (Some (id 207)) (id 200)))).good ≡ false
unfolding cover
qualified_variable = simp printed

--     ( a ) : a tuple of one part
abbrev small_tuple : TypeExpr
small_tuple = roll-TypeExpr (record { span = sp 0 3; first = roll-BType (record { span = sp 0 3; head = v_ArgType.Tuple (sp 0 3) (sp 0 1) (roll-TypeExpr (record { span = sp 1 2; first = roll-BType (record { span = sp 1 2; head = v_ArgType.Var (name 1 None (id 200)); args = [] }); arrows = [] })) [] (sp 2 3); args = [] }); arrows = [] })

pub tuple_of_one : (type_expr small_tuple).good ≡ false
unfolding cover
tuple_of_one = simp printed

--     ( - 1 ) : a section of a minus sign
pub minus_section : (exp (alone (sp 0 4) (v_Operand.Apply (sp 0 4) (v_Aexp.Right (sp 0 4) (sp 0 1) (v_Op.Var (v_VarOp.Symbol (name 1 None MINUS)))
    (roll-OperandList (record { span = sp 2 3; minus = None; first = v_Operand.Apply (sp 2 3) (v_Aexp.Int (sp 2 3) 1) []; others = [] })) (sp 3 4)) []))).good ≡ false
unfolding cover
minus_section = simp printed

--     ( \ x -> 1 + ) : a section of an open operand
pub open_section : (exp (alone (sp 0 7) (v_Operand.Apply (sp 0 7) (v_Aexp.Left (sp 0 7) (sp 0 1)
    (roll-OperandList (record { span = sp 1 5; minus = None; first = v_Operand.Open (v_Open.Lambda (sp 1 5) (sp 1 2) (v_ArgPattern.Var (v_Var.Word (name 2 None (id 205)))) [] (sp 3 4) (one 4 1)); others = [] }))
    (v_Op.Var (v_VarOp.Symbol (name 5 None PLUS))) (sp 6 7)) []))).good ≡ false
unfolding cover
open_section = simp printed

--     x = 1 : as a pattern's binding
pub variable_as_pattern : (decl (v_Decl.Pattern (sp 0 3) (roll-Pattern (record { span = sp 0 1; first = v_PatOperand.Arg (v_ArgPattern.Var (v_Var.Word (name 0 None (id 205)))); others = [] }))
    (v_Rhs.Plain (sp 1 3) (sp 1 2) (one 2 1) v_Where.Absent))).good ≡ false
unfolding cover
variable_as_pattern = simp printed

--     infixl 10 + : a level past 9
pub level_ten : (decl (v_Decl.Fixity (sp 0 3) (v_FixityWord.Left (sp 0 1)) (Some (sp 1 2, 10)) (v_Op.Var (v_VarOp.Symbol (name 2 None PLUS))) [])).good ≡ false
unfolding cover
level_ten = simp printed

--     { } : no alternative
pub no_alternative : (alts (roll-Alts (record { span = sp 0 2; «open» = v_BlockMark.Written (sp 0 1); before = []; alts = []; close = v_BlockMark.Written (sp 1 2) }))).good ≡ false
unfolding cover
no_alternative = simp printed

-- an import behind a declaration of the top
abbrev extends : Item
extends = v_Item.Top (v_Top.Extends (sp 0 3) (v_Var.Word (name 0 None (id 204))) (sp 1 2) (v_Var.Word (name 2 None (id 205))))

abbrev import : Item
import = v_Item.Import (record { span = sp 3 5; mark = sp 3 4; qualified = None; name = name 4 None (id 207); alias = None; list = None })

pub import_behind_top : imports_first extends (record { mark = v_BlockMark.Inserted 3; item = import } ∷ []) ≡ false
import_behind_top = refl

pub import_before_top : imports_first import (record { mark = v_BlockMark.Inserted 3; item = extends } ∷ []) ≡ true
import_before_top = refl
