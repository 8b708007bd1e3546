-- Small programs as trees. Each is printed as its tokens, which stand above it as text, and is well formed. Token `i` has the
-- bytes from `i` up to `i + 1`. `<{`, `<;` and `<}` are marks that the layout inserted.
use Rattle.std.proofs.Common.{◌≡◌, ℕ, ◌+◌, true, [], ◌∷◌, Option, Some, None, refl}
use Rattle.gh_base.specs.declared.fixed.TheConstants.{EXTENDS, MINUS, PLUS, COMPOSE, PRODUCT, MAIN_MODULE, MAIN}
use Rattle.gh_base.specs.declared.names.NameId.{NameId}
use Rattle.gh_base.specs.declared.place.Span.{Span}
use Rattle.gh_tree.specs.declared.symbol.Kind.TheVariants as k
use Rattle.gh_tree.specs.declared.names.Name.{Name}
use Rattle.gh_tree.specs.declared.names.Var.TheVariants as v_Var
use Rattle.gh_tree.specs.declared.names.Con.TheVariants as v_Con
use Rattle.gh_tree.specs.declared.names.VarOp.TheVariants as v_VarOp
use Rattle.gh_tree.specs.declared.names.ConOp.TheVariants as v_ConOp
use Rattle.gh_tree.specs.declared.names.Op.TheVariants as v_Op
use Rattle.gh_tree.specs.declared.names.GenCon.TheVariants as v_GenCon
use Rattle.gh_tree.specs.declared.names.BlockMark.TheVariants as v_BlockMark
use Rattle.gh_tree.specs.declared.names.FixityWord.TheVariants as v_FixityWord
use Rattle.gh_tree.specs.declared.types.ArgType.TheVariants as v_ArgType
use Rattle.gh_tree.specs.declared.types.BType.{roll-BType}
use Rattle.gh_tree.specs.declared.types.TypeExpr.{TypeExpr, roll-TypeExpr}
use Rattle.gh_tree.specs.declared.patterns.ArgPattern.TheVariants as v_ArgPattern
use Rattle.gh_tree.specs.declared.patterns.PatOperand.TheVariants as v_PatOperand
use Rattle.gh_tree.specs.declared.patterns.FunLhs.TheVariants as v_FunLhs
use Rattle.gh_tree.specs.declared.patterns.NextPattern.{roll-NextPattern}
use Rattle.gh_tree.specs.declared.patterns.PatPart.{roll-PatPart}
use Rattle.gh_tree.specs.declared.patterns.Pattern.{Pattern, roll-Pattern}
use Rattle.gh_tree.specs.declared.expressions.Aexp.TheVariants as v_Aexp
use Rattle.gh_tree.specs.declared.expressions.Alt.TheVariants as v_Alt
use Rattle.gh_tree.specs.declared.expressions.Decl.{Decl}
use Rattle.gh_tree.specs.declared.expressions.Decl.TheVariants as v_Decl
use Rattle.gh_tree.specs.declared.expressions.Exp.{Exp}
use Rattle.gh_tree.specs.declared.expressions.Exp.TheVariants as v_Exp
use Rattle.gh_tree.specs.declared.expressions.Locals.TheVariants as v_Locals
use Rattle.gh_tree.specs.declared.expressions.Open.TheVariants as v_Open
use Rattle.gh_tree.specs.declared.expressions.Operand.TheVariants as v_Operand
use Rattle.gh_tree.specs.declared.expressions.Rhs.TheVariants as v_Rhs
use Rattle.gh_tree.specs.declared.expressions.Where.TheVariants as v_Where
use Rattle.gh_tree.specs.declared.expressions.AltGuard.{roll-AltGuard}
use Rattle.gh_tree.specs.declared.expressions.AltItem.{roll-AltItem}
use Rattle.gh_tree.specs.declared.expressions.Alts.{roll-Alts}
use Rattle.gh_tree.specs.declared.expressions.DeclItem.{roll-DeclItem}
use Rattle.gh_tree.specs.declared.expressions.Decls.{roll-Decls}
use Rattle.gh_tree.specs.declared.expressions.Guard.{roll-Guard}
use Rattle.gh_tree.specs.declared.expressions.OperandList.{roll-OperandList}
use Rattle.gh_tree.specs.declared.tops.Top.{Top}
use Rattle.gh_tree.specs.declared.tops.Top.TheVariants as v_Top
use Rattle.gh_tree.specs.declared.module_tree.ModuleTree.{ModuleTree}
use Rattle.gh_tree.specs.declared.module_tree.Item.TheVariants as v_Item
use Rattle.gh_tree.specs.Print.{type_expr, pattern, exp, decl, top, module_print}
use Rattle.gh_tree.specs.Syms.{at, nowhere, cover}
use Rattle.gh_tree.proofs.Printed.{printed}

abbrev sp : ℕ → ℕ → Span
sp a b = record { file = 1; from = a; to = b }

abbrev id : ℕ → NameId
id n = record { 0 = n }

abbrev name : ℕ → Option NameId → NameId → Name
name i q n = record { span = sp i (i + 1); qualifier = q; id = n }

--     Int
abbrev type_0 : TypeExpr
type_0 = roll-TypeExpr (record { span = (sp 0 1); first = (roll-BType (record { span = (sp 0 1); head = (v_ArgType.Con (name 0 None (id 200))); args = ([]) })); arrows = ([]) })

pub type_0_flat : (type_expr type_0).flat ≡ at (k.ConId None (id 200)) (sp 0 1) ∷ []
type_0_flat = simp printed

pub type_0_good : (type_expr type_0).good ≡ true
unfolding cover
type_0_good = simp printed

--     f x y
abbrev type_2 : TypeExpr
type_2 = roll-TypeExpr (record { span = (sp 0 3); first = (roll-BType (record { span = (sp 0 3); head = (v_ArgType.Var (name 0 None (id 204))); args = ((v_ArgType.Var (name 1 None (id 205))) ∷ (v_ArgType.Var (name 2 None (id 206))) ∷ []) })); arrows = ([]) })

pub type_2_flat : (type_expr type_2).flat ≡ at (k.VarId None (id 204)) (sp 0 1) ∷ at (k.VarId None (id 205)) (sp 1 2) ∷ at (k.VarId None (id 206)) (sp 2 3) ∷ []
type_2_flat = simp printed

pub type_2_good : (type_expr type_2).good ≡ true
unfolding cover
type_2_good = simp printed

--     ( )
abbrev type_3 : TypeExpr
type_3 = roll-TypeExpr (record { span = (sp 0 2); first = (roll-BType (record { span = (sp 0 2); head = (v_ArgType.Unit (sp 0 2) (sp 0 1) (sp 1 2)); args = ([]) })); arrows = ([]) })

pub type_3_flat : (type_expr type_3).flat ≡ at k.Open (sp 0 1) ∷ at k.Close (sp 1 2) ∷ []
type_3_flat = simp printed

pub type_3_good : (type_expr type_3).good ≡ true
unfolding cover
type_3_good = simp printed

--     [ ] a
abbrev type_4 : TypeExpr
type_4 = roll-TypeExpr (record { span = (sp 0 3); first = (roll-BType (record { span = (sp 0 3); head = (v_ArgType.NoList (sp 0 2) (sp 0 1) (sp 1 2)); args = ((v_ArgType.Var (name 2 None (id 201))) ∷ []) })); arrows = ([]) })

pub type_4_flat : (type_expr type_4).flat ≡ at k.OpenList (sp 0 1) ∷ at k.CloseList (sp 1 2) ∷ at (k.VarId None (id 201)) (sp 2 3) ∷ []
type_4_flat = simp printed

pub type_4_good : (type_expr type_4).good ≡ true
unfolding cover
type_4_good = simp printed

--     ( -> ) a
abbrev type_5 : TypeExpr
type_5 = roll-TypeExpr (record { span = (sp 0 4); first = (roll-BType (record { span = (sp 0 4); head = (v_ArgType.NoArrow (sp 0 3) (sp 0 1) (sp 1 2) (sp 2 3)); args = ((v_ArgType.Var (name 3 None (id 201))) ∷ []) })); arrows = ([]) })

pub type_5_flat : (type_expr type_5).flat ≡ at k.Open (sp 0 1) ∷ at k.Arrow (sp 1 2) ∷ at k.Close (sp 2 3) ∷ at (k.VarId None (id 201)) (sp 3 4) ∷ []
type_5_flat = simp printed

pub type_5_good : (type_expr type_5).good ≡ true
unfolding cover
type_5_good = simp printed

--     ( , , )
abbrev type_6 : TypeExpr
type_6 = roll-TypeExpr (record { span = (sp 0 4); first = (roll-BType (record { span = (sp 0 4); head = (v_ArgType.NoTuple (sp 0 4) (sp 0 1) ((sp 1 2) ∷ (sp 2 3) ∷ []) (sp 3 4)); args = ([]) })); arrows = ([]) })

pub type_6_flat : (type_expr type_6).flat ≡ at k.Open (sp 0 1) ∷ at k.Comma (sp 1 2) ∷ at k.Comma (sp 2 3) ∷ at k.Close (sp 3 4) ∷ []
type_6_flat = simp printed

pub type_6_good : (type_expr type_6).good ≡ true
unfolding cover
type_6_good = simp printed

--     [ M.T a ]
abbrev type_9 : TypeExpr
type_9 = roll-TypeExpr (record { span = (sp 0 4); first = (roll-BType (record { span = (sp 0 4); head = (v_ArgType.List (sp 0 4) (sp 0 1) (roll-TypeExpr (record { span = (sp 1 3); first = (roll-BType (record { span = (sp 1 3); head = (v_ArgType.Con (name 1 (Some (id 207)) (id 208))); args = ((v_ArgType.Var (name 2 None (id 201))) ∷ []) })); arrows = ([]) })) (sp 3 4)); args = ([]) })); arrows = ([]) })

pub type_9_flat : (type_expr type_9).flat ≡ at k.OpenList (sp 0 1) ∷ at (k.ConId (Some (id 207)) (id 208)) (sp 1 2) ∷ at (k.VarId None (id 201)) (sp 2 3) ∷ at k.CloseList (sp 3 4) ∷ []
type_9_flat = simp printed

pub type_9_good : (type_expr type_9).good ≡ true
unfolding cover
type_9_good = simp printed

--     x
abbrev pat_0 : Pattern
pat_0 = roll-Pattern (record { span = (sp 0 1); first = (v_PatOperand.Arg (v_ArgPattern.Var (v_Var.Word (name 0 None (id 205))))); others = ([]) })

pub pat_0_flat : (pattern pat_0).flat ≡ at (k.VarId None (id 205)) (sp 0 1) ∷ []
pat_0_flat = simp printed

pub pat_0_good : (pattern pat_0).good ≡ true
unfolding cover
pat_0_good = simp printed

--     x : xs
abbrev pat_1 : Pattern
pat_1 = roll-Pattern (record { span = (sp 0 3); first = (v_PatOperand.Arg (v_ArgPattern.Var (v_Var.Word (name 0 None (id 205))))); others = ((roll-NextPattern (record { op = (v_ConOp.Colon (sp 1 2)); operand = (v_PatOperand.Arg (v_ArgPattern.Var (v_Var.Word (name 2 None (id 209))))) })) ∷ []) })

pub pat_1_flat : (pattern pat_1).flat ≡ at (k.VarId None (id 205)) (sp 0 1) ∷ at k.Colon (sp 1 2) ∷ at (k.VarId None (id 209)) (sp 2 3) ∷ []
pat_1_flat = simp printed

pub pat_1_good : (pattern pat_1).good ≡ true
unfolding cover
pat_1_good = simp printed

--     - 1
abbrev pat_2 : Pattern
pat_2 = roll-Pattern (record { span = (sp 0 2); first = (v_PatOperand.Negative (sp 0 2) (sp 0 1) (sp 1 2) 1); others = ([]) })

pub pat_2_flat : (pattern pat_2).flat ≡ at (k.VarSym None MINUS) (sp 0 1) ∷ at (k.Int 1) (sp 1 2) ∷ []
pat_2_flat = simp printed

pub pat_2_good : (pattern pat_2).good ≡ true
unfolding cover
pat_2_good = simp printed

--     C x _
abbrev pat_3 : Pattern
pat_3 = roll-Pattern (record { span = (sp 0 3); first = (v_PatOperand.Con (sp 0 3) (v_GenCon.Con (v_Con.Word (name 0 None (id 210)))) (v_ArgPattern.Var (v_Var.Word (name 1 None (id 205)))) ((v_ArgPattern.Wild (sp 2 3)) ∷ [])); others = ([]) })

pub pat_3_flat : (pattern pat_3).flat ≡ at (k.ConId None (id 210)) (sp 0 1) ∷ at (k.VarId None (id 205)) (sp 1 2) ∷ at k.Underscore (sp 2 3) ∷ []
pat_3_flat = simp printed

pub pat_3_good : (pattern pat_3).good ≡ true
unfolding cover
pat_3_good = simp printed

--     ( x , [ y , 2 ] )
abbrev pat_4 : Pattern
pat_4 = roll-Pattern (record { span = (sp 0 9); first = (v_PatOperand.Arg (v_ArgPattern.Tuple (sp 0 9) (sp 0 1) (roll-Pattern (record { span = (sp 1 2); first = (v_PatOperand.Arg (v_ArgPattern.Var (v_Var.Word (name 1 None (id 205))))); others = ([]) })) ((roll-PatPart (record { mark = (sp 2 3); part = (roll-Pattern (record { span = (sp 3 8); first = (v_PatOperand.Arg (v_ArgPattern.List (sp 3 8) (sp 3 4) (roll-Pattern (record { span = (sp 4 5); first = (v_PatOperand.Arg (v_ArgPattern.Var (v_Var.Word (name 4 None (id 206))))); others = ([]) })) ((roll-PatPart (record { mark = (sp 5 6); part = (roll-Pattern (record { span = (sp 6 7); first = (v_PatOperand.Arg (v_ArgPattern.Int (sp 6 7) 2)); others = ([]) })) })) ∷ []) (sp 7 8))); others = ([]) })) })) ∷ []) (sp 8 9))); others = ([]) })

pub pat_4_flat : (pattern pat_4).flat ≡ at k.Open (sp 0 1) ∷ at (k.VarId None (id 205)) (sp 1 2) ∷ at k.Comma (sp 2 3) ∷ at k.OpenList (sp 3 4) ∷ at (k.VarId None (id 206)) (sp 4 5) ∷ at k.Comma (sp 5 6) ∷ at (k.Int 2) (sp 6 7) ∷ at k.CloseList (sp 7 8) ∷ at k.Close (sp 8 9) ∷ []
pat_4_flat = simp printed

pub pat_4_good : (pattern pat_4).good ≡ true
unfolding cover
pat_4_good = simp printed

--     all @ ( A.C _ )
abbrev pat_5 : Pattern
pat_5 = roll-Pattern (record { span = (sp 0 6); first = (v_PatOperand.Arg (v_ArgPattern.As (sp 0 6) (v_Var.Word (name 0 None (id 211))) (sp 1 2) (v_ArgPattern.Paren (sp 2 6) (sp 2 3) (roll-Pattern (record { span = (sp 3 5); first = (v_PatOperand.Con (sp 3 5) (v_GenCon.Con (v_Con.Word (name 3 (Some (id 212)) (id 210)))) (v_ArgPattern.Wild (sp 4 5)) ([])); others = ([]) })) (sp 5 6)))); others = ([]) })

pub pat_5_flat : (pattern pat_5).flat ≡ at (k.VarId None (id 211)) (sp 0 1) ∷ at k.At (sp 1 2) ∷ at k.Open (sp 2 3) ∷ at (k.ConId (Some (id 212)) (id 210)) (sp 3 4) ∷ at k.Underscore (sp 4 5) ∷ at k.Close (sp 5 6) ∷ []
pat_5_flat = simp printed

pub pat_5_good : (pattern pat_5).good ≡ true
unfolding cover
pat_5_good = simp printed

--     ( :*: ) a b
abbrev pat_6 : Pattern
pat_6 = roll-Pattern (record { span = (sp 0 5); first = (v_PatOperand.Con (sp 0 5) (v_GenCon.Con (v_Con.Symbol (sp 0 1) (name 1 None PRODUCT) (sp 2 3))) (v_ArgPattern.Var (v_Var.Word (name 3 None (id 201)))) ((v_ArgPattern.Var (v_Var.Word (name 4 None (id 202)))) ∷ [])); others = ([]) })

pub pat_6_flat : (pattern pat_6).flat ≡ at k.Open (sp 0 1) ∷ at (k.ConSym None PRODUCT) (sp 1 2) ∷ at k.Close (sp 2 3) ∷ at (k.VarId None (id 201)) (sp 3 4) ∷ at (k.VarId None (id 202)) (sp 4 5) ∷ []
pat_6_flat = simp printed

pub pat_6_good : (pattern pat_6).good ≡ true
unfolding cover
pat_6_good = simp printed

--     [ ]
abbrev pat_7 : Pattern
pat_7 = roll-Pattern (record { span = (sp 0 2); first = (v_PatOperand.Arg (v_ArgPattern.Con (v_GenCon.Nil (sp 0 2) (sp 0 1) (sp 1 2)))); others = ([]) })

pub pat_7_flat : (pattern pat_7).flat ≡ at k.OpenList (sp 0 1) ∷ at k.CloseList (sp 1 2) ∷ []
pat_7_flat = simp printed

pub pat_7_good : (pattern pat_7).good ≡ true
unfolding cover
pat_7_good = simp printed

--     f x y
abbrev exp_0 : Exp
exp_0 = v_Exp.Plain (roll-OperandList (record { span = (sp 0 3); minus = None; first = (v_Operand.Apply (sp 0 3) (v_Aexp.Var (v_Var.Word (name 0 None (id 204)))) ((v_Aexp.Var (v_Var.Word (name 1 None (id 205)))) ∷ (v_Aexp.Var (v_Var.Word (name 2 None (id 206)))) ∷ [])); others = ([]) }))

pub exp_0_flat : (exp exp_0).flat ≡ at (k.VarId None (id 204)) (sp 0 1) ∷ at (k.VarId None (id 205)) (sp 1 2) ∷ at (k.VarId None (id 206)) (sp 2 3) ∷ []
exp_0_flat = simp printed

pub exp_0_good : (exp exp_0).good ≡ true
unfolding cover
exp_0_good = simp printed

--     ( + 1 )
abbrev exp_3 : Exp
exp_3 = v_Exp.Plain (roll-OperandList (record { span = (sp 0 4); minus = None; first = (v_Operand.Apply (sp 0 4) (v_Aexp.Right (sp 0 4) (sp 0 1) (v_Op.Var (v_VarOp.Symbol (name 1 None PLUS))) (roll-OperandList (record { span = (sp 2 3); minus = None; first = (v_Operand.Apply (sp 2 3) (v_Aexp.Int (sp 2 3) 1) ([])); others = ([]) })) (sp 3 4)) ([])); others = ([]) }))

pub exp_3_flat : (exp exp_3).flat ≡ at k.Open (sp 0 1) ∷ at (k.VarSym None PLUS) (sp 1 2) ∷ at (k.Int 1) (sp 2 3) ∷ at k.Close (sp 3 4) ∷ []
exp_3_flat = simp printed

pub exp_3_good : (exp exp_3).good ≡ true
unfolding cover
exp_3_good = simp printed

--     ( a + )
abbrev exp_4 : Exp
exp_4 = v_Exp.Plain (roll-OperandList (record { span = (sp 0 4); minus = None; first = (v_Operand.Apply (sp 0 4) (v_Aexp.Left (sp 0 4) (sp 0 1) (roll-OperandList (record { span = (sp 1 2); minus = None; first = (v_Operand.Apply (sp 1 2) (v_Aexp.Var (v_Var.Word (name 1 None (id 201)))) ([])); others = ([]) })) (v_Op.Var (v_VarOp.Symbol (name 2 None PLUS))) (sp 3 4)) ([])); others = ([]) }))

pub exp_4_flat : (exp exp_4).flat ≡ at k.Open (sp 0 1) ∷ at (k.VarId None (id 201)) (sp 1 2) ∷ at (k.VarSym None PLUS) (sp 2 3) ∷ at k.Close (sp 3 4) ∷ []
exp_4_flat = simp printed

pub exp_4_good : (exp exp_4).good ≡ true
unfolding cover
exp_4_good = simp printed

--     if a then b else c
abbrev exp_7 : Exp
exp_7 = v_Exp.Plain (roll-OperandList (record { span = (sp 0 6); minus = None; first = (v_Operand.Open (v_Open.If (sp 0 6) (sp 0 1) (v_Exp.Plain (roll-OperandList (record { span = (sp 1 2); minus = None; first = (v_Operand.Apply (sp 1 2) (v_Aexp.Var (v_Var.Word (name 1 None (id 201)))) ([])); others = ([]) }))) (sp 2 3) (v_Exp.Plain (roll-OperandList (record { span = (sp 3 4); minus = None; first = (v_Operand.Apply (sp 3 4) (v_Aexp.Var (v_Var.Word (name 3 None (id 202)))) ([])); others = ([]) }))) (sp 4 5) (v_Exp.Plain (roll-OperandList (record { span = (sp 5 6); minus = None; first = (v_Operand.Apply (sp 5 6) (v_Aexp.Var (v_Var.Word (name 5 None (id 203)))) ([])); others = ([]) }))))); others = ([]) }))

pub exp_7_flat : (exp exp_7).flat ≡ at k.If (sp 0 1) ∷ at (k.VarId None (id 201)) (sp 1 2) ∷ at k.Then (sp 2 3) ∷ at (k.VarId None (id 202)) (sp 3 4) ∷ at k.Else (sp 4 5) ∷ at (k.VarId None (id 203)) (sp 5 6) ∷ []
exp_7_flat = simp printed

pub exp_7_good : (exp exp_7).good ≡ true
unfolding cover
exp_7_good = simp printed

--     x :: Int
abbrev exp_8 : Exp
exp_8 = v_Exp.Typed (sp 0 3) (roll-OperandList (record { span = (sp 0 1); minus = None; first = (v_Operand.Apply (sp 0 1) (v_Aexp.Var (v_Var.Word (name 0 None (id 205)))) ([])); others = ([]) })) (sp 1 2) (roll-TypeExpr (record { span = (sp 2 3); first = (roll-BType (record { span = (sp 2 3); head = (v_ArgType.Con (name 2 None (id 200))); args = ([]) })); arrows = ([]) }))

pub exp_8_flat : (exp exp_8).flat ≡ at (k.VarId None (id 205)) (sp 0 1) ∷ at k.Colons (sp 1 2) ∷ at (k.ConId None (id 200)) (sp 2 3) ∷ []
exp_8_flat = simp printed

pub exp_8_good : (exp exp_8).good ≡ true
unfolding cover
exp_8_good = simp printed

--     total {| T a |} x
abbrev exp_9 : Exp
exp_9 = v_Exp.Plain (roll-OperandList (record { span = (sp 0 6); minus = None; first = (v_Operand.Apply (sp 0 6) (v_Aexp.Generic (sp 0 5) (v_Var.Word (name 0 None (id 213))) (sp 1 2) (roll-TypeExpr (record { span = (sp 2 4); first = (roll-BType (record { span = (sp 2 4); head = (v_ArgType.Con (name 2 None (id 208))); args = ((v_ArgType.Var (name 3 None (id 201))) ∷ []) })); arrows = ([]) })) (sp 4 5)) ((v_Aexp.Var (v_Var.Word (name 5 None (id 205)))) ∷ [])); others = ([]) }))

pub exp_9_flat : (exp exp_9).flat ≡ at (k.VarId None (id 213)) (sp 0 1) ∷ at k.OpenBanana (sp 1 2) ∷ at (k.ConId None (id 208)) (sp 2 3) ∷ at (k.VarId None (id 201)) (sp 3 4) ∷ at k.CloseBanana (sp 4 5) ∷ at (k.VarId None (id 205)) (sp 5 6) ∷ []
exp_9_flat = simp printed

pub exp_9_good : (exp exp_9).good ≡ true
unfolding cover
exp_9_good = simp printed

--     let <{ x = 1 <} in x
abbrev exp_10 : Exp
exp_10 = v_Exp.Plain (roll-OperandList (record { span = (sp 0 6); minus = None; first = (v_Operand.Open (v_Open.Let (sp 0 6) (sp 0 1) (v_Locals.Decls (roll-Decls (record { span = (sp 1 4); «open» = (v_BlockMark.Inserted 1); before = ([]); decls = ((roll-DeclItem (record { decl = (v_Decl.Function (sp 1 4) (v_FunLhs.Prefix (sp 1 2) (v_Var.Word (name 1 None (id 205))) ([])) (v_Rhs.Plain (sp 2 4) (sp 2 3) (v_Exp.Plain (roll-OperandList (record { span = (sp 3 4); minus = None; first = (v_Operand.Apply (sp 3 4) (v_Aexp.Int (sp 3 4) 1) ([])); others = ([]) }))) v_Where.Absent)); marks = ([]) })) ∷ []); close = (v_BlockMark.Inserted 4) }))) (sp 4 5) (v_Exp.Plain (roll-OperandList (record { span = (sp 5 6); minus = None; first = (v_Operand.Apply (sp 5 6) (v_Aexp.Var (v_Var.Word (name 5 None (id 205)))) ([])); others = ([]) }))))); others = ([]) }))

pub exp_10_flat : (exp exp_10).flat ≡ at k.Let (sp 0 1) ∷ at (k.InsertedOpen 1) nowhere ∷ at (k.VarId None (id 205)) (sp 1 2) ∷ at k.Equals (sp 2 3) ∷ at (k.Int 1) (sp 3 4) ∷ at (k.InsertedClose 4) nowhere ∷ at k.In (sp 4 5) ∷ at (k.VarId None (id 205)) (sp 5 6) ∷ []
exp_10_flat = simp printed

pub exp_10_good : (exp exp_10).good ≡ true
unfolding cover
exp_10_good = simp printed

--     case x of <{ C y -> y <; _ | a -> b <}
abbrev exp_11 : Exp
exp_11 = v_Exp.Plain (roll-OperandList (record { span = (sp 0 12); minus = None; first = (v_Operand.Case (sp 0 12) (sp 0 1) (v_Exp.Plain (roll-OperandList (record { span = (sp 1 2); minus = None; first = (v_Operand.Apply (sp 1 2) (v_Aexp.Var (v_Var.Word (name 1 None (id 205)))) ([])); others = ([]) }))) (sp 2 3) (roll-Alts (record { span = (sp 3 12); «open» = (v_BlockMark.Inserted 3); before = ([]); alts = ((roll-AltItem (record { alt = (v_Alt.Plain (sp 3 7) (roll-Pattern (record { span = (sp 3 5); first = (v_PatOperand.Con (sp 3 5) (v_GenCon.Con (v_Con.Word (name 3 None (id 210)))) (v_ArgPattern.Var (v_Var.Word (name 4 None (id 206)))) ([])); others = ([]) })) (sp 5 6) (v_Exp.Plain (roll-OperandList (record { span = (sp 6 7); minus = None; first = (v_Operand.Apply (sp 6 7) (v_Aexp.Var (v_Var.Word (name 6 None (id 206)))) ([])); others = ([]) }))) v_Where.Absent); marks = ((v_BlockMark.Inserted 7) ∷ []) })) ∷ (roll-AltItem (record { alt = (v_Alt.Guarded (sp 7 12) (roll-Pattern (record { span = (sp 7 8); first = (v_PatOperand.Arg (v_ArgPattern.Wild (sp 7 8))); others = ([]) })) (roll-AltGuard (record { span = (sp 8 12); bar = (sp 8 9); test = (roll-OperandList (record { span = (sp 9 10); minus = None; first = (v_Operand.Apply (sp 9 10) (v_Aexp.Var (v_Var.Word (name 9 None (id 201)))) ([])); others = ([]) })); mark = (sp 10 11); body = (v_Exp.Plain (roll-OperandList (record { span = (sp 11 12); minus = None; first = (v_Operand.Apply (sp 11 12) (v_Aexp.Var (v_Var.Word (name 11 None (id 202)))) ([])); others = ([]) }))) })) ([]) v_Where.Absent); marks = ([]) })) ∷ []); close = (v_BlockMark.Inserted 12) }))); others = ([]) }))

pub exp_11_flat : (exp exp_11).flat ≡ at k.Case (sp 0 1) ∷ at (k.VarId None (id 205)) (sp 1 2) ∷ at k.Of (sp 2 3) ∷ at (k.InsertedOpen 3) nowhere ∷ at (k.ConId None (id 210)) (sp 3 4) ∷ at (k.VarId None (id 206)) (sp 4 5) ∷ at k.Arrow (sp 5 6) ∷ at (k.VarId None (id 206)) (sp 6 7) ∷ at (k.InsertedSemicolon 7) nowhere ∷ at k.Underscore (sp 7 8) ∷ at k.Bar (sp 8 9) ∷ at (k.VarId None (id 201)) (sp 9 10) ∷ at k.Arrow (sp 10 11) ∷ at (k.VarId None (id 202)) (sp 11 12) ∷ at (k.InsertedClose 12) nowhere ∷ []
exp_11_flat = simp printed

pub exp_11_good : (exp exp_11).good ≡ true
unfolding cover
exp_11_good = simp printed

--     f x = x
abbrev decl_0 : Decl
decl_0 = v_Decl.Function (sp 0 4) (v_FunLhs.Prefix (sp 0 2) (v_Var.Word (name 0 None (id 204))) ((v_ArgPattern.Var (v_Var.Word (name 1 None (id 205)))) ∷ [])) (v_Rhs.Plain (sp 2 4) (sp 2 3) (v_Exp.Plain (roll-OperandList (record { span = (sp 3 4); minus = None; first = (v_Operand.Apply (sp 3 4) (v_Aexp.Var (v_Var.Word (name 3 None (id 205)))) ([])); others = ([]) }))) v_Where.Absent)

pub decl_0_flat : (decl decl_0).flat ≡ at (k.VarId None (id 204)) (sp 0 1) ∷ at (k.VarId None (id 205)) (sp 1 2) ∷ at k.Equals (sp 2 3) ∷ at (k.VarId None (id 205)) (sp 3 4) ∷ []
decl_0_flat = simp printed

pub decl_0_good : (decl decl_0).good ≡ true
unfolding cover
decl_0_good = simp printed

--     x = 1
abbrev decl_1 : Decl
decl_1 = v_Decl.Function (sp 0 3) (v_FunLhs.Prefix (sp 0 1) (v_Var.Word (name 0 None (id 205))) ([])) (v_Rhs.Plain (sp 1 3) (sp 1 2) (v_Exp.Plain (roll-OperandList (record { span = (sp 2 3); minus = None; first = (v_Operand.Apply (sp 2 3) (v_Aexp.Int (sp 2 3) 1) ([])); others = ([]) }))) v_Where.Absent)

pub decl_1_flat : (decl decl_1).flat ≡ at (k.VarId None (id 205)) (sp 0 1) ∷ at k.Equals (sp 1 2) ∷ at (k.Int 1) (sp 2 3) ∷ []
decl_1_flat = simp printed

pub decl_1_good : (decl decl_1).good ≡ true
unfolding cover
decl_1_good = simp printed

--     ( x , y ) = e
abbrev decl_2 : Decl
decl_2 = v_Decl.Pattern (sp 0 7) (roll-Pattern (record { span = (sp 0 5); first = (v_PatOperand.Arg (v_ArgPattern.Tuple (sp 0 5) (sp 0 1) (roll-Pattern (record { span = (sp 1 2); first = (v_PatOperand.Arg (v_ArgPattern.Var (v_Var.Word (name 1 None (id 205))))); others = ([]) })) ((roll-PatPart (record { mark = (sp 2 3); part = (roll-Pattern (record { span = (sp 3 4); first = (v_PatOperand.Arg (v_ArgPattern.Var (v_Var.Word (name 3 None (id 206))))); others = ([]) })) })) ∷ []) (sp 4 5))); others = ([]) })) (v_Rhs.Plain (sp 5 7) (sp 5 6) (v_Exp.Plain (roll-OperandList (record { span = (sp 6 7); minus = None; first = (v_Operand.Apply (sp 6 7) (v_Aexp.Var (v_Var.Word (name 6 None (id 215)))) ([])); others = ([]) }))) v_Where.Absent)

pub decl_2_flat : (decl decl_2).flat ≡ at k.Open (sp 0 1) ∷ at (k.VarId None (id 205)) (sp 1 2) ∷ at k.Comma (sp 2 3) ∷ at (k.VarId None (id 206)) (sp 3 4) ∷ at k.Close (sp 4 5) ∷ at k.Equals (sp 5 6) ∷ at (k.VarId None (id 215)) (sp 6 7) ∷ []
decl_2_flat = simp printed

pub decl_2_good : (decl decl_2).good ≡ true
unfolding cover
decl_2_good = simp printed

--     x + y = z
abbrev decl_3 : Decl
decl_3 = v_Decl.Function (sp 0 5) (v_FunLhs.Infix (sp 0 3) (v_PatOperand.Arg (v_ArgPattern.Var (v_Var.Word (name 0 None (id 205))))) ([]) (v_VarOp.Symbol (name 1 None PLUS)) (v_PatOperand.Arg (v_ArgPattern.Var (v_Var.Word (name 2 None (id 206))))) ([])) (v_Rhs.Plain (sp 3 5) (sp 3 4) (v_Exp.Plain (roll-OperandList (record { span = (sp 4 5); minus = None; first = (v_Operand.Apply (sp 4 5) (v_Aexp.Var (v_Var.Word (name 4 None (id 216)))) ([])); others = ([]) }))) v_Where.Absent)

pub decl_3_flat : (decl decl_3).flat ≡ at (k.VarId None (id 205)) (sp 0 1) ∷ at (k.VarSym None PLUS) (sp 1 2) ∷ at (k.VarId None (id 206)) (sp 2 3) ∷ at k.Equals (sp 3 4) ∷ at (k.VarId None (id 216)) (sp 4 5) ∷ []
decl_3_flat = simp printed

pub decl_3_good : (decl decl_3).good ≡ true
unfolding cover
decl_3_good = simp printed

--     ( f . g ) x = y
abbrev decl_4 : Decl
decl_4 = v_Decl.Function (sp 0 8) (v_FunLhs.Nested (sp 0 6) (sp 0 1) (v_FunLhs.Infix (sp 1 4) (v_PatOperand.Arg (v_ArgPattern.Var (v_Var.Word (name 1 None (id 204))))) ([]) (v_VarOp.Symbol (name 2 None COMPOSE)) (v_PatOperand.Arg (v_ArgPattern.Var (v_Var.Word (name 3 None (id 214))))) ([])) (sp 4 5) (v_ArgPattern.Var (v_Var.Word (name 5 None (id 205)))) ([])) (v_Rhs.Plain (sp 6 8) (sp 6 7) (v_Exp.Plain (roll-OperandList (record { span = (sp 7 8); minus = None; first = (v_Operand.Apply (sp 7 8) (v_Aexp.Var (v_Var.Word (name 7 None (id 206)))) ([])); others = ([]) }))) v_Where.Absent)

pub decl_4_flat : (decl decl_4).flat ≡ at k.Open (sp 0 1) ∷ at (k.VarId None (id 204)) (sp 1 2) ∷ at (k.VarSym None COMPOSE) (sp 2 3) ∷ at (k.VarId None (id 214)) (sp 3 4) ∷ at k.Close (sp 4 5) ∷ at (k.VarId None (id 205)) (sp 5 6) ∷ at k.Equals (sp 6 7) ∷ at (k.VarId None (id 206)) (sp 7 8) ∷ []
decl_4_flat = simp printed

pub decl_4_good : (decl decl_4).good ≡ true
unfolding cover
decl_4_good = simp printed

--     f , g :: Int
abbrev decl_5 : Decl
decl_5 = v_Decl.Signature (sp 0 5) (v_Var.Word (name 0 None (id 204))) ((record { mark = (sp 1 2); var = (v_Var.Word (name 2 None (id 214))) }) ∷ []) (sp 3 4) (roll-TypeExpr (record { span = (sp 4 5); first = (roll-BType (record { span = (sp 4 5); head = (v_ArgType.Con (name 4 None (id 200))); args = ([]) })); arrows = ([]) }))

pub decl_5_flat : (decl decl_5).flat ≡ at (k.VarId None (id 204)) (sp 0 1) ∷ at k.Comma (sp 1 2) ∷ at (k.VarId None (id 214)) (sp 2 3) ∷ at k.Colons (sp 3 4) ∷ at (k.ConId None (id 200)) (sp 4 5) ∷ []
decl_5_flat = simp printed

--     infixl 6 + , <+>
abbrev decl_6 : Decl
decl_6 = v_Decl.Fixity (sp 0 5) (v_FixityWord.Left (sp 0 1)) (Some ((sp 1 2), 6)) (v_Op.Var (v_VarOp.Symbol (name 2 None PLUS))) ((record { mark = (sp 3 4); op = (v_Op.Var (v_VarOp.Symbol (name 4 None (id 217)))) }) ∷ [])

pub decl_6_flat : (decl decl_6).flat ≡ at k.Infixl (sp 0 1) ∷ at (k.Int 6) (sp 1 2) ∷ at (k.VarSym None PLUS) (sp 2 3) ∷ at k.Comma (sp 3 4) ∷ at (k.VarSym None (id 217)) (sp 4 5) ∷ []
decl_6_flat = simp printed

pub decl_6_good : (decl decl_6).good ≡ true
unfolding cover
decl_6_good = simp printed

--     infix :*:
abbrev decl_7 : Decl
decl_7 = v_Decl.Fixity (sp 0 2) (v_FixityWord.Neither (sp 0 1)) None (v_Op.Con (v_ConOp.Symbol (name 1 None PRODUCT))) ([])

pub decl_7_flat : (decl decl_7).flat ≡ at k.Infix (sp 0 1) ∷ at (k.ConSym None PRODUCT) (sp 1 2) ∷ []
decl_7_flat = simp printed

pub decl_7_good : (decl decl_7).good ≡ true
unfolding cover
decl_7_good = simp printed

--     f x | a = b | c = d where <{ <}
abbrev decl_8 : Decl
decl_8 = v_Decl.Function (sp 0 11) (v_FunLhs.Prefix (sp 0 2) (v_Var.Word (name 0 None (id 204))) ((v_ArgPattern.Var (v_Var.Word (name 1 None (id 205)))) ∷ [])) (v_Rhs.Guarded (sp 2 11) (roll-Guard (record { span = (sp 2 6); bar = (sp 2 3); test = (roll-OperandList (record { span = (sp 3 4); minus = None; first = (v_Operand.Apply (sp 3 4) (v_Aexp.Var (v_Var.Word (name 3 None (id 201)))) ([])); others = ([]) })); mark = (sp 4 5); body = (v_Exp.Plain (roll-OperandList (record { span = (sp 5 6); minus = None; first = (v_Operand.Apply (sp 5 6) (v_Aexp.Var (v_Var.Word (name 5 None (id 202)))) ([])); others = ([]) }))) })) ((roll-Guard (record { span = (sp 6 10); bar = (sp 6 7); test = (roll-OperandList (record { span = (sp 7 8); minus = None; first = (v_Operand.Apply (sp 7 8) (v_Aexp.Var (v_Var.Word (name 7 None (id 203)))) ([])); others = ([]) })); mark = (sp 8 9); body = (v_Exp.Plain (roll-OperandList (record { span = (sp 9 10); minus = None; first = (v_Operand.Apply (sp 9 10) (v_Aexp.Var (v_Var.Word (name 9 None (id 218)))) ([])); others = ([]) }))) })) ∷ []) (v_Where.Block (sp 10 11) (roll-Decls (record { span = nowhere; «open» = (v_BlockMark.Inserted 11); before = ([]); decls = ([]); close = (v_BlockMark.Inserted 11) }))))

pub decl_8_flat : (decl decl_8).flat ≡ at (k.VarId None (id 204)) (sp 0 1) ∷ at (k.VarId None (id 205)) (sp 1 2) ∷ at k.Bar (sp 2 3) ∷ at (k.VarId None (id 201)) (sp 3 4) ∷ at k.Equals (sp 4 5) ∷ at (k.VarId None (id 202)) (sp 5 6) ∷ at k.Bar (sp 6 7) ∷ at (k.VarId None (id 203)) (sp 7 8) ∷ at k.Equals (sp 8 9) ∷ at (k.VarId None (id 218)) (sp 9 10) ∷ at k.Where (sp 10 11) ∷ at (k.InsertedOpen 11) nowhere ∷ at (k.InsertedClose 11) nowhere ∷ []
decl_8_flat = simp printed

pub decl_8_good : (decl decl_8).good ≡ true
unfolding cover
decl_8_good = simp printed

--     type S a = [ a ]
abbrev top_0 : Top
top_0 = v_Top.Synonym (sp 0 7) (sp 0 1) (name 1 None (id 219)) ((name 2 None (id 201)) ∷ []) (sp 3 4) (roll-TypeExpr (record { span = (sp 4 7); first = (roll-BType (record { span = (sp 4 7); head = (v_ArgType.List (sp 4 7) (sp 4 5) (roll-TypeExpr (record { span = (sp 5 6); first = (roll-BType (record { span = (sp 5 6); head = (v_ArgType.Var (name 5 None (id 201))); args = ([]) })); arrows = ([]) })) (sp 6 7)); args = ([]) })); arrows = ([]) }))

pub top_0_flat : (top top_0).flat ≡ at k.TypeWord (sp 0 1) ∷ at (k.ConId None (id 219)) (sp 1 2) ∷ at (k.VarId None (id 201)) (sp 2 3) ∷ at k.Equals (sp 3 4) ∷ at k.OpenList (sp 4 5) ∷ at (k.VarId None (id 201)) (sp 5 6) ∷ at k.CloseList (sp 6 7) ∷ []
top_0_flat = simp printed

--     newtype N a = N a
abbrev top_2 : Top
top_2 = v_Top.Newtype (sp 0 6) (sp 0 1) (name 1 None (id 220)) ((name 2 None (id 201)) ∷ []) (sp 3 4) (v_Con.Word (name 4 None (id 220))) (v_ArgType.Var (name 5 None (id 201)))

pub top_2_flat : (top top_2).flat ≡ at k.Newtype (sp 0 1) ∷ at (k.ConId None (id 220)) (sp 1 2) ∷ at (k.VarId None (id 201)) (sp 2 3) ∷ at k.Equals (sp 3 4) ∷ at (k.ConId None (id 220)) (sp 4 5) ∷ at (k.VarId None (id 201)) (sp 5 6) ∷ []
top_2_flat = simp printed

pub top_2_good : (top top_2).good ≡ true
unfolding cover
top_2_good = simp printed

--     f {| Sum a b |} x = y
abbrev top_4 : Top
top_4 = v_Top.Case (sp 0 9) (v_Var.Word (name 0 None (id 204))) (sp 1 2) (roll-TypeExpr (record { span = (sp 2 5); first = (roll-BType (record { span = (sp 2 5); head = (v_ArgType.Con (name 2 None (id 221))); args = ((v_ArgType.Var (name 3 None (id 201))) ∷ (v_ArgType.Var (name 4 None (id 202))) ∷ []) })); arrows = ([]) })) (sp 5 6) ((v_ArgPattern.Var (v_Var.Word (name 6 None (id 205)))) ∷ []) (v_Rhs.Plain (sp 7 9) (sp 7 8) (v_Exp.Plain (roll-OperandList (record { span = (sp 8 9); minus = None; first = (v_Operand.Apply (sp 8 9) (v_Aexp.Var (v_Var.Word (name 8 None (id 206)))) ([])); others = ([]) }))) v_Where.Absent)

pub top_4_flat : (top top_4).flat ≡ at (k.VarId None (id 204)) (sp 0 1) ∷ at k.OpenBanana (sp 1 2) ∷ at (k.ConId None (id 221)) (sp 2 3) ∷ at (k.VarId None (id 201)) (sp 3 4) ∷ at (k.VarId None (id 202)) (sp 4 5) ∷ at k.CloseBanana (sp 5 6) ∷ at (k.VarId None (id 205)) (sp 6 7) ∷ at k.Equals (sp 7 8) ∷ at (k.VarId None (id 206)) (sp 8 9) ∷ []
top_4_flat = simp printed

pub top_4_good : (top top_4).good ≡ true
unfolding cover
top_4_good = simp printed

--     f extends M.g
abbrev top_5 : Top
top_5 = v_Top.Extends (sp 0 3) (v_Var.Word (name 0 None (id 204))) (sp 1 2) (v_Var.Word (name 2 (Some (id 207)) (id 214)))

pub top_5_flat : (top top_5).flat ≡ at (k.VarId None (id 204)) (sp 0 1) ∷ at (k.VarId None EXTENDS) (sp 1 2) ∷ at (k.VarId (Some (id 207)) (id 214)) (sp 2 3) ∷ []
top_5_flat = refl

pub top_5_good : (top top_5).good ≡ true
unfolding cover
top_5_good = refl

--     <{ <}
abbrev module_0 : ModuleTree
module_0 = record { span = nowhere; header = None; «open» = (v_BlockMark.Inserted 0); first = v_Item.Empty; others = ([]); close = (v_BlockMark.Inserted 0) }

pub module_0_flat : (module_print module_0).flat ≡ at (k.InsertedOpen 0) nowhere ∷ at (k.InsertedClose 0) nowhere ∷ []
module_0_flat = refl

pub module_0_good : (module_print module_0).good ≡ true
unfolding cover
module_0_good = refl

--     module Main where <{ main = x <}
abbrev module_1 : ModuleTree
module_1 = record { span = (sp 0 6); header = (Some (record { span = (sp 0 3); mark = (sp 0 1); name = (name 1 None MAIN_MODULE); exports = None; begins = (sp 2 3) })); «open» = (v_BlockMark.Inserted 3); first = (v_Item.Top (v_Top.Decl (v_Decl.Function (sp 3 6) (v_FunLhs.Prefix (sp 3 4) (v_Var.Word (name 3 None MAIN)) ([])) (v_Rhs.Plain (sp 4 6) (sp 4 5) (v_Exp.Plain (roll-OperandList (record { span = (sp 5 6); minus = None; first = (v_Operand.Apply (sp 5 6) (v_Aexp.Var (v_Var.Word (name 5 None (id 205)))) ([])); others = ([]) }))) v_Where.Absent)))); others = ([]); close = (v_BlockMark.Inserted 6) }

pub module_1_flat : (module_print module_1).flat ≡ at k.Module (sp 0 1) ∷ at (k.ConId None MAIN_MODULE) (sp 1 2) ∷ at k.Where (sp 2 3) ∷ at (k.InsertedOpen 3) nowhere ∷ at (k.VarId None MAIN) (sp 3 4) ∷ at k.Equals (sp 4 5) ∷ at (k.VarId None (id 205)) (sp 5 6) ∷ at (k.InsertedClose 6) nowhere ∷ []
module_1_flat = simp printed

pub module_1_good : (module_print module_1).good ≡ true
unfolding cover
module_1_good = simp printed
