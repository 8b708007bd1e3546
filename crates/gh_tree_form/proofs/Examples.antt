-- Small files, worked out by hand. Each token has one byte.
use Rattle.std.proofs.Common.{◌≡◌, ℕ, ◌+◌, List, [], ◌∷◌, Option, Some, None, refl}
use Rattle.gh_base.specs.declared.fixed.TheConstants.{APPEND, MAIN_MODULE}
use Rattle.gh_base.specs.declared.names.NameId.{NameId}
use Rattle.gh_base.specs.declared.place.Span.{Span}
use Rattle.gh_bindings.specs.declared.binding.Operand.TheVariants as operand
use Rattle.gh_tree.specs.declared.names.Name.{Name}
use Rattle.gh_tree.specs.declared.names.Var.TheVariants as v_Var
use Rattle.gh_tree.specs.declared.names.VarOp.TheVariants as v_VarOp
use Rattle.gh_tree.specs.declared.names.Op.TheVariants as v_Op
use Rattle.gh_tree.specs.declared.patterns.FunLhs.TheVariants as v_FunLhs
use Rattle.gh_tree.specs.declared.expressions.Aexp.TheVariants as v_Aexp
use Rattle.gh_tree.specs.declared.expressions.Decl.TheVariants as v_Decl
use Rattle.gh_tree.specs.declared.expressions.Exp.{Exp}
use Rattle.gh_tree.specs.declared.expressions.Exp.TheVariants as v_Exp
use Rattle.gh_tree.specs.declared.expressions.NextOperand.{NextOperand, roll-NextOperand}
use Rattle.gh_tree.specs.declared.expressions.Operand as part
use Rattle.gh_tree.specs.declared.expressions.Operand.TheVariants as v_Operand
use Rattle.gh_tree.specs.declared.expressions.OperandList.{roll-OperandList}
use Rattle.gh_tree.specs.declared.expressions.Rhs.TheVariants as v_Rhs
use Rattle.gh_tree.specs.declared.expressions.Where.TheVariants as v_Where
use Rattle.gh_tree.specs.declared.tops.Top.TheVariants as v_Top
use Rattle.gh_tree.specs.declared.module_tree.Header.{Header}
use Rattle.gh_tree.specs.declared.module_tree.Item.{Item}
use Rattle.gh_tree.specs.declared.module_tree.Item.TheVariants as v_Item
use Rattle.gh_tree.specs.declared.module_tree.ModuleTree.{ModuleTree}
use Rattle.gh_tree.specs.declared.module_tree.NextItem.{NextItem}
use Rattle.gh_tree_form.specs.declared.program.Parsed.TheVariants as parsed
use Rattle.gh_tree_form.specs.Form.{form_of}
use Rattle.gh_base.specs.declared.fixed.TheConstants.{MAIN}
use Rattle.gh_tree.specs.declared.names.BlockMark.TheVariants as v_BlockMark
use Rattle.gh_tree_form.proofs.Shapes.{shapes}

abbrev sp : ℕ → ℕ → Span
sp a b = record { file = 1; from = a; to = b }

-- a name that is not fixed
abbrev x : NameId
x = record { 0 = 200 }

abbrev name : ℕ → NameId → Name
name i n = record { span = sp i (i + 1); qualifier = None; id = n }

abbrev variable : ℕ → Name → part.Operand
variable i n = v_Operand.Apply (sp i (i + 1)) (v_Aexp.Var (v_Var.Word n)) []

-- "hi"
abbrev text : ℕ → part.Operand
text i = v_Operand.Apply (sp i (i + 1)) (v_Aexp.Str (sp i (i + 1)) (104 ∷ 105 ∷ [])) []

abbrev join : ℕ → part.Operand → NextOperand
join i o = roll-NextOperand (record { op = v_Op.Var (v_VarOp.Symbol (name i APPEND)); minus = None; operand = o })

abbrev sum : ℕ → ℕ → Option Span → part.Operand → List NextOperand → Exp
sum a b m o os = v_Exp.Plain (roll-OperandList (record { span = sp a b; minus = m; first = o; others = os }))

-- a binding without arguments, guards and local declarations, which begins at the first number and ends at the second
abbrev binding : ℕ → ℕ → NameId → Exp → Item
binding a b n e =
    v_Item.Top (v_Top.Decl (v_Decl.Function (sp a b) (v_FunLhs.Prefix (sp a (a + 1)) (v_Var.Word (name a n)) []) (v_Rhs.Plain (sp (a + 1) b) (sp (a + 1) (a + 2)) e v_Where.Absent)))

abbrev next : ℕ → Item → NextItem
next i y = record { mark = v_BlockMark.Written (sp i (i + 1)); item = y }

abbrev file : Option Header → Item → List NextItem → ModuleTree
file h y ys = record { span = sp 0 100; header = h; «open» = v_BlockMark.Inserted 0; first = y; others = ys; close = v_BlockMark.Inserted 0 }

-- `module n where`
abbrev named : NameId → Option Header
named n = Some (record { span = sp 0 3; mark = sp 0 1; name = name 1 n; exports = None; begins = sp 2 3 })

-- `main = "hi"`
abbrev hello : Item
hello = binding 4 7 MAIN (sum 6 7 None (text 6) [])

alone_in_a_file : form_of (file None hello []) ≡ parsed.Program (record { name = MAIN; span = sp 4 7; operands = operand.Text (104 ∷ 105 ∷ []) ∷ [] } ∷ [])
unfolding form_of
alone_in_a_file = simp shapes

-- `module Main where { ; main = "hi" }`
with_a_header : form_of (file (named MAIN_MODULE) v_Item.Empty (next 3 hello ∷ [])) ≡ parsed.Program (record { name = MAIN; span = sp 4 7; operands = operand.Text (104 ∷ 105 ∷ []) ∷ [] } ∷ [])
unfolding form_of
with_a_header = simp shapes

-- the same in a module of another name
another_module : form_of (file (named x) v_Item.Empty (next 3 hello ∷ [])) ≡ parsed.Bad (sp 0 3)
unfolding form_of
another_module = refl

-- `x = main ++ "hi"` behind it
two_bindings : form_of (file None hello (next 7 (binding 8 13 x (sum 10 13 None (variable 10 (name 10 MAIN)) (join 11 (text 12) ∷ []))) ∷ []))
    ≡ parsed.Program (record { name = MAIN; span = sp 4 7; operands = operand.Text (104 ∷ 105 ∷ []) ∷ [] }
    ∷ record { name = x; span = sp 8 13; operands = operand.Name MAIN (sp 10 11) ∷ operand.Text (104 ∷ 105 ∷ []) ∷ [] } ∷ [])
unfolding form_of
two_bindings = simp shapes

-- `main = x` behind it
bound_again : form_of (file None hello (next 7 (binding 8 11 MAIN (sum 10 11 None (variable 10 (name 10 x)) [])) ∷ [])) ≡ parsed.Bad (sp 8 11)
unfolding form_of
bound_again = simp shapes

-- `x = - main` before it
with_a_minus : form_of (file None (binding 0 4 x (sum 2 4 (Some (sp 2 3)) (variable 3 (name 3 MAIN)) [])) (next 4 hello ∷ [])) ≡ parsed.Bad (sp 0 4)
unfolding form_of
with_a_minus = simp shapes

-- `x = Main.main` behind it
with_a_qualifier : form_of (file None hello (next 7 (binding 8 11 x (sum 10 11 None (variable 10 (record { span = sp 10 11; qualifier = Some MAIN_MODULE; id = MAIN })) [])) ∷ [])) ≡ parsed.Bad (sp 8 11)
unfolding form_of
with_a_qualifier = simp shapes

-- `x = (++)`: an operator between parentheses is no operand
an_operator : form_of (file None (binding 0 5 x (sum 2 5 None (v_Operand.Apply (sp 2 5) (v_Aexp.Var (v_Var.Symbol (sp 2 3) (name 3 APPEND) (sp 4 5))) []) [])) []) ≡ parsed.Bad (sp 0 5)
unfolding form_of
an_operator = simp shapes

-- `module Main where { }`
no_bindings : form_of (file (named MAIN_MODULE) v_Item.Empty []) ≡ parsed.Program []
unfolding form_of
no_bindings = refl
