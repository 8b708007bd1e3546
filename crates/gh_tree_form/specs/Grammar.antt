-- The first form, as a relation between a file's tree and its bindings.
--
-- A file has no header, or `module Main where`. An item is empty, or binds a name to one operand or more, joined by `++`; an operand is the
-- name of a variable, or a string. No two items bind one name.
use Rattle.std.specs.Prelude.{◌≡◌, ◌≢◌, ℕ, List, [], ◌∷◌, ◌++◌, Option, Some, None}
use Rattle.gh_base.specs.declared.fixed.TheConstants.{APPEND, MAIN_MODULE}
use Rattle.gh_base.specs.declared.names.NameId.{NameId}
use Rattle.gh_base.specs.declared.place.Span.{Span}
use Rattle.gh_bindings.specs.declared.binding.Operand.{Operand}
use Rattle.gh_bindings.specs.declared.binding.Operand.TheVariants as operand
use Rattle.gh_bindings.specs.declared.binding.Binding.{Binding}
use Rattle.gh_tree.specs.declared.names.Name.{Name}
use Rattle.gh_tree.specs.declared.names.Var.TheVariants as v_Var
use Rattle.gh_tree.specs.declared.names.VarOp.TheVariants as v_VarOp
use Rattle.gh_tree.specs.declared.names.Op.TheVariants as v_Op
use Rattle.gh_tree.specs.declared.patterns.FunLhs.TheVariants as v_FunLhs
use Rattle.gh_tree.specs.declared.expressions.Aexp.TheVariants as v_Aexp
use Rattle.gh_tree.specs.declared.expressions.Decl.TheVariants as v_Decl
use Rattle.gh_tree.specs.declared.expressions.Exp.{Exp}
use Rattle.gh_tree.specs.declared.expressions.Exp.TheVariants as v_Exp
use Rattle.gh_tree.specs.declared.expressions.NextOperand.{NextOperand, roll-NextOperand}
use Rattle.gh_tree.specs.declared.expressions.Operand as part
use Rattle.gh_tree.specs.declared.expressions.Operand.TheVariants as v_Operand
use Rattle.gh_tree.specs.declared.expressions.OperandList.{roll-OperandList}
use Rattle.gh_tree.specs.declared.expressions.Rhs.TheVariants as v_Rhs
use Rattle.gh_tree.specs.declared.expressions.Where.TheVariants as v_Where
use Rattle.gh_tree.specs.declared.tops.Top.TheVariants as v_Top
use Rattle.gh_tree.specs.declared.module_tree.Header.{Header}
use Rattle.gh_tree.specs.declared.module_tree.Item.{Item}
use Rattle.gh_tree.specs.declared.module_tree.Item.TheVariants as v_Item
use Rattle.gh_tree.specs.declared.module_tree.ModuleTree.{ModuleTree}
use Rattle.gh_tree.specs.Print.{header, item}
use Rattle.gh_tree.specs.Syms.{cover}
use Rattle.gh_tree_form.specs.Form.{items_of}

-- a name without a qualifier
abbrev pub IsPlain : Name → Type 0
IsPlain n = n.qualifier ≡ None

-- an operand is the name of a variable, without a qualifier, or a string; it has no arguments
pub data IsOperand : part.Operand → Operand → Type 0 where
  operand_name : (s : Span) (n : Name) → IsPlain n → IsOperand (v_Operand.Apply s (v_Aexp.Var (v_Var.Word n)) []) (operand.Name n.id n.span)
  operand_text : (s t : Span) (cs : List ℕ) → IsOperand (v_Operand.Apply s (v_Aexp.Str t cs) []) (operand.Text cs)

-- operands, each behind `++`, none with a minus sign
pub data AreJoined : List NextOperand → List Operand → Type 0 where
  no_operands : AreJoined [] []
  more_operands : (p : Name) (x : part.Operand) (o : Operand) (xs : List NextOperand) (os : List Operand) → IsPlain p → p.id ≡ APPEND → IsOperand x o → AreJoined xs os
      → AreJoined (roll-NextOperand (record { op = v_Op.Var (v_VarOp.Symbol p); minus = None; operand = x }) ∷ xs) (o ∷ os)

-- an expression of operands with `++` between them, without a type
pub data IsSum : Exp → List Operand → Type 0 where
  operands_joined : (s : Span) (x : part.Operand) (o : Operand) (xs : List NextOperand) (os : List Operand) → IsOperand x o → AreJoined xs os
      → IsSum (v_Exp.Plain (roll-OperandList (record { span = s; minus = None; first = x; others = xs }))) (o ∷ os)

-- an item is empty, or binds a name without arguments; its right side has no guards and no local declarations
pub data IsItem : Item → List Binding → Type 0 where
  empty_item : IsItem v_Item.Empty []
  binding_item : (s l r m : Span) (n : Name) (e : Exp) (os : List Operand) → IsPlain n → IsSum e os
      → IsItem (v_Item.Top (v_Top.Decl (v_Decl.Function s (v_FunLhs.Prefix l (v_Var.Word n) []) (v_Rhs.Plain r m e v_Where.Absent))))
      (record { name = n.id; span = s; operands = os } ∷ [])

-- items in their order
pub data AreItems : List Item → List Binding → Type 0 where
  no_items : AreItems [] []
  more_items : (x : Item) (xs : List Item) (bs cs : List Binding) → IsItem x bs → AreItems xs cs → AreItems (x ∷ xs) (bs ++ cs)

-- there is no header, or it is `module Main where`
pub data IsHeader : Option Header → Type 0 where
  no_header : IsHeader None
  main_header : (s m w : Span) (n : Name) → IsPlain n → n.id ≡ MAIN_MODULE → IsHeader (Some (record { span = s; mark = m; name = n; exports = None; begins = w }))

-- none of these bindings has the name
abbrev pub AreOthers : NameId → List Binding → Type 0
AreOthers n [] = Unit {0}
AreOthers n (b ∷ bs) = (b.name ≢ n) × AreOthers n bs

-- no two of these bindings have one name
abbrev pub AreDifferent : List Binding → Type 0
AreDifferent [] = Unit {0}
AreDifferent (b ∷ bs) = AreOthers b.name bs × AreDifferent bs

-- each of these bindings has these bytes
abbrev pub AllSpan : Span → List Binding → Type 0
AllSpan s [] = Unit {0}
AllSpan s (b ∷ bs) = (b.span ≡ s) × AllSpan s bs

-- a file of the first form, with its bindings
pub record IsFirstForm (t : ModuleTree) (bs : List Binding) : Type 0 where
  pub is_header : IsHeader t.header
  pub are_items : AreItems (items_of t) bs
  pub differ : AreDifferent bs

-- the item that is refused, by the bytes of its tokens: a header of another form; or an item behind items of the form that bind different
-- names, where it is of another form or binds one of these again
pub data IsRefused (t : ModuleTree) : Span → Type 0 where
  refused_header : (IsHeader t.header → ⊥) → IsRefused t (cover (header t.header).flat)
  refused_item : (before : List Item) (x : Item) (after : List Item) (bs : List Binding) → IsHeader t.header → items_of t ≡ before ++ x ∷ after → AreItems before bs
      → AreDifferent bs → ((new : List Binding) → IsItem x new → AreDifferent (bs ++ new) → ⊥) → IsRefused t (cover (item x).flat)
