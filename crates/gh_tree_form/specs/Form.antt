-- The bindings of a file's tree, or the first top item that holds another form or binds a name again.
--
-- A header, where there is one, is `module Main where`. An item is empty, or binds a name without arguments to one operand or more with
-- `++` between them; no guards, local declarations, types or minus signs stand there. An operand is the name of a variable without a
-- qualifier, or a string.
use Rattle.std.specs.Prelude.{Bool, true, false, ◌&&◌, ◌==◌, if◌then◌else◌, List, [], ◌∷◌, ◌++◌, map, Option, Some, None, nat_eq}
use Rattle.std.specs.List.{list_any}
use Rattle.gh_base.specs.declared.fixed.TheConstants.{APPEND, MAIN_MODULE}
use Rattle.gh_base.specs.declared.names.NameId.{NameId}
use Rattle.gh_base.specs.declared.place.Span.{Span}
use Rattle.gh_bindings.specs.declared.binding.Operand.{Operand}
use Rattle.gh_bindings.specs.declared.binding.Operand.TheVariants as operand
use Rattle.gh_bindings.specs.declared.binding.Binding.{Binding}
use Rattle.gh_tree.specs.declared.names.Name.{Name}
use Rattle.gh_tree.specs.declared.names.Var.{Var}
use Rattle.gh_tree.specs.declared.names.Var.TheVariants as v_Var
use Rattle.gh_tree.specs.declared.names.VarOp.TheVariants as v_VarOp
use Rattle.gh_tree.specs.declared.names.Op.{Op}
use Rattle.gh_tree.specs.declared.names.Op.TheVariants as v_Op
use Rattle.gh_tree.specs.declared.patterns.FunLhs.{FunLhs, out-FunLhs}
use Rattle.gh_tree.specs.declared.patterns.FunLhs.TheOpen.{FunLhs-F}
use Rattle.gh_tree.specs.declared.expressions.Aexp.{Aexp, out-Aexp}
use Rattle.gh_tree.specs.declared.expressions.Decl.{Decl, out-Decl}
use Rattle.gh_tree.specs.declared.expressions.Exp.{Exp, out-Exp}
use Rattle.gh_tree.specs.declared.expressions.NextOperand.{NextOperand, out-NextOperand}
use Rattle.gh_tree.specs.declared.expressions.Operand.{out-Operand}
use Rattle.gh_tree.specs.declared.expressions.Operand as part
use Rattle.gh_tree.specs.declared.expressions.OperandList.{OperandList, out-OperandList}
use Rattle.gh_tree.specs.declared.expressions.Rhs.{Rhs, out-Rhs}
use Rattle.gh_tree.specs.declared.expressions.Where.{Where, out-Where}
use Rattle.gh_tree.specs.declared.expressions.Aexp.TheOpen.{Aexp-F, Decl-F, Exp-F, Operand-F, Rhs-F, Where-F}
use Rattle.gh_tree.specs.declared.tops.Top.{Top}
use Rattle.gh_tree.specs.declared.tops.Top.TheVariants as v_Top
use Rattle.gh_tree.specs.declared.module_tree.Header.{Header}
use Rattle.gh_tree.specs.declared.module_tree.Item.{Item}
use Rattle.gh_tree.specs.declared.module_tree.Item.TheVariants as v_Item
use Rattle.gh_tree.specs.declared.module_tree.ModuleTree.{ModuleTree}
use Rattle.gh_tree.specs.Print.{plain}
use Rattle.gh_tree.specs.Syms.{nowhere}
use Rattle.gh_tree_form.specs.Layers.{AexpLayer, DeclLayer, ExpLayer, FunLhsLayer, NextOperandLayer, OperandLayer, OperandListLayer, RhsLayer, WhereLayer}
use Rattle.gh_tree_form.specs.declared.item.ItemForm.{ItemForm}
use Rattle.gh_tree_form.specs.declared.item.ItemForm.TheVariants as form
use Rattle.gh_tree_form.specs.declared.program.Parsed.{Parsed}
use Rattle.gh_tree_form.specs.declared.program.Parsed.TheVariants as parsed

-- ---- operands

-- the name of a variable that is a word without a qualifier
abbrev pub word_of : Var → Option Name
word_of (v_Var.Word n) = if plain n then Some n else None
word_of (v_Var.Symbol a n b) = None

abbrev pub name_operand : Option Name → Option Operand
name_operand None = None
name_operand (Some n) = Some (operand.Name n.id n.span)

abbrev pub argument_by : AexpLayer → Option Operand
argument_by (Aexp-F.Var v) = name_operand (word_of v)
argument_by (Aexp-F.Str s cs) = Some (operand.Text cs)
argument_by _ = None

unfoldable pub argument_of : Aexp → Option Operand
argument_of x = argument_by (out-Aexp x)

-- what stands without arguments
abbrev pub alone : {A B : Type 0} → List A → Option B → Option B
alone [] found = found
alone (x ∷ xs) found = None

abbrev pub operand_by : OperandLayer → Option Operand
operand_by (Operand-F.Apply s x xs) = alone xs (argument_of x)
operand_by _ = None

unfoldable pub operand_of : part.Operand → Option Operand
operand_of x = operand_by (out-Operand x)

-- ---- operands with `++` between them

abbrev pub is_append : Op → Bool
is_append (v_Op.Var (v_VarOp.Symbol n)) = plain n && n.id.0 == APPEND.0
is_append (v_Op.Var (v_VarOp.Quoted a n b)) = false
is_append (v_Op.Con o) = false

abbrev pub is_absent : {A : Type 0} → Option A → Bool
is_absent None = true
is_absent (Some x) = false

-- an operand without a minus sign, behind `++`
abbrev pub next_by : NextOperandLayer → Option Operand
next_by y = if is_append y.op && is_absent y.minus then operand_of y.operand else None

unfoldable pub next_of : NextOperand → Option Operand
next_of x = next_by (out-NextOperand x)

abbrev pub on_some : {A B : Type 0} → Option A → (A → Option B) → Option B
on_some None go = None
on_some (Some x) go = go x

-- these operands, behind those that are known
abbrev pub operands_from : List Operand → List NextOperand → Option (List Operand)
operands_from known [] = Some known
operands_from known (x ∷ xs) = on_some (next_of x) (λ o. operands_from (known ++ o ∷ []) xs)

abbrev pub operands_by : OperandListLayer → Option (List Operand)
operands_by y = if is_absent y.minus then on_some (operand_of y.first) (λ o. operands_from (o ∷ []) y.others) else None

unfoldable pub operands_of : OperandList → Option (List Operand)
operands_of x = operands_by (out-OperandList x)

-- ---- bindings

abbrev pub exp_by : ExpLayer → Option (List Operand)
exp_by (Exp-F.Exp::Plain x) = operands_of x
exp_by (Exp-F.Typed s x m t) = None

unfoldable pub exp_of : Exp → Option (List Operand)
exp_of x = exp_by (out-Exp x)

abbrev pub no_locals_by : WhereLayer → Bool
no_locals_by Where-F.Absent = true
no_locals_by (Where-F.Block s x) = false

unfoldable pub no_locals : Where → Bool
no_locals x = no_locals_by (out-Where x)

-- one right side without guards and local declarations
abbrev pub right_by : RhsLayer → Option (List Operand)
right_by (Rhs-F.Rhs::Plain s m x w) = if no_locals w then exp_of x else None
right_by (Rhs-F.Rhs::Guarded s g gs w) = None

unfoldable pub right_of : Rhs → Option (List Operand)
right_of x = right_by (out-Rhs x)

-- a name without arguments
abbrev pub left_by : FunLhsLayer → Option Name
left_by (FunLhs-F.Prefix s v ps) = alone ps (word_of v)
left_by _ = None

unfoldable pub left_of : FunLhs → Option Name
left_of x = left_by (out-FunLhs x)

-- a binding with the bytes of its item
abbrev pub bind_form : Span → Option Name → Option (List Operand) → ItemForm
bind_form s (Some n) (Some os) = form.Bind (record { name = n.id; span = s; operands = os })
bind_form s (Some n) None = form.Other
bind_form s None os = form.Other

abbrev pub decl_by : DeclLayer → ItemForm
decl_by (Decl-F.Function s l r) = bind_form s (left_of l) (right_of r)
decl_by _ = form.Other

unfoldable pub decl_form : Decl → ItemForm
decl_form x = decl_by (out-Decl x)

abbrev pub top_form : Top → ItemForm
top_form (v_Top.Decl d) = decl_form d
top_form _ = form.Other

-- what an item is
abbrev pub item_form : Item → ItemForm
item_form v_Item.Empty = form.Empty
item_form (v_Item.Import x) = form.Other
item_form (v_Item.Top x) = top_form x

-- ---- the bytes of an item, by its node

abbrev pub decl_span_by : DeclLayer → Span
decl_span_by (Decl-F.Signature s v vs m t) = s
decl_span_by (Decl-F.Fixity s w l o os) = s
decl_span_by (Decl-F.Function s l r) = s
decl_span_by (Decl-F.Pattern s p r) = s

unfoldable pub decl_span : Decl → Span
decl_span x = decl_span_by (out-Decl x)

abbrev pub top_span : Top → Span
top_span (v_Top.Synonym s a n ps m t) = s
top_span (v_Top.Data s a n ps m c cs) = s
top_span (v_Top.Newtype s a n ps m c t) = s
top_span (v_Top.Signature s v vs m c t) = s
top_span (v_Top.Case s v a t b ps r) = s
top_span (v_Top.Extends s v m w) = s
top_span (v_Top.Decl d) = decl_span d

abbrev pub item_span : Item → Span
item_span v_Item.Empty = nowhere
item_span (v_Item.Import x) = x.span
item_span (v_Item.Top x) = top_span x

-- ---- files

abbrev pub has_name : List Binding → NameId → Bool
has_name bs n = list_any (λ b. nat_eq n.0 b.name.0) bs

-- the bindings after an item; none where it is of another form, or binds a name that is bound already
abbrev pub bound_by : List Binding → ItemForm → Option (List Binding)
bound_by bs form.Empty = Some bs
bound_by bs (form.Bind b) = if has_name bs b.name then None else Some (bs ++ b ∷ [])
bound_by bs form.Other = None

abbrev pub going_on : Option (List Binding) → Parsed → (List Binding → Parsed) → Parsed
going_on None bad go = bad
going_on (Some bs) bad go = go bs

-- the first item that is of another form, or binds a name again, is refused
abbrev pub items_form : List Binding → List Item → Parsed
items_form bs [] = parsed.Program bs
items_form bs (x ∷ xs) = going_on (bound_by bs (item_form x)) (parsed.Bad (item_span x)) (λ more. items_form more xs)

-- `module Main where`
abbrev pub is_main : Header → Bool
is_main h = (plain h.name && h.name.id.0 == MAIN_MODULE.0) && is_absent h.exports

abbrev pub header_form : Option Header → Parsed → Parsed
header_form None body = body
header_form (Some h) body = if is_main h then body else parsed.Bad h.span

-- the items of a file, the empty ones too
abbrev pub items_of : ModuleTree → List Item
items_of t = t.first ∷ map (λ x. x.item) t.others

unfoldable pub form_of : ModuleTree → Parsed
form_of t = header_form t.header (items_form [] (items_of t))
