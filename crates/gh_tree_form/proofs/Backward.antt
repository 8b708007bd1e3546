-- A file of the first form is read.
use Rattle.std.proofs.Common.{◌≡◌, true, ◌&&◌, if◌then◌else◌, List, [], ◌∷◌, ◌++◌, Option, Some, None, refl, sym, ap, ◌∙◌, subst, append_assoc, append-nil}
use Rattle.gh_base.specs.declared.fixed.TheConstants.{APPEND, MAIN_MODULE}
use Rattle.gh_base.specs.declared.place.Span.{Span}
use Rattle.gh_bindings.specs.declared.binding.Operand.{Operand}
use Rattle.gh_bindings.specs.declared.binding.Binding.{Binding}
use Rattle.gh_tree.specs.declared.names.Name.{Name}
use Rattle.gh_tree.specs.declared.names.Var.TheVariants as v_Var
use Rattle.gh_tree.specs.declared.names.VarOp.TheVariants as v_VarOp
use Rattle.gh_tree.specs.declared.names.Op.TheVariants as v_Op
use Rattle.gh_tree.specs.declared.patterns.FunLhs.TheVariants as v_FunLhs
use Rattle.gh_tree.specs.declared.expressions.Aexp.TheVariants as v_Aexp
use Rattle.gh_tree.specs.declared.expressions.Exp.{Exp}
use Rattle.gh_tree.specs.declared.expressions.NextOperand.{NextOperand, roll-NextOperand, out-roll-NextOperand}
use Rattle.gh_tree.specs.declared.expressions.Operand as part
use Rattle.gh_tree.specs.declared.expressions.OperandList.{roll-OperandList, out-roll-OperandList}
use Rattle.gh_tree.specs.declared.expressions.Rhs.TheVariants as v_Rhs
use Rattle.gh_tree.specs.declared.expressions.Where.TheVariants as v_Where
use Rattle.gh_tree.specs.declared.module_tree.Header.{Header}
use Rattle.gh_tree.specs.declared.module_tree.Item.{Item}
use Rattle.gh_tree.specs.declared.module_tree.ModuleTree.{ModuleTree}
use Rattle.gh_tree.specs.Print.{plain, is_none}
use Rattle.gh_tree.proofs.Steps.{and_is}
use Rattle.gh_tree_form.specs.declared.item.ItemForm.{ItemForm}
use Rattle.gh_tree_form.specs.declared.item.ItemForm.TheVariants as form
use Rattle.gh_tree_form.specs.declared.program.Parsed.{Parsed}
use Rattle.gh_tree_form.specs.declared.program.Parsed.TheVariants as parsed
use Rattle.gh_tree_form.specs.Form.{word_of, name_operand, operand_of, is_append, next_by, next_of, on_some, operands_from, operands_by, operands_of, exp_of, right_of, bind_form, item_form, item_span, bound_by, going_on, items_form, is_main, header_form, items_of, form_of}
use Rattle.gh_tree_form.specs.Grammar.{IsPlain, IsOperand, operand_name, operand_text, AreJoined, no_operands, more_operands, IsSum, operands_joined, IsItem, empty_item, binding_item, AreItems, no_items, more_items, IsHeader, no_header, main_header, AreDifferent, IsFirstForm}
use Rattle.gh_tree_form.proofs.Shapes.{operand_apply, argument_var, argument_str, exp_plain, no_locals_absent, right_plain, left_prefix, decl_function}
use Rattle.gh_tree_form.proofs.Names.{same_ids, new_name}

-- ---- operands

plain_so : (n : Name) → IsPlain n → plain n ≡ true
plain_so n e = ap is_none e

word_back : (n : Name) → IsPlain n → word_of (v_Var.Word n) ≡ Some n
word_back n e = ap (λ b. if b then Some n else None) (plain_so n e)

pub operand_back : (x : part.Operand) (o : Operand) → IsOperand x o → operand_of x ≡ Some o
operand_back x o (operand_name s n e) = operand_apply s (v_Aexp.Var (v_Var.Word n)) [] ∙ argument_var (v_Var.Word n) ∙ ap name_operand (word_back n e)
operand_back x o (operand_text s t cs) = operand_apply s (v_Aexp.Str t cs) [] ∙ argument_str t cs

append_back : (p : Name) → IsPlain p → p.id ≡ APPEND → is_append (v_Op.Var (v_VarOp.Symbol p)) ≡ true
append_back p e f = and_is (plain_so p e) (same_ids p.id APPEND f)

next_back : (p : Name) (x : part.Operand) (o : Operand) → IsPlain p → p.id ≡ APPEND → IsOperand x o
    → next_of (roll-NextOperand (record { op = v_Op.Var (v_VarOp.Symbol p); minus = None; operand = x })) ≡ Some o
unfolding next_of
next_back p x o e f i =
    ap next_by (out-roll-NextOperand (record { op = v_Op.Var (v_VarOp.Symbol p); minus = None; operand = x }))
    ∙ ap (λ b. if b && true then operand_of x else None) (append_back p e f)
    ∙ operand_back x o i

joined_back : (known : List Operand) (xs : List NextOperand) (new : List Operand) → AreJoined xs new → operands_from known xs ≡ Some (known ++ new)
joined_back known xs new no_operands = ap Some (sym (append-nil known))
joined_back known xs new (more_operands p x o ys os e f i j) =
    ap (λ m. on_some m (λ o. operands_from (known ++ o ∷ []) ys)) (next_back p x o e f i)
    ∙ joined_back (known ++ o ∷ []) ys os j
    ∙ ap Some (append_assoc known (o ∷ []) os)

list_back : (s : Span) (x : part.Operand) (o : Operand) (xs : List NextOperand) (os : List Operand) → IsOperand x o → AreJoined xs os
    → operands_of (roll-OperandList (record { span = s; minus = None; first = x; others = xs })) ≡ Some (o ∷ os)
unfolding operands_of
list_back s x o xs os i j =
    ap operands_by (out-roll-OperandList (record { span = s; minus = None; first = x; others = xs }))
    ∙ ap (λ m. on_some m (λ o. operands_from (o ∷ []) xs)) (operand_back x o i)
    ∙ joined_back (o ∷ []) xs os j

sum_back : (e : Exp) (all : List Operand) → IsSum e all → exp_of e ≡ Some all
sum_back e all (operands_joined s x o xs os i j) = exp_plain (roll-OperandList (record { span = s; minus = None; first = x; others = xs })) ∙ list_back s x o xs os i j

-- ---- items

abbrev form_with : List Binding → ItemForm
form_with [] = form.Empty
form_with (b ∷ bs) = form.Bind b

right_back : (r m : Span) (e : Exp) (os : List Operand) → IsSum e os → right_of (v_Rhs.Plain r m e v_Where.Absent) ≡ Some os
right_back r m e os j = right_plain r m e v_Where.Absent ∙ ap (λ b. if b then exp_of e else None) no_locals_absent ∙ sum_back e os j

form_back : (x : Item) (bs : List Binding) → IsItem x bs → item_form x ≡ form_with bs
form_back x bs empty_item = refl
form_back x bs (binding_item s l r m n e os p j) =
    decl_function s (v_FunLhs.Prefix l (v_Var.Word n) []) (v_Rhs.Plain r m e v_Where.Absent)
    ∙ ap (λ a. bind_form s a (right_of (v_Rhs.Plain r m e v_Where.Absent))) (left_prefix l (v_Var.Word n) [] ∙ word_back n p)
    ∙ ap (bind_form s (Some n)) (right_back r m e os j)

form_bound : (x : Item) (known bs later : List Binding) → IsItem x bs → AreDifferent (known ++ (bs ++ later)) → bound_by known (form_with bs) ≡ Some (known ++ bs)
form_bound x known bs later empty_item d = ap Some (sym (append-nil known))
form_bound x known bs later (binding_item s l r m n e os p j) d =
    let b : Binding = record { name = n.id; span = s; operands = os } in
    ap (λ c. if c then None else Some (known ++ b ∷ [])) (new_name known b later d)

pub bound_back : (x : Item) (known bs later : List Binding) → IsItem x bs → AreDifferent (known ++ (bs ++ later)) → bound_by known (item_form x) ≡ Some (known ++ bs)
bound_back x known bs later i d = ap (bound_by known) (form_back x bs i) ∙ form_bound x known bs later i d

-- items of the form, and what stands behind them
pub through : (xs ys : List Item) (known new later : List Binding) → AreItems xs new → AreDifferent (known ++ (new ++ later)) → items_form known (xs ++ ys) ≡ items_form (known ++ new) ys
through xs ys known new later no_items d = ap (λ k. items_form k ys) (sym (append-nil known))
through xs ys known new later (more_items x zs bs cs i j) d =
    let d' : AreDifferent (known ++ (bs ++ (cs ++ later))) = subst (λ l. AreDifferent (known ++ l)) (append_assoc bs cs later) d in
    ap (λ m. going_on m (parsed.Bad (item_span x)) (λ more. items_form more (zs ++ ys))) (bound_back x known bs (cs ++ later) i d')
    ∙ through zs ys (known ++ bs) cs later j (subst AreDifferent (sym (append_assoc known bs (cs ++ later))) d')
    ∙ ap (λ k. items_form k ys) (append_assoc known bs cs)

-- ---- the whole file

pub main_back : (s m w : Span) (n : Name) → IsPlain n → n.id ≡ MAIN_MODULE → is_main (record { span = s; mark = m; name = n; exports = None; begins = w }) ≡ true
main_back s m w n e f = and_is (and_is (plain_so n e) (same_ids n.id MAIN_MODULE f)) refl

pub header_back : (h : Option Header) (body : Parsed) → IsHeader h → header_form h body ≡ body
header_back h body no_header = refl
header_back h body (main_header s m w n e f) = ap (λ b. if b then body else parsed.Bad s) (main_back s m w n e f)

pub form_is_back : (t : ModuleTree) (bs : List Binding) → IsFirstForm t bs → form_of t ≡ parsed.Program bs
unfolding form_of
form_is_back t bs f =
    header_back t.header (items_form [] (items_of t)) f.is_header
    ∙ ap (items_form []) (sym (append-nil (items_of t)))
    ∙ through (items_of t) [] [] bs [] f.are_items (subst AreDifferent (sym (append-nil bs)) f.differ)
