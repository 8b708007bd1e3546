-- What is read is of the first form.
use Rattle.std.proofs.Common.{◌≡◌, Bool, true, false, ◌&&◌, if◌then◌else◌, nat_eq, List, [], ◌∷◌, ◌++◌, Option, Some, None, refl, sym, ap, ◌∙◌, subst, append_assoc, append-nil}
use Rattle.gh_base.specs.declared.fixed.TheConstants.{APPEND, MAIN_MODULE}
use Rattle.gh_base.specs.declared.place.Span.{Span}
use Rattle.gh_bindings.specs.declared.binding.Operand.{Operand}
use Rattle.gh_bindings.specs.declared.binding.Operand.TheVariants as operand
use Rattle.gh_bindings.specs.declared.binding.Binding.{Binding}
use Rattle.gh_tree.specs.declared.names.Name.{Name}
use Rattle.gh_tree.specs.declared.names.Var.{Var}
use Rattle.gh_tree.specs.declared.names.Var.TheVariants as v_Var
use Rattle.gh_tree.specs.declared.names.VarOp.TheVariants as v_VarOp
use Rattle.gh_tree.specs.declared.names.Op.{Op}
use Rattle.gh_tree.specs.declared.names.Op.TheVariants as v_Op
use Rattle.gh_tree.specs.declared.patterns.FunLhs.{FunLhs, roll-FunLhs, out-FunLhs, roll-out-FunLhs}
use Rattle.gh_tree.specs.declared.patterns.FunLhs.TheVariants as v_FunLhs
use Rattle.gh_tree.specs.declared.patterns.FunLhs.TheOpen.{FunLhs-F}
use Rattle.gh_tree.specs.declared.expressions.Aexp.{Aexp, roll-Aexp, out-Aexp, roll-out-Aexp}
use Rattle.gh_tree.specs.declared.expressions.Aexp.TheVariants as v_Aexp
use Rattle.gh_tree.specs.declared.expressions.Decl.{Decl, roll-Decl, out-Decl, roll-out-Decl}
use Rattle.gh_tree.specs.declared.expressions.Decl.TheVariants as v_Decl
use Rattle.gh_tree.specs.declared.expressions.Exp.{Exp, roll-Exp, out-Exp, roll-out-Exp}
use Rattle.gh_tree.specs.declared.expressions.Exp.TheVariants as v_Exp
use Rattle.gh_tree.specs.declared.expressions.NextOperand.{NextOperand, roll-NextOperand, out-NextOperand, roll-out-NextOperand}
use Rattle.gh_tree.specs.declared.expressions.Operand as part
use Rattle.gh_tree.specs.declared.expressions.Operand.{roll-Operand, out-Operand, roll-out-Operand}
use Rattle.gh_tree.specs.declared.expressions.Operand.TheVariants as v_Operand
use Rattle.gh_tree.specs.declared.expressions.OperandList.{OperandList, roll-OperandList, out-OperandList, roll-out-OperandList}
use Rattle.gh_tree.specs.declared.expressions.Rhs.{Rhs, roll-Rhs, out-Rhs, roll-out-Rhs}
use Rattle.gh_tree.specs.declared.expressions.Rhs.TheVariants as v_Rhs
use Rattle.gh_tree.specs.declared.expressions.Where.{Where, roll-Where, out-Where, roll-out-Where}
use Rattle.gh_tree.specs.declared.expressions.Where.TheVariants as v_Where
use Rattle.gh_tree.specs.declared.expressions.Aexp.TheOpen.{Aexp-F, Decl-F, Exp-F, Operand-F, Rhs-F, Where-F}
use Rattle.gh_tree.specs.declared.tops.Top.{Top}
use Rattle.gh_tree.specs.declared.tops.Top.TheVariants as v_Top
use Rattle.gh_tree.specs.declared.module_tree.Header.{Header}
use Rattle.gh_tree.specs.declared.module_tree.Item.{Item}
use Rattle.gh_tree.specs.declared.module_tree.Item.TheVariants as v_Item
use Rattle.gh_tree.specs.declared.module_tree.ModuleTree.{ModuleTree}
use Rattle.gh_tree.specs.Print.{plain}
use Rattle.gh_tree.proofs.Steps.{both, none_is}
use Rattle.gh_tree_form.specs.declared.item.ItemForm.{ItemForm}
use Rattle.gh_tree_form.specs.declared.item.ItemForm.TheVariants as form
use Rattle.gh_tree_form.specs.declared.program.Parsed.{Parsed}
use Rattle.gh_tree_form.specs.declared.program.Parsed.TheVariants as parsed
use Rattle.gh_tree_form.specs.Form.{word_of, name_operand, argument_by, argument_of, operand_by, operand_of, is_append, is_absent, next_of, on_some, operands_from, operands_of, exp_by, exp_of, no_locals_by, no_locals, right_by, right_of, left_by, left_of, bind_form, decl_by, decl_form, top_form, item_form, item_span, has_name, bound_by, going_on, items_form, is_main, header_form, items_of, form_of}
use Rattle.gh_tree_form.specs.Grammar.{IsPlain, IsOperand, operand_name, operand_text, AreJoined, no_operands, more_operands, IsSum, operands_joined, IsItem, empty_item, binding_item, AreItems, no_items, more_items, IsHeader, no_header, main_header, AreDifferent, IsFirstForm}
use Rattle.gh_tree_form.specs.Layers.{AexpLayer, DeclLayer, ExpLayer, FunLhsLayer, OperandLayer, RhsLayer, WhereLayer}
use Rattle.gh_tree_form.proofs.Names.{ids_same, different_push}

-- ---- names

some_same : {A : Type 0} (a b : A) → Some a ≡ Some b → a ≡ b
some_same a b h = cc

absent_none : {A : Type 0} (o : Option A) → is_absent o ≡ true → o ≡ None
absent_none None e = refl
absent_none (Some x) e = absurd (cc)

record IsWord (v : Var) (n : Name) : Type 0 where
  is : v ≡ v_Var.Word n
  is_plain : IsPlain n

word_by : (m n : Name) (b : Bool) → plain m ≡ b → (if b then Some m else None) ≡ Some n → IsWord (v_Var.Word m) n
word_by m n true e h = let same : m ≡ n = some_same m n h in record { is = ap v_Var.Word same; is_plain = subst IsPlain same (none_is m.qualifier e) }
word_by m n false e h = absurd (cc)

word_is : (v : Var) (n : Name) → word_of v ≡ Some n → IsWord v n
word_is (v_Var.Word m) n h = word_by m n (plain m) refl h
word_is (v_Var.Symbol a m b) n h = absurd (cc)

-- ---- operands

name_is : (s : Span) (v : Var) (o : Operand) (m : Option Name) → word_of v ≡ m → name_operand m ≡ Some o → IsOperand (v_Operand.Apply s (v_Aexp.Var v) []) o
name_is s v o None e h = absurd (cc)
name_is s v o (Some n) e h =
    let w = word_is v n e in
    subst (λ u. IsOperand (v_Operand.Apply s (v_Aexp.Var u) []) o) (sym w.is)
    (subst (IsOperand (v_Operand.Apply s (v_Aexp.Var (v_Var.Word n)) [])) (some_same (operand.Name n.id n.span) o h) (operand_name s n w.is_plain))

argument_is : (y : AexpLayer) (o : Operand) (s : Span) → argument_by y ≡ Some o → IsOperand (v_Operand.Apply s (roll-Aexp y) []) o
argument_is (Aexp-F.Var v) o s h = subst (λ a. IsOperand (v_Operand.Apply s a []) o) (sym (v_Aexp.rolls-Var v)) (name_is s v o (word_of v) refl h)
argument_is (Aexp-F.Str t cs) o s h =
    subst (λ a. IsOperand (v_Operand.Apply s a []) o) (sym (v_Aexp.rolls-Str t cs))
    (subst (IsOperand (v_Operand.Apply s (v_Aexp.Str t cs) [])) (some_same (operand.Text cs) o h) (operand_text s t cs))
argument_is _ o s h = absurd (cc)

argument_found : (x : Aexp) (o : Operand) (s : Span) → argument_of x ≡ Some o → IsOperand (v_Operand.Apply s x []) o
unfolding argument_of
argument_found x o s h = subst (λ a. IsOperand (v_Operand.Apply s a []) o) (roll-out-Aexp x) (argument_is (out-Aexp x) o s h)

operand_is : (y : OperandLayer) (o : Operand) → operand_by y ≡ Some o → IsOperand (roll-Operand y) o
operand_is (Operand-F.Apply s x []) o h = subst (λ z. IsOperand z o) (sym (v_Operand.rolls-Apply s x [])) (argument_found x o s h)
operand_is (Operand-F.Apply s x (z ∷ zs)) o h = absurd (cc)
operand_is _ o h = absurd (cc)

operand_found : (x : part.Operand) (o : Operand) → operand_of x ≡ Some o → IsOperand x o
unfolding operand_of
operand_found x o h = subst (λ z. IsOperand z o) (roll-out-Operand x) (operand_is (out-Operand x) o h)

-- ---- operands with `++` between them

record IsAppend (op : Op) : Type 0 where
  name : Name
  is : op ≡ v_Op.Var (v_VarOp.Symbol name)
  is_plain : IsPlain name
  id : name.id ≡ APPEND

append_is : (op : Op) → is_append op ≡ true → IsAppend op
append_is (v_Op.Var (v_VarOp.Symbol n)) h =
    let p = both (plain n) (nat_eq n.id.0 APPEND.0) h in
    record { name = n; is = refl; is_plain = none_is n.qualifier p.0; id = ids_same n.id APPEND p.1 }
append_is (v_Op.Var (v_VarOp.Quoted a n b)) h = absurd (cc)
append_is (v_Op.Con o) h = absurd (cc)

joined_more : (op : Op) (m : Option Span) (z : part.Operand) (o : Operand) (xs : List NextOperand) (os : List Operand) → is_append op ≡ true → is_absent m ≡ true
    → IsOperand z o → AreJoined xs os → AreJoined (roll-NextOperand (record { op = op; minus = m; operand = z }) ∷ xs) (o ∷ os)
joined_more op m z o xs os e f i j =
    let a : IsAppend op = append_is op e in
    subst (λ u. AreJoined (roll-NextOperand (record { op = u; minus = m; operand = z }) ∷ xs) (o ∷ os)) (sym a.is)
    (subst (λ u. AreJoined (roll-NextOperand (record { op = v_Op.Var (v_VarOp.Symbol a.name); minus = u; operand = z }) ∷ xs) (o ∷ os)) (sym (absent_none m f))
    (more_operands a.name z o xs os a.is_plain a.id i j))

next_by_is : (op : Op) (m : Option Span) (z : part.Operand) (o : Operand) (xs : List NextOperand) (os : List Operand) (b : Bool) → is_append op && is_absent m ≡ b
    → (if b then operand_of z else None) ≡ Some o → AreJoined xs os → AreJoined (roll-NextOperand (record { op = op; minus = m; operand = z }) ∷ xs) (o ∷ os)
next_by_is op m z o xs os true e h j = let p = both (is_append op) (is_absent m) e in joined_more op m z o xs os p.0 p.1 (operand_found z o h) j
next_by_is op m z o xs os false e h j = absurd (cc)

next_found : (x : NextOperand) (o : Operand) (xs : List NextOperand) (os : List Operand) → next_of x ≡ Some o → AreJoined xs os → AreJoined (x ∷ xs) (o ∷ os)
unfolding next_of
next_found x o xs os h j =
    let y = out-NextOperand x in
    subst (λ z. AreJoined (z ∷ xs) (o ∷ os)) (roll-out-NextOperand x) (next_by_is y.op y.minus y.operand o xs os (is_append y.op && is_absent y.minus) refl h j)

record Found (known : List Operand) (xs : List NextOperand) (os : List Operand) : Type 0 where
  new : List Operand
  is : os ≡ known ++ new
  joined : AreJoined xs new

more_found : (known : List Operand) (x : NextOperand) (xs : List NextOperand) (os : List Operand) → ((k : List Operand) → operands_from k xs ≡ Some os → Found k xs os) → (m : Option Operand)
    → next_of x ≡ m → on_some m (λ o. operands_from (known ++ o ∷ []) xs) ≡ Some os → Found known (x ∷ xs) os
more_found known x xs os ih None e h = absurd (cc)
more_found known x xs os ih (Some o) e h =
    let r : Found (known ++ o ∷ []) xs os = ih (known ++ o ∷ []) h in
    record { new = o ∷ r.new; is = r.is ∙ append_assoc known (o ∷ []) r.new; joined = next_found x o xs r.new e r.joined }

found : (known : List Operand) (xs : List NextOperand) (os : List Operand) → operands_from known xs ≡ Some os → Found known xs os
found known [] os h = record { new = []; is = sym (some_same known os h) ∙ sym (append-nil known); joined = no_operands }
found known (x ∷ xs) os h = more_found known x xs os (λ k. found k xs os) (next_of x) refl h

first_is : (s : Span) (x : part.Operand) (xs : List NextOperand) (os : List Operand) (m : Option Operand) → operand_of x ≡ m
    → on_some m (λ o. operands_from (o ∷ []) xs) ≡ Some os → IsSum (v_Exp.Plain (roll-OperandList (record { span = s; minus = None; first = x; others = xs }))) os
first_is s x xs os None e h = absurd (cc)
first_is s x xs os (Some o) e h =
    let r : Found (o ∷ []) xs os = found (o ∷ []) xs os h in
    subst (IsSum (v_Exp.Plain (roll-OperandList (record { span = s; minus = None; first = x; others = xs })))) (sym r.is) (operands_joined s x o xs r.new (operand_found x o e) r.joined)

list_is : (s : Span) (m : Option Span) (x : part.Operand) (xs : List NextOperand) (os : List Operand)
    → (if is_absent m then on_some (operand_of x) (λ o. operands_from (o ∷ []) xs) else None) ≡ Some os
    → IsSum (v_Exp.Plain (roll-OperandList (record { span = s; minus = m; first = x; others = xs }))) os
list_is s None x xs os h = first_is s x xs os (operand_of x) refl h
list_is s (Some a) x xs os h = absurd (cc)

list_found : (x : OperandList) (os : List Operand) → operands_of x ≡ Some os → IsSum (v_Exp.Plain x) os
unfolding operands_of
list_found x os h =
    let y = out-OperandList x in
    subst (λ z. IsSum (v_Exp.Plain z) os) (roll-out-OperandList x) (list_is y.span y.minus y.first y.others os h)

-- ---- bindings

sum_is : (y : ExpLayer) (os : List Operand) → exp_by y ≡ Some os → IsSum (roll-Exp y) os
sum_is (Exp-F.Exp::Plain x) os h = subst (λ z. IsSum z os) (sym (v_Exp.rolls-Plain x)) (list_found x os h)
sum_is (Exp-F.Typed s x m t) os h = absurd (cc)

sum_found : (x : Exp) (os : List Operand) → exp_of x ≡ Some os → IsSum x os
unfolding exp_of
sum_found x os h = subst (λ z. IsSum z os) (roll-out-Exp x) (sum_is (out-Exp x) os h)

absent_is : (y : WhereLayer) → no_locals_by y ≡ true → roll-Where y ≡ v_Where.Absent
absent_is Where-F.Absent h = v_Where.rolls-Absent
absent_is (Where-F.Block s x) h = absurd (cc)

absent_found : (x : Where) → no_locals x ≡ true → x ≡ v_Where.Absent
unfolding no_locals
absent_found x h = sym (roll-out-Where x) ∙ absent_is (out-Where x) h

record IsRight (x : Rhs) (os : List Operand) : Type 0 where
  span : Span
  mark : Span
  body : Exp
  is : x ≡ v_Rhs.Plain span mark body v_Where.Absent
  sum : IsSum body os

plain_right : (s m : Span) (x : Exp) (w : Where) (os : List Operand) (b : Bool) → no_locals w ≡ b → (if b then exp_of x else None) ≡ Some os → IsRight (v_Rhs.Plain s m x w) os
plain_right s m x w os true e h = record { span = s; mark = m; body = x; is = ap (v_Rhs.Plain s m x) (absent_found w e); sum = sum_found x os h }
plain_right s m x w os false e h = absurd (cc)

right_is : (y : RhsLayer) (os : List Operand) → right_by y ≡ Some os → IsRight (roll-Rhs y) os
right_is (Rhs-F.Rhs::Plain s m x w) os h = subst (λ z. IsRight z os) (sym (v_Rhs.rolls-Plain s m x w)) (plain_right s m x w os (no_locals w) refl h)
right_is (Rhs-F.Rhs::Guarded s g gs w) os h = absurd (cc)

right_found : (x : Rhs) (os : List Operand) → right_of x ≡ Some os → IsRight x os
unfolding right_of
right_found x os h = subst (λ z. IsRight z os) (roll-out-Rhs x) (right_is (out-Rhs x) os h)

record IsLeft (x : FunLhs) (n : Name) : Type 0 where
  span : Span
  is : x ≡ v_FunLhs.Prefix span (v_Var.Word n) []
  is_plain : IsPlain n

prefix_left : (s : Span) (v : Var) (n : Name) → IsWord v n → IsLeft (v_FunLhs.Prefix s v []) n
prefix_left s v n w = record { span = s; is = ap (λ u. v_FunLhs.Prefix s u []) w.is; is_plain = w.is_plain }

left_is : (y : FunLhsLayer) (n : Name) → left_by y ≡ Some n → IsLeft (roll-FunLhs y) n
left_is (FunLhs-F.Prefix s v []) n h = subst (λ z. IsLeft z n) (sym (v_FunLhs.rolls-Prefix s v [])) (prefix_left s v n (word_is v n h))
left_is (FunLhs-F.Prefix s v (p ∷ ps)) n h = absurd (cc)
left_is _ n h = absurd (cc)

left_found : (x : FunLhs) (n : Name) → left_of x ≡ Some n → IsLeft x n
unfolding left_of
left_found x n h = subst (λ z. IsLeft z n) (roll-out-FunLhs x) (left_is (out-FunLhs x) n h)

-- ---- items

abbrev pub ItemOf : Item → ItemForm → Type 0
ItemOf x form.Empty = IsItem x []
ItemOf x (form.Bind b) = IsItem x (b ∷ [])
ItemOf x form.Other = Unit {0}

binding_is : (s : Span) (l : FunLhs) (r : Rhs) (n : Name) (os : List Operand) → IsLeft l n → IsRight r os
    → IsItem (v_Item.Top (v_Top.Decl (v_Decl.Function s l r))) (record { name = n.id; span = s; operands = os } ∷ [])
binding_is s l r n os left right =
    subst (λ u. IsItem (v_Item.Top (v_Top.Decl (v_Decl.Function s u r))) (record { name = n.id; span = s; operands = os } ∷ [])) (sym left.is)
    (subst (λ u. IsItem (v_Item.Top (v_Top.Decl (v_Decl.Function s (v_FunLhs.Prefix left.span (v_Var.Word n) []) u))) (record { name = n.id; span = s; operands = os } ∷ [])) (sym right.is)
    (binding_item s left.span right.span right.mark n right.body os left.is_plain right.sum))

bind_is : (s : Span) (l : FunLhs) (r : Rhs) (n : Option Name) (os : Option (List Operand)) → left_of l ≡ n → right_of r ≡ os
    → ItemOf (v_Item.Top (v_Top.Decl (v_Decl.Function s l r))) (bind_form s n os)
bind_is s l r None os e h = tt
bind_is s l r (Some n) None e h = tt
bind_is s l r (Some n) (Some os) e h = binding_is s l r n os (left_found l n e) (right_found r os h)

decl_is : (y : DeclLayer) → ItemOf (v_Item.Top (v_Top.Decl (roll-Decl y))) (decl_by y)
decl_is (Decl-F.Function s l r) =
    subst (λ z. ItemOf (v_Item.Top (v_Top.Decl z)) (bind_form s (left_of l) (right_of r))) (sym (v_Decl.rolls-Function s l r)) (bind_is s l r (left_of l) (right_of r) refl refl)
decl_is (Decl-F.Signature s v vs m t) = tt
decl_is (Decl-F.Fixity s w l o os) = tt
decl_is (Decl-F.Pattern s p r) = tt

decl_found : (x : Decl) → ItemOf (v_Item.Top (v_Top.Decl x)) (decl_form x)
unfolding decl_form
decl_found x = subst (λ z. ItemOf (v_Item.Top (v_Top.Decl z)) (decl_by (out-Decl x))) (roll-out-Decl x) (decl_is (out-Decl x))

top_is : (x : Top) → ItemOf (v_Item.Top x) (top_form x)
top_is (v_Top.Decl d) = decl_found d
top_is _ = tt

item_is : (x : Item) → ItemOf x (item_form x)
item_is v_Item.Empty = empty_item
item_is (v_Item.Import x) = tt
item_is (v_Item.Top x) = top_is x

-- the bindings with those of an item
pub record Added (x : Item) (known bs : List Binding) : Type 0 where
  pub new : List Binding
  pub is : bs ≡ known ++ new
  pub item : IsItem x new
  pub differ : AreDifferent known → AreDifferent bs

added_none : (x : Item) (known bs : List Binding) → IsItem x [] → known ≡ bs → Added x known bs
added_none x known bs i h = record { new = []; is = sym h ∙ sym (append-nil known); item = i; differ = subst AreDifferent h }

added_one : (x : Item) (known bs : List Binding) (b : Binding) (c : Bool) → IsItem x (b ∷ []) → has_name known b.name ≡ c → (if c then None else Some (known ++ b ∷ [])) ≡ Some bs → Added x known bs
added_one x known bs b true i e h = absurd (cc)
added_one x known bs b false i e h =
    let same : known ++ b ∷ [] ≡ bs = some_same (known ++ b ∷ []) bs h in
    record { new = b ∷ []; is = sym same; item = i; differ = λ d. subst AreDifferent same (different_push known b d e) }

added_by : (x : Item) (known bs : List Binding) (f : ItemForm) → ItemOf x f → bound_by known f ≡ Some bs → Added x known bs
added_by x known bs form.Empty i h = added_none x known bs i (some_same known bs h)
added_by x known bs (form.Bind b) i h = added_one x known bs b (has_name known b.name) i refl h
added_by x known bs form.Other i h = absurd (cc)

pub added : (x : Item) (known bs : List Binding) → bound_by known (item_form x) ≡ Some bs → Added x known bs
added x known bs h = added_by x known bs (item_form x) (item_is x) h

record Judged (xs : List Item) (known bs : List Binding) : Type 0 where
  new : List Binding
  is : bs ≡ known ++ new
  items : AreItems xs new
  differ : AreDifferent known → AreDifferent bs

same_program : (a b : List Binding) → parsed.Program a ≡ parsed.Program b → a ≡ b
same_program a b h = cc

bad_program : (s : Span) (bs : List Binding) → parsed.Bad s ≡ parsed.Program bs → ⊥
bad_program s bs h = cc

none_judged : (known bs : List Binding) → known ≡ bs → Judged [] known bs
none_judged known bs h = record { new = []; is = sym h ∙ sym (append-nil known); items = no_items; differ = subst AreDifferent h }

next_judged : (x : Item) (xs : List Item) (known bs : List Binding) → ((more : List Binding) → items_form more xs ≡ parsed.Program bs → Judged xs more bs) → (m : Option (List Binding))
    → bound_by known (item_form x) ≡ m → going_on m (parsed.Bad (item_span x)) (λ more. items_form more xs) ≡ parsed.Program bs → Judged (x ∷ xs) known bs
next_judged x xs known bs ih None e h = absurd (bad_program (item_span x) bs h)
next_judged x xs known bs ih (Some more) e h =
    let a : Added x known more = added x known more e in
    let j : Judged xs more bs = ih more h in
    record {
      new = a.new ++ j.new;
      is = j.is ∙ ap (λ k. k ++ j.new) a.is ∙ append_assoc known a.new j.new;
      items = more_items x xs a.new j.new a.item j.items;
      differ = λ d. j.differ (a.differ d);
    }

judged : (xs : List Item) (known bs : List Binding) → items_form known xs ≡ parsed.Program bs → Judged xs known bs
judged [] known bs h = none_judged known bs (same_program known bs h)
judged (x ∷ xs) known bs h = next_judged x xs known bs (λ more. judged xs more bs) (bound_by known (item_form x)) refl h

-- ---- the whole file

pub main_is : (h : Header) → is_main h ≡ true → IsHeader (Some h)
main_is h e =
    let p = both (plain h.name && nat_eq h.name.id.0 MAIN_MODULE.0) (is_absent h.exports) e in
    let q = both (plain h.name) (nat_eq h.name.id.0 MAIN_MODULE.0) p.0 in
    subst (λ x. IsHeader (Some (record { span = h.span; mark = h.mark; name = h.name; exports = x; begins = h.begins }))) (sym (absent_none h.exports p.1))
    (main_header h.span h.mark h.begins h.name (none_is h.name.qualifier q.0) (ids_same h.name.id MAIN_MODULE q.1))

main_by : (h : Header) (body : Parsed) (bs : List Binding) (b : Bool) → is_main h ≡ b → (if b then body else parsed.Bad h.span) ≡ parsed.Program bs → IsHeader (Some h) × (body ≡ parsed.Program bs)
main_by h body bs true e f = (main_is h e, f)
main_by h body bs false e f = absurd (bad_program h.span bs f)

header_is : (h : Option Header) (body : Parsed) (bs : List Binding) → header_form h body ≡ parsed.Program bs → IsHeader h × (body ≡ parsed.Program bs)
header_is None body bs e = (no_header, e)
header_is (Some h) body bs e = main_by h body bs (is_main h) refl e

pub form_is : (t : ModuleTree) (bs : List Binding) → form_of t ≡ parsed.Program bs → IsFirstForm t bs
unfolding form_of
form_is t bs h =
    let p = header_is t.header (items_form [] (items_of t)) bs h in
    let j : Judged (items_of t) [] bs = judged (items_of t) [] bs p.1 in
    record { is_header = p.0; are_items = subst (AreItems (items_of t)) (sym j.is) j.items; differ = j.differ tt }
