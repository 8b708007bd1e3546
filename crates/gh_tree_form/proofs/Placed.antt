-- Where the ids of the tokens are of a table, so are those of the bindings.
use Rattle.std.proofs.Common.{◌≡◌, ℕ, zero, suc, ◌<◌, Bool, true, false, ◌==◌, if◌then◌else◌, List, [], ◌∷◌, ◌++◌, length, get_or, slice_get, map, Option, Some, None, refl, sym, ap, ◌∙◌, subst, arith}
use Rattle.std.proofs.lemmas.Option.{slice_get_within, get_or_from_slice_get}
use Rattle.gh_base.specs.declared.names.NameId.{NameId}
use Rattle.gh_base.specs.declared.place.Span.{Span}
use Rattle.gh_bindings.specs.declared.binding.Operand.{Operand}
use Rattle.gh_bindings.specs.declared.binding.Binding.{Binding}
use Rattle.gh_tree.specs.declared.names.Name.{Name}
use Rattle.gh_tree.specs.declared.names.Var.TheVariants as v_Var
use Rattle.gh_tree.specs.declared.names.VarOp.TheVariants as v_VarOp
use Rattle.gh_tree.specs.declared.names.Op.TheVariants as v_Op
use Rattle.gh_tree.specs.declared.patterns.FunLhs.{FunLhs}
use Rattle.gh_tree.specs.declared.patterns.FunLhs.TheVariants as v_FunLhs
use Rattle.gh_tree.specs.declared.expressions.Aexp.{Aexp}
use Rattle.gh_tree.specs.declared.expressions.Aexp.TheVariants as v_Aexp
use Rattle.gh_tree.specs.declared.expressions.Decl.TheVariants as v_Decl
use Rattle.gh_tree.specs.declared.expressions.Exp.{Exp}
use Rattle.gh_tree.specs.declared.expressions.Exp.TheVariants as v_Exp
use Rattle.gh_tree.specs.declared.expressions.NextOperand.{NextOperand, roll-NextOperand}
use Rattle.gh_tree.specs.declared.expressions.Operand as part
use Rattle.gh_tree.specs.declared.expressions.Operand.TheVariants as v_Operand
use Rattle.gh_tree.specs.declared.expressions.OperandList.{roll-OperandList}
use Rattle.gh_tree.specs.declared.expressions.Rhs.{Rhs}
use Rattle.gh_tree.specs.declared.expressions.Rhs.TheVariants as v_Rhs
use Rattle.gh_tree.specs.declared.expressions.Where.TheVariants as v_Where
use Rattle.gh_tree.specs.declared.module_tree.Item.{Item}
use Rattle.gh_tree.specs.declared.module_tree.ModuleTree.{ModuleTree}
use Rattle.gh_tree.specs.declared.module_tree.NextItem.{NextItem}
use Rattle.gh_tree.specs.declared.symbol.Kind.{Kind}
use Rattle.gh_tree.specs.declared.symbol.Kind.TheVariants as k
use Rattle.gh_tree.specs.declared.symbol.Sym.{Sym}
use Rattle.gh_tree.specs.Print.{Print, flat_all, flat}
use Rattle.gh_tree.specs.Print as printed
use Rattle.gh_tree.specs.Syms.{at}
use Rattle.gh_tree_form.specs.declared.program.Parsed.{Parsed}
use Rattle.gh_tree_form.specs.declared.program.Parsed.TheVariants as parsed
use Rattle.gh_tree_form.specs.Form.{items_of, form_of}
use Rattle.gh_tree_form.specs.Grammar.{IsOperand, operand_name, operand_text, AreJoined, no_operands, more_operands, IsSum, operands_joined, IsItem, empty_item, binding_item, AreItems, no_items, more_items}
use Rattle.gh_layout.specs.declared.laying.LaidToken.{LaidToken}
use Rattle.gh_layout.specs.declared.laying.LaidToken.TheVariants as laid
use Rattle.gh_lexer.specs.Seen.{Table, IsPlaced, IdsPlaced, AllPlaced}
use Rattle.gh_lexer.specs.declared.token.NameClass.TheVariants as class
use Rattle.gh_lexer.specs.declared.token.Token.{Token}
use Rattle.gh_lexer.specs.declared.token.TokenKind.{TokenKind}
use Rattle.gh_lexer.specs.declared.token.TokenKind.TheVariants as token
use Rattle.gh_tree.specs.Syms.{listed, words, marks, kind_of, real, sym_of, syms_of}
use Rattle.gh_tree.proofs.Printed.{printed_operand_apply, printed_aexp_var, printed_next_operand, printed_exp_plain, printed_operands, printed_fun_lhs_prefix, printed_rhs_plain, printed_decl_function}
use Rattle.gh_tree_form.specs.Named.{OperandPlaced, OperandsPlaced, BindingsPlaced, ParsedPlaced}
use Rattle.gh_tree_form.specs.Laws.{NamesArePlaced}
use Rattle.gh_tree_form.proofs.Forward.{form_is}

-- ---- the names of variables among laid tokens

abbrev KindPlaced : Table → Kind → Type 0
KindPlaced table (k.VarId q n) = IsPlaced table n
KindPlaced table _ = Unit {0}

abbrev AllSyms : Table → List Sym → Type 0
AllSyms table [] = Unit {0}
AllSyms table (s ∷ ss) = KindPlaced table s.kind × AllSyms table ss

-- no entry of a list is the name of a variable
abbrev NoNames : Table → List (NameId × Kind) → Type 0
NoNames table [] = Unit {0}
NoNames table (p ∷ ps) = KindPlaced table p.1 × NoNames table ps

entry_placed : (table : Table) (b : Bool) (a c : Kind) → KindPlaced table a → KindPlaced table c → KindPlaced table (if b then a else c)
entry_placed table true a c p q = p
entry_placed table false a c p q = q

listed_placed : (table : Table) (ps : List (NameId × Kind)) (other : Kind) (name : NameId) → NoNames table ps → KindPlaced table other → KindPlaced table (listed ps other name)
listed_placed table [] other name all rest = rest
listed_placed table (p ∷ ps) other name all rest =
    entry_placed table (p.0.0 == name.0) p.1 (listed ps other name) all.0 (listed_placed table ps other name all.1 rest)

abbrev no_words : (table : Table) → NoNames table words
no_words table = (tt, (tt, (tt, (tt, (tt, (tt, (tt, (tt, (tt, (tt, (tt, (tt, (tt, (tt, (tt, (tt, (tt, tt)))))))))))))))))

abbrev no_marks : (table : Table) → NoNames table marks
no_marks table = (tt, (tt, (tt, (tt, (tt, (tt, (tt, (tt, (tt, (tt, (tt, (tt, (tt, (tt, (tt, (tt, (tt, (tt, (tt, (tt, tt))))))))))))))))))))

kind_placed : (table : Table) (t : TokenKind) → IdsPlaced table t → KindPlaced table (kind_of t)
kind_placed table (token.Name class.VarId q n) p = p.1
kind_placed table (token.Name class.ConId q n) p = tt
kind_placed table (token.Name class.VarSym q n) p = tt
kind_placed table (token.Name class.ConSym q n) p = tt
kind_placed table (token.Word n) p = listed_placed table words (k.Unused n) n (no_words table) tt
kind_placed table (token.Mark n) p = listed_placed table marks (k.Unused n) n (no_marks table) tt
kind_placed table (token.Int n) p = tt
kind_placed table (token.Char c) p = tt
kind_placed table (token.Str cs) p = tt

known_at : (table : Table) (ts : List Token) (i : ℕ) (d : Token) → AllPlaced table ts → i < length ts → IdsPlaced table (get_or ts i d).kind
known_at table [] i d k h = absurd (omega arith)
known_at table (t ∷ ts) zero d k h = k.0
known_at table (t ∷ ts) (suc i) d k h = known_at table ts i d k.1 (omega arith)

placed_at : (table : Table) (ts : List Token) (i : ℕ) (t : Token) → AllPlaced table ts → slice_get ts i ≡ Some t → IdsPlaced table t.kind
placed_at table ts i t k h =
    let P : Token → Type 0 = λ x. IdsPlaced table x.kind in
    subst P (get_or_from_slice_get ts i t t h) (known_at table ts i t k (slice_get_within ts i t h))

real_placed : (table : Table) (ts : List Token) (i : ℕ) (m : Option Token) → AllPlaced table ts → slice_get ts i ≡ m → KindPlaced table (real i m).kind
real_placed table ts i None a e = tt
real_placed table ts i (Some t) a e = kind_placed table t.kind (placed_at table ts i t a e)

sym_placed : (table : Table) (ts : List Token) (l : LaidToken) → AllPlaced table ts → KindPlaced table (sym_of ts l).kind
sym_placed table ts (laid.Real i) a = real_placed table ts i (slice_get ts i) a refl
sym_placed table ts (laid.Begin i) a = tt
sym_placed table ts (laid.Semi i) a = tt
sym_placed table ts (laid.End i) a = tt

syms_placed : (table : Table) (ts : List Token) (ls : List LaidToken) → AllPlaced table ts → AllSyms table (syms_of ts ls)
syms_placed table ts [] a = tt
syms_placed table ts (l ∷ ls) a = (sym_placed table ts l a, syms_placed table ts ls a)

front_placed : (table : Table) (xs ys : List Sym) → AllSyms table (xs ++ ys) → AllSyms table xs
front_placed table [] ys p = tt
front_placed table (x ∷ xs) ys p = (p.0, front_placed table xs ys p.1)

back_placed : (table : Table) (xs ys : List Sym) → AllSyms table (xs ++ ys) → AllSyms table ys
back_placed table [] ys p = p
back_placed table (x ∷ xs) ys p = back_placed table xs ys p.1

-- ---- the names of bindings are among them

operand_flat : (s : Span) (x : Aexp) → (printed.operand (v_Operand.Apply s x [])).flat ≡ (printed.aexp x).flat ++ []
operand_flat s x = ap (λ (p : Print). p.flat) (printed_operand_apply s x [])

name_flat : (s : Span) (n : Name) → (printed.operand (v_Operand.Apply s (v_Aexp.Var (v_Var.Word n)) [])).flat ≡ at (k.VarId n.qualifier n.id) n.span ∷ []
name_flat s n = operand_flat s (v_Aexp.Var (v_Var.Word n)) ∙ ap (λ (p : Print). p.flat ++ []) (printed_aexp_var (v_Var.Word n))

operand_placed : (table : Table) (x : part.Operand) (o : Operand) → IsOperand x o → AllSyms table (printed.operand x).flat → OperandPlaced table o
operand_placed table x o (operand_name s n e) p = (subst (AllSyms table) (name_flat s n) p).0
operand_placed table x o (operand_text s t cs) p = tt

next_flat : (q : Name) (x : part.Operand)
    → (printed.next_operand (roll-NextOperand (record { op = v_Op.Var (v_VarOp.Symbol q); minus = None; operand = x }))).flat ≡ at (k.VarSym q.qualifier q.id) q.span ∷ (printed.operand x).flat
next_flat q x = ap (λ (p : Print). p.flat) (printed_next_operand (v_Op.Var (v_VarOp.Symbol q)) None x)

joined_placed : (table : Table) (xs : List NextOperand) (os : List Operand) → AreJoined xs os → AllSyms table (flat_all (map printed.next_operand xs)) → OperandsPlaced table os
joined_placed table xs os no_operands p = tt
joined_placed table xs os (more_operands q x o ys zs e f i j) p =
    let next = roll-NextOperand (record { op = v_Op.Var (v_VarOp.Symbol q); minus = None; operand = x }) in
    let first = front_placed table (printed.next_operand next).flat (flat_all (map printed.next_operand ys)) p in
    let rest = back_placed table (printed.next_operand next).flat (flat_all (map printed.next_operand ys)) p in
    (operand_placed table x o i (subst (AllSyms table) (next_flat q x) first).1, joined_placed table ys zs j rest)

sum_flat : (s : Span) (x : part.Operand) (xs : List NextOperand)
    → (printed.exp (v_Exp.Plain (roll-OperandList (record { span = s; minus = None; first = x; others = xs })))).flat ≡ (printed.operand x).flat ++ flat_all (map printed.next_operand xs)
sum_flat s x xs =
    ap (λ (p : Print). p.flat) (printed_exp_plain (roll-OperandList (record { span = s; minus = None; first = x; others = xs })))
    ∙ ap (λ (p : Print). p.flat) (printed_operands s None x xs)

sum_placed : (table : Table) (e : Exp) (os : List Operand) → IsSum e os → AllSyms table (printed.exp e).flat → OperandsPlaced table os
sum_placed table e os (operands_joined s x o xs rest i j) p =
    let all = subst (AllSyms table) (sum_flat s x xs) p in (
      operand_placed table x o i (front_placed table (printed.operand x).flat (flat_all (map printed.next_operand xs)) all),
      joined_placed table xs rest j (back_placed table (printed.operand x).flat (flat_all (map printed.next_operand xs)) all),
    )

left_flat : (l : Span) (n : Name) → (printed.fun_lhs (v_FunLhs.Prefix l (v_Var.Word n) [])).flat ≡ at (k.VarId n.qualifier n.id) n.span ∷ []
left_flat l n = ap (λ (p : Print). p.flat) (printed_fun_lhs_prefix l (v_Var.Word n) [])

right_flat : (r m : Span) (e : Exp) → (printed.rhs (v_Rhs.Plain r m e v_Where.Absent)).flat ≡ at k.Equals m ∷ ((printed.exp e).flat ++ (printed.where_part v_Where.Absent).flat)
right_flat r m e = ap (λ (p : Print). p.flat) (printed_rhs_plain r m e v_Where.Absent)

decl_flat : (s : Span) (l : FunLhs) (r : Rhs) → (printed.decl (v_Decl.Function s l r)).flat ≡ (printed.fun_lhs l).flat ++ (printed.rhs r).flat
decl_flat s l r = ap (λ (p : Print). p.flat) (printed_decl_function s l r)

item_placed : (table : Table) (x : Item) (bs : List Binding) → IsItem x bs → AllSyms table (printed.item x).flat → BindingsPlaced table bs
item_placed table x bs empty_item p = tt
item_placed table x bs (binding_item s l r m n e os i j) p =
    let left = v_FunLhs.Prefix l (v_Var.Word n) [] in
    let right = v_Rhs.Plain r m e v_Where.Absent in
    let all = subst (AllSyms table) (decl_flat s left right) p in
    let name = subst (AllSyms table) (left_flat l n) (front_placed table (printed.fun_lhs left).flat (printed.rhs right).flat all) in
    let body = subst (AllSyms table) (right_flat r m e) (back_placed table (printed.fun_lhs left).flat (printed.rhs right).flat all) in
    ((name.0, sum_placed table e os j (front_placed table (printed.exp e).flat (printed.where_part v_Where.Absent).flat body.1)), tt)

abbrev AllItems : Table → List Item → Type 0
AllItems table [] = Unit {0}
AllItems table (x ∷ xs) = AllSyms table (printed.item x).flat × AllItems table xs

bindings_join : (table : Table) (bs cs : List Binding) → BindingsPlaced table bs → BindingsPlaced table cs → BindingsPlaced table (bs ++ cs)
bindings_join table [] cs p q = q
bindings_join table (b ∷ bs) cs p q = (p.0, bindings_join table bs cs p.1 q)

items_placed : (table : Table) (xs : List Item) (bs : List Binding) → AreItems xs bs → AllItems table xs → BindingsPlaced table bs
items_placed table xs bs no_items p = tt
items_placed table xs bs (more_items x ys cs ds i j) p = bindings_join table cs ds (item_placed table x cs i p.0) (items_placed table ys ds j p.1)

others_placed : (table : Table) (xs : List NextItem) → AllSyms table (flat_all (map printed.next_item xs)) → AllItems table (map (λ x. x.item) xs)
others_placed table [] p = tt
others_placed table (x ∷ xs) p = (
  front_placed table (printed.item x.item).flat (flat_all (map printed.next_item xs)) p.1,
  others_placed table xs (back_placed table (printed.item x.item).flat (flat_all (map printed.next_item xs)) p.1),
)

file_placed : (table : Table) (t : ModuleTree) → AllSyms table (flat t) → AllItems table (items_of t)
file_placed table t p =
    let others = flat_all (map printed.next_item t.others) in
    let close = printed.block_close t.close ∷ [] in
    let body = (back_placed table (printed.header t.header).flat (printed.block_open t.open ∷ ((printed.item t.first).flat ++ (others ++ close))) p).1 in (
      front_placed table (printed.item t.first).flat (others ++ close) body,
      others_placed table t.others (front_placed table others close (back_placed table (printed.item t.first).flat (others ++ close) body)),
    )

parsed_placed : (table : Table) (t : ModuleTree) (p : Parsed) → form_of t ≡ p → AllSyms table (flat t) → ParsedPlaced table p
parsed_placed table t (parsed.Bad s) e a = tt
parsed_placed table t (parsed.Program bs) e a = items_placed table (items_of t) bs (form_is t bs e).are_items (file_placed table t a)

pub names_placed : NamesArePlaced
names_placed table ts xs t a e = parsed_placed table t (form_of t) refl (subst (AllSyms table) (sym e) (syms_placed table ts xs a))
