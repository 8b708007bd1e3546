-- What each node of an expression or declaration begins with, and which rule that picks.
use Rattle.std.proofs.Common.{◌≡◌, ◌≤◌, Bool, true, false, not, ◌&&◌, ◌==◌, List, [], ◌∷◌, ◌++◌, length, map, Option, Some, None, refl, ap, ◌∙◌, append_assoc, arith, eq-eqb}
use Rattle.gh_base.specs.declared.fixed.TheConstants.{MINUS}
use Rattle.gh_base.specs.declared.names.NameId.{NameId}
use Rattle.gh_base.specs.declared.place.Span.{Span}
use Rattle.gh_tree.specs.declared.symbol.Kind.{Kind}
use Rattle.gh_tree.specs.declared.symbol.Kind.TheVariants as k
use Rattle.gh_tree.specs.declared.symbol.Sym.{Sym}
use Rattle.gh_tree.specs.declared.names.Var.{Var}
use Rattle.gh_tree.specs.declared.names.Var.TheVariants as n_Var
use Rattle.gh_tree.specs.declared.names.Con.TheVariants as n_Con
use Rattle.gh_tree.specs.declared.names.GenCon.{GenCon}
use Rattle.gh_tree.specs.declared.names.GenCon.TheVariants as n_GenCon
use Rattle.gh_tree.specs.declared.names.Op.{Op}
use Rattle.gh_tree.specs.declared.names.Op.TheVariants as n_Op
use Rattle.gh_tree.specs.declared.names.VarOp.TheVariants as n_VarOp
use Rattle.gh_tree.specs.declared.names.ConOp.TheVariants as n_ConOp
use Rattle.gh_tree.specs.declared.expressions.Aexp.{Aexp, out-Aexp}
use Rattle.gh_tree.specs.declared.expressions.Exp.{Exp, out-Exp}
use Rattle.gh_tree.specs.declared.expressions.NextOperand.{NextOperand, out-NextOperand}
use Rattle.gh_tree.specs.declared.expressions.Open.{Open, out-Open}
use Rattle.gh_tree.specs.declared.expressions.Operand.{Operand, out-Operand}
use Rattle.gh_tree.specs.declared.expressions.OperandList.{OperandList, out-OperandList}
use Rattle.gh_tree.specs.declared.expressions.Part.{Part}
use Rattle.gh_tree.specs.declared.expressions.Aexp.TheOpen.{Aexp-F, Exp-F, Open-F, Operand-F}
use Rattle.gh_tree.specs.Syms.{at}
use Rattle.gh_tree.specs.Print.{Print, flat_all, is_none, op_flat, minus_flat}
use Rattle.gh_tree.specs.Print as printed
use Rattle.gh_tree.specs.Read.{kind, after, is_close, is_close_list, comma_next}
use Rattle.gh_tree.proofs.Steps.{and_is, not_so}
use Rattle.gh_parse_exps.specs.Ops.{is_sym, is_minus, is_op, con_next, con_next_by, any_var_next, behind_op, goes_on, right_next}
use Rattle.gh_parse_exps.specs.Exps.{begins_aexp, begins_aexp_by}
use Rattle.gh_parse_exps.proofs.Layers.{AexpLayer, aexp_layer, aexp_at, ExpLayer, exp_layer, exp_at, OpenLayer, open_layer, open_at, OperandLayer, operand_layer, operand_at, operands_at, next_operand_at, part_at}

-- a node whose first token begins it has a token
pub some_of : (begins : List Sym → Bool) (flat : List Sym) → begins [] ≡ false → begins (flat ++ []) ≡ true → 1 ≤ length flat
some_of begins [] none is = absurd (cc)
some_of begins (s ∷ ss) none is = omega arith

-- ---- arguments

pub any_var_starts : (v : Var) (rest : List Sym) → begins_aexp (printed.var v ++ rest) ≡ true
any_var_starts (n_Var.Word n) rest = refl
any_var_starts (n_Var.Symbol a n b) rest = refl

gen_con_starts : (c : GenCon) (rest : List Sym) → begins_aexp ((printed.gen_con c).flat ++ rest) ≡ true
gen_con_starts (n_GenCon.Con (n_Con.Word n)) rest = refl
gen_con_starts (n_GenCon.Con (n_Con.Symbol a n b)) rest = refl
gen_con_starts (n_GenCon.Unit s a b) rest = refl
gen_con_starts (n_GenCon.Nil s a b) rest = refl
gen_con_starts (n_GenCon.Tuple s a cs b) rest = refl

aexp_layer_starts : (y : AexpLayer) (rest : List Sym) → begins_aexp ((aexp_layer y).flat ++ rest) ≡ true
unfolding aexp_layer
aexp_layer_starts (Aexp-F.Var v) rest = any_var_starts v rest
aexp_layer_starts (Aexp-F.Generic s v a t b) rest =
    ap begins_aexp (append_assoc (printed.var v) (at k.OpenBanana a ∷ ((printed.type_expr t).flat ++ at k.CloseBanana b ∷ [])) rest) ∙ any_var_starts v _
aexp_layer_starts (Aexp-F.Con c) rest = gen_con_starts c rest
aexp_layer_starts (Aexp-F.Int a n) rest = refl
aexp_layer_starts (Aexp-F.Char a n) rest = refl
aexp_layer_starts (Aexp-F.Str a cs) rest = refl
aexp_layer_starts (Aexp-F.Paren s a x b) rest = refl
aexp_layer_starts (Aexp-F.Tuple s a x xs b) rest = refl
aexp_layer_starts (Aexp-F.List s a x xs b) rest = refl
aexp_layer_starts (Aexp-F.Left s a xs o b) rest = refl
aexp_layer_starts (Aexp-F.Right s a o xs b) rest = refl

pub aexp_starts : (x : Aexp) (rest : List Sym) → begins_aexp ((printed.aexp x).flat ++ rest) ≡ true
aexp_starts x rest = ap (λ (p : Print). begins_aexp (p.flat ++ rest)) (aexp_at x) ∙ aexp_layer_starts (out-Aexp x) rest

-- ---- operands

abbrev pub begins_operand_by : Option Kind → Bool
begins_operand_by (Some k.Case) = true
begins_operand_by (Some k.Backslash) = true
begins_operand_by (Some k.Let) = true
begins_operand_by (Some k.If) = true
begins_operand_by kind = begins_aexp_by kind

abbrev pub begins_operand : List Sym → Bool
begins_operand ss = begins_operand_by (kind ss)

aexp_begins_by : (kind : Option Kind) → begins_aexp_by kind ≡ true → begins_operand_by kind ≡ true
aexp_begins_by (Some (k.VarId q n)) e = refl
aexp_begins_by (Some (k.ConId q n)) e = refl
aexp_begins_by (Some (k.Int n)) e = refl
aexp_begins_by (Some (k.Char n)) e = refl
aexp_begins_by (Some (k.Str cs)) e = refl
aexp_begins_by (Some k.Open) e = refl
aexp_begins_by (Some k.OpenList) e = refl
aexp_begins_by _ e = absurd (cc)

open_layer_starts : (y : OpenLayer) (rest : List Sym) → begins_operand ((open_layer y).flat ++ rest) ≡ true
unfolding open_layer
open_layer_starts (Open-F.Lambda s a x xs m e) rest = refl
open_layer_starts (Open-F.Let s a x m e) rest = refl
open_layer_starts (Open-F.If s a x m y n z) rest = refl

open_starts : (x : Open) (rest : List Sym) → begins_operand ((printed.open_operand x).flat ++ rest) ≡ true
open_starts x rest = ap (λ (p : Print). begins_operand (p.flat ++ rest)) (open_at x) ∙ open_layer_starts (out-Open x) rest

operand_layer_starts : (y : OperandLayer) (rest : List Sym) → begins_operand ((operand_layer y).flat ++ rest) ≡ true
unfolding operand_layer
operand_layer_starts (Operand-F.Apply s x xs) rest =
    ap begins_operand (append_assoc (printed.aexp x).flat (flat_all (map printed.aexp xs)) rest)
    ∙ aexp_begins_by _ (aexp_starts x (flat_all (map printed.aexp xs) ++ rest))
operand_layer_starts (Operand-F.Case s a x m y) rest = refl
operand_layer_starts (Operand-F.Open x) rest = open_starts x rest

pub operand_starts : (x : Operand) (rest : List Sym) → begins_operand ((printed.operand x).flat ++ rest) ≡ true
operand_starts x rest = ap (λ (p : Print). begins_operand (p.flat ++ rest)) (operand_at x) ∙ operand_layer_starts (out-Operand x) rest

record OperandFirst (kind : Option Kind) : Type 0 where
  close : is_close kind ≡ false
  minus : is_minus kind ≡ false

operand_first : (kind : Option Kind) → begins_operand_by kind ≡ true → OperandFirst kind
operand_first (Some k.Case) e = record { close = refl; minus = refl }
operand_first (Some k.Backslash) e = record { close = refl; minus = refl }
operand_first (Some k.Let) e = record { close = refl; minus = refl }
operand_first (Some k.If) e = record { close = refl; minus = refl }
operand_first (Some (k.VarId q n)) e = record { close = refl; minus = refl }
operand_first (Some (k.ConId q n)) e = record { close = refl; minus = refl }
operand_first (Some (k.Int n)) e = record { close = refl; minus = refl }
operand_first (Some (k.Char n)) e = record { close = refl; minus = refl }
operand_first (Some (k.Str cs)) e = record { close = refl; minus = refl }
operand_first (Some k.Open) e = record { close = refl; minus = refl }
operand_first (Some k.OpenList) e = record { close = refl; minus = refl }
operand_first _ e = absurd (cc)

pub operand_no_close : (ss : List Sym) → begins_operand ss ≡ true → is_close (kind ss) ≡ false
operand_no_close ss e = (operand_first (kind ss) e).close

pub operand_no_minus : (ss : List Sym) → begins_operand ss ≡ true → is_minus (kind ss) ≡ false
operand_no_minus ss e = (operand_first (kind ss) e).minus

-- ---- expressions: an operand, or a minus sign and an operand

abbrev pub begins_exp_by : Option Kind → Option Kind → Bool
begins_exp_by (Some (k.VarSym None n)) second = n.0 == MINUS.0 && not (is_close second)
begins_exp_by first second = begins_operand_by first

abbrev pub begins_exp : List Sym → Bool
begins_exp ss = begins_exp_by (kind ss) (kind (after ss))

operand_begins_by : (first second : Option Kind) → begins_operand_by first ≡ true → begins_exp_by first second ≡ true
operand_begins_by (Some k.Case) second e = refl
operand_begins_by (Some k.Backslash) second e = refl
operand_begins_by (Some k.Let) second e = refl
operand_begins_by (Some k.If) second e = refl
operand_begins_by (Some (k.VarId q n)) second e = refl
operand_begins_by (Some (k.ConId q n)) second e = refl
operand_begins_by (Some (k.Int n)) second e = refl
operand_begins_by (Some (k.Char n)) second e = refl
operand_begins_by (Some (k.Str cs)) second e = refl
operand_begins_by (Some k.Open) second e = refl
operand_begins_by (Some k.OpenList) second e = refl
operand_begins_by _ second e = absurd (cc)

signed_starts : (m : Option Span) (ss : List Sym) → begins_operand ss ≡ true → begins_exp (minus_flat m ++ ss) ≡ true
signed_starts None ss e = operand_begins_by (kind ss) (kind (after ss)) e
signed_starts (Some a) ss e = and_is (eq-eqb MINUS.0 MINUS.0 refl) (not_so _ (operand_no_close ss e))

pub operands_starts : (x : OperandList) (rest : List Sym) → begins_exp ((printed.operands x).flat ++ rest) ≡ true
operands_starts x rest =
    let y = out-OperandList x in
    let first = (printed.operand y.first).flat in
    let others = flat_all (map printed.next_operand y.others) in
    ap (λ (p : Print). begins_exp (p.flat ++ rest)) (operands_at x)
    ∙ ap begins_exp (append_assoc (minus_flat y.minus) (first ++ others) rest ∙ ap (λ us. minus_flat y.minus ++ us) (append_assoc first others rest))
    ∙ signed_starts y.minus (first ++ (others ++ rest)) (operand_starts y.first (others ++ rest))

exp_layer_starts : (y : ExpLayer) (rest : List Sym) → begins_exp ((exp_layer y).flat ++ rest) ≡ true
unfolding exp_layer
exp_layer_starts (Exp-F.Exp::Plain xs) rest = operands_starts xs rest
exp_layer_starts (Exp-F.Typed s xs m t) rest =
    ap begins_exp (append_assoc (printed.operands xs).flat (at k.Colons m ∷ (printed.type_expr t).flat) rest) ∙ operands_starts xs _

pub exp_starts : (x : Exp) (rest : List Sym) → begins_exp ((printed.exp x).flat ++ rest) ≡ true
exp_starts x rest = ap (λ (p : Print). begins_exp (p.flat ++ rest)) (exp_at x) ∙ exp_layer_starts (out-Exp x) rest

pub exp_some : (x : Exp) → 1 ≤ length (printed.exp x).flat
exp_some x = some_of begins_exp (printed.exp x).flat refl (exp_starts x [])

pub operands_some : (x : OperandList) → 1 ≤ length (printed.operands x).flat
operands_some x = some_of begins_exp (printed.operands x).flat refl (operands_starts x [])

record ExpFirst (first second : Option Kind) : Type 0 where
  right : (is_op first && not (is_minus first)) ≡ false
  con : con_next_by (Some k.Open) first second ≡ false
  symbol : (is_sym first && is_close second) ≡ false
  close : is_close first ≡ false
  close_list : is_close_list first ≡ false

minus_first : (n : NameId) (second : Option Kind) (minus shut : Bool) → (n.0 == MINUS.0) ≡ minus → is_close second ≡ shut → (minus && not shut) ≡ true → ExpFirst (Some (k.VarSym None n)) second
minus_first n second true false is behind e = record { right = ap not is; con = refl; symbol = behind; close = refl; close_list = refl }
minus_first n second true true is behind e = absurd (cc)
minus_first n second false shut is behind e = absurd (cc)

exp_first : (first second : Option Kind) → begins_exp_by first second ≡ true → ExpFirst first second
exp_first (Some (k.VarSym None n)) second e = minus_first n second (n.0 == MINUS.0) (is_close second) refl refl e
exp_first (Some k.Case) second e = record { right = refl; con = refl; symbol = refl; close = refl; close_list = refl }
exp_first (Some k.Backslash) second e = record { right = refl; con = refl; symbol = refl; close = refl; close_list = refl }
exp_first (Some k.Let) second e = record { right = refl; con = refl; symbol = refl; close = refl; close_list = refl }
exp_first (Some k.If) second e = record { right = refl; con = refl; symbol = refl; close = refl; close_list = refl }
exp_first (Some (k.VarId q n)) second e = record { right = refl; con = refl; symbol = refl; close = refl; close_list = refl }
exp_first (Some (k.ConId q n)) second e = record { right = refl; con = refl; symbol = refl; close = refl; close_list = refl }
exp_first (Some (k.Int n)) second e = record { right = refl; con = refl; symbol = refl; close = refl; close_list = refl }
exp_first (Some (k.Char n)) second e = record { right = refl; con = refl; symbol = refl; close = refl; close_list = refl }
exp_first (Some (k.Str cs)) second e = record { right = refl; con = refl; symbol = refl; close = refl; close_list = refl }
exp_first (Some k.Open) second e = record { right = refl; con = refl; symbol = refl; close = refl; close_list = refl }
exp_first (Some k.OpenList) second e = record { right = refl; con = refl; symbol = refl; close = refl; close_list = refl }
exp_first _ second e = absurd (cc)

pub exp_no_close : (ss : List Sym) → begins_exp ss ≡ true → is_close (kind ss) ≡ false
exp_no_close ss e = (exp_first (kind ss) (kind (after ss)) e).close

-- ---- what stands behind a bracket

pub exp_is_no_right : (ss : List Sym) → begins_exp ss ≡ true → right_next ss ≡ false
exp_is_no_right ss e = (exp_first (kind ss) (kind (after ss)) e).right

pub exp_is_no_con : (a : Span) (ss : List Sym) → begins_exp ss ≡ true → con_next (at k.Open a ∷ ss) ≡ false
unfolding con_next
exp_is_no_con a ss e = (exp_first (kind ss) (kind (after ss)) e).con

pub exp_is_no_var : (a : Span) (ss : List Sym) → begins_exp ss ≡ true → any_var_next (at k.Open a ∷ ss) ≡ false
unfolding any_var_next
exp_is_no_var a ss e = (exp_first (kind ss) (kind (after ss)) e).symbol

pub list_is_no_con : (a : Span) (ss : List Sym) → begins_exp ss ≡ true → con_next (at k.OpenList a ∷ ss) ≡ false
unfolding con_next
list_is_no_con a ss e = (exp_first (kind ss) (kind (after ss)) e).close_list

pub list_is_no_var : (a : Span) (ss : List Sym) → any_var_next (at k.OpenList a ∷ ss) ≡ false
unfolding any_var_next
list_is_no_var a ss = refl

-- ---- operators

pub op_right : (o : Op) (ss : List Sym) → printed.is_minus o ≡ false → right_next (op_flat o ++ ss) ≡ true
op_right (n_Op.Var (n_VarOp.Symbol n)) ss e = symbol n.qualifier n.id e
  where
    symbol : (q : Option NameId) (n : NameId) → (is_none q && n.0 == MINUS.0) ≡ false → not (is_minus (Some (k.VarSym q n))) ≡ true
    symbol None n e = ap not e
    symbol (Some m) n e = refl
op_right (n_Op.Var (n_VarOp.Quoted a n b)) ss e = refl
op_right (n_Op.Con (n_ConOp.Symbol n)) ss e = refl
op_right (n_Op.Con (n_ConOp.Colon a)) ss e = refl
op_right (n_Op.Con (n_ConOp.Quoted a n b)) ss e = refl

pub op_is_no_con : (a : Span) (o : Op) (ss : List Sym) → is_close (kind ss) ≡ false → con_next (at k.Open a ∷ (op_flat o ++ ss)) ≡ false
unfolding con_next
op_is_no_con a (n_Op.Var (n_VarOp.Symbol n)) ss e = refl
op_is_no_con a (n_Op.Var (n_VarOp.Quoted b n c)) ss e = refl
op_is_no_con a (n_Op.Con (n_ConOp.Symbol n)) ss e = e
op_is_no_con a (n_Op.Con (n_ConOp.Colon b)) ss e = refl
op_is_no_con a (n_Op.Con (n_ConOp.Quoted b n c)) ss e = refl

pub op_is_no_var : (a : Span) (o : Op) (ss : List Sym) → is_close (kind ss) ≡ false → any_var_next (at k.Open a ∷ (op_flat o ++ ss)) ≡ false
unfolding any_var_next
op_is_no_var a (n_Op.Var (n_VarOp.Symbol n)) ss e = e
op_is_no_var a (n_Op.Var (n_VarOp.Quoted b n c)) ss e = refl
op_is_no_var a (n_Op.Con (n_ConOp.Symbol n)) ss e = refl
op_is_no_var a (n_Op.Con (n_ConOp.Colon b)) ss e = refl
op_is_no_var a (n_Op.Con (n_ConOp.Quoted b n c)) ss e = refl

pub op_goes_on : (o : Op) (ss : List Sym) → is_close (kind ss) ≡ false → goes_on (op_flat o ++ ss) ≡ true
unfolding goes_on behind_op
op_goes_on (n_Op.Var (n_VarOp.Symbol n)) ss e = ap not e
op_goes_on (n_Op.Var (n_VarOp.Quoted a n b)) ss e = ap not e
op_goes_on (n_Op.Con (n_ConOp.Symbol n)) ss e = ap not e
op_goes_on (n_Op.Con (n_ConOp.Colon a)) ss e = ap not e
op_goes_on (n_Op.Con (n_ConOp.Quoted a n b)) ss e = ap not e

pub op_ends_operand : (o : Op) (ss : List Sym) → begins_aexp (op_flat o ++ ss) ≡ false
op_ends_operand (n_Op.Var (n_VarOp.Symbol n)) ss = refl
op_ends_operand (n_Op.Var (n_VarOp.Quoted a n b)) ss = refl
op_ends_operand (n_Op.Con (n_ConOp.Symbol n)) ss = refl
op_ends_operand (n_Op.Con (n_ConOp.Colon a)) ss = refl
op_ends_operand (n_Op.Con (n_ConOp.Quoted a n b)) ss = refl

minus_operand_no_close : (m : Option Span) (ss : List Sym) → begins_operand ss ≡ true → is_close (kind (minus_flat m ++ ss)) ≡ false
minus_operand_no_close None ss e = operand_no_close ss e
minus_operand_no_close (Some a) ss e = refl

pub next_operand_starts : (x : NextOperand) (rest : List Sym) → goes_on ((printed.next_operand x).flat ++ rest) ≡ true
next_operand_starts x rest =
    let y = out-NextOperand x in
    let inside = (printed.operand y.operand).flat in
    ap (λ (p : Print). goes_on (p.flat ++ rest)) (next_operand_at x)
    ∙ ap goes_on (append_assoc (op_flat y.op) (minus_flat y.minus ++ inside) rest ∙ ap (λ us. op_flat y.op ++ us) (append_assoc (minus_flat y.minus) inside rest))
    ∙ op_goes_on y.op _ (minus_operand_no_close y.minus (inside ++ rest) (operand_starts y.operand rest))

pub part_starts : (x : Part) (rest : List Sym) → comma_next ((printed.part x).flat ++ rest) ≡ true
part_starts x rest = ap (λ (p : Print). comma_next (p.flat ++ rest)) (part_at x)
