-- What is printed of an operator, a variable or a constructor is read, whatever follows.
use Rattle.std.proofs.Common.{◌≡◌, true, false, cond, List, [], ◌∷◌, ◌++◌, length, map, Option, Some, None, refl, ap, arith, eq-eqb}
use Rattle.gh_base.specs.declared.fixed.TheConstants.{MINUS}
use Rattle.gh_base.specs.declared.place.Span.{Span}
use Rattle.gh_tree.specs.declared.symbol.Sym.{Sym}
use Rattle.gh_tree.specs.declared.names.Var.{Var}
use Rattle.gh_tree.specs.declared.names.Var.TheVariants as n_Var
use Rattle.gh_tree.specs.declared.names.Con.TheVariants as n_Con
use Rattle.gh_tree.specs.declared.names.GenCon.{GenCon}
use Rattle.gh_tree.specs.declared.names.GenCon.TheVariants as n_GenCon
use Rattle.gh_tree.specs.declared.names.NextVar.{NextVar}
use Rattle.gh_tree.specs.declared.names.NextOp.{NextOp}
use Rattle.gh_tree.specs.declared.names.Op.{Op}
use Rattle.gh_tree.specs.declared.names.Op.TheVariants as n_Op
use Rattle.gh_tree.specs.declared.names.VarOp.TheVariants as n_VarOp
use Rattle.gh_tree.specs.declared.names.ConOp.TheVariants as n_ConOp
use Rattle.gh_tree.specs.Print.{flat_all, good_all, op_flat, plain_op, minus_flat}
use Rattle.gh_tree.specs.Print as printed
use Rattle.gh_tree.specs.Read.{taken, kind, bytes, after, comma_next}
use Rattle.gh_tree.specs.ReadExports.{any_var, symbol_any, sym_name}
use Rattle.gh_tree.proofs.Steps.{chain}
use Rattle.gh_tree.proofs.Many.{items_complete}
use Rattle.gh_tree.proofs.CompleteNames.{var_complete}
use Rattle.gh_parse_exps.specs.Ops.{con_next, any_var_next, behind_var, op, quoted, defined_op, minus_sign}
use Rattle.gh_parse_exps.specs.Decls.{next_op, next_ops, next_var, next_vars}
use Rattle.gh_parse_exps.proofs.Starts.{begins_operand, operand_no_minus}

pub op_complete : (o : Op) (rest : List Sym) → op (op_flat o ++ rest) ≡ taken o rest
unfolding op quoted
op_complete (n_Op.Var (n_VarOp.Symbol n)) rest = refl
op_complete (n_Op.Var (n_VarOp.Quoted a n b)) rest = refl
op_complete (n_Op.Con (n_ConOp.Symbol n)) rest = refl
op_complete (n_Op.Con (n_ConOp.Colon a)) rest = refl
op_complete (n_Op.Con (n_ConOp.Quoted a n b)) rest = refl

pub defined_op_complete : (o : Op) (rest : List Sym) → plain_op o ≡ true → defined_op (op_flat o ++ rest) ≡ taken o rest
unfolding defined_op
defined_op_complete o rest good = chain _ (op_complete o rest) (ap (λ b. cond b (taken o rest) None) good)

pub minus_complete : (m : Option Span) (ss : List Sym) → begins_operand ss ≡ true → minus_sign (minus_flat m ++ ss) ≡ taken m ss
unfolding minus_sign
minus_complete None ss e = ap (λ b. cond b (taken (Some (bytes ss)) (after ss)) (taken None ss)) (operand_no_minus ss e)
minus_complete (Some a) ss e = ap (λ b. cond b (taken (Some a) ss) (taken None (minus_flat (Some a) ++ ss))) (eq-eqb MINUS.0 MINUS.0 refl)

pub any_var_complete : (v : Var) (rest : List Sym) → any_var (printed.var v ++ rest) ≡ taken v rest
unfolding any_var symbol_any sym_name
any_var_complete (n_Var.Word n) rest = refl
any_var_complete (n_Var.Symbol a n b) rest = refl

pub any_var_looks : (v : Var) (rest : List Sym) → any_var_next (printed.var v ++ rest) ≡ true
unfolding any_var_next
any_var_looks (n_Var.Word n) rest = refl
any_var_looks (n_Var.Symbol a n b) rest = refl

pub var_is_no_con : (v : Var) (rest : List Sym) → con_next (printed.var v ++ rest) ≡ false
unfolding con_next
var_is_no_con (n_Var.Word n) rest = refl
var_is_no_con (n_Var.Symbol a n b) rest = refl

pub var_behind : (v : Var) (rest : List Sym) → behind_var (printed.var v ++ rest) ≡ kind rest
unfolding behind_var
var_behind (n_Var.Word n) rest = refl
var_behind (n_Var.Symbol a n b) rest = refl

pub con_looks : (c : GenCon) (rest : List Sym) → (printed.gen_con c).good ≡ true → con_next ((printed.gen_con c).flat ++ rest) ≡ true
unfolding con_next
con_looks (n_GenCon.Con (n_Con.Word n)) rest good = refl
con_looks (n_GenCon.Con (n_Con.Symbol a n b)) rest good = refl
con_looks (n_GenCon.Unit s a b) rest good = refl
con_looks (n_GenCon.Nil s a b) rest good = refl
con_looks (n_GenCon.Tuple s a [] b) rest good = absurd (cc)
con_looks (n_GenCon.Tuple s a (c ∷ cs) b) rest good = refl

-- ---- names and operators behind commas

next_var_complete : (x : NextVar) (rest : List Sym) → (printed.next_var x).good ≡ true → next_var ((printed.next_var x).flat ++ rest) ≡ taken x rest
unfolding next_var
next_var_complete x rest good = chain _ (var_complete x.var rest good) refl

pub next_vars_complete : (xs : List NextVar) (rest : List Sym) → good_all (map printed.next_var xs) ≡ true → comma_next rest ≡ false → next_vars (flat_all (map printed.next_var xs) ++ rest) ≡ taken xs rest
unfolding next_vars
next_vars_complete xs rest good ends =
    items_complete printed.next_var comma_next next_var refl (λ ss. true) (length (flat_all (map printed.next_var xs))) (λ x rest g. refl)
    (λ x rest g f e. next_var_complete x rest g) (λ ss e. refl) xs rest good (omega arith) refl ends

next_op_complete : (x : NextOp) (rest : List Sym) → (printed.next_op x).good ≡ true → next_op ((printed.next_op x).flat ++ rest) ≡ taken x rest
unfolding next_op
next_op_complete x rest good = chain _ (defined_op_complete x.op rest good) refl

pub next_ops_complete : (xs : List NextOp) (rest : List Sym) → good_all (map printed.next_op xs) ≡ true → comma_next rest ≡ false → next_ops (flat_all (map printed.next_op xs) ++ rest) ≡ taken xs rest
unfolding next_ops
next_ops_complete xs rest good ends =
    items_complete printed.next_op comma_next next_op refl (λ ss. true) (length (flat_all (map printed.next_op xs))) (λ x rest g. refl)
    (λ x rest g f e. next_op_complete x rest g) (λ ss e. refl) xs rest good (omega arith) refl ends
