-- What operands and left sides begin with, and what can stand behind them.
use Rattle.std.proofs.Common.{◌≡◌, true, false, not, ◌&&◌, List, [], ◌∷◌, ◌++◌, map, Option, Some, None, refl, sym, ap, ◌∙◌, append_assoc, append-nil}
use Rattle.gh_base.specs.declared.names.NameId.{NameId}
use Rattle.gh_base.specs.declared.place.Span.{Span}
use Rattle.gh_tree.specs.declared.symbol.Kind.{Kind}
use Rattle.gh_tree.specs.declared.symbol.Kind.TheVariants as k
use Rattle.gh_tree.specs.declared.symbol.Sym.{Sym}
use Rattle.gh_tree.specs.declared.names.Var.{Var}
use Rattle.gh_tree.specs.declared.names.Var.TheVariants as n_Var
use Rattle.gh_tree.specs.declared.names.VarOp.{VarOp}
use Rattle.gh_tree.specs.declared.names.VarOp.TheVariants as n_VarOp
use Rattle.gh_tree.specs.declared.patterns.ArgPattern.{ArgPattern}
use Rattle.gh_tree.specs.declared.patterns.NextPattern.{NextPattern, out-NextPattern}
use Rattle.gh_tree.specs.declared.patterns.PatOperand.{PatOperand}
use Rattle.gh_tree.specs.declared.patterns.Pattern.{Pattern, roll-Pattern}
use Rattle.gh_tree.specs.Syms.{at, cover}
use Rattle.gh_tree.specs.Print.{Print, flat_all, good_all, is_none, plain_var}
use Rattle.gh_tree.specs.Print as printed
use Rattle.gh_tree.specs.Read.{kind, after, is_close, is_close_list, is_comma, comma_next}
use Rattle.gh_tree.specs.ReadNames.{gen_con_next, closes_con, is_plain_sym, var_next, con_op_next, con_op_next_by}
use Rattle.gh_tree.specs.ReadPatterns.{begins_arg, begins_arg_by, is_at, at_next, ends_arg, ends_operand, ends_pattern}
use Rattle.gh_tree.proofs.Steps.{both, and_is, same_span_refl}
use Rattle.gh_tree.proofs.CompleteNames.{con_op_looks}
use Rattle.gh_tree.proofs.CompletePatterns.{arg_starts, pattern_starts}
use Rattle.gh_tree.proofs.Printed.{printed_pattern}
use Rattle.gh_parse_lefts.specs.Lefts.{begins_left, begins_left_by, begins_rhs, begins_rhs_by, follows_var}
use Rattle.gh_parse_lefts.proofs.Shapes.{next_at}

-- ---- what each begins with

arg_begins_by : (first second : Option Kind) → begins_arg_by first ≡ true → begins_left_by first second ≡ true
arg_begins_by (Some (k.VarId None n)) second e = refl
arg_begins_by (Some (k.ConId q n)) second e = refl
arg_begins_by (Some (k.Int n)) second e = refl
arg_begins_by (Some (k.Char n)) second e = refl
arg_begins_by (Some (k.Str n)) second e = refl
arg_begins_by (Some k.Underscore) second e = refl
arg_begins_by (Some k.Open) second e = refl
arg_begins_by (Some k.OpenList) second e = refl
arg_begins_by _ second e = absurd (cc)

pub arg_begins : (ss : List Sym) → begins_arg ss ≡ true → begins_left ss ≡ true
arg_begins ss e = arg_begins_by (kind ss) (kind (after ss)) e

word_starts : (q : Option NameId) (n : NameId) → is_none q ≡ true → begins_arg_by (Some (k.VarId q n)) ≡ true
word_starts None n e = refl
word_starts (Some m) n e = absurd (cc)

pub var_starts : (v : Var) (rest : List Sym) → plain_var v ≡ true → begins_arg (printed.var v ++ rest) ≡ true
var_starts (n_Var.Word n) rest good = word_starts n.qualifier n.id good
var_starts (n_Var.Symbol a n b) rest good = refl

-- an operand is a pattern too
pub operand_starts : (x : PatOperand) (rest : List Sym) → (printed.pat_operand x).good ≡ true → begins_left ((printed.pat_operand x).flat ++ rest) ≡ true
operand_starts x rest good =
    let flat : List Sym = (printed.pat_operand x).flat ++ [] in
    let p : Pattern = roll-Pattern (record { span = cover flat; first = x; others = [] }) in
    let e = printed_pattern (cover flat) x [] in
    let g : (printed.pattern p).good ≡ true = ap (λ (q : Print). q.good) e ∙ and_is (and_is good refl) (same_span_refl (cover flat)) in
    ap (λ us. begins_left (us ++ rest)) (sym (append-nil (printed.pat_operand x).flat))
    ∙ ap (λ (q : Print). begins_left (q.flat ++ rest)) (sym e)
    ∙ pattern_starts p rest g

pub next_starts : (x : NextPattern) (rest : List Sym) → (printed.next_pattern x).good ≡ true → con_op_next ((printed.next_pattern x).flat ++ rest) ≡ true
next_starts x rest good =
    ap (λ (p : Print). con_op_next (p.flat ++ rest)) (next_at x)
    ∙ ap con_op_next (append_assoc (printed.con_op (out-NextPattern x).op) (printed.pat_operand (out-NextPattern x).operand).flat rest)
    ∙ con_op_looks (out-NextPattern x).op _

-- ---- what `(` and `[` before a left side or a pattern are not

no_con_by : (first second : Option Kind) → begins_left_by first second ≡ true → (closes_con first ≡ false) × ((is_plain_sym first && is_close second) ≡ false) × (is_close_list first ≡ false)
no_con_by (Some (k.VarSym None n)) (Some (k.Int i)) e = (refl, refl, refl)
no_con_by (Some (k.VarId None n)) second e = (refl, refl, refl)
no_con_by (Some (k.ConId q n)) second e = (refl, refl, refl)
no_con_by (Some (k.Int n)) second e = (refl, refl, refl)
no_con_by (Some (k.Char n)) second e = (refl, refl, refl)
no_con_by (Some (k.Str n)) second e = (refl, refl, refl)
no_con_by (Some k.Underscore) second e = (refl, refl, refl)
no_con_by (Some k.Open) second e = (refl, refl, refl)
no_con_by (Some k.OpenList) second e = (refl, refl, refl)
no_con_by _ second e = absurd (cc)

pub open_is_no_con : (a : Span) (ss : List Sym) → begins_left ss ≡ true → gen_con_next (at k.Open a ∷ ss) ≡ false
unfolding gen_con_next
open_is_no_con a ss e = (no_con_by (kind ss) (kind (after ss)) e).0

pub open_is_no_var : (a : Span) (ss : List Sym) → begins_left ss ≡ true → var_next (at k.Open a ∷ ss) ≡ false
unfolding var_next
open_is_no_var a ss e = (no_con_by (kind ss) (kind (after ss)) e).1

pub list_is_no_con : (a : Span) (ss : List Sym) → begins_left ss ≡ true → gen_con_next (at k.OpenList a ∷ ss) ≡ false
unfolding gen_con_next
list_is_no_con a ss e = (no_con_by (kind ss) (kind (after ss)) e).2

-- ---- what can stand behind each

arg_is_no_at_by : (k : Option Kind) → begins_arg_by k ≡ true → is_at k ≡ false
arg_is_no_at_by (Some (k.VarId None n)) e = refl
arg_is_no_at_by (Some (k.ConId q n)) e = refl
arg_is_no_at_by (Some (k.Int n)) e = refl
arg_is_no_at_by (Some (k.Char n)) e = refl
arg_is_no_at_by (Some (k.Str n)) e = refl
arg_is_no_at_by (Some k.Underscore) e = refl
arg_is_no_at_by (Some k.Open) e = refl
arg_is_no_at_by (Some k.OpenList) e = refl
arg_is_no_at_by _ e = absurd (cc)

pub arg_is_no_at : (ss : List Sym) → begins_arg ss ≡ true → at_next ss ≡ false
arg_is_no_at ss e = arg_is_no_at_by (kind ss) e

pub arg_ends_arg : (ss : List Sym) → begins_arg ss ≡ true → ends_arg ss ≡ true
arg_ends_arg ss e = ap not (arg_is_no_at ss e)

op_ends_by : (k second : Option Kind) → con_op_next_by k second ≡ true → (is_at k ≡ false) × (begins_arg_by k ≡ false)
op_ends_by (Some (k.ConSym q n)) second e = (refl, refl)
op_ends_by (Some k.Colon) second e = (refl, refl)
op_ends_by (Some k.Backquote) second e = (refl, refl)
op_ends_by _ second e = absurd (cc)

op_ends_operand : (ss : List Sym) → con_op_next ss ≡ true → ends_operand ss ≡ true
unfolding con_op_next
op_ends_operand ss e =
    let h = op_ends_by (kind ss) (kind (after ss)) e in
    and_is (ap not h.0) (ap not h.1)

comma_ends_by : (k second : Option Kind) → is_comma k ≡ true → (is_at k ≡ false) × (begins_arg_by k ≡ false) × (con_op_next_by k second ≡ false)
comma_ends_by (Some k.Comma) second e = (refl, refl, refl)
comma_ends_by _ second e = absurd (cc)

pub comma_ends_pattern : (ss : List Sym) → comma_next ss ≡ true → ends_pattern ss ≡ true
unfolding con_op_next
comma_ends_pattern ss e =
    let h = comma_ends_by (kind ss) (kind (after ss)) e in
    and_is (and_is (ap not h.0) (ap not h.1)) (ap not h.2)

pub args_start : (x : ArgPattern) (xs : List ArgPattern) (rest : List Sym) → good_all (map printed.arg_pattern (x ∷ xs)) ≡ true → begins_arg (flat_all (map printed.arg_pattern (x ∷ xs)) ++ rest) ≡ true
args_start x xs rest good =
    ap begins_arg (append_assoc (printed.arg_pattern x).flat (flat_all (map printed.arg_pattern xs)) rest)
    ∙ arg_starts x (flat_all (map printed.arg_pattern xs) ++ rest) (both (printed.arg_pattern x).good (good_all (map printed.arg_pattern xs)) good).0

pub args_end_arg : (xs : List ArgPattern) (rest : List Sym) → good_all (map printed.arg_pattern xs) ≡ true → ends_arg rest ≡ true → ends_arg (flat_all (map printed.arg_pattern xs) ++ rest) ≡ true
args_end_arg [] rest good ends = ends
args_end_arg (x ∷ xs) rest good ends = arg_ends_arg _ (args_start x xs rest good)

pub nexts_start : (x : NextPattern) (xs : List NextPattern) (rest : List Sym) → good_all (map printed.next_pattern (x ∷ xs)) ≡ true → con_op_next (flat_all (map printed.next_pattern (x ∷ xs)) ++ rest) ≡ true
nexts_start x xs rest good =
    ap con_op_next (append_assoc (printed.next_pattern x).flat (flat_all (map printed.next_pattern xs)) rest)
    ∙ next_starts x (flat_all (map printed.next_pattern xs) ++ rest) (both (printed.next_pattern x).good (good_all (map printed.next_pattern xs)) good).0

pub nexts_end_operand : (xs : List NextPattern) (rest : List Sym) → good_all (map printed.next_pattern xs) ≡ true → ends_operand rest ≡ true → ends_operand (flat_all (map printed.next_pattern xs) ++ rest) ≡ true
nexts_end_operand [] rest good ends = ends
nexts_end_operand (x ∷ xs) rest good ends = op_ends_operand _ (nexts_start x xs rest good)

-- ---- what stands behind the variable that a left side begins with

pub arg_follows : (k : Option Kind) → begins_arg_by k ≡ true → follows_var k ≡ true
arg_follows (Some (k.VarId None n)) e = refl
arg_follows (Some (k.ConId q n)) e = refl
arg_follows (Some (k.Int n)) e = refl
arg_follows (Some (k.Char n)) e = refl
arg_follows (Some (k.Str n)) e = refl
arg_follows (Some k.Underscore) e = refl
arg_follows (Some k.Open) e = refl
arg_follows (Some k.OpenList) e = refl
arg_follows _ e = absurd (cc)

op_follows_by : (k second : Option Kind) → con_op_next_by k second ≡ true → follows_var k ≡ true
op_follows_by (Some (k.ConSym q n)) second e = refl
op_follows_by (Some k.Colon) second e = refl
op_follows_by (Some k.Backquote) second e = refl
op_follows_by _ second e = absurd (cc)

op_follows : (ss : List Sym) → con_op_next ss ≡ true → follows_var (kind ss) ≡ true
unfolding con_op_next
op_follows ss e = op_follows_by (kind ss) (kind (after ss)) e

rhs_follows_by : (k : Option Kind) → begins_rhs_by k ≡ true → follows_var k ≡ true
rhs_follows_by (Some k.Equals) e = refl
rhs_follows_by (Some k.Bar) e = refl
rhs_follows_by _ e = absurd (cc)

pub rhs_follows : (ss : List Sym) → begins_rhs ss ≡ true → follows_var (kind ss) ≡ true
rhs_follows ss e = rhs_follows_by (kind ss) e

pub var_op_follows : (o : VarOp) (rest : List Sym) → follows_var (kind (printed.var_op o ++ rest)) ≡ true
var_op_follows (n_VarOp.Symbol n) rest = refl
var_op_follows (n_VarOp.Quoted a n b) rest = refl

pub nexts_follow : (xs : List NextPattern) (rest : List Sym) → good_all (map printed.next_pattern xs) ≡ true → follows_var (kind rest) ≡ true → follows_var (kind (flat_all (map printed.next_pattern xs) ++ rest)) ≡ true
nexts_follow [] rest good e = e
nexts_follow (x ∷ xs) rest good e = op_follows _ (nexts_start x xs rest good)

pub args_follow : (xs : List ArgPattern) (rest : List Sym) → good_all (map printed.arg_pattern xs) ≡ true → follows_var (kind rest) ≡ true → follows_var (kind (flat_all (map printed.arg_pattern xs) ++ rest)) ≡ true
args_follow [] rest good e = e
args_follow (x ∷ xs) rest good e = arg_follows _ (args_start x xs rest good)
