-- What is printed of a well-formed pattern is read, whatever follows that does not go on with it. So a list of tokens has one pattern.
use Rattle.std.proofs.Common.{◌≡◌, ℕ, zero, suc, ◌≤◌, Bool, true, false, not, ◌&&◌, cond, List, [], ◌∷◌, ◌++◌, length, map, Option, Some, None, refl, sym, ap, ◌∙◌, subst, append_assoc, arith, length-append, nat_lt, eq-eqb}
use Rattle.std.proofs.lemmas.List.{length-map}
use Rattle.gh_base.specs.declared.fixed.TheConstants.{MINUS}
use Rattle.gh_base.specs.declared.names.NameId.{NameId}
use Rattle.gh_base.specs.declared.place.Span.{Span}
use Rattle.gh_tree.specs.declared.symbol.Kind.{Kind}
use Rattle.gh_tree.specs.declared.symbol.Kind.TheVariants as k
use Rattle.gh_tree.specs.declared.symbol.Sym.{Sym}
use Rattle.gh_tree.specs.declared.names.Var.{Var}
use Rattle.gh_tree.specs.declared.names.Var.TheVariants as n_Var
use Rattle.gh_tree.specs.declared.names.Con.TheVariants as n_Con
use Rattle.gh_tree.specs.declared.names.GenCon.{GenCon}
use Rattle.gh_tree.specs.declared.names.GenCon.TheVariants as n_GenCon
use Rattle.gh_tree.specs.declared.patterns.ArgPattern.{ArgPattern, roll-ArgPattern, out-ArgPattern, roll-out-ArgPattern}
use Rattle.gh_tree.specs.declared.patterns.ArgPattern.TheVariants as v_ArgPattern
use Rattle.gh_tree.specs.declared.patterns.ArgPattern.TheOpen.{ArgPattern-F, PatOperand-F}
use Rattle.gh_tree.specs.declared.patterns.PatOperand.{PatOperand, roll-PatOperand, out-PatOperand, roll-out-PatOperand}
use Rattle.gh_tree.specs.declared.patterns.PatOperand.TheVariants as v_PatOperand
use Rattle.gh_tree.specs.declared.patterns.NextPattern.{NextPattern, out-NextPattern, roll-out-NextPattern}
use Rattle.gh_tree.specs.declared.patterns.PatPart.{PatPart, out-PatPart, roll-out-PatPart}
use Rattle.gh_tree.specs.declared.patterns.Pattern.{Pattern, roll-Pattern, out-Pattern, roll-out-Pattern}
use Rattle.gh_tree.specs.Syms.{at}
use Rattle.gh_tree.specs.Print.{Print, print, spanned, flat_all, good_all, is_tuple, is_some, is_none, plain_var}
use Rattle.gh_tree.specs.Print as printed
use Rattle.gh_tree.specs.Read.{Read, and_then, taken, kind, after, covered, is_close, is_close_list, is_comma, comma_next}
use Rattle.gh_tree.specs.ReadNames.{gen_con_next, closes_con, is_plain_sym, gen_con, var_next, var, con_op_next, con_op_next_by}
use Rattle.gh_tree.specs.ReadPatterns.{begins_arg, begins_arg_by, is_at, at_next, paren, negative, args, applied_con, after_con, con_operand, signed, other_operand_by, other_operand, operand, next_pattern, next_patterns, pattern, pat_part, pat_parts, enclosed, behind_by, behind, opened, listed, as_end, after_var_by, after_var, other_arg, var_arg, whole_arg, arg, ends_arg, ends_operand, ends_pattern}
use Rattle.gh_tree.proofs.Steps.{chain, both, and_is, not_is, spanned_span, some_is}
use Rattle.gh_tree.proofs.Many.{some_token, items_complete, Complete, CompleteAll}
use Rattle.gh_tree.proofs.CompleteNames.{var_complete, var_looks, var_is_no_con, gen_con_looks, gen_con_complete, con_op_looks, con_op_complete}
use Rattle.gh_tree.proofs.Printed.{printed_arg_pattern_var, printed_arg_pattern_as, printed_arg_pattern_wild, printed_arg_pattern_con, printed_arg_pattern_int, printed_arg_pattern_char, printed_arg_pattern_str, printed_arg_pattern_paren, printed_arg_pattern_tuple, printed_arg_pattern_list, printed_pat_operand_negative, printed_pat_operand_arg, printed_pat_operand_con, printed_next_pattern, printed_pat_part, printed_pattern}

abbrev pub Layer : Type 0
Layer = ArgPattern-F ArgPattern PatOperand NextPattern PatPart Pattern

abbrev pub OperandLayer : Type 0
OperandLayer = PatOperand-F ArgPattern PatOperand NextPattern PatPart Pattern

-- one level of a pattern that may be an argument, and of an operand
unfoldable pub layer : Layer → Print
layer (ArgPattern-F.Var x0) = record { flat = printed.var x0; good = plain_var x0; is_open = false; is_var = true; is_parted = false }
layer (ArgPattern-F.As x0 x1 x2 x3) = spanned x0 (printed.var x1 ++ (at k.At x2 ∷ (printed.arg_pattern x3).flat)) (plain_var x1 && (printed.arg_pattern x3).good)
layer (ArgPattern-F.Wild x0) = print (at k.Underscore x0 ∷ []) true
layer (ArgPattern-F.ArgPattern::Con x0) = printed.gen_con x0
layer (ArgPattern-F.Int x0 x1) = print (at (k.Int x1) x0 ∷ []) true
layer (ArgPattern-F.Char x0 x1) = print (at (k.Char x1) x0 ∷ []) true
layer (ArgPattern-F.Str x0 x1) = print (at (k.Str x1) x0 ∷ []) true
layer (ArgPattern-F.Paren x0 x1 x2 x3) = spanned x0 (at k.Open x1 ∷ ((printed.pattern x2).flat ++ at k.Close x3 ∷ [])) (printed.pattern x2).good
layer (ArgPattern-F.Tuple x0 x1 x2 x3 x4) = spanned x0 (at k.Open x1 ∷ ((printed.pattern x2).flat ++ (flat_all (map printed.pat_part x3) ++ at k.Close x4 ∷ []))) ((printed.pattern x2).good && (good_all (map printed.pat_part x3) && is_tuple (map printed.pat_part x3)))
layer (ArgPattern-F.List x0 x1 x2 x3 x4) = spanned x0 (at k.OpenList x1 ∷ ((printed.pattern x2).flat ++ (flat_all (map printed.pat_part x3) ++ at k.CloseList x4 ∷ []))) ((printed.pattern x2).good && good_all (map printed.pat_part x3))

unfoldable pub operand_layer : OperandLayer → Print
operand_layer (PatOperand-F.Negative x0 x1 x2 x3) = spanned x0 (at (k.VarSym None MINUS) x1 ∷ at (k.Int x3) x2 ∷ []) true
operand_layer (PatOperand-F.Arg x0) = printed.arg_pattern x0
operand_layer (PatOperand-F.PatOperand::Con x0 x1 x2 x3) = spanned x0 ((printed.gen_con x1).flat ++ ((printed.arg_pattern x2).flat ++ flat_all (map printed.arg_pattern x3))) ((printed.gen_con x1).good && ((printed.arg_pattern x2).good && good_all (map printed.arg_pattern x3)))

layer_printed : (y : Layer) → printed.arg_pattern (roll-ArgPattern y) ≡ layer y
unfolding layer
layer_printed (ArgPattern-F.Var x0) = ap printed.arg_pattern (v_ArgPattern.rolls-Var x0) ∙ printed_arg_pattern_var x0
layer_printed (ArgPattern-F.As x0 x1 x2 x3) = ap printed.arg_pattern (v_ArgPattern.rolls-As x0 x1 x2 x3) ∙ printed_arg_pattern_as x0 x1 x2 x3
layer_printed (ArgPattern-F.Wild x0) = ap printed.arg_pattern (v_ArgPattern.rolls-Wild x0) ∙ printed_arg_pattern_wild x0
layer_printed (ArgPattern-F.ArgPattern::Con x0) = ap printed.arg_pattern (v_ArgPattern.rolls-Con x0) ∙ printed_arg_pattern_con x0
layer_printed (ArgPattern-F.Int x0 x1) = ap printed.arg_pattern (v_ArgPattern.rolls-Int x0 x1) ∙ printed_arg_pattern_int x0 x1
layer_printed (ArgPattern-F.Char x0 x1) = ap printed.arg_pattern (v_ArgPattern.rolls-Char x0 x1) ∙ printed_arg_pattern_char x0 x1
layer_printed (ArgPattern-F.Str x0 x1) = ap printed.arg_pattern (v_ArgPattern.rolls-Str x0 x1) ∙ printed_arg_pattern_str x0 x1
layer_printed (ArgPattern-F.Paren x0 x1 x2 x3) = ap printed.arg_pattern (v_ArgPattern.rolls-Paren x0 x1 x2 x3) ∙ printed_arg_pattern_paren x0 x1 x2 x3
layer_printed (ArgPattern-F.Tuple x0 x1 x2 x3 x4) = ap printed.arg_pattern (v_ArgPattern.rolls-Tuple x0 x1 x2 x3 x4) ∙ printed_arg_pattern_tuple x0 x1 x2 x3 x4
layer_printed (ArgPattern-F.List x0 x1 x2 x3 x4) = ap printed.arg_pattern (v_ArgPattern.rolls-List x0 x1 x2 x3 x4) ∙ printed_arg_pattern_list x0 x1 x2 x3 x4

operand_printed : (y : OperandLayer) → printed.pat_operand (roll-PatOperand y) ≡ operand_layer y
unfolding operand_layer
operand_printed (PatOperand-F.Negative x0 x1 x2 x3) = ap printed.pat_operand (v_PatOperand.rolls-Negative x0 x1 x2 x3) ∙ printed_pat_operand_negative x0 x1 x2 x3
operand_printed (PatOperand-F.Arg x0) = ap printed.pat_operand (v_PatOperand.rolls-Arg x0) ∙ printed_pat_operand_arg x0
operand_printed (PatOperand-F.PatOperand::Con x0 x1 x2 x3) = ap printed.pat_operand (v_PatOperand.rolls-Con x0 x1 x2 x3) ∙ printed_pat_operand_con x0 x1 x2 x3

arg_at : (x : ArgPattern) → printed.arg_pattern x ≡ layer (out-ArgPattern x)
arg_at x = ap printed.arg_pattern (sym (roll-out-ArgPattern x)) ∙ layer_printed (out-ArgPattern x)

operand_at : (x : PatOperand) → printed.pat_operand x ≡ operand_layer (out-PatOperand x)
operand_at x = ap printed.pat_operand (sym (roll-out-PatOperand x)) ∙ operand_printed (out-PatOperand x)

next_at : (x : NextPattern) → printed.next_pattern x ≡ print (printed.con_op (out-NextPattern x).op ++ (printed.pat_operand (out-NextPattern x).operand).flat) (printed.pat_operand (out-NextPattern x).operand).good
next_at x = ap printed.next_pattern (sym (roll-out-NextPattern x)) ∙ printed_next_pattern (out-NextPattern x).op (out-NextPattern x).operand

part_at : (x : PatPart) → printed.pat_part x ≡ print (at k.Comma (out-PatPart x).mark ∷ (printed.pattern (out-PatPart x).part).flat) (printed.pattern (out-PatPart x).part).good
part_at x = ap printed.pat_part (sym (roll-out-PatPart x)) ∙ printed_pat_part (out-PatPart x).mark (out-PatPart x).part

abbrev pattern_flat : Pattern → List Sym
pattern_flat x = (printed.pat_operand (out-Pattern x).first).flat ++ flat_all (map printed.next_pattern (out-Pattern x).others)

abbrev pattern_good : Pattern → Bool
pattern_good x = (printed.pat_operand (out-Pattern x).first).good && good_all (map printed.next_pattern (out-Pattern x).others)

pattern_is_flat : (x : Pattern) → (printed.pattern x).flat ≡ pattern_flat x
pattern_is_flat x = ap (λ (y : Pattern). (printed.pattern y).flat) (sym (roll-out-Pattern x)) ∙ ap (λ (p : Print). p.flat) (printed_pattern (out-Pattern x).span (out-Pattern x).first (out-Pattern x).others)

pattern_is_good : (x : Pattern) → (printed.pattern x).good ≡ (spanned (out-Pattern x).span (pattern_flat x) (pattern_good x)).good
pattern_is_good x = ap (λ (y : Pattern). (printed.pattern y).good) (sym (roll-out-Pattern x)) ∙ ap (λ (p : Print). p.good) (printed_pattern (out-Pattern x).span (out-Pattern x).first (out-Pattern x).others)

-- ---- what each begins with

abbrev is_int : Option Kind → Bool
is_int (Some (k.Int n)) = true
is_int _ = false

abbrev begins_pattern_by : Option Kind → Option Kind → Bool
begins_pattern_by (Some (k.VarSym None n)) second = is_int second
begins_pattern_by first second = begins_arg_by first

abbrev begins_pattern : List Sym → Bool
begins_pattern ss = begins_pattern_by (kind ss) (kind (after ss))

arg_begins_by : (first second : Option Kind) → begins_arg_by first ≡ true → begins_pattern_by first second ≡ true
arg_begins_by (Some (k.VarId None n)) second e = refl
arg_begins_by (Some (k.ConId q n)) second e = refl
arg_begins_by (Some (k.Int n)) second e = refl
arg_begins_by (Some (k.Char n)) second e = refl
arg_begins_by (Some (k.Str n)) second e = refl
arg_begins_by (Some k.Underscore) second e = refl
arg_begins_by (Some k.Open) second e = refl
arg_begins_by (Some k.OpenList) second e = refl
arg_begins_by _ second e = absurd (cc)

arg_begins : (ss : List Sym) → begins_arg ss ≡ true → begins_pattern ss ≡ true
arg_begins ss e = arg_begins_by (kind ss) (kind (after ss)) e

word_starts : (q : Option NameId) (n : NameId) → is_none q ≡ true → begins_arg_by (Some (k.VarId q n)) ≡ true
word_starts None n e = refl
word_starts (Some m) n e = absurd (cc)

var_starts : (v : Var) (rest : List Sym) → plain_var v ≡ true → begins_arg (printed.var v ++ rest) ≡ true
var_starts (n_Var.Word n) rest good = word_starts n.qualifier n.id good
var_starts (n_Var.Symbol a n b) rest good = refl

con_starts : (c : GenCon) (rest : List Sym) → begins_arg ((printed.gen_con c).flat ++ rest) ≡ true
con_starts (n_GenCon.Con (n_Con.Word n)) rest = refl
con_starts (n_GenCon.Con (n_Con.Symbol a n b)) rest = refl
con_starts (n_GenCon.Unit s a b) rest = refl
con_starts (n_GenCon.Nil s a b) rest = refl
con_starts (n_GenCon.Tuple s a cs b) rest = refl

layer_starts : (y : Layer) (rest : List Sym) → (layer y).good ≡ true → begins_arg ((layer y).flat ++ rest) ≡ true
unfolding layer
layer_starts (ArgPattern-F.Var v) rest good = var_starts v rest good
layer_starts (ArgPattern-F.As s v m x) rest good =
    let h = both (plain_var v && (printed.arg_pattern x).good) _ good in
    ap begins_arg (append_assoc (printed.var v) (at k.At m ∷ (printed.arg_pattern x).flat) rest) ∙ var_starts v _ (both (plain_var v) (printed.arg_pattern x).good h.0).0
layer_starts (ArgPattern-F.Wild x0) rest good = refl
layer_starts (ArgPattern-F.ArgPattern::Con c) rest good = con_starts c rest
layer_starts (ArgPattern-F.Int x0 x1) rest good = refl
layer_starts (ArgPattern-F.Char x0 x1) rest good = refl
layer_starts (ArgPattern-F.Str x0 x1) rest good = refl
layer_starts (ArgPattern-F.Paren x0 x1 x2 x3) rest good = refl
layer_starts (ArgPattern-F.Tuple x0 x1 x2 x3 x4) rest good = refl
layer_starts (ArgPattern-F.List x0 x1 x2 x3 x4) rest good = refl

pub arg_starts : (x : ArgPattern) (rest : List Sym) → (printed.arg_pattern x).good ≡ true → begins_arg ((printed.arg_pattern x).flat ++ rest) ≡ true
arg_starts x rest good =
    ap (λ (p : Print). begins_arg (p.flat ++ rest)) (arg_at x)
    ∙ layer_starts (out-ArgPattern x) rest (sym (ap (λ (p : Print). p.good) (arg_at x)) ∙ good)

operand_layer_starts : (y : OperandLayer) (rest : List Sym) → (operand_layer y).good ≡ true → begins_pattern ((operand_layer y).flat ++ rest) ≡ true
unfolding operand_layer
operand_layer_starts (PatOperand-F.Negative s a b n) rest good = refl
operand_layer_starts (PatOperand-F.Arg x) rest good = arg_begins _ (arg_starts x rest good)
operand_layer_starts (PatOperand-F.PatOperand::Con s c x xs) rest good =
    ap begins_pattern (append_assoc (printed.gen_con c).flat ((printed.arg_pattern x).flat ++ flat_all (map printed.arg_pattern xs)) rest)
    ∙ arg_begins _ (con_starts c (((printed.arg_pattern x).flat ++ flat_all (map printed.arg_pattern xs)) ++ rest))

operand_starts : (x : PatOperand) (rest : List Sym) → (printed.pat_operand x).good ≡ true → begins_pattern ((printed.pat_operand x).flat ++ rest) ≡ true
operand_starts x rest good =
    ap (λ (p : Print). begins_pattern (p.flat ++ rest)) (operand_at x)
    ∙ operand_layer_starts (out-PatOperand x) rest (sym (ap (λ (p : Print). p.good) (operand_at x)) ∙ good)

pub pattern_starts : (x : Pattern) (rest : List Sym) → (printed.pattern x).good ≡ true → begins_pattern ((printed.pattern x).flat ++ rest) ≡ true
pattern_starts x rest good =
    let y = out-Pattern x in
    let g = both (pattern_good x) _ (sym (pattern_is_good x) ∙ good) in
    let gs = both (printed.pat_operand y.first).good (good_all (map printed.next_pattern y.others)) g.0 in
    ap (λ us. begins_pattern (us ++ rest)) (pattern_is_flat x)
    ∙ ap begins_pattern (append_assoc (printed.pat_operand y.first).flat (flat_all (map printed.next_pattern y.others)) rest)
    ∙ operand_starts y.first (flat_all (map printed.next_pattern y.others) ++ rest) gs.0

next_starts : (x : NextPattern) (rest : List Sym) → (printed.next_pattern x).good ≡ true → con_op_next ((printed.next_pattern x).flat ++ rest) ≡ true
next_starts x rest good =
    ap (λ (p : Print). con_op_next (p.flat ++ rest)) (next_at x)
    ∙ ap con_op_next (append_assoc (printed.con_op (out-NextPattern x).op) (printed.pat_operand (out-NextPattern x).operand).flat rest)
    ∙ con_op_looks (out-NextPattern x).op _

part_starts : (x : PatPart) (rest : List Sym) → (printed.pat_part x).good ≡ true → comma_next ((printed.pat_part x).flat ++ rest) ≡ true
part_starts x rest good = ap (λ (p : Print). comma_next (p.flat ++ rest)) (part_at x)

-- ---- what can stand behind a bracket that a pattern begins, and what cannot go on

pattern_is_no_con_by : (first second : Option Kind) → begins_pattern_by first second ≡ true → (closes_con first ≡ false) × ((is_plain_sym first && is_close second) ≡ false) × (is_close_list first ≡ false)
pattern_is_no_con_by (Some (k.VarSym None n)) (Some (k.Int i)) e = (refl, refl, refl)
pattern_is_no_con_by (Some (k.VarId None n)) second e = (refl, refl, refl)
pattern_is_no_con_by (Some (k.ConId q n)) second e = (refl, refl, refl)
pattern_is_no_con_by (Some (k.Int n)) second e = (refl, refl, refl)
pattern_is_no_con_by (Some (k.Char n)) second e = (refl, refl, refl)
pattern_is_no_con_by (Some (k.Str n)) second e = (refl, refl, refl)
pattern_is_no_con_by (Some k.Underscore) second e = (refl, refl, refl)
pattern_is_no_con_by (Some k.Open) second e = (refl, refl, refl)
pattern_is_no_con_by (Some k.OpenList) second e = (refl, refl, refl)
pattern_is_no_con_by _ second e = absurd (cc)

open_is_no_con : (a : Span) (ss : List Sym) → begins_pattern ss ≡ true → gen_con_next (at k.Open a ∷ ss) ≡ false
unfolding gen_con_next
open_is_no_con a ss e = (pattern_is_no_con_by (kind ss) (kind (after ss)) e).0

open_is_no_var : (a : Span) (ss : List Sym) → begins_pattern ss ≡ true → var_next (at k.Open a ∷ ss) ≡ false
unfolding var_next
open_is_no_var a ss e = (pattern_is_no_con_by (kind ss) (kind (after ss)) e).1

list_is_no_con : (a : Span) (ss : List Sym) → begins_pattern ss ≡ true → gen_con_next (at k.OpenList a ∷ ss) ≡ false
unfolding gen_con_next
list_is_no_con a ss e = (pattern_is_no_con_by (kind ss) (kind (after ss)) e).2

arg_ends_arg_by : (k : Option Kind) → begins_arg_by k ≡ true → is_at k ≡ false
arg_ends_arg_by (Some (k.VarId None n)) e = refl
arg_ends_arg_by (Some (k.ConId q n)) e = refl
arg_ends_arg_by (Some (k.Int n)) e = refl
arg_ends_arg_by (Some (k.Char n)) e = refl
arg_ends_arg_by (Some (k.Str n)) e = refl
arg_ends_arg_by (Some k.Underscore) e = refl
arg_ends_arg_by (Some k.Open) e = refl
arg_ends_arg_by (Some k.OpenList) e = refl
arg_ends_arg_by _ e = absurd (cc)

comma_ends_by : (k second : Option Kind) → is_comma k ≡ true → (is_at k ≡ false) × (begins_arg_by k ≡ false) × (con_op_next_by k second ≡ false)
comma_ends_by (Some k.Comma) second e = (refl, refl, refl)
comma_ends_by _ second e = absurd (cc)

op_ends_by : (k second : Option Kind) → con_op_next_by k second ≡ true → (is_at k ≡ false) × (begins_arg_by k ≡ false)
op_ends_by (Some (k.ConSym q n)) second e = (refl, refl)
op_ends_by (Some k.Colon) second e = (refl, refl)
op_ends_by (Some k.Backquote) second e = (refl, refl)
op_ends_by _ second e = absurd (cc)

arg_ends_arg : (ss : List Sym) → begins_arg ss ≡ true → ends_arg ss ≡ true
arg_ends_arg ss e = ap not (arg_ends_arg_by (kind ss) e)

comma_ends_pattern : (ss : List Sym) → comma_next ss ≡ true → ends_pattern ss ≡ true
unfolding con_op_next
comma_ends_pattern ss e =
    let h = comma_ends_by (kind ss) (kind (after ss)) e in
    and_is (and_is (ap not h.0) (ap not h.1)) (ap not h.2)

op_ends_operand : (ss : List Sym) → con_op_next ss ≡ true → ends_operand ss ≡ true
unfolding con_op_next
op_ends_operand ss e =
    let h = op_ends_by (kind ss) (kind (after ss)) e in
    and_is (ap not h.0) (ap not h.1)

-- a tuple goes on with a comma
next_comma : (xs : List PatPart) (rest : List Sym) → is_tuple xs ≡ true → good_all (map printed.pat_part xs) ≡ true → comma_next (flat_all (map printed.pat_part xs) ++ rest) ≡ true
next_comma [] rest e good = absurd (cc)
next_comma (x ∷ xs) rest e good =
    ap comma_next (append_assoc (printed.pat_part x).flat (flat_all (map printed.pat_part xs)) rest)
    ∙ part_starts x (flat_all (map printed.pat_part xs) ++ rest) (both (printed.pat_part x).good (good_all (map printed.pat_part xs)) good).0

-- behind a pattern stand parts, and then a bracket
parts_end_pattern : (xs : List PatPart) (rest : List Sym) → good_all (map printed.pat_part xs) ≡ true → ends_pattern rest ≡ true → ends_pattern (flat_all (map printed.pat_part xs) ++ rest) ≡ true
parts_end_pattern [] rest good ends = ends
parts_end_pattern (x ∷ xs) rest good ends =
    ap ends_pattern (append_assoc (printed.pat_part x).flat (flat_all (map printed.pat_part xs)) rest)
    ∙ comma_ends_pattern _ (part_starts x (flat_all (map printed.pat_part xs) ++ rest) (both (printed.pat_part x).good (good_all (map printed.pat_part xs)) good).0)

nexts_end_operand : (xs : List NextPattern) (rest : List Sym) → good_all (map printed.next_pattern xs) ≡ true → ends_operand rest ≡ true → ends_operand (flat_all (map printed.next_pattern xs) ++ rest) ≡ true
nexts_end_operand [] rest good ends = ends
nexts_end_operand (x ∷ xs) rest good ends =
    ap ends_operand (append_assoc (printed.next_pattern x).flat (flat_all (map printed.next_pattern xs)) rest)
    ∙ op_ends_operand _ (next_starts x (flat_all (map printed.next_pattern xs) ++ rest) (both (printed.next_pattern x).good (good_all (map printed.next_pattern xs)) good).0)

args_end_arg : (xs : List ArgPattern) (rest : List Sym) → good_all (map printed.arg_pattern xs) ≡ true → ends_arg rest ≡ true → ends_arg (flat_all (map printed.arg_pattern xs) ++ rest) ≡ true
args_end_arg [] rest good ends = ends
args_end_arg (x ∷ xs) rest good ends =
    ap ends_arg (append_assoc (printed.arg_pattern x).flat (flat_all (map printed.arg_pattern xs)) rest)
    ∙ arg_ends_arg _ (arg_starts x (flat_all (map printed.arg_pattern xs) ++ rest) (both (printed.arg_pattern x).good (good_all (map printed.arg_pattern xs)) good).0)

nothing_next : con_op_next [] ≡ false
unfolding con_op_next
nothing_next = refl

-- whether an argument is a constructor
abbrev is_con : Layer → Bool
is_con (ArgPattern-F.ArgPattern::Con c) = true
is_con _ = false

looks_con : (y : Layer) (rest : List Sym) → (layer y).good ≡ true → gen_con_next ((layer y).flat ++ rest) ≡ is_con y
unfolding layer gen_con_next
looks_con (ArgPattern-F.Var v) rest good = var_is_no_con v rest
looks_con (ArgPattern-F.As s v m x) rest good = ap gen_con_next (append_assoc (printed.var v) (at k.At m ∷ (printed.arg_pattern x).flat) rest) ∙ var_is_no_con v _
looks_con (ArgPattern-F.Wild a) rest good = refl
looks_con (ArgPattern-F.ArgPattern::Con c) rest good = gen_con_looks c rest good
looks_con (ArgPattern-F.Int a n) rest good = refl
looks_con (ArgPattern-F.Char a c) rest good = refl
looks_con (ArgPattern-F.Str a cs) rest good = refl
looks_con (ArgPattern-F.Paren s a x b) rest good =
    let g = both (printed.pattern x).good _ good in
    ap (λ us. gen_con_next (at k.Open a ∷ us)) (append_assoc (printed.pattern x).flat (at k.Close b ∷ []) rest) ∙ open_is_no_con a _ (pattern_starts x (at k.Close b ∷ rest) g.0)
looks_con (ArgPattern-F.Tuple s a x xs b) rest good =
    let h = both ((printed.pattern x).good && (good_all (map printed.pat_part xs) && is_tuple (map printed.pat_part xs))) _ good in
    let g = both (printed.pattern x).good (good_all (map printed.pat_part xs) && is_tuple (map printed.pat_part xs)) h.0 in
    ap (λ us. gen_con_next (at k.Open a ∷ us)) (append_assoc (printed.pattern x).flat (flat_all (map printed.pat_part xs) ++ at k.Close b ∷ []) rest) ∙ open_is_no_con a _ (pattern_starts x _ g.0)
looks_con (ArgPattern-F.List s a x xs b) rest good =
    let h = both ((printed.pattern x).good && good_all (map printed.pat_part xs)) _ good in
    let g = both (printed.pattern x).good (good_all (map printed.pat_part xs)) h.0 in
    ap (λ us. gen_con_next (at k.OpenList a ∷ us)) (append_assoc (printed.pattern x).flat (flat_all (map printed.pat_part xs) ++ at k.CloseList b ∷ []) rest) ∙ list_is_no_con a _ (pattern_starts x _ g.0)

module _ (m : ℕ) (A : Read ArgPattern) (complete : Complete printed.arg_pattern ends_arg m A) where
  args_complete : CompleteAll printed.arg_pattern ends_operand m (args A)
  unfolding args
  args_complete xs rest good fits ends =
      let h = both (not (at_next rest)) (not (begins_arg rest)) ends in
      items_complete printed.arg_pattern begins_arg A refl ends_arg m arg_starts complete arg_ends_arg xs rest good fits h.0 (not_is (begins_arg rest) h.1)

  -- an operand that is no constructor and no negative integer
  operand_arg : (ss : List Sym) → gen_con_next ss ≡ false → begins_arg ss ≡ true → operand A ss ≡ and_then (A ss) (λ x rest. taken (v_PatOperand.Arg x) rest)
  unfolding operand other_operand
  operand_arg ss no_con begins = ap (λ b. cond b (con_operand A ss ss) (other_operand A ss)) no_con ∙ at_kind (kind ss) ss begins
    where
      at_kind : (kind : Option Kind) (ss : List Sym) → begins_arg_by kind ≡ true → other_operand_by A kind ss ≡ and_then (A ss) (λ x rest. taken (v_PatOperand.Arg x) rest)
      at_kind (Some (k.VarId None n)) ss e = refl
      at_kind (Some (k.ConId q n)) ss e = refl
      at_kind (Some (k.Int n)) ss e = refl
      at_kind (Some (k.Char n)) ss e = refl
      at_kind (Some (k.Str n)) ss e = refl
      at_kind (Some k.Underscore) ss e = refl
      at_kind (Some k.Open) ss e = refl
      at_kind (Some k.OpenList) ss e = refl
      at_kind _ ss e = absurd (cc)

  operand_con : (ss : List Sym) → gen_con_next ss ≡ true → operand A ss ≡ con_operand A ss ss
  unfolding operand
  operand_con ss is = ap (λ b. cond b (con_operand A ss ss) (other_operand A ss)) is

  alone_complete : (c : GenCon) (rest : List Sym) → (printed.gen_con c).good ≡ true → ends_operand rest ≡ true → operand A ((printed.gen_con c).flat ++ rest) ≡ taken (v_PatOperand.Arg (v_ArgPattern.Con c)) rest
  unfolding con_operand
  alone_complete c rest good ends =
      let h = both (not (at_next rest)) (not (begins_arg rest)) ends in
      let start : List Sym = (printed.gen_con c).flat ++ rest in
      operand_con _ (gen_con_looks c rest good)
      ∙ chain (after_con A start) (gen_con_complete c rest good)
      (ap (λ b. cond b (applied_con A start c rest) (taken (v_PatOperand.Arg (v_ArgPattern.Con c)) rest)) (not_is (begins_arg rest) h.1))

  other_complete : (y : Layer) (rest : List Sym) → is_con y ≡ false → (layer y).good ≡ true → length (layer y).flat ≤ m → ends_operand rest ≡ true
      → operand A ((layer y).flat ++ rest) ≡ taken (v_PatOperand.Arg (roll-ArgPattern y)) rest
  other_complete y rest no_con good fits ends =
      let x = roll-ArgPattern y in
      let e = layer_printed y in
      let g : (printed.arg_pattern x).good ≡ true = ap (λ (p : Print). p.good) e ∙ good in
      let f : length (printed.arg_pattern x).flat ≤ m = subst (λ (p : Print). length p.flat ≤ m) (sym e) fits in
      let read : A ((layer y).flat ++ rest) ≡ taken x rest = ap (λ (p : Print). A (p.flat ++ rest)) (sym e) ∙ complete x rest g f (both (not (at_next rest)) (not (begins_arg rest)) ends).0 in
      operand_arg ((layer y).flat ++ rest) (looks_con y rest good ∙ no_con) (layer_starts y rest good)
      ∙ chain _ read refl

  arg_operand : (y : Layer) (rest : List Sym) → (layer y).good ≡ true → length (layer y).flat ≤ m → ends_operand rest ≡ true
      → operand A ((layer y).flat ++ rest) ≡ taken (v_PatOperand.Arg (roll-ArgPattern y)) rest
  unfolding layer
  arg_operand (ArgPattern-F.ArgPattern::Con c) rest good fits ends = alone_complete c rest good ends ∙ ap (λ (x : ArgPattern). taken (v_PatOperand.Arg x) rest) (sym (v_ArgPattern.rolls-Con c))
  arg_operand (ArgPattern-F.Var v) rest good fits ends = other_complete (ArgPattern-F.Var v) rest refl good fits ends
  arg_operand (ArgPattern-F.As s v a x) rest good fits ends = other_complete (ArgPattern-F.As s v a x) rest refl good fits ends
  arg_operand (ArgPattern-F.Wild a) rest good fits ends = other_complete (ArgPattern-F.Wild a) rest refl good fits ends
  arg_operand (ArgPattern-F.Int a n) rest good fits ends = other_complete (ArgPattern-F.Int a n) rest refl good fits ends
  arg_operand (ArgPattern-F.Char a c) rest good fits ends = other_complete (ArgPattern-F.Char a c) rest refl good fits ends
  arg_operand (ArgPattern-F.Str a cs) rest good fits ends = other_complete (ArgPattern-F.Str a cs) rest refl good fits ends
  arg_operand (ArgPattern-F.Paren s a x b) rest good fits ends = other_complete (ArgPattern-F.Paren s a x b) rest refl good fits ends
  arg_operand (ArgPattern-F.Tuple s a x xs b) rest good fits ends = other_complete (ArgPattern-F.Tuple s a x xs b) rest refl good fits ends
  arg_operand (ArgPattern-F.List s a x xs b) rest good fits ends = other_complete (ArgPattern-F.List s a x xs b) rest refl good fits ends

  negative_complete : (s a b : Span) (n : ℕ) (rest : List Sym) → (operand_layer (PatOperand-F.Negative s a b n)).good ≡ true
      → operand A ((operand_layer (PatOperand-F.Negative s a b n)).flat ++ rest) ≡ taken (v_PatOperand.Negative s a b n) rest
  unfolding operand other_operand signed operand_layer gen_con_next negative
  negative_complete s a b n rest good =
      let flat : List Sym = at (k.VarSym None MINUS) a ∷ at (k.Int n) b ∷ [] in
      ap (λ t. cond t (taken (v_PatOperand.Negative (covered (flat ++ rest) rest) a b n) rest) None) (eq-eqb MINUS.0 MINUS.0 refl)
      ∙ ap (λ z. taken (v_PatOperand.Negative z a b n) rest) (spanned_span s rest flat true good)

  applied_complete : (s : Span) (c : GenCon) (x : ArgPattern) (xs : List ArgPattern) (rest : List Sym) → (operand_layer (PatOperand-F.PatOperand::Con s c x xs)).good ≡ true
      → length (operand_layer (PatOperand-F.PatOperand::Con s c x xs)).flat ≤ m → ends_operand rest ≡ true
      → operand A ((operand_layer (PatOperand-F.PatOperand::Con s c x xs)).flat ++ rest) ≡ taken (v_PatOperand.Con s c x xs) rest
  unfolding con_operand applied_con operand_layer
  applied_complete s c x xs rest good fits ends =
      let head = (printed.gen_con c).flat in
      let inside = flat_all (map printed.arg_pattern (x ∷ xs)) in
      let flat : List Sym = head ++ inside in
      let all_good : Bool = (printed.gen_con c).good && good_all (map printed.arg_pattern (x ∷ xs)) in
      let h = both all_good _ good in
      let g = both (printed.gen_con c).good (good_all (map printed.arg_pattern (x ∷ xs))) h.0 in
      let size = length-append head inside in
      let start : List Sym = flat ++ rest in
      let one = (printed.arg_pattern x).flat in
      let others = flat_all (map printed.arg_pattern xs) in
      let gs = both (printed.arg_pattern x).good (good_all (map printed.arg_pattern xs)) g.1 in
      let size2 = length-append one others in
      let e = both (not (at_next rest)) (not (begins_arg rest)) ends in
      let split : inside ++ rest ≡ one ++ (others ++ rest) = append_assoc one others rest in
      let begins : begins_arg (inside ++ rest) ≡ true = ap begins_arg split ∙ arg_starts x (others ++ rest) gs.0 in
      operand_con start (ap gen_con_next (append_assoc head inside rest) ∙ gen_con_looks c (inside ++ rest) g.0)
      ∙ chain (after_con A start) (ap gen_con (append_assoc head inside rest) ∙ gen_con_complete c (inside ++ rest) g.0)
      (ap (λ b. cond b (applied_con A start c (inside ++ rest)) (taken (v_PatOperand.Arg (v_ArgPattern.Con c)) (inside ++ rest))) begins
      ∙ ap (applied_con A start c) split
      ∙ chain _ (complete x (others ++ rest) gs.0 (omega (arith, size, size2, fits)) (args_end_arg xs rest gs.1 e.0))
      (chain _ (args_complete xs rest gs.1 (omega (arith, size, size2, fits)) ends)
      (ap (λ z. taken (v_PatOperand.Con z c x xs) rest) (spanned_span s rest flat all_good good))))

  operand_layer_complete : (y : OperandLayer) (rest : List Sym) → (operand_layer y).good ≡ true → length (operand_layer y).flat ≤ m → ends_operand rest ≡ true
      → operand A ((operand_layer y).flat ++ rest) ≡ taken (roll-PatOperand y) rest
  unfolding operand_layer
  operand_layer_complete (PatOperand-F.Negative s a b n) rest good fits ends = negative_complete s a b n rest good ∙ ap (λ (x : PatOperand). taken x rest) (sym (v_PatOperand.rolls-Negative s a b n))
  operand_layer_complete (PatOperand-F.Arg x) rest good fits ends =
      let e = arg_at x in
      ap (λ (p : Print). operand A (p.flat ++ rest)) e
      ∙ arg_operand (out-ArgPattern x) rest (sym (ap (λ (p : Print). p.good) e) ∙ good) (subst (λ (p : Print). length p.flat ≤ m) e fits) ends
      ∙ ap (λ (z : ArgPattern). taken (v_PatOperand.Arg z) rest) (roll-out-ArgPattern x)
      ∙ ap (λ (z : PatOperand). taken z rest) (sym (v_PatOperand.rolls-Arg x))
  operand_layer_complete (PatOperand-F.PatOperand::Con s c x xs) rest good fits ends =
      applied_complete s c x xs rest good fits ends ∙ ap (λ (z : PatOperand). taken z rest) (sym (v_PatOperand.rolls-Con s c x xs))

  pub operand_complete : Complete printed.pat_operand ends_operand m (operand A)
  operand_complete x rest good fits ends =
      let e = operand_at x in
      ap (λ (p : Print). operand A (p.flat ++ rest)) e
      ∙ operand_layer_complete (out-PatOperand x) rest (sym (ap (λ (p : Print). p.good) e) ∙ good) (subst (λ (p : Print). length p.flat ≤ m) e fits) ends
      ∙ ap (λ (z : PatOperand). taken z rest) (roll-out-PatOperand x)

  next_complete : Complete printed.next_pattern ends_operand m (next_pattern A)
  unfolding next_pattern
  next_complete x rest good fits ends =
      let y = out-NextPattern x in
      let e = next_at x in
      let op = printed.con_op y.op in
      let inside = (printed.pat_operand y.operand).flat in
      let g : (printed.pat_operand y.operand).good ≡ true = sym (ap (λ (p : Print). p.good) e) ∙ good in
      let fits' : length (op ++ inside) ≤ m = subst (λ (p : Print). length p.flat ≤ m) e fits in
      let size = length-append op inside in
      ap (λ (p : Print). next_pattern A (p.flat ++ rest)) e
      ∙ ap (next_pattern A) (append_assoc op inside rest)
      ∙ chain _ (con_op_complete y.op (inside ++ rest))
      (chain _ (operand_complete y.operand rest g (omega (arith, size, fits')) ends) (ap (λ (z : NextPattern). taken z rest) (roll-out-NextPattern x)))

  pub nexts_complete : CompleteAll printed.next_pattern ends_pattern m (next_patterns A)
  unfolding next_patterns
  nexts_complete xs rest good fits ends =
      let h = both (ends_operand rest) (not (con_op_next rest)) ends in
      items_complete printed.next_pattern con_op_next (next_pattern A) nothing_next ends_operand m next_starts next_complete op_ends_operand xs rest good fits h.0 (not_is (con_op_next rest) h.1)

  pub pattern_complete : Complete printed.pattern ends_pattern m (pattern A)
  unfolding pattern
  pattern_complete x rest good fits ends =
      let y = out-Pattern x in
      let head = (printed.pat_operand y.first).flat in
      let others = flat_all (map printed.next_pattern y.others) in
      let good' = sym (pattern_is_good x) ∙ good in
      let g = both (pattern_good x) _ good' in
      let gs = both (printed.pat_operand y.first).good (good_all (map printed.next_pattern y.others)) g.0 in
      let fits' : length (head ++ others) ≤ m = subst (λ us. length us ≤ m) (pattern_is_flat x) fits in
      let size = length-append head others in
      let assoc = append_assoc head others rest in
      let h = both (ends_operand rest) (not (con_op_next rest)) ends in
      let span : covered (head ++ (others ++ rest)) rest ≡ y.span = ap (λ us. covered us rest) (sym assoc) ∙ spanned_span y.span rest (head ++ others) (pattern_good x) good' in
      ap (λ us. pattern A (us ++ rest)) (pattern_is_flat x)
      ∙ ap (pattern A) assoc
      ∙ chain _ (operand_complete y.first (others ++ rest) gs.0 (omega (arith, size, fits')) (nexts_end_operand y.others rest gs.1 h.0))
      (chain _ (nexts_complete y.others rest gs.1 (omega (arith, size, fits')) ends)
      (ap (λ (s : Span). taken (roll-Pattern (record { span = s; first = y.first; others = y.others })) rest) span))
      ∙ ap (λ (z : Pattern). taken z rest) (roll-out-Pattern x)

  part_complete : Complete printed.pat_part ends_pattern m (pat_part A)
  unfolding pat_part
  part_complete x rest good fits ends =
      let y = out-PatPart x in
      let e = part_at x in
      let g : (printed.pattern y.part).good ≡ true = sym (ap (λ (p : Print). p.good) e) ∙ good in
      let n : length (printed.pat_part x).flat ≡ suc (length (printed.pattern y.part).flat) = ap (λ (p : Print). length p.flat) e in
      ap (λ (p : Print). pat_part A (p.flat ++ rest)) e
      ∙ chain _ (pattern_complete y.part rest g (omega (arith, n, fits)) ends) (ap (λ (z : PatPart). taken z rest) (roll-out-PatPart x))

  parts_complete : (xs : List PatPart) (rest : List Sym) → good_all (map printed.pat_part xs) ≡ true → length (flat_all (map printed.pat_part xs)) ≤ m → ends_pattern rest ≡ true → comma_next rest ≡ false
      → pat_parts A (flat_all (map printed.pat_part xs) ++ rest) ≡ taken xs rest
  unfolding pat_parts
  parts_complete = items_complete printed.pat_part comma_next (pat_part A) refl ends_pattern m part_starts part_complete comma_ends_pattern

  -- an argument that is no constructor
  whole_var : (ss : List Sym) → gen_con_next ss ≡ false → var_next ss ≡ true → whole_arg A ss ≡ var_arg A ss ss
  unfolding whole_arg
  whole_var ss no_con is =
      ap (λ b. cond b (and_then (gen_con ss) (λ c rest. taken (v_ArgPattern.Con c) rest)) (cond (var_next ss) (var_arg A ss ss) (other_arg A ss ss))) no_con
      ∙ ap (λ b. cond b (var_arg A ss ss) (other_arg A ss ss)) is

  whole_other : (ss : List Sym) → gen_con_next ss ≡ false → var_next ss ≡ false → whole_arg A ss ≡ other_arg A ss ss
  unfolding whole_arg
  whole_other ss no_con is =
      ap (λ b. cond b (and_then (gen_con ss) (λ c rest. taken (v_ArgPattern.Con c) rest)) (cond (var_next ss) (var_arg A ss ss) (other_arg A ss ss))) no_con
      ∙ ap (λ b. cond b (var_arg A ss ss) (other_arg A ss ss)) is

  whole_con : (ss : List Sym) → gen_con_next ss ≡ true → whole_arg A ss ≡ and_then (gen_con ss) (λ c rest. taken (v_ArgPattern.Con c) rest)
  unfolding whole_arg
  whole_con ss is = ap (λ b. cond b (and_then (gen_con ss) (λ c rest. taken (v_ArgPattern.Con c) rest)) (cond (var_next ss) (var_arg A ss ss) (other_arg A ss ss))) is

  after_var_alone : (start : List Sym) (v : Var) (ss : List Sym) → at_next ss ≡ false → after_var A start v ss ≡ taken (v_ArgPattern.Var v) ss
  unfolding after_var
  after_var_alone start v ss e = at_kind (kind ss) e
    where
      at_kind : (kind : Option Kind) → is_at kind ≡ false → after_var_by A kind start v ss ≡ taken (v_ArgPattern.Var v) ss
      at_kind (Some k.At) e = absurd (cc)
      at_kind _ e = refl

  var_alone : (v : Var) (rest : List Sym) → plain_var v ≡ true → ends_arg rest ≡ true → whole_arg A (printed.var v ++ rest) ≡ taken (v_ArgPattern.Var v) rest
  unfolding var_arg
  var_alone v rest good ends =
      whole_var (printed.var v ++ rest) (var_is_no_con v rest) (var_looks v rest good)
      ∙ chain _ (var_complete v rest good) (after_var_alone (printed.var v ++ rest) v rest (not_is (at_next rest) ends))

  as_complete : (s : Span) (v : Var) (a : Span) (x : ArgPattern) (rest : List Sym) → (layer (ArgPattern-F.As s v a x)).good ≡ true → length (layer (ArgPattern-F.As s v a x)).flat ≤ suc m → ends_arg rest ≡ true
      → whole_arg A ((layer (ArgPattern-F.As s v a x)).flat ++ rest) ≡ taken (v_ArgPattern.As s v a x) rest
  unfolding var_arg after_var as_end layer
  as_complete s v a x rest good fits ends =
      let head = printed.var v in
      let inside = (printed.arg_pattern x).flat in
      let flat : List Sym = head ++ (at k.At a ∷ inside) in
      let all_good : Bool = plain_var v && (printed.arg_pattern x).good in
      let h = both all_good _ good in
      let g = both (plain_var v) (printed.arg_pattern x).good h.0 in
      let size = length-append head (at k.At a ∷ inside) in
      let start : List Sym = flat ++ rest in
      let tail : List Sym = at k.At a ∷ (inside ++ rest) in
      let split : start ≡ head ++ tail = append_assoc head (at k.At a ∷ inside) rest in
      whole_var start (ap gen_con_next split ∙ var_is_no_con v tail) (ap var_next split ∙ var_looks v tail g.0)
      ∙ chain _ (ap var split ∙ var_complete v tail g.0)
      (chain _ (complete x rest g.1 (omega (arith, size, fits, var_some v)) ends)
      (ap (λ z. taken (v_ArgPattern.As z v a x) rest) (spanned_span s rest flat all_good good)))
    where
      var_some : (v : Var) → 1 ≤ length (printed.var v)
      var_some (n_Var.Word n) = omega arith
      var_some (n_Var.Symbol a n b) = omega arith

  con_arg_complete : (c : GenCon) (rest : List Sym) → (printed.gen_con c).good ≡ true → whole_arg A ((printed.gen_con c).flat ++ rest) ≡ taken (v_ArgPattern.Con c) rest
  con_arg_complete c rest good = whole_con _ (gen_con_looks c rest good) ∙ chain _ (gen_con_complete c rest good) refl

  wild_complete : (a : Span) (rest : List Sym) → whole_arg A (at k.Underscore a ∷ rest) ≡ taken (v_ArgPattern.Wild a) rest
  unfolding whole_arg other_arg gen_con_next var_next
  wild_complete a rest = refl

  int_complete : (a : Span) (n : ℕ) (rest : List Sym) → whole_arg A (at (k.Int n) a ∷ rest) ≡ taken (v_ArgPattern.Int a n) rest
  unfolding whole_arg other_arg gen_con_next var_next
  int_complete a n rest = refl

  char_complete : (a : Span) (n : ℕ) (rest : List Sym) → whole_arg A (at (k.Char n) a ∷ rest) ≡ taken (v_ArgPattern.Char a n) rest
  unfolding whole_arg other_arg gen_con_next var_next
  char_complete a n rest = refl

  str_complete : (a : Span) (cs : List ℕ) (rest : List Sym) → whole_arg A (at (k.Str cs) a ∷ rest) ≡ taken (v_ArgPattern.Str a cs) rest
  unfolding whole_arg other_arg gen_con_next var_next
  str_complete a cs rest = refl

  behind_comma : (start : List Sym) (a : Span) (first : Pattern) (ss : List Sym) → comma_next ss ≡ true → behind A start a first ss ≡ enclosed A start a first ss
  unfolding behind
  behind_comma start a first ss e = at_kind (kind ss) e
    where
      at_kind : (kind : Option Kind) → is_comma kind ≡ true → behind_by A kind start a first ss ≡ enclosed A start a first ss
      at_kind (Some k.Comma) e = refl
      at_kind _ e = absurd (cc)

  enclosed_all : (start : List Sym) (a : Span) (x : Pattern) (xs : List PatPart) (b : Span) (rest : List Sym) → is_tuple xs ≡ true → good_all (map printed.pat_part xs) ≡ true
      → length (flat_all (map printed.pat_part xs)) ≤ m → enclosed A start a x (flat_all (map printed.pat_part xs) ++ (at k.Close b ∷ rest)) ≡ taken (v_ArgPattern.Tuple (covered start rest) a x xs b) rest
  unfolding enclosed con_op_next
  enclosed_all start a x xs b rest tuple good fits =
      chain _ (parts_complete xs (at k.Close b ∷ rest) good fits refl refl) (ap (λ c. cond c (taken (v_ArgPattern.Tuple (covered start rest) a x xs b) rest) None) tuple)

  opened_other : (a : Span) (ss : List Sym) → begins_pattern ss ≡ true → whole_arg A (at k.Open a ∷ ss) ≡ opened A (at k.Open a ∷ ss) a ss
  unfolding other_arg
  opened_other a ss e = whole_other (at k.Open a ∷ ss) (open_is_no_con a ss e) (open_is_no_var a ss e)

  list_is_no_var : (a : Span) (ss : List Sym) → var_next (at k.OpenList a ∷ ss) ≡ false
  unfolding var_next
  list_is_no_var a ss = refl

  listed_other : (a : Span) (ss : List Sym) → begins_pattern ss ≡ true → whole_arg A (at k.OpenList a ∷ ss) ≡ listed A (at k.OpenList a ∷ ss) a ss
  unfolding other_arg
  listed_other a ss e = whole_other (at k.OpenList a ∷ ss) (list_is_no_con a ss e) (list_is_no_var a ss)

  close_ends : (b : Span) (rest : List Sym) → ends_pattern (at k.Close b ∷ rest) ≡ true
  unfolding con_op_next
  close_ends b rest = refl

  close_list_ends : (b : Span) (rest : List Sym) → ends_pattern (at k.CloseList b ∷ rest) ≡ true
  unfolding con_op_next
  close_list_ends b rest = refl

  paren_complete : (s a : Span) (x : Pattern) (b : Span) (rest : List Sym) → (layer (ArgPattern-F.Paren s a x b)).good ≡ true → length (layer (ArgPattern-F.Paren s a x b)).flat ≤ suc m
      → whole_arg A ((layer (ArgPattern-F.Paren s a x b)).flat ++ rest) ≡ taken (v_ArgPattern.Paren s a x b) rest
  unfolding opened behind paren layer
  paren_complete s a x b rest good fits =
      let inside = (printed.pattern x).flat in
      let flat : List Sym = at k.Open a ∷ (inside ++ at k.Close b ∷ []) in
      let g = both (printed.pattern x).good _ good in
      let size = length-append inside (at k.Close b ∷ []) in
      let tail : List Sym = at k.Close b ∷ rest in
      let split : flat ++ rest ≡ at k.Open a ∷ (inside ++ tail) = ap (λ us. at k.Open a ∷ us) (append_assoc inside (at k.Close b ∷ []) rest) in
      ap (whole_arg A) split
      ∙ opened_other a (inside ++ tail) (pattern_starts x tail g.0)
      ∙ chain (behind A (at k.Open a ∷ (inside ++ tail)) a) (pattern_complete x tail g.0 (omega (arith, size, fits)) (close_ends b rest))
      (ap (λ us. taken (v_ArgPattern.Paren (covered us rest) a x b) rest) (sym split) ∙ ap (λ z. taken (v_ArgPattern.Paren z a x b) rest) (spanned_span s rest flat (printed.pattern x).good good))

  tuple_complete : (s a : Span) (x : Pattern) (xs : List PatPart) (b : Span) (rest : List Sym) → (layer (ArgPattern-F.Tuple s a x xs b)).good ≡ true → length (layer (ArgPattern-F.Tuple s a x xs b)).flat ≤ suc m
      → whole_arg A ((layer (ArgPattern-F.Tuple s a x xs b)).flat ++ rest) ≡ taken (v_ArgPattern.Tuple s a x xs b) rest
  unfolding opened layer
  tuple_complete s a x xs b rest good fits =
      let inside = (printed.pattern x).flat in
      let others = flat_all (map printed.pat_part xs) in
      let flat : List Sym = at k.Open a ∷ (inside ++ (others ++ at k.Close b ∷ [])) in
      let all_good : Bool = (printed.pattern x).good && (good_all (map printed.pat_part xs) && is_tuple (map printed.pat_part xs)) in
      let h = both all_good _ good in
      let g = both (printed.pattern x).good (good_all (map printed.pat_part xs) && is_tuple (map printed.pat_part xs)) h.0 in
      let gs = both (good_all (map printed.pat_part xs)) (is_tuple (map printed.pat_part xs)) g.1 in
      let tuple : is_tuple xs ≡ true = ap (λ n. nat_lt 0 n && nat_lt n 7) (sym (length-map xs printed.pat_part)) ∙ gs.1 in
      let size = length-append inside (others ++ at k.Close b ∷ []) in
      let size2 = length-append others (at k.Close b ∷ []) in
      let tail : List Sym = others ++ (at k.Close b ∷ rest) in
      let comma = next_comma xs (at k.Close b ∷ rest) tuple gs.0 in
      let split : flat ++ rest ≡ at k.Open a ∷ (inside ++ tail) = ap (λ us. at k.Open a ∷ us) (append_assoc inside (others ++ at k.Close b ∷ []) rest ∙ ap (λ us. inside ++ us) (append_assoc others (at k.Close b ∷ []) rest)) in
      let start : List Sym = at k.Open a ∷ (inside ++ tail) in
      ap (whole_arg A) split
      ∙ opened_other a (inside ++ tail) (pattern_starts x tail g.0)
      ∙ chain (behind A start a) (pattern_complete x tail g.0 (omega (arith, size, fits)) (comma_ends_pattern tail comma))
      (behind_comma start a x tail comma ∙ enclosed_all start a x xs b rest tuple gs.0 (omega (arith, size, size2, fits)))
      ∙ ap (λ us. taken (v_ArgPattern.Tuple (covered us rest) a x xs b) rest) (sym split) ∙ ap (λ z. taken (v_ArgPattern.Tuple z a x xs b) rest) (spanned_span s rest flat all_good good)

  list_complete : (s a : Span) (x : Pattern) (xs : List PatPart) (b : Span) (rest : List Sym) → (layer (ArgPattern-F.List s a x xs b)).good ≡ true → length (layer (ArgPattern-F.List s a x xs b)).flat ≤ suc m
      → whole_arg A ((layer (ArgPattern-F.List s a x xs b)).flat ++ rest) ≡ taken (v_ArgPattern.List s a x xs b) rest
  unfolding listed layer
  list_complete s a x xs b rest good fits =
      let inside = (printed.pattern x).flat in
      let others = flat_all (map printed.pat_part xs) in
      let flat : List Sym = at k.OpenList a ∷ (inside ++ (others ++ at k.CloseList b ∷ [])) in
      let all_good : Bool = (printed.pattern x).good && good_all (map printed.pat_part xs) in
      let h = both all_good _ good in
      let g = both (printed.pattern x).good (good_all (map printed.pat_part xs)) h.0 in
      let size = length-append inside (others ++ at k.CloseList b ∷ []) in
      let size2 = length-append others (at k.CloseList b ∷ []) in
      let tail : List Sym = others ++ (at k.CloseList b ∷ rest) in
      let split : flat ++ rest ≡ at k.OpenList a ∷ (inside ++ tail) = ap (λ us. at k.OpenList a ∷ us) (append_assoc inside (others ++ at k.CloseList b ∷ []) rest ∙ ap (λ us. inside ++ us) (append_assoc others (at k.CloseList b ∷ []) rest)) in
      let ends = close_list_ends b rest in
      ap (whole_arg A) split
      ∙ listed_other a (inside ++ tail) (pattern_starts x tail g.0)
      ∙ chain _ (pattern_complete x tail g.0 (omega (arith, size, fits)) (parts_end_pattern xs (at k.CloseList b ∷ rest) g.1 ends))
      (chain _ (parts_complete xs (at k.CloseList b ∷ rest) g.1 (omega (arith, size, size2, fits)) ends refl)
      (ap (λ us. taken (v_ArgPattern.List (covered us rest) a x xs b) rest) (sym split) ∙ ap (λ z. taken (v_ArgPattern.List z a x xs b) rest) (spanned_span s rest flat all_good good)))

  layer_complete : (y : Layer) (rest : List Sym) → (layer y).good ≡ true → length (layer y).flat ≤ suc m → ends_arg rest ≡ true → whole_arg A ((layer y).flat ++ rest) ≡ taken (roll-ArgPattern y) rest
  unfolding layer
  layer_complete (ArgPattern-F.Var v) rest good fits ends = var_alone v rest good ends ∙ ap (λ (x : ArgPattern). taken x rest) (sym (v_ArgPattern.rolls-Var v))
  layer_complete (ArgPattern-F.As s v a x) rest good fits ends = as_complete s v a x rest good fits ends ∙ ap (λ (z : ArgPattern). taken z rest) (sym (v_ArgPattern.rolls-As s v a x))
  layer_complete (ArgPattern-F.Wild a) rest good fits ends = wild_complete a rest ∙ ap (λ (z : ArgPattern). taken z rest) (sym (v_ArgPattern.rolls-Wild a))
  layer_complete (ArgPattern-F.ArgPattern::Con c) rest good fits ends = con_arg_complete c rest good ∙ ap (λ (z : ArgPattern). taken z rest) (sym (v_ArgPattern.rolls-Con c))
  layer_complete (ArgPattern-F.Int a n) rest good fits ends = int_complete a n rest ∙ ap (λ (z : ArgPattern). taken z rest) (sym (v_ArgPattern.rolls-Int a n))
  layer_complete (ArgPattern-F.Char a n) rest good fits ends = char_complete a n rest ∙ ap (λ (z : ArgPattern). taken z rest) (sym (v_ArgPattern.rolls-Char a n))
  layer_complete (ArgPattern-F.Str a cs) rest good fits ends = str_complete a cs rest ∙ ap (λ (z : ArgPattern). taken z rest) (sym (v_ArgPattern.rolls-Str a cs))
  layer_complete (ArgPattern-F.Paren s a x b) rest good fits ends = paren_complete s a x b rest good fits ∙ ap (λ (z : ArgPattern). taken z rest) (sym (v_ArgPattern.rolls-Paren s a x b))
  layer_complete (ArgPattern-F.Tuple s a x xs b) rest good fits ends = tuple_complete s a x xs b rest good fits ∙ ap (λ (z : ArgPattern). taken z rest) (sym (v_ArgPattern.rolls-Tuple s a x xs b))
  layer_complete (ArgPattern-F.List s a x xs b) rest good fits ends = list_complete s a x xs b rest good fits ∙ ap (λ (z : ArgPattern). taken z rest) (sym (v_ArgPattern.rolls-List s a x xs b))

  whole_complete : Complete printed.arg_pattern ends_arg (suc m) (whole_arg A)
  whole_complete x rest good fits ends =
      let e = arg_at x in
      ap (λ (p : Print). whole_arg A (p.flat ++ rest)) e
      ∙ layer_complete (out-ArgPattern x) rest (sym (ap (λ (p : Print). p.good) e) ∙ good) (subst (λ (p : Print). length p.flat ≤ suc m) e fits) ends
      ∙ ap (λ (z : ArgPattern). taken z rest) (roll-out-ArgPattern x)

pub arg_some : (x : ArgPattern) → (printed.arg_pattern x).good ≡ true → 1 ≤ length (printed.arg_pattern x).flat
arg_some x good = some_token printed.arg_pattern begins_arg (arg 0) (printed.arg_pattern x).flat refl _ (arg_starts x [] good) refl

pub arg_complete : (n : ℕ) → Complete printed.arg_pattern ends_arg n (arg n)
unfolding arg
arg_complete zero x rest good fits ends = absurd (let h = arg_some x good in omega arith)
arg_complete (suc n) x rest good fits ends = whole_complete n (arg n) (arg_complete n) x rest good fits ends

pub nothing_ends : ends_pattern [] ≡ true
unfolding con_op_next
nothing_ends = refl

-- ---- a list of tokens has one pattern
pub one_pattern_is : (x y : Pattern) → (printed.pattern x).good ≡ true → (printed.pattern y).good ≡ true → (printed.pattern x).flat ≡ (printed.pattern y).flat → x ≡ y
one_pattern_is x y gx gy same =
    let n = length (printed.pattern x).flat in
    let at_x : pattern (arg n) ((printed.pattern x).flat ++ []) ≡ taken x [] = pattern_complete n (arg n) (arg_complete n) x [] gx (omega arith) nothing_ends in
    let fits : length (printed.pattern y).flat ≤ n = omega (arith, ap length same) in
    let at_y : pattern (arg n) ((printed.pattern y).flat ++ []) ≡ taken y [] = pattern_complete n (arg n) (arg_complete n) y [] gy fits nothing_ends in
    (some_is x y [] [] (sym at_x ∙ ap (λ us. pattern (arg n) (us ++ [])) same ∙ at_y)).0
