-- A left side with a right side behind it begins neither a signature nor the redefinition of a generic function.
use Rattle.std.proofs.Common.{◌≡◌, Bool, true, false, ◌&&◌, List, [], ◌∷◌, ◌++◌, map, Option, Some, None, refl, sym, ap, ◌∙◌, append_assoc}
use Rattle.gh_base.specs.declared.names.NameId.{NameId}
use Rattle.gh_base.specs.declared.place.Span.{Span}
use Rattle.gh_tree.specs.declared.symbol.Kind.{Kind}
use Rattle.gh_tree.specs.declared.symbol.Kind.TheVariants as k
use Rattle.gh_tree.specs.declared.symbol.Sym.{Sym}
use Rattle.gh_tree.specs.declared.names.Con.TheVariants as n_Con
use Rattle.gh_tree.specs.declared.names.GenCon.{GenCon}
use Rattle.gh_tree.specs.declared.names.GenCon.TheVariants as n_GenCon
use Rattle.gh_tree.specs.declared.names.Var.{Var}
use Rattle.gh_tree.specs.declared.names.Var.TheVariants as n_Var
use Rattle.gh_tree.specs.declared.patterns.ArgPattern.{ArgPattern, out-ArgPattern}
use Rattle.gh_tree.specs.declared.patterns.ArgPattern.TheOpen.{ArgPattern-F, PatOperand-F}
use Rattle.gh_tree.specs.declared.patterns.FunLhs.{FunLhs, roll-FunLhs, out-FunLhs, roll-out-FunLhs}
use Rattle.gh_tree.specs.declared.patterns.FunLhs.TheVariants as v_FunLhs
use Rattle.gh_tree.specs.declared.patterns.FunLhs.TheOpen.{FunLhs-F}
use Rattle.gh_tree.specs.declared.patterns.PatOperand.{PatOperand, out-PatOperand}
use Rattle.gh_tree.specs.declared.patterns.Pattern.{Pattern, out-Pattern}
use Rattle.gh_tree.specs.Syms.{at}
use Rattle.gh_tree.specs.Print.{Print, flat_all, good_all, is_none, is_tuple, plain_var, plain_var_op, plain_nexts}
use Rattle.gh_tree.specs.Print as printed
use Rattle.gh_tree.specs.Read.{kind, after}
use Rattle.gh_tree.specs.ReadNames.{var_next, var_by}
use Rattle.gh_tree.proofs.Steps.{both}
use Rattle.gh_tree.proofs.CompletePatterns.{Layer, OperandLayer, layer, operand_layer, pattern_starts}
use Rattle.gh_tree.proofs.Printed.{printed_fun_lhs_prefix, printed_fun_lhs_infix, printed_fun_lhs_nested}
use Rattle.gh_parse_lefts.specs.declared.sides.Left.{Left}
use Rattle.gh_parse_lefts.specs.declared.sides.Left.TheVariants as v_Left
use Rattle.gh_parse_lefts.specs.Lefts.{left_print, begins_left, begins_left_by, begins_rhs, follows_var}
use Rattle.gh_parse_lefts.proofs.Shapes.{arg_at, operand_at, pattern_good, pattern_is_flat, pattern_is_good}
use Rattle.gh_parse_lefts.proofs.Complete.{left_starts, left_behind}
use Rattle.gh_parse_exps.specs.Ops.{is_banana, any_var_next, any_var_by, behind_var, call_next}
use Rattle.gh_parse_exps.specs.Decls.{signs, signature_next}

-- a variable with a qualifier may come next: its first two tokens
abbrev foreign_by : Option Kind → Option Kind → Bool
foreign_by (Some (k.VarId (Some m) n)) second = true
foreign_by (Some k.Open) (Some (k.VarSym (Some m) n)) = true
foreign_by first second = false

abbrev foreign : List Sym → Bool
foreign ss = foreign_by (kind ss) (kind (after ss))

plain_by : (first second third : Option Kind) → foreign_by first second ≡ false → any_var_by first second third ≡ true → var_by first second third ≡ true
plain_by (Some (k.VarId None n)) second third none e = refl
plain_by (Some (k.VarId (Some m) n)) second third none e = absurd (cc)
plain_by (Some k.Open) (Some (k.VarSym None n)) third none e = e
plain_by (Some k.Open) (Some (k.VarSym (Some m) n)) third none e = absurd (cc)
plain_by _ second third none e = absurd (cc)

open_not_foreign_by : (first second : Option Kind) → begins_left_by first second ≡ true → foreign_by (Some k.Open) first ≡ false
open_not_foreign_by (Some (k.VarSym None n)) second e = refl
open_not_foreign_by (Some (k.VarId None n)) second e = refl
open_not_foreign_by (Some (k.ConId q n)) second e = refl
open_not_foreign_by (Some (k.Int n)) second e = refl
open_not_foreign_by (Some (k.Char n)) second e = refl
open_not_foreign_by (Some (k.Str n)) second e = refl
open_not_foreign_by (Some k.Underscore) second e = refl
open_not_foreign_by (Some k.Open) second e = refl
open_not_foreign_by (Some k.OpenList) second e = refl
open_not_foreign_by _ second e = absurd (cc)

open_not_foreign : (a : Span) (ss : List Sym) → begins_left ss ≡ true → foreign (at k.Open a ∷ ss) ≡ false
open_not_foreign a ss e = open_not_foreign_by (kind ss) (kind (after ss)) e

word_not_foreign : (q : Option NameId) (n : NameId) (second : Option Kind) → is_none q ≡ true → foreign_by (Some (k.VarId q n)) second ≡ false
word_not_foreign None n second e = refl
word_not_foreign (Some m) n second e = absurd (cc)

symbol_not_foreign : (q : Option NameId) (n : NameId) → is_none q ≡ true → foreign_by (Some k.Open) (Some (k.VarSym q n)) ≡ false
symbol_not_foreign None n e = refl
symbol_not_foreign (Some m) n e = absurd (cc)

var_not_foreign : (v : Var) (rest : List Sym) → plain_var v ≡ true → foreign (printed.var v ++ rest) ≡ false
var_not_foreign (n_Var.Word n) rest good = word_not_foreign n.qualifier n.id (kind rest) good
var_not_foreign (n_Var.Symbol a n b) rest good = symbol_not_foreign n.qualifier n.id good

con_not_foreign : (c : GenCon) (rest : List Sym) → (printed.gen_con c).good ≡ true → foreign ((printed.gen_con c).flat ++ rest) ≡ false
con_not_foreign (n_GenCon.Con (n_Con.Word n)) rest good = refl
con_not_foreign (n_GenCon.Con (n_Con.Symbol a n b)) rest good = refl
con_not_foreign (n_GenCon.Unit s a b) rest good = refl
con_not_foreign (n_GenCon.Nil s a b) rest good = refl
con_not_foreign (n_GenCon.Tuple s a [] b) rest good = absurd (cc)
con_not_foreign (n_GenCon.Tuple s a (c ∷ cs) b) rest good = refl

enclosed_not_foreign : (a : Span) (x : Pattern) (more rest : List Sym) → (printed.pattern x).good ≡ true → foreign (at k.Open a ∷ (((printed.pattern x).flat ++ more) ++ rest)) ≡ false
enclosed_not_foreign a x more rest good = open_not_foreign a _ (ap begins_left (append_assoc (printed.pattern x).flat more rest) ∙ pattern_starts x (more ++ rest) good)

layer_not_foreign : (y : Layer) (rest : List Sym) → (layer y).good ≡ true → foreign ((layer y).flat ++ rest) ≡ false
unfolding layer
layer_not_foreign (ArgPattern-F.Var v) rest good = var_not_foreign v rest good
layer_not_foreign (ArgPattern-F.As s v a x) rest good =
    let h = both (plain_var v && (printed.arg_pattern x).good) _ good in
    ap foreign (append_assoc (printed.var v) (at k.At a ∷ (printed.arg_pattern x).flat) rest) ∙ var_not_foreign v _ (both (plain_var v) (printed.arg_pattern x).good h.0).0
layer_not_foreign (ArgPattern-F.Wild a) rest good = refl
layer_not_foreign (ArgPattern-F.ArgPattern::Con c) rest good = con_not_foreign c rest good
layer_not_foreign (ArgPattern-F.Int a n) rest good = refl
layer_not_foreign (ArgPattern-F.Char a n) rest good = refl
layer_not_foreign (ArgPattern-F.Str a cs) rest good = refl
layer_not_foreign (ArgPattern-F.Paren s a x b) rest good = enclosed_not_foreign a x (at k.Close b ∷ []) rest (both (printed.pattern x).good _ good).0
layer_not_foreign (ArgPattern-F.Tuple s a x xs b) rest good =
    let parts : Bool = good_all (map printed.pat_part xs) && is_tuple (map printed.pat_part xs) in
    let h = both ((printed.pattern x).good && parts) _ good in
    enclosed_not_foreign a x (flat_all (map printed.pat_part xs) ++ at k.Close b ∷ []) rest (both (printed.pattern x).good parts h.0).0
layer_not_foreign (ArgPattern-F.List s a x xs b) rest good = refl

arg_not_foreign : (x : ArgPattern) (rest : List Sym) → (printed.arg_pattern x).good ≡ true → foreign ((printed.arg_pattern x).flat ++ rest) ≡ false
arg_not_foreign x rest good =
    ap (λ (p : Print). foreign (p.flat ++ rest)) (arg_at x) ∙ layer_not_foreign (out-ArgPattern x) rest (sym (ap (λ (p : Print). p.good) (arg_at x)) ∙ good)

operand_layer_not_foreign : (y : OperandLayer) (rest : List Sym) → (operand_layer y).good ≡ true → foreign ((operand_layer y).flat ++ rest) ≡ false
unfolding operand_layer
operand_layer_not_foreign (PatOperand-F.Negative s a b n) rest good = refl
operand_layer_not_foreign (PatOperand-F.Arg x) rest good = arg_not_foreign x rest good
operand_layer_not_foreign (PatOperand-F.PatOperand::Con s c x xs) rest good =
    let behind : Bool = (printed.arg_pattern x).good && good_all (map printed.arg_pattern xs) in
    let h = both ((printed.gen_con c).good && behind) _ good in
    ap foreign (append_assoc (printed.gen_con c).flat ((printed.arg_pattern x).flat ++ flat_all (map printed.arg_pattern xs)) rest) ∙ con_not_foreign c _ (both (printed.gen_con c).good behind h.0).0

operand_not_foreign : (x : PatOperand) (rest : List Sym) → (printed.pat_operand x).good ≡ true → foreign ((printed.pat_operand x).flat ++ rest) ≡ false
operand_not_foreign x rest good =
    ap (λ (p : Print). foreign (p.flat ++ rest)) (operand_at x) ∙ operand_layer_not_foreign (out-PatOperand x) rest (sym (ap (λ (p : Print). p.good) (operand_at x)) ∙ good)

rolled_not_foreign : (y : FunLhs-F FunLhs) (rest : List Sym) → (printed.fun_lhs (roll-FunLhs y)).good ≡ true → foreign ((printed.fun_lhs (roll-FunLhs y)).flat ++ rest) ≡ false
rolled_not_foreign (FunLhs-F.Prefix s v xs) rest good =
    let e = ap printed.fun_lhs (v_FunLhs.rolls-Prefix s v xs) ∙ printed_fun_lhs_prefix s v xs in
    let h = both (plain_var v && good_all (map printed.arg_pattern xs)) _ (sym (ap (λ (p : Print). p.good) e) ∙ good) in
    ap (λ (p : Print). foreign (p.flat ++ rest)) e
    ∙ ap foreign (append_assoc (printed.var v) (flat_all (map printed.arg_pattern xs)) rest)
    ∙ var_not_foreign v _ (both (plain_var v) (good_all (map printed.arg_pattern xs)) h.0).0
rolled_not_foreign (FunLhs-F.Infix s x xs o y ys) rest good =
    let e = ap printed.fun_lhs (v_FunLhs.rolls-Infix s x xs o y ys) ∙ printed_fun_lhs_infix s x xs o y ys in
    let tail : List Sym = flat_all (map printed.next_pattern xs) ++ (printed.var_op o ++ ((printed.pat_operand y).flat ++ flat_all (map printed.next_pattern ys))) in
    let others : Bool = good_all (map printed.next_pattern xs) && (plain_var_op o && ((printed.pat_operand y).good && (good_all (map printed.next_pattern ys) && (plain_nexts xs && plain_nexts ys)))) in
    let h = both ((printed.pat_operand x).good && others) _ (sym (ap (λ (p : Print). p.good) e) ∙ good) in
    ap (λ (p : Print). foreign (p.flat ++ rest)) e
    ∙ ap foreign (append_assoc (printed.pat_operand x).flat tail rest)
    ∙ operand_not_foreign x (tail ++ rest) (both (printed.pat_operand x).good others h.0).0
rolled_not_foreign (FunLhs-F.Nested s a f b y ys) rest good =
    let e = ap printed.fun_lhs (v_FunLhs.rolls-Nested s a f b y ys) ∙ printed_fun_lhs_nested s a f b y ys in
    let tail : List Sym = at k.Close b ∷ ((printed.arg_pattern y).flat ++ flat_all (map printed.arg_pattern ys)) in
    let others : Bool = (printed.arg_pattern y).good && good_all (map printed.arg_pattern ys) in
    let h = both ((printed.fun_lhs f).good && others) _ (sym (ap (λ (p : Print). p.good) e) ∙ good) in
    ap (λ (p : Print). foreign (p.flat ++ rest)) e
    ∙ open_not_foreign a _ (ap begins_left (append_assoc (printed.fun_lhs f).flat tail rest) ∙ left_starts (v_Left.Function f) (tail ++ rest) (both (printed.fun_lhs f).good others h.0).0)

left_not_foreign : (x : Left) (rest : List Sym) → (left_print x).good ≡ true → foreign ((left_print x).flat ++ rest) ≡ false
left_not_foreign (v_Left.Function f) rest good =
    let e = roll-out-FunLhs f in
    ap (λ (g : FunLhs). foreign ((printed.fun_lhs g).flat ++ rest)) (sym e) ∙ rolled_not_foreign (out-FunLhs f) rest (ap (λ (g : FunLhs). (printed.fun_lhs g).good) e ∙ good)
left_not_foreign (v_Left.Pattern p) rest good =
    let y = out-Pattern p in
    let others = flat_all (map printed.next_pattern y.others) in
    let h = both (pattern_good p) _ (sym (pattern_is_good p) ∙ (both (printed.pattern p).good _ good).0) in
    let g = both (printed.pat_operand y.first).good (good_all (map printed.next_pattern y.others)) h.0 in
    ap (λ us. foreign (us ++ rest)) (pattern_is_flat p)
    ∙ ap foreign (append_assoc (printed.pat_operand y.first).flat others rest)
    ∙ operand_not_foreign y.first (others ++ rest) g.0

record Behind (kind : Option Kind) : Type 0 where
  no_banana : is_banana kind ≡ false
  no_sign : signs kind ≡ false

behind : (kind : Option Kind) → follows_var kind ≡ true → Behind kind
behind (Some k.Equals) e = record { no_banana = refl; no_sign = refl }
behind (Some k.Bar) e = record { no_banana = refl; no_sign = refl }
behind (Some k.At) e = record { no_banana = refl; no_sign = refl }
behind (Some (k.VarSym q n)) e = record { no_banana = refl; no_sign = refl }
behind (Some (k.ConSym q n)) e = record { no_banana = refl; no_sign = refl }
behind (Some k.Colon) e = record { no_banana = refl; no_sign = refl }
behind (Some k.Backquote) e = record { no_banana = refl; no_sign = refl }
behind (Some (k.VarId None n)) e = record { no_banana = refl; no_sign = refl }
behind (Some (k.ConId q n)) e = record { no_banana = refl; no_sign = refl }
behind (Some (k.Int n)) e = record { no_banana = refl; no_sign = refl }
behind (Some (k.Char n)) e = record { no_banana = refl; no_sign = refl }
behind (Some (k.Str n)) e = record { no_banana = refl; no_sign = refl }
behind (Some k.Underscore) e = record { no_banana = refl; no_sign = refl }
behind (Some k.Open) e = record { no_banana = refl; no_sign = refl }
behind (Some k.OpenList) e = record { no_banana = refl; no_sign = refl }
behind _ e = absurd (cc)

and_fails : (a b : Bool) → (a ≡ true → b ≡ false) → (a && b) ≡ false
and_fails true b e = e refl
and_fails false b e = refl

pub left_no_signature : (x : Left) (rest : List Sym) → (left_print x).good ≡ true → begins_rhs rest ≡ true → signature_next ((left_print x).flat ++ rest) ≡ false
unfolding signature_next behind_var
left_no_signature x rest good rhs = and_fails _ _ (λ is. (behind _ (left_behind x rest good rhs is)).no_sign)

any_var_is_plain : (ss : List Sym) → foreign ss ≡ false → any_var_next ss ≡ true → var_next ss ≡ true
unfolding any_var_next var_next
any_var_is_plain ss none is = plain_by (kind ss) (kind (after ss)) (kind (after (after ss))) none is

pub left_no_call : (x : Left) (rest : List Sym) → (left_print x).good ≡ true → begins_rhs rest ≡ true → call_next ((left_print x).flat ++ rest) ≡ false
unfolding call_next behind_var
left_no_call x rest good rhs =
    let ss : List Sym = (left_print x).flat ++ rest in
    and_fails _ _ (λ is. (behind _ (left_behind x rest good rhs (any_var_is_plain ss (left_not_foreign x rest good) is))).no_banana)
