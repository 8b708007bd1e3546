-- Patterns and left sides, level by level: which of them is one variable and no more.
use Rattle.std.proofs.Common.{◌≡◌, ◌⊎◌, inl, inr, Bool, true, false, not, ◌&&◌, List, [], ◌∷◌, ◌++◌, map, refl, sym, ap, ◌∙◌, ℕ, suc, nat_lt, length, arith}
use Rattle.std.proofs.lemmas.Bool.Decides.{nat_tests}
use Rattle.gh_base.specs.declared.place.Span.{Span}
use Rattle.gh_tree.specs.declared.symbol.Sym.{Sym}
use Rattle.gh_tree.specs.declared.names.Var.{Var}
use Rattle.gh_tree.specs.declared.names.GenCon.{GenCon}
use Rattle.gh_tree.specs.declared.names.GenCon.TheVariants as n_GenCon
use Rattle.gh_tree.specs.declared.patterns.ArgPattern.{ArgPattern, roll-ArgPattern, out-ArgPattern, roll-out-ArgPattern}
use Rattle.gh_tree.specs.declared.patterns.ArgPattern.TheVariants as v_ArgPattern
use Rattle.gh_tree.specs.declared.patterns.ArgPattern.TheOpen.{ArgPattern-F, PatOperand-F}
use Rattle.gh_tree.specs.declared.patterns.PatOperand.{PatOperand, roll-PatOperand, out-PatOperand, roll-out-PatOperand}
use Rattle.gh_tree.specs.declared.patterns.PatOperand.TheVariants as v_PatOperand
use Rattle.gh_tree.specs.declared.patterns.NextPattern.{NextPattern, out-NextPattern, roll-out-NextPattern}
use Rattle.gh_tree.specs.declared.patterns.Pattern.{Pattern, roll-Pattern, out-Pattern, roll-out-Pattern}
use Rattle.gh_tree.specs.Print.{Print, print, spanned, flat_all, good_all, is_some}
use Rattle.gh_tree.specs.Print as printed
use Rattle.gh_tree.proofs.CompletePatterns.{Layer, OperandLayer, layer, operand_layer}
use Rattle.gh_tree.proofs.Printed.{printed_arg_pattern_var, printed_arg_pattern_as, printed_arg_pattern_wild, printed_arg_pattern_con, printed_arg_pattern_int, printed_arg_pattern_char, printed_arg_pattern_str, printed_arg_pattern_paren, printed_arg_pattern_tuple, printed_arg_pattern_list, printed_pat_operand_negative, printed_pat_operand_arg, printed_pat_operand_con, printed_next_pattern, printed_pattern}
use Rattle.gh_parse_lefts.specs.Lefts.{var_operand, var_pattern}

layer_printed : (y : Layer) → printed.arg_pattern (roll-ArgPattern y) ≡ layer y
unfolding layer
layer_printed (ArgPattern-F.Var x0) = ap printed.arg_pattern (v_ArgPattern.rolls-Var x0) ∙ printed_arg_pattern_var x0
layer_printed (ArgPattern-F.As x0 x1 x2 x3) = ap printed.arg_pattern (v_ArgPattern.rolls-As x0 x1 x2 x3) ∙ printed_arg_pattern_as x0 x1 x2 x3
layer_printed (ArgPattern-F.Wild x0) = ap printed.arg_pattern (v_ArgPattern.rolls-Wild x0) ∙ printed_arg_pattern_wild x0
layer_printed (ArgPattern-F.ArgPattern::Con x0) = ap printed.arg_pattern (v_ArgPattern.rolls-Con x0) ∙ printed_arg_pattern_con x0
layer_printed (ArgPattern-F.Int x0 x1) = ap printed.arg_pattern (v_ArgPattern.rolls-Int x0 x1) ∙ printed_arg_pattern_int x0 x1
layer_printed (ArgPattern-F.Char x0 x1) = ap printed.arg_pattern (v_ArgPattern.rolls-Char x0 x1) ∙ printed_arg_pattern_char x0 x1
layer_printed (ArgPattern-F.Str x0 x1) = ap printed.arg_pattern (v_ArgPattern.rolls-Str x0 x1) ∙ printed_arg_pattern_str x0 x1
layer_printed (ArgPattern-F.Paren x0 x1 x2 x3) = ap printed.arg_pattern (v_ArgPattern.rolls-Paren x0 x1 x2 x3) ∙ printed_arg_pattern_paren x0 x1 x2 x3
layer_printed (ArgPattern-F.Tuple x0 x1 x2 x3 x4) = ap printed.arg_pattern (v_ArgPattern.rolls-Tuple x0 x1 x2 x3 x4) ∙ printed_arg_pattern_tuple x0 x1 x2 x3 x4
layer_printed (ArgPattern-F.List x0 x1 x2 x3 x4) = ap printed.arg_pattern (v_ArgPattern.rolls-List x0 x1 x2 x3 x4) ∙ printed_arg_pattern_list x0 x1 x2 x3 x4

operand_printed : (y : OperandLayer) → printed.pat_operand (roll-PatOperand y) ≡ operand_layer y
unfolding operand_layer
operand_printed (PatOperand-F.Negative x0 x1 x2 x3) = ap printed.pat_operand (v_PatOperand.rolls-Negative x0 x1 x2 x3) ∙ printed_pat_operand_negative x0 x1 x2 x3
operand_printed (PatOperand-F.Arg x0) = ap printed.pat_operand (v_PatOperand.rolls-Arg x0) ∙ printed_pat_operand_arg x0
operand_printed (PatOperand-F.PatOperand::Con x0 x1 x2 x3) = ap printed.pat_operand (v_PatOperand.rolls-Con x0 x1 x2 x3) ∙ printed_pat_operand_con x0 x1 x2 x3

pub arg_at : (x : ArgPattern) → printed.arg_pattern x ≡ layer (out-ArgPattern x)
arg_at x = ap printed.arg_pattern (sym (roll-out-ArgPattern x)) ∙ layer_printed (out-ArgPattern x)

pub operand_at : (x : PatOperand) → printed.pat_operand x ≡ operand_layer (out-PatOperand x)
operand_at x = ap printed.pat_operand (sym (roll-out-PatOperand x)) ∙ operand_printed (out-PatOperand x)

pub next_at : (x : NextPattern) → printed.next_pattern x ≡ print (printed.con_op (out-NextPattern x).op ++ (printed.pat_operand (out-NextPattern x).operand).flat) (printed.pat_operand (out-NextPattern x).operand).good
next_at x = ap printed.next_pattern (sym (roll-out-NextPattern x)) ∙ printed_next_pattern (out-NextPattern x).op (out-NextPattern x).operand

-- a pattern by its parts
abbrev pub pattern_flat : Pattern → List Sym
pattern_flat x = (printed.pat_operand (out-Pattern x).first).flat ++ flat_all (map printed.next_pattern (out-Pattern x).others)

abbrev pub pattern_good : Pattern → Bool
pattern_good x = (printed.pat_operand (out-Pattern x).first).good && good_all (map printed.next_pattern (out-Pattern x).others)

abbrev pub pattern_is_var : Pattern → Bool
pattern_is_var x = (printed.pat_operand (out-Pattern x).first).is_var && not (is_some (map printed.next_pattern (out-Pattern x).others))

pub pattern_is_flat : (x : Pattern) → (printed.pattern x).flat ≡ pattern_flat x
pattern_is_flat x = ap (λ (y : Pattern). (printed.pattern y).flat) (sym (roll-out-Pattern x)) ∙ ap (λ (p : Print). p.flat) (printed_pattern (out-Pattern x).span (out-Pattern x).first (out-Pattern x).others)

pub pattern_is_good : (x : Pattern) → (printed.pattern x).good ≡ (spanned (out-Pattern x).span (pattern_flat x) (pattern_good x)).good
pattern_is_good x = ap (λ (y : Pattern). (printed.pattern y).good) (sym (roll-out-Pattern x)) ∙ ap (λ (p : Print). p.good) (printed_pattern (out-Pattern x).span (out-Pattern x).first (out-Pattern x).others)

pub pattern_var_is : (x : Pattern) → (printed.pattern x).is_var ≡ pattern_is_var x
pattern_var_is x = ap (λ (y : Pattern). (printed.pattern y).is_var) (sym (roll-out-Pattern x)) ∙ ap (λ (p : Print). p.is_var) (printed_pattern (out-Pattern x).span (out-Pattern x).first (out-Pattern x).others)

-- ---- one variable

gen_con_no_var : (c : GenCon) → (printed.gen_con c).is_var ≡ false
gen_con_no_var (n_GenCon.Con c) = refl
gen_con_no_var (n_GenCon.Unit s a b) = refl
gen_con_no_var (n_GenCon.Nil s a b) = refl
gen_con_no_var (n_GenCon.Tuple s a cs b) = refl

-- a tree is of this form, or is no variable
abbrev pub VarOr : {A : Type 0} → (Var → A) → A → Bool → Type 0
VarOr {A} f x b = ((v : Var) × (x ≡ f v)) ⊎ (b ≡ false)

layer_shape : (y : Layer) → VarOr (λ v. v_ArgPattern.Var v) (roll-ArgPattern y) (layer y).is_var
unfolding layer
layer_shape (ArgPattern-F.Var v) = inl (v, v_ArgPattern.rolls-Var v)
layer_shape (ArgPattern-F.As x0 x1 x2 x3) = inr refl
layer_shape (ArgPattern-F.Wild x0) = inr refl
layer_shape (ArgPattern-F.ArgPattern::Con c) = inr (gen_con_no_var c)
layer_shape (ArgPattern-F.Int x0 x1) = inr refl
layer_shape (ArgPattern-F.Char x0 x1) = inr refl
layer_shape (ArgPattern-F.Str x0 x1) = inr refl
layer_shape (ArgPattern-F.Paren x0 x1 x2 x3) = inr refl
layer_shape (ArgPattern-F.Tuple x0 x1 x2 x3 x4) = inr refl
layer_shape (ArgPattern-F.List x0 x1 x2 x3 x4) = inr refl

arg_shape : (x : ArgPattern) → VarOr (λ v. v_ArgPattern.Var v) x (printed.arg_pattern x).is_var
arg_shape x = elim (layer_shape (out-ArgPattern x)) [
  | inl h ↦ inl (h.0, sym (roll-out-ArgPattern x) ∙ h.1)
  | inr h ↦ inr (ap (λ (p : Print). p.is_var) (arg_at x) ∙ h)
]

operand_layer_shape : (y : OperandLayer) → VarOr var_operand (roll-PatOperand y) (operand_layer y).is_var
unfolding operand_layer
operand_layer_shape (PatOperand-F.Negative x0 x1 x2 x3) = inr refl
operand_layer_shape (PatOperand-F.Arg x) = elim (arg_shape x) [
  | inl h ↦ inl (h.0, v_PatOperand.rolls-Arg x ∙ ap (λ (z : ArgPattern). v_PatOperand.Arg z) h.1)
  | inr h ↦ inr h
]
operand_layer_shape (PatOperand-F.PatOperand::Con x0 x1 x2 x3) = inr refl

pub operand_shape : (x : PatOperand) → VarOr var_operand x (printed.pat_operand x).is_var
operand_shape x = elim (operand_layer_shape (out-PatOperand x)) [
  | inl h ↦ inl (h.0, sym (roll-out-PatOperand x) ∙ h.1)
  | inr h ↦ inr (ap (λ (p : Print). p.is_var) (operand_at x) ∙ h)
]

pub var_operand_printed : (v : Var) → printed.pat_operand (var_operand v) ≡ record { flat = printed.var v; good = printed.plain_var v; is_open = false; is_var = true; is_parted = false }
var_operand_printed v = printed_pat_operand_arg (v_ArgPattern.Var v) ∙ printed_arg_pattern_var v

some_more : (n : ℕ) → nat_lt 0 (suc n) ≡ true
some_more n = grind (arith, nat_tests)

pub more_behind : (b : Bool) (z : NextPattern) (zs : List NextPattern) → (b && not (is_some (map printed.next_pattern (z ∷ zs)))) ≡ false
more_behind true z zs = ap not (some_more (length (map printed.next_pattern zs)))
more_behind false z zs = refl

-- a pattern is a variable alone, or none
parts_shape : (s : Span) (x : PatOperand) (xs : List NextPattern) → VarOr (var_pattern s) (roll-Pattern (record { span = s; first = x; others = xs })) ((printed.pat_operand x).is_var && not (is_some (map printed.next_pattern xs)))
parts_shape s x [] = elim (operand_shape x) [
  | inl h ↦ inl (h.0, ap (λ (z : PatOperand). roll-Pattern (record { span = s; first = z; others = [] })) h.1)
  | inr h ↦ inr (ap (λ b. b && true) h)
]
parts_shape s x (z ∷ zs) = inr (more_behind (printed.pat_operand x).is_var z zs)

pub pattern_shape : (x : Pattern) → VarOr (var_pattern (out-Pattern x).span) x (printed.pattern x).is_var
pattern_shape x = elim (parts_shape (out-Pattern x).span (out-Pattern x).first (out-Pattern x).others) [
  | inl h ↦ inl (h.0, sym (roll-out-Pattern x) ∙ h.1)
  | inr h ↦ inr (pattern_var_is x ∙ h)
]
