-- The left sides of declarations: what each is printed as, and how it is read.
use Rattle.std.specs.Prelude.{ℕ, zero, suc, Bool, true, false, not, ◌&&◌, if◌then◌else◌, List, [], ◌∷◌, Option, Some, None}
use Rattle.gh_base.specs.declared.place.Span.{Span}
use Rattle.gh_tree.specs.declared.symbol.Kind.{Kind}
use Rattle.gh_tree.specs.declared.symbol.Kind.TheVariants as k
use Rattle.gh_tree.specs.declared.symbol.Sym.{Sym}
use Rattle.gh_tree.specs.declared.names.Var.{Var}
use Rattle.gh_tree.specs.declared.patterns.ArgPattern.{ArgPattern}
use Rattle.gh_tree.specs.declared.patterns.ArgPattern.TheVariants as v_ArgPattern
use Rattle.gh_tree.specs.declared.patterns.PatOperand.{PatOperand}
use Rattle.gh_tree.specs.declared.patterns.PatOperand.TheVariants as v_PatOperand
use Rattle.gh_tree.specs.declared.patterns.NextPattern.{NextPattern}
use Rattle.gh_tree.specs.declared.patterns.Pattern.{Pattern, roll-Pattern}
use Rattle.gh_tree.specs.declared.patterns.FunLhs.{FunLhs}
use Rattle.gh_tree.specs.declared.patterns.FunLhs.TheVariants as v_FunLhs
use Rattle.gh_tree.specs.Print.{Print, plain_nexts}
use Rattle.gh_tree.specs.Print as printed
use Rattle.gh_tree.specs.Read.{Read, ◌>>=◌, pure, fail, check, kind, after, next, expect, here, since, is_open, is_close, comma_next}
use Rattle.gh_tree.specs.ReadNames.{gen_con_next, var_next, var}
use Rattle.gh_tree.specs.ReadPatterns.{begins_arg, begins_arg_by, at_next, args, operand, next_patterns, enclosed, as_end, arg, ends_pattern}
use Rattle.gh_parse_lefts.specs.declared.sides.Left.{Left}
use Rattle.gh_parse_lefts.specs.declared.sides.Left.TheVariants as v_Left
use Rattle.gh_parse_lefts.specs.declared.sides.Side.{Side}
use Rattle.gh_parse_lefts.specs.declared.sides.Side.TheVariants as v_Side
use Rattle.gh_parse_lefts.specs.declared.sides.Front.{Front}
use Rattle.gh_parse_lefts.specs.declared.sides.Front.TheVariants as v_Front
use Rattle.gh_parse_lefts.specs.Operators.{var_op_next, var_op}

-- a left side's laid tokens, and whether it is well formed: a pattern that is one variable is none
abbrev pub left_print : Left → Print
left_print (v_Left.Function f) = printed.fun_lhs f
left_print (v_Left.Pattern p) = record (printed.pattern p) { good = (printed.pattern p).good && not (printed.pattern p).is_var }

-- what can stand behind a left side: nothing that goes on with it
abbrev pub ends_left : List Sym → Bool
ends_left ss = ends_pattern ss && not (var_op_next ss)

-- what a left side begins with: an argument, or a minus sign and an integer
abbrev pub is_int : Option Kind → Bool
is_int (Some (k.Int n)) = true
is_int _ = false

abbrev pub begins_left_by : Option Kind → Option Kind → Bool
begins_left_by (Some (k.VarSym None n)) second = is_int second
begins_left_by first second = begins_arg_by first

abbrev pub begins_left : List Sym → Bool
begins_left ss = begins_left_by (kind ss) (kind (after ss))

-- a right side comes next
abbrev pub begins_rhs_by : Option Kind → Bool
begins_rhs_by (Some k.Equals) = true
begins_rhs_by (Some k.Bar) = true
begins_rhs_by _ = false

abbrev pub begins_rhs : List Sym → Bool
begins_rhs ss = begins_rhs_by (kind ss)

-- what stands behind the variable at the front: behind one token, or behind three where it is an operator between parentheses
abbrev pub behind_var_by : Option Kind → List Sym → Option Kind
behind_var_by (Some k.Open) ss = kind (after (after (after ss)))
behind_var_by _ ss = kind (after ss)

abbrev pub behind_var : List Sym → Option Kind
behind_var ss = behind_var_by (kind ss) ss

-- what can stand behind the variable that a left side begins with
abbrev pub follows_var : Option Kind → Bool
follows_var (Some k.Equals) = true
follows_var (Some k.Bar) = true
follows_var (Some k.At) = true
follows_var (Some (k.VarSym q n)) = true
follows_var (Some (k.ConSym q n)) = true
follows_var (Some k.Colon) = true
follows_var (Some k.Backquote) = true
follows_var kind = begins_arg_by kind

-- ---- what a left side that was read stands for

-- a variable without arguments
abbrev pub var_lhs : Span → Var → FunLhs
var_lhs s v = v_FunLhs.Prefix s v []

abbrev pub left_of : Side → Left
left_of (v_Side.Alone s v) = v_Left.Function (var_lhs s v)
left_of (v_Side.Function f) = v_Left.Function f
left_of (v_Side.Pattern p) = v_Left.Pattern p

-- a variable as a pattern
abbrev pub var_operand : Var → PatOperand
var_operand v = v_PatOperand.Arg (v_ArgPattern.Var v)

abbrev pub var_pattern : Span → Var → Pattern
var_pattern s v = roll-Pattern (record { span = s; first = var_operand v; others = [] })

-- the pattern that it stands for, if any: one variable is a pattern
abbrev pub pattern_of : Side → Option Pattern
pattern_of (v_Side.Alone s v) = Some (var_pattern s v)
pattern_of (v_Side.Function f) = None
pattern_of (v_Side.Pattern p) = Some p

-- the function's left side that it stands for, if any: one variable is a left side without arguments
abbrev pub function_of : Side → Option FunLhs
function_of (v_Side.Alone s v) = Some (var_lhs s v)
function_of (v_Side.Function f) = Some f
function_of (v_Side.Pattern p) = None

abbrev pub given : {A B : Type 0} → Option A → (A → Read B) → Read B
given (Some x) f = f x
given None f = fail

-- ---- reading: `start` is where the left side begins

-- a pattern between parentheses
unfoldable pub paren_front : List Sym → Span → Span → Side → Read Front
paren_front start a b x = given (pattern_of x) (λ p. since start >>= λ s. pure (v_Front.Operand (v_PatOperand.Arg (v_ArgPattern.Paren s a p b))))

-- operands of a pattern, with constructor operators between them
unfoldable pub patterned : List Sym → PatOperand → List NextPattern → Read Side
patterned start x xs = since start >>= λ s. pure (v_Side.Pattern (roll-Pattern (record { span = s; first = x; others = xs })))

-- a variable, with operands behind it where there are any
unfoldable pub alone : List Sym → Var → List NextPattern → Read Side
alone start v [] = since start >>= λ s. pure (v_Side.Alone s v)
alone start v (x ∷ xs) = patterned start (var_operand v) (x ∷ xs)

module _ (arg : Read ArgPattern) where
  -- a variable, with arguments
  unfoldable pub prefix : List Sym → Var → Read Front
  prefix start v = do
    xs ← args arg
    s ← since start
    pure (v_Front.Ended (v_FunLhs.Prefix s v xs))

  -- behind a variable and `@`
  unfoldable pub named : List Sym → Var → Span → Read Front
  named start v m = as_end arg start v m >>= λ x. pure (v_Front.Operand (v_PatOperand.Arg x))

  abbrev pub unnamed : List Sym → Var → Read Front
  unnamed start v = λ ss. if begins_arg ss then prefix start v ss else Some (v_Front.Alone v, ss)

  abbrev pub behind_name : List Sym → Var → Read Front
  behind_name start v = λ ss. if at_next ss then (next >>= named start v) ss else unnamed start v ss

  unfoldable pub var_front : List Sym → Read Front
  var_front start = var >>= behind_name start

  unfoldable pub operand_front : Read Front
  operand_front = operand arg >>= λ x. pure (v_Front.Operand x)

  -- the other parts of a tuple, behind `(` and a left side that is its first part
  unfoldable pub tuple_front : List Sym → Span → Side → Read Front
  tuple_front start a x = given (pattern_of x) (λ p. enclosed arg start a p >>= λ y. pure (v_Front.Operand (v_PatOperand.Arg y)))

  -- the arguments of a left side between parentheses
  abbrev pub applied : List Sym → Span → Span → FunLhs → Read Front
  applied start a b f = do
    y ← arg
    ys ← args arg
    s ← since start
    pure (v_Front.Ended (v_FunLhs.Nested s a f b y ys))

  unfoldable pub nested : List Sym → Span → Span → Side → Read Front
  nested start a b x = given (function_of x) (applied start a b)

  abbrev pub behind_close : List Sym → Span → Side → Span → Read Front
  behind_close start a x b = λ ss. if begins_arg ss then nested start a b x ss else paren_front start a b x ss

  unfoldable pub closed : List Sym → Span → Side → Read Front
  closed start a x = expect is_close >>= behind_close start a x

  -- what stands behind `(` and a left side
  unfoldable pub behind_inside : List Sym → Span → Side → Read Front
  behind_inside start a x = λ ss. if comma_next ss then tuple_front start a x ss else closed start a x ss

  -- the operator that is defined, and its right operand
  unfoldable pub infixed : List Sym → PatOperand → List NextPattern → Read Side
  infixed start x xs = do
    o ← var_op
    y ← operand arg
    ys ← next_patterns arg
    s ← since start
    check (plain_nexts xs && plain_nexts ys) (v_Side.Function (v_FunLhs.Infix s x xs o y ys))

  -- behind the operands before a variable operator
  abbrev pub behind_operands : List Sym → PatOperand → List NextPattern → Read Side
  behind_operands start x xs = λ ss. if var_op_next ss then infixed start x xs ss else patterned start x xs ss

  abbrev pub behind_alone : List Sym → Var → List NextPattern → Read Side
  behind_alone start v xs = λ ss. if var_op_next ss then infixed start (var_operand v) xs ss else alone start v xs ss

  abbrev pub go_by : List Sym → Front → Read Side
  go_by start (v_Front.Ended f) = pure (v_Side.Function f)
  go_by start (v_Front.Alone v) = next_patterns arg >>= behind_alone start v
  go_by start (v_Front.Operand x) = next_patterns arg >>= behind_operands start x

  unfoldable pub go : List Sym → Front → Read Side
  go start x = go_by start x

  module _ (side : Read Side) where
    -- `(` comes next, and begins neither a variable nor a constructor
    unfoldable pub opened : List Sym → Read Front
    opened start = next >>= λ a. side >>= behind_inside start a

    abbrev pub no_var : List Sym → Read Front
    no_var start = λ ss. if is_open (kind ss) then opened start ss else operand_front ss

    abbrev pub no_con : List Sym → Read Front
    no_con start = λ ss. if var_next ss then var_front start ss else no_var start ss

    unfoldable pub front : List Sym → Read Front
    front start = λ ss. if gen_con_next ss then operand_front ss else no_con start ss

    unfoldable pub whole : Read Side
    whole = here >>= λ start. front start >>= go start

-- a left side that nests at most so deep
unfoldable pub side : ℕ → Read Side
side zero = fail
side (suc n) = whole (arg (suc n)) (side n)

unfoldable pub left : ℕ → Read Left
left n = side n >>= λ x. pure (left_of x)
