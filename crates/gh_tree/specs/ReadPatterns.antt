-- How patterns are read.
use Rattle.std.specs.Prelude.{ℕ, zero, suc, Bool, true, false, not, ◌&&◌, ◌==◌, if◌then◌else◌, List, Option, Some, None}
use Rattle.gh_base.specs.declared.fixed.TheConstants.{MINUS}
use Rattle.gh_base.specs.declared.names.NameId.{NameId}
use Rattle.gh_base.specs.declared.place.Span.{Span}
use Rattle.gh_tree.specs.declared.symbol.Kind.{Kind}
use Rattle.gh_tree.specs.declared.symbol.Kind.TheVariants as k
use Rattle.gh_tree.specs.declared.symbol.Sym.{Sym}
use Rattle.gh_tree.specs.declared.names.Var.{Var}
use Rattle.gh_tree.specs.declared.names.GenCon.{GenCon}
use Rattle.gh_tree.specs.declared.patterns.ArgPattern.{ArgPattern}
use Rattle.gh_tree.specs.declared.patterns.ArgPattern.TheVariants as v_ArgPattern
use Rattle.gh_tree.specs.declared.patterns.PatOperand.{PatOperand}
use Rattle.gh_tree.specs.declared.patterns.PatOperand.TheVariants as v_PatOperand
use Rattle.gh_tree.specs.declared.patterns.NextPattern.{NextPattern, roll-NextPattern}
use Rattle.gh_tree.specs.declared.patterns.PatPart.{PatPart, roll-PatPart}
use Rattle.gh_tree.specs.declared.patterns.Pattern.{Pattern, roll-Pattern}
use Rattle.gh_tree.specs.Print.{is_tuple}
use Rattle.gh_tree.specs.Read.{Read, ◌>>=◌, pure, fail, check, kind, peek, next, expect, here, since, all, is_close, is_close_list, comma_next}
use Rattle.gh_tree.specs.ReadNames.{gen_con_next, gen_con, var_next, var, con_op_next, con_op}

abbrev pub begins_arg_by : Option Kind → Bool
begins_arg_by (Some (k.VarId None n)) = true
begins_arg_by (Some (k.ConId q n)) = true
begins_arg_by (Some (k.Int n)) = true
begins_arg_by (Some (k.Char n)) = true
begins_arg_by (Some (k.Str n)) = true
begins_arg_by (Some k.Underscore) = true
begins_arg_by (Some k.Open) = true
begins_arg_by (Some k.OpenList) = true
begins_arg_by _ = false

abbrev pub begins_arg : List Sym → Bool
begins_arg ss = begins_arg_by (kind ss)

abbrev pub is_at : Option Kind → Bool
is_at (Some k.At) = true
is_at _ = false

abbrev pub at_next : List Sym → Bool
at_next ss = is_at (kind ss)

unfoldable pub paren : List Sym → Span → Pattern → Read ArgPattern
paren start a first = do
  b ← expect is_close
  s ← since start
  pure (v_ArgPattern.Paren s a first b)

abbrev pub negative_by : Option Kind → List Sym → Span → Read PatOperand
negative_by (Some (k.Int n)) start a = next >>= λ b. since start >>= λ s. pure (v_PatOperand.Negative s a b n)
negative_by _ start a = fail

unfoldable pub negative : List Sym → Span → Read PatOperand
negative start a = peek >>= λ kind. negative_by kind start a

-- a minus sign and an integer, where the next token is this operator
unfoldable pub signed : NameId → Read PatOperand
signed n = λ ss. if n.0 == MINUS.0 then (next >>= negative ss) ss else None

module _ (arg : Read ArgPattern) where
  unfoldable pub args : Read (List ArgPattern)
  args = all begins_arg arg

  unfoldable pub applied_con : List Sym → GenCon → Read PatOperand
  applied_con start c = do
    x ← arg
    xs ← args
    s ← since start
    pure (v_PatOperand.Con s c x xs)

  abbrev pub after_con : List Sym → GenCon → Read PatOperand
  after_con start c = λ ss. if begins_arg ss then applied_con start c ss else Some (v_PatOperand.Arg (v_ArgPattern.Con c), ss)

  unfoldable pub con_operand : List Sym → Read PatOperand
  con_operand start = gen_con >>= after_con start

  abbrev pub other_operand_by : Option Kind → Read PatOperand
  other_operand_by (Some (k.VarSym None n)) = signed n
  other_operand_by _ = arg >>= λ x. pure (v_PatOperand.Arg x)

  unfoldable pub other_operand : Read PatOperand
  other_operand = peek >>= other_operand_by

  unfoldable pub operand : Read PatOperand
  operand = λ ss. if gen_con_next ss then con_operand ss ss else other_operand ss

  unfoldable pub next_pattern : Read NextPattern
  next_pattern = do
    o ← con_op
    x ← operand
    pure (roll-NextPattern (record { op = o; operand = x }))

  unfoldable pub next_patterns : Read (List NextPattern)
  next_patterns = all con_op_next next_pattern

  unfoldable pub pattern : Read Pattern
  pattern = do
    start ← here
    first ← operand
    others ← next_patterns
    s ← since start
    pure (roll-Pattern (record { span = s; first = first; others = others }))

  unfoldable pub pat_part : Read PatPart
  pat_part = do
    m ← next
    part ← pattern
    pure (roll-PatPart (record { mark = m; part = part }))

  unfoldable pub pat_parts : Read (List PatPart)
  pat_parts = all comma_next pat_part

  unfoldable pub enclosed : List Sym → Span → Pattern → Read ArgPattern
  enclosed start a first = do
    others ← pat_parts
    b ← expect is_close
    s ← since start
    check (is_tuple others) (v_ArgPattern.Tuple s a first others b)

  abbrev pub behind_by : Option Kind → List Sym → Span → Pattern → Read ArgPattern
  behind_by (Some k.Comma) start a first = enclosed start a first
  behind_by _ start a first = paren start a first

  unfoldable pub behind : List Sym → Span → Pattern → Read ArgPattern
  behind start a first = peek >>= λ kind. behind_by kind start a first

  unfoldable pub opened : List Sym → Span → Read ArgPattern
  opened start a = pattern >>= behind start a

  unfoldable pub listed : List Sym → Span → Read ArgPattern
  listed start a = do
    first ← pattern
    others ← pat_parts
    b ← expect is_close_list
    s ← since start
    pure (v_ArgPattern.List s a first others b)

  unfoldable pub as_end : List Sym → Var → Span → Read ArgPattern
  as_end start v m = do
    x ← arg
    s ← since start
    pure (v_ArgPattern.As s v m x)

  abbrev pub after_var_by : Option Kind → List Sym → Var → Read ArgPattern
  after_var_by (Some k.At) start v = next >>= as_end start v
  after_var_by _ start v = pure (v_ArgPattern.Var v)

  unfoldable pub after_var : List Sym → Var → Read ArgPattern
  after_var start v = peek >>= λ kind. after_var_by kind start v

  abbrev pub other_arg_by : Option Kind → List Sym → Read ArgPattern
  other_arg_by (Some (k.Int n)) start = next >>= λ a. pure (v_ArgPattern.Int a n)
  other_arg_by (Some (k.Char n)) start = next >>= λ a. pure (v_ArgPattern.Char a n)
  other_arg_by (Some (k.Str cs)) start = next >>= λ a. pure (v_ArgPattern.Str a cs)
  other_arg_by (Some k.Underscore) start = next >>= λ a. pure (v_ArgPattern.Wild a)
  other_arg_by (Some k.Open) start = next >>= opened start
  other_arg_by (Some k.OpenList) start = next >>= listed start
  other_arg_by _ start = fail

  unfoldable pub other_arg : List Sym → Read ArgPattern
  other_arg start = peek >>= λ kind. other_arg_by kind start

  unfoldable pub var_arg : List Sym → Read ArgPattern
  var_arg start = var >>= after_var start

  abbrev pub no_con_arg : Read ArgPattern
  no_con_arg = λ ss. if var_next ss then var_arg ss ss else other_arg ss ss

  unfoldable pub whole_arg : Read ArgPattern
  whole_arg = λ ss. if gen_con_next ss then (gen_con >>= λ c. pure (v_ArgPattern.Con c)) ss else no_con_arg ss

-- an argument that nests at most so deep
unfoldable pub arg : ℕ → Read ArgPattern
arg zero = fail
arg (suc n) = whole_arg (arg n)

-- what can stand behind an argument, an operand and a pattern: nothing that goes on with it
abbrev pub ends_arg : List Sym → Bool
ends_arg ss = not (at_next ss)

abbrev pub ends_operand : List Sym → Bool
ends_operand ss = not (at_next ss) && not (begins_arg ss)

abbrev pub ends_pattern : List Sym → Bool
ends_pattern ss = ends_operand ss && not (con_op_next ss)
