-- How expressions are read.
use Rattle.std.specs.Prelude.{ℕ, zero, suc, Bool, true, false, not, if◌then◌else◌, List, map, Option, Some, None}
use Rattle.gh_base.specs.declared.place.Span.{Span}
use Rattle.gh_tree.specs.declared.symbol.Kind.{Kind}
use Rattle.gh_tree.specs.declared.symbol.Kind.TheVariants as k
use Rattle.gh_tree.specs.declared.symbol.Sym.{Sym}
use Rattle.gh_tree.specs.declared.names.Name.{Name}
use Rattle.gh_tree.specs.declared.names.Var.{Var}
use Rattle.gh_tree.specs.declared.names.BlockMark.{BlockMark}
use Rattle.gh_tree.specs.declared.patterns.Pattern.{Pattern}
use Rattle.gh_tree.specs.declared.expressions.Aexp.{Aexp}
use Rattle.gh_tree.specs.declared.expressions.Aexp.TheVariants as v_Aexp
use Rattle.gh_tree.specs.declared.expressions.Alt.{Alt}
use Rattle.gh_tree.specs.declared.expressions.Alt.TheVariants as v_Alt
use Rattle.gh_tree.specs.declared.expressions.AltGuard.{AltGuard, roll-AltGuard}
use Rattle.gh_tree.specs.declared.expressions.AltItem.{AltItem, roll-AltItem}
use Rattle.gh_tree.specs.declared.expressions.Alts.{Alts, roll-Alts}
use Rattle.gh_tree.specs.declared.expressions.Decls.{Decls}
use Rattle.gh_tree.specs.declared.expressions.Exp.{Exp}
use Rattle.gh_tree.specs.declared.expressions.Exp.TheVariants as v_Exp
use Rattle.gh_tree.specs.declared.expressions.Locals.{Locals}
use Rattle.gh_tree.specs.declared.expressions.Locals.TheVariants as v_Locals
use Rattle.gh_tree.specs.declared.expressions.NextOperand.{NextOperand, roll-NextOperand}
use Rattle.gh_tree.specs.declared.expressions.Open.{Open}
use Rattle.gh_tree.specs.declared.expressions.Open.TheVariants as v_Open
use Rattle.gh_tree.specs.declared.expressions.Operand.{Operand}
use Rattle.gh_tree.specs.declared.expressions.Operand.TheVariants as v_Operand
use Rattle.gh_tree.specs.declared.expressions.OperandList.{OperandList, roll-OperandList}
use Rattle.gh_tree.specs.declared.expressions.Part.{Part, roll-Part}
use Rattle.gh_tree.specs.declared.expressions.Redef.{Redef, roll-Redef}
use Rattle.gh_tree.specs.declared.expressions.RedefItem.{RedefItem, roll-RedefItem}
use Rattle.gh_tree.specs.declared.expressions.Redefs.{Redefs, roll-Redefs}
use Rattle.gh_tree.specs.Print.{is_tuple, is_some, closed_before}
use Rattle.gh_tree.specs.Print as printed
use Rattle.gh_tree.specs.Read.{Read, ◌>>=◌, pure, fail, check, kind, peek, next, expect, here, since, all, is_close, is_close_list, is_arrow, comma_next}
use Rattle.gh_tree.specs.ReadNames.{gen_con}
use Rattle.gh_tree.specs.ReadExports.{any_var}
use Rattle.gh_tree.specs.ReadPatterns.{args, pattern, arg}
use Rattle.gh_tree.specs.ReadTypes.{type_expr}
use Rattle.gh_parse_lefts.specs.Lefts.{left}
use Rattle.gh_parse_exps.specs.Knot.{Knot}
use Rattle.gh_parse_exps.specs.Ops.{is_banana, con_next, any_var_next, call_next, goes_on, right_next, op, minus_sign}
use Rattle.gh_parse_exps.specs.Marks.{is_equals, is_bar, is_of, is_in, is_then, is_else, is_close_banana, bar_next, block_open, block_close, semis, begins_part, part_ends}
use Rattle.gh_parse_exps.specs.Decls.{plain_of, closed_or, plain, closed, where_part, decls_end, whole_decls}

-- what begins an argument
abbrev pub begins_aexp_by : Option Kind → Bool
begins_aexp_by (Some (k.VarId q n)) = true
begins_aexp_by (Some (k.ConId q n)) = true
begins_aexp_by (Some (k.Int n)) = true
begins_aexp_by (Some (k.Char n)) = true
begins_aexp_by (Some (k.Str n)) = true
begins_aexp_by (Some k.Open) = true
begins_aexp_by (Some k.OpenList) = true
begins_aexp_by _ = false

abbrev pub begins_aexp : List Sym → Bool
begins_aexp ss = begins_aexp_by (kind ss)

-- a variable without a qualifier that is no operator
abbrev pub word_by : Option Kind → Read Name
word_by (Some (k.VarId None n)) = next >>= λ a. pure (record { span = a; qualifier = None; id = n })
word_by _ = fail

unfoldable pub word : Read Name
word = peek >>= word_by

unfoldable pub paren : List Sym → Span → Exp → Read Aexp
paren start a first = do
  b ← expect is_close
  s ← since start
  pure (v_Aexp.Paren s a first b)

-- operands and an operator between parentheses
unfoldable pub left_section : List Sym → Span → Exp → Read Aexp
left_section start a first = do
  xs ← closed_or (plain_of first)
  o ← op
  b ← expect is_close
  s ← since start
  pure (v_Aexp.Left s a xs o b)

-- the end of a block, behind its alternatives, of which there is one at least
abbrev pub alts_closed : List Sym → BlockMark → List BlockMark → List AltItem → Read Alts
alts_closed start a ms xs =
    block_close >>= λ b. since start >>= λ s. check (is_some xs) (roll-Alts (record { span = s; «open» = a; before = ms; alts = xs; close = b }))

-- the end of a block, behind its redefinitions, of which there is one at least
abbrev pub redefs_closed : List Sym → BlockMark → List BlockMark → List RedefItem → Read Redefs
redefs_closed start a ms xs =
    block_close >>= λ b. since start >>= λ s. check (is_some xs) (roll-Redefs (record { span = s; «open» = a; before = ms; redefs = xs; close = b }))

-- operands with operators between them, where each but the last ends before the next operator
abbrev pub operand_list : List Sym → Option Span → Operand → List NextOperand → Read OperandList
operand_list start m first others =
    since start
    >>= λ s. check (closed_before (printed.operand first).is_open (map printed.next_operand others)) (roll-OperandList (record { span = s; minus = m; first = first; others = others }))

-- an alternative with each `;` behind it
abbrev pub alt_item_of : Alt → List BlockMark → AltItem
alt_item_of x ms = roll-AltItem (record { alt = x; marks = ms })

module _ (K : Knot) where
  -- ---- alternatives

  unfoldable pub alt_guard : Read AltGuard
  alt_guard = do
    start ← here
    a ← expect is_bar
    test ← closed K
    m ← expect is_arrow
    e ← K.exp
    s ← since start
    pure (roll-AltGuard (record { span = s; bar = a; test = test; mark = m; body = e }))

  unfoldable pub alt_guards : Read (List AltGuard)
  alt_guards = all bar_next alt_guard

  unfoldable pub plain_alt : List Sym → Pattern → Read Alt
  plain_alt start p = do
    m ← next
    e ← K.exp
    w ← where_part K
    s ← since start
    pure (v_Alt.Plain s p m e w)

  unfoldable pub guarded_alt : List Sym → Pattern → Read Alt
  guarded_alt start p = do
    g ← alt_guard
    gs ← alt_guards
    w ← where_part K
    s ← since start
    pure (v_Alt.Guarded s p g gs w)

  abbrev pub alt_by : Option Kind → List Sym → Pattern → Read Alt
  alt_by (Some k.Arrow) start p = plain_alt start p
  alt_by _ start p = guarded_alt start p

  unfoldable pub behind_pattern : List Sym → Pattern → Read Alt
  behind_pattern start p = peek >>= λ kind. alt_by kind start p

  unfoldable pub alt : Read Alt
  alt = here >>= λ start. pattern K.arg >>= behind_pattern start

  unfoldable pub alt_item : Read AltItem
  alt_item = do
    x ← alt
    ms ← semis
    part_ends ms (roll-AltItem (record { alt = x; marks = ms }))

  unfoldable pub alt_items : Read (List AltItem)
  alt_items = all begins_part alt_item

  unfoldable pub alts_end : List Sym → BlockMark → List BlockMark → Read Alts
  alts_end start a ms = do
    xs ← alt_items
    alts_closed start a ms xs

  unfoldable pub alts : Read Alts
  alts = do
    start ← here
    a ← block_open
    ms ← semis
    alts_end start a ms

  -- ---- local declarations

  unfoldable pub redef : Read Redef
  redef = do
    start ← here
    v ← any_var
    a ← expect is_banana
    n ← word
    b ← expect is_close_banana
    m ← expect is_equals
    e ← K.exp
    s ← since start
    pure (roll-Redef (record { span = s; function = v; «open» = a; variable = n; close = b; equals = m; body = e }))

  unfoldable pub redef_item : Read RedefItem
  redef_item = do
    x ← redef
    ms ← semis
    part_ends ms (roll-RedefItem (record { redef = x; marks = ms }))

  unfoldable pub redef_items : Read (List RedefItem)
  redef_items = all begins_part redef_item

  unfoldable pub redefs_end : List Sym → BlockMark → List BlockMark → Read Redefs
  redefs_end start a ms = do
    xs ← redef_items
    redefs_closed start a ms xs

  abbrev pub locals_end : List Sym → BlockMark → List BlockMark → Read Locals
  locals_end start a ms = λ ss.
      if call_next ss then (redefs_end start a ms >>= λ rs. pure (v_Locals.Redefs rs)) ss else (decls_end K start a ms >>= λ ds. pure (v_Locals.Decls ds)) ss

  unfoldable pub locals : Read Locals
  locals = do
    start ← here
    a ← block_open
    ms ← semis
    locals_end start a ms

  -- ---- operands that go on to the right

  unfoldable pub lambda : List Sym → Read Open
  lambda start = do
    a ← next
    x ← K.arg
    xs ← args K.arg
    m ← expect is_arrow
    e ← K.exp
    s ← since start
    pure (v_Open.Lambda s a x xs m e)

  unfoldable pub let_in : List Sym → Read Open
  let_in start = do
    a ← next
    ls ← locals
    m ← expect is_in
    e ← K.exp
    s ← since start
    pure (v_Open.Let s a ls m e)

  unfoldable pub conditional : List Sym → Read Open
  conditional start = do
    a ← next
    x ← K.exp
    m ← expect is_then
    y ← K.exp
    n ← expect is_else
    z ← K.exp
    s ← since start
    pure (v_Open.If s a x m y n z)

  -- ---- arguments

  unfoldable pub part : Read Part
  part = do
    m ← next
    e ← K.exp
    pure (roll-Part (record { mark = m; exp = e }))

  unfoldable pub parts : Read (List Part)
  parts = all comma_next part

  unfoldable pub tuple : List Sym → Span → Exp → Read Aexp
  tuple start a first = do
    others ← parts
    b ← expect is_close
    s ← since start
    check (is_tuple others) (v_Aexp.Tuple s a first others b)

  abbrev pub behind_by : Option Kind → List Sym → Span → Exp → Read Aexp
  behind_by (Some k.Close) start a first = paren start a first
  behind_by (Some k.Comma) start a first = tuple start a first
  behind_by _ start a first = left_section start a first

  -- what stands behind `(` and an expression
  unfoldable pub behind : List Sym → Span → Exp → Read Aexp
  behind start a first = peek >>= λ kind. behind_by kind start a first

  -- an operator and operands between parentheses
  unfoldable pub right_section : List Sym → Span → Read Aexp
  right_section start a = do
    o ← op
    xs ← plain K
    b ← expect is_close
    s ← since start
    pure (v_Aexp.Right s a o xs b)

  unfoldable pub enclosed : List Sym → Span → Read Aexp
  enclosed start a = K.exp >>= behind start a

  -- what stands behind `(`
  unfoldable pub opened : List Sym → Span → Read Aexp
  opened start a = λ ss. if right_next ss then right_section start a ss else enclosed start a ss

  unfoldable pub listed : List Sym → Span → Read Aexp
  listed start a = do
    first ← K.exp
    others ← parts
    b ← expect is_close_list
    s ← since start
    pure (v_Aexp.List s a first others b)

  unfoldable pub generic : List Sym → Var → Read Aexp
  generic start v = do
    a ← next
    t ← K.typ
    b ← expect is_close_banana
    s ← since start
    pure (v_Aexp.Generic s v a t b)

  abbrev pub after_var_by : Option Kind → List Sym → Var → Read Aexp
  after_var_by (Some k.OpenBanana) start v = generic start v
  after_var_by _ start v = pure (v_Aexp.Var v)

  unfoldable pub after_var : List Sym → Var → Read Aexp
  after_var start v = peek >>= λ kind. after_var_by kind start v

  unfoldable pub var_aexp : List Sym → Read Aexp
  var_aexp start = any_var >>= after_var start

  abbrev pub other_aexp_by : Option Kind → List Sym → Read Aexp
  other_aexp_by (Some (k.Int n)) start = next >>= λ a. pure (v_Aexp.Int a n)
  other_aexp_by (Some (k.Char c)) start = next >>= λ a. pure (v_Aexp.Char a c)
  other_aexp_by (Some (k.Str cs)) start = next >>= λ a. pure (v_Aexp.Str a cs)
  other_aexp_by (Some k.Open) start = next >>= opened start
  other_aexp_by (Some k.OpenList) start = next >>= listed start
  other_aexp_by _ start = fail

  unfoldable pub other_aexp : List Sym → Read Aexp
  other_aexp start = peek >>= λ kind. other_aexp_by kind start

  abbrev pub no_con_aexp : Read Aexp
  no_con_aexp = λ ss. if any_var_next ss then var_aexp ss ss else other_aexp ss ss

  unfoldable pub aexp : Read Aexp
  aexp = λ ss. if con_next ss then (gen_con >>= λ c. pure (v_Aexp.Con c)) ss else no_con_aexp ss

  unfoldable pub aexps : Read (List Aexp)
  aexps = all begins_aexp aexp

  -- ---- operands

  unfoldable pub apply : List Sym → Read Operand
  apply start = do
    x ← aexp
    xs ← aexps
    s ← since start
    pure (v_Operand.Apply s x xs)

  unfoldable pub case_of : List Sym → Read Operand
  case_of start = do
    a ← next
    e ← K.exp
    m ← expect is_of
    xs ← alts
    s ← since start
    pure (v_Operand.Case s a e m xs)

  abbrev pub operand_by : Option Kind → List Sym → Read Operand
  operand_by (Some k.Case) start = case_of start
  operand_by (Some k.Backslash) start = lambda start >>= λ x. pure (v_Operand.Open x)
  operand_by (Some k.Let) start = let_in start >>= λ x. pure (v_Operand.Open x)
  operand_by (Some k.If) start = conditional start >>= λ x. pure (v_Operand.Open x)
  operand_by _ start = apply start

  unfoldable pub operand : Read Operand
  operand = here >>= λ start. peek >>= λ kind. operand_by kind start

  unfoldable pub next_operand : Read NextOperand
  next_operand = do
    o ← op
    m ← minus_sign
    x ← operand
    pure (roll-NextOperand (record { op = o; minus = m; operand = x }))

  unfoldable pub next_operands : Read (List NextOperand)
  next_operands = all goes_on next_operand

  -- operands of which only the last may go on to the right
  unfoldable pub operands : Read OperandList
  operands = do
    start ← here
    m ← minus_sign
    first ← operand
    others ← next_operands
    operand_list start m first others

  unfoldable pub typed : List Sym → OperandList → Read Exp
  typed start xs = do
    m ← next
    t ← K.typ
    s ← since start
    check (not (printed.operands xs).is_open) (v_Exp.Typed s xs m t)

  abbrev pub whole_by : Option Kind → List Sym → OperandList → Read Exp
  whole_by (Some k.Colons) start xs = typed start xs
  whole_by _ start xs = pure (v_Exp.Plain xs)

  unfoldable pub behind_operands : List Sym → OperandList → Read Exp
  behind_operands start xs = peek >>= λ kind. whole_by kind start xs

  unfoldable pub whole_exp : Read Exp
  whole_exp = here >>= λ start. operands >>= behind_operands start

-- ---- the two knots

abbrev pub tied : ℕ → Read Exp × Read Decls → Knot
tied n p = record { exp = p.0; decls = p.1; typ = type_expr n; arg = arg n; left = left n }

unfoldable pub twins : ℕ → Read Exp × Read Decls
twins zero = (fail, fail)
twins (suc n) = (whole_exp (tied n (twins n)), whole_decls (tied n (twins n)))

-- the readers of what nests at most so deep
abbrev pub knot : ℕ → Knot
knot n = tied n (twins n)
