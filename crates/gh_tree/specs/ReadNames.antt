-- How names, operators and constructors are read.
use Rattle.std.specs.Prelude.{Bool, true, false, ◌&&◌, List, Option, Some, None}
use Rattle.gh_base.specs.declared.place.Span.{Span}
use Rattle.gh_tree.specs.declared.symbol.Kind.{Kind}
use Rattle.gh_tree.specs.declared.symbol.Kind.TheVariants as k
use Rattle.gh_tree.specs.declared.symbol.Sym.{Sym}
use Rattle.gh_tree.specs.declared.names.Name.{Name}
use Rattle.gh_tree.specs.declared.names.Var.{Var}
use Rattle.gh_tree.specs.declared.names.Var.TheVariants as n_Var
use Rattle.gh_tree.specs.declared.names.Con.TheVariants as n_Con
use Rattle.gh_tree.specs.declared.names.ConOp.{ConOp}
use Rattle.gh_tree.specs.declared.names.ConOp.TheVariants as n_ConOp
use Rattle.gh_tree.specs.declared.names.GenCon.{GenCon}
use Rattle.gh_tree.specs.declared.names.GenCon.TheVariants as n_GenCon
use Rattle.gh_tree.specs.Print.{is_tuple}
use Rattle.gh_tree.specs.Read.{Read, ◌>>=◌, pure, fail, check, kind, after, peek, next, expect, here, since, is_close, is_close_list, is_backquote, commas}

-- a constructor as an operand comes next: its first two tokens
abbrev pub closes_con : Option Kind → Bool
closes_con (Some k.Close) = true
closes_con (Some k.Comma) = true
closes_con (Some (k.ConSym q n)) = true
closes_con _ = false

abbrev pub gen_con_by : Option Kind → Option Kind → Bool
gen_con_by (Some (k.ConId q n)) second = true
gen_con_by (Some k.Open) second = closes_con second
gen_con_by (Some k.OpenList) second = is_close_list second
gen_con_by _ second = false

unfoldable pub gen_con_next : List Sym → Bool
gen_con_next ss = gen_con_by (kind ss) (kind (after ss))

-- a variable without a qualifier comes next: its first three tokens
abbrev pub is_plain_sym : Option Kind → Bool
is_plain_sym (Some (k.VarSym None n)) = true
is_plain_sym _ = false

abbrev pub var_by : Option Kind → Option Kind → Option Kind → Bool
var_by (Some (k.VarId None n)) second third = true
var_by (Some k.Open) second third = is_plain_sym second && is_close third
var_by _ second third = false

unfoldable pub var_next : List Sym → Bool
var_next ss = var_by (kind ss) (kind (after ss)) (kind (after (after ss)))

-- a name of each class

abbrev pub con_id_by : Option Kind → Read Name
con_id_by (Some (k.ConId q n)) = next >>= λ a. pure (record { span = a; qualifier = q; id = n })
con_id_by _ = fail

unfoldable pub con_id : Read Name
con_id = peek >>= con_id_by

abbrev pub plain_sym_by : Option Kind → Read Name
plain_sym_by (Some (k.VarSym None n)) = next >>= λ a. pure (record { span = a; qualifier = None; id = n })
plain_sym_by _ = fail

unfoldable pub plain_sym : Read Name
plain_sym = peek >>= plain_sym_by

unfoldable pub symbol_var : Span → Read Var
symbol_var a = do
  n ← plain_sym
  b ← expect is_close
  pure (n_Var.Symbol a n b)

-- a variable without a qualifier
abbrev pub var_read_by : Option Kind → Read Var
var_read_by (Some (k.VarId None n)) = next >>= λ a. pure (n_Var.Word (record { span = a; qualifier = None; id = n }))
var_read_by (Some k.Open) = next >>= symbol_var
var_read_by _ = fail

unfoldable pub var : Read Var
var = peek >>= var_read_by

-- a constructor as an operand

unfoldable pub gen_unit : List Sym → Span → Read GenCon
gen_unit start a = do
  b ← next
  s ← since start
  pure (n_GenCon.Unit s a b)

unfoldable pub gen_tuple : List Sym → Span → Read GenCon
gen_tuple start a = do
  cs ← commas
  b ← expect is_close
  s ← since start
  check (is_tuple cs) (n_GenCon.Tuple s a cs b)

unfoldable pub gen_nil : List Sym → Span → Read GenCon
gen_nil start a = do
  b ← expect is_close_list
  s ← since start
  pure (n_GenCon.Nil s a b)

abbrev pub gen_symbol : Span → Span → Name → Read GenCon
gen_symbol a m n = expect is_close >>= λ b. pure (n_GenCon.Con (n_Con.Symbol a n b))

abbrev pub gen_opened_by : Option Kind → List Sym → Span → Read GenCon
gen_opened_by (Some k.Close) start a = gen_unit start a
gen_opened_by (Some k.Comma) start a = gen_tuple start a
gen_opened_by (Some (k.ConSym q n)) start a = next >>= λ m. gen_symbol a m (record { span = m; qualifier = q; id = n })
gen_opened_by _ start a = fail

unfoldable pub gen_opened : List Sym → Span → Read GenCon
gen_opened start a = peek >>= λ kind. gen_opened_by kind start a

abbrev pub gen_con_read_by : Option Kind → List Sym → Read GenCon
gen_con_read_by (Some (k.ConId q n)) start = next >>= λ a. pure (n_GenCon.Con (n_Con.Word (record { span = a; qualifier = q; id = n })))
gen_con_read_by (Some k.Open) start = next >>= gen_opened start
gen_con_read_by (Some k.OpenList) start = next >>= gen_nil start
gen_con_read_by _ start = fail

unfoldable pub gen_con : Read GenCon
gen_con = here >>= λ start. peek >>= λ kind. gen_con_read_by kind start

-- a constructor operator comes next: its first two tokens
abbrev pub is_con_id : Option Kind → Bool
is_con_id (Some (k.ConId q n)) = true
is_con_id _ = false

abbrev pub con_op_next_by : Option Kind → Option Kind → Bool
con_op_next_by (Some (k.ConSym q n)) second = true
con_op_next_by (Some k.Colon) second = true
con_op_next_by (Some k.Backquote) second = is_con_id second
con_op_next_by _ second = false

unfoldable pub con_op_next : List Sym → Bool
con_op_next ss = con_op_next_by (kind ss) (kind (after ss))

unfoldable pub quoted_con : Span → Read ConOp
quoted_con a = do
  n ← con_id
  b ← expect is_backquote
  pure (n_ConOp.Quoted a n b)

abbrev pub con_op_by : Option Kind → Read ConOp
con_op_by (Some (k.ConSym q n)) = next >>= λ a. pure (n_ConOp.Symbol (record { span = a; qualifier = q; id = n }))
con_op_by (Some k.Colon) = next >>= λ a. pure (n_ConOp.Colon a)
con_op_by (Some k.Backquote) = next >>= quoted_con
con_op_by _ = fail

unfoldable pub con_op : Read ConOp
con_op = peek >>= con_op_by
