-- How export lists are read.
use Rattle.std.specs.Prelude.{Bool, not, ◌&&◌, List, Option, Some, None}
use Rattle.gh_base.specs.declared.place.Span.{Span}
use Rattle.gh_tree.specs.declared.symbol.Kind.{Kind}
use Rattle.gh_tree.specs.declared.symbol.Kind.TheVariants as k
use Rattle.gh_tree.specs.declared.symbol.Sym.{Sym}
use Rattle.gh_tree.specs.declared.names.Name.{Name}
use Rattle.gh_tree.specs.declared.names.Var.{Var}
use Rattle.gh_tree.specs.declared.names.Var.TheVariants as n_Var
use Rattle.gh_tree.specs.declared.names.Con.{Con}
use Rattle.gh_tree.specs.declared.names.Con.TheVariants as n_Con
use Rattle.gh_tree.specs.declared.tops.Export.{Export}
use Rattle.gh_tree.specs.declared.tops.Export.TheVariants as v_Export
use Rattle.gh_tree.specs.declared.tops.ExportList.{ExportList}
use Rattle.gh_tree.specs.declared.tops.Exports.{Exports}
use Rattle.gh_tree.specs.declared.tops.NextCon.{NextCon}
use Rattle.gh_tree.specs.declared.tops.NextExport.{NextExport}
use Rattle.gh_tree.specs.declared.tops.Parts.{Parts}
use Rattle.gh_tree.specs.declared.tops.Parts.TheVariants as v_Parts
use Rattle.gh_tree.specs.Read.{Read, ◌>>=◌, pure, fail, kind, after, peek, next, expect, here, since, all, is_open, is_close, is_comma, comma_next}

-- a variable, with a qualifier or none

abbrev pub sym_by : Option Kind → Read Name
sym_by (Some (k.VarSym q n)) = next >>= λ a. pure (record { span = a; qualifier = q; id = n })
sym_by _ = fail

unfoldable pub sym_name : Read Name
sym_name = peek >>= sym_by

unfoldable pub symbol_any : Span → Read Var
symbol_any a = do
  n ← sym_name
  b ← expect is_close
  pure (n_Var.Symbol a n b)

abbrev pub any_var_by : Option Kind → Read Var
any_var_by (Some (k.VarId q n)) = next >>= λ a. pure (n_Var.Word (record { span = a; qualifier = q; id = n }))
any_var_by (Some k.Open) = next >>= symbol_any
any_var_by _ = fail

unfoldable pub any_var : Read Var
any_var = peek >>= any_var_by

-- a constructor without a qualifier

abbrev pub plain_con_sym_by : Option Kind → Read Name
plain_con_sym_by (Some (k.ConSym None n)) = next >>= λ a. pure (record { span = a; qualifier = None; id = n })
plain_con_sym_by _ = fail

unfoldable pub plain_con_sym : Read Name
plain_con_sym = peek >>= plain_con_sym_by

unfoldable pub symbol_con : Span → Read Con
symbol_con a = do
  n ← plain_con_sym
  b ← expect is_close
  pure (n_Con.Symbol a n b)

abbrev pub con_by : Option Kind → Read Con
con_by (Some (k.ConId None n)) = next >>= λ a. pure (n_Con.Word (record { span = a; qualifier = None; id = n }))
con_by (Some k.Open) = next >>= symbol_con
con_by _ = fail

unfoldable pub con : Read Con
con = peek >>= con_by

unfoldable pub next_con : Read NextCon
next_con = do
  m ← next
  c ← con
  pure (record { mark = m; con = c })

unfoldable pub next_cons : Read (List NextCon)
next_cons = all comma_next next_con

-- the constructors of a type: all, none, or some (Haskell 98 Report, 5.2 and 5.3)

unfoldable pub all_parts : List Sym → Span → Read Parts
all_parts start a = do
  m ← next
  b ← expect is_close
  s ← since start
  pure (v_Parts.All s a m b)

unfoldable pub empty_parts : List Sym → Span → Read Parts
empty_parts start a = do
  b ← next
  s ← since start
  pure (v_Parts.Empty s a b)

unfoldable pub listed_parts : List Sym → Span → Read Parts
listed_parts start a = do
  c ← con
  cs ← next_cons
  b ← expect is_close
  s ← since start
  pure (v_Parts.Listed s a c cs b)

abbrev pub parts_by : Option Kind → List Sym → Span → Read Parts
parts_by (Some k.DotDot) start a = all_parts start a
parts_by (Some k.Close) start a = empty_parts start a
parts_by _ start a = listed_parts start a

unfoldable pub parts_opened : List Sym → Span → Read Parts
parts_opened start a = peek >>= λ kind. parts_by kind start a

unfoldable pub some_parts : Read (Option Parts)
some_parts = do
  start ← here
  a ← next
  p ← parts_opened start a
  pure (Some p)

abbrev pub any_parts_by : Option Kind → Read (Option Parts)
any_parts_by (Some k.Open) = some_parts
any_parts_by _ = pure None

unfoldable pub any_parts : Read (Option Parts)
any_parts = peek >>= any_parts_by

-- exports

unfoldable pub con_export : List Sym → Name → Read Export
con_export start n = do
  ps ← any_parts
  s ← since start
  pure (v_Export.Con s n ps)

abbrev pub module_name_by : Option Kind → Read Name
module_name_by (Some (k.ConId None n)) = next >>= λ a. pure (record { span = a; qualifier = None; id = n })
module_name_by _ = fail

unfoldable pub module_name : Read Name
module_name = peek >>= module_name_by

unfoldable pub module_export : List Sym → Span → Read Export
module_export start a = do
  n ← module_name
  s ← since start
  pure (v_Export.Module s a n)

abbrev pub export_by : Option Kind → List Sym → Read Export
export_by (Some (k.ConId q n)) start = next >>= λ a. con_export start (record { span = a; qualifier = q; id = n })
export_by (Some k.Module) start = next >>= module_export start
export_by _ start = any_var >>= λ v. pure (v_Export.Var v)

unfoldable pub export : Read Export
export = here >>= λ start. peek >>= λ kind. export_by kind start

unfoldable pub next_export : Read NextExport
next_export = do
  m ← next
  x ← export
  pure (record { mark = m; export = x })

-- a comma comes next, and it is not the last
abbrev pub goes_on_by : Option Kind → Option Kind → Bool
goes_on_by first second = is_comma first && not (is_close second)

abbrev pub goes_on : List Sym → Bool
goes_on ss = goes_on_by (kind ss) (kind (after ss))

unfoldable pub next_exports : Read (List NextExport)
next_exports = all goes_on next_export

unfoldable pub some_exports : Read (Option ExportList)
some_exports = do
  x ← export
  xs ← next_exports
  pure (Some (record { first = x; others = xs }))

abbrev pub export_list_by : Option Kind → Read (Option ExportList)
export_list_by (Some k.Close) = pure None
export_list_by (Some k.Comma) = pure None
export_list_by _ = some_exports

unfoldable pub export_list : Read (Option ExportList)
export_list = peek >>= export_list_by

abbrev pub last_comma_by : Option Kind → Read (Option Span)
last_comma_by (Some k.Comma) = next >>= λ a. pure (Some a)
last_comma_by _ = pure None

unfoldable pub last_comma : Read (Option Span)
last_comma = peek >>= last_comma_by

unfoldable pub exports : Read Exports
exports = do
  start ← here
  a ← expect is_open
  l ← export_list
  c ← last_comma
  b ← expect is_close
  s ← since start
  pure (record { span = s; «open» = a; list = l; comma = c; close = b })

-- what can stand behind an export: no list of constructors
abbrev pub ends_export : List Sym → Bool
ends_export ss = not (is_open (kind ss))
