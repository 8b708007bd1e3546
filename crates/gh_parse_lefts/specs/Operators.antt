-- How the operator that a left side defines is read.
use Rattle.std.specs.Prelude.{Bool, true, false, List, Option, Some, None}
use Rattle.gh_base.specs.declared.place.Span.{Span}
use Rattle.gh_tree.specs.declared.symbol.Kind.{Kind}
use Rattle.gh_tree.specs.declared.symbol.Kind.TheVariants as k
use Rattle.gh_tree.specs.declared.symbol.Sym.{Sym}
use Rattle.gh_tree.specs.declared.names.Name.{Name}
use Rattle.gh_tree.specs.declared.names.VarOp.{VarOp}
use Rattle.gh_tree.specs.declared.names.VarOp.TheVariants as n_VarOp
use Rattle.gh_tree.specs.Read.{Read, ◌>>=◌, pure, fail, kind, after, peek, next, expect, is_backquote}

-- a variable operator without a qualifier comes next: its first two tokens
abbrev pub is_var_id : Option Kind → Bool
is_var_id (Some (k.VarId None n)) = true
is_var_id _ = false

abbrev pub var_op_next_by : Option Kind → Option Kind → Bool
var_op_next_by (Some (k.VarSym None n)) second = true
var_op_next_by (Some k.Backquote) second = is_var_id second
var_op_next_by _ second = false

unfoldable pub var_op_next : List Sym → Bool
var_op_next ss = var_op_next_by (kind ss) (kind (after ss))

-- a variable name without a qualifier
abbrev pub var_id_by : Option Kind → Read Name
var_id_by (Some (k.VarId None n)) = next >>= λ a. pure (record { span = a; qualifier = None; id = n })
var_id_by _ = fail

unfoldable pub var_id : Read Name
var_id = peek >>= var_id_by

unfoldable pub quoted_var : Span → Read VarOp
quoted_var a = do
  n ← var_id
  b ← expect is_backquote
  pure (n_VarOp.Quoted a n b)

abbrev pub var_op_by : Option Kind → Read VarOp
var_op_by (Some (k.VarSym None n)) = next >>= λ a. pure (n_VarOp.Symbol (record { span = a; qualifier = None; id = n }))
var_op_by (Some k.Backquote) = next >>= quoted_var
var_op_by _ = fail

unfoldable pub var_op : Read VarOp
var_op = peek >>= var_op_by
