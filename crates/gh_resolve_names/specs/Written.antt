-- A name as it is used: its bytes with parentheses or backquotes and qualifier, its qualifier, and its last part.
use Rattle.gh_base.specs.declared.place.Span.{Span}
use Rattle.gh_scopes.specs.declared.types.Used.{Used}
use Rattle.gh_tree.specs.declared.names.Name.{Name}
use Rattle.gh_tree.specs.declared.names.Var.{Var}
use Rattle.gh_tree.specs.declared.names.Var.TheVariants as var
use Rattle.gh_tree.specs.declared.names.Con.{Con}
use Rattle.gh_tree.specs.declared.names.Con.TheVariants as con
use Rattle.gh_tree.specs.declared.names.VarOp.{VarOp}
use Rattle.gh_tree.specs.declared.names.VarOp.TheVariants as var_op

-- a name between two marks
abbrev pub between : Span → Name → Span → Used
between a n b = record { span = record { file = a.file; from = a.from; to = b.to }; qualifier = n.qualifier; name = n.id }

abbrev pub used_name : Name → Used
used_name n = record { span = n.span; qualifier = n.qualifier; name = n.id }

abbrev pub used_var : Var → Used
used_var (var.Word n) = used_name n
used_var (var.Symbol a n b) = between a n b

abbrev pub used_con : Con → Used
used_con (con.Word n) = used_name n
used_con (con.Symbol a n b) = between a n b

abbrev pub used_var_op : VarOp → Used
used_var_op (var_op.Symbol n) = used_name n
used_var_op (var_op.Quoted a n b) = between a n b
