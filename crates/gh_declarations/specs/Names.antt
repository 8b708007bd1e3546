-- Names where they are declared: a name's bytes include its parentheses or backquotes.
use Rattle.gh_base.specs.declared.fixed.TheConstants.{COLON}
use Rattle.gh_base.specs.declared.place.Span.{Span}
use Rattle.gh_tree.specs.declared.names.Name.{Name}
use Rattle.gh_tree.specs.declared.names.Var.{Var}
use Rattle.gh_tree.specs.declared.names.Var.TheVariants as v_var
use Rattle.gh_tree.specs.declared.names.VarOp.{VarOp}
use Rattle.gh_tree.specs.declared.names.VarOp.TheVariants as v_var_op
use Rattle.gh_tree.specs.declared.names.Con.{Con}
use Rattle.gh_tree.specs.declared.names.Con.TheVariants as v_con
use Rattle.gh_tree.specs.declared.names.ConOp.{ConOp}
use Rattle.gh_tree.specs.declared.names.ConOp.TheVariants as v_con_op
use Rattle.gh_tree.specs.declared.names.Op.{Op}
use Rattle.gh_tree.specs.declared.names.Op.TheVariants as v_op
use Rattle.gh_tree.specs.declared.tops.Constr.{Constr}
use Rattle.gh_tree.specs.declared.tops.Constr.TheVariants as v_constr
use Rattle.gh_declarations.specs.declared.named.Named.{Named}
use Rattle.gh_declarations.specs.declared.named.Rule.{Rule}
use Rattle.gh_declarations.specs.declared.named.Failure.{Failure}

abbrev pub failure : Rule → Named → Failure
failure r n = record { rule = r; span = n.span; name = n.name }

abbrev pub alone : Name → Named
alone n = record { span = n.span; name = n.id }

-- a name between two marks
abbrev pub between : Span → Name → Span → Named
between a n b = record { span = record { file = a.file; from = a.from; to = b.to }; name = n.id }

abbrev pub var_named : Var → Named
var_named (v_var.Word n) = alone n
var_named (v_var.Symbol a n b) = between a n b

abbrev pub var_op_named : VarOp → Named
var_op_named (v_var_op.Symbol n) = alone n
var_op_named (v_var_op.Quoted a n b) = between a n b

abbrev pub con_named : Con → Named
con_named (v_con.Word n) = alone n
con_named (v_con.Symbol a n b) = between a n b

abbrev pub con_op_named : ConOp → Named
con_op_named (v_con_op.Symbol n) = alone n
con_op_named (v_con_op.Colon s) = record { span = s; name = COLON }
con_op_named (v_con_op.Quoted a n b) = between a n b

abbrev pub op_named : Op → Named
op_named (v_op.Var o) = var_op_named o
op_named (v_op.Con o) = con_op_named o

abbrev pub constr_named : Constr → Named
constr_named (v_constr.Prefix s c ts) = con_named c
constr_named (v_constr.Infix s l o r) = con_op_named o
