-- Where the rules on declarations fail inside a node: at a node that stands in it. Few nodes have a rule of their own: a list of
-- declarations, a clause, a lambda and an alternative.
use Rattle.std.specs.Prelude.{List, [], ◌++◌}
use Rattle.std.specs.List.{flat_map}
use Rattle.gh_tree.specs.declared.expressions.Aexp.{Aexp}
use Rattle.gh_tree.specs.declared.expressions.Alt.{Alt, out-Alt}
use Rattle.gh_tree.specs.declared.expressions.Decl.{Decl, out-Decl}
use Rattle.gh_tree.specs.declared.expressions.Exp.{Exp}
use Rattle.gh_tree.specs.declared.expressions.Locals.{Locals}
use Rattle.gh_tree.specs.declared.expressions.Open.{Open, out-Open}
use Rattle.gh_tree.specs.declared.expressions.Operand.{Operand}
use Rattle.gh_tree.specs.declared.expressions.Rhs.{Rhs}
use Rattle.gh_tree.specs.declared.expressions.Where.{Where}
use Rattle.gh_tree.specs.declared.expressions.AltGuard.{AltGuard}
use Rattle.gh_tree.specs.declared.expressions.AltItem.{AltItem}
use Rattle.gh_tree.specs.declared.expressions.Alts.{Alts}
use Rattle.gh_tree.specs.declared.expressions.DeclItem.{DeclItem}
use Rattle.gh_tree.specs.declared.expressions.Decls.{Decls, out-Decls}
use Rattle.gh_tree.specs.declared.expressions.Guard.{Guard}
use Rattle.gh_tree.specs.declared.expressions.NextOperand.{NextOperand}
use Rattle.gh_tree.specs.declared.expressions.OperandList.{OperandList}
use Rattle.gh_tree.specs.declared.expressions.Part.{Part}
use Rattle.gh_tree.specs.declared.expressions.Redef.{Redef}
use Rattle.gh_tree.specs.declared.expressions.RedefItem.{RedefItem}
use Rattle.gh_tree.specs.declared.expressions.Redefs.{Redefs}
use Rattle.gh_tree.specs.declared.expressions.Aexp.TheOpen.{Alt-F, Decl-F, Decls-F, Open-F}
use Rattle.gh_limits.specs.Nodes.{Among, Node, an_open, an_alt, a_decl, a_decls, StandsIn}
use Rattle.gh_declarations.specs.declared.named.Failure.{Failure}
use Rattle.gh_declarations.specs.Inside.{lambda_variables, declared_at}
use Rattle.gh_declarations.specs.Lists.{list_failures, repeated}
use Rattle.gh_declarations.specs.Patterns.{pattern_variables, left_variables}

-- the patterns of a lambda are one list of patterns
abbrev pub open_own : Open-F Aexp Alt Decl Exp Locals Open Operand Rhs Where AltGuard AltItem Alts DeclItem Decls Guard NextOperand OperandList Part Redef RedefItem Redefs → List Failure
open_own (Open-F.Lambda x0 x1 x2 x3 x4 x5) = repeated (lambda_variables x2 x3)
open_own (Open-F.Let x0 x1 x2 x3 x4) = []
open_own (Open-F.If x0 x1 x2 x3 x4 x5 x6) = []

-- the pattern of an alternative is one by itself
abbrev pub alt_own : Alt-F Aexp Alt Decl Exp Locals Open Operand Rhs Where AltGuard AltItem Alts DeclItem Decls Guard NextOperand OperandList Part Redef RedefItem Redefs → List Failure
alt_own (Alt-F.Alt::Plain x0 x1 x2 x3 x4) = repeated (pattern_variables x1)
alt_own (Alt-F.Alt::Guarded x0 x1 x2 x3 x4) = repeated (pattern_variables x1)

-- the arguments of a clause are one list of patterns. The variables of the binding of a pattern are names of its list of
-- declarations.
abbrev pub decl_own : Decl-F Aexp Alt Decl Exp Locals Open Operand Rhs Where AltGuard AltItem Alts DeclItem Decls Guard NextOperand OperandList Part Redef RedefItem Redefs → List Failure
decl_own (Decl-F.Signature x0 x1 x2 x3 x4) = []
decl_own (Decl-F.Fixity x0 x1 x2 x3 x4) = []
decl_own (Decl-F.Function x0 x1 x2) = repeated (left_variables x1)
decl_own (Decl-F.Pattern x0 x1 x2) = []

abbrev pub decls_own : Decls-F Aexp Alt Decl Exp Locals Open Operand Rhs Where AltGuard AltItem Alts DeclItem Decls Guard NextOperand OperandList Part Redef RedefItem Redefs → List Failure
decls_own z = list_failures (flat_map declared_at z.decls)

abbrev pub own_failures : Node → List Failure
own_failures (an_open x) = open_own (out-Open x)
own_failures (an_alt x) = alt_own (out-Alt x)
own_failures (a_decl x) = decl_own (out-Decl x)
own_failures (a_decls x) = decls_own (out-Decls x)
own_failures _ = []

-- a rule fails at a node that stands in this one
abbrev pub FailsInside : Failure → Node → Type 0
FailsInside f n = (m : Node) × StandsIn m n × Among f (own_failures m)
