-- One level of each node of a declaration that the first form looks at.
use Rattle.gh_tree.specs.declared.expressions.Aexp.{Aexp}
use Rattle.gh_tree.specs.declared.expressions.Alt.{Alt}
use Rattle.gh_tree.specs.declared.expressions.AltGuard.{AltGuard}
use Rattle.gh_tree.specs.declared.expressions.AltItem.{AltItem}
use Rattle.gh_tree.specs.declared.expressions.Alts.{Alts}
use Rattle.gh_tree.specs.declared.expressions.Decl.{Decl}
use Rattle.gh_tree.specs.declared.expressions.DeclItem.{DeclItem}
use Rattle.gh_tree.specs.declared.expressions.Decls.{Decls}
use Rattle.gh_tree.specs.declared.expressions.Exp.{Exp}
use Rattle.gh_tree.specs.declared.expressions.Guard.{Guard}
use Rattle.gh_tree.specs.declared.expressions.Locals.{Locals}
use Rattle.gh_tree.specs.declared.expressions.NextOperand.{NextOperand}
use Rattle.gh_tree.specs.declared.expressions.Open.{Open}
use Rattle.gh_tree.specs.declared.expressions.Operand.{Operand}
use Rattle.gh_tree.specs.declared.expressions.OperandList.{OperandList}
use Rattle.gh_tree.specs.declared.expressions.Part.{Part}
use Rattle.gh_tree.specs.declared.expressions.Redef.{Redef}
use Rattle.gh_tree.specs.declared.expressions.RedefItem.{RedefItem}
use Rattle.gh_tree.specs.declared.expressions.Redefs.{Redefs}
use Rattle.gh_tree.specs.declared.expressions.Rhs.{Rhs}
use Rattle.gh_tree.specs.declared.expressions.Where.{Where}
use Rattle.gh_tree.specs.declared.expressions.Aexp.TheOpen.{Aexp-F, Decl-F, Exp-F, Operand-F, Rhs-F, Where-F, NextOperand-F, OperandList-F}
use Rattle.gh_tree.specs.declared.patterns.FunLhs.{FunLhs}
use Rattle.gh_tree.specs.declared.patterns.FunLhs.TheOpen.{FunLhs-F}

abbrev pub AexpLayer : Type 0
AexpLayer = Aexp-F Aexp Alt Decl Exp Locals Open Operand Rhs Where AltGuard AltItem Alts DeclItem Decls Guard NextOperand OperandList Part Redef RedefItem Redefs

abbrev pub DeclLayer : Type 0
DeclLayer = Decl-F Aexp Alt Decl Exp Locals Open Operand Rhs Where AltGuard AltItem Alts DeclItem Decls Guard NextOperand OperandList Part Redef RedefItem Redefs

abbrev pub ExpLayer : Type 0
ExpLayer = Exp-F Aexp Alt Decl Exp Locals Open Operand Rhs Where AltGuard AltItem Alts DeclItem Decls Guard NextOperand OperandList Part Redef RedefItem Redefs

abbrev pub NextOperandLayer : Type 0
NextOperandLayer = NextOperand-F Aexp Alt Decl Exp Locals Open Operand Rhs Where AltGuard AltItem Alts DeclItem Decls Guard NextOperand OperandList Part Redef RedefItem Redefs

abbrev pub OperandLayer : Type 0
OperandLayer = Operand-F Aexp Alt Decl Exp Locals Open Operand Rhs Where AltGuard AltItem Alts DeclItem Decls Guard NextOperand OperandList Part Redef RedefItem Redefs

abbrev pub OperandListLayer : Type 0
OperandListLayer = OperandList-F Aexp Alt Decl Exp Locals Open Operand Rhs Where AltGuard AltItem Alts DeclItem Decls Guard NextOperand OperandList Part Redef RedefItem Redefs

abbrev pub RhsLayer : Type 0
RhsLayer = Rhs-F Aexp Alt Decl Exp Locals Open Operand Rhs Where AltGuard AltItem Alts DeclItem Decls Guard NextOperand OperandList Part Redef RedefItem Redefs

abbrev pub WhereLayer : Type 0
WhereLayer = Where-F Aexp Alt Decl Exp Locals Open Operand Rhs Where AltGuard AltItem Alts DeclItem Decls Guard NextOperand OperandList Part Redef RedefItem Redefs

abbrev pub FunLhsLayer : Type 0
FunLhsLayer = FunLhs-F FunLhs
