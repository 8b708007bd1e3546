-- Where the rules on declarations fail inside expressions and declarations: at each list of declarations, and at each list of
-- patterns, those of a clause, a lambda and an alternative (Haskell 98 Report, 3.17, 4.4.2 and 4.4.3).
use Rattle.std.specs.Prelude.{List, [], ◌∷◌, ◌++◌, map}
use Rattle.std.specs.List.{flat_map}
use Rattle.gh_base.specs.declared.place.Span.{Span}
use Rattle.gh_tree.specs.declared.names.NextOp.{NextOp}
use Rattle.gh_tree.specs.declared.names.NextVar.{NextVar}
use Rattle.gh_tree.specs.declared.names.Op.{Op}
use Rattle.gh_tree.specs.declared.names.Var.{Var}
use Rattle.gh_tree.specs.declared.patterns.ArgPattern.{ArgPattern}
use Rattle.gh_tree.specs.declared.patterns.FunLhs.{FunLhs}
use Rattle.gh_tree.specs.declared.expressions.Aexp.{Aexp, fold-Aexp}
use Rattle.gh_tree.specs.declared.expressions.Alt.{Alt, fold-Alt}
use Rattle.gh_tree.specs.declared.expressions.Decl.{Decl, fold-Decl}
use Rattle.gh_tree.specs.declared.expressions.Exp.{Exp, fold-Exp}
use Rattle.gh_tree.specs.declared.expressions.Locals.{Locals, fold-Locals}
use Rattle.gh_tree.specs.declared.expressions.Open.{Open, fold-Open}
use Rattle.gh_tree.specs.declared.expressions.Operand.{Operand, fold-Operand}
use Rattle.gh_tree.specs.declared.expressions.Rhs.{Rhs, fold-Rhs}
use Rattle.gh_tree.specs.declared.expressions.Where.{Where, fold-Where}
use Rattle.gh_tree.specs.declared.expressions.AltGuard.{AltGuard, fold-AltGuard}
use Rattle.gh_tree.specs.declared.expressions.AltItem.{AltItem, fold-AltItem}
use Rattle.gh_tree.specs.declared.expressions.Alts.{Alts, fold-Alts}
use Rattle.gh_tree.specs.declared.expressions.DeclItem.{DeclItem, fold-DeclItem}
use Rattle.gh_tree.specs.declared.expressions.Decls.{Decls, fold-Decls}
use Rattle.gh_tree.specs.declared.expressions.Guard.{Guard, fold-Guard}
use Rattle.gh_tree.specs.declared.expressions.NextOperand.{NextOperand, fold-NextOperand}
use Rattle.gh_tree.specs.declared.expressions.OperandList.{OperandList, fold-OperandList}
use Rattle.gh_tree.specs.declared.expressions.Part.{Part, fold-Part}
use Rattle.gh_tree.specs.declared.expressions.Redef.{Redef, fold-Redef}
use Rattle.gh_tree.specs.declared.expressions.RedefItem.{RedefItem, fold-RedefItem}
use Rattle.gh_tree.specs.declared.expressions.Redefs.{Redefs, fold-Redefs}
use Rattle.gh_tree.specs.declared.expressions.Aexp.TheOpen.{Aexp-F, Alt-F, Decl-F, Exp-F, Locals-F, Open-F, Operand-F, Rhs-F, Where-F, AltGuard-F, AltItem-F, Alts-F, DeclItem-F, Decls-F, Guard-F, NextOperand-F, OperandList-F, Part-F, Redef-F, RedefItem-F, Redefs-F}
use Rattle.gh_declarations.specs.declared.named.Named.{Named}
use Rattle.gh_declarations.specs.declared.named.Sort.TheVariants as sort
use Rattle.gh_declarations.specs.declared.named.Declared.{Declared}
use Rattle.gh_declarations.specs.declared.named.Declared.TheVariants as declares
use Rattle.gh_declarations.specs.declared.named.Failure.{Failure}
use Rattle.gh_declarations.specs.Lists.{list_failures, repeated}
use Rattle.gh_declarations.specs.Names.{var_named, op_named}
use Rattle.gh_declarations.specs.Patterns.{head_of, arg_pattern_variables, pattern_variables, left_variables}

-- ---- what a declaration declares

abbrev pub signed : Var → Declared
signed v = declares.Name sort.Signature (var_named v)

abbrev pub next_signed : NextVar → Declared
next_signed x = signed x.var

abbrev pub fixed : Op → Declared
fixed o = declares.Name sort.Fixity (op_named o)

abbrev pub next_fixed : NextOp → Declared
next_fixed x = fixed x.op

abbrev pub a_value : Named → Declared
a_value n = declares.Name sort.Value n

-- the clause with these bytes and this left side
abbrev pub clause_of : Span → FunLhs → Declared
clause_of s l = declares.Clause (record { span = s; named = (head_of l).named; arguments = (head_of l).arguments })

-- the variables of the patterns of a lambda
abbrev pub lambda_variables : ArgPattern → List ArgPattern → List Named
lambda_variables p ps = arg_pattern_variables p ++ flat_map arg_pattern_variables ps

-- ---- the fold

-- what a declaration gives to its list, and where rules fail inside it
pub record Found : Type 0 where
  pub declared : List Declared
  pub inside : List Failure

abbrev pub flat : List (List Failure) → List Failure
flat fs = flat_map (λ f. f) fs

-- what these declare, in order
abbrev pub declared_in : List Found → List Declared
declared_in fs = flat_map (λ (f : Found). f.declared) fs

abbrev pub insides : List Found → List Failure
insides fs = flat_map (λ (f : Found). f.inside) fs

abbrev pub aexp_step : Aexp-F (List Failure) (List Failure) Found (List Failure) (List Failure) (List Failure) (List Failure) (List Failure) (List Failure) (List Failure) (List Failure) (List Failure) Found (List Failure) (List Failure) (List Failure) (List Failure) (List Failure) (List Failure) (List Failure) (List Failure) → List Failure
aexp_step (Aexp-F.Var x0) = []
aexp_step (Aexp-F.Generic x0 x1 x2 x3 x4) = []
aexp_step (Aexp-F.Con x0) = []
aexp_step (Aexp-F.Int x0 x1) = []
aexp_step (Aexp-F.Char x0 x1) = []
aexp_step (Aexp-F.Str x0 x1) = []
aexp_step (Aexp-F.Paren x0 x1 x2 x3) = x2
aexp_step (Aexp-F.Tuple x0 x1 x2 x3 x4) = x2 ++ flat x3
aexp_step (Aexp-F.List x0 x1 x2 x3 x4) = x2 ++ flat x3
aexp_step (Aexp-F.Left x0 x1 x2 x3 x4) = x2
aexp_step (Aexp-F.Right x0 x1 x2 x3 x4) = x3

abbrev pub alt_step : Alt-F (List Failure) (List Failure) Found (List Failure) (List Failure) (List Failure) (List Failure) (List Failure) (List Failure) (List Failure) (List Failure) (List Failure) Found (List Failure) (List Failure) (List Failure) (List Failure) (List Failure) (List Failure) (List Failure) (List Failure) → List Failure
alt_step (Alt-F.Alt::Plain x0 x1 x2 x3 x4) = repeated (pattern_variables x1) ++ (x3 ++ x4)
alt_step (Alt-F.Alt::Guarded x0 x1 x2 x3 x4) = repeated (pattern_variables x1) ++ (x2 ++ (flat x3 ++ x4))

abbrev pub decl_step : Decl-F (List Failure) (List Failure) Found (List Failure) (List Failure) (List Failure) (List Failure) (List Failure) (List Failure) (List Failure) (List Failure) (List Failure) Found (List Failure) (List Failure) (List Failure) (List Failure) (List Failure) (List Failure) (List Failure) (List Failure) → Found
decl_step (Decl-F.Signature x0 x1 x2 x3 x4) = record { declared = signed x1 ∷ map next_signed x2; inside = [] }
decl_step (Decl-F.Fixity x0 x1 x2 x3 x4) = record { declared = fixed x3 ∷ map next_fixed x4; inside = [] }
decl_step (Decl-F.Function x0 x1 x2) = record { declared = clause_of x0 x1 ∷ []; inside = repeated (left_variables x1) ++ x2 }
decl_step (Decl-F.Pattern x0 x1 x2) = record { declared = declares.Other ∷ map a_value (pattern_variables x1); inside = x2 }

abbrev pub exp_step : Exp-F (List Failure) (List Failure) Found (List Failure) (List Failure) (List Failure) (List Failure) (List Failure) (List Failure) (List Failure) (List Failure) (List Failure) Found (List Failure) (List Failure) (List Failure) (List Failure) (List Failure) (List Failure) (List Failure) (List Failure) → List Failure
exp_step (Exp-F.Exp::Plain x0) = x0
exp_step (Exp-F.Typed x0 x1 x2 x3) = x1

abbrev pub locals_step : Locals-F (List Failure) (List Failure) Found (List Failure) (List Failure) (List Failure) (List Failure) (List Failure) (List Failure) (List Failure) (List Failure) (List Failure) Found (List Failure) (List Failure) (List Failure) (List Failure) (List Failure) (List Failure) (List Failure) (List Failure) → List Failure
locals_step (Locals-F.Decls x0) = x0
locals_step (Locals-F.Redefs x0) = x0

abbrev pub open_step : Open-F (List Failure) (List Failure) Found (List Failure) (List Failure) (List Failure) (List Failure) (List Failure) (List Failure) (List Failure) (List Failure) (List Failure) Found (List Failure) (List Failure) (List Failure) (List Failure) (List Failure) (List Failure) (List Failure) (List Failure) → List Failure
open_step (Open-F.Lambda x0 x1 x2 x3 x4 x5) = repeated (lambda_variables x2 x3) ++ x5
open_step (Open-F.Let x0 x1 x2 x3 x4) = x2 ++ x4
open_step (Open-F.If x0 x1 x2 x3 x4 x5 x6) = x2 ++ (x4 ++ x6)

abbrev pub operand_step : Operand-F (List Failure) (List Failure) Found (List Failure) (List Failure) (List Failure) (List Failure) (List Failure) (List Failure) (List Failure) (List Failure) (List Failure) Found (List Failure) (List Failure) (List Failure) (List Failure) (List Failure) (List Failure) (List Failure) (List Failure) → List Failure
operand_step (Operand-F.Apply x0 x1 x2) = x1 ++ flat x2
operand_step (Operand-F.Case x0 x1 x2 x3 x4) = x2 ++ x4
operand_step (Operand-F.Open x0) = x0

abbrev pub rhs_step : Rhs-F (List Failure) (List Failure) Found (List Failure) (List Failure) (List Failure) (List Failure) (List Failure) (List Failure) (List Failure) (List Failure) (List Failure) Found (List Failure) (List Failure) (List Failure) (List Failure) (List Failure) (List Failure) (List Failure) (List Failure) → List Failure
rhs_step (Rhs-F.Rhs::Plain x0 x1 x2 x3) = x2 ++ x3
rhs_step (Rhs-F.Rhs::Guarded x0 x1 x2 x3) = x1 ++ (flat x2 ++ x3)

abbrev pub where_step : Where-F (List Failure) (List Failure) Found (List Failure) (List Failure) (List Failure) (List Failure) (List Failure) (List Failure) (List Failure) (List Failure) (List Failure) Found (List Failure) (List Failure) (List Failure) (List Failure) (List Failure) (List Failure) (List Failure) (List Failure) → List Failure
where_step (Where-F.Absent) = []
where_step (Where-F.Block x0 x1) = x1

abbrev pub alt_guard_step : AltGuard-F (List Failure) (List Failure) Found (List Failure) (List Failure) (List Failure) (List Failure) (List Failure) (List Failure) (List Failure) (List Failure) (List Failure) Found (List Failure) (List Failure) (List Failure) (List Failure) (List Failure) (List Failure) (List Failure) (List Failure) → List Failure
alt_guard_step x = x.test ++ x.body

abbrev pub alt_item_step : AltItem-F (List Failure) (List Failure) Found (List Failure) (List Failure) (List Failure) (List Failure) (List Failure) (List Failure) (List Failure) (List Failure) (List Failure) Found (List Failure) (List Failure) (List Failure) (List Failure) (List Failure) (List Failure) (List Failure) (List Failure) → List Failure
alt_item_step x = x.alt

abbrev pub alts_step : Alts-F (List Failure) (List Failure) Found (List Failure) (List Failure) (List Failure) (List Failure) (List Failure) (List Failure) (List Failure) (List Failure) (List Failure) Found (List Failure) (List Failure) (List Failure) (List Failure) (List Failure) (List Failure) (List Failure) (List Failure) → List Failure
alts_step x = flat x.alts

abbrev pub decl_item_step : DeclItem-F (List Failure) (List Failure) Found (List Failure) (List Failure) (List Failure) (List Failure) (List Failure) (List Failure) (List Failure) (List Failure) (List Failure) Found (List Failure) (List Failure) (List Failure) (List Failure) (List Failure) (List Failure) (List Failure) (List Failure) → Found
decl_item_step x = x.decl

abbrev pub decls_step : Decls-F (List Failure) (List Failure) Found (List Failure) (List Failure) (List Failure) (List Failure) (List Failure) (List Failure) (List Failure) (List Failure) (List Failure) Found (List Failure) (List Failure) (List Failure) (List Failure) (List Failure) (List Failure) (List Failure) (List Failure) → List Failure
decls_step x = list_failures (declared_in x.decls) ++ insides x.decls

abbrev pub guard_step : Guard-F (List Failure) (List Failure) Found (List Failure) (List Failure) (List Failure) (List Failure) (List Failure) (List Failure) (List Failure) (List Failure) (List Failure) Found (List Failure) (List Failure) (List Failure) (List Failure) (List Failure) (List Failure) (List Failure) (List Failure) → List Failure
guard_step x = x.test ++ x.body

abbrev pub next_operand_step : NextOperand-F (List Failure) (List Failure) Found (List Failure) (List Failure) (List Failure) (List Failure) (List Failure) (List Failure) (List Failure) (List Failure) (List Failure) Found (List Failure) (List Failure) (List Failure) (List Failure) (List Failure) (List Failure) (List Failure) (List Failure) → List Failure
next_operand_step x = x.operand

abbrev pub operands_step : OperandList-F (List Failure) (List Failure) Found (List Failure) (List Failure) (List Failure) (List Failure) (List Failure) (List Failure) (List Failure) (List Failure) (List Failure) Found (List Failure) (List Failure) (List Failure) (List Failure) (List Failure) (List Failure) (List Failure) (List Failure) → List Failure
operands_step x = x.first ++ flat x.others

abbrev pub part_step : Part-F (List Failure) (List Failure) Found (List Failure) (List Failure) (List Failure) (List Failure) (List Failure) (List Failure) (List Failure) (List Failure) (List Failure) Found (List Failure) (List Failure) (List Failure) (List Failure) (List Failure) (List Failure) (List Failure) (List Failure) → List Failure
part_step x = x.exp

abbrev pub redef_step : Redef-F (List Failure) (List Failure) Found (List Failure) (List Failure) (List Failure) (List Failure) (List Failure) (List Failure) (List Failure) (List Failure) (List Failure) Found (List Failure) (List Failure) (List Failure) (List Failure) (List Failure) (List Failure) (List Failure) (List Failure) → List Failure
redef_step x = x.body

abbrev pub redef_item_step : RedefItem-F (List Failure) (List Failure) Found (List Failure) (List Failure) (List Failure) (List Failure) (List Failure) (List Failure) (List Failure) (List Failure) (List Failure) Found (List Failure) (List Failure) (List Failure) (List Failure) (List Failure) (List Failure) (List Failure) (List Failure) → List Failure
redef_item_step x = x.redef

abbrev pub redefs_step : Redefs-F (List Failure) (List Failure) Found (List Failure) (List Failure) (List Failure) (List Failure) (List Failure) (List Failure) (List Failure) (List Failure) (List Failure) Found (List Failure) (List Failure) (List Failure) (List Failure) (List Failure) (List Failure) (List Failure) (List Failure) → List Failure
redefs_step x = flat x.redefs

unfoldable pub aexp_failures : Aexp → List Failure
aexp_failures = fold-Aexp (List Failure) (List Failure) Found (List Failure) (List Failure) (List Failure) (List Failure) (List Failure) (List Failure) (List Failure) (List Failure) (List Failure) Found (List Failure) (List Failure) (List Failure) (List Failure) (List Failure) (List Failure) (List Failure) (List Failure) aexp_step alt_step decl_step exp_step locals_step open_step operand_step rhs_step where_step alt_guard_step alt_item_step alts_step decl_item_step decls_step guard_step next_operand_step operands_step part_step redef_step redef_item_step redefs_step

unfoldable pub alt_failures : Alt → List Failure
alt_failures = fold-Alt (List Failure) (List Failure) Found (List Failure) (List Failure) (List Failure) (List Failure) (List Failure) (List Failure) (List Failure) (List Failure) (List Failure) Found (List Failure) (List Failure) (List Failure) (List Failure) (List Failure) (List Failure) (List Failure) (List Failure) aexp_step alt_step decl_step exp_step locals_step open_step operand_step rhs_step where_step alt_guard_step alt_item_step alts_step decl_item_step decls_step guard_step next_operand_step operands_step part_step redef_step redef_item_step redefs_step

unfoldable pub decl_found : Decl → Found
decl_found = fold-Decl (List Failure) (List Failure) Found (List Failure) (List Failure) (List Failure) (List Failure) (List Failure) (List Failure) (List Failure) (List Failure) (List Failure) Found (List Failure) (List Failure) (List Failure) (List Failure) (List Failure) (List Failure) (List Failure) (List Failure) aexp_step alt_step decl_step exp_step locals_step open_step operand_step rhs_step where_step alt_guard_step alt_item_step alts_step decl_item_step decls_step guard_step next_operand_step operands_step part_step redef_step redef_item_step redefs_step

unfoldable pub exp_failures : Exp → List Failure
exp_failures = fold-Exp (List Failure) (List Failure) Found (List Failure) (List Failure) (List Failure) (List Failure) (List Failure) (List Failure) (List Failure) (List Failure) (List Failure) Found (List Failure) (List Failure) (List Failure) (List Failure) (List Failure) (List Failure) (List Failure) (List Failure) aexp_step alt_step decl_step exp_step locals_step open_step operand_step rhs_step where_step alt_guard_step alt_item_step alts_step decl_item_step decls_step guard_step next_operand_step operands_step part_step redef_step redef_item_step redefs_step

unfoldable pub locals_failures : Locals → List Failure
locals_failures = fold-Locals (List Failure) (List Failure) Found (List Failure) (List Failure) (List Failure) (List Failure) (List Failure) (List Failure) (List Failure) (List Failure) (List Failure) Found (List Failure) (List Failure) (List Failure) (List Failure) (List Failure) (List Failure) (List Failure) (List Failure) aexp_step alt_step decl_step exp_step locals_step open_step operand_step rhs_step where_step alt_guard_step alt_item_step alts_step decl_item_step decls_step guard_step next_operand_step operands_step part_step redef_step redef_item_step redefs_step

unfoldable pub open_failures : Open → List Failure
open_failures = fold-Open (List Failure) (List Failure) Found (List Failure) (List Failure) (List Failure) (List Failure) (List Failure) (List Failure) (List Failure) (List Failure) (List Failure) Found (List Failure) (List Failure) (List Failure) (List Failure) (List Failure) (List Failure) (List Failure) (List Failure) aexp_step alt_step decl_step exp_step locals_step open_step operand_step rhs_step where_step alt_guard_step alt_item_step alts_step decl_item_step decls_step guard_step next_operand_step operands_step part_step redef_step redef_item_step redefs_step

unfoldable pub operand_failures : Operand → List Failure
operand_failures = fold-Operand (List Failure) (List Failure) Found (List Failure) (List Failure) (List Failure) (List Failure) (List Failure) (List Failure) (List Failure) (List Failure) (List Failure) Found (List Failure) (List Failure) (List Failure) (List Failure) (List Failure) (List Failure) (List Failure) (List Failure) aexp_step alt_step decl_step exp_step locals_step open_step operand_step rhs_step where_step alt_guard_step alt_item_step alts_step decl_item_step decls_step guard_step next_operand_step operands_step part_step redef_step redef_item_step redefs_step

unfoldable pub rhs_failures : Rhs → List Failure
rhs_failures = fold-Rhs (List Failure) (List Failure) Found (List Failure) (List Failure) (List Failure) (List Failure) (List Failure) (List Failure) (List Failure) (List Failure) (List Failure) Found (List Failure) (List Failure) (List Failure) (List Failure) (List Failure) (List Failure) (List Failure) (List Failure) aexp_step alt_step decl_step exp_step locals_step open_step operand_step rhs_step where_step alt_guard_step alt_item_step alts_step decl_item_step decls_step guard_step next_operand_step operands_step part_step redef_step redef_item_step redefs_step

unfoldable pub where_failures : Where → List Failure
where_failures = fold-Where (List Failure) (List Failure) Found (List Failure) (List Failure) (List Failure) (List Failure) (List Failure) (List Failure) (List Failure) (List Failure) (List Failure) Found (List Failure) (List Failure) (List Failure) (List Failure) (List Failure) (List Failure) (List Failure) (List Failure) aexp_step alt_step decl_step exp_step locals_step open_step operand_step rhs_step where_step alt_guard_step alt_item_step alts_step decl_item_step decls_step guard_step next_operand_step operands_step part_step redef_step redef_item_step redefs_step

unfoldable pub alt_guard_failures : AltGuard → List Failure
alt_guard_failures = fold-AltGuard (List Failure) (List Failure) Found (List Failure) (List Failure) (List Failure) (List Failure) (List Failure) (List Failure) (List Failure) (List Failure) (List Failure) Found (List Failure) (List Failure) (List Failure) (List Failure) (List Failure) (List Failure) (List Failure) (List Failure) aexp_step alt_step decl_step exp_step locals_step open_step operand_step rhs_step where_step alt_guard_step alt_item_step alts_step decl_item_step decls_step guard_step next_operand_step operands_step part_step redef_step redef_item_step redefs_step

unfoldable pub alt_item_failures : AltItem → List Failure
alt_item_failures = fold-AltItem (List Failure) (List Failure) Found (List Failure) (List Failure) (List Failure) (List Failure) (List Failure) (List Failure) (List Failure) (List Failure) (List Failure) Found (List Failure) (List Failure) (List Failure) (List Failure) (List Failure) (List Failure) (List Failure) (List Failure) aexp_step alt_step decl_step exp_step locals_step open_step operand_step rhs_step where_step alt_guard_step alt_item_step alts_step decl_item_step decls_step guard_step next_operand_step operands_step part_step redef_step redef_item_step redefs_step

unfoldable pub alts_failures : Alts → List Failure
alts_failures = fold-Alts (List Failure) (List Failure) Found (List Failure) (List Failure) (List Failure) (List Failure) (List Failure) (List Failure) (List Failure) (List Failure) (List Failure) Found (List Failure) (List Failure) (List Failure) (List Failure) (List Failure) (List Failure) (List Failure) (List Failure) aexp_step alt_step decl_step exp_step locals_step open_step operand_step rhs_step where_step alt_guard_step alt_item_step alts_step decl_item_step decls_step guard_step next_operand_step operands_step part_step redef_step redef_item_step redefs_step

unfoldable pub decl_item_found : DeclItem → Found
decl_item_found = fold-DeclItem (List Failure) (List Failure) Found (List Failure) (List Failure) (List Failure) (List Failure) (List Failure) (List Failure) (List Failure) (List Failure) (List Failure) Found (List Failure) (List Failure) (List Failure) (List Failure) (List Failure) (List Failure) (List Failure) (List Failure) aexp_step alt_step decl_step exp_step locals_step open_step operand_step rhs_step where_step alt_guard_step alt_item_step alts_step decl_item_step decls_step guard_step next_operand_step operands_step part_step redef_step redef_item_step redefs_step

unfoldable pub decls_failures : Decls → List Failure
decls_failures = fold-Decls (List Failure) (List Failure) Found (List Failure) (List Failure) (List Failure) (List Failure) (List Failure) (List Failure) (List Failure) (List Failure) (List Failure) Found (List Failure) (List Failure) (List Failure) (List Failure) (List Failure) (List Failure) (List Failure) (List Failure) aexp_step alt_step decl_step exp_step locals_step open_step operand_step rhs_step where_step alt_guard_step alt_item_step alts_step decl_item_step decls_step guard_step next_operand_step operands_step part_step redef_step redef_item_step redefs_step

unfoldable pub guard_failures : Guard → List Failure
guard_failures = fold-Guard (List Failure) (List Failure) Found (List Failure) (List Failure) (List Failure) (List Failure) (List Failure) (List Failure) (List Failure) (List Failure) (List Failure) Found (List Failure) (List Failure) (List Failure) (List Failure) (List Failure) (List Failure) (List Failure) (List Failure) aexp_step alt_step decl_step exp_step locals_step open_step operand_step rhs_step where_step alt_guard_step alt_item_step alts_step decl_item_step decls_step guard_step next_operand_step operands_step part_step redef_step redef_item_step redefs_step

unfoldable pub next_operand_failures : NextOperand → List Failure
next_operand_failures = fold-NextOperand (List Failure) (List Failure) Found (List Failure) (List Failure) (List Failure) (List Failure) (List Failure) (List Failure) (List Failure) (List Failure) (List Failure) Found (List Failure) (List Failure) (List Failure) (List Failure) (List Failure) (List Failure) (List Failure) (List Failure) aexp_step alt_step decl_step exp_step locals_step open_step operand_step rhs_step where_step alt_guard_step alt_item_step alts_step decl_item_step decls_step guard_step next_operand_step operands_step part_step redef_step redef_item_step redefs_step

unfoldable pub operands_failures : OperandList → List Failure
operands_failures = fold-OperandList (List Failure) (List Failure) Found (List Failure) (List Failure) (List Failure) (List Failure) (List Failure) (List Failure) (List Failure) (List Failure) (List Failure) Found (List Failure) (List Failure) (List Failure) (List Failure) (List Failure) (List Failure) (List Failure) (List Failure) aexp_step alt_step decl_step exp_step locals_step open_step operand_step rhs_step where_step alt_guard_step alt_item_step alts_step decl_item_step decls_step guard_step next_operand_step operands_step part_step redef_step redef_item_step redefs_step

unfoldable pub part_failures : Part → List Failure
part_failures = fold-Part (List Failure) (List Failure) Found (List Failure) (List Failure) (List Failure) (List Failure) (List Failure) (List Failure) (List Failure) (List Failure) (List Failure) Found (List Failure) (List Failure) (List Failure) (List Failure) (List Failure) (List Failure) (List Failure) (List Failure) aexp_step alt_step decl_step exp_step locals_step open_step operand_step rhs_step where_step alt_guard_step alt_item_step alts_step decl_item_step decls_step guard_step next_operand_step operands_step part_step redef_step redef_item_step redefs_step

unfoldable pub redef_failures : Redef → List Failure
redef_failures = fold-Redef (List Failure) (List Failure) Found (List Failure) (List Failure) (List Failure) (List Failure) (List Failure) (List Failure) (List Failure) (List Failure) (List Failure) Found (List Failure) (List Failure) (List Failure) (List Failure) (List Failure) (List Failure) (List Failure) (List Failure) aexp_step alt_step decl_step exp_step locals_step open_step operand_step rhs_step where_step alt_guard_step alt_item_step alts_step decl_item_step decls_step guard_step next_operand_step operands_step part_step redef_step redef_item_step redefs_step

unfoldable pub redef_item_failures : RedefItem → List Failure
redef_item_failures = fold-RedefItem (List Failure) (List Failure) Found (List Failure) (List Failure) (List Failure) (List Failure) (List Failure) (List Failure) (List Failure) (List Failure) (List Failure) Found (List Failure) (List Failure) (List Failure) (List Failure) (List Failure) (List Failure) (List Failure) (List Failure) aexp_step alt_step decl_step exp_step locals_step open_step operand_step rhs_step where_step alt_guard_step alt_item_step alts_step decl_item_step decls_step guard_step next_operand_step operands_step part_step redef_step redef_item_step redefs_step

unfoldable pub redefs_failures : Redefs → List Failure
redefs_failures = fold-Redefs (List Failure) (List Failure) Found (List Failure) (List Failure) (List Failure) (List Failure) (List Failure) (List Failure) (List Failure) (List Failure) (List Failure) Found (List Failure) (List Failure) (List Failure) (List Failure) (List Failure) (List Failure) (List Failure) (List Failure) aexp_step alt_step decl_step exp_step locals_step open_step operand_step rhs_step where_step alt_guard_step alt_item_step alts_step decl_item_step decls_step guard_step next_operand_step operands_step part_step redef_step redef_item_step redefs_step

abbrev pub declared_at : DeclItem → List Declared
declared_at d = (decl_item_found d).declared

abbrev pub inside_at : DeclItem → List Failure
inside_at d = (decl_item_found d).inside
