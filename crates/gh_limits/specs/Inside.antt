-- What the limits count inside expressions and declarations.
use Rattle.std.specs.Prelude.{ℕ, ◌+◌, Bool, false, ◌&&◌, ◌==◌, nat_lt, if◌then◌else◌, List, [], ◌∷◌, ◌++◌, length, map, Option, Some, None}
use Rattle.gh_base.specs.declared.refusal.Limit.TheVariants.{Arguments, Bindings, Clauses}
use Rattle.gh_tree.specs.declared.expressions.Aexp.{Aexp, fold-Aexp}
use Rattle.gh_tree.specs.declared.expressions.Alt.{Alt, fold-Alt}
use Rattle.gh_tree.specs.declared.expressions.Decl.{Decl, fold-Decl}
use Rattle.gh_tree.specs.declared.expressions.Exp.{Exp, fold-Exp}
use Rattle.gh_tree.specs.declared.expressions.Locals.{Locals, fold-Locals}
use Rattle.gh_tree.specs.declared.expressions.Open.{Open, fold-Open}
use Rattle.gh_tree.specs.declared.expressions.Operand.{Operand, fold-Operand}
use Rattle.gh_tree.specs.declared.expressions.Rhs.{Rhs, fold-Rhs}
use Rattle.gh_tree.specs.declared.expressions.Where.{Where, fold-Where}
use Rattle.gh_tree.specs.declared.expressions.AltGuard.{AltGuard, fold-AltGuard}
use Rattle.gh_tree.specs.declared.expressions.AltItem.{AltItem, fold-AltItem}
use Rattle.gh_tree.specs.declared.expressions.Alts.{Alts, fold-Alts}
use Rattle.gh_tree.specs.declared.expressions.DeclItem.{DeclItem, fold-DeclItem}
use Rattle.gh_tree.specs.declared.expressions.Decls.{Decls, fold-Decls}
use Rattle.gh_tree.specs.declared.expressions.Guard.{Guard, fold-Guard}
use Rattle.gh_tree.specs.declared.expressions.NextOperand.{NextOperand, fold-NextOperand}
use Rattle.gh_tree.specs.declared.expressions.OperandList.{OperandList, fold-OperandList}
use Rattle.gh_tree.specs.declared.expressions.Part.{Part, fold-Part}
use Rattle.gh_tree.specs.declared.expressions.Redef.{Redef, fold-Redef}
use Rattle.gh_tree.specs.declared.expressions.RedefItem.{RedefItem, fold-RedefItem}
use Rattle.gh_tree.specs.declared.expressions.Redefs.{Redefs, fold-Redefs}
use Rattle.gh_tree.specs.declared.expressions.Aexp.TheOpen.{Aexp-F, Alt-F, Decl-F, Exp-F, Locals-F, Open-F, Operand-F, Rhs-F, Where-F, AltGuard-F, AltItem-F, Alts-F, DeclItem-F, Decls-F, Guard-F, NextOperand-F, OperandList-F, Part-F, Redef-F, RedefItem-F, Redefs-F}
use Rattle.gh_limits.specs.declared.clauses.Clause.{Clause}
use Rattle.gh_limits.specs.Bound.{Head, head_of, pattern_names, different, joined}
use Rattle.gh_limits.specs.Places.{Count, count, all_of}

-- the clause, or the variable's binding, that has this left side
abbrev pub clause_by : Head → Clause
clause_by h = record { name = h.name; has_arguments = nat_lt 0 h.arguments }

-- what a list of declarations asks of one of them
pub record Declared : Type 0 where
  -- the left side, where it is a clause or a variable's binding
  pub clause : Option Clause
  -- the names that it binds, each as often as it stands there
  pub names : List ℕ
  -- one for the binding of a pattern that is no variable
  pub patterns : ℕ
  -- what is counted inside
  pub inside : List Count

abbrev pub sum_of : List ℕ → ℕ
sum_of [] = 0
sum_of (n ∷ ns) = n + sum_of ns

-- the names that a list binds, and one more for each of its bindings of a pattern that is no variable
abbrev pub bound : List Declared → ℕ
bound ds = different [] (joined (map (λ (d : Declared). d.names) ds)) + sum_of (map (λ (d : Declared). d.patterns) ds)

-- whether a clause goes on in the next declaration: that has its name, and it has arguments. A name without arguments
-- is bound by itself.
abbrev pub goes_on : Option Clause → Option Clause → Bool
goes_on (Some h) (Some k) = (h.name == k.name) && h.has_arguments
goes_on _ _ = false

-- which clause of its definition each declaration is, where the first stands behind so many clauses of one
abbrev pub clause_counts : Option Clause → ℕ → List (Option Clause) → List Count
clause_counts before many [] = []
clause_counts before many (h ∷ hs) = count Clauses (1 + (if goes_on before h then many else 0)) ∷ clause_counts h (1 + (if goes_on before h then many else 0)) hs

abbrev pub insides : List Declared → List Count
insides ds = all_of (map (λ (d : Declared). d.inside) ds)

-- a list of local declarations
abbrev pub block_counts : List Declared → List Count
block_counts ds = count Bindings (bound ds) ∷ (clause_counts None 0 (map (λ (d : Declared). d.clause) ds) ++ insides ds)

abbrev pub no_binding : Declared
no_binding = record { clause = None; names = []; patterns = 0; inside = [] }

abbrev pub aexp_step : Aexp-F (List Count) (List Count) Declared (List Count) (List Count) (List Count) (List Count) (List Count) (List Count) (List Count) (List Count) (List Count) Declared (List Count) (List Count) (List Count) (List Count) (List Count) (List Count) (List Count) (List Count) → List Count
aexp_step (Aexp-F.Var x0) = []
aexp_step (Aexp-F.Generic x0 x1 x2 x3 x4) = []
aexp_step (Aexp-F.Con x0) = []
aexp_step (Aexp-F.Int x0 x1) = []
aexp_step (Aexp-F.Char x0 x1) = []
aexp_step (Aexp-F.Str x0 x1) = []
aexp_step (Aexp-F.Paren x0 x1 x2 x3) = x2
aexp_step (Aexp-F.Tuple x0 x1 x2 x3 x4) = x2 ++ all_of x3
aexp_step (Aexp-F.List x0 x1 x2 x3 x4) = x2 ++ all_of x3
aexp_step (Aexp-F.Left x0 x1 x2 x3 x4) = x2
aexp_step (Aexp-F.Right x0 x1 x2 x3 x4) = x3

abbrev pub alt_step : Alt-F (List Count) (List Count) Declared (List Count) (List Count) (List Count) (List Count) (List Count) (List Count) (List Count) (List Count) (List Count) Declared (List Count) (List Count) (List Count) (List Count) (List Count) (List Count) (List Count) (List Count) → List Count
alt_step (Alt-F.Alt::Plain x0 x1 x2 x3 x4) = x3 ++ x4
alt_step (Alt-F.Alt::Guarded x0 x1 x2 x3 x4) = x2 ++ (all_of x3 ++ x4)

abbrev pub decl_step : Decl-F (List Count) (List Count) Declared (List Count) (List Count) (List Count) (List Count) (List Count) (List Count) (List Count) (List Count) (List Count) Declared (List Count) (List Count) (List Count) (List Count) (List Count) (List Count) (List Count) (List Count) → Declared
decl_step (Decl-F.Signature x0 x1 x2 x3 x4) = no_binding
decl_step (Decl-F.Fixity x0 x1 x2 x3 x4) = no_binding
decl_step (Decl-F.Function x0 x1 x2) = record { clause = Some (clause_by (head_of x1)); names = (head_of x1).name ∷ []; patterns = 0; inside = count Arguments (head_of x1).arguments ∷ x2 }
decl_step (Decl-F.Pattern x0 x1 x2) = record { clause = None; names = pattern_names x1; patterns = 1; inside = x2 }

abbrev pub exp_step : Exp-F (List Count) (List Count) Declared (List Count) (List Count) (List Count) (List Count) (List Count) (List Count) (List Count) (List Count) (List Count) Declared (List Count) (List Count) (List Count) (List Count) (List Count) (List Count) (List Count) (List Count) → List Count
exp_step (Exp-F.Exp::Plain x0) = x0
exp_step (Exp-F.Typed x0 x1 x2 x3) = x1

abbrev pub locals_step : Locals-F (List Count) (List Count) Declared (List Count) (List Count) (List Count) (List Count) (List Count) (List Count) (List Count) (List Count) (List Count) Declared (List Count) (List Count) (List Count) (List Count) (List Count) (List Count) (List Count) (List Count) → List Count
locals_step (Locals-F.Decls x0) = x0
locals_step (Locals-F.Redefs x0) = x0

abbrev pub open_step : Open-F (List Count) (List Count) Declared (List Count) (List Count) (List Count) (List Count) (List Count) (List Count) (List Count) (List Count) (List Count) Declared (List Count) (List Count) (List Count) (List Count) (List Count) (List Count) (List Count) (List Count) → List Count
open_step (Open-F.Lambda x0 x1 x2 x3 x4 x5) = count Arguments (1 + length x3) ∷ x5
open_step (Open-F.Let x0 x1 x2 x3 x4) = x2 ++ x4
open_step (Open-F.If x0 x1 x2 x3 x4 x5 x6) = x2 ++ (x4 ++ x6)

abbrev pub operand_step : Operand-F (List Count) (List Count) Declared (List Count) (List Count) (List Count) (List Count) (List Count) (List Count) (List Count) (List Count) (List Count) Declared (List Count) (List Count) (List Count) (List Count) (List Count) (List Count) (List Count) (List Count) → List Count
operand_step (Operand-F.Apply x0 x1 x2) = x1 ++ all_of x2
operand_step (Operand-F.Case x0 x1 x2 x3 x4) = x2 ++ x4
operand_step (Operand-F.Open x0) = x0

abbrev pub rhs_step : Rhs-F (List Count) (List Count) Declared (List Count) (List Count) (List Count) (List Count) (List Count) (List Count) (List Count) (List Count) (List Count) Declared (List Count) (List Count) (List Count) (List Count) (List Count) (List Count) (List Count) (List Count) → List Count
rhs_step (Rhs-F.Rhs::Plain x0 x1 x2 x3) = x2 ++ x3
rhs_step (Rhs-F.Rhs::Guarded x0 x1 x2 x3) = x1 ++ (all_of x2 ++ x3)

abbrev pub where_step : Where-F (List Count) (List Count) Declared (List Count) (List Count) (List Count) (List Count) (List Count) (List Count) (List Count) (List Count) (List Count) Declared (List Count) (List Count) (List Count) (List Count) (List Count) (List Count) (List Count) (List Count) → List Count
where_step (Where-F.Absent) = []
where_step (Where-F.Block x0 x1) = x1

abbrev pub alt_guard_step : AltGuard-F (List Count) (List Count) Declared (List Count) (List Count) (List Count) (List Count) (List Count) (List Count) (List Count) (List Count) (List Count) Declared (List Count) (List Count) (List Count) (List Count) (List Count) (List Count) (List Count) (List Count) → List Count
alt_guard_step x = x.test ++ x.body

abbrev pub alt_item_step : AltItem-F (List Count) (List Count) Declared (List Count) (List Count) (List Count) (List Count) (List Count) (List Count) (List Count) (List Count) (List Count) Declared (List Count) (List Count) (List Count) (List Count) (List Count) (List Count) (List Count) (List Count) → List Count
alt_item_step x = x.alt

abbrev pub alts_step : Alts-F (List Count) (List Count) Declared (List Count) (List Count) (List Count) (List Count) (List Count) (List Count) (List Count) (List Count) (List Count) Declared (List Count) (List Count) (List Count) (List Count) (List Count) (List Count) (List Count) (List Count) → List Count
alts_step x = all_of x.alts

abbrev pub decl_item_step : DeclItem-F (List Count) (List Count) Declared (List Count) (List Count) (List Count) (List Count) (List Count) (List Count) (List Count) (List Count) (List Count) Declared (List Count) (List Count) (List Count) (List Count) (List Count) (List Count) (List Count) (List Count) → Declared
decl_item_step x = x.decl

abbrev pub decls_step : Decls-F (List Count) (List Count) Declared (List Count) (List Count) (List Count) (List Count) (List Count) (List Count) (List Count) (List Count) (List Count) Declared (List Count) (List Count) (List Count) (List Count) (List Count) (List Count) (List Count) (List Count) → List Count
decls_step x = block_counts x.decls

abbrev pub guard_step : Guard-F (List Count) (List Count) Declared (List Count) (List Count) (List Count) (List Count) (List Count) (List Count) (List Count) (List Count) (List Count) Declared (List Count) (List Count) (List Count) (List Count) (List Count) (List Count) (List Count) (List Count) → List Count
guard_step x = x.test ++ x.body

abbrev pub next_operand_step : NextOperand-F (List Count) (List Count) Declared (List Count) (List Count) (List Count) (List Count) (List Count) (List Count) (List Count) (List Count) (List Count) Declared (List Count) (List Count) (List Count) (List Count) (List Count) (List Count) (List Count) (List Count) → List Count
next_operand_step x = x.operand

abbrev pub operands_step : OperandList-F (List Count) (List Count) Declared (List Count) (List Count) (List Count) (List Count) (List Count) (List Count) (List Count) (List Count) (List Count) Declared (List Count) (List Count) (List Count) (List Count) (List Count) (List Count) (List Count) (List Count) → List Count
operands_step x = x.first ++ all_of x.others

abbrev pub part_step : Part-F (List Count) (List Count) Declared (List Count) (List Count) (List Count) (List Count) (List Count) (List Count) (List Count) (List Count) (List Count) Declared (List Count) (List Count) (List Count) (List Count) (List Count) (List Count) (List Count) (List Count) → List Count
part_step x = x.exp

abbrev pub redef_step : Redef-F (List Count) (List Count) Declared (List Count) (List Count) (List Count) (List Count) (List Count) (List Count) (List Count) (List Count) (List Count) Declared (List Count) (List Count) (List Count) (List Count) (List Count) (List Count) (List Count) (List Count) → List Count
redef_step x = x.body

abbrev pub redef_item_step : RedefItem-F (List Count) (List Count) Declared (List Count) (List Count) (List Count) (List Count) (List Count) (List Count) (List Count) (List Count) (List Count) Declared (List Count) (List Count) (List Count) (List Count) (List Count) (List Count) (List Count) (List Count) → List Count
redef_item_step x = x.redef

abbrev pub redefs_step : Redefs-F (List Count) (List Count) Declared (List Count) (List Count) (List Count) (List Count) (List Count) (List Count) (List Count) (List Count) (List Count) Declared (List Count) (List Count) (List Count) (List Count) (List Count) (List Count) (List Count) (List Count) → List Count
redefs_step x = all_of x.redefs

unfoldable pub aexp_counts : Aexp → List Count
aexp_counts = fold-Aexp (List Count) (List Count) Declared (List Count) (List Count) (List Count) (List Count) (List Count) (List Count) (List Count) (List Count) (List Count) Declared (List Count) (List Count) (List Count) (List Count) (List Count) (List Count) (List Count) (List Count) aexp_step alt_step decl_step exp_step locals_step open_step operand_step rhs_step where_step alt_guard_step alt_item_step alts_step decl_item_step decls_step guard_step next_operand_step operands_step part_step redef_step redef_item_step redefs_step

unfoldable pub alt_counts : Alt → List Count
alt_counts = fold-Alt (List Count) (List Count) Declared (List Count) (List Count) (List Count) (List Count) (List Count) (List Count) (List Count) (List Count) (List Count) Declared (List Count) (List Count) (List Count) (List Count) (List Count) (List Count) (List Count) (List Count) aexp_step alt_step decl_step exp_step locals_step open_step operand_step rhs_step where_step alt_guard_step alt_item_step alts_step decl_item_step decls_step guard_step next_operand_step operands_step part_step redef_step redef_item_step redefs_step

unfoldable pub decl_declared : Decl → Declared
decl_declared = fold-Decl (List Count) (List Count) Declared (List Count) (List Count) (List Count) (List Count) (List Count) (List Count) (List Count) (List Count) (List Count) Declared (List Count) (List Count) (List Count) (List Count) (List Count) (List Count) (List Count) (List Count) aexp_step alt_step decl_step exp_step locals_step open_step operand_step rhs_step where_step alt_guard_step alt_item_step alts_step decl_item_step decls_step guard_step next_operand_step operands_step part_step redef_step redef_item_step redefs_step

unfoldable pub exp_counts : Exp → List Count
exp_counts = fold-Exp (List Count) (List Count) Declared (List Count) (List Count) (List Count) (List Count) (List Count) (List Count) (List Count) (List Count) (List Count) Declared (List Count) (List Count) (List Count) (List Count) (List Count) (List Count) (List Count) (List Count) aexp_step alt_step decl_step exp_step locals_step open_step operand_step rhs_step where_step alt_guard_step alt_item_step alts_step decl_item_step decls_step guard_step next_operand_step operands_step part_step redef_step redef_item_step redefs_step

unfoldable pub locals_counts : Locals → List Count
locals_counts = fold-Locals (List Count) (List Count) Declared (List Count) (List Count) (List Count) (List Count) (List Count) (List Count) (List Count) (List Count) (List Count) Declared (List Count) (List Count) (List Count) (List Count) (List Count) (List Count) (List Count) (List Count) aexp_step alt_step decl_step exp_step locals_step open_step operand_step rhs_step where_step alt_guard_step alt_item_step alts_step decl_item_step decls_step guard_step next_operand_step operands_step part_step redef_step redef_item_step redefs_step

unfoldable pub open_counts : Open → List Count
open_counts = fold-Open (List Count) (List Count) Declared (List Count) (List Count) (List Count) (List Count) (List Count) (List Count) (List Count) (List Count) (List Count) Declared (List Count) (List Count) (List Count) (List Count) (List Count) (List Count) (List Count) (List Count) aexp_step alt_step decl_step exp_step locals_step open_step operand_step rhs_step where_step alt_guard_step alt_item_step alts_step decl_item_step decls_step guard_step next_operand_step operands_step part_step redef_step redef_item_step redefs_step

unfoldable pub operand_counts : Operand → List Count
operand_counts = fold-Operand (List Count) (List Count) Declared (List Count) (List Count) (List Count) (List Count) (List Count) (List Count) (List Count) (List Count) (List Count) Declared (List Count) (List Count) (List Count) (List Count) (List Count) (List Count) (List Count) (List Count) aexp_step alt_step decl_step exp_step locals_step open_step operand_step rhs_step where_step alt_guard_step alt_item_step alts_step decl_item_step decls_step guard_step next_operand_step operands_step part_step redef_step redef_item_step redefs_step

unfoldable pub rhs_counts : Rhs → List Count
rhs_counts = fold-Rhs (List Count) (List Count) Declared (List Count) (List Count) (List Count) (List Count) (List Count) (List Count) (List Count) (List Count) (List Count) Declared (List Count) (List Count) (List Count) (List Count) (List Count) (List Count) (List Count) (List Count) aexp_step alt_step decl_step exp_step locals_step open_step operand_step rhs_step where_step alt_guard_step alt_item_step alts_step decl_item_step decls_step guard_step next_operand_step operands_step part_step redef_step redef_item_step redefs_step

unfoldable pub where_counts : Where → List Count
where_counts = fold-Where (List Count) (List Count) Declared (List Count) (List Count) (List Count) (List Count) (List Count) (List Count) (List Count) (List Count) (List Count) Declared (List Count) (List Count) (List Count) (List Count) (List Count) (List Count) (List Count) (List Count) aexp_step alt_step decl_step exp_step locals_step open_step operand_step rhs_step where_step alt_guard_step alt_item_step alts_step decl_item_step decls_step guard_step next_operand_step operands_step part_step redef_step redef_item_step redefs_step

unfoldable pub alt_guard_counts : AltGuard → List Count
alt_guard_counts = fold-AltGuard (List Count) (List Count) Declared (List Count) (List Count) (List Count) (List Count) (List Count) (List Count) (List Count) (List Count) (List Count) Declared (List Count) (List Count) (List Count) (List Count) (List Count) (List Count) (List Count) (List Count) aexp_step alt_step decl_step exp_step locals_step open_step operand_step rhs_step where_step alt_guard_step alt_item_step alts_step decl_item_step decls_step guard_step next_operand_step operands_step part_step redef_step redef_item_step redefs_step

unfoldable pub alt_item_counts : AltItem → List Count
alt_item_counts = fold-AltItem (List Count) (List Count) Declared (List Count) (List Count) (List Count) (List Count) (List Count) (List Count) (List Count) (List Count) (List Count) Declared (List Count) (List Count) (List Count) (List Count) (List Count) (List Count) (List Count) (List Count) aexp_step alt_step decl_step exp_step locals_step open_step operand_step rhs_step where_step alt_guard_step alt_item_step alts_step decl_item_step decls_step guard_step next_operand_step operands_step part_step redef_step redef_item_step redefs_step

unfoldable pub alts_counts : Alts → List Count
alts_counts = fold-Alts (List Count) (List Count) Declared (List Count) (List Count) (List Count) (List Count) (List Count) (List Count) (List Count) (List Count) (List Count) Declared (List Count) (List Count) (List Count) (List Count) (List Count) (List Count) (List Count) (List Count) aexp_step alt_step decl_step exp_step locals_step open_step operand_step rhs_step where_step alt_guard_step alt_item_step alts_step decl_item_step decls_step guard_step next_operand_step operands_step part_step redef_step redef_item_step redefs_step

unfoldable pub decl_item_declared : DeclItem → Declared
decl_item_declared = fold-DeclItem (List Count) (List Count) Declared (List Count) (List Count) (List Count) (List Count) (List Count) (List Count) (List Count) (List Count) (List Count) Declared (List Count) (List Count) (List Count) (List Count) (List Count) (List Count) (List Count) (List Count) aexp_step alt_step decl_step exp_step locals_step open_step operand_step rhs_step where_step alt_guard_step alt_item_step alts_step decl_item_step decls_step guard_step next_operand_step operands_step part_step redef_step redef_item_step redefs_step

unfoldable pub decls_counts : Decls → List Count
decls_counts = fold-Decls (List Count) (List Count) Declared (List Count) (List Count) (List Count) (List Count) (List Count) (List Count) (List Count) (List Count) (List Count) Declared (List Count) (List Count) (List Count) (List Count) (List Count) (List Count) (List Count) (List Count) aexp_step alt_step decl_step exp_step locals_step open_step operand_step rhs_step where_step alt_guard_step alt_item_step alts_step decl_item_step decls_step guard_step next_operand_step operands_step part_step redef_step redef_item_step redefs_step

unfoldable pub guard_counts : Guard → List Count
guard_counts = fold-Guard (List Count) (List Count) Declared (List Count) (List Count) (List Count) (List Count) (List Count) (List Count) (List Count) (List Count) (List Count) Declared (List Count) (List Count) (List Count) (List Count) (List Count) (List Count) (List Count) (List Count) aexp_step alt_step decl_step exp_step locals_step open_step operand_step rhs_step where_step alt_guard_step alt_item_step alts_step decl_item_step decls_step guard_step next_operand_step operands_step part_step redef_step redef_item_step redefs_step

unfoldable pub next_operand_counts : NextOperand → List Count
next_operand_counts = fold-NextOperand (List Count) (List Count) Declared (List Count) (List Count) (List Count) (List Count) (List Count) (List Count) (List Count) (List Count) (List Count) Declared (List Count) (List Count) (List Count) (List Count) (List Count) (List Count) (List Count) (List Count) aexp_step alt_step decl_step exp_step locals_step open_step operand_step rhs_step where_step alt_guard_step alt_item_step alts_step decl_item_step decls_step guard_step next_operand_step operands_step part_step redef_step redef_item_step redefs_step

unfoldable pub operands_counts : OperandList → List Count
operands_counts = fold-OperandList (List Count) (List Count) Declared (List Count) (List Count) (List Count) (List Count) (List Count) (List Count) (List Count) (List Count) (List Count) Declared (List Count) (List Count) (List Count) (List Count) (List Count) (List Count) (List Count) (List Count) aexp_step alt_step decl_step exp_step locals_step open_step operand_step rhs_step where_step alt_guard_step alt_item_step alts_step decl_item_step decls_step guard_step next_operand_step operands_step part_step redef_step redef_item_step redefs_step

unfoldable pub part_counts : Part → List Count
part_counts = fold-Part (List Count) (List Count) Declared (List Count) (List Count) (List Count) (List Count) (List Count) (List Count) (List Count) (List Count) (List Count) Declared (List Count) (List Count) (List Count) (List Count) (List Count) (List Count) (List Count) (List Count) aexp_step alt_step decl_step exp_step locals_step open_step operand_step rhs_step where_step alt_guard_step alt_item_step alts_step decl_item_step decls_step guard_step next_operand_step operands_step part_step redef_step redef_item_step redefs_step

unfoldable pub redef_counts : Redef → List Count
redef_counts = fold-Redef (List Count) (List Count) Declared (List Count) (List Count) (List Count) (List Count) (List Count) (List Count) (List Count) (List Count) (List Count) Declared (List Count) (List Count) (List Count) (List Count) (List Count) (List Count) (List Count) (List Count) aexp_step alt_step decl_step exp_step locals_step open_step operand_step rhs_step where_step alt_guard_step alt_item_step alts_step decl_item_step decls_step guard_step next_operand_step operands_step part_step redef_step redef_item_step redefs_step

unfoldable pub redef_item_counts : RedefItem → List Count
redef_item_counts = fold-RedefItem (List Count) (List Count) Declared (List Count) (List Count) (List Count) (List Count) (List Count) (List Count) (List Count) (List Count) (List Count) Declared (List Count) (List Count) (List Count) (List Count) (List Count) (List Count) (List Count) (List Count) aexp_step alt_step decl_step exp_step locals_step open_step operand_step rhs_step where_step alt_guard_step alt_item_step alts_step decl_item_step decls_step guard_step next_operand_step operands_step part_step redef_step redef_item_step redefs_step

unfoldable pub redefs_counts : Redefs → List Count
redefs_counts = fold-Redefs (List Count) (List Count) Declared (List Count) (List Count) (List Count) (List Count) (List Count) (List Count) (List Count) (List Count) (List Count) Declared (List Count) (List Count) (List Count) (List Count) (List Count) (List Count) (List Count) (List Count) aexp_step alt_step decl_step exp_step locals_step open_step operand_step rhs_step where_step alt_guard_step alt_item_step alts_step decl_item_step decls_step guard_step next_operand_step operands_step part_step redef_step redef_item_step redefs_step

abbrev pub clause_at : DeclItem → Option Clause
clause_at d = (decl_item_declared d).clause

abbrev pub names_at : DeclItem → List ℕ
names_at d = (decl_item_declared d).names

abbrev pub patterns_at : DeclItem → ℕ
patterns_at d = (decl_item_declared d).patterns

abbrev pub inside_at : DeclItem → List Count
inside_at d = (decl_item_declared d).inside
