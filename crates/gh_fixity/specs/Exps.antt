-- Expressions and declarations, arranged: the same tree, but where a list of operands stood, its tree. The fixities that a
-- list of declarations gives local names hold in the whole list and in what it belongs to (Haskell 98 Report, 4.4.2).
use Rattle.std.specs.Prelude.{List, [], ◌∷◌, ◌++◌, map, Option, Some, None}
use Rattle.gh_base.specs.declared.place.Span.{Span}
use Rattle.gh_program.specs.declared.expressions.Aexp.{Aexp, fold-Aexp}
use Rattle.gh_program.specs.declared.expressions.Aexp.TheVariants as v_Aexp
use Rattle.gh_program.specs.declared.expressions.Alt.{Alt, fold-Alt}
use Rattle.gh_program.specs.declared.expressions.Alt.TheVariants as v_Alt
use Rattle.gh_program.specs.declared.expressions.Decl.{Decl, fold-Decl}
use Rattle.gh_program.specs.declared.expressions.Decl.TheVariants as v_Decl
use Rattle.gh_program.specs.declared.expressions.Exp.{Exp, fold-Exp}
use Rattle.gh_program.specs.declared.expressions.Exp.TheVariants as v_Exp
use Rattle.gh_program.specs.declared.expressions.Locals.{Locals, fold-Locals}
use Rattle.gh_program.specs.declared.expressions.Locals.TheVariants as v_Locals
use Rattle.gh_program.specs.declared.expressions.Open.{Open, fold-Open}
use Rattle.gh_program.specs.declared.expressions.Open.TheVariants as v_Open
use Rattle.gh_program.specs.declared.expressions.Operand.{Operand, fold-Operand}
use Rattle.gh_program.specs.declared.expressions.Operand.TheVariants as v_Operand
use Rattle.gh_program.specs.declared.expressions.Operands.{Operands, fold-Operands}
use Rattle.gh_program.specs.declared.expressions.Operands.TheVariants as v_Operands
use Rattle.gh_program.specs.declared.expressions.Rhs.{Rhs, fold-Rhs}
use Rattle.gh_program.specs.declared.expressions.Rhs.TheVariants as v_Rhs
use Rattle.gh_program.specs.declared.expressions.Guard.{Guard, fold-Guard, roll-Guard}
use Rattle.gh_program.specs.declared.expressions.NextOperand.{NextOperand, fold-NextOperand}
use Rattle.gh_program.specs.declared.expressions.Redef.{Redef, fold-Redef, roll-Redef}
use Rattle.gh_program.specs.declared.expressions.Aexp.TheOpen.{Aexp-F, Alt-F, Decl-F, Exp-F, Locals-F, Open-F, Operand-F, Operands-F, Rhs-F, Guard-F, NextOperand-F, Redef-F}
use Rattle.gh_fixity.specs.declared.part.Part.{Part}
use Rattle.gh_fixity.specs.declared.part.Part.TheVariants as part
use Rattle.gh_fixity.specs.declared.walked.Walked.{Walked}
use Rattle.gh_fixity.specs.declared.walked.Walked.TheVariants as walked
use Rattle.gh_fixity.specs.Finish.{finished, finished_pattern, left_tree, left_clashes, right_tree, right_clashes}
use Rattle.gh_fixity.specs.Fixities.{TopFixities, with_locals, written_fixity}
use Rattle.gh_fixity.specs.Patterns.{arg_pattern_out, pattern_out, fun_lhs_out}
use Rattle.gh_fixity.specs.Walks.{Walk, Scoped, trees, all_clashes, all_trees, walks, entered}

abbrev pub signed : Option Span → List Part → List Part
signed None ps = ps
signed (Some s) ps = part.Minus s ∷ ps

abbrev pub aexp_step : TopFixities → Aexp-F (Walk Aexp) (Walk Alt) (Scoped Decl) (Walk Exp) (Scoped Locals) (Walk Open) (Walk Operand) (Walk Walked) (Walk Rhs) (Walk Guard) (Walk (List Part)) (Walk Redef) → Walk Aexp
aexp_step ts (Aexp-F.Var o) = λ l. record { tree = v_Aexp.Var o; clashes = [] }
aexp_step ts (Aexp-F.Generic s o y) = λ l. record { tree = v_Aexp.Generic s o y; clashes = [] }
aexp_step ts (Aexp-F.Con g) = λ l. record { tree = v_Aexp.Con g; clashes = [] }
aexp_step ts (Aexp-F.Int s n) = λ l. record { tree = v_Aexp.Int s n; clashes = [] }
aexp_step ts (Aexp-F.Char s n) = λ l. record { tree = v_Aexp.Char s n; clashes = [] }
aexp_step ts (Aexp-F.Str s cs) = λ l. record { tree = v_Aexp.Str s cs; clashes = [] }
aexp_step ts (Aexp-F.Paren s x) = λ l. record { tree = v_Aexp.Paren s (x l).tree; clashes = (x l).clashes }
aexp_step ts (Aexp-F.Tuple s xs) = λ l. record { tree = v_Aexp.Tuple s (trees l xs); clashes = all_clashes l xs }
aexp_step ts (Aexp-F.List s xs) = λ l. record { tree = v_Aexp.List s (trees l xs); clashes = all_clashes l xs }
aexp_step ts (Aexp-F.Left s x o) = λ l. record { tree = v_Aexp.Left s (left_tree ts l (x l).tree o) o; clashes = (x l).clashes ++ left_clashes ts l (x l).tree o }
aexp_step ts (Aexp-F.Right s o x) = λ l. record { tree = v_Aexp.Right s o (right_tree ts l o (x l).tree); clashes = (x l).clashes ++ right_clashes ts l o (x l).tree }

abbrev pub alt_step : TopFixities → Alt-F (Walk Aexp) (Walk Alt) (Scoped Decl) (Walk Exp) (Scoped Locals) (Walk Open) (Walk Operand) (Walk Walked) (Walk Rhs) (Walk Guard) (Walk (List Part)) (Walk Redef) → Walk Alt
alt_step ts (Alt-F.Alt::Plain s p x ds) = λ l. record { tree = v_Alt.Plain s (finished_pattern ts (pattern_out ts p) l).tree (x (entered ds l)).tree (trees (entered ds l) (walks ds)); clashes = (finished_pattern ts (pattern_out ts p) l).clashes ++ (all_clashes (entered ds l) (walks ds) ++ (x (entered ds l)).clashes) }
alt_step ts (Alt-F.Alt::Guarded s p gs ds) = λ l. record { tree = v_Alt.Guarded s (finished_pattern ts (pattern_out ts p) l).tree (trees (entered ds l) gs) (trees (entered ds l) (walks ds)); clashes = (finished_pattern ts (pattern_out ts p) l).clashes ++ (all_clashes (entered ds l) (walks ds) ++ all_clashes (entered ds l) gs) }

abbrev pub decl_step : TopFixities → Decl-F (Walk Aexp) (Walk Alt) (Scoped Decl) (Walk Exp) (Scoped Locals) (Walk Open) (Walk Operand) (Walk Walked) (Walk Rhs) (Walk Guard) (Walk (List Part)) (Walk Redef) → Scoped Decl
decl_step ts (Decl-F.Signature s os y) = record { enter = λ l. l; walk = λ l. record { tree = v_Decl.Signature s os y; clashes = [] } }
decl_step ts (Decl-F.Fixity s w n os) = record { enter = λ l. with_locals (written_fixity w n) l os; walk = λ l. record { tree = v_Decl.Fixity s w n os; clashes = [] } }
decl_step ts (Decl-F.Function s f r) = record { enter = λ l. l; walk = λ l. record { tree = v_Decl.Function s (fun_lhs_out ts f l).tree (r l).tree; clashes = (fun_lhs_out ts f l).clashes ++ (r l).clashes } }
decl_step ts (Decl-F.Pattern s p r) = record { enter = λ l. l; walk = λ l. record { tree = v_Decl.Pattern s (finished_pattern ts (pattern_out ts p) l).tree (r l).tree; clashes = (finished_pattern ts (pattern_out ts p) l).clashes ++ (r l).clashes } }

abbrev pub exp_step : TopFixities → Exp-F (Walk Aexp) (Walk Alt) (Scoped Decl) (Walk Exp) (Scoped Locals) (Walk Open) (Walk Operand) (Walk Walked) (Walk Rhs) (Walk Guard) (Walk (List Part)) (Walk Redef) → Walk Exp
exp_step ts (Exp-F.Exp::Plain x) = λ l. record { tree = v_Exp.Plain (finished ts x l).tree; clashes = (finished ts x l).clashes }
exp_step ts (Exp-F.Typed s x y) = λ l. record { tree = v_Exp.Typed s (finished ts x l).tree y; clashes = (finished ts x l).clashes }

abbrev pub locals_step : TopFixities → Locals-F (Walk Aexp) (Walk Alt) (Scoped Decl) (Walk Exp) (Scoped Locals) (Walk Open) (Walk Operand) (Walk Walked) (Walk Rhs) (Walk Guard) (Walk (List Part)) (Walk Redef) → Scoped Locals
locals_step ts (Locals-F.Decls ds) = record { enter = λ l. entered ds l; walk = λ l. record { tree = v_Locals.Decls (trees l (walks ds)); clashes = all_clashes l (walks ds) } }
locals_step ts (Locals-F.Redefs rs) = record { enter = λ l. l; walk = λ l. record { tree = v_Locals.Redefs (trees l rs); clashes = all_clashes l rs } }

abbrev pub open_step : TopFixities → Open-F (Walk Aexp) (Walk Alt) (Scoped Decl) (Walk Exp) (Scoped Locals) (Walk Open) (Walk Operand) (Walk Walked) (Walk Rhs) (Walk Guard) (Walk (List Part)) (Walk Redef) → Walk Open
open_step ts (Open-F.Lambda s ps x) = λ l. record { tree = v_Open.Lambda s (trees l (map (arg_pattern_out ts) ps)) (x l).tree; clashes = all_clashes l (map (arg_pattern_out ts) ps) ++ (x l).clashes }
open_step ts (Open-F.Let s d x) = λ l. record { tree = v_Open.Let s (d.walk (d.enter l)).tree (x (d.enter l)).tree; clashes = (d.walk (d.enter l)).clashes ++ (x (d.enter l)).clashes }
open_step ts (Open-F.If s x y z) = λ l. record { tree = v_Open.If s (x l).tree (y l).tree (z l).tree; clashes = (x l).clashes ++ ((y l).clashes ++ (z l).clashes) }

abbrev pub operand_step : TopFixities → Operand-F (Walk Aexp) (Walk Alt) (Scoped Decl) (Walk Exp) (Scoped Locals) (Walk Open) (Walk Operand) (Walk Walked) (Walk Rhs) (Walk Guard) (Walk (List Part)) (Walk Redef) → Walk Operand
operand_step ts (Operand-F.Apply s x xs) = λ l. record { tree = v_Operand.Apply s (x l).tree (trees l xs); clashes = (x l).clashes ++ all_clashes l xs }
operand_step ts (Operand-F.Case s x qs) = λ l. record { tree = v_Operand.Case s (x l).tree (trees l qs); clashes = (x l).clashes ++ all_clashes l qs }
operand_step ts (Operand-F.Open x) = λ l. record { tree = v_Operand.Open (x l).tree; clashes = (x l).clashes }

abbrev pub operands_step : TopFixities → Operands-F (Walk Aexp) (Walk Alt) (Scoped Decl) (Walk Exp) (Scoped Locals) (Walk Open) (Walk Operand) (Walk Walked) (Walk Rhs) (Walk Guard) (Walk (List Part)) (Walk Redef) → Walk Walked
operands_step ts (Operands-F.Listed s m x ns) = λ l. record { tree = walked.List (signed m (part.Operand (x l).tree ∷ all_trees l ns)); clashes = (x l).clashes ++ all_clashes l ns }
operands_step ts (Operands-F.Infix s a o b) = λ l. record { tree = walked.Tree (v_Operands.Infix s (finished ts a l).tree o (finished ts b l).tree); clashes = (finished ts a l).clashes ++ (finished ts b l).clashes }
operands_step ts (Operands-F.Negate s m a) = λ l. record { tree = walked.Tree (v_Operands.Negate s m (finished ts a l).tree); clashes = (finished ts a l).clashes }

abbrev pub rhs_step : TopFixities → Rhs-F (Walk Aexp) (Walk Alt) (Scoped Decl) (Walk Exp) (Scoped Locals) (Walk Open) (Walk Operand) (Walk Walked) (Walk Rhs) (Walk Guard) (Walk (List Part)) (Walk Redef) → Walk Rhs
rhs_step ts (Rhs-F.Rhs::Plain s x ds) = λ l. record { tree = v_Rhs.Plain s (x (entered ds l)).tree (trees (entered ds l) (walks ds)); clashes = all_clashes (entered ds l) (walks ds) ++ (x (entered ds l)).clashes }
rhs_step ts (Rhs-F.Rhs::Guarded s gs ds) = λ l. record { tree = v_Rhs.Guarded s (trees (entered ds l) gs) (trees (entered ds l) (walks ds)); clashes = all_clashes (entered ds l) (walks ds) ++ all_clashes (entered ds l) gs }

abbrev pub guard_step : TopFixities → Guard-F (Walk Aexp) (Walk Alt) (Scoped Decl) (Walk Exp) (Scoped Locals) (Walk Open) (Walk Operand) (Walk Walked) (Walk Rhs) (Walk Guard) (Walk (List Part)) (Walk Redef) → Walk Guard
guard_step ts x = λ l. record { tree = roll-Guard (record { span = x.span; test = (finished ts x.test l).tree; body = (x.body l).tree }); clashes = (finished ts x.test l).clashes ++ (x.body l).clashes }

abbrev pub next_operand_step : TopFixities → NextOperand-F (Walk Aexp) (Walk Alt) (Scoped Decl) (Walk Exp) (Scoped Locals) (Walk Open) (Walk Operand) (Walk Walked) (Walk Rhs) (Walk Guard) (Walk (List Part)) (Walk Redef) → Walk (List Part)
next_operand_step ts x = λ l. record { tree = part.Op x.op ∷ signed x.minus (part.Operand (x.operand l).tree ∷ []); clashes = (x.operand l).clashes }

abbrev pub redef_step : TopFixities → Redef-F (Walk Aexp) (Walk Alt) (Scoped Decl) (Walk Exp) (Scoped Locals) (Walk Open) (Walk Operand) (Walk Walked) (Walk Rhs) (Walk Guard) (Walk (List Part)) (Walk Redef) → Walk Redef
redef_step ts x = λ l. record { tree = roll-Redef (record { span = x.span; function = x.function; variable = x.variable; body = (x.body l).tree }); clashes = (x.body l).clashes }

unfoldable pub aexp_out : TopFixities → Aexp → Walk Aexp
aexp_out ts = fold-Aexp (Walk Aexp) (Walk Alt) (Scoped Decl) (Walk Exp) (Scoped Locals) (Walk Open) (Walk Operand) (Walk Walked) (Walk Rhs) (Walk Guard) (Walk (List Part)) (Walk Redef) (aexp_step ts) (alt_step ts) (decl_step ts) (exp_step ts) (locals_step ts) (open_step ts) (operand_step ts) (operands_step ts) (rhs_step ts) (guard_step ts) (next_operand_step ts) (redef_step ts)

unfoldable pub alt_out : TopFixities → Alt → Walk Alt
alt_out ts = fold-Alt (Walk Aexp) (Walk Alt) (Scoped Decl) (Walk Exp) (Scoped Locals) (Walk Open) (Walk Operand) (Walk Walked) (Walk Rhs) (Walk Guard) (Walk (List Part)) (Walk Redef) (aexp_step ts) (alt_step ts) (decl_step ts) (exp_step ts) (locals_step ts) (open_step ts) (operand_step ts) (operands_step ts) (rhs_step ts) (guard_step ts) (next_operand_step ts) (redef_step ts)

unfoldable pub decl_out : TopFixities → Decl → Scoped Decl
decl_out ts = fold-Decl (Walk Aexp) (Walk Alt) (Scoped Decl) (Walk Exp) (Scoped Locals) (Walk Open) (Walk Operand) (Walk Walked) (Walk Rhs) (Walk Guard) (Walk (List Part)) (Walk Redef) (aexp_step ts) (alt_step ts) (decl_step ts) (exp_step ts) (locals_step ts) (open_step ts) (operand_step ts) (operands_step ts) (rhs_step ts) (guard_step ts) (next_operand_step ts) (redef_step ts)

unfoldable pub exp_out : TopFixities → Exp → Walk Exp
exp_out ts = fold-Exp (Walk Aexp) (Walk Alt) (Scoped Decl) (Walk Exp) (Scoped Locals) (Walk Open) (Walk Operand) (Walk Walked) (Walk Rhs) (Walk Guard) (Walk (List Part)) (Walk Redef) (aexp_step ts) (alt_step ts) (decl_step ts) (exp_step ts) (locals_step ts) (open_step ts) (operand_step ts) (operands_step ts) (rhs_step ts) (guard_step ts) (next_operand_step ts) (redef_step ts)

unfoldable pub locals_out : TopFixities → Locals → Scoped Locals
locals_out ts = fold-Locals (Walk Aexp) (Walk Alt) (Scoped Decl) (Walk Exp) (Scoped Locals) (Walk Open) (Walk Operand) (Walk Walked) (Walk Rhs) (Walk Guard) (Walk (List Part)) (Walk Redef) (aexp_step ts) (alt_step ts) (decl_step ts) (exp_step ts) (locals_step ts) (open_step ts) (operand_step ts) (operands_step ts) (rhs_step ts) (guard_step ts) (next_operand_step ts) (redef_step ts)

unfoldable pub open_out : TopFixities → Open → Walk Open
open_out ts = fold-Open (Walk Aexp) (Walk Alt) (Scoped Decl) (Walk Exp) (Scoped Locals) (Walk Open) (Walk Operand) (Walk Walked) (Walk Rhs) (Walk Guard) (Walk (List Part)) (Walk Redef) (aexp_step ts) (alt_step ts) (decl_step ts) (exp_step ts) (locals_step ts) (open_step ts) (operand_step ts) (operands_step ts) (rhs_step ts) (guard_step ts) (next_operand_step ts) (redef_step ts)

unfoldable pub operand_out : TopFixities → Operand → Walk Operand
operand_out ts = fold-Operand (Walk Aexp) (Walk Alt) (Scoped Decl) (Walk Exp) (Scoped Locals) (Walk Open) (Walk Operand) (Walk Walked) (Walk Rhs) (Walk Guard) (Walk (List Part)) (Walk Redef) (aexp_step ts) (alt_step ts) (decl_step ts) (exp_step ts) (locals_step ts) (open_step ts) (operand_step ts) (operands_step ts) (rhs_step ts) (guard_step ts) (next_operand_step ts) (redef_step ts)

unfoldable pub operands_out : TopFixities → Operands → Walk Walked
operands_out ts = fold-Operands (Walk Aexp) (Walk Alt) (Scoped Decl) (Walk Exp) (Scoped Locals) (Walk Open) (Walk Operand) (Walk Walked) (Walk Rhs) (Walk Guard) (Walk (List Part)) (Walk Redef) (aexp_step ts) (alt_step ts) (decl_step ts) (exp_step ts) (locals_step ts) (open_step ts) (operand_step ts) (operands_step ts) (rhs_step ts) (guard_step ts) (next_operand_step ts) (redef_step ts)

unfoldable pub rhs_out : TopFixities → Rhs → Walk Rhs
rhs_out ts = fold-Rhs (Walk Aexp) (Walk Alt) (Scoped Decl) (Walk Exp) (Scoped Locals) (Walk Open) (Walk Operand) (Walk Walked) (Walk Rhs) (Walk Guard) (Walk (List Part)) (Walk Redef) (aexp_step ts) (alt_step ts) (decl_step ts) (exp_step ts) (locals_step ts) (open_step ts) (operand_step ts) (operands_step ts) (rhs_step ts) (guard_step ts) (next_operand_step ts) (redef_step ts)

unfoldable pub guard_out : TopFixities → Guard → Walk Guard
guard_out ts = fold-Guard (Walk Aexp) (Walk Alt) (Scoped Decl) (Walk Exp) (Scoped Locals) (Walk Open) (Walk Operand) (Walk Walked) (Walk Rhs) (Walk Guard) (Walk (List Part)) (Walk Redef) (aexp_step ts) (alt_step ts) (decl_step ts) (exp_step ts) (locals_step ts) (open_step ts) (operand_step ts) (operands_step ts) (rhs_step ts) (guard_step ts) (next_operand_step ts) (redef_step ts)

unfoldable pub next_operand_out : TopFixities → NextOperand → Walk (List Part)
next_operand_out ts = fold-NextOperand (Walk Aexp) (Walk Alt) (Scoped Decl) (Walk Exp) (Scoped Locals) (Walk Open) (Walk Operand) (Walk Walked) (Walk Rhs) (Walk Guard) (Walk (List Part)) (Walk Redef) (aexp_step ts) (alt_step ts) (decl_step ts) (exp_step ts) (locals_step ts) (open_step ts) (operand_step ts) (operands_step ts) (rhs_step ts) (guard_step ts) (next_operand_step ts) (redef_step ts)

unfoldable pub redef_out : TopFixities → Redef → Walk Redef
redef_out ts = fold-Redef (Walk Aexp) (Walk Alt) (Scoped Decl) (Walk Exp) (Scoped Locals) (Walk Open) (Walk Operand) (Walk Walked) (Walk Rhs) (Walk Guard) (Walk (List Part)) (Walk Redef) (aexp_step ts) (alt_step ts) (decl_step ts) (exp_step ts) (locals_step ts) (open_step ts) (operand_step ts) (operands_step ts) (rhs_step ts) (guard_step ts) (next_operand_step ts) (redef_step ts)
