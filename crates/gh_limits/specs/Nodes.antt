-- The nodes of expressions and declarations: which stand in which, and what is counted at each by itself.
use Rattle.std.specs.Prelude.{◌≡◌, ◌+◌, List, [], ◌∷◌, ◌++◌, length, map, None}
use Rattle.gh_base.specs.declared.refusal.Limit.TheVariants.{Arguments, Bindings}
use Rattle.gh_tree.specs.declared.expressions.Aexp.{Aexp, out-Aexp}
use Rattle.gh_tree.specs.declared.expressions.Alt.{Alt, out-Alt}
use Rattle.gh_tree.specs.declared.expressions.Decl.{Decl, out-Decl}
use Rattle.gh_tree.specs.declared.expressions.Exp.{Exp, out-Exp}
use Rattle.gh_tree.specs.declared.expressions.Locals.{Locals, out-Locals}
use Rattle.gh_tree.specs.declared.expressions.Open.{Open, out-Open}
use Rattle.gh_tree.specs.declared.expressions.Operand.{Operand, out-Operand}
use Rattle.gh_tree.specs.declared.expressions.Rhs.{Rhs, out-Rhs}
use Rattle.gh_tree.specs.declared.expressions.Where.{Where, out-Where}
use Rattle.gh_tree.specs.declared.expressions.AltGuard.{AltGuard, out-AltGuard}
use Rattle.gh_tree.specs.declared.expressions.AltItem.{AltItem, out-AltItem}
use Rattle.gh_tree.specs.declared.expressions.Alts.{Alts, out-Alts}
use Rattle.gh_tree.specs.declared.expressions.DeclItem.{DeclItem, out-DeclItem}
use Rattle.gh_tree.specs.declared.expressions.Decls.{Decls, out-Decls}
use Rattle.gh_tree.specs.declared.expressions.Guard.{Guard, out-Guard}
use Rattle.gh_tree.specs.declared.expressions.NextOperand.{NextOperand, out-NextOperand}
use Rattle.gh_tree.specs.declared.expressions.OperandList.{OperandList, out-OperandList}
use Rattle.gh_tree.specs.declared.expressions.Part.{Part, out-Part}
use Rattle.gh_tree.specs.declared.expressions.Redef.{Redef, out-Redef}
use Rattle.gh_tree.specs.declared.expressions.RedefItem.{RedefItem, out-RedefItem}
use Rattle.gh_tree.specs.declared.expressions.Redefs.{Redefs, out-Redefs}
use Rattle.gh_tree.specs.declared.expressions.Aexp.TheOpen.{Aexp-F, Alt-F, Decl-F, Exp-F, Locals-F, Open-F, Operand-F, Rhs-F, Where-F, AltGuard-F, AltItem-F, Alts-F, DeclItem-F, Decls-F, Guard-F, NextOperand-F, OperandList-F, Part-F, Redef-F, RedefItem-F, Redefs-F}
use Rattle.gh_limits.specs.Bound.{head_of}
use Rattle.gh_limits.specs.Inside.{decl_item_declared, clause_at, bound, clause_counts}
use Rattle.gh_limits.specs.Places.{Count, count}

-- this is one of these
pub data Among {A : Type 0} (x : A) : List A → Type 0 where
  is_first : (y : A) (ys : List A) → x ≡ y → Among x (y ∷ ys)
  is_later : (y : A) (ys : List A) → Among x ys → Among x (y ∷ ys)

pub data Node : Type 0 where
  an_aexp : Aexp → Node
  an_alt : Alt → Node
  a_decl : Decl → Node
  an_exp : Exp → Node
  a_locals : Locals → Node
  an_open : Open → Node
  an_operand : Operand → Node
  a_rhs : Rhs → Node
  a_where : Where → Node
  an_alt_guard : AltGuard → Node
  an_alt_item : AltItem → Node
  an_alts : Alts → Node
  a_decl_item : DeclItem → Node
  a_decls : Decls → Node
  a_guard : Guard → Node
  a_next_operand : NextOperand → Node
  an_operand_list : OperandList → Node
  a_part : Part → Node
  a_redef : Redef → Node
  a_redef_item : RedefItem → Node
  a_redefs : Redefs → Node

-- the nodes that stand right in one: its expressions, operands, declarations, guards and alternatives
abbrev pub aexp_children : Aexp-F Aexp Alt Decl Exp Locals Open Operand Rhs Where AltGuard AltItem Alts DeclItem Decls Guard NextOperand OperandList Part Redef RedefItem Redefs → List Node
aexp_children (Aexp-F.Var x0) = []
aexp_children (Aexp-F.Generic x0 x1 x2 x3 x4) = []
aexp_children (Aexp-F.Con x0) = []
aexp_children (Aexp-F.Int x0 x1) = []
aexp_children (Aexp-F.Char x0 x1) = []
aexp_children (Aexp-F.Str x0 x1) = []
aexp_children (Aexp-F.Paren x0 x1 x2 x3) = an_exp x2 ∷ []
aexp_children (Aexp-F.Tuple x0 x1 x2 x3 x4) = an_exp x2 ∷ map a_part x3
aexp_children (Aexp-F.List x0 x1 x2 x3 x4) = an_exp x2 ∷ map a_part x3
aexp_children (Aexp-F.Left x0 x1 x2 x3 x4) = an_operand_list x2 ∷ []
aexp_children (Aexp-F.Right x0 x1 x2 x3 x4) = an_operand_list x3 ∷ []

abbrev pub alt_children : Alt-F Aexp Alt Decl Exp Locals Open Operand Rhs Where AltGuard AltItem Alts DeclItem Decls Guard NextOperand OperandList Part Redef RedefItem Redefs → List Node
alt_children (Alt-F.Alt::Plain x0 x1 x2 x3 x4) = an_exp x3 ∷ a_where x4 ∷ []
alt_children (Alt-F.Alt::Guarded x0 x1 x2 x3 x4) = an_alt_guard x2 ∷ (map an_alt_guard x3 ++ a_where x4 ∷ [])

abbrev pub decl_children : Decl-F Aexp Alt Decl Exp Locals Open Operand Rhs Where AltGuard AltItem Alts DeclItem Decls Guard NextOperand OperandList Part Redef RedefItem Redefs → List Node
decl_children (Decl-F.Signature x0 x1 x2 x3 x4) = []
decl_children (Decl-F.Fixity x0 x1 x2 x3 x4) = []
decl_children (Decl-F.Function x0 x1 x2) = a_rhs x2 ∷ []
decl_children (Decl-F.Pattern x0 x1 x2) = a_rhs x2 ∷ []

abbrev pub exp_children : Exp-F Aexp Alt Decl Exp Locals Open Operand Rhs Where AltGuard AltItem Alts DeclItem Decls Guard NextOperand OperandList Part Redef RedefItem Redefs → List Node
exp_children (Exp-F.Exp::Plain x0) = an_operand_list x0 ∷ []
exp_children (Exp-F.Typed x0 x1 x2 x3) = an_operand_list x1 ∷ []

abbrev pub locals_children : Locals-F Aexp Alt Decl Exp Locals Open Operand Rhs Where AltGuard AltItem Alts DeclItem Decls Guard NextOperand OperandList Part Redef RedefItem Redefs → List Node
locals_children (Locals-F.Decls x0) = a_decls x0 ∷ []
locals_children (Locals-F.Redefs x0) = a_redefs x0 ∷ []

abbrev pub open_children : Open-F Aexp Alt Decl Exp Locals Open Operand Rhs Where AltGuard AltItem Alts DeclItem Decls Guard NextOperand OperandList Part Redef RedefItem Redefs → List Node
open_children (Open-F.Lambda x0 x1 x2 x3 x4 x5) = an_exp x5 ∷ []
open_children (Open-F.Let x0 x1 x2 x3 x4) = a_locals x2 ∷ an_exp x4 ∷ []
open_children (Open-F.If x0 x1 x2 x3 x4 x5 x6) = an_exp x2 ∷ an_exp x4 ∷ an_exp x6 ∷ []

abbrev pub operand_children : Operand-F Aexp Alt Decl Exp Locals Open Operand Rhs Where AltGuard AltItem Alts DeclItem Decls Guard NextOperand OperandList Part Redef RedefItem Redefs → List Node
operand_children (Operand-F.Apply x0 x1 x2) = an_aexp x1 ∷ map an_aexp x2
operand_children (Operand-F.Case x0 x1 x2 x3 x4) = an_exp x2 ∷ an_alts x4 ∷ []
operand_children (Operand-F.Open x0) = an_open x0 ∷ []

abbrev pub rhs_children : Rhs-F Aexp Alt Decl Exp Locals Open Operand Rhs Where AltGuard AltItem Alts DeclItem Decls Guard NextOperand OperandList Part Redef RedefItem Redefs → List Node
rhs_children (Rhs-F.Rhs::Plain x0 x1 x2 x3) = an_exp x2 ∷ a_where x3 ∷ []
rhs_children (Rhs-F.Rhs::Guarded x0 x1 x2 x3) = a_guard x1 ∷ (map a_guard x2 ++ a_where x3 ∷ [])

abbrev pub where_children : Where-F Aexp Alt Decl Exp Locals Open Operand Rhs Where AltGuard AltItem Alts DeclItem Decls Guard NextOperand OperandList Part Redef RedefItem Redefs → List Node
where_children (Where-F.Absent) = []
where_children (Where-F.Block x0 x1) = a_decls x1 ∷ []

abbrev pub alt_guard_children : AltGuard-F Aexp Alt Decl Exp Locals Open Operand Rhs Where AltGuard AltItem Alts DeclItem Decls Guard NextOperand OperandList Part Redef RedefItem Redefs → List Node
alt_guard_children z = an_operand_list z.test ∷ an_exp z.body ∷ []

abbrev pub alt_item_children : AltItem-F Aexp Alt Decl Exp Locals Open Operand Rhs Where AltGuard AltItem Alts DeclItem Decls Guard NextOperand OperandList Part Redef RedefItem Redefs → List Node
alt_item_children z = an_alt z.alt ∷ []

abbrev pub alts_children : Alts-F Aexp Alt Decl Exp Locals Open Operand Rhs Where AltGuard AltItem Alts DeclItem Decls Guard NextOperand OperandList Part Redef RedefItem Redefs → List Node
alts_children z = map an_alt_item z.alts

abbrev pub decl_item_children : DeclItem-F Aexp Alt Decl Exp Locals Open Operand Rhs Where AltGuard AltItem Alts DeclItem Decls Guard NextOperand OperandList Part Redef RedefItem Redefs → List Node
decl_item_children z = a_decl z.decl ∷ []

abbrev pub decls_children : Decls-F Aexp Alt Decl Exp Locals Open Operand Rhs Where AltGuard AltItem Alts DeclItem Decls Guard NextOperand OperandList Part Redef RedefItem Redefs → List Node
decls_children z = map a_decl_item z.decls

abbrev pub guard_children : Guard-F Aexp Alt Decl Exp Locals Open Operand Rhs Where AltGuard AltItem Alts DeclItem Decls Guard NextOperand OperandList Part Redef RedefItem Redefs → List Node
guard_children z = an_operand_list z.test ∷ an_exp z.body ∷ []

abbrev pub next_operand_children : NextOperand-F Aexp Alt Decl Exp Locals Open Operand Rhs Where AltGuard AltItem Alts DeclItem Decls Guard NextOperand OperandList Part Redef RedefItem Redefs → List Node
next_operand_children z = an_operand z.operand ∷ []

abbrev pub operands_children : OperandList-F Aexp Alt Decl Exp Locals Open Operand Rhs Where AltGuard AltItem Alts DeclItem Decls Guard NextOperand OperandList Part Redef RedefItem Redefs → List Node
operands_children z = an_operand z.first ∷ map a_next_operand z.others

abbrev pub part_children : Part-F Aexp Alt Decl Exp Locals Open Operand Rhs Where AltGuard AltItem Alts DeclItem Decls Guard NextOperand OperandList Part Redef RedefItem Redefs → List Node
part_children z = an_exp z.exp ∷ []

abbrev pub redef_children : Redef-F Aexp Alt Decl Exp Locals Open Operand Rhs Where AltGuard AltItem Alts DeclItem Decls Guard NextOperand OperandList Part Redef RedefItem Redefs → List Node
redef_children z = an_exp z.body ∷ []

abbrev pub redef_item_children : RedefItem-F Aexp Alt Decl Exp Locals Open Operand Rhs Where AltGuard AltItem Alts DeclItem Decls Guard NextOperand OperandList Part Redef RedefItem Redefs → List Node
redef_item_children z = a_redef z.redef ∷ []

abbrev pub redefs_children : Redefs-F Aexp Alt Decl Exp Locals Open Operand Rhs Where AltGuard AltItem Alts DeclItem Decls Guard NextOperand OperandList Part Redef RedefItem Redefs → List Node
redefs_children z = map a_redef_item z.redefs

abbrev pub children : Node → List Node
children (an_aexp x) = aexp_children (out-Aexp x)
children (an_alt x) = alt_children (out-Alt x)
children (a_decl x) = decl_children (out-Decl x)
children (an_exp x) = exp_children (out-Exp x)
children (a_locals x) = locals_children (out-Locals x)
children (an_open x) = open_children (out-Open x)
children (an_operand x) = operand_children (out-Operand x)
children (a_rhs x) = rhs_children (out-Rhs x)
children (a_where x) = where_children (out-Where x)
children (an_alt_guard x) = alt_guard_children (out-AltGuard x)
children (an_alt_item x) = alt_item_children (out-AltItem x)
children (an_alts x) = alts_children (out-Alts x)
children (a_decl_item x) = decl_item_children (out-DeclItem x)
children (a_decls x) = decls_children (out-Decls x)
children (a_guard x) = guard_children (out-Guard x)
children (a_next_operand x) = next_operand_children (out-NextOperand x)
children (an_operand_list x) = operands_children (out-OperandList x)
children (a_part x) = part_children (out-Part x)
children (a_redef x) = redef_children (out-Redef x)
children (a_redef_item x) = redef_item_children (out-RedefItem x)
children (a_redefs x) = redefs_children (out-Redefs x)

-- what is counted at a node by itself: the arguments of a lambda and of a clause, the names that a list of declarations binds, and
-- the clauses of its definitions
abbrev pub open_own : Open-F Aexp Alt Decl Exp Locals Open Operand Rhs Where AltGuard AltItem Alts DeclItem Decls Guard NextOperand OperandList Part Redef RedefItem Redefs → List Count
open_own (Open-F.Lambda x0 x1 x2 x3 x4 x5) = count Arguments (1 + length x3) ∷ []
open_own (Open-F.Let x0 x1 x2 x3 x4) = []
open_own (Open-F.If x0 x1 x2 x3 x4 x5 x6) = []

abbrev pub decl_own : Decl-F Aexp Alt Decl Exp Locals Open Operand Rhs Where AltGuard AltItem Alts DeclItem Decls Guard NextOperand OperandList Part Redef RedefItem Redefs → List Count
decl_own (Decl-F.Signature x0 x1 x2 x3 x4) = []
decl_own (Decl-F.Fixity x0 x1 x2 x3 x4) = []
decl_own (Decl-F.Function x0 x1 x2) = count Arguments (head_of x1).arguments ∷ []
decl_own (Decl-F.Pattern x0 x1 x2) = []

abbrev pub decls_own : Decls-F Aexp Alt Decl Exp Locals Open Operand Rhs Where AltGuard AltItem Alts DeclItem Decls Guard NextOperand OperandList Part Redef RedefItem Redefs → List Count
decls_own z = count Bindings (bound (map decl_item_declared z.decls)) ∷ clause_counts None 0 (map clause_at z.decls)

abbrev pub own_counts : Node → List Count
own_counts (an_open x) = open_own (out-Open x)
own_counts (a_decl x) = decl_own (out-Decl x)
own_counts (a_decls x) = decls_own (out-Decls x)
own_counts _ = []

-- a node stands in another: it is that, or stands in one that stands right in it
pub data StandsIn (m : Node) : Node → Type 0 where
  is_itself : (n : Node) → m ≡ n → StandsIn m n
  in_a_child : (n k : Node) → Among k (children n) → StandsIn m k → StandsIn m n

-- this is counted at a node that stands in this one
abbrev pub CountedInside : Count → Node → Type 0
CountedInside c n = (m : Node) × StandsIn m n × Among c (own_counts m)
