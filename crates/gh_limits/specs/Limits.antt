-- The first limit that a file passes.
use Rattle.std.specs.Prelude.{ℕ, ◌+◌, Bool, false, ◌&&◌, ◌==◌, nat_lt, if◌then◌else◌, List, [], ◌∷◌, length, map, Option, Some, None}
use Rattle.gh_base.specs.declared.place.Span.{Span}
use Rattle.gh_base.specs.declared.refusal.Limit.{Limit}
use Rattle.gh_base.specs.declared.refusal.Limit.TheVariants.{Parameters, Dependencies, Constructors, Fields, Arguments, Clauses}
use Rattle.gh_base.specs.declared.refusal.Refusal.{Refusal}
use Rattle.gh_base.specs.declared.refusal.Refusal.TheVariants.{LimitPassed}
use Rattle.gh_tree.specs.declared.expressions.Decl.{Decl, out-Decl}
use Rattle.gh_tree.specs.declared.expressions.Decls.{Decls}
use Rattle.gh_tree.specs.declared.expressions.Exp.{Exp}
use Rattle.gh_tree.specs.declared.expressions.Locals.{Locals}
use Rattle.gh_tree.specs.declared.expressions.Aexp.{Aexp}
use Rattle.gh_tree.specs.declared.expressions.Alt.{Alt}
use Rattle.gh_tree.specs.declared.expressions.Open.{Open}
use Rattle.gh_tree.specs.declared.expressions.Operand.{Operand}
use Rattle.gh_tree.specs.declared.expressions.Rhs.{Rhs}
use Rattle.gh_tree.specs.declared.expressions.Where.{Where}
use Rattle.gh_tree.specs.declared.expressions.AltGuard.{AltGuard}
use Rattle.gh_tree.specs.declared.expressions.AltItem.{AltItem}
use Rattle.gh_tree.specs.declared.expressions.Alts.{Alts}
use Rattle.gh_tree.specs.declared.expressions.DeclItem.{DeclItem}
use Rattle.gh_tree.specs.declared.expressions.Guard.{Guard}
use Rattle.gh_tree.specs.declared.expressions.NextOperand.{NextOperand}
use Rattle.gh_tree.specs.declared.expressions.OperandList.{OperandList}
use Rattle.gh_tree.specs.declared.expressions.Part.{Part}
use Rattle.gh_tree.specs.declared.expressions.Redef.{Redef}
use Rattle.gh_tree.specs.declared.expressions.RedefItem.{RedefItem}
use Rattle.gh_tree.specs.declared.expressions.Redefs.{Redefs}
use Rattle.gh_tree.specs.declared.expressions.Aexp.TheOpen.{Decl-F}
use Rattle.gh_tree.specs.declared.module_tree.Item.{Item}
use Rattle.gh_tree.specs.declared.module_tree.Item.TheVariants as item
use Rattle.gh_tree.specs.declared.module_tree.ModuleTree.{ModuleTree}
use Rattle.gh_tree.specs.declared.module_tree.NextItem.{NextItem}
use Rattle.gh_tree.specs.declared.tops.Constr.{Constr}
use Rattle.gh_tree.specs.declared.tops.Constr.TheVariants as constr
use Rattle.gh_tree.specs.declared.tops.Context.{Context}
use Rattle.gh_tree.specs.declared.tops.Dep.{Dep}
use Rattle.gh_tree.specs.declared.tops.NextConstr.{NextConstr}
use Rattle.gh_tree.specs.declared.tops.Top.{Top}
use Rattle.gh_tree.specs.declared.tops.Top.TheVariants as top
use Rattle.gh_limits.specs.Bound.{var_name}
use Rattle.gh_limits.specs.Inside.{decl_declared, rhs_counts, goes_on}
use Rattle.gh_limits.specs.Places.{Count, count, place, first_place, limit_at}
use Rattle.gh_limits.specs.SameTypes.{same_type}

-- what is counted in one top declaration

abbrev pub fields_of : Constr → ℕ
fields_of (constr.Prefix s c ts) = length ts
fields_of (constr.Infix s l o r) = 2

abbrev pub fields_at : NextConstr → Count
fields_at x = count Fields (fields_of x.constr)

abbrev pub dependency : Option Dep → ℕ
dependency None = 0
dependency (Some d) = 1

abbrev pub dependencies : Option Context → ℕ
dependencies None = 0
dependencies (Some c) = dependency c.deps.first + length c.deps.others

abbrev pub top_counts : Top → List Count
top_counts (top.Synonym s a n ps m t) = count Parameters (length ps) ∷ []
top_counts (top.Data s a n ps m k ks) = count Parameters (length ps) ∷ count Constructors (1 + length ks) ∷ count Fields (fields_of k) ∷ map fields_at ks
top_counts (top.Newtype s a n ps m k t) = count Parameters (length ps) ∷ []
top_counts (top.Signature s v vs m c t) = count Dependencies (dependencies c) ∷ []
top_counts (top.Case s v a t b ps r) = count Arguments (length ps) ∷ rhs_counts r
top_counts (top.Extends s v m w) = []
top_counts (top.Decl d) = (decl_declared d).inside

-- the bytes of a top declaration

abbrev pub decl_span_at : Decl-F Aexp Alt Decl Exp Locals Open Operand Rhs Where AltGuard AltItem Alts DeclItem Decls Guard NextOperand OperandList Part Redef RedefItem Redefs → Span
decl_span_at (Decl-F.Signature s x1 x2 x3 x4) = s
decl_span_at (Decl-F.Fixity s x1 x2 x3 x4) = s
decl_span_at (Decl-F.Function s x1 x2) = s
decl_span_at (Decl-F.Pattern s x1 x2) = s

abbrev pub decl_span : Decl → Span
decl_span d = decl_span_at (out-Decl d)

abbrev pub span_of : Top → Span
span_of (top.Synonym s a n ps m t) = s
span_of (top.Data s a n ps m k ks) = s
span_of (top.Newtype s a n ps m k t) = s
span_of (top.Signature s v vs m c t) = s
span_of (top.Case s v a t b ps r) = s
span_of (top.Extends s v m w) = s
span_of (top.Decl d) = decl_span d

-- whether a definition or case goes on in the next top declaration: a clause in one of its name, a case in one of its
-- function whose head has the same tokens
abbrev pub continues : Top → Top → Bool
continues (top.Decl d) (top.Decl e) = goes_on (decl_declared d).clause (decl_declared e).clause
continues (top.Case s v a t b ps r) (top.Case s' w a' u b' qs q) = (var_name v == var_name w) && same_type t u
continues _ _ = false

-- whether it goes on behind an item
abbrev pub goes_on_behind : Item → Top → Bool
goes_on_behind (item.Top t) u = continues t u
goes_on_behind _ u = false

-- how many clauses a definition has, and the end of the last, where so many up to this one are known. Empty items do
-- not part them.
abbrev pub clauses_from : Top → ℕ → List Item → ℕ × ℕ
clauses_from t many [] = (many, (span_of t).to)
clauses_from t many (item.Empty ∷ is) = clauses_from t many is
clauses_from t many (item.Import x ∷ is) = (many, (span_of t).to)
clauses_from t many (item.Top u ∷ is) = if continues t u then clauses_from u (many + 1) is else (many, (span_of t).to)

-- from the first byte of the first to this end
abbrev pub up_to : Span → ℕ → Span
up_to span end = record { file = span.file; from = span.from; to = end }

abbrev pub refused : Option Limit → Span → Option Refusal
refused None span = None
refused (Some which) span = Some (LimitPassed span which)

-- the earlier one in the table of what a declaration passes and what the whole definition does that begins there
abbrev pub earlier : ℕ → Span → ℕ → Span → Option Refusal
earlier inside span clauses whole = if nat_lt inside clauses then refused (limit_at inside) span else refused (limit_at clauses) whole

-- what is passed at a declaration of the top, by the item before it and those behind it
abbrev pub passed_at : Item → Top → List Item → Option Refusal
passed_at before t is = if goes_on_behind before t then refused (limit_at (first_place (top_counts t))) (span_of t)
    else earlier (first_place (top_counts t)) (span_of t) (place Clauses (clauses_from t 1 is).0) (up_to (span_of t) (clauses_from t 1 is).1)

abbrev pub passed_in : Item → Item → List Item → Option Refusal
passed_in before (item.Top t) is = passed_at before t is
passed_in before _ is = None

-- the last item that is not empty
abbrev pub last_of : Item → Item → Item
last_of before item.Empty = before
last_of before i = i

abbrev pub or_else : Option Refusal → Option Refusal → Option Refusal
or_else None r = r
or_else (Some q) r = Some q

-- the first limit that is passed in these items, by the last item before them that is not empty
abbrev pub first_passed : Item → List Item → Option Refusal
first_passed before [] = None
first_passed before (i ∷ is) = or_else (passed_in before i is) (first_passed (last_of before i) is)

abbrev pub item_at : NextItem → Item
item_at x = x.item

abbrev pub limits_of : ModuleTree → Option Refusal
limits_of t = first_passed item.Empty (t.first ∷ map item_at t.others)
