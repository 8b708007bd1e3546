-- The rules on declarations at the top of a file (Haskell 98 Report, 4.2, 4.4.2 and 4.4.3; "Exploring Generic Haskell", on
-- cases of generic functions), and the first that fails in a file.
use Rattle.std.specs.Prelude.{ℕ, Bool, false, not, ◌==◌, ◌&&◌, ◌||◌, nat_eq, nat_lt, if◌then◌else◌, List, [], ◌∷◌, ◌++◌, length, map, Option, Some, None}
use Rattle.std.specs.List.{flat_map}
use Rattle.gh_base.specs.declared.fixed.TheConstants.{PLUS, MINUS, TIMES, QUOT, REM, EQUAL, LESS, EQ_CHAR, ORD, CHR, SHOW_INT, ERROR, INT, CHAR}
use Rattle.gh_base.specs.declared.names.NameId.{NameId}
use Rattle.gh_base.specs.declared.place.Span.{Span}
use Rattle.gh_base.specs.declared.refusal.Refusal.{Refusal}
use Rattle.gh_base.specs.declared.refusal.Refusal.TheVariants.{DoubleDefinition, UnequalArity, RepeatedVariable, SignatureAlone}
use Rattle.gh_tree.specs.declared.module_tree.Item.{Item}
use Rattle.gh_tree.specs.declared.module_tree.Item.TheVariants as item
use Rattle.gh_tree.specs.declared.module_tree.ModuleTree.{ModuleTree}
use Rattle.gh_tree.specs.declared.module_tree.NextItem.{NextItem}
use Rattle.gh_tree.specs.declared.names.Name.{Name}
use Rattle.gh_tree.specs.declared.names.Var.{Var}
use Rattle.gh_tree.specs.declared.patterns.ArgPattern.{ArgPattern}
use Rattle.gh_tree.specs.declared.tops.NextConstr.{NextConstr}
use Rattle.gh_tree.specs.declared.tops.Top.{Top}
use Rattle.gh_tree.specs.declared.tops.Top.TheVariants as top
use Rattle.gh_limits.specs.SameTypes.{same_type}
use Rattle.gh_declarations.specs.declared.named.Named.{Named}
use Rattle.gh_declarations.specs.declared.named.Sort.TheVariants as sort
use Rattle.gh_declarations.specs.declared.named.Declared.{Declared}
use Rattle.gh_declarations.specs.declared.named.Declared.TheVariants as declares
use Rattle.gh_declarations.specs.declared.named.Rule.{Rule}
use Rattle.gh_declarations.specs.declared.named.Rule.TheVariants as rule
use Rattle.gh_declarations.specs.declared.named.Failure.{Failure}
use Rattle.gh_declarations.specs.Inside.{a_value, signed, decl_found, rhs_failures}
use Rattle.gh_declarations.specs.Lists.{list_failures, repeated}
use Rattle.gh_declarations.specs.Names.{alone, var_named, con_named, constr_named}
use Rattle.gh_declarations.specs.Patterns.{arg_pattern_variables}

-- ---- what the top declares

abbrev pub a_type : Named → Declared
a_type n = declares.Name sort.Type n

abbrev pub a_constr : NextConstr → Declared
a_constr x = a_value (constr_named x.constr)

-- the signature of a generic function defines it, and is its signature; its cases and extensions declare nothing
abbrev pub top_declared : Top → List Declared
top_declared (top.Synonym s a n ps m t) = a_type (alone n) ∷ []
top_declared (top.Data s a n ps m k ks) = a_type (alone n) ∷ a_value (constr_named k) ∷ map a_constr ks
top_declared (top.Newtype s a n ps m c t) = a_type (alone n) ∷ a_value (con_named c) ∷ []
top_declared (top.Signature s v vs m c t) = a_value (var_named v) ∷ signed v ∷ []
top_declared (top.Case s v a t b ps r) = declares.Other ∷ []
top_declared (top.Extends s v m w) = declares.Other ∷ []
top_declared (top.Decl d) = (decl_found d).declared

abbrev pub declared_in_item : Item → List Declared
declared_in_item (item.Top t) = top_declared t
declared_in_item _ = []

-- the name of a primitive or type that the Prelude has beside its text: no bytes at the file's first
abbrev pub given : NameId → Named
given n = record { span = record { file = 0; from = 0; to = 0 }; name = n }

abbrev pub given_value : NameId → Declared
given_value n = a_value (given n)

abbrev pub primitives : List NameId
primitives = PLUS ∷ MINUS ∷ TIMES ∷ QUOT ∷ REM ∷ EQUAL ∷ LESS ∷ EQ_CHAR ∷ ORD ∷ CHR ∷ SHOW_INT ∷ ERROR ∷ []

-- what the Prelude, file 0, declares beside its text
abbrev pub built_in : List Declared
built_in = a_type (given INT) ∷ a_type (given CHAR) ∷ map given_value primitives

-- what the list of declarations at the top of a file declares
abbrev pub declared_at_top : ℕ → List Item → List Declared
declared_at_top f is = (if f == 0 then built_in else []) ++ flat_map declared_in_item is

-- ---- cases of generic functions

-- whether a case goes on with the one that begins with another: it is of the same function and its head has the same
-- tokens. Empty items do not part them.
abbrev pub same_case : Top → Top → Bool
same_case (top.Case s v a t b ps r) (top.Case s' w a' u b' qs q) = nat_eq (var_named v).name.0 (var_named w).name.0 && same_type t u
same_case _ _ = false

abbrev pub case_goes_on : Item → Top → Bool
case_goes_on (item.Top f) u = same_case f u
case_goes_on _ u = false

-- the first clause of the case that stands open behind an item
abbrev pub first_case : Item → Item → Item
first_case f (item.Top t) = if case_goes_on f t then f else item.Top t
first_case f _ = f

abbrev pub case_arguments : Top → ℕ
case_arguments (top.Case s v a t b ps r) = length ps
case_arguments _ = 0

abbrev pub first_arguments : Item → ℕ
first_arguments (item.Top t) = case_arguments t
first_arguments _ = 0

abbrev pub unequal_clause : Top → List Failure
unequal_clause (top.Case s v a t b ps r) = (record { rule = rule.Unequal; span = s; name = (var_named v).name }) ∷ []
unequal_clause _ = []

-- one more clause of a case fails where it has another number of arguments than the first
abbrev pub unequal_top : Item → Top → List Failure
unequal_top f t = if case_goes_on f t then (if nat_eq (first_arguments f) (case_arguments t) then [] else unequal_clause t) else []

abbrev pub unequal_case : Item → Item → List Failure
unequal_case f (item.Top t) = unequal_top f t
unequal_case f _ = []

abbrev pub case_failures : Item → List Item → List Failure
case_failures f [] = []
case_failures f (i ∷ is) = unequal_case f i ++ case_failures (first_case f i) is

-- ---- heads, and what stands inside

abbrev pub parameter_failures : List Name → List Failure
parameter_failures ps = repeated (map alone ps)

abbrev pub argument_failures : List ArgPattern → List Failure
argument_failures ps = repeated (flat_map arg_pattern_variables ps)

-- where rules fail at the head of a declaration of the top, and inside it
abbrev pub top_failures : Top → List Failure
top_failures (top.Synonym s a n ps m t) = parameter_failures ps
top_failures (top.Data s a n ps m k ks) = parameter_failures ps
top_failures (top.Newtype s a n ps m c t) = parameter_failures ps
top_failures (top.Signature s v vs m c t) = []
top_failures (top.Case s v a t b ps r) = argument_failures ps ++ rhs_failures r
top_failures (top.Extends s v m w) = []
top_failures (top.Decl d) = (decl_found d).inside

abbrev pub failures_in_item : Item → List Failure
failures_in_item (item.Top t) = top_failures t
failures_in_item _ = []

-- ---- a file

abbrev pub item_at : NextItem → Item
item_at x = x.item

abbrev pub items_of : ModuleTree → List Item
items_of t = t.first ∷ map item_at t.others

-- where one more clause of a case fails, behind the first item
abbrev pub cases_of : ModuleTree → List Failure
cases_of t = case_failures t.first (map item_at t.others)

-- where the rules fail in the file of this number
abbrev pub failures_of : ℕ → ModuleTree → List Failure
failures_of f t = list_failures (declared_at_top f (items_of t)) ++ (cases_of t ++ flat_map failures_in_item (items_of t))

-- ---- the first

-- the number of a rule's refusal
abbrev pub number_of : Rule → ℕ
number_of rule.Double = 18
number_of rule.Unequal = 19
number_of rule.Repeated = 20
number_of rule.Alone = 22

-- by the first byte, and then by the number
abbrev pub is_before : Failure → Failure → Bool
is_before a b = nat_lt a.span.from b.span.from || (nat_eq a.span.from b.span.from && nat_lt (number_of a.rule) (number_of b.rule))

abbrev pub earlier : Option Failure → Failure → Option Failure
earlier None g = Some g
earlier (Some f) g = if is_before g f then Some g else Some f

-- the first of one and of these; of two at one byte with one number, the one that is named first
abbrev pub first_of : Option Failure → List Failure → Option Failure
first_of f [] = f
first_of f (g ∷ gs) = first_of (earlier f g) gs

abbrev pub refusal_by : Rule → Span → NameId → Refusal
refusal_by rule.Double s n = DoubleDefinition s n
refusal_by rule.Unequal s n = UnequalArity s n
refusal_by rule.Repeated s n = RepeatedVariable s n
refusal_by rule.Alone s n = SignatureAlone s n

abbrev pub refusal_of : Failure → Refusal
refusal_of f = refusal_by f.rule f.span f.name

-- the first rule on declarations that fails in the file of this number, as a refusal
abbrev pub refused : Option Failure → Option Refusal
refused None = None
refused (Some f) = Some (refusal_of f)

abbrev pub fault_of : ℕ → ModuleTree → Option Refusal
fault_of f t = refused (first_of None (failures_of f t))
