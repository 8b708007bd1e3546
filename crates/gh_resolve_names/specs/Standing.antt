-- What a name stands for where it is used: the innermost local binder, or else the one origin that the scope of its module
-- gives (Haskell 98 Report, 5.5.1; chapter 3 on scopes).
use Rattle.std.specs.Prelude.{ℕ, suc, Bool, true, false, ◌==◌, not, nat_lt, cond, length, List, [], ◌∷◌, Option, Some, None, Result, Ok, Err}
use Rattle.gh_base.specs.declared.fixed.TheConstants.{PRELUDE, COLON, EMPTY_PARENTHESES, EMPTY_BRACKETS, TUPLE_2_SYNTAX, TUPLE_3_SYNTAX, TUPLE_4_SYNTAX, TUPLE_5_SYNTAX, TUPLE_6_SYNTAX, TUPLE_7_SYNTAX}
use Rattle.gh_base.specs.declared.names.NameId.{NameId}
use Rattle.gh_base.specs.declared.place.Span.{Span}
use Rattle.gh_base.specs.declared.place.Origin.{Origin}
use Rattle.gh_base.specs.declared.place.Space.{Space}
use Rattle.gh_base.specs.declared.place.Space.TheVariants.{Values, Types}
use Rattle.gh_binders.specs.Nearest.{Binds, item_of}
use Rattle.gh_program.specs.declared.names.Referent.{Referent}
use Rattle.gh_program.specs.declared.names.Referent.TheVariants as referent
use Rattle.gh_program.specs.declared.names.Occurrence.{Occurrence}
use Rattle.gh_program.specs.declared.names.GenCon as made_con
use Rattle.gh_program.specs.declared.names.GenCon.TheVariants as made
use Rattle.gh_scopes.specs.declared.types.Used.{Used}
use Rattle.gh_scopes.specs.Found.{Found, found_use}
use Rattle.gh_tree.specs.declared.names.Con.{Con}
use Rattle.gh_tree.specs.declared.names.ConOp.{ConOp}
use Rattle.gh_tree.specs.declared.names.ConOp.TheVariants as con_op
use Rattle.gh_tree.specs.declared.names.VarOp.{VarOp}
use Rattle.gh_tree.specs.declared.names.GenCon.{GenCon}
use Rattle.gh_tree.specs.declared.names.GenCon.TheVariants as gen_con
use Rattle.gh_resolve_names.specs.declared.context.Context.{Context}
use Rattle.gh_resolve_names.specs.declared.misuse.Rule.{Rule}
use Rattle.gh_resolve_names.specs.declared.misuse.Rule.TheVariants as rule
use Rattle.gh_resolve_names.specs.declared.misuse.Misuse.{Misuse}
use Rattle.gh_resolve_names.specs.Misuses.{Out, right}
use Rattle.gh_resolve_names.specs.Numbered.{number_of, is_among}
use Rattle.gh_resolve_names.specs.Written.{used_name, used_con, used_var_op, between}

-- Local names, the nearest first: the number of a name of the table of names, and the number of the local name, which is
-- the first byte of the place where it is bound.
abbrev pub Bound : Type 0
Bound = Binds ℕ

-- what a name stands for, or the rule that its use breaks
abbrev pub Stands : Type 0
Stands = Result Referent Rule

-- the definition of this module with a name
abbrev pub own_origin : Context → Space → NameId → Origin
own_origin c s n = record { «module» = c.home; space = s; name = n }

abbrev pub own_referent : Context → Space → NameId → Referent
own_referent c s n = referent.Top (own_origin c s n)

-- the one origin that the scope of the module gives

abbrev pub one_origin : Option Found → Result Origin Rule
one_origin None = Err rule.Unknown
one_origin (Some f) = cond f.many (Err rule.Ambiguous) (Ok f.origin)

abbrev pub in_scope : Context → Space → Used → Result Origin Rule
in_scope c s u = one_origin (found_use c.scope u.qualifier s u.name)

-- the innermost local binder of a name without a qualifier

abbrev pub local_of : Bound → Option NameId → NameId → Option ℕ
local_of bs None n = item_of bs n.0
local_of bs (Some q) n = None

-- a plain name: a generic function has no value without a type

abbrev pub plain_origin : Context → Result Origin Rule → Stands
plain_origin c (Err r) = Err r
plain_origin c (Ok o) = cond (is_among c.functions o) (Err rule.Unknown) (Ok (referent.Top o))

abbrev pub plain_or : Context → Used → Option ℕ → Stands
plain_or c u (Some n) = Ok (referent.Local n)
plain_or c u None = plain_origin c (in_scope c Values u)

abbrev pub plain_stands : Context → Bound → Used → Stands
plain_stands c bs u = plain_or c u (local_of bs u.qualifier u.name)

-- a generic function, where it is called or redefined, or a case of it stands; a local variable hides it

abbrev pub generic_origin : Context → Result Origin Rule → Stands
generic_origin c (Err r) = Err r
generic_origin c (Ok o) = cond (is_among c.functions o) (Ok (referent.Top o)) (Err rule.Unknown)

abbrev pub generic_or : Context → Used → Option ℕ → Stands
generic_or c u (Some n) = Err rule.Unknown
generic_or c u None = generic_origin c (in_scope c Values u)

abbrev pub generic_stands : Context → Bound → Used → Stands
generic_stands c bs u = generic_or c u (local_of bs u.qualifier u.name)

-- any function of the top, a constructor, a type

abbrev pub any_origin : Result Origin Rule → Stands
any_origin (Err r) = Err r
any_origin (Ok o) = Ok (referent.Top o)

abbrev pub top_stands : Context → Space → Used → Stands
top_stands c s u = any_origin (in_scope c s u)

-- a type variable

abbrev pub variable_or : Option ℕ → Stands
variable_or None = Err rule.Unknown
variable_or (Some n) = Ok (referent.Local n)

abbrev pub variable_stands : Bound → Used → Stands
variable_stands bs u = variable_or (local_of bs u.qualifier u.name)

-- An occurrence of a name. Where a rule is broken, it stands for a definition of its module, which plays no part, since the
-- program is refused.

abbrev pub misuse : Rule → Used → Misuse
misuse r u = record { rule = r; span = u.span; name = u.name }

abbrev pub occurrence : Used → Referent → Occurrence
occurrence u r = record { span = u.span; name = u.name; referent = r }

abbrev pub occurs : Context → Space → Used → Stands → Out Occurrence
occurs c s u (Ok r) = right (occurrence u r)
occurs c s u (Err r) = record { tree = occurrence u (own_referent c s u.name); misuses = misuse r u ∷ [] }

-- uses

-- the binder that a name is where it is bound: its number is the first byte of that place
abbrev pub binder : Used → ℕ × ℕ
binder u = (u.name.0, u.span.from)

abbrev pub plain_use : Context → Bound → Used → Out Occurrence
plain_use c bs u = occurs c Values u (plain_stands c bs u)

abbrev pub generic_use : Context → Bound → Used → Out Occurrence
generic_use c bs u = occurs c Values u (generic_stands c bs u)

abbrev pub function_use : Context → Used → Out Occurrence
function_use c u = occurs c Values u (top_stands c Values u)

abbrev pub variable_use : Context → Bound → Used → Out Occurrence
variable_use c bs u = occurs c Types u (variable_stands bs u)

abbrev pub operator_use : Context → Bound → VarOp → Out Occurrence
operator_use c bs o = plain_use c bs (used_var_op o)

-- A name where it is bound, or in a signature or a fixity: the innermost local binder, or else the definition of the module.

abbrev pub bound_or : Context → NameId → Option ℕ → Referent
bound_or c n None = own_referent c Values n
bound_or c n (Some k) = referent.Local k

abbrev pub bound_name : Context → Bound → Used → Occurrence
bound_name c bs u = occurrence u (bound_or c u.name (item_of bs u.name.0))

-- a name that a declaration of the top defines
abbrev pub own_name : Context → Space → Used → Occurrence
own_name c s u = occurrence u (own_referent c s u.name)

-- A constructor, with the number of its fields where it stands in a pattern. One whose number of fields is not known breaks
-- no rule by it.

abbrev pub differs : Option ℕ → Option ℕ → Bool
differs None k = false
differs (Some n) None = false
differs (Some n) (Some k) = not (n == k)

abbrev pub fields_misuse : Used → Bool → List Misuse
fields_misuse u false = []
fields_misuse u true = misuse rule.Fields u ∷ []

abbrev pub with_fields : Context → Used → Option ℕ → Result Origin Rule → Out Occurrence
with_fields c u k (Err r) = record { tree = occurrence u (own_referent c Values u.name); misuses = misuse r u ∷ [] }
with_fields c u k (Ok o) = record { tree = occurrence u (referent.Top o); misuses = fields_misuse u (differs (number_of c.fields o) k) }

abbrev pub constructor_use : Context → Option ℕ → Used → Out Occurrence
constructor_use c k u = with_fields c u k (in_scope c Values u)

-- The name of a type, with the number of its arguments. A synonym has at least as many arguments as parameters.

abbrev pub lacks : Option ℕ → ℕ → Bool
lacks None k = false
lacks (Some n) k = nat_lt k n

abbrev pub arguments_misuse : Used → Bool → List Misuse
arguments_misuse u false = []
arguments_misuse u true = misuse rule.Arguments u ∷ []

abbrev pub with_arguments : Context → Used → ℕ → Result Origin Rule → Out Occurrence
with_arguments c u k (Err r) = record { tree = occurrence u (own_referent c Types u.name); misuses = misuse r u ∷ [] }
with_arguments c u k (Ok o) = record { tree = occurrence u (referent.Top o); misuses = arguments_misuse u (lacks (number_of c.synonyms o) k) }

abbrev pub type_use : Context → ℕ → Used → Out Occurrence
type_use c k u = with_arguments c u k (in_scope c Types u)

-- `:` always is the constructor of lists, with two fields

abbrev pub colon_origin : Origin
colon_origin = record { «module» = PRELUDE; space = Values; name = COLON }

abbrev pub colon_occurrence : Span → Occurrence
colon_occurrence s = record { span = s; name = COLON; referent = referent.Top colon_origin }

abbrev pub constructor_operator_use : Context → Option ℕ → ConOp → Out Occurrence
constructor_operator_use c k (con_op.Symbol n) = constructor_use c k (used_name n)
constructor_operator_use c k (con_op.Colon s) = right (colon_occurrence s)
constructor_operator_use c k (con_op.Quoted a n b) = constructor_use c k (between a n b)

-- constructors as operands; a tuple has one part more than commas

abbrev pub tuple_name : ℕ → NameId
tuple_name n = cond (n == 2) TUPLE_2_SYNTAX (cond (n == 3) TUPLE_3_SYNTAX (cond (n == 4) TUPLE_4_SYNTAX (cond (n == 5) TUPLE_5_SYNTAX (cond (n == 6) TUPLE_6_SYNTAX TUPLE_7_SYNTAX))))

abbrev pub built_in : Span → NameId → Used
built_in s n = record { span = s; qualifier = None; name = n }

abbrev pub general_use_by : Out Occurrence → Out (made_con.GenCon)
general_use_by o = record { tree = made.Con o.tree; misuses = o.misuses }

abbrev pub general_use : Context → Option ℕ → GenCon → Out (made_con.GenCon)
general_use c k (gen_con.Con n) = general_use_by (constructor_use c k (used_con n))
general_use c k (gen_con.Unit s a b) = record { tree = made.Unit s; misuses = fields_misuse (built_in s EMPTY_PARENTHESES) (differs (Some 0) k) }
general_use c k (gen_con.Nil s a b) = record { tree = made.Nil s; misuses = fields_misuse (built_in s EMPTY_BRACKETS) (differs (Some 0) k) }
general_use c k (gen_con.Tuple s a ms b) = record { tree = made.Tuple s (suc (length ms)); misuses = fields_misuse (built_in s (tuple_name (suc (length ms)))) (differs (Some (suc (length ms))) k) }
