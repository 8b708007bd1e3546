-- The answers of the check.
use Rattle.std.specs.Prelude.{◌≡◌, ℕ, List, map, option_map, Option, Some, None}
use Rattle.gh_core.specs.Primitives as p
use Rattle.gh_base.specs.declared.names.NameId.{NameId}
use Rattle.gh_core.specs.SameType.{Nameless}
use Rattle.gh_core.specs.Typing.{Types_of, arrow, unary_type, binary_type}
use Rattle.gh_core_lint.specs.declared.rules.Stop.{Stop}
use Rattle.gh_core_lint.specs.declared.rules.Stop.TheVariants as stop
use Rattle.gh_core_lint.specs.declared.primitives.Primitive.{Primitive}
use Rattle.gh_core_lint.specs.declared.primitives.Primitive.TheVariants as m
use Rattle.gh_core_lint.specs.declared.types.Node.{Node}
use Rattle.gh_core_lint.specs.Faults.{Fault, broken, clash}
use Rattle.gh_core_lint.specs.Types.{type_at}

-- a stop says that there is this fault; want of memory says nothing
abbrev pub Blames : Stop → (Fault → Type 0) → Type 0
Blames (stop.Broken n) F = F (broken n)
Blames (stop.Clash n w u) F = F (clash n (type_at w) (type_at u))
Blames stop.NoMemory F = Unit {0}

-- a type is a function's, from one type to another, or is none
abbrev pub IsFunction : Nameless → Option (Node × Node) → Type 0
IsFunction t None = (a b : Nameless) → t ≡ arrow a b → ⊥
IsFunction t (Some e) = t ≡ arrow (type_at e.0) (type_at e.1)

abbrev pub var_of : ℕ × Option Node → ℕ × Option Nameless
var_of b = (b.0, option_map type_at b.1)

-- the variables round a term with their types
abbrev pub vars_of : List (ℕ × Option Node) → Types_of
vars_of bs = map var_of bs

abbrev pub primitive_of : Primitive → p.Primitive
primitive_of m.Error = p.error
primitive_of m.Ord = p.unary p.ord
primitive_of m.Chr = p.unary p.chr
primitive_of m.ShowInt = p.unary p.show_int
primitive_of m.Plus = p.binary p.plus
primitive_of m.Minus = p.binary p.minus
primitive_of m.Times = p.binary p.times
primitive_of m.Quot = p.binary p.quot
primitive_of m.Rem = p.binary p.rem
primitive_of m.Equal = p.binary p.equal
primitive_of m.Less = p.binary p.less
primitive_of m.EqChar = p.binary p.eq_char

abbrev pub entry_of : NameId × Primitive → NameId × p.Primitive
entry_of e = (e.0, primitive_of e.1)

-- the type of a primitive but `error`
abbrev pub plain_type : p.Primitive → Option Nameless
plain_type p.error = None
plain_type (p.unary u) = Some (unary_type u)
plain_type (p.binary b) = Some (binary_type b)
