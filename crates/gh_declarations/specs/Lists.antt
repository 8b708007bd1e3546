-- The rules on one list of declarations (Haskell 98 Report, 4.4.2 and 4.4.3), over what its declarations declare, in order:
-- a second definition, signature or fixity of a name; a signature or fixity of a name without a definition in the list; a
-- clause with another number of arguments than the first of its definition.
use Rattle.std.specs.Prelude.{ℕ, Bool, false, not, ◌&&◌, nat_eq, nat_lt, if◌then◌else◌, List, [], ◌∷◌, ◌++◌, map, filter, Option, Some, None}
use Rattle.std.specs.List.{list_any, flat_map}
use Rattle.gh_declarations.specs.declared.named.Named.{Named}
use Rattle.gh_declarations.specs.declared.named.Sort.{Sort}
use Rattle.gh_declarations.specs.declared.named.Sort.TheVariants as sort
use Rattle.gh_declarations.specs.declared.named.Clause.{Clause}
use Rattle.gh_declarations.specs.declared.named.Declared.{Declared}
use Rattle.gh_declarations.specs.declared.named.Declared.TheVariants as declares
use Rattle.gh_declarations.specs.declared.named.Rule.{Rule}
use Rattle.gh_declarations.specs.declared.named.Rule.TheVariants as rule
use Rattle.gh_declarations.specs.declared.named.Failure.{Failure}
use Rattle.gh_declarations.specs.Names.{failure}

-- ---- names

-- whether one of these has this text
abbrev pub has : List Named → ℕ → Bool
has ns k = list_any (λ n. nat_eq k n.name.0) ns

-- those of a list that have the text of one that stands before them, there or here
abbrev pub second_behind : List Named → List Named → List Named
second_behind before [] = []
second_behind before (n ∷ ns) = (if has before n.name.0 then n ∷ [] else []) ++ second_behind (before ++ n ∷ []) ns

-- those of a list that stand there a second time
abbrev pub second_times : List Named → List Named
second_times ns = second_behind [] ns

-- a rule fails at each name that stands in a list a second time
abbrev pub fail_again : Rule → List Named → List Failure
fail_again r ns = map (failure r) (second_times ns)

-- those that have no definition
abbrev pub undefined : List Named → List Named → List Named
undefined values ns = filter (λ n. not (has values n.name.0)) ns

-- ---- clauses

-- whether a clause goes on with the definition that begins with another: it has its name, and that has arguments. A name
-- without arguments is bound by itself.
abbrev pub goes_on : Option Clause → Clause → Bool
goes_on None c = false
goes_on (Some f) c = nat_eq f.named.name.0 c.named.name.0 && nat_lt 0 f.arguments

-- the first clause of the definition that stands open behind a declaration. Clauses of one definition are adjacent.
abbrev pub first_behind : Option Clause → Declared → Option Clause
first_behind f (declares.Clause c) = if goes_on f c then f else Some c
first_behind f _ = None

abbrev pub value_if : Sort → Named → List Named
value_if sort.Value n = n ∷ []
value_if _ n = []

-- the name that a declaration defines, where it is not one more clause
abbrev pub value_of : Option Clause → Declared → List Named
value_of f (declares.Clause c) = if goes_on f c then [] else c.named ∷ []
value_of f (declares.Name s n) = value_if s n
value_of f _ = []

-- the names that a list defines, each as often as there is a definition
abbrev pub values_behind : Option Clause → List Declared → List Named
values_behind f [] = []
values_behind f (d ∷ ds) = value_of f d ++ values_behind (first_behind f d) ds

abbrev pub values : List Declared → List Named
values ds = values_behind None ds

abbrev pub unequal : Clause → Clause → List Failure
unequal f c = if nat_eq f.arguments c.arguments then [] else (record { rule = rule.Unequal; span = c.span; name = c.named.name }) ∷ []

abbrev pub unequal_to : Option Clause → Clause → List Failure
unequal_to None c = []
unequal_to (Some f) c = unequal f c

-- one more clause fails where it has another number of arguments than the first
abbrev pub unequal_of : Option Clause → Declared → List Failure
unequal_of f (declares.Clause c) = if goes_on f c then unequal_to f c else []
unequal_of f _ = []

abbrev pub unequal_behind : Option Clause → List Declared → List Failure
unequal_behind f [] = []
unequal_behind f (d ∷ ds) = unequal_of f d ++ unequal_behind (first_behind f d) ds

-- ---- a list of declarations

abbrev pub number_of_sort : Sort → ℕ
number_of_sort sort.Value = 0
number_of_sort sort.Type = 1
number_of_sort sort.Signature = 2
number_of_sort sort.Fixity = 3

abbrev pub sorted_of : Sort → Declared → List Named
sorted_of s (declares.Name t n) = if nat_eq (number_of_sort s) (number_of_sort t) then n ∷ [] else []
sorted_of s _ = []

-- the names that a list declares as types, with a signature, or with a fixity
abbrev pub sorted : Sort → List Declared → List Named
sorted s ds = flat_map (sorted_of s) ds

-- a name stands a second time among those of one sort
abbrev pub doubles : List Declared → List Failure
doubles ds = fail_again rule.Double (values ds) ++ (fail_again rule.Double (sorted sort.Type ds)
    ++ (fail_again rule.Double (sorted sort.Signature ds) ++ fail_again rule.Double (sorted sort.Fixity ds)))

-- a signature or fixity has no definition in the list
abbrev pub alones : List Declared → List Failure
alones ds = map (failure rule.Alone) (undefined (values ds) (sorted sort.Signature ds ++ sorted sort.Fixity ds))

-- where the rules on a list of declarations fail
abbrev pub list_failures : List Declared → List Failure
list_failures ds = doubles ds ++ (alones ds ++ unequal_behind None ds)

-- ---- a list of patterns, or the parameters of a declaration

-- a variable stands there a second time
abbrev pub repeated : List Named → List Failure
repeated ns = fail_again rule.Repeated ns
