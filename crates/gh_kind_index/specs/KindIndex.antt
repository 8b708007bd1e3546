-- The kind-indexed type of a generic function (Hinze, Polytypic Values Possess Polykinded Types; Löh, Exploring Generic
-- Haskell, dependencies).
--
-- Types have no names of bound variables, and their free variables are numbers (gh_core, `Nameless`). A type inside new
-- binders has for each of them a free variable of its own, whose number is no other variable's; `for_all` then binds it.
use Rattle.std.specs.Prelude.{ℕ, zero, suc, ◌+◌, ◌-◌, cond, List, [], ◌∷◌, length, map, max, Option, Some, None, slice_get, unwrap_or}
use Rattle.gh_base.specs.declared.place.Origin.{Origin}
use Rattle.gh_typeterm.specs.declared.kind.Kind.{Kind, fold-Kind}
use Rattle.gh_typeterm.specs.declared.kind.Kind.TheVariants as kind
use Rattle.gh_typeterm.specs.declared.kind.Kind.TheOpen.{Kind-F}
use Rattle.gh_typeterm.specs.declared.ty.TyNode.{TyNode, fold-TyNode}
use Rattle.gh_typeterm.specs.declared.ty.TyNode.TheOpen.{TyNode-F}
use Rattle.gh_core.specs.Primitives.{same_origin}
use Rattle.gh_core.specs.SameType.{Nameless, bound, free, con, applied, forall, any}
use Rattle.gh_core.specs.Typing.{closed_over, arrows}
use Rattle.gh_kernel.specs.declared.functions.GenFun.{GenFun}
use Rattle.gh_kernel.specs.declared.functions.Dependency.{Dependency}
use Rattle.gh_kind_index.specs.Levels.{above_all}

-- ---- the type at the kind of values

-- the type for a variable of a base type: the generic variables come first, and then the others. A variable that is neither
-- stands open
abbrev pub slot : List Nameless → List Nameless → ℕ → Nameless
slot ts others x = unwrap_or (slice_get ts x) (unwrap_or (slice_get others (x - length ts)) (any kind.Star))

abbrev pub base_step : List Nameless → List Nameless → TyNode-F Nameless → Nameless
base_step ts others (TyNode-F.Con c) = con c
base_step ts others (TyNode-F.Var x) = slot ts others x
base_step ts others (TyNode-F.App f x) = applied f x
base_step ts others (TyNode-F.Name n) = any kind.Star

-- a base type at types for its generic variables and its others
abbrev pub base_at : List Nameless → List Nameless → TyNode → Nameless
base_at ts others = fold-TyNode Nameless (base_step ts others)

-- ---- the type at a kind

-- variables with the numbers from `level` on
abbrev pub variables_from : ℕ → ℕ → List Nameless
variables_from level zero = []
variables_from level (suc n) = free level ∷ variables_from (suc level) n

-- the type for all types of this kind, which stand for the variables with the numbers from `level` on
abbrev pub for_all : Kind → ℕ → ℕ → Nameless → Nameless
for_all k level zero t = t
for_all k level (suc n) t = forall k (closed_over level 0 (for_all k (suc level) n t))

-- each type applied to its argument
abbrev pub each_applied : List Nameless → List Nameless → List Nameless
each_applied [] arguments = []
each_applied (t ∷ ts) [] = []
each_applied (t ∷ ts) (a ∷ arguments) = applied t a ∷ each_applied ts arguments

-- the first function of this name
abbrev pub function_of : List GenFun → Origin → Option GenFun
function_of [] o = None
function_of (f ∷ fs) o = cond (same_origin f.origin o) (Some f) (function_of fs o)

-- what a kind makes of a generic function: its type at types of this kind, new variables having the numbers from `level` on
abbrev pub Indexed : Type 0
Indexed = GenFun → ℕ → List Nameless → Nameless

abbrev pub with_type : Option GenFun → Indexed → ℕ → List Nameless → List Nameless → List Nameless
with_type None by level ts rest = rest
with_type (Some f) by level ts rest = by f level ts ∷ rest

-- the type of each dependency, in order
abbrev pub asked : List GenFun → Indexed → ℕ → List Nameless → List Dependency → List Nameless
asked fs by level ts [] = []
asked fs by level ts (d ∷ ds) = with_type (function_of fs d.function) by level ts (asked fs by level ts ds)

-- at `k -> l`: for all types of kind `k`, one for each generic variable, from what each dependency is at them to what the
-- function is at the types applied to them
abbrev pub at_arrow : List GenFun → Kind → Indexed → Indexed → Indexed
at_arrow fs k at_argument at_answer f level ts =
    let inside = level + length ts in
    let variables = variables_from level (length ts) in
    for_all k level (length ts) (arrows (asked fs at_argument inside variables f.dependencies) (at_answer f inside (each_applied ts variables)))

-- at `*`: the base type
abbrev pub at_star : List Nameless → Indexed
at_star others f level ts = base_at ts others f.base

abbrev pub index_step : List GenFun → List Nameless → Kind-F (Kind × Indexed) → Kind × Indexed
index_step fs others Kind-F.Star = (kind.Star, at_star others)
index_step fs others (Kind-F.Arrow k l) = (kind.Arrow k.0 l.0, at_arrow fs k.0 k.1 l.1)

-- the type of a generic function at types of a kind, where its non-generic variables stand for `others`
abbrev pub indexed : List GenFun → List Nameless → Kind → Indexed
indexed fs others k = (fold-Kind (Kind × Indexed) (index_step fs others) k).1

-- ---- the whole type

-- the non-generic variables are quantified outermost, once
abbrev pub kind_type_from : ℕ → List GenFun → GenFun → Kind → List Nameless → Nameless
kind_type_from level fs f k ts =
    let count = length f.other in
    for_all kind.Star level count (indexed fs (variables_from level count) k f (level + count) ts)

-- new variables have the first numbers above all free variables of the types
abbrev pub kind_type : List GenFun → GenFun → Kind → List Nameless → Nameless
kind_type fs f k ts = kind_type_from (above_all ts) fs f k ts
