-- What the laws on kind-indexed types speak of.
use Rattle.std.specs.Prelude.{◌≡◌, ℕ, suc, ◌+◌, ◌<◌, ◌≤◌, ◌⊎◌, List, [], ◌∷◌, length}
use Rattle.gh_typeterm.specs.declared.kind.Kind.{Kind}
use Rattle.gh_typeterm.specs.declared.kind.Kind.TheVariants as kind
use Rattle.gh_kernel.specs.declared.functions.GenFun.{GenFun}
use Rattle.gh_core.specs.Typing.{arrows}
use Rattle.gh_kind_index.specs.KindIndex.{base_at, variables_from, for_all, each_applied, asked, indexed, kind_type_from, kind_type}
use Rattle.gh_kind_index.specs.Levels.{above_all}
use Rattle.gh_core.specs.SameType.{Nameless, bound, free, con, applied, forall, any}
use Rattle.gh_core.specs.Typing.{opened}

-- all free variables of a type are below a number
abbrev pub Below : ℕ → Nameless → Type 0
Below n (bound i) = Unit {0}
Below n (free x) = x < n
Below n (con c) = Unit {0}
Below n (applied f x) = Below n f × Below n x
Below n (forall k b) = Below n b
Below n (any k) = Unit {0}

abbrev pub AllBelow : ℕ → List Nameless → Type 0
AllBelow n [] = Unit {0}
AllBelow n (t ∷ ts) = Below n t × AllBelow n ts

-- each bound variable of a type inside so many binders has its binder there or in the type
abbrev pub IsBound : ℕ → Nameless → Type 0
IsBound d (bound i) = i < d
IsBound d (free x) = Unit {0}
IsBound d (con c) = Unit {0}
IsBound d (applied f x) = IsBound d f × IsBound d x
IsBound d (forall k b) = IsBound (suc d) b
IsBound d (any k) = Unit {0}

abbrev pub AreBound : List Nameless → Type 0
AreBound [] = Unit {0}
AreBound (t ∷ ts) = IsBound 0 t × AreBound ts

-- a free variable stands in a type
abbrev pub Occurs : ℕ → Nameless → Type 0
Occurs x (bound i) = ⊥
Occurs x (free y) = y ≡ x
Occurs x (con c) = ⊥
Occurs x (applied f a) = Occurs x f ⊎ Occurs x a
Occurs x (forall k b) = Occurs x b
Occurs x (any k) = ⊥

abbrev pub OccursIn : ℕ → List Nameless → Type 0
OccursIn x [] = ⊥
OccursIn x (t ∷ ts) = Occurs x t ⊎ OccursIn x ts

-- the body of a type for all types, at these
abbrev pub opened_at : List Nameless → Nameless → Nameless
opened_at [] t = t
opened_at (a ∷ arguments) (forall k b) = opened_at arguments (opened 0 a b)
opened_at (a ∷ arguments) (bound i) = bound i
opened_at (a ∷ arguments) (free x) = free x
opened_at (a ∷ arguments) (con c) = con c
opened_at (a ∷ arguments) (applied f x) = applied f x
opened_at (a ∷ arguments) (any k) = any k

-- ---- the laws

-- Hinze's first equation: at the kind of values, the base type
abbrev pub AtStar : Type 0
AtStar = (fs : List GenFun) (others : List Nameless) (f : GenFun) (level : ℕ) (ts : List Nameless)
    → indexed fs others kind.Star f level ts ≡ base_at ts others f.base

-- the second: at `k -> l`, for all types of kind `k`, from the types of the dependencies at them to the type at the application
abbrev pub AtArrow : Type 0
AtArrow = (fs : List GenFun) (others : List Nameless) (k l : Kind) (f : GenFun) (level : ℕ) (ts : List Nameless)
    → indexed fs others (kind.Arrow k l) f level ts
    ≡ for_all k level (length ts)
    (arrows (asked fs (indexed fs others k) (level + length ts) (variables_from level (length ts)) f.dependencies)
    (indexed fs others l f (level + length ts) (each_applied ts (variables_from level (length ts)))))

-- which new variables are taken plays no part, as long as they are new
abbrev pub AnyVariables : Type 0
AnyVariables = (fs : List GenFun) (f : GenFun) (k : Kind) (ts : List Nameless) (level : ℕ) → above_all ts ≤ level → kind_type_from level fs f k ts ≡ kind_type fs f k ts

-- the type at `k -> l`, at arguments of kind `k`, is that of the types applied to these arguments, behind what is asked of the
-- dependencies at the arguments. So it commutes with application
abbrev pub AtArguments : Type 0
AtArguments = (fs : List GenFun) (others : List Nameless) (k l : Kind) (f : GenFun) (level : ℕ) (ts us : List Nameless) → length ts ≡ length us
    → AllBelow level others → AllBelow level ts → AllBelow level us → AreBound others → AreBound ts → AreBound us
    → opened_at us (indexed fs others (kind.Arrow k l) f level ts) ≡ arrows (asked fs (indexed fs others k) level us f.dependencies) (indexed fs others l f level (each_applied ts us))

-- a free variable is one of the types'
abbrev pub FreeInTypes : Type 0
FreeInTypes = (fs : List GenFun) (f : GenFun) (k : Kind) (ts : List Nameless) (x : ℕ) → Occurs x (kind_type fs f k ts) → OccursIn x ts
