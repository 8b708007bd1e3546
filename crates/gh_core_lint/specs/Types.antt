-- The types of the check.
use Rattle.std.specs.Prelude.{ℕ, List, [], ◌∷◌, Option, Some, None}
use Rattle.gh_core.specs.SameType.{Nameless, bound, free, con, applied, forall, any}
use Rattle.gh_core_lint.specs.declared.types.Node.{Node, fold-Node}
use Rattle.gh_core_lint.specs.declared.types.Node.TheOpen.{Node-F}
use Rattle.gh_core_lint.specs.declared.place.Foralls.{Foralls, fold-Foralls}
use Rattle.gh_core_lint.specs.declared.place.Foralls.TheOpen.{Foralls-F}

abbrev pub type_step : Node-F Nameless → Nameless
type_step (Node-F.Bound i) = bound i
type_step (Node-F.Free l) = free l
type_step (Node-F.Con c) = con c
type_step (Node-F.App f x) = applied f x
type_step (Node-F.Forall k b) = forall k b
type_step (Node-F.Any k) = any k

-- the type without names of bound variables that a node is
abbrev pub type_at : Node → Nameless
type_at = fold-Node Nameless type_step

abbrev pub numbers_step : Foralls-F (List ℕ) → List ℕ
numbers_step Foralls-F.Outside = []
numbers_step (Foralls-F.Inside number outer) = number ∷ outer.now

-- the binders of a type round a part of it, the nearest first
abbrev pub numbers : Foralls → List ℕ
numbers = fold-Foralls (List ℕ) numbers_step

-- a variable with the number of binders between it and its own, or a free one
abbrev pub indexed : Option ℕ → ℕ → Nameless
indexed (Some i) x = bound i
indexed None x = free x
