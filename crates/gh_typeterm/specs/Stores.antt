-- What a store of type terms holds: each term once, in the order of first appearance.
use Rattle.std.specs.Prelude.{◌≡◌, ℕ, List, [], ◌∷◌, ◌++◌, Some, slice_get}
use Rattle.gh_typeterm.specs.declared.ty.TyNode.{TyNode, fold-TyNode}
use Rattle.gh_typeterm.specs.declared.ty.TyNode.TheVariants as t
use Rattle.gh_typeterm.specs.declared.ty.TyNode.TheOpen.{TyNode-F}

-- a term with its subterms in post-order: those of the applied type, those of the argument, the term itself
abbrev pub parts_step : TyNode-F (TyNode × List TyNode) → TyNode × List TyNode
parts_step (TyNode-F.Con c) = (t.Con c, t.Con c ∷ [])
parts_step (TyNode-F.Var v) = (t.Var v, t.Var v ∷ [])
parts_step (TyNode-F.App head arg) = (t.App head.0 arg.0, head.1 ++ (arg.1 ++ t.App head.0 arg.0 ∷ []))
parts_step (TyNode-F.Name n) = (t.Name n, t.Name n ∷ [])

abbrev pub parts_of : TyNode → List TyNode
parts_of term = (fold-TyNode (TyNode × List TyNode) parts_step term).1

-- the term stands in the list
abbrev pub IsAmong : List TyNode → TyNode → Type 0
IsAmong terms term = (place : ℕ) × (slice_get terms place ≡ Some term)

-- no term stands in two places
abbrev pub IsDistinct : List TyNode → Type 0
IsDistinct terms = (i j : ℕ) (term : TyNode) → slice_get terms i ≡ Some term → slice_get terms j ≡ Some term → i ≡ j

-- a list after a term was asked for: as it was where the term stands there, and else with the term at its end
pub data IsEntered (terms : List TyNode) (term : TyNode) : List TyNode → Type 0 where
  there : IsAmong terms term → IsEntered terms term terms
  new : (IsAmong terms term → ⊥) → IsEntered terms term (terms ++ term ∷ [])

-- a list after several terms were asked for, one after another
pub data Gathered (terms : List TyNode) : List TyNode → List TyNode → Type 0 where
  none : Gathered terms [] terms
  more : (asked : List TyNode) (last : TyNode) (before after : List TyNode) → Gathered terms asked before → IsEntered before last after
      → Gathered terms (asked ++ last ∷ []) after

-- a list after the first ones of several terms were asked for
abbrev pub GatheredInPart : List TyNode → List TyNode → List TyNode → Type 0
GatheredInPart terms asked after = (first rest : List TyNode) × (asked ≡ first ++ rest) × Gathered terms first after
