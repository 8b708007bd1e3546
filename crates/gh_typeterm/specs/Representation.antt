-- The type whose values stand for those of a datatype: sums of layers of products.
use Rattle.std.specs.Prelude.{◌≡◌, ℕ, ◌+◌, ◌==◌, Bool, true, false, List, [], ◌∷◌, ◌++◌, map, replicate, if◌then◌else◌}
use Rattle.gh_base.specs.declared.fixed.TheConstants.{PRELUDE, UNIT, SUM, PROD}
use Rattle.gh_base.specs.declared.names.NameId.{NameId}
use Rattle.gh_base.specs.declared.place.Space.TheVariants.{Types}
use Rattle.gh_base.specs.declared.place.TyCon.TheVariants.{Named, ConOf}
use Rattle.gh_typeterm.specs.declared.decl.DeclCon.{DeclCon}
use Rattle.gh_typeterm.specs.declared.decl.DeclData.{DeclData}
use Rattle.gh_typeterm.specs.declared.ty.TyNode.{TyNode}
use Rattle.gh_typeterm.specs.declared.ty.TyNode.TheVariants as t
use Rattle.gh_typeterm.specs.Terms.{applied}

-- the type of this name that the Prelude declares
abbrev pub prelude_type : NameId → TyNode
prelude_type name = t.Con (Named (record { «module» = PRELUDE; space = Types; name = name }))

-- the Prelude's type of this name at two arguments
abbrev pub joined : NameId → TyNode → TyNode → TyNode
joined name left right = applied (prelude_type name) (left ∷ right ∷ [])

abbrev pub sum_of : TyNode → TyNode → TyNode
sum_of = joined SUM

abbrev pub product_of : TyNode → TyNode → TyNode
product_of = joined PROD

-- several types joined by one of two arguments, nested to the right: one alone stands for itself, and `Unit` for none
abbrev pub nested : (TyNode → TyNode → TyNode) → List TyNode → TyNode
nested join [] = prelude_type UNIT
nested join (x ∷ []) = x
nested join (x ∷ y ∷ rest) = join x (nested join (y ∷ rest))

-- a constructor's layer: its name is carried by `ConOf`, over the product of its fields
abbrev pub layer_of : DeclCon → TyNode
layer_of con = t.App (t.Con (ConOf con.origin)) (nested product_of con.fields)

-- the representation of a datatype over its own parameters: the sum of its constructors' layers
abbrev pub rep_of : DeclData → TyNode
rep_of decl = nested sum_of (map layer_of decl.constructors)

-- the injections of the constructor at `index` of `count`, from outside: `Inr` (true) past each earlier constructor,
-- and then `Inl` (false), which the last one lacks
abbrev pub paths_of : ℕ → ℕ → List Bool
paths_of count index = replicate index true ++ (if index + 1 == count then [] else false ∷ [])

-- the path goes through sums from the first type to the second
abbrev pub Leads : List Bool → TyNode → TyNode → Type 0
Leads [] from to = from ≡ to
Leads (false ∷ path) from to = (left : TyNode) × (right : TyNode) × (from ≡ sum_of left right) × Leads path left to
Leads (true ∷ path) from to = (left : TyNode) × (right : TyNode) × (from ≡ sum_of left right) × Leads path right to
