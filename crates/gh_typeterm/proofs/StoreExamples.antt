-- Small cases of what a store holds.
use Rattle.std.proofs.Common.{◌≡◌, [], ◌∷◌, ◌++◌, ◌∙◌}
use Rattle.gh_base.specs.declared.place.TyCon.{TyCon}
use Rattle.gh_base.specs.declared.place.TyCon.TheVariants.{Int}
use Rattle.gh_typeterm.specs.declared.ty.TyNode.TheVariants as t
use Rattle.gh_typeterm.specs.Stores.{parts_of}
use Rattle.gh_typeterm.proofs.Gathering.{parts-Con, parts-App}

-- the subterms of a type applied to the integers: the type, the integers, the whole
applied_parts : (c : TyCon) → parts_of (t.App (t.Con c) (t.Con Int)) ≡ t.Con c ∷ t.Con Int ∷ t.App (t.Con c) (t.Con Int) ∷ []
applied_parts c =
    parts-App (t.Con c) (t.Con Int)
    ∙ (λ i. parts-Con c i ++ (parts-Con Int i ++ t.App (t.Con c) (t.Con Int) ∷ []))
