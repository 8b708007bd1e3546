-- Pairs of conversions, one in each direction, at types (Löh, Exploring Generic Haskell, bimap; Hinze, Polytypic Values
-- Possess Polykinded Types), as terms of core without types.
use Rattle.std.specs.Prelude.{ℕ, zero, suc, List, [], ◌∷◌, length, slice_get, unwrap_or}
use Rattle.gh_base.specs.declared.fixed.TheConstants.{EP, CON}
use Rattle.gh_base.specs.declared.place.Origin.{Origin}
use Rattle.gh_base.specs.declared.place.TyCon.{TyCon}
use Rattle.gh_base.specs.declared.place.TyCon.TheVariants as tycon
use Rattle.gh_typeterm.specs.declared.decl.DeclCon.{DeclCon}
use Rattle.gh_typeterm.specs.declared.decl.DeclData.{DeclData}
use Rattle.gh_typeterm.specs.declared.ty.TyNode.{TyNode, fold-TyNode}
use Rattle.gh_typeterm.specs.declared.ty.TyNode.TheOpen.{TyNode-F}
use Rattle.gh_core.specs.declared.terms.CoreName.TheVariants.{Bimap}
use Rattle.gh_core.specs.Primitives.{prelude_value}
use Rattle.gh_core.specs.Terms.{Term, var, glob, con, lam, app, cases, con_alt, Alts, no_alt, alt}
use Rattle.gh_core.specs.Typing.{prelude_type}
use Rattle.gh_adapt.specs.declared.ways.Way.{Way}
use Rattle.gh_adapt.specs.declared.ways.Way.TheVariants.{Forth, Back}
use Rattle.gh_adapt.specs.Conversions.{failing, field_names, made}

-- a pair converts from its left type to its right one, and back
abbrev pub turned : Way → Way
turned Forth = Back
turned Back = Forth

-- the constructor of pairs
abbrev pub ep : Origin
ep = prelude_value EP

abbrev pub pair_of : Term → Term → Term
pair_of f g = app (app (con ep) f) g

abbrev pub picked : Way → ℕ
picked Forth = 0
picked Back = 1

-- one of the two
abbrev pub select : Way → Term → Term
select way m = cases m (alt (con_alt ep (0 ∷ 1 ∷ []) (var (picked way))) no_alt)

-- nothing is converted
abbrev pub id_pair : Term
id_pair = pair_of (lam 0 (var 0)) (lam 0 (var 0))

-- a function goes to one that converts what it is given the other way, and what it answers
abbrev pub arrow_side : Way → Term
arrow_side way = lam 2 (lam 3 (app (select way (var 1)) (app (var 2) (app (select (turned way) (var 0)) (var 3)))))

-- from the pairs at both sides of an arrow
abbrev pub arrow_pair : Term
arrow_pair = lam 0 (lam 1 (pair_of (arrow_side Forth) (arrow_side Back)))

-- a datatype's pair is a definition of its own; the layer of a constructor is one datatype for all
abbrev pub head_pair : TyCon → Term
head_pair (tycon.Named o) = glob (Bimap (tycon.Named o))
head_pair tycon.Arrow = arrow_pair
head_pair tycon.Int = id_pair
head_pair tycon.Char = id_pair
head_pair (tycon.ConOf o) = glob (Bimap (prelude_type CON))

-- the pair at a type, from those at its variables
abbrev pub pair_step : (ℕ → Term) → TyNode-F Term → Term
pair_step leaf (TyNode-F.Con c) = head_pair c
pair_step leaf (TyNode-F.Var x) = leaf x
pair_step leaf (TyNode-F.App f s) = app f s
pair_step leaf (TyNode-F.Name n) = id_pair

abbrev pub pair_at : (ℕ → Term) → TyNode → Term
pair_at leaf = fold-TyNode Term (pair_step leaf)

-- these pairs for the first variables; nothing is converted at the others
abbrev pub given : List Term → ℕ → Term
given pairs x = unwrap_or (slice_get pairs x) id_pair

-- the conversion at a base type, back from the right types of the generic variables' pairs to the left ones
abbrev pub adapter_of : List Term → TyNode → Term
adapter_of pairs base = select Back (pair_at (given pairs) base)

-- ---- the pair at a datatype, from those at its parameters, which are the variables 0 and up; the value is the next variable,
-- and its fields are those after it

abbrev pub params : ℕ → ℕ → List Term
params i zero = []
params i (suc n) = var i ∷ params (suc i) n

abbrev pub rebuilt_fields : Way → List Term → ℕ → List TyNode → List Term
rebuilt_fields way pairs i [] = []
rebuilt_fields way pairs i (t ∷ ts) = app (select way (pair_at (given pairs) t)) (var (suc i)) ∷ rebuilt_fields way pairs (suc i) ts

abbrev pub rebuilding : Way → ℕ → List DeclCon → Alts
rebuilding way n [] = failing
rebuilding way n (c ∷ cs) =
    alt (con_alt c.origin (field_names n (length c.fields)) (made c.origin (rebuilt_fields way (params 0 n) n c.fields))) (rebuilding way n cs)

abbrev pub rebuild : Way → ℕ → List DeclCon → Term
rebuild way n cs = lam n (cases (var n) (rebuilding way n cs))

abbrev pub lams : ℕ → ℕ → Term → Term
lams i zero b = b
lams i (suc n) b = lam i (lams (suc i) n b)

-- each constructor is rebuilt, its fields converted at their types
abbrev pub bimap_of : DeclData → Term
bimap_of d =
    let n = length d.params in
    lams 0 n (pair_of (rebuild Forth n d.constructors) (rebuild Back n d.constructors))
