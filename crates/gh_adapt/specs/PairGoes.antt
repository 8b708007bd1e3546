-- What the conversions of pairs do with a term, over reductions of core. The term is evaluated only where they look at it.
use Rattle.std.specs.Prelude.{◌≡◌, ℕ, ◌+◌, ◌⊎◌, List, [], ◌∷◌, ◌++◌, map, length, slice_get, Some, None}
use Rattle.gh_base.specs.declared.place.Origin.{Origin}
use Rattle.gh_base.specs.declared.place.TyCon.TheVariants as tycon
use Rattle.gh_typeterm.specs.declared.decl.DeclData.{DeclData}
use Rattle.gh_typeterm.specs.declared.ty.TyNode.{TyNode}
use Rattle.gh_typeterm.specs.declared.ty.TyNode.TheVariants as ty
use Rattle.gh_core.specs.declared.terms.CoreName.TheVariants.{Bimap}
use Rattle.gh_core.specs.Closing.{close}
use Rattle.gh_core.specs.Reduce.{Program, Waiting, arg, demand, defined, reductions}
use Rattle.gh_core.specs.Terms.{Term, var, lam, app, cases, whole}
use Rattle.gh_adapt.specs.declared.ways.Way.{Way}
use Rattle.gh_adapt.specs.declared.ways.Way.TheVariants.{Forth, Back}
use Rattle.gh_adapt.specs.Conversions.{applied_all}
use Rattle.gh_adapt.specs.Goes.{Goes}
use Rattle.gh_adapt.specs.Pairs.{bimap_of, given, pair_at, pair_of, rebuilding, select}

-- a variable that has a pair: the term is given to that pair's conversion back, as it is
abbrev pub MarkerGoes : List Term → TyNode → Term → Type 0
MarkerGoes pairs base m = (p : Program) (x : ℕ) (f g e : Term) → base ≡ ty.Var x → slice_get pairs x ≡ Some (pair_of f g)
    → (stack : List Waiting) (out : List ℕ) → reductions p 5 (demand (app m e) stack out) ≡ demand g (arg e ∷ stack) out

-- nothing is converted: at the machine's own types, and at a variable without a pair
abbrev pub IsKept : List Term → TyNode → Type 0
IsKept pairs base = (base ≡ ty.Con tycon.Int) ⊎ ((base ≡ ty.Con tycon.Char) ⊎ ((x : ℕ) × (base ≡ ty.Var x) × (slice_get pairs x ≡ None)))

-- there the term itself goes on
abbrev pub KeptGoes : List Term → TyNode → Term → Type 0
KeptGoes pairs base m = (p : Program) (e : Term) → IsKept pairs base → Goes p 6 (app m e) e

-- a function goes to one that converts what it is given forth, and what it answers back; `s` and `t` are the pairs at both sides
abbrev pub around : Term → Term → Term → Term
around s t e = lam 3 (app (select Back (whole t)) (app (whole e) (app (select Forth (whole s)) (var 3))))

abbrev pub ArrowGoes : List Term → TyNode → Term → Type 0
ArrowGoes pairs base m = (p : Program) (s t : TyNode) (e : Term) → base ≡ ty.App (ty.App (ty.Con tycon.Arrow) s) t
    → Goes p 10 (app m e) (around (pair_at (given pairs) s) (pair_at (given pairs) t) e)

-- the case that rebuilds a value of the datatype, whose parameters have these pairs, each field converted at its type
abbrev pub rebuilt : Way → DeclData → List Term → Term → Term
rebuilt way d pairs e =
    let n = length d.params in
    close (cases (var n) (rebuilding way n d.constructors)) (slice_get (pairs ++ e ∷ []))

-- a type applied to others
abbrev pub type_applied : TyNode → List TyNode → TyNode
type_applied f [] = f
type_applied f (t ∷ ts) = type_applied (ty.App f t) ts

-- a datatype at as many types as it has parameters: the case that rebuilds, with the pairs at these types
abbrev pub DataGoes : List Term → TyNode → Term → Type 0
DataGoes pairs base m = (p : Program) (d : DeclData) (o : Origin) (ts : List TyNode) (e : Term)
    → base ≡ type_applied (ty.Con (tycon.Named o)) ts → length ts ≡ length d.params → defined p.defs (Bimap (tycon.Named o)) ≡ Some (bimap_of d)
    → Goes p (length ts + length ts + 7) (app m e) (rebuilt Back d (map (pair_at (given pairs)) ts) e)

-- the datatype's pair at pairs for its parameters: each of its conversions goes to the case that rebuilds
abbrev pub BimapGoes : DeclData → Term → Type 0
BimapGoes d m = (p : Program) (way : Way) (pairs : List Term) (e : Term) → length pairs ≡ length d.params
    → Goes p (length pairs + length pairs + 6) (app (select way (applied_all m pairs)) e) (rebuilt way d pairs e)
