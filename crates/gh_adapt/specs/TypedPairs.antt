-- Pairs of conversions with their types: a view of what the code makes.
use Rattle.std.specs.Prelude.{ℕ, zero, suc, ◌+◌, List, [], ◌∷◌, length, map, slice_get, unwrap_or, None}
use Rattle.gh_base.specs.declared.fixed.TheConstants.{EP, CON}
use Rattle.gh_base.specs.declared.place.TyCon.{TyCon}
use Rattle.gh_base.specs.declared.place.TyCon.TheVariants as tycon
use Rattle.gh_typeterm.specs.declared.kind.Kind.{Kind}
use Rattle.gh_typeterm.specs.declared.kind.Kind.TheVariants as kind
use Rattle.gh_typeterm.specs.declared.decl.DeclCon.{DeclCon}
use Rattle.gh_typeterm.specs.declared.decl.DeclData.{DeclData}
use Rattle.gh_typeterm.specs.declared.ty.TyNode.{TyNode, fold-TyNode}
use Rattle.gh_typeterm.specs.declared.ty.TyNode.TheVariants as ty
use Rattle.gh_typeterm.specs.declared.ty.TyNode.TheOpen.{TyNode-F}
use Rattle.gh_kernel.specs.declared.functions.GenFun.{GenFun}
use Rattle.gh_kernel.specs.declared.functions.Dependency.{Dependency}
use Rattle.gh_core.specs.declared.terms.CoreName.TheVariants.{Bimap}
use Rattle.gh_core.specs.SameType.{Nameless, con, applied, free, any}
use Rattle.gh_core.specs.Typing.{prelude_type, arrow, Code, a_var, a_global, a_con, a_lam, an_app, a_tylam, a_tyapp, a_case, Branch, con_branch, branches_of}
use Rattle.gh_kind_index.specs.KindIndex.{base_at, kind_type}
use Rattle.gh_adapt.specs.Conversions.{nowhere, field_names}
use Rattle.gh_adapt.specs.declared.ways.Way.{Way}
use Rattle.gh_adapt.specs.declared.ways.Way.TheVariants.{Forth, Back}
use Rattle.gh_adapt.specs.Pairs.{ep, picked}
use Rattle.gh_adapt.specs.Typed.{at_two, case_code, types_given, self_type}

abbrev pub ep_type : Nameless → Nameless → Nameless
ep_type a b = applied (applied (con (prelude_type EP)) a) b

abbrev pub pair_code : Nameless → Nameless → Code → Code → Code
pair_code a b f g = an_app (an_app (at_two ep a b) f) g

abbrev pub way_type : Way → Nameless → Nameless → Nameless
way_type Forth a b = arrow a b
way_type Back a b = arrow b a

abbrev pub select_code : Way → Nameless → Nameless → Code → Code
select_code way a b m = a_case m (way_type way a b) (branches_of (con_branch ep (0 ∷ 1 ∷ []) (a_var (picked way)) ∷ []) None)

abbrev pub id_code : Nameless → Code
id_code a = pair_code a a (a_lam 0 a (a_var 0)) (a_lam 0 a (a_var 0))

-- a function of `a -> c`, or one of `b -> d`, the pairs being those of `a` and `b` and of `c` and `d`
abbrev pub arrow_side_code : Way → Code
arrow_side_code Forth =
    a_lam 2 (arrow (free 0) (free 2)) (a_lam 3 (free 1)
    (an_app (select_code Forth (free 2) (free 3) (a_var 1)) (an_app (a_var 2) (an_app (select_code Back (free 0) (free 1) (a_var 0)) (a_var 3)))))
arrow_side_code Back =
    a_lam 2 (arrow (free 1) (free 3)) (a_lam 3 (free 0)
    (an_app (select_code Back (free 2) (free 3) (a_var 1)) (an_app (a_var 2) (an_app (select_code Forth (free 0) (free 1) (a_var 0)) (a_var 3)))))

abbrev pub arrow_code : Code
arrow_code =
    a_tylam 0 kind.Star (a_tylam 1 kind.Star (a_lam 0 (ep_type (free 0) (free 1))
    (a_tylam 2 kind.Star (a_tylam 3 kind.Star (a_lam 1 (ep_type (free 2) (free 3))
    (pair_code (arrow (free 0) (free 2)) (arrow (free 1) (free 3)) (arrow_side_code Forth) (arrow_side_code Back)))))))

abbrev pub head_code : TyCon → Code
head_code (tycon.Named o) = a_global (Bimap (tycon.Named o))
head_code tycon.Arrow = arrow_code
head_code tycon.Int = id_code (con tycon.Int)
head_code tycon.Char = id_code (con tycon.Char)
head_code (tycon.ConOf o) = a_global (Bimap (prelude_type CON))

-- the pair at a variable
abbrev pub leaf_code : List Nameless → List Nameless → List Code → ℕ → Code
leaf_code left others pairs x = unwrap_or (slice_get pairs x) (id_code (base_at left others (ty.Var x)))

abbrev pub pair_step_code : List Nameless → List Nameless → List Nameless → List Code → TyNode-F (TyNode × Code) → TyNode × Code
pair_step_code left right others pairs (TyNode-F.Con c) = (ty.Con c, head_code c)
pair_step_code left right others pairs (TyNode-F.Var x) = (ty.Var x, leaf_code left others pairs x)
pair_step_code left right others pairs (TyNode-F.App f s) =
    (ty.App f.0 s.0, an_app (a_tyapp (a_tyapp f.1 (base_at left others s.0)) (base_at right others s.0)) s.1)
pair_step_code left right others pairs (TyNode-F.Name n) = (ty.Name n, id_code (any kind.Star))

-- the pair at a type, between the type at `left` and the type at `right`
abbrev pub pair_at_code : List Nameless → List Nameless → List Nameless → List Code → TyNode → Code
pair_at_code left right others pairs t = (fold-TyNode (TyNode × Code) (pair_step_code left right others pairs) t).1

-- one of the conversions at a type
abbrev pub converted_code : Way → List Nameless → List Nameless → List Nameless → List Code → TyNode → Code
converted_code way left right others pairs t = select_code way (base_at left others t) (base_at right others t) (pair_at_code left right others pairs t)

abbrev pub adapter_code : TyNode → List Nameless → List Nameless → List Nameless → List Code → Code
adapter_code base left right others pairs = converted_code Back left right others pairs base

-- ---- datatypes

-- the type variables of the pairs at the parameters: two for each
abbrev pub every_second : ℕ → ℕ → List Nameless
every_second x zero = []
every_second x (suc n) = free x ∷ every_second (suc (suc x)) n

abbrev pub param_codes : ℕ → ℕ → List Code
param_codes i zero = []
param_codes i (suc n) = a_var i ∷ param_codes (suc i) n

-- from which types to which, by the direction
abbrev pub source : Way → List Nameless → List Nameless → List Nameless
source Forth left right = left
source Back left right = right

abbrev pub target : Way → List Nameless → List Nameless → List Nameless
target Forth left right = right
target Back left right = left

abbrev pub rebuilt_code : Way → List Nameless → List Nameless → List Code → Code → ℕ → List TyNode → Code
rebuilt_code way left right pairs f i [] = f
rebuilt_code way left right pairs f i (t ∷ ts) =
    rebuilt_code way left right pairs (an_app f (an_app (converted_code way left right [] pairs t) (a_var (suc i)))) (suc i) ts

abbrev pub rebuilding_branch : Way → List Nameless → List Nameless → List Code → ℕ → DeclCon → Branch
rebuilding_branch way left right pairs n c =
    con_branch c.origin (field_names n (length c.fields)) (rebuilt_code way left right pairs (types_given (a_con c.origin) (target way left right)) n c.fields)

abbrev pub rebuild_code : Way → List Nameless → List Nameless → List Code → ℕ → DeclData → Code
rebuild_code way left right pairs n d =
    a_lam n (self_type d (source way left right))
    (case_code (a_var n) (self_type d (target way left right)) (map (rebuilding_branch way left right pairs n) d.constructors))

-- the function of which `bimap` is the component: its base type is that of pairs, and it depends on itself
abbrev pub ep_dependency : Dependency
ep_dependency = record { function = ep; generic = EP ∷ EP ∷ []; other = [] }

abbrev pub ep_function : GenFun
ep_function = record {
  origin = ep;
  span = nowhere;
  generic = EP ∷ EP ∷ [];
  other = [];
  dependencies = ep_dependency ∷ [];
  base = ty.App (ty.App (ty.Con (prelude_type EP)) (ty.Var 0)) (ty.Var 1);
  cases = [];
}

-- the type of the pair at a parameter, whose two types are these variables
abbrev pub param_type : ℕ → Kind → Nameless
param_type x k = kind_type (ep_function ∷ []) ep_function k (free x ∷ free (suc x) ∷ [])

abbrev pub with_params : ℕ → List Kind → Code → Code
with_params i [] b = b
with_params i (k ∷ ks) b = a_tylam (i + i) k (a_tylam (suc (i + i)) k (a_lam i (param_type (i + i) k) (with_params (suc i) ks b)))

abbrev pub bimap_code : DeclData → Code
bimap_code d =
    let n = length d.params in
    let left = every_second 0 n in
    let right = every_second 1 n in
    let pairs = param_codes 0 n in
    with_params 0 d.params (pair_code (self_type d left) (self_type d right) (rebuild_code Forth left right pairs n d) (rebuild_code Back left right pairs n d))
