-- The types of pairs of conversions, and what a program of core has for them to be typed.
use Rattle.std.specs.Prelude.{◌≡◌, ℕ, zero, suc, ◌+◌, false, List, [], ◌∷◌, ◌++◌, reverse, length, Some}
use Rattle.gh_base.specs.declared.fixed.TheConstants.{EP, CON}
use Rattle.gh_base.specs.declared.place.Origin.{Origin}
use Rattle.gh_base.specs.declared.place.TyCon.{TyCon}
use Rattle.gh_base.specs.declared.place.TyCon.TheVariants as tycon
use Rattle.gh_typeterm.specs.declared.kind.Kind.{Kind}
use Rattle.gh_typeterm.specs.declared.kind.Kind.TheVariants as kind
use Rattle.gh_typeterm.specs.declared.decl.DeclCon.{DeclCon}
use Rattle.gh_typeterm.specs.declared.decl.DeclData.{DeclData}
use Rattle.gh_typeterm.specs.declared.ty.TyNode.{TyNode, fold-TyNode}
use Rattle.gh_typeterm.specs.declared.ty.TyNode.TheVariants as ty
use Rattle.gh_typeterm.specs.declared.ty.TyNode.TheOpen.{TyNode-F}
use Rattle.gh_core.specs.declared.terms.CoreName.TheVariants.{Bimap}
use Rattle.gh_core.specs.SameType.{Nameless, con}
use Rattle.gh_core.specs.Typing.{Program, Kinds, Types_of, Code, placed, arrow, arrow_kinds, decl_of, con_of, con_kind, global_type, field_type, HasKind, HasType, IsValueType, ConsFit}
use Rattle.gh_kind_index.specs.KindIndex.{base_at, kind_type}
use Rattle.gh_adapt.specs.Pairs.{ep}
use Rattle.gh_adapt.specs.TypedPairs.{ep_type, ep_function, adapter_code, bimap_code}
use Rattle.gh_adapt.specs.Types.{type_name, ConsKnown}

-- ---- the datatype of pairs

abbrev pub function_of_two : TyNode → TyNode → TyNode
function_of_two a b = ty.App (ty.App (ty.Con tycon.Arrow) a) b

-- `EP (a -> b) (b -> a)`
abbrev pub ep_con : DeclCon
ep_con = record { origin = ep; fields = function_of_two (ty.Var 0) (ty.Var 1) ∷ function_of_two (ty.Var 1) (ty.Var 0) ∷ [] }

abbrev pub ep_data : DeclData
ep_data = record { origin = type_name EP; is_newtype = false; params = kind.Star ∷ kind.Star ∷ []; constructors = ep_con ∷ [] }

-- the program has it
pub record HasPairs (p : Program) : Type 0 where
  pub there : decl_of p.decls (type_name EP) ≡ Some ep_data
  pub pair : con_of p.decls ep ≡ Some (ep_data, ep_con)

-- ---- pairs at types of any kind

-- the type of a pair between two types of a kind: the kind-indexed type of the function whose base type is that of pairs, and
-- which depends on itself
abbrev pub pair_type : Kind → Nameless → Nameless → Nameless
pair_type k a b = kind_type (ep_function ∷ []) ep_function k (a ∷ b ∷ [])

-- the type of a datatype's pair
abbrev pub bimap_type : Origin → Kind → Nameless
bimap_type o k = pair_type k (con (tycon.Named o)) (con (tycon.Named o))

-- the program has the datatype's pair
abbrev pub HasBimap : Program → Origin → Type 0
HasBimap p o = (k : Kind) → con_kind p.decls (tycon.Named o) ≡ Some k → global_type p.globals (Bimap (tycon.Named o)) ≡ Some (placed [] (bimap_type o k))

abbrev pub HaveBimaps : Program → List Origin → Type 0
HaveBimaps p [] = Unit {0}
HaveBimaps p (o ∷ os) = HasBimap p o × HaveBimaps p os

-- the datatypes of a type term; the layers of all constructors are one
abbrev pub datatype_of : TyCon → List Origin
datatype_of (tycon.Named o) = o ∷ []
datatype_of tycon.Arrow = []
datatype_of tycon.Int = []
datatype_of tycon.Char = []
datatype_of (tycon.ConOf o) = type_name CON ∷ []

abbrev pub datatypes_step : TyNode-F (List Origin) → List Origin
datatypes_step (TyNode-F.Con c) = datatype_of c
datatypes_step (TyNode-F.Var x) = []
datatypes_step (TyNode-F.App f s) = f ++ s
datatypes_step (TyNode-F.Name n) = []

abbrev pub datatypes_in : TyNode → List Origin
datatypes_in = fold-TyNode (List Origin) datatypes_step

-- a type term has a kind, where its variables have these
abbrev pub TermHasKind : List DeclData → List Kind → TyNode → Kind → Type 0
TermHasKind decls params t k = HasKind decls [] (reverse params) (field_type (length params) t) k

-- ---- the conversion at a base type

-- the kinds of so many variables of values
abbrev pub values : ℕ → List Kind
values zero = []
values (suc n) = kind.Star ∷ values n

-- a pair for each generic variable, between its two types
abbrev pub PairsFit : Program → Kinds → Types_of → List Nameless → List Nameless → List Code → Type 0
PairsFit p ks gs [] [] [] = Unit {0}
PairsFit p ks gs (a ∷ left) (b ∷ right) (m ∷ pairs) =
    IsValueType p ks a × IsValueType p ks b × HasType p ks gs m (ep_type (placed ks a) (placed ks b)) × PairsFit p ks gs left right pairs
PairsFit p ks gs [] [] (m ∷ pairs) = ⊥
PairsFit p ks gs [] (b ∷ right) pairs = ⊥
PairsFit p ks gs (a ∷ left) [] pairs = ⊥
PairsFit p ks gs (a ∷ left) (b ∷ right) [] = ⊥

abbrev pub AreValueTypes : Program → Kinds → List Nameless → Type 0
AreValueTypes p ks [] = Unit {0}
AreValueTypes p ks (t ∷ ts) = IsValueType p ks t × AreValueTypes p ks ts

-- the conditions of the conversion at a base type, inside these type variables and variables: the base type is one of values in
-- its generic and other variables, which are types of values; each generic variable has its pair, and each other one its type; and
-- the program has the pairs of the base type's datatypes
pub record AdapterFits (p : Program) (ks : Kinds) (gs : Types_of) (base : TyNode) (left right others : List Nameless) (pairs : List Code) : Type 0 where
  pub known : HasPairs p
  pub bimaps : HaveBimaps p (datatypes_in base)
  pub base_kind : TermHasKind p.decls (values (length pairs + length others)) base kind.Star
  pub pairs_fit : PairsFit p ks gs left right pairs
  pub others_fit : AreValueTypes p ks others

-- it goes from the base type at the right types to the base type at the left ones
abbrev pub AdapterTyped : TyNode → List Nameless → List Nameless → List Nameless → List Code → Code → Type 0
AdapterTyped base left right others pairs m =
    (p : Program) (ks : Kinds) (gs : Types_of) → AdapterFits p ks gs base left right others pairs
    → HasType p ks gs m (arrow (placed ks (base_at right others base)) (placed ks (base_at left others base)))

-- ---- the pair of a datatype

abbrev pub FieldsHaveBimaps : Program → List TyNode → Type 0
FieldsHaveBimaps p [] = Unit {0}
FieldsHaveBimaps p (t ∷ ts) = HaveBimaps p (datatypes_in t) × FieldsHaveBimaps p ts

abbrev pub ConsHaveBimaps : Program → List DeclCon → Type 0
ConsHaveBimaps p [] = Unit {0}
ConsHaveBimaps p (c ∷ cs) = FieldsHaveBimaps p c.fields × ConsHaveBimaps p cs

-- the program has the datatype with its constructors, each field has the kind of values, and the program has the pairs of the
-- fields' datatypes
pub record KnowsBimaps (p : Program) (d : DeclData) : Type 0 where
  pub there : decl_of p.decls d.origin ≡ Some d
  pub constructors : ConsKnown p d d.constructors
  pub fields : ConsFit p.decls d d.constructors
  pub known : HasPairs p
  pub bimaps : ConsHaveBimaps p d.constructors

-- the type of a component, at the datatype, of the function whose base type is that of pairs
abbrev pub BimapTyped : DeclData → Code → Type 0
BimapTyped d m = (p : Program) → KnowsBimaps p d → HasType p [] [] m (placed [] (bimap_type d.origin (arrow_kinds d.params)))

-- ---- the laws

-- the conversion at a base type has its type
abbrev pub AdaptersTyped : Type 0
AdaptersTyped = (base : TyNode) (left right others : List Nameless) (pairs : List Code) → AdapterTyped base left right others pairs (adapter_code base left right others pairs)

-- the pair of a datatype has its type
abbrev pub BimapsTyped : Type 0
BimapsTyped = (d : DeclData) → BimapTyped d (bimap_code d)
