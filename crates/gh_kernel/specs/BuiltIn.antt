-- The datatypes that no text declares: lists, the empty tuple, and tuples (Haskell 98 Report, 6.1.3 and 6.1.4).
use Rattle.std.specs.Prelude.{ℕ, zero, suc, false, List, [], ◌∷◌, replicate}
use Rattle.gh_base.specs.declared.fixed.TheConstants.{PRELUDE, LIST, NIL, CONS, TUPLE_0, TUPLE_2, TUPLE_3, TUPLE_4, TUPLE_5, TUPLE_6, TUPLE_7}
use Rattle.gh_base.specs.declared.names.NameId.{NameId}
use Rattle.gh_base.specs.declared.place.Origin.{Origin}
use Rattle.gh_base.specs.declared.place.Space.TheVariants.{Types}
use Rattle.gh_base.specs.declared.place.TyCon.TheVariants.{Named}
use Rattle.gh_core.specs.Primitives.{prelude_value}
use Rattle.gh_typeterm.specs.declared.decl.DeclCon.{DeclCon}
use Rattle.gh_typeterm.specs.declared.decl.DeclData.{DeclData}
use Rattle.gh_typeterm.specs.declared.kind.Kind.TheVariants.{Star}
use Rattle.gh_typeterm.specs.declared.ty.TyNode.{TyNode}
use Rattle.gh_typeterm.specs.declared.ty.TyNode.TheVariants as t

-- a type of the Prelude
abbrev pub prelude_type : NameId → Origin
prelude_type n = record { «module» = PRELUDE; space = Types; name = n }

-- a list of a type
abbrev pub list_of : TyNode → TyNode
list_of element = t.App (t.Con (Named (prelude_type LIST))) element

abbrev pub declared_con : NameId → List TyNode → DeclCon
declared_con c fields = record { origin = prelude_value c; fields = fields }

-- `data [] a = [] | a : [a]`
abbrev pub list_type : DeclData
list_type = record {
  origin = prelude_type LIST;
  is_newtype = false;
  params = Star ∷ [];
  constructors = declared_con NIL [] ∷ declared_con CONS (t.Var 0 ∷ list_of (t.Var 0) ∷ []) ∷ [];
}

-- the type variables i and up, so many
abbrev pub variables_from : ℕ → ℕ → List TyNode
variables_from i zero = []
variables_from i (suc n) = t.Var i ∷ variables_from (suc i) n

-- the tuple of so many parts: its type and its constructor have one name
abbrev pub tuple_type : NameId → ℕ → DeclData
tuple_type name n = record {
  origin = prelude_type name;
  is_newtype = false;
  params = replicate n Star;
  constructors = declared_con name (variables_from 0 n) ∷ [];
}

abbrev pub built_in : List DeclData
built_in = list_type ∷ tuple_type TUPLE_0 0 ∷ tuple_type TUPLE_2 2 ∷ tuple_type TUPLE_3 3 ∷ tuple_type TUPLE_4 4
    ∷ tuple_type TUPLE_5 5 ∷ tuple_type TUPLE_6 6 ∷ tuple_type TUPLE_7 7 ∷ []
