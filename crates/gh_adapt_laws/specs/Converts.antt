-- What a conversion does with a term, by the form of the type and in both directions, and that pairs put into a pair make one.
use Rattle.std.specs.Prelude.{◌≡◌, ℕ, suc, ◌≤◌, List, [], ◌∷◌, ◌++◌, length, max, slice_get, unwrap_or, Some}
use Rattle.gh_base.specs.declared.place.TyCon.{TyCon}
use Rattle.gh_base.specs.declared.place.TyCon.TheVariants as tycon
use Rattle.gh_typeterm.specs.declared.decl.DeclData.{DeclData}
use Rattle.gh_typeterm.specs.declared.ty.TyNode.{TyNode, fold-TyNode}
use Rattle.gh_typeterm.specs.declared.ty.TyNode.TheVariants as ty
use Rattle.gh_typeterm.specs.declared.ty.TyNode.TheOpen.{TyNode-F}
use Rattle.gh_core.specs.declared.terms.CoreName.{CoreName}
use Rattle.gh_core.specs.Closing.{close}
use Rattle.gh_core.specs.Reduce.{Program, Waiting, demand, defined, reductions}
use Rattle.gh_core.specs.Terms.{Term, var, glob, lam, app, whole}
use Rattle.gh_adapt.specs.declared.ways.Way.{Way}
use Rattle.gh_adapt.specs.declared.ways.Way.TheVariants.{Forth, Back}
use Rattle.gh_adapt.specs.Pairs.{turned, pair_of, select, id_pair, head_pair, pair_at, given, params, bimap_of, adapter_of}
use Rattle.gh_adapt.specs.Goes.{waiting}
use Rattle.gh_adapt.specs.PairGoes.{rebuilt, type_applied}

-- a term is the pair at a type, from these pairs at the variables: as it is written, or with the marks that substitution leaves
pub data PairAt (leaf : ℕ → Term) : TyNode → Term → Type 0 where
  at_con : {t : TyNode} {m : Term} (c : TyCon) → t ≡ ty.Con c → m ≡ head_pair c → PairAt leaf t m
  at_var : {t : TyNode} {m : Term} (x : ℕ) → t ≡ ty.Var x → m ≡ leaf x → PairAt leaf t m
  at_app : {t : TyNode} {m : Term} (f s : TyNode) (g e : Term) → t ≡ ty.App f s → m ≡ app g e → PairAt leaf f g → PairAt leaf s e → PairAt leaf t m
  at_name : {t : TyNode} {m : Term} (n : ℕ) → t ≡ ty.Name n → m ≡ id_pair → PairAt leaf t m
  marked : {t : TyNode} {m : Term} (n : Term) → m ≡ whole n → PairAt leaf t n → PairAt leaf t m

abbrev pub PairsAt : (ℕ → Term) → List TyNode → List Term → Type 0
PairsAt leaf [] [] = Unit {0}
PairsAt leaf (t ∷ ts) (m ∷ ms) = PairAt leaf t m × PairsAt leaf ts ms
PairsAt leaf [] (m ∷ ms) = ⊥
PairsAt leaf (t ∷ ts) [] = ⊥

-- ---- one conversion

abbrev pub one_of : Way → Term → Term → Term
one_of Forth f g = f
one_of Back f g = g

-- the forms of a type: a variable with a pair, one without, a type of the machine, an arrow, and a datatype at as many types as it
-- has parameters, whose pair the program defines
pub data Form (p : Program) (leaf : ℕ → Term) (t : TyNode) : Type 0 where
  with_pair : (x : ℕ) (f g : Term) → t ≡ ty.Var x → leaf x ≡ pair_of f g → Form p leaf t
  without_pair : (x : ℕ) → t ≡ ty.Var x → leaf x ≡ id_pair → Form p leaf t
  of_machine : (c : TyCon) → t ≡ ty.Con c → head_pair c ≡ id_pair → Form p leaf t
  of_functions : (s u : TyNode) → t ≡ ty.App (ty.App (ty.Con tycon.Arrow) s) u → Form p leaf t
  of_data : (c : TyCon) (n : CoreName) (d : DeclData) (ts : List TyNode) → t ≡ type_applied (ty.Con c) ts → head_pair c ≡ glob n → defined p.defs n ≡ Some (bimap_of d)
      → length ts ≡ length d.params → length ts ≤ 8 → Form p leaf t

-- a function goes to one that converts what it is given the other way, and what it answers; m and n are the pairs at both sides
abbrev pub turned_round : Way → Term → Term → Term → Term
turned_round way m n e = lam 3 (app (select way (whole n)) (app (whole e) (app (select (turned way) (whole m)) (var 3))))

-- what the definition says that the conversion of a term goes to, and with which arguments
pub data Says (p : Program) (leaf : ℕ → Term) (way : Way) (t : TyNode) (e to : Term) (args : List Term) : Type 0 where
  -- the pair's own conversion, given the term
  by_pair : (x : ℕ) (f g : Term) → t ≡ ty.Var x → leaf x ≡ pair_of f g → to ≡ one_of way f g → args ≡ e ∷ [] → Says p leaf way t e to args
  -- the term
  as_variable : (x : ℕ) → t ≡ ty.Var x → leaf x ≡ id_pair → to ≡ e → args ≡ [] → Says p leaf way t e to args
  as_constant : (c : TyCon) → t ≡ ty.Con c → head_pair c ≡ id_pair → to ≡ e → args ≡ [] → Says p leaf way t e to args
  -- a function round the term
  by_sides : (s u : TyNode) (m n : Term) → t ≡ ty.App (ty.App (ty.Con tycon.Arrow) s) u → PairAt leaf s m → PairAt leaf u n → to ≡ turned_round way m n e → args ≡ []
      → Says p leaf way t e to args
  -- the case that rebuilds the term
  by_fields : (c : TyCon) (n : CoreName) (d : DeclData) (ts : List TyNode) (ms : List Term) → t ≡ type_applied (ty.Con c) ts → head_pair c ≡ glob n → defined p.defs n ≡ Some (bimap_of d)
      → PairsAt leaf ts ms → to ≡ rebuilt way d ms e → args ≡ [] → Says p leaf way t e to args

-- a conversion applied to a term goes to what the definition says, in at most 23 reductions. The term is not evaluated by these
pub record Converts (p : Program) (leaf : ℕ → Term) (way : Way) (t : TyNode) (m e : Term) : Type 0 where
  pub to : Term
  pub args : List Term
  pub says : Says p leaf way t e to args
  pub count : ℕ
  pub few : count ≤ 23
  pub goes : (stack : List Waiting) (out : List ℕ) → reductions p count (demand (app m e) stack out) ≡ demand to (waiting args stack) out

-- the conversion at a base type
abbrev pub AdapterConverts : List Term → TyNode → Term → Type 0
AdapterConverts pairs base m = (p : Program) (e : Term) → Form p (given pairs) base → Converts p (given pairs) Back base m e

-- ---- the laws

-- it does what the definition says
abbrev pub AdaptersConvert : Type 0
AdaptersConvert = (pairs : List Term) (base : TyNode) → AdapterConverts pairs base (adapter_of pairs base)

-- the pair at a type is one
abbrev pub IsPairThere : Type 0
IsPairThere = (leaf : ℕ → Term) (t : TyNode) → PairAt leaf t (pair_at leaf t)

-- both conversions of each pair at a type do what the definition says
abbrev pub PairConverts : Type 0
PairConverts = (p : Program) (leaf : ℕ → Term) (way : Way) (t : TyNode) (m e : Term) → PairAt leaf t m → Form p leaf t → Converts p leaf way t (select way m) e

-- a type with types for its variables
abbrev pub put_step : List TyNode → TyNode-F TyNode → TyNode
put_step ts (TyNode-F.Con c) = ty.Con c
put_step ts (TyNode-F.Var x) = unwrap_or (slice_get ts x) (ty.Var x)
put_step ts (TyNode-F.App f s) = ty.App f s
put_step ts (TyNode-F.Name n) = ty.Name n

abbrev pub types_put : List TyNode → TyNode → TyNode
types_put ts = fold-TyNode TyNode (put_step ts)

-- the first number above the variables of a type
abbrev pub above_step : TyNode-F ℕ → ℕ
above_step (TyNode-F.Con c) = 0
above_step (TyNode-F.Var x) = suc x
above_step (TyNode-F.App f s) = max f s
above_step (TyNode-F.Name n) = 0

abbrev pub above_variables : TyNode → ℕ
above_variables = fold-TyNode ℕ above_step

-- the pair at a field's type, with pairs at types put for the parameters' pairs, is the pair at the field's type at these types. So
-- what the case that rebuilds a value does with a field is again the conversion at its type
abbrev pub PairsCompose : Type 0
PairsCompose = (leaf : ℕ → Term) (ts : List TyNode) (ms : List Term) (e : Term) (u : TyNode) → PairsAt leaf ts ms → above_variables u ≤ length ts
    → PairAt leaf (types_put ts u) (close (pair_at (given (params 0 (length ts))) u) (slice_get (ms ++ e ∷ [])))
