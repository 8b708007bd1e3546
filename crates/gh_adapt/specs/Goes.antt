-- What the conversions do with a term: the term is evaluated once, and few reductions are made beside that.
use Rattle.std.specs.Prelude.{◌≡◌, ℕ, zero, suc, ◌+◌, ◌≤◌, true, false, List, [], ◌∷◌, map, length, Some, slice_get}
use Rattle.gh_base.specs.declared.fixed.TheConstants.{UNIT, PRODUCT, CON, INL, INR}
use Rattle.gh_base.specs.declared.place.Origin.{Origin}
use Rattle.gh_typeterm.specs.declared.decl.DeclCon.{DeclCon}
use Rattle.gh_typeterm.specs.declared.decl.DeclData.{DeclData}
use Rattle.gh_core.specs.Primitives.{prelude_value}
use Rattle.gh_core.specs.Reduce.{Program, Waiting, arg, of_case, demand, reductions, is_newtype}
use Rattle.gh_core.specs.Terms.{Term, con, app, whole, contents, Alts}
use Rattle.gh_core.specs.Typing.{AreDifferent, con_origin}
use Rattle.gh_adapt.specs.Conversions.{made, represented}

-- arguments that wait, the first first
abbrev pub waiting : List Term → List Waiting → List Waiting
waiting [] stack = stack
waiting (e ∷ es) stack = arg e ∷ waiting es stack

-- a term that a case demands comes to a constructor with its fields in so many reductions
abbrev pub ComesTo : Program → ℕ → Term → Origin → List Term → Type 0
ComesTo p n e c es = (alts : Alts) (stack : List Waiting) (out : List ℕ)
    → reductions p n (demand e (of_case alts ∷ stack) out) ≡ demand (con c) (waiting es (of_case alts ∷ stack)) out

-- a term goes to another in so many reductions, whatever waits
abbrev pub Goes : Program → ℕ → Term → Term → Type 0
Goes p n e f = (stack : List Waiting) (out : List ℕ) → reductions p n (demand e stack out) ≡ demand f stack out

abbrev pub NoNewtypes : Program → List DeclCon → Type 0
NoNewtypes p [] = Unit {0}
NoNewtypes p (c ∷ cs) = (is_newtype p.newtypes c.origin ≡ false) × NoNewtypes p cs

-- the injections are those of a datatype, and the layer is a newtype
abbrev pub HasSums : Program → Type 0
HasSums p =
    (is_newtype p.newtypes (prelude_value INL) ≡ false) × (is_newtype p.newtypes (prelude_value CON) ≡ true)

-- `from` applied to a term that comes to a constructor goes to what stands for the constructor with these fields, in four
-- reductions beside those of the term
abbrev pub FromGoes : DeclData → Term → Type 0
FromGoes d m = (p : Program) (index n : ℕ) (c : DeclCon) (e : Term) (es : List Term)
    → NoNewtypes p d.constructors → AreDifferent (map con_origin d.constructors) → slice_get d.constructors index ≡ Some c → length c.fields ≡ length es
    → ComesTo p n e c.origin es → Goes p (n + 4) (app m e) (represented (length d.constructors) index (map whole es))

-- `from` of a newtype evaluates nothing: it goes to what stands for the contents
abbrev pub FromNewtypeGoes : DeclData → Term → Type 0
FromNewtypeGoes d m = (p : Program) (c : DeclCon) (e : Term)
    → d.constructors ≡ c ∷ [] → length c.fields ≡ 1 → is_newtype p.newtypes c.origin ≡ true
    → Goes p 3 (app m e) (represented 1 0 (whole (contents c.origin (whole e)) ∷ []))

-- a term comes to a product of so many fields, one part after another
abbrev pub ProductComes : Program → ℕ → Term → List Term → ℕ → Type 0
ProductComes p zero v es n = (es ≡ []) × ComesTo p n v (prelude_value UNIT) []
ProductComes p (suc zero) v es n = (es ≡ v ∷ []) × (n ≡ 0)
ProductComes p (suc (suc k)) v es n =
    (first : Term) × (rest : Term) × (more : List Term) × (m : ℕ) × (l : ℕ) × (es ≡ first ∷ more) × (n ≡ m + l)
    × ComesTo p m v (prelude_value PRODUCT) (first ∷ rest ∷ []) × ProductComes p (suc k) rest more l

-- under a constructor's layer, which is not evaluated
abbrev pub LayerComes : Program → ℕ → Term → List Term → ℕ → Type 0
LayerComes p count e es n = ProductComes p count (contents (prelude_value CON) (whole e)) es n

-- a term comes to what stands for the constructor at this index with these fields, in so many reductions in all: past the
-- injections, the layer and the products
abbrev pub SumComes : Program → List DeclCon → ℕ → Term → List Term → ℕ → Type 0
SumComes p [] index e es n = ⊥
SumComes p (c ∷ []) zero e es n = LayerComes p (length c.fields) e es n
SumComes p (c ∷ []) (suc index) e es n = ⊥
SumComes p (c ∷ d ∷ ds) zero e es n =
    (v : Term) × (m : ℕ) × (l : ℕ) × (n ≡ m + l) × ComesTo p m e (prelude_value INL) (v ∷ []) × LayerComes p (length c.fields) v es l
SumComes p (c ∷ d ∷ ds) (suc index) e es n =
    (v : Term) × (m : ℕ) × (l : ℕ) × (n ≡ m + l) × ComesTo p m e (prelude_value INR) (v ∷ []) × SumComes p (d ∷ ds) index v es l

-- `to` applied to a term that comes to what stands for a constructor goes to the constructor, with each field marked as what
-- was put for a name, in few reductions beside those of the term and its parts, each of which is evaluated once
abbrev pub ToGoes : DeclData → Term → Type 0
ToGoes d m = (p : Program) (index n : ℕ) (c : DeclCon) (e : Term) (es : List Term)
    → HasSums p → slice_get d.constructors index ≡ Some c → length d.constructors ≤ 128 → length c.fields ≤ 16
    → SumComes p d.constructors index e es n
    → (few : ℕ) × (few ≤ 400) × Goes p (n + few) (app m e) (made c.origin (map whole es))
