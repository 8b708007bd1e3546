-- Two names have one key exactly where they are one.
use Rattle.std.proofs.Common.{◌≡◌, Bool, true, false, refl, ap, ◌∙◌}
use Rattle.std.specs.Prelude.{◌&&◌, ◌==◌, nat_eq}
use Rattle.gh_base.specs.declared.place.Origin.{Origin}
use Rattle.gh_base.specs.declared.place.Space.{Space}
use Rattle.gh_base.specs.declared.place.Space.TheVariants.{Values, Types}
use Rattle.gh_base.specs.declared.place.TyCon.{TyCon}
use Rattle.gh_base.specs.declared.place.TyCon.TheVariants.{Named, Arrow, Int, Char, ConOf}
use Rattle.gh_core.specs.declared.terms.CoreName.{CoreName}
use Rattle.gh_core.specs.declared.terms.CoreName.TheVariants.{Plain, Hidden, Component, From, To, Bimap}
use Rattle.gh_core.specs.Primitives.{same_origin, same_space}
use Rattle.gh_core.specs.Reduce.{same_con, same_name}
use Rattle.gh_core_lint.specs.Keys.{key_of, con_key, origin_key, space_number, same_key, same_con_key, same_origin_key}

spaces : (a b : Space) → nat_eq (space_number a) (space_number b) ≡ same_space a b
spaces Values Values = refl
spaces Values Types = refl
spaces Types Values = refl
spaces Types Types = refl

grouped : (p q r : Bool) → (p && (q && r)) ≡ (p && q && r)
grouped true q r = refl
grouped false q r = refl

and_true : (p : Bool) → (p && true) ≡ p
and_true true = refl
and_true false = refl

numbers : (p q : Bool) → ((p && (q && true)) && true) ≡ (p && q)
numbers true true = refl
numbers true false = refl
numbers false q = refl

origins : (a b : Origin) → same_origin_key (origin_key a) (origin_key b) ≡ same_origin a b
origins a b =
    ap (λ q. (a.«module».0 == b.«module».0) && (q && (a.name.0 == b.name.0))) (spaces a.space b.space)
    ∙ grouped (a.«module».0 == b.«module».0) (same_space a.space b.space) (a.name.0 == b.name.0)

cons_same : (c d : TyCon) → same_con_key (con_key c) (con_key d) ≡ same_con c d
cons_same (Named a) (Named b) = origins a b
cons_same (Named a) Arrow = refl
cons_same (Named a) Int = refl
cons_same (Named a) Char = refl
cons_same (Named a) (ConOf b) = refl
cons_same Arrow (Named b) = refl
cons_same Arrow Arrow = refl
cons_same Arrow Int = refl
cons_same Arrow Char = refl
cons_same Arrow (ConOf b) = refl
cons_same Int (Named b) = refl
cons_same Int Arrow = refl
cons_same Int Int = refl
cons_same Int Char = refl
cons_same Int (ConOf b) = refl
cons_same Char (Named b) = refl
cons_same Char Arrow = refl
cons_same Char Int = refl
cons_same Char Char = refl
cons_same Char (ConOf b) = refl
cons_same (ConOf a) (Named b) = refl
cons_same (ConOf a) Arrow = refl
cons_same (ConOf a) Int = refl
cons_same (ConOf a) Char = refl
cons_same (ConOf a) (ConOf b) = origins a b

pub keys_same : (a b : CoreName) → same_key (key_of a) (key_of b) ≡ same_name a b
keys_same (Plain a) (Plain b) = and_true (same_origin_key (origin_key a) (origin_key b)) ∙ origins a b
keys_same (Plain a) (Hidden mb nb) = refl
keys_same (Plain a) (Component b cb) = refl
keys_same (Plain a) (From cb) = refl
keys_same (Plain a) (To cb) = refl
keys_same (Plain a) (Bimap cb) = refl
keys_same (Hidden ma na) (Plain b) = refl
keys_same (Hidden ma na) (Hidden mb nb) = numbers (ma.0 == mb.0) (na == nb)
keys_same (Hidden ma na) (Component b cb) = refl
keys_same (Hidden ma na) (From cb) = refl
keys_same (Hidden ma na) (To cb) = refl
keys_same (Hidden ma na) (Bimap cb) = refl
keys_same (Component a ca) (Plain b) = refl
keys_same (Component a ca) (Hidden mb nb) = refl
keys_same (Component a ca) (Component b cb) = λ i. origins a b i && cons_same ca cb i
keys_same (Component a ca) (From cb) = refl
keys_same (Component a ca) (To cb) = refl
keys_same (Component a ca) (Bimap cb) = refl
keys_same (From ca) (Plain b) = refl
keys_same (From ca) (Hidden mb nb) = refl
keys_same (From ca) (Component b cb) = refl
keys_same (From ca) (From cb) = cons_same ca cb
keys_same (From ca) (To cb) = refl
keys_same (From ca) (Bimap cb) = refl
keys_same (To ca) (Plain b) = refl
keys_same (To ca) (Hidden mb nb) = refl
keys_same (To ca) (Component b cb) = refl
keys_same (To ca) (From cb) = refl
keys_same (To ca) (To cb) = cons_same ca cb
keys_same (To ca) (Bimap cb) = refl
keys_same (Bimap ca) (Plain b) = refl
keys_same (Bimap ca) (Hidden mb nb) = refl
keys_same (Bimap ca) (Component b cb) = refl
keys_same (Bimap ca) (From cb) = refl
keys_same (Bimap ca) (To cb) = refl
keys_same (Bimap ca) (Bimap cb) = cons_same ca cb
