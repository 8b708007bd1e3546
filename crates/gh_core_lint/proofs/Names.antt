-- Names of datatypes and constructors that differ.
use Rattle.std.proofs.Common.{◌≡◌, List, [], ◌∷◌, ◌++◌, ◌==◌, map, Bool, true, false, cond, Option, Some, None, refl, sym, ap, subst, ◌∙◌}
use Rattle.std.specs.Prelude.{◌&&◌}
use Rattle.std.proofs.lemmas.Bool.{eq-eqb}
use Rattle.std.proofs.lemmas.List.{map-append}
use Rattle.gh_base.specs.declared.place.Origin.{Origin}
use Rattle.gh_base.specs.declared.place.Space.{Space}
use Rattle.gh_base.specs.declared.place.Space.TheVariants.{Values, Types}
use Rattle.gh_typeterm.specs.declared.decl.DeclCon.{DeclCon}
use Rattle.gh_typeterm.specs.declared.decl.DeclData.{DeclData}
use Rattle.gh_core.specs.declared.terms.CoreName.TheVariants.{Plain}
use Rattle.gh_core.specs.declared.terms.Def.{Def}
use Rattle.gh_core.specs.Primitives.{same_origin, same_space}
use Rattle.gh_core.specs.Typing.{origin_among, name_among, AreDifferent, NamesDiffer, decl_origin, con_origin, all_cons, def_name, def_global, decl_of, con_of, con_in, with_decl}
use Rattle.gh_core_lint.proofs.Applied.{origins_same}
use Rattle.gh_core_lint.specs.Tables.{decl_name, pair_name, cons_with, flat, def_type, zipped}

among_plain : (os : List Origin) (o : Origin) → name_among (map Plain os) (Plain o) ≡ origin_among os o
among_plain [] o = refl
among_plain (a ∷ os) o = ap (cond (same_origin a o) true) (among_plain os o)

pub to_names : (os : List Origin) → AreDifferent os → NamesDiffer (map Plain os)
to_names [] h = tt
to_names (o ∷ os) h = (among_plain os o ∙ h.0, to_names os h.1)

pub to_origins : (os : List Origin) → NamesDiffer (map Plain os) → AreDifferent os
to_origins [] h = tt
to_origins (o ∷ os) h = (sym (among_plain os o) ∙ h.0, to_origins os h.1)

pub decl_names_are : (ds : List DeclData) → map Plain (map decl_origin ds) ≡ map decl_name ds
decl_names_are [] = refl
decl_names_are (d ∷ ds) = ap (λ l. Plain d.origin ∷ l) (decl_names_are ds)

with_names : (d : DeclData) (cs : List DeclCon) → map Plain (map con_origin cs) ≡ map pair_name (cons_with d cs)
with_names d [] = refl
with_names d (c ∷ cs) = ap (λ l. Plain c.origin ∷ l) (with_names d cs)

pub con_names_are : (ds : List DeclData) → map Plain (all_cons ds) ≡ map pair_name (flat ds)
con_names_are [] = refl
con_names_are (d ∷ ds) =
    map-append Plain (map con_origin d.constructors) (all_cons ds)
    ∙ (λ i. with_names d d.constructors i ++ con_names_are ds i)
    ∙ sym (map-append pair_name (cons_with d d.constructors) (flat ds))

pub globals_are : (ds : List Def) → zipped (map def_name ds) (map def_type ds) ≡ map def_global ds
globals_are [] = refl
globals_are (d ∷ ds) = ap (λ l. (d.name, def_type d) ∷ l) (globals_are ds)

-- the datatype of a constructor is the first of its name
self_space : (s : Space) → same_space s s ≡ true
self_space Values = refl
self_space Types = refl

all_true : (p q r : Bool) → p ≡ true → q ≡ true → r ≡ true → (p && q && r) ≡ true
all_true p q r e f g = (λ i. e i && f i && g i)

origin_self : (o : Origin) → same_origin o o ≡ true
origin_self o =
    all_true (o.«module».0 == o.«module».0) (same_space o.space o.space) (o.name.0 == o.name.0)
    (eq-eqb o.«module».0 o.«module».0 refl) (self_space o.space) (eq-eqb o.name.0 o.name.0 refl)

among_choice : {X : Type 0} (b : Bool) (x y : X) (p : Option X) (r : Bool) → cond b (Some x) p ≡ Some y → (p ≡ Some y → r ≡ true) → cond b true r ≡ true
among_choice true x y p r h k = refl
among_choice false x y p r h k = k h

found_among : (ds : List DeclData) (o : Origin) (e : DeclData) → decl_of ds o ≡ Some e → name_among (map decl_name ds) (Plain o) ≡ true
found_among [] o e h = absurd (cc)
found_among (d ∷ ds) o e h = among_choice (same_origin d.origin o) d e (decl_of ds o) (name_among (map decl_name ds) (Plain o)) h (found_among ds o e)

passed_over : {X : Type 0} (b : Bool) (x : X) (p : Option X) → (b ≡ true → ⊥) → cond b (Some x) p ≡ p
passed_over true x p h = absurd (h refl)
passed_over false x p h = refl

true_false : (b : Bool) → b ≡ true → b ≡ false → ⊥
true_false b h k = absurd (cc)

behind : (d : DeclData) (ds : List DeclData) (e : DeclData) → name_among (map decl_name ds) (Plain d.origin) ≡ false → decl_of ds e.origin ≡ Some e → decl_of (d ∷ ds) e.origin ≡ Some e
behind d ds e n h =
    passed_over (same_origin d.origin e.origin) d (decl_of ds e.origin)
    (λ t. let same = origins_same d.origin e.origin t in
    true_false (name_among (map decl_name ds) (Plain d.origin)) (found_among ds d.origin e (ap (decl_of ds) same ∙ h)) n)
    ∙ h

own_choice : (d : DeclData) (ds : List DeclData) (p : Option DeclCon) (rest : Option (DeclData × DeclCon)) (q : DeclData × DeclCon) → name_among (map decl_name ds) (Plain d.origin) ≡ false
    → with_decl d p rest ≡ Some q → (rest ≡ Some q → decl_of ds q.0.origin ≡ Some q.0) → decl_of (d ∷ ds) q.0.origin ≡ Some q.0
own_choice d ds None rest q n h k = behind d ds q.0 n (k h)
own_choice d ds (Some c) rest q n h k =
    let e : (d, c) ≡ q = cc in
    let f : d ≡ q.0 = (λ i. (e i).0) in
    subst (λ (x : DeclData). decl_of (d ∷ ds) x.origin ≡ Some x) f (ap (λ b. cond b (Some d) (decl_of ds d.origin)) (origin_self d.origin))

pub con_own : (ds : List DeclData) → NamesDiffer (map decl_name ds) → (c : Origin) (q : DeclData × DeclCon) → con_of ds c ≡ Some q → decl_of ds q.0.origin ≡ Some q.0
con_own [] h c q e = absurd (cc)
con_own (d ∷ ds) h c q e = own_choice d ds (con_in d.constructors c) (con_of ds c) q h.0 e (con_own ds h.1 c q)
