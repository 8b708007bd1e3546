-- What is applied in a type, and to what.
use Rattle.std.proofs.Common.{◌≡◌, ◌++◌, ◌==◌, ℕ, Bool, true, false, cond, length, List, [], ◌∷◌, Option, Some, None, refl, sym, ap, subst, ◌∙◌, append_assoc, append-nil, inl, inr}
use Rattle.gh_base.specs.declared.place.TyCon.TheVariants as tycon
use Rattle.std.specs.Prelude.{◌&&◌}
use Rattle.std.proofs.lemmas.Bool.{eqb-true}
use Rattle.gh_base.specs.declared.names.NameId.{NameId}
use Rattle.gh_base.specs.declared.place.Origin.{Origin}
use Rattle.gh_base.specs.declared.place.Space.{Space}
use Rattle.gh_base.specs.declared.place.Space.TheVariants.{Values, Types}
use Rattle.gh_core.specs.Primitives.{same_origin, same_space}
use Rattle.gh_typeterm.specs.declared.decl.DeclCon.{DeclCon}
use Rattle.gh_typeterm.specs.declared.decl.DeclData.{DeclData}
use Rattle.gh_core.specs.SameType.{Nameless, bound, free, con, applied, forall, any}
use Rattle.gh_core.specs.Typing.{Program, IsData, applied_to, decl_of, con_of, fields_at, decl_origin}
use Rattle.gh_core_lint.specs.Data.{head_of, args_of, named_head}
use Rattle.gh_core_lint.specs.Faults.{AreFields}

pub some_is : {X : Type 0} (o : Option X) (x y : X) → o ≡ Some x → o ≡ Some y → x ≡ y
some_is o x y h k = cc

pub none_some : {X : Type 0} (o : Option X) (x : X) → o ≡ None → o ≡ Some x → ⊥
none_some o x h k = absurd (cc)

pub head_applied : (h : Nameless) (ts : List Nameless) → head_of (applied_to h ts) ≡ head_of h
head_applied h [] = refl
head_applied h (t ∷ ts) = head_applied (applied h t) ts

pub args_applied : (h : Nameless) (ts : List Nameless) → args_of (applied_to h ts) ≡ args_of h ++ ts
args_applied h [] = sym (append-nil (args_of h))
args_applied h (t ∷ ts) = args_applied (applied h t) ts ∙ append_assoc (args_of h) (t ∷ []) ts

pub applied_last : (h : Nameless) (ts : List Nameless) (x : Nameless) → applied_to h (ts ++ x ∷ []) ≡ applied (applied_to h ts) x
applied_last h [] x = refl
applied_last h (t ∷ ts) x = applied_last (applied h t) ts x

-- a type is its head applied to its arguments
pub reapplied : (t : Nameless) → applied_to (head_of t) (args_of t) ≡ t
reapplied (bound i) = refl
reapplied (free l) = refl
reapplied (con c) = refl
reapplied (applied f x) = applied_last (head_of f) (args_of f) x ∙ ap (λ g. applied g x) (reapplied f)
reapplied (forall k b) = refl
reapplied (any k) = refl

pub data_name : (decls : List DeclData) (s : Nameless) (d : DeclData) (ts : List Nameless) → IsData decls s d ts → named_head (head_of s) ≡ Some d.origin
data_name decls s d ts h = ap (λ t. named_head (head_of t)) h.type ∙ ap named_head (head_applied (con (tycon.Named d.origin)) ts)

pub data_args : (decls : List DeclData) (s : Nameless) (d : DeclData) (ts : List Nameless) → IsData decls s d ts → args_of s ≡ ts
data_args decls s d ts h = ap args_of h.type ∙ args_applied (con (tycon.Named d.origin)) ts

-- a type is of one datatype, at one list of types
pub data_same : (decls : List DeclData) (s : Nameless) (d e : DeclData) (ts us : List Nameless) → IsData decls s d ts → IsData decls s e us → (d ≡ e) × (ts ≡ us)
data_same decls s d e ts us h k =
    let o : d.origin ≡ e.origin = some_is (named_head (head_of s)) d.origin e.origin (data_name decls s d ts h) (data_name decls s e us k) in
    (some_is (decl_of decls d.origin) d e h.there (ap (decl_of decls) o ∙ k.there), sym (data_args decls s d ts h) ∙ data_args decls s e us k)

pub one_fields : (p : Program) (s : Nameless) (c : Origin) (us vs : List Nameless) → AreFields p s c us → AreFields p s c vs → us ≡ vs
one_fields p s c us vs (inl h) (inl k) =
    let q : h.0 ≡ k.0 = some_is (con_of p.decls c) h.0 k.0 h.2 k.2 in
    let t : h.1 ≡ k.1 = (data_same p.decls s h.0.0 h.0.0 h.1 k.1 h.3 (subst (λ (r : DeclData × DeclCon). IsData p.decls s r.0 k.1) (sym q) k.3)).1 in
    h.4 ∙ (λ i. fields_at (q i) (t i)) ∙ sym k.4
one_fields p s c us vs (inl h) (inr k) = absurd (k.0 h.0 h.1 h.2 h.3)
one_fields p s c us vs (inr h) (inl k) = absurd (h.0 k.0 k.1 k.2 k.3)
one_fields p s c us vs (inr h) (inr k) = h.1 ∙ sym k.1

abbrev decl_count : DeclData → ℕ
decl_count d = length d.params

named_is : (t : Nameless) (o : Origin) → named_head t ≡ Some o → t ≡ con (tycon.Named o)
named_is (bound i) o h = absurd (cc)
named_is (free l) o h = absurd (cc)
named_is (con (tycon.Named a)) o h = let e : a ≡ o = cc in ap (λ b. con (tycon.Named b)) e
named_is (con tycon.Arrow) o h = absurd (cc)
named_is (con tycon.Int) o h = absurd (cc)
named_is (con tycon.Char) o h = absurd (cc)
named_is (con (tycon.ConOf a)) o h = absurd (cc)
named_is (applied f x) o h = absurd (cc)
named_is (forall k b) o h = absurd (cc)
named_is (any k) o h = absurd (cc)

same_spaces : (a b : Space) → same_space a b ≡ true → a ≡ b
same_spaces Values Values h = refl
same_spaces Values Types h = absurd (cc)
same_spaces Types Values h = absurd (cc)
same_spaces Types Types h = refl

and_left : (a b : Bool) → (a && b) ≡ true → a ≡ true
and_left true b h = refl
and_left false b h = absurd (cc)

and_right : (a b : Bool) → (a && b) ≡ true → b ≡ true
and_right true b h = h
and_right false b h = absurd (cc)

grouped : (p q r : Bool) → (p && (q && r)) ≡ (p && q && r)
grouped true q r = refl
grouped false q r = refl

ids_same : (a b : NameId) → (a.0 == b.0) ≡ true → a ≡ b
ids_same a b h = let f : ℕ → NameId = λ n. record { 0 = n } in ap f (eqb-true a.0 b.0 h)

-- names that are told to be one are one
pub origins_same : (a b : Origin) → same_origin a b ≡ true → a ≡ b
origins_same a b h =
    let all = grouped (a.«module».0 == b.«module».0) (same_space a.space b.space) (a.name.0 == b.name.0) ∙ h in
    let m = and_left (a.«module».0 == b.«module».0) (same_space a.space b.space && (a.name.0 == b.name.0)) all in
    let r = and_right (a.«module».0 == b.«module».0) (same_space a.space b.space && (a.name.0 == b.name.0)) all in
    let s = same_spaces a.space b.space (and_left (same_space a.space b.space) (a.name.0 == b.name.0) r) in
    let n = ids_same a.name b.name (and_right (same_space a.space b.space) (a.name.0 == b.name.0) r) in
    let k = ids_same a.«module» b.«module» m in
    λ i. record { «module» = k i; space = s i; name = n i }

named_choice : (b : Bool) (d e : DeclData) (o : Origin) (p : Option DeclData) → same_origin d.origin o ≡ b → cond b (Some d) p ≡ Some e → (p ≡ Some e → e.origin ≡ o) → e.origin ≡ o
named_choice true d e o p t h k = let is : d ≡ e = cc in ap decl_origin (sym is) ∙ origins_same d.origin o t
named_choice false d e o p t h k = k h

-- the datatype that is found has the name
pub decl_named : (ds : List DeclData) (o : Origin) (e : DeclData) → decl_of ds o ≡ Some e → e.origin ≡ o
decl_named [] o e h = absurd (cc)
decl_named (d ∷ ds) o e h = named_choice (same_origin d.origin o) d e o (decl_of ds o) refl h (decl_named ds o e)

pub data_made : (decls : List DeclData) (s : Nameless) (o : Origin) (d : DeclData) (ts : List Nameless) → named_head (head_of s) ≡ Some o → decl_of decls o ≡ Some d → args_of s ≡ ts
    → length ts ≡ length d.params → IsData decls s d ts
data_made decls s o d ts h f a l =
    let e : d.origin ≡ o = decl_named decls o d f in
    record {
      there = ap (decl_of decls) e ∙ f;
      type = sym (reapplied s) ∙ (λ i. applied_to (named_is (head_of s) o h i) (a i)) ∙ ap (λ n. applied_to (con (tycon.Named n)) ts) (sym e);
      whole = l;
    }

pub data_unnamed : (decls : List DeclData) (s : Nameless) → named_head (head_of s) ≡ None → (d : DeclData) (ts : List Nameless) → IsData decls s d ts → ⊥
data_unnamed decls s h d ts k = none_some (named_head (head_of s)) d.origin h (data_name decls s d ts k)

pub data_undeclared : (decls : List DeclData) (s : Nameless) (o : Origin) → named_head (head_of s) ≡ Some o → decl_of decls o ≡ None → (d : DeclData) (ts : List Nameless) → IsData decls s d ts → ⊥
data_undeclared decls s o h n d ts k =
    let e : o ≡ d.origin = some_is (named_head (head_of s)) o d.origin h (data_name decls s d ts k) in
    none_some (decl_of decls o) d n (ap (decl_of decls) e ∙ k.there)

pub data_many : (decls : List DeclData) (s : Nameless) (o : Origin) (c : DeclData) (us : List Nameless) → named_head (head_of s) ≡ Some o → decl_of decls o ≡ Some c → args_of s ≡ us
    → (length us ≡ length c.params → ⊥) → (d : DeclData) (ts : List Nameless) → IsData decls s d ts → ⊥
data_many decls s o c us h f a l d ts k =
    let e : o ≡ d.origin = some_is (named_head (head_of s)) o d.origin h (data_name decls s d ts k) in
    let is : c ≡ d = some_is (decl_of decls o) c d f (ap (decl_of decls) e ∙ k.there) in
    l (ap length (sym a ∙ data_args decls s d ts k) ∙ k.whole ∙ ap decl_count (sym is))
