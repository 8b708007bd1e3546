-- Terms of core without types, as the definition of reduction reads them.
use Rattle.std.specs.Prelude.{ℕ, ℤ, List}
use Rattle.gh_base.specs.declared.place.Origin.{Origin}
use Rattle.gh_base.specs.declared.place.Span.{Span}
use Rattle.gh_core.specs.declared.terms.CoreName.{CoreName}

-- an integer of 64 bits or a character
pub data Literal : Type 0 where
  int : (n : ℤ) → Literal
  char : (c : ℕ) → Literal

mutual
  pub data Term : Type 0 where
    var : (x : ℕ) → Term
    glob : (name : CoreName) → Term
    con : (c : Origin) → Term
    lit : (l : Literal) → Term
    -- the list of its characters
    string : (cs : List ℕ) → Term
    prim : (p : Origin) (place : Span) → Term
    lam : (x : ℕ) (body : Term) → Term
    app : (f e : Term) → Term
    letrec : (binds : Binds) (body : Term) → Term
    cases : (scrutinee : Term) (alts : Alts) → Term
    stop : (place : Span) → Term
    -- a term that was put for a name: no substitution enters it, so no name in it is ever captured
    whole : (t : Term) → Term
    -- what stands under this constructor of a newtype in the term
    contents : (c : Origin) (t : Term) → Term

  pub data Binds : Type 0 where
    no_bind : Binds
    bind : (x : ℕ) (t : Term) (rest : Binds) → Binds

  pub data Alt : Type 0 where
    con_alt : (c : Origin) (xs : List ℕ) (t : Term) → Alt
    lit_alt : (l : Literal) (t : Term) → Alt

  pub data Alts : Type 0 where
    no_alt : Alts
    else_to : (t : Term) → Alts
    alt : (a : Alt) (rest : Alts) → Alts
