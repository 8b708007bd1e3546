-- Substitution of terms for names.
use Rattle.std.specs.Prelude.{ℕ, List, [], ◌∷◌, Bool, false, cond, ◌==◌, ◌||◌, Option, Some, None}
use Rattle.gh_core.specs.Terms.{Term, var, glob, con, lit, string, prim, lam, app, letrec, cases, stop, whole, contents, Binds, no_bind, bind, Alt, con_alt, lit_alt, Alts, no_alt, else_to, alt}

-- what stands for each name
abbrev pub Env : Type 0
Env = ℕ → Option Term

abbrev pub empty : Env
empty y = None

-- the name is one of these
abbrev pub is_in : List ℕ → ℕ → Bool
is_in [] y = false
is_in (x ∷ xs) y = y == x || is_in xs y

-- the bindings bind the name
abbrev pub binds_name : Binds → ℕ → Bool
binds_name no_bind y = false
binds_name (bind x t rest) y = y == x || binds_name rest y

-- what stands for the names that are not hidden
abbrev pub without : Env → (ℕ → Bool) → Env
without σ hidden y = cond (hidden y) None (σ y)

-- a name after the substitution: what is put for it is marked
abbrev pub stands : Option Term → ℕ → Term
stands None x = var x
stands (Some t) x = whole t

-- the term with each free name replaced by what stands for it; a binder hides its names
abbrev mutual
  pub close : Term → Env → Term
  close (var x) σ = stands (σ x) x
  close (glob name) σ = glob name
  close (con c) σ = con c
  close (lit l) σ = lit l
  close (string cs) σ = string cs
  close (prim p place) σ = prim p place
  close (lam x body) σ = lam x (close body (without σ (λ y. y == x)))
  close (app f e) σ = app (close f σ) (close e σ)
  close (letrec bs body) σ = letrec (close_binds bs (without σ (binds_name bs))) (close body (without σ (binds_name bs)))
  close (cases t alts) σ = cases (close t σ) (close_alts alts σ)
  close (stop place) σ = stop place
  close (whole t) σ = whole t
  close (contents c t) σ = contents c (close t σ)

  pub close_binds : Binds → Env → Binds
  close_binds no_bind σ = no_bind
  close_binds (bind x t rest) σ = bind x (close t σ) (close_binds rest σ)

  pub close_alt : Alt → Env → Alt
  close_alt (con_alt c xs t) σ = con_alt c xs (close t (without σ (is_in xs)))
  close_alt (lit_alt l t) σ = lit_alt l (close t σ)

  pub close_alts : Alts → Env → Alts
  close_alts no_alt σ = no_alt
  close_alts (else_to t) σ = else_to (close t σ)
  close_alts (alt a rest) σ = alt (close_alt a σ) (close_alts rest σ)

-- one name more
abbrev pub put : Env → ℕ → Term → Env
put σ x t y = cond (y == x) (Some t) (σ y)

-- several names, each with its term; of equal names the first counts
abbrev pub put_all : Env → List ℕ → List Term → Env
put_all σ [] es = σ
put_all σ (x ∷ xs) [] = σ
put_all σ (x ∷ xs) (e ∷ es) = put (put_all σ xs es) x e

-- the names of bindings, each with its own term among all the bindings
abbrev pub put_rec : Binds → Env → Binds → Env
put_rec all σ no_bind = σ
put_rec all σ (bind x t rest) = put (put_rec all σ rest) x (letrec all t)
