-- The alternative with which a case goes on.
use Rattle.std.specs.Prelude.{◌≡◌, ℕ, List, [], ◌∷◌, length, Option, Some, None, Bool, false, ◌&&◌, ◌==◌}
use Rattle.gh_base.specs.declared.place.Origin.{Origin}
use Rattle.gh_core.specs.Terms.{Term, Literal, Alt, con_alt, lit_alt}
use Rattle.gh_core.specs.Closing.{Env, empty, without, is_in, close, close_alts, put_all}
use Rattle.gh_core.specs.Primitives.{same_origin}
use Rattle.gh_core.specs.Reading.{term_of}
use Rattle.gh_core.specs.Reduce.{Waiting, State, same_literal, of_case, demand, begin_case}
use Rattle.gh_machine.specs.Unload.{alts_in, scrutinee_in, contents_in}
use Rattle.gh_core.specs.declared.erased.ErasedTerm.{ErasedTerm}
use Rattle.gh_machine.specs.declared.pick.Picked.{Picked}
use Rattle.gh_machine.specs.declared.pick.Picked.TheVariants.{Bound, Plain, Nothing}
use Rattle.gh_machine.specs.declared.pick.Single.{Single}

-- an alternative for a constructor with so many arguments, and for a literal
abbrev pub fits_con : Alt → Origin → ℕ → Bool
fits_con (con_alt d xs t) c n = same_origin c d && (length xs == n)
fits_con (lit_alt l t) c n = false

abbrev pub fits_literal : Alt → Literal → Bool
fits_literal (con_alt d xs t) l = false
fits_literal (lit_alt m t) l = same_literal l m

abbrev pub alt_names : Alt → List ℕ
alt_names (con_alt d xs t) = xs
alt_names (lit_alt l t) = []

abbrev pub alt_body : Alt → Term
alt_body (con_alt d xs t) = t
alt_body (lit_alt l t) = t

-- with these arguments for the names
abbrev pub goes_on : Picked → Env → List Term → List Waiting → List ℕ → State → State
goes_on (Bound xs t) ρ es stack out s = demand (close (close (term_of t.now) (without ρ (is_in xs.now))) (put_all empty xs.now es)) stack out
goes_on (Plain t) ρ es stack out s = demand (close (term_of t.now) ρ) stack out
goes_on Nothing ρ es stack out s = s

-- with a term, if there is one
abbrev pub plain_on : Option ErasedTerm → Env → List Waiting → List ℕ → State → State
plain_on (Some t) ρ stack out s = demand (close (term_of t) ρ) stack out
plain_on None ρ stack out s = s

-- how many names this binds
abbrev pub picked_names : Picked → ℕ
picked_names (Bound xs t) = length xs.now
picked_names (Plain t) = 0
picked_names Nothing = 0

-- as many names as arguments
abbrev pub HasNames : ℕ → Picked → Type 0
HasNames n (Bound xs t) = length xs.now ≡ n
HasNames n (Plain t) = Unit {0}
HasNames n Nothing = Unit {0}

-- a case that demands its scrutinee
abbrev pub IsDemanding : List Origin → Term → Type 0
IsDemanding newtypes t = (ρ : Env) (u : Term) (stack : List Waiting) (out : List ℕ) → begin_case newtypes u (close_alts (alts_in t) ρ) stack out ≡ demand u (of_case (close_alts (alts_in t) ρ) ∷ stack) out

-- a case on a newtype, which goes on with this
abbrev pub IsOnNewtype : List Origin → Term → Single → Type 0
IsOnNewtype newtypes t one = (ρ : Env) (stack : List Waiting) (out : List ℕ)
    → begin_case newtypes (close (scrutinee_in t) ρ) (close_alts (alts_in t) ρ) stack out
    ≡ demand (close (close (term_of one.body.now) (without ρ (is_in (one.name ∷ [])))) (put_all empty (one.name ∷ []) (close (contents_in t) ρ ∷ []))) stack out
