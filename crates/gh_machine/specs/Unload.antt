-- The terms and environments that a machine's parts stand for.
use Rattle.std.specs.Prelude.{◌≡◌, ◌≤◌, slice_get, ℕ, zero, suc, ◌+◌, List, [], ◌∷◌, ◌++◌, drop, Option, Some, None, slice_index_or, cond, ◌==◌, option_map}
use Rattle.std.specs.Fmt.{signed_decimal}
use Rattle.gh_core.specs.Terms.{Term, var, con, lit, char, string, letrec, cases, contents, Binds, no_bind, bind, Alts, no_alt, else_to, alt, con_alt, lit_alt}
use Rattle.gh_core.specs.Closing.{Env, empty, without, binds_name, close, close_binds, put, put_rec}
use Rattle.gh_core.specs.Reading.{term_of}
use Rattle.gh_core.specs.Primitives.{nil}
use Rattle.gh_base.specs.declared.place.Origin.{Origin}
use Rattle.gh_machine.specs.Values.{literal_of}
use Rattle.gh_machine.specs.declared.closure.TheConstants.{GROUP}
use Rattle.gh_machine.specs.declared.closure.Closure.{Closure}
use Rattle.gh_machine.specs.declared.closure.Closure.TheVariants.{Term as Code, Contents, Rest, Letter, Digits, Digit}
use Rattle.gh_machine.specs.declared.closure.Cell.{Cell}
use Rattle.gh_machine.specs.declared.closure.Demand.{Demand}
use Rattle.gh_machine.specs.declared.closure.Demand.TheVariants as d

-- the characters of a string
abbrev pub chars_in : Term → List ℕ
chars_in (string cs) = cs
chars_in t = []

-- the bindings of a letrec, and the term in which they stand
abbrev pub binds_in : Term → Binds
binds_in (letrec bs b) = bs
binds_in t = no_bind

abbrev pub body_in : Term → Term
body_in (letrec bs b) = b
body_in t = t

-- the scrutinee and the alternatives of a case
abbrev pub scrutinee_in : Term → Term
scrutinee_in (cases t alts) = t
scrutinee_in t = t

abbrev pub alts_in : Term → Alts
alts_in (cases t alts) = alts
alts_in t = no_alt

-- the constructor that the alternatives name first
abbrev pub first_con : Alts → Origin
first_con no_alt = nil
first_con (else_to t) = nil
first_con (alt (con_alt c xs t) more) = c
first_con (alt (lit_alt l t) more) = nil

-- what stands under the newtype's constructor that a case names first
abbrev pub contents_in : Term → Term
contents_in t = contents (first_con (alts_in t)) (scrutinee_in t)

abbrev pub bound_at : Binds → ℕ → Term → Term
bound_at no_bind i d = d
bound_at (bind x t rest) zero d = t
bound_at (bind x t rest) (suc i) d = bound_at rest i d

-- a binding of a letrec, in its bindings
abbrev pub binding_in : Term → ℕ → Term
binding_in t i = letrec (binds_in t) (bound_at (binds_in t) i (body_in t))

abbrev pub env_of : Closure → ℕ
env_of (Code e t) = e
env_of (Contents e t) = e
env_of (Rest at t) = 0
env_of (Letter at t) = 0
env_of (Digits at n) = 0
env_of (Digit at n) = 0

-- the program's term in a closure
abbrev pub code_in : Closure → Term
code_in (Code e t) = term_of t.now
code_in (Contents e t) = contents_in (term_of t.now)
code_in (Rest at t) = string (drop at (chars_in (term_of t.now)))
code_in (Letter at t) = lit (char (slice_index_or (chars_in (term_of t.now)) at 0))
code_in (Digits at n) = string (drop at (signed_decimal n))
code_in (Digit at n) = lit (char (slice_index_or (signed_decimal n) at 0))

-- the environments before each cell and after the last
abbrev pub env_in : List Env → ℕ → Env
env_in envs e = slice_index_or envs e empty

abbrev pub closed_in : List Env → Closure → Term
closed_in envs c = close (code_in c) (env_in envs (env_of c))

-- the names of a letrec's bindings, in an environment
abbrev pub group_binds : Binds → Env → Binds
group_binds bs ρ = close_binds bs (without ρ (binds_name bs))

abbrev pub group : Binds → Env → Env
group bs ρ = put_rec (group_binds bs ρ) ρ (group_binds bs ρ)

abbrev pub parent_of : Cell → ℕ
parent_of c = cond (c.parent == GROUP) 0 c.parent

abbrev pub after_cell : List Env → Cell → Env
after_cell envs c = cond (c.parent == GROUP) (group (binds_in (code_in c.value)) (env_in envs (env_of c.value))) (put (env_in envs (parent_of c)) c.name (closed_in envs c.value))

abbrev pub more_envs : List Env → List Cell → List Env
more_envs envs [] = envs
more_envs envs (c ∷ cs) = more_envs (envs ++ after_cell envs c ∷ []) cs

abbrev pub envs_of : List Cell → List Env
envs_of cells = more_envs (empty ∷ []) cells

abbrev pub demand_env : Demand → ℕ
demand_env (d.At c) = env_of c
demand_env (d.Binding e i t) = e
demand_env (d.Value l) = 0
demand_env (d.Con c) = 0

abbrev pub demand_code : Demand → Term
demand_code (d.At c) = code_in c
demand_code (d.Binding e i t) = binding_in (term_of t.now) i
demand_code (d.Value l) = lit (literal_of l)
demand_code (d.Con c) = con c

abbrev pub demanded_in : List Env → Demand → Term
demanded_in envs d = close (demand_code d) (env_in envs (demand_env d))

-- a variable that is left is not bound
abbrev pub IsFree : List Env → Demand → Type 0
IsFree envs (d.At (Code e t)) = (x : ℕ) → term_of t.now ≡ var x → env_in envs e x ≡ None
IsFree envs (d.At (Contents e t)) = Unit {0}
IsFree envs (d.At (Rest at t)) = Unit {0}
IsFree envs (d.At (Letter at t)) = Unit {0}
IsFree envs (d.At (Digits at n)) = Unit {0}
IsFree envs (d.At (Digit at n)) = Unit {0}
IsFree envs (d.Binding e i t) = Unit {0}
IsFree envs (d.Value l) = Unit {0}
IsFree envs (d.Con c) = Unit {0}

-- it is this variable in this environment
abbrev pub IsVariable : Demand → ℕ → ℕ → Type 0
IsVariable d x e = (demand_code d ≡ var x) × (demand_env d ≡ e)

-- each cell looks back alone
pub record IsFine (cells : List Cell) : Type 0 where
  pub parent : (i : ℕ) (c : Cell) → slice_get cells i ≡ Some c → parent_of c ≤ i
  pub value : (i : ℕ) (c : Cell) → slice_get cells i ≡ Some c → env_of c.value ≤ i

-- the first binding of a name
abbrev pub place_of : List (ℕ × Term) → ℕ → Option ℕ
place_of [] y = None
place_of (b ∷ bs) y = cond (y == b.0) (Some 0) (option_map (λ i. i + 1) (place_of bs y))
