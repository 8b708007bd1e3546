-- Expressions of the source, and substitution of expressions for variables.
use Rattle.std.specs.Prelude.{ℕ, List, Bool, false, cond, ◌==◌, ◌||◌, Option, Some, None}
use Rattle.gh_base.specs.declared.place.Origin.{Origin}
use Rattle.gh_base.specs.declared.place.Span.{Span}

mutual
  pub data Pattern : Type 0 where
    pattern_var : (x : ℕ) → Pattern
    pattern_con : (c : Origin) (ps : Patterns) → Pattern

  pub data Patterns : Type 0 where
    no_pattern : Patterns
    and_pattern : (p : Pattern) (ps : Patterns) → Patterns

mutual
  pub data Expression : Type 0 where
    var : (x : ℕ) → Expression
    -- a name of the top level
    top : (name : Origin) → Expression
    con : (c : Origin) → Expression
    char : (c : ℕ) → Expression
    -- the list of its characters
    string : (cs : List ℕ) → Expression
    lam : (x : ℕ) (body : Expression) → Expression
    app : (f e : Expression) → Expression
    -- the first row whose patterns match these arguments; the place is the binding's or the case's
    cases : (place : Span) (es : Arguments) (rows : Rows) → Expression
    -- an expression that was put for a variable: no substitution enters it, so no variable in it is ever captured
    whole : (e : Expression) → Expression

  pub data Arguments : Type 0 where
    no_argument : Arguments
    and_argument : (e : Expression) (es : Arguments) → Arguments

  pub data Rows : Type 0 where
    no_row : Rows
    row : (ps : Patterns) (body : Expression) (rest : Rows) → Rows

-- the pattern binds the variable
abbrev mutual
  pub binds : Pattern → ℕ → Bool
  binds (pattern_var x) y = y == x
  binds (pattern_con c ps) y = all_bind ps y

  pub all_bind : Patterns → ℕ → Bool
  all_bind no_pattern y = false
  all_bind (and_pattern p ps) y = binds p y || all_bind ps y

-- what stands for each variable
abbrev pub Env : Type 0
Env = ℕ → Option Expression

abbrev pub empty : Env
empty y = None

-- one variable more
abbrev pub put : Env → ℕ → Expression → Env
put σ x e y = cond (y == x) (Some e) (σ y)

-- what stands for the variables that are not hidden
abbrev pub without : Env → (ℕ → Bool) → Env
without σ hidden y = cond (hidden y) None (σ y)

-- a variable after the substitution: what is put for it is marked
abbrev pub stands : Option Expression → ℕ → Expression
stands None x = var x
stands (Some e) x = whole e

-- the expression with each free variable replaced by what stands for it; a binder hides its variables
abbrev mutual
  pub close : Expression → Env → Expression
  close (var x) σ = stands (σ x) x
  close (top name) σ = top name
  close (con c) σ = con c
  close (char c) σ = char c
  close (string cs) σ = string cs
  close (lam x body) σ = lam x (close body (without σ (λ y. y == x)))
  close (app f e) σ = app (close f σ) (close e σ)
  close (cases place es rows) σ = cases place (close_all es σ) (close_rows rows σ)
  close (whole e) σ = whole e

  pub close_all : Arguments → Env → Arguments
  close_all no_argument σ = no_argument
  close_all (and_argument e es) σ = and_argument (close e σ) (close_all es σ)

  pub close_rows : Rows → Env → Rows
  close_rows no_row σ = no_row
  close_rows (row ps body rest) σ = row ps (close body (without σ (all_bind ps))) (close_rows rest σ)

-- an expression that was put for a variable is evaluated as it is
abbrev pub opened : Expression → Expression
opened (whole e) = opened e
opened (var x) = var x
opened (top name) = top name
opened (con c) = con c
opened (char c) = char c
opened (string cs) = string cs
opened (lam x body) = lam x body
opened (app f e) = app f e
opened (cases place es rows) = cases place es rows
