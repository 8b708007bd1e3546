-- Substitution of terms for local variables.
use Rattle.std.specs.Prelude.{ℕ, Bool, false, cond, ◌==◌, ◌||◌, Option, Some, None}
use Rattle.gh_kernel.specs.Terms.{Pat, pvar, pwild, pcon, plit, pstring, pas, Pats, no_pat, pat, Expr, var, top, con, lit, string, lam, app, lets, cases, call, redef, ann, whole, contents, convert, Exprs, no_expr, expr, Binds, no_bind, bind, Groups, no_group, group, Rows, no_row, row, Bodies, no_body, always, guarded, Table, no_entry, entry}

-- what stands for each local variable
abbrev pub Env : Type 0 → Type 0
Env N = ℕ → Option (Expr N)

-- the pattern binds the variable
abbrev mutual
  pub binds_pat : {N : Type 0} → Pat N → ℕ → Bool
  binds_pat (pvar n x) y = y == x
  binds_pat (pwild n) y = false
  binds_pat (pcon n c ps) y = binds_pats ps y
  binds_pat (plit n l) y = false
  binds_pat (pstring n cs) y = false
  binds_pat (pas n x p) y = y == x || binds_pat p y

  pub binds_pats : {N : Type 0} → Pats N → ℕ → Bool
  binds_pats no_pat y = false
  binds_pats (pat p rest) y = binds_pat p y || binds_pats rest y

abbrev pub binds_name : {N : Type 0} → Binds N → ℕ → Bool
binds_name no_bind y = false
binds_name (bind n x s e rest) y = y == x || binds_name rest y

abbrev pub groups_bind : {N : Type 0} → Groups N → ℕ → Bool
groups_bind no_group y = false
groups_bind (group bs rest) y = binds_name bs y || groups_bind rest y

module _ {N : Type 0} where
  abbrev pub empty : Env N
  empty y = None

  -- what stands for the variables that are not hidden
  abbrev pub without : Env N → (ℕ → Bool) → Env N
  without σ hidden y = cond (hidden y) None (σ y)

  -- a variable after the substitution: what is put for it is marked
  abbrev pub stands : N → Option (Expr N) → ℕ → Expr N
  stands n None x = var n x
  stands n (Some e) x = whole e

  -- each free variable replaced by what stands for it; a binder hides its variables
  abbrev mutual
    pub close : Expr N → Env N → Expr N
    close (var n x) σ = stands n (σ x) x
    close (top n x) σ = top n x
    close (con n c) σ = con n c
    close (lit n l) σ = lit n l
    close (string n cs) σ = string n cs
    close (lam n x body) σ = lam n x (close body (without σ (λ y. y == x)))
    close (app n f e) σ = app n (close f σ) (close e σ)
    close (lets n gs body) σ = lets n (close_groups gs (without σ (groups_bind gs))) (close body (without σ (groups_bind gs)))
    close (cases n es rows) σ = cases n (close_all es σ) (close_rows rows σ)
    close (call n w t) σ = call n w t
    close (redef n k text table body) σ = redef n k text (close_table table σ) (close body σ)
    close (ann n e s) σ = ann n (close e σ) s
    close (whole e) σ = whole e
    close (contents c e) σ = contents c (close e σ)
    close (convert n d h generic t) σ = convert n d h generic t

    pub close_all : Exprs N → Env N → Exprs N
    close_all no_expr σ = no_expr
    close_all (expr e rest) σ = expr (close e σ) (close_all rest σ)

    pub close_binds : Binds N → Env N → Binds N
    close_binds no_bind σ = no_bind
    close_binds (bind n x s e rest) σ = bind n x s (close e σ) (close_binds rest σ)

    pub close_groups : Groups N → Env N → Groups N
    close_groups no_group σ = no_group
    close_groups (group bs rest) σ = group (close_binds bs σ) (close_groups rest σ)

    pub close_rows : Rows N → Env N → Rows N
    close_rows no_row σ = no_row
    close_rows (row ps gs bs rest) σ =
        row ps (close_groups gs (without (without σ (binds_pats ps)) (groups_bind gs))) (close_bodies bs (without (without σ (binds_pats ps)) (groups_bind gs)))
        (close_rows rest σ)

    pub close_bodies : Bodies N → Env N → Bodies N
    close_bodies no_body σ = no_body
    close_bodies (always e rest) σ = always (close e σ) (close_bodies rest σ)
    close_bodies (guarded g e rest) σ = guarded (close g σ) (close e σ) (close_bodies rest σ)

    pub close_table : Table N → Env N → Table N
    close_table no_entry σ = no_entry
    close_table (entry w place e rest) σ = entry w place (close e σ) (close_table rest σ)

  -- one variable more
  abbrev pub put : Env N → ℕ → Expr N → Env N
  put σ x e y = cond (y == x) (Some e) (σ y)

  -- the variables of groups of bindings, each with its own term among all the groups
  abbrev pub put_binds : Groups N → Env N → Binds N → Env N
  put_binds all σ no_bind = σ
  put_binds all σ (bind n x s e rest) = put (put_binds all σ rest) x (lets n all e)

  abbrev pub put_groups : Groups N → Env N → Groups N → Env N
  put_groups all σ no_group = σ
  put_groups all σ (group bs rest) = put_binds all (put_groups all σ rest) bs
