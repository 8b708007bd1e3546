-- Type terms for type names, and functions for functions, in a program's text.
use Rattle.std.specs.Prelude.{ℕ, suc, zero, List, [], ◌∷◌, cond, ◌==◌, Option, Some, None, unwrap_or}
use Rattle.gh_base.specs.declared.place.Origin.{Origin}
use Rattle.gh_kernel.specs.Terms.{TypeTerm, tycon, tyvar, tyapp, tyname, tylocal, Expr, var, top, con, lit, string, lam, app, lets, cases, call, redef, ann, whole, contents, convert, Exprs, no_expr, expr, Binds, no_bind, bind, Groups, no_group, group, Rows, no_row, row, Bodies, no_body, always, guarded, Table, no_entry, entry}

module _ {N : Type 0} where
  -- the type at a place of a list, from 0
  abbrev pub nth : List (TypeTerm N) → ℕ → Option (TypeTerm N)
  nth [] k = None
  nth (t ∷ ts) zero = Some t
  nth (t ∷ ts) (suc k) = nth ts k

  -- type variables replaced, all at once; one that is not listed stays
  abbrev pub type_at : (ℕ → Option (TypeTerm N)) → TypeTerm N → TypeTerm N
  type_at θ (tycon c) = tycon c
  type_at θ (tyvar v) = unwrap_or (θ v) (tyvar v)
  type_at θ (tyapp f t) = tyapp (type_at θ f) (type_at θ t)
  type_at θ (tyname k) = tyname k
  type_at θ (tylocal k table) = tylocal k table

  -- type names replaced; what a local name carries is closed
  abbrev pub named_at : (ℕ → Option (TypeTerm N)) → TypeTerm N → TypeTerm N
  named_at θ (tycon c) = tycon c
  named_at θ (tyvar v) = tyvar v
  named_at θ (tyapp f t) = tyapp (named_at θ f) (named_at θ t)
  named_at θ (tyname k) = unwrap_or (θ k) (tyname k)
  named_at θ (tylocal k table) = tylocal k table

  -- a redefinition hides its name
  abbrev pub but : ℕ → (ℕ → Option (TypeTerm N)) → ℕ → Option (TypeTerm N)
  but k θ j = cond (j == k) None (θ j)

  -- the type names of a text replaced by θ, and the functions that are called by ρ; redefinitions keep their functions,
  -- and what was put for a name keeps all
  abbrev mutual
    pub instance : (Origin → Origin) → Expr N → (ℕ → Option (TypeTerm N)) → Expr N
    instance ρ (var n x) θ = var n x
    instance ρ (top n x) θ = top n x
    instance ρ (con n c) θ = con n c
    instance ρ (lit n l) θ = lit n l
    instance ρ (string n cs) θ = string n cs
    instance ρ (lam n x body) θ = lam n x (instance ρ body θ)
    instance ρ (app n f e) θ = app n (instance ρ f θ) (instance ρ e θ)
    instance ρ (lets n gs body) θ = lets n (instance_groups ρ gs θ) (instance ρ body θ)
    instance ρ (cases n es rows) θ = cases n (instance_all ρ es θ) (instance_rows ρ rows θ)
    instance ρ (call n w t) θ = call n (ρ w) (named_at θ t)
    instance ρ (redef n k text table body) θ = redef n k text (instance_table ρ table θ) (instance ρ body (but k θ))
    instance ρ (ann n e s) θ = ann n (instance ρ e θ) s
    instance ρ (whole e) θ = whole e
    instance ρ (contents c e) θ = contents c (instance ρ e θ)
    instance ρ (convert n d h generic t) θ = convert n d h generic t

    pub instance_all : (Origin → Origin) → Exprs N → (ℕ → Option (TypeTerm N)) → Exprs N
    instance_all ρ no_expr θ = no_expr
    instance_all ρ (expr e rest) θ = expr (instance ρ e θ) (instance_all ρ rest θ)

    pub instance_binds : (Origin → Origin) → Binds N → (ℕ → Option (TypeTerm N)) → Binds N
    instance_binds ρ no_bind θ = no_bind
    instance_binds ρ (bind n x s e rest) θ = bind n x s (instance ρ e θ) (instance_binds ρ rest θ)

    pub instance_groups : (Origin → Origin) → Groups N → (ℕ → Option (TypeTerm N)) → Groups N
    instance_groups ρ no_group θ = no_group
    instance_groups ρ (group bs rest) θ = group (instance_binds ρ bs θ) (instance_groups ρ rest θ)

    pub instance_rows : (Origin → Origin) → Rows N → (ℕ → Option (TypeTerm N)) → Rows N
    instance_rows ρ no_row θ = no_row
    instance_rows ρ (row ps gs bs rest) θ = row ps (instance_groups ρ gs θ) (instance_bodies ρ bs θ) (instance_rows ρ rest θ)

    pub instance_bodies : (Origin → Origin) → Bodies N → (ℕ → Option (TypeTerm N)) → Bodies N
    instance_bodies ρ no_body θ = no_body
    instance_bodies ρ (always e rest) θ = always (instance ρ e θ) (instance_bodies ρ rest θ)
    instance_bodies ρ (guarded g e rest) θ = guarded (instance ρ g θ) (instance ρ e θ) (instance_bodies ρ rest θ)

    pub instance_table : (Origin → Origin) → Table N → (ℕ → Option (TypeTerm N)) → Table N
    instance_table ρ no_entry θ = no_entry
    instance_table ρ (entry w place e rest) θ = entry w place (instance ρ e θ) (instance_table ρ rest θ)
