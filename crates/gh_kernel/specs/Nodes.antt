-- The nodes of a program's text, and other notes at them. Nodes are numbered in post-order, children from left to right:
-- a node comes after its parts, a binding after its term.
use Rattle.std.specs.Prelude.{ℕ, suc, ◌+◌}
use Rattle.gh_kernel.specs.Terms.{Pat, pvar, pwild, pcon, plit, pstring, pas, Pats, no_pat, pat, TypeTerm, tycon, tyvar, tyapp, tyname, tylocal, Expr, var, top, con, lit, string, lam, app, lets, cases, call, redef, ann, whole, contents, convert, Exprs, no_expr, expr, Binds, no_bind, bind, Groups, no_group, group, Rows, no_row, row, Bodies, no_body, always, guarded, Table, no_entry, entry}

-- how many nodes there are
abbrev mutual
  pub pat_nodes : {N : Type 0} → Pat N → ℕ
  pat_nodes (pvar n x) = 1
  pat_nodes (pwild n) = 1
  pat_nodes (pcon n c ps) = suc (pats_nodes ps)
  pat_nodes (plit n l) = 1
  pat_nodes (pstring n cs) = 1
  pat_nodes (pas n x p) = suc (pat_nodes p)

  pub pats_nodes : {N : Type 0} → Pats N → ℕ
  pats_nodes no_pat = 0
  pats_nodes (pat p rest) = pat_nodes p + pats_nodes rest

module _ {N : Type 0} where
  abbrev mutual
    pub nodes : Expr N → ℕ
    nodes (var n x) = 1
    nodes (top n x) = 1
    nodes (con n c) = 1
    nodes (lit n l) = 1
    nodes (string n cs) = 1
    nodes (lam n x body) = suc (nodes body)
    nodes (app n f e) = suc (nodes f + nodes e)
    nodes (lets n gs body) = suc (groups_nodes gs + nodes body)
    nodes (cases n es rows) = suc (all_nodes es + rows_nodes rows)
    nodes (call n w t) = 1
    nodes (redef n k text table body) = suc (table_nodes table + nodes body)
    nodes (ann n e s) = suc (nodes e)
    nodes (whole e) = 0
    nodes (contents c e) = 0
    nodes (convert n d h generic t) = 0

    pub all_nodes : Exprs N → ℕ
    all_nodes no_expr = 0
    all_nodes (expr e rest) = nodes e + all_nodes rest

    pub binds_nodes : Binds N → ℕ
    binds_nodes no_bind = 0
    binds_nodes (bind n x s e rest) = suc (nodes e) + binds_nodes rest

    pub groups_nodes : Groups N → ℕ
    groups_nodes no_group = 0
    groups_nodes (group bs rest) = binds_nodes bs + groups_nodes rest

    pub rows_nodes : Rows N → ℕ
    rows_nodes no_row = 0
    rows_nodes (row ps gs bs rest) = pats_nodes ps + groups_nodes gs + bodies_nodes bs + rows_nodes rest

    pub bodies_nodes : Bodies N → ℕ
    bodies_nodes no_body = 0
    bodies_nodes (always e rest) = nodes e + bodies_nodes rest
    bodies_nodes (guarded g e rest) = nodes g + nodes e + bodies_nodes rest

    pub table_nodes : Table N → ℕ
    table_nodes no_entry = 0
    table_nodes (entry w place e rest) = nodes e + table_nodes rest

-- the same text with other notes
module _ {M N : Type 0} (f : M → N) where
  abbrev mutual
    pub noted_pat : Pat M → Pat N
    noted_pat (pvar n x) = pvar (f n) x
    noted_pat (pwild n) = pwild (f n)
    noted_pat (pcon n c ps) = pcon (f n) c (noted_pats ps)
    noted_pat (plit n l) = plit (f n) l
    noted_pat (pstring n cs) = pstring (f n) cs
    noted_pat (pas n x p) = pas (f n) x (noted_pat p)

    pub noted_pats : Pats M → Pats N
    noted_pats no_pat = no_pat
    noted_pats (pat p rest) = pat (noted_pat p) (noted_pats rest)

  abbrev mutual
    pub noted_type : TypeTerm M → TypeTerm N
    noted_type (tycon c) = tycon c
    noted_type (tyvar v) = tyvar v
    noted_type (tyapp s t) = tyapp (noted_type s) (noted_type t)
    noted_type (tyname k) = tyname k
    noted_type (tylocal k table) = tylocal k (noted_table table)

    pub noted : Expr M → Expr N
    noted (var n x) = var (f n) x
    noted (top n x) = top (f n) x
    noted (con n c) = con (f n) c
    noted (lit n l) = lit (f n) l
    noted (string n cs) = string (f n) cs
    noted (lam n x body) = lam (f n) x (noted body)
    noted (app n g e) = app (f n) (noted g) (noted e)
    noted (lets n gs body) = lets (f n) (noted_groups gs) (noted body)
    noted (cases n es rows) = cases (f n) (noted_all es) (noted_rows rows)
    noted (call n w t) = call (f n) w (noted_type t)
    noted (redef n k text table body) = redef (f n) k text (noted_table table) (noted body)
    noted (ann n e s) = ann (f n) (noted e) s
    noted (whole e) = whole (noted e)
    noted (contents c e) = contents c (noted e)
    noted (convert n d h generic t) = convert (f n) d h generic (noted_type t)

    pub noted_all : Exprs M → Exprs N
    noted_all no_expr = no_expr
    noted_all (expr e rest) = expr (noted e) (noted_all rest)

    pub noted_binds : Binds M → Binds N
    noted_binds no_bind = no_bind
    noted_binds (bind n x s e rest) = bind (f n) x s (noted e) (noted_binds rest)

    pub noted_groups : Groups M → Groups N
    noted_groups no_group = no_group
    noted_groups (group bs rest) = group (noted_binds bs) (noted_groups rest)

    pub noted_rows : Rows M → Rows N
    noted_rows no_row = no_row
    noted_rows (row ps gs bs rest) = row (noted_pats ps) (noted_groups gs) (noted_bodies bs) (noted_rows rest)

    pub noted_bodies : Bodies M → Bodies N
    noted_bodies no_body = no_body
    noted_bodies (always e rest) = always (noted e) (noted_bodies rest)
    noted_bodies (guarded g e rest) = guarded (noted g) (noted e) (noted_bodies rest)

    pub noted_table : Table M → Table N
    noted_table no_entry = no_entry
    noted_table (entry w place e rest) = entry w place (noted e) (noted_table rest)
