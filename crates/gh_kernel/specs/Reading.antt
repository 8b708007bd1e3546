-- The terms that values of the program stand for.
use Rattle.std.specs.Prelude.{List, [], ◌∷◌, Option, Some, None}
use Rattle.gh_base.specs.declared.place.Origin.{Origin}
use Rattle.gh_base.specs.declared.place.Span.{Span}
use Rattle.gh_typeterm.specs.declared.ty.TyNode.{TyNode, fold-TyNode}
use Rattle.gh_typeterm.specs.declared.ty.TyNode.TheOpen.{TyNode-F}
use Rattle.gh_core.specs.Terms.{int, char}
use Rattle.gh_kernel.specs.declared.names.Lit.{Lit}
use Rattle.gh_kernel.specs.declared.names.Lit.TheVariants.{Int, Char, Str}
use Rattle.gh_kernel.specs.declared.names.VarName.{VarName}
use Rattle.gh_kernel.specs.declared.names.VarName.TheVariants.{Local, Top}
use Rattle.gh_kernel.specs.declared.patterns.Pattern.{Pattern, fold-Pattern}
use Rattle.gh_kernel.specs.declared.patterns.PatternNode.TheOpen.{Pattern-F, PatternNode-F}
use Rattle.gh_kernel.specs.declared.terms.Term.{Term, fold-Term}
use Rattle.gh_kernel.specs.declared.terms.TermNode.TheOpen.{LocalBinding-F, Row-F, Term-F, TermNode-F}
use Rattle.gh_kernel.specs.Terms.{Pat, pvar, pwild, pcon, plit, pstring, pas, Pats, no_pat, pat, TypeTerm, tycon, tyvar, tyapp, tyname, Expr, var, top, con, lit, string, lam, app, lets, cases, call, redef, ann, Exprs, no_expr, expr, Binds, no_bind, bind, Groups, no_group, group, Rows, no_row, row, Bodies, no_body, always, guarded, Table, no_entry, entry}

-- a type term of a program's text
abbrev pub type_step : {N : Type 0} → TyNode-F (TypeTerm N) → TypeTerm N
type_step (TyNode-F.Con c) = tycon c
type_step (TyNode-F.Var v) = tyvar v
type_step (TyNode-F.App f t) = tyapp f t
type_step (TyNode-F.Name k) = tyname k

abbrev pub type_of : {N : Type 0} → TyNode → TypeTerm N
type_of {N = N} = fold-TyNode (TypeTerm N) type_step

module _ {A : Type 0} where
  abbrev pub pats_of : List (Pat A) → Pats A
  pats_of [] = no_pat
  pats_of (p ∷ ps) = pat p (pats_of ps)

  abbrev pub literal_pattern : Lit → A → Pat A
  literal_pattern (Int i) n = plit n (int i)
  literal_pattern (Char c) n = plit n (char c)
  literal_pattern (Str cs) n = pstring n cs

  abbrev pub pattern_node : PatternNode-F A (A → Pat A) (Pat A) → A → Pat A
  pattern_node (PatternNode-F.PVar x) n = pvar n x
  pattern_node PatternNode-F.PWild n = pwild n
  pattern_node (PatternNode-F.PCon c ps) n = pcon n c (pats_of ps)
  pattern_node (PatternNode-F.PLit l) n = literal_pattern l n
  pattern_node (PatternNode-F.PAs x p) n = pas n x p

  abbrev pub pattern_read : Pattern-F A (A → Pat A) (Pat A) → Pat A
  pattern_read p = p.node p.note

  abbrev pub pattern_of : Pattern A → Pat A
  pattern_of = fold-Pattern A (A → Pat A) (Pat A) pattern_node pattern_read

  abbrev pub patterns_of : List (Pattern A) → Pats A
  patterns_of [] = no_pat
  patterns_of (p ∷ ps) = pat (pattern_of p) (patterns_of ps)

  abbrev pub exprs_of : List (Expr A) → Exprs A
  exprs_of [] = no_expr
  exprs_of (e ∷ es) = expr e (exprs_of es)

  -- a binding and a row are read as what they put before others
  abbrev pub binds_of : List (Binds A → Binds A) → Binds A
  binds_of [] = no_bind
  binds_of (b ∷ bs) = b (binds_of bs)

  abbrev pub groups_of : List (List (Binds A → Binds A)) → Groups A
  groups_of [] = no_group
  groups_of (g ∷ gs) = group (binds_of g) (groups_of gs)

  abbrev pub rows_of : List (Rows A → Rows A) → Rows A
  rows_of [] = no_row
  rows_of (r ∷ rs) = r (rows_of rs)

  abbrev pub body_of : Option (Expr A) → Expr A → Bodies A → Bodies A
  body_of None e rest = always e rest
  body_of (Some g) e rest = guarded g e rest

  abbrev pub bodies_of : List (Option (Expr A) × Expr A) → Bodies A
  bodies_of [] = no_body
  bodies_of (b ∷ bs) = body_of b.0 b.1 (bodies_of bs)

  abbrev pub table_of : List (Origin × Span × Expr A) → Table A
  table_of [] = no_entry
  table_of (w ∷ ws) = entry w.0 w.1 w.2 (table_of ws)

  abbrev pub variable : VarName → A → Expr A
  variable (Local x) n = var n x
  variable (Top x) n = top n x

  abbrev pub literal : Lit → A → Expr A
  literal (Int i) n = lit n (int i)
  literal (Char c) n = lit n (char c)
  literal (Str cs) n = string n cs

  abbrev pub term_node : TermNode-F A (A → Expr A) (Binds A → Binds A) (Rows A → Rows A) (Expr A) → A → Expr A
  term_node (TermNode-F.Var x) n = variable x n
  term_node (TermNode-F.Con c) n = con n c
  term_node (TermNode-F.Lit l) n = literal l n
  term_node (TermNode-F.Lam x e) n = lam n x e
  term_node (TermNode-F.App f e) n = app n f e
  term_node (TermNode-F.Let gs e) n = lets n (groups_of gs) e
  term_node (TermNode-F.Case es rows) n = cases n (exprs_of es) (rows_of rows)
  term_node (TermNode-F.Call w t) n = call n w (type_of t)
  term_node (TermNode-F.Redef k text table e) n = redef n k text (table_of table) e
  term_node (TermNode-F.Ann e s) n = ann n e s

  abbrev pub binding_read : LocalBinding-F A (A → Expr A) (Binds A → Binds A) (Rows A → Rows A) (Expr A) → Binds A → Binds A
  binding_read b rest = bind b.note b.name b.signature b.term rest

  abbrev pub row_read : Row-F A (A → Expr A) (Binds A → Binds A) (Rows A → Rows A) (Expr A) → Rows A → Rows A
  row_read r rest = row (patterns_of r.patterns) (groups_of r.groups) (bodies_of r.bodies) rest

  abbrev pub term_read : Term-F A (A → Expr A) (Binds A → Binds A) (Rows A → Rows A) (Expr A) → Expr A
  term_read t = t.node t.note

  -- the term that a value stands for
  abbrev pub term_of : Term A → Expr A
  term_of = fold-Term A (A → Expr A) (Binds A → Binds A) (Rows A → Rows A) (Expr A) term_node binding_read row_read term_read
