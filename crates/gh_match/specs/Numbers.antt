-- The first number above all that stand in rows: of variables and of binders alike.
use Rattle.std.specs.Prelude.{ℕ, suc, max, List, [], ◌∷◌, Option, Some, None}
use Rattle.gh_core.specs.declared.types.CoreType.{CoreType}
use Rattle.gh_core.specs.declared.terms.CoreTerm.{CoreTerm}
use Rattle.gh_core.specs.Typing.{Code, a_var, a_global, a_con, an_int, a_char, a_string, a_prim, a_lam, an_app, a_tylam, a_tyapp, a_letrec, a_case, a_stop, Bindings, no_binding, binding, Branch, con_branch, int_branch, char_branch, Branches, no_branch, else_branch, branch, code_of}
use Rattle.gh_kernel.specs.declared.signatures.Note.{Note}
use Rattle.gh_kernel.specs.Reading.{patterns_of}
use Rattle.gh_kernel.specs.Terms.{Pat, pvar, pwild, pcon, plit, pstring, pas, Pats, no_pat, pat}
use Rattle.gh_match.specs.declared.rows.MatchRow.{MatchRow}

abbrev pub names_above : List ℕ → ℕ
names_above [] = 0
names_above (x ∷ xs) = max (suc x) (names_above xs)

-- of a term
abbrev mutual
  pub above : Code → ℕ
  above (a_var x) = suc x
  above (a_global name) = 0
  above (a_con c) = 0
  above (an_int n) = 0
  above (a_char c) = 0
  above (a_string cs) = 0
  above (a_prim p place ty) = 0
  above (a_lam x ty b) = max (suc x) (above b)
  above (an_app f e) = max (above f) (above e)
  above (a_tylam x k b) = above b
  above (a_tyapp f ty) = above f
  above (a_letrec bs b) = above_bindings bs (above b)
  above (a_case e ty bs) = max (above e) (above_branches bs)
  above (a_stop place ty) = 0

  -- beside what they stand round
  pub above_bindings : Bindings → ℕ → ℕ
  above_bindings no_binding last = last
  above_bindings (binding x ty t rest) last = above_bindings rest (max last (max (suc x) (above t)))

  pub above_branch : Branch → ℕ
  above_branch (con_branch c xs t) = max (names_above xs) (above t)
  above_branch (int_branch n t) = above t
  above_branch (char_branch c t) = above t

  pub above_branches : Branches → ℕ
  above_branches no_branch = 0
  above_branches (else_branch t) = above t
  above_branches (branch b rest) = max (above_branch b) (above_branches rest)

-- of the `else` of a case
abbrev pub else_above : Option CoreTerm → ℕ
else_above None = 0
else_above (Some t) = above (code_of t)

-- of the alternatives of a case, and then of its `else`
abbrev pub alternatives_above : List Branch → ℕ → ℕ
alternatives_above [] last = last
alternatives_above (b ∷ bs) last = max (above_branch b) (alternatives_above bs last)

-- of patterns
abbrev mutual
  pub pat_above : {N : Type 0} → Pat N → ℕ
  pat_above (pvar n x) = suc x
  pat_above (pwild n) = 0
  pat_above (pcon n c ps) = pats_above ps
  pat_above (plit n l) = 0
  pat_above (pstring n cs) = 0
  pat_above (pas n x p) = max (suc x) (pat_above p)

  pub pats_above : {N : Type 0} → Pats N → ℕ
  pats_above no_pat = 0
  pats_above (pat p rest) = max (pat_above p) (pats_above rest)

-- of a group
abbrev pub group_above : List (ℕ × CoreType × CoreTerm) → ℕ
group_above [] = 0
group_above (b ∷ bs) = max (max (suc b.0) (above (code_of b.2))) (group_above bs)

abbrev pub groups_above : List (List (ℕ × CoreType × CoreTerm)) → ℕ
groups_above [] = 0
groups_above (g ∷ gs) = max (group_above g) (groups_above gs)

-- of guards and bodies
abbrev pub guard_above : Option CoreTerm → ℕ
guard_above None = 0
guard_above (Some g) = above (code_of g)

abbrev pub bodies_above : List (Option CoreTerm × CoreTerm) → ℕ
bodies_above [] = 0
bodies_above (b ∷ bs) = max (max (guard_above b.0) (above (code_of b.1))) (bodies_above bs)

-- of rows
abbrev pub row_above : MatchRow → ℕ
row_above r = max (pats_above (patterns_of r.patterns)) (max (groups_above r.groups) (bodies_above r.bodies))

abbrev pub rows_above : List MatchRow → ℕ
rows_above [] = 0
rows_above (r ∷ rs) = max (row_above r) (rows_above rs)

-- the first number that is above all those in rows and in what comes after them
abbrev pub first_made : List MatchRow → Code → ℕ
first_made rows otherwise = max (rows_above rows) (above otherwise)
