-- How large terms are: types are not counted.
use Rattle.std.specs.Prelude.{◌≤◌, ℕ, ◌+◌, ◌*◌, List, [], ◌∷◌, length, Option, Some, None}
use Rattle.gh_core.specs.declared.types.CoreType.{CoreType}
use Rattle.gh_core.specs.declared.terms.CoreTerm.{CoreTerm}
use Rattle.gh_core.specs.Typing.{Code, a_var, a_global, a_con, an_int, a_char, a_string, a_prim, a_lam, an_app, a_tylam, a_tyapp, a_letrec, a_case, a_stop, Bindings, no_binding, binding, Branch, con_branch, int_branch, char_branch, Branches, no_branch, else_branch, branch, code_of}
use Rattle.gh_kernel.specs.Nodes.{pats_nodes}
use Rattle.gh_kernel.specs.Reading.{patterns_of}
use Rattle.gh_match.specs.declared.rows.MatchRow.{MatchRow}

-- the nodes of a term, its alternatives and their names among them
abbrev mutual
  pub size : Code → ℕ
  size (a_var x) = 1
  size (a_global name) = 1
  size (a_con c) = 1
  size (an_int n) = 1
  size (a_char c) = 1
  size (a_string cs) = 1
  size (a_prim p place ty) = 1
  size (a_lam x ty b) = 1 + size b
  size (an_app f e) = 1 + size f + size e
  size (a_tylam x k b) = 1 + size b
  size (a_tyapp f ty) = 1 + size f
  size (a_letrec bs b) = 1 + bindings_size bs + size b
  size (a_case e ty bs) = 1 + size e + branches_size bs
  size (a_stop place ty) = 1

  pub bindings_size : Bindings → ℕ
  bindings_size no_binding = 0
  bindings_size (binding x ty t rest) = 1 + size t + bindings_size rest

  pub branch_size : Branch → ℕ
  branch_size (con_branch c xs t) = 1 + length xs + size t
  branch_size (int_branch n t) = 1 + size t
  branch_size (char_branch c t) = 1 + size t

  pub branches_size : Branches → ℕ
  branches_size no_branch = 0
  branches_size (else_branch t) = size t
  branches_size (branch b rest) = branch_size b + branches_size rest

abbrev pub group_size : List (ℕ × CoreType × CoreTerm) → ℕ
group_size [] = 0
group_size (b ∷ bs) = 1 + size (code_of b.2) + group_size bs

abbrev pub groups_size : List (List (ℕ × CoreType × CoreTerm)) → ℕ
groups_size [] = 0
groups_size (g ∷ gs) = 1 + group_size g + groups_size gs

abbrev pub guard_size : Option CoreTerm → ℕ
guard_size None = 0
guard_size (Some g) = 3 + size (code_of g)

abbrev pub bodies_size : List (Option CoreTerm × CoreTerm) → ℕ
bodies_size [] = 0
bodies_size (b ∷ bs) = guard_size b.0 + size (code_of b.1) + bodies_size bs

-- six for each node of a pattern, its groups, guards and bodies once, and four beside
abbrev pub row_size : MatchRow → ℕ
row_size r = 6 * pats_nodes (patterns_of r.patterns) + groups_size r.groups + bodies_size r.bodies + 4

abbrev pub rows_size : List MatchRow → ℕ
rows_size [] = 0
rows_size (r ∷ rs) = row_size r + rows_size rs

abbrev pub scrutinees_size : List CoreTerm → ℕ
scrutinees_size [] = 0
scrutinees_size (e ∷ es) = 1 + size (code_of e) + scrutinees_size es

-- what is made is linear in what is given: no body, guard, group or scrutinee stands twice
abbrev pub IsLinear : List CoreTerm → List MatchRow → CoreTerm → CoreTerm → Type 0
IsLinear es rows otherwise made = size (code_of made) ≤ size (code_of otherwise) + scrutinees_size es + rows_size rows + 3
