-- Terms with their types taken away, as plain trees.
use Rattle.gh_core.specs.Terms.{Term, var, glob, con, lit, int, char, string, prim, lam, app, letrec, cases, stop, Binds, no_bind, bind, Alt, con_alt, lit_alt, Alts, no_alt, else_to, alt}
use Rattle.gh_core.specs.Typing.{Code, a_var, a_global, a_con, an_int, a_char, a_string, a_prim, a_lam, an_app, a_tylam, a_tyapp, a_letrec, a_case, a_stop, Bindings, no_binding, binding, Branch, con_branch, int_branch, char_branch, Branches, no_branch, else_branch, branch}

abbrev mutual
  pub strip : Code → Term
  strip (a_var x) = var x
  strip (a_global name) = glob name
  strip (a_con c) = con c
  strip (an_int n) = lit (int n)
  strip (a_char c) = lit (char c)
  strip (a_string cs) = string cs
  strip (a_prim p place ty) = prim p place
  strip (a_lam x ty b) = lam x (strip b)
  strip (an_app f e) = app (strip f) (strip e)
  strip (a_tylam x k b) = strip b
  strip (a_tyapp f ty) = strip f
  strip (a_letrec bs b) = letrec (strip_bindings bs) (strip b)
  strip (a_case e ty bs) = cases (strip e) (strip_branches bs)
  strip (a_stop place ty) = stop place

  pub strip_bindings : Bindings → Binds
  strip_bindings no_binding = no_bind
  strip_bindings (binding x ty t rest) = bind x (strip t) (strip_bindings rest)

  pub strip_branch : Branch → Alt
  strip_branch (con_branch c xs t) = con_alt c xs (strip t)
  strip_branch (int_branch n t) = lit_alt (int n) (strip t)
  strip_branch (char_branch c t) = lit_alt (char c) (strip t)

  pub strip_branches : Branches → Alts
  strip_branches no_branch = no_alt
  strip_branches (else_branch t) = else_to (strip t)
  strip_branches (branch b rest) = alt (strip_branch b) (strip_branches rest)
