-- The terms of core that rows become, with their types. It is a view of what the code makes: the contract says what these terms do.
use Rattle.std.specs.Prelude.{◌≡◌, ◌≤◌, ℕ, zero, suc, ◌+◌, max, List, [], ◌∷◌, ◌++◌, length, Option, Some, None}
use Rattle.gh_base.specs.declared.fixed.TheConstants.{TRUE, FALSE}
use Rattle.gh_typeterm.specs.declared.kind.Kind.TheVariants.{Star}
use Rattle.gh_typeterm.specs.declared.ty.TyNode.{TyNode, fold-TyNode}
use Rattle.gh_typeterm.specs.declared.ty.TyNode.TheOpen.{TyNode-F}
use Rattle.gh_core.specs.declared.types.CoreType.{CoreType}
use Rattle.gh_core.specs.declared.terms.CoreAlt.{CoreAlt, fold-CoreAlt}
use Rattle.gh_core.specs.declared.terms.CoreTerm.{CoreTerm}
use Rattle.gh_core.specs.Primitives.{prelude_value}
use Rattle.gh_core.specs.SameType.{Nameless, free, con, applied, any}
use Rattle.gh_core.specs.Terms.{int, char}
use Rattle.gh_core.specs.Typing.{Code, a_var, a_lam, an_app, a_letrec, a_case, Bindings, no_binding, binding, Branch, branch_step, code_step, con_branch, int_branch, char_branch, Branches, no_branch, else_branch, branch, code_of, type_of}
use Rattle.gh_kernel.specs.declared.names.Lit.{Lit}
use Rattle.gh_kernel.specs.declared.names.Lit.TheVariants as lit
use Rattle.gh_kernel.specs.declared.patterns.Pattern.{Pattern, out-Pattern}
use Rattle.gh_kernel.specs.declared.signatures.Note.{Note}
use Rattle.gh_kernel.specs.Reading.{patterns_of}
use Rattle.gh_kernel.specs.Terms.{Pat, pvar, pwild, pcon, plit, pstring, pas, Pats, no_pat, pat}
use Rattle.gh_match.specs.declared.rows.MatchRow.{MatchRow}
use Rattle.gh_match.specs.declared.tests.Test.{Test}
use Rattle.gh_match.specs.Numbers.{first_made}
use Rattle.gh_match.specs.declared.tests.Test.TheVariants.{Bind, Built, Integer, Character, Never}

-- types -------------------------------------------------------------------------------------------------------------------

abbrev pub noted_step : TyNode-F Nameless → Nameless
noted_step (TyNode-F.Con c) = con c
noted_step (TyNode-F.Var x) = free x
noted_step (TyNode-F.App f t) = applied f t
noted_step (TyNode-F.Name n) = any Star

-- a noted type, whose variables keep their numbers
abbrev pub noted_type : TyNode → Nameless
noted_type = fold-TyNode Nameless noted_step

-- patterns ----------------------------------------------------------------------------------------------------------------

abbrev pub numbers : ℕ → ℕ → List ℕ
numbers m zero = []
numbers m (suc n) = m ∷ numbers (suc m) n

abbrev pub literal_test : Lit → ℕ → Test
literal_test (lit.Int i) v = Integer i v
literal_test (lit.Char c) v = Character c v
literal_test (lit.Str cs) v = Never

-- how many patterns there are
abbrev pub width : Pats Note → ℕ
width no_pat = 0
width (pat p ps) = suc (width ps)

-- how many numbers a pattern takes
abbrev mutual
  pub gain : Pat Note → ℕ
  gain (pvar n x) = 0
  gain (pwild n) = 0
  gain (pcon n c ps) = width ps + gains ps
  gain (plit n l) = 0
  gain (pstring n cs) = 0
  gain (pas n x p) = gain p

  pub gains : Pats Note → ℕ
  gains no_pat = 0
  gains (pat p ps) = gain p + gains ps

-- what is done for the nodes of a pattern that meets v, where m and above are free
abbrev mutual
  pub tests_pat : Pat Note → ℕ → ℕ → List Test
  tests_pat (pvar n x) v m = Bind x n.ty v ∷ []
  tests_pat (pwild n) v m = []
  tests_pat (pcon n c ps) v m = Built c (numbers m (width ps)) v ∷ tests_pats ps m (m + width ps)
  tests_pat (plit n (int i)) v m = Integer i v ∷ []
  tests_pat (plit n (char c)) v m = Character c v ∷ []
  tests_pat (pstring n cs) v m = Never ∷ []
  tests_pat (pas n x p) v m = Bind x n.ty v ∷ tests_pat p v m

  pub tests_pats : Pats Note → ℕ → ℕ → List Test
  tests_pats no_pat v m = []
  tests_pats (pat p ps) v m = tests_pat p v m ++ tests_pats ps (v + 1) (m + gain p)

-- one of these round what follows, at the answer's type; where it fails, k goes on
abbrev pub wrapped : Nameless → ℕ → Test → Code → Code
wrapped ty k (Bind x t v) done = an_app (a_lam x (noted_type t) done) (a_var v)
wrapped ty k (Built c xs v) done = a_case (a_var v) ty (branch (con_branch c xs done) (else_branch (a_var k)))
wrapped ty k (Integer i v) done = a_case (a_var v) ty (branch (int_branch i done) (else_branch (a_var k)))
wrapped ty k (Character c v) done = a_case (a_var v) ty (branch (char_branch c done) (else_branch (a_var k)))
wrapped ty k Never done = a_var k

abbrev pub all_wrapped : Nameless → ℕ → List Test → Code → Code
all_wrapped ty k [] done = done
all_wrapped ty k (t ∷ ts) done = wrapped ty k t (all_wrapped ty k ts done)

-- the branch of an alternative
abbrev pub branch_of : CoreAlt → Branch
branch_of = fold-CoreAlt Branch Code branch_step code_step

-- a row -------------------------------------------------------------------------------------------------------------------

abbrev pub group_code : List (ℕ × CoreType × CoreTerm) → Bindings
group_code [] = no_binding
group_code (b ∷ bs) = binding b.0 (type_of b.1) (code_of b.2) (group_code bs)

abbrev pub nested_code : List (List (ℕ × CoreType × CoreTerm)) → Code → Code
nested_code [] e = e
nested_code (g ∷ gs) e = a_letrec (group_code g) (nested_code gs e)

abbrev pub letrecs_code : List (List (ℕ × CoreType × CoreTerm)) → Code → Code
letrecs_code [] e = a_letrec no_binding e
letrecs_code (g ∷ gs) e = a_letrec (group_code g) (nested_code gs e)

abbrev pub truth_branches : Code → Code → Branches
truth_branches t u = branch (con_branch (prelude_value TRUE) [] t) (branch (con_branch (prelude_value FALSE) [] u) no_branch)

-- a body with its guard, or without one, before what comes after it
abbrev pub body_code : Nameless → Option CoreTerm → Code → Code → Code
body_code ty None e rest = e
body_code ty (Some g) e rest = a_case (code_of g) ty (truth_branches e rest)

abbrev pub bodies_code : Nameless → ℕ → List (Option CoreTerm × CoreTerm) → Code
bodies_code ty k [] = a_var k
bodies_code ty k (b ∷ bs) = body_code ty b.0 (code_of b.1) (bodies_code ty k bs)

-- a row on the variables from v on
abbrev pub row_code : Nameless → ℕ → ℕ → ℕ → MatchRow → Code
row_code ty v m k r = all_wrapped ty k (tests_pats (patterns_of r.patterns) v m) (letrecs_code r.groups (bodies_code ty k r.bodies))

-- rows --------------------------------------------------------------------------------------------------------------------

-- rows as the leaves of a tree
pub data Tree : Type 0 where
  leaf : (r : MatchRow) → Tree
  node : (front back : Tree) → Tree

abbrev pub leaves : Tree → List MatchRow
leaves (leaf r) = r ∷ []
leaves (node front back) = leaves front ++ leaves back

abbrev pub tall : Tree → ℕ
tall (leaf r) = 0
tall (node front back) = suc (max (tall front) (tall back))

-- what comes after the front half is bound to the first free number
abbrev pub tree_code : Nameless → ℕ → Tree → ℕ → ℕ → Code
tree_code ty v (leaf r) m k = row_code ty v m k r
tree_code ty v (node front back) m k = an_app (a_lam m ty (tree_code ty v front (m + 1) m)) (tree_code ty v back m k)

-- a function of variables from this one on, each of the type of its pattern
abbrev pub functions : ℕ → List (Pattern Note) → Code → Code
functions v [] b = b
functions v (p ∷ ps) b = a_lam v (noted_type (out-Pattern Note p).note.ty) (functions (v + 1) ps b)

abbrev pub applied_code : Code → List Code → Code
applied_code f [] = f
applied_code f (e ∷ es) = applied_code (an_app f e) es

-- rows in a tree on these scrutinees, the first row having these patterns; the numbers that are made begin with `first`
abbrev pub match_code : Nameless → ℕ → List Code → List (Pattern Note) → Tree → Code → Code
match_code ty first es ps t otherwise =
    applied_code (an_app (a_lam first ty (functions (first + 1) ps (tree_code ty (first + 1) t (first + 1 + length es) first))) (a_letrec no_binding otherwise)) es

-- something holds of a tree of these rows, of at most so many levels
abbrev pub InHalves : List MatchRow → ℕ → (Tree → Type 0) → Type 0
InHalves rows levels holds = (t : Tree) × (leaves t ≡ rows) × (tall t ≤ levels) × holds t

-- what rows become: without any, what comes after them; else a tree of them
abbrev pub IsCompiled : Nameless → List MatchRow → List Code → Code → Code → Type 0
IsCompiled ty [] es otherwise made = made ≡ a_letrec no_binding otherwise
IsCompiled ty (r ∷ rs) es otherwise made = InHalves (r ∷ rs) 32 (λ t. made ≡ match_code ty (first_made (r ∷ rs) otherwise) es r.patterns t otherwise)
