-- What rows become is linear in the rows.
use Rattle.std.proofs.Common.{◌≡◌, ◌≤◌, ℕ, zero, suc, ◌+◌, ◌*◌, List, [], ◌∷◌, ◌++◌, length, map, Option, Some, None, refl, sym, ap, ◌∙◌, subst, arith}
use Rattle.gh_core.specs.declared.types.CoreType.{CoreType}
use Rattle.gh_core.specs.declared.terms.CoreTerm.{CoreTerm}
use Rattle.gh_core.specs.SameType.{Nameless}
use Rattle.gh_core.specs.Terms.{int, char}
use Rattle.gh_core.specs.Typing.{Code, a_lam, a_letrec, an_app, no_binding, code_of}
use Rattle.gh_kernel.specs.declared.patterns.Pattern.{Pattern}
use Rattle.gh_kernel.specs.declared.signatures.Note.{Note}
use Rattle.gh_kernel.specs.Nodes.{pat_nodes, pats_nodes}
use Rattle.gh_kernel.specs.Reading.{pattern_of, patterns_of}
use Rattle.gh_kernel.specs.Terms.{Pat, pvar, pwild, pcon, plit, pstring, pas, Pats, no_pat, pat}
use Rattle.gh_match.specs.declared.rows.MatchRow.{MatchRow}
use Rattle.gh_match.specs.declared.tests.Test.{Test}
use Rattle.gh_match.specs.declared.tests.Test.TheVariants.{Bind, Built, Integer, Character, Never}
use Rattle.gh_match.specs.Compiled.{numbers, width, gain, gains, tests_pat, tests_pats, all_wrapped, group_code, nested_code, letrecs_code, body_code, bodies_code, row_code, Tree, leaf, node, leaves, tree_code, functions, applied_code, match_code, IsCompiled}
use Rattle.gh_match.specs.Numbers.{first_made}
use Rattle.gh_match.specs.Sizes.{size, bindings_size, group_size, groups_size, guard_size, bodies_size, row_size, rows_size, scrutinees_size, IsLinear}

-- patterns ----------------------------------------------------------------------------------------------------------------

-- what a test adds round what follows, at most
abbrev test_size : Test → ℕ
test_size (Bind x t v) = 3
test_size (Built c xs v) = 4 + length xs
test_size (Integer i v) = 4
test_size (Character c v) = 4
test_size Never = 1

abbrev tests_size : List Test → ℕ
tests_size [] = 0
tests_size (t ∷ ts) = test_size t + tests_size ts

tests_append : (ts us : List Test) → tests_size (ts ++ us) ≡ tests_size ts + tests_size us
tests_append [] us = omega arith
tests_append (t ∷ ts) us = let h = tests_append ts us in omega (arith, h)

wrapped_size : (ty : Nameless) (k : ℕ) (ts : List Test) (done : Code) → size (all_wrapped ty k ts done) ≤ tests_size ts + size done
wrapped_size ty k [] done = omega arith
wrapped_size ty k (Bind x t v ∷ ts) done = let h = wrapped_size ty k ts done in omega (arith, h)
wrapped_size ty k (Built c xs v ∷ ts) done = let h = wrapped_size ty k ts done in omega (arith, h)
wrapped_size ty k (Integer i v ∷ ts) done = let h = wrapped_size ty k ts done in omega (arith, h)
wrapped_size ty k (Character c v ∷ ts) done = let h = wrapped_size ty k ts done in omega (arith, h)
wrapped_size ty k (Never ∷ ts) done = omega arith

numbers_length : (m n : ℕ) → length (numbers m n) ≡ n
numbers_length m zero = refl
numbers_length m (suc n) = ap (λ j. suc j) (numbers_length (suc m) n)

-- each node has at most six, the name among the fields that it meets among them
mutual
  pattern_size : (q : Pat Note) (v m : ℕ) → tests_size (tests_pat q v m) + 1 ≤ 6 * pat_nodes q
  pattern_size (pvar n x) v m = omega arith
  pattern_size (pwild n) v m = omega arith
  pattern_size (pcon n c ps) v m = let h = patterns_size ps m (m + width ps) in let l = numbers_length m (width ps) in omega (arith, h, l)
  pattern_size (plit n (int i)) v m = omega arith
  pattern_size (plit n (char c)) v m = omega arith
  pattern_size (pstring n cs) v m = omega arith
  pattern_size (pas n x q) v m = let h = pattern_size q v m in omega (arith, h)

  patterns_size : (ps : Pats Note) (v m : ℕ) → tests_size (tests_pats ps v m) + width ps ≤ 6 * pats_nodes ps
  patterns_size no_pat v m = omega arith
  patterns_size (pat q ps) v m =
      let a = pattern_size q v m in
      let b = patterns_size ps (v + 1) (m + gain q) in
      let e = tests_append (tests_pat q v m) (tests_pats ps (v + 1) (m + gain q)) in
      omega (arith, a, b, e)

-- a row -------------------------------------------------------------------------------------------------------------------

group_is : (g : List (ℕ × CoreType × CoreTerm)) → bindings_size (group_code g) ≡ group_size g
group_is [] = refl
group_is (b ∷ bs) = ap (λ n. 1 + size (code_of b.2) + n) (group_is bs)

nested_size : (gs : List (List (ℕ × CoreType × CoreTerm))) (e : Code) → size (nested_code gs e) ≡ groups_size gs + size e
nested_size [] e = omega arith
nested_size (g ∷ gs) e = let a = group_is g in let b = nested_size gs e in omega (arith, a, b)

letrecs_size : (gs : List (List (ℕ × CoreType × CoreTerm))) (e : Code) → size (letrecs_code gs e) ≤ groups_size gs + size e + 1
letrecs_size [] e = omega arith
letrecs_size (g ∷ gs) e = let a = group_is g in let b = nested_size gs e in omega (arith, a, b)

body_is : (ty : Nameless) (g : Option CoreTerm) (e rest : Code) → size (body_code ty g e rest) ≤ guard_size g + size e + size rest
body_is ty None e rest = omega arith
body_is ty (Some g) e rest = omega arith

bodies_are : (ty : Nameless) (k : ℕ) (bs : List (Option CoreTerm × CoreTerm)) → size (bodies_code ty k bs) ≤ bodies_size bs + 1
bodies_are ty k [] = omega arith
bodies_are ty k (b ∷ bs) = let a = body_is ty b.0 (code_of b.1) (bodies_code ty k bs) in let c = bodies_are ty k bs in omega (arith, a, c)

row_is : (ty : Nameless) (v m k : ℕ) (r : MatchRow) → size (row_code ty v m k r) + 2 + width (patterns_of r.patterns) ≤ row_size r
row_is ty v m k r =
    let a = wrapped_size ty k (tests_pats (patterns_of r.patterns) v m) (letrecs_code r.groups (bodies_code ty k r.bodies)) in
    let b = patterns_size (patterns_of r.patterns) v m in
    let c = letrecs_size r.groups (bodies_code ty k r.bodies) in
    let d = bodies_are ty k r.bodies in
    omega (arith, a, b, c, d)

-- rows --------------------------------------------------------------------------------------------------------------------

rows_append : (xs ys : List MatchRow) → rows_size (xs ++ ys) ≡ rows_size xs + rows_size ys
rows_append [] ys = omega arith
rows_append (r ∷ rs) ys = let h = rows_append rs ys in omega (arith, h)

-- how many patterns the first row has
abbrev heads : List MatchRow → ℕ
heads [] = 0
heads (r ∷ rs) = width (patterns_of r.patterns)

heads_front : (t : Tree) (ys : List MatchRow) → heads (leaves t ++ ys) ≡ heads (leaves t)
heads_front (leaf r) ys = refl
heads_front (node front back) ys = ap heads (assoc (leaves front) (leaves back) ys) ∙ heads_front front (leaves back ++ ys) ∙ sym (heads_front front (leaves back))
  where
    assoc : (xs zs ys : List MatchRow) → (xs ++ zs) ++ ys ≡ xs ++ (zs ++ ys)
    assoc [] zs ys = refl
    assoc (r ∷ rs) zs ys = ap (λ l. r ∷ l) (assoc rs zs ys)

tree_is : (ty : Nameless) (v m k : ℕ) (t : Tree) → size (tree_code ty v t m k) + 2 + heads (leaves t) ≤ rows_size (leaves t)
tree_is ty v m k (leaf r) = let h = row_is ty v m k r in omega (arith, h)
tree_is ty v m k (node front back) =
    let a = tree_is ty v (m + 1) m front in
    let b = tree_is ty v m k back in
    let c = rows_append (leaves front) (leaves back) in
    let d = heads_front front (leaves back) in
    omega (arith, a, b, c, d)

-- the whole ---------------------------------------------------------------------------------------------------------------

functions_are : (v : ℕ) (ps : List (Pattern Note)) (b : Code) → size (functions v ps b) ≡ length ps + size b
functions_are v [] b = omega arith
functions_are v (p ∷ ps) b = let h = functions_are (v + 1) ps b in omega (arith, h)

applied_are : (f : Code) (es : List CoreTerm) → size (applied_code f (map code_of es)) ≡ size f + scrutinees_size es
applied_are f [] = omega arith
applied_are f (e ∷ es) = let h = applied_are (an_app f (code_of e)) es in omega (arith, h)

pattern_count : (ps : List (Pattern Note)) → width (patterns_of ps) ≡ length ps
pattern_count [] = refl
pattern_count (p ∷ ps) = ap (λ n. suc n) (pattern_count ps)

pub linear : (ty : Nameless) (rows : List MatchRow) (es : List CoreTerm) (otherwise made : CoreTerm) → IsCompiled ty rows (map code_of es) (code_of otherwise) (code_of made) → IsLinear es rows otherwise made
linear ty [] es otherwise made h = let a = ap size h in omega (arith, a)
linear ty (r ∷ rs) es otherwise made h =
    let t = h.0 in
    let first = first_made (r ∷ rs) (code_of otherwise) in
    let code = tree_code ty (first + 1) t (first + 1 + length (map code_of es)) first in
    let a = ap size h.3 ∙ applied_are (an_app (a_lam first ty (functions (first + 1) r.patterns code)) (a_letrec no_binding (code_of otherwise))) es in
    let b = functions_are (first + 1) r.patterns code in
    let c = tree_is ty (first + 1) (first + 1 + length (map code_of es)) first t in
    let d = ap rows_size h.1 in
    let e = ap heads h.1 in
    let f = pattern_count r.patterns in
    omega (arith, a, b, c, d, e, f)
