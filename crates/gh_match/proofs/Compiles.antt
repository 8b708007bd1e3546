-- Without types, what the code makes is what the rows compile to.
use Rattle.std.proofs.Common.{◌≡◌, ℕ, zero, suc, ◌+◌, List, [], ◌∷◌, ◌++◌, length, map, Option, Some, None, refl, sym, ap, ◌∙◌, arith}
use Rattle.std.specs.Prelude.{max}
use Rattle.gh_typeterm.specs.declared.ty.TyNode.{TyNode}
use Rattle.gh_core.specs.declared.types.CoreType.{CoreType}
use Rattle.gh_core.specs.declared.terms.CoreTerm.{CoreTerm}
use Rattle.gh_core.specs.SameType.{Nameless}
use Rattle.gh_core.specs.Terms.{Term, var, lam, app, letrec, cases, int, char, Binds, bind, Alts, con_alt, lit_alt, else_to, alt, no_bind}
use Rattle.gh_core.specs.Typing.{Code, an_app, code_of}
use Rattle.gh_kernel.specs.declared.patterns.Pattern.{Pattern}
use Rattle.gh_kernel.specs.declared.signatures.Note.{Note}
use Rattle.gh_kernel.specs.Nodes.{noted_pat, noted_pats}
use Rattle.gh_kernel.specs.Reading.{patterns_of}
use Rattle.gh_kernel.specs.Steps.{count}
use Rattle.gh_kernel.specs.Terms.{Pat, pvar, pwild, pcon, plit, pstring, pas, Pats, no_pat, pat}
use Rattle.gh_rules.specs.Rules.{Bodies, Rows, no_row, row, truth_alts}
use Rattle.gh_rules.specs.RowByRow.{Halves, single, halves, rows_of, height, new, news, nested, letrecs, comp_pat, comp_pats, comp_bodies, comp_row, comp_rows, lams, applied, compile_rows}
use Rattle.gh_adapt.specs.Strip.{strip, strip_bindings}
use Rattle.gh_adapt.specs.Untyped.{untyped}
use Rattle.gh_adapt.proofs.Erasures.{erasure_strips}
use Rattle.gh_match.specs.declared.rows.MatchRow.{MatchRow}
use Rattle.gh_match.specs.declared.tests.Test.{Test}
use Rattle.gh_match.specs.declared.tests.Test.TheVariants.{Bind, Built, Integer, Character, Never}
use Rattle.gh_match.specs.Compiled.{numbers, width, gain, gains, tests_pat, tests_pats, wrapped, all_wrapped, group_code, nested_code, letrecs_code, body_code, bodies_code, row_code, Tree, leaf, node, leaves, tall, tree_code, functions, applied_code, match_code}
use Rattle.gh_match.specs.Follows.{group_read, body_read, bodies_read, place, patterns_read, rows_read}

-- patterns ----------------------------------------------------------------------------------------------------------------

-- a test without types round what follows
abbrev unwrapped : ℕ → Test → Term → Term
unwrapped k (Bind x t v) d = app (lam x d) (var v)
unwrapped k (Built c xs v) d = cases (var v) (alt (con_alt c xs d) (else_to (var k)))
unwrapped k (Integer i v) d = cases (var v) (alt (lit_alt (int i) d) (else_to (var k)))
unwrapped k (Character c v) d = cases (var v) (alt (lit_alt (char c) d) (else_to (var k)))
unwrapped k Never d = var k

abbrev all_unwrapped : ℕ → List Test → Term → Term
all_unwrapped k [] d = d
all_unwrapped k (t ∷ ts) d = unwrapped k t (all_unwrapped k ts d)

strip_one : (ty : Nameless) (k : ℕ) (t : Test) (done : Code) → strip (wrapped ty k t done) ≡ unwrapped k t (strip done)
strip_one ty k (Bind x t v) done = refl
strip_one ty k (Built c xs v) done = refl
strip_one ty k (Integer i v) done = refl
strip_one ty k (Character c v) done = refl
strip_one ty k Never done = refl

strip_all : (ty : Nameless) (k : ℕ) (ts : List Test) (done : Code) → strip (all_wrapped ty k ts done) ≡ all_unwrapped k ts (strip done)
strip_all ty k [] done = refl
strip_all ty k (t ∷ ts) done = strip_one ty k t (all_wrapped ty k ts done) ∙ ap (unwrapped k t) (strip_all ty k ts done)

all_append : (k : ℕ) (ts us : List Test) (d : Term) → all_unwrapped k (ts ++ us) d ≡ all_unwrapped k ts (all_unwrapped k us d)
all_append k [] us d = refl
all_append k (t ∷ ts) us d = ap (unwrapped k t) (all_append k ts us d)

news_are : (first m n : ℕ) → news first m n ≡ numbers (first + m) n
news_are first m zero = refl
news_are first m (suc n) = let e : first + suc m ≡ suc (first + m) = omega arith in ap (λ l. (first + m) ∷ l) (news_are first (suc m) n ∙ ap (λ j. numbers j n) e)

count_noted : (ps : Pats Note) → count (noted_pats place ps) ≡ width ps
count_noted no_pat = refl
count_noted (pat p ps) = ap (λ n. suc n) (count_noted ps)

module _ (first k : ℕ) where
  mutual
    pat_is : (q : Pat Note) (v m : ℕ) (D : ℕ → Term) → comp_pat first (noted_pat place q) v m D (var (first + k)) ≡ all_unwrapped (first + k) (tests_pat q (first + v) (first + m)) (D (m + gain q))
    pat_is (pvar n x) v m D = let e : m ≡ m + 0 = omega arith in ap (λ j. app (lam x (D j)) (var (first + v))) e
    pat_is (pwild n) v m D = let e : m ≡ m + 0 = omega arith in ap D e
    pat_is (plit n (int i)) v m D = let e : m ≡ m + 0 = omega arith in ap (λ j. cases (var (first + v)) (alt (lit_alt (int i) (D j)) (else_to (var (first + k))))) e
    pat_is (plit n (char c)) v m D = let e : m ≡ m + 0 = omega arith in ap (λ j. cases (var (first + v)) (alt (lit_alt (char c) (D j)) (else_to (var (first + k))))) e
    pat_is (pstring n cs) v m D = refl
    pat_is (pas n x q) v m D = ap (λ d. app (lam x d) (var (first + v))) (pat_is q v m D)
    pat_is (pcon n c ps) v m D =
        let e1 : first + (m + width ps) ≡ first + m + width ps = omega arith in
        let e2 : m + width ps + gains ps ≡ m + (width ps + gains ps) = omega arith in
        ap (λ j. cases (var (first + v)) (alt (con_alt c (news first m j) (comp_pats first (noted_pats place ps) m (m + j) D (var (first + k)))) (else_to (var (first + k))))) (count_noted ps)
        ∙ (λ i. cases (var (first + v)) (alt (con_alt c (news_are first m (width ps) i) (pats_is ps m (m + width ps) D i)) (else_to (var (first + k)))))
        ∙ (λ i. cases (var (first + v)) (alt (con_alt c (numbers (first + m) (width ps)) (all_unwrapped (first + k) (tests_pats ps (first + m) (e1 i)) (D (e2 i)))) (else_to (var (first + k)))))

    pats_is : (ps : Pats Note) (v m : ℕ) (D : ℕ → Term) → comp_pats first (noted_pats place ps) v m D (var (first + k)) ≡ all_unwrapped (first + k) (tests_pats ps (first + v) (first + m)) (D (m + gains ps))
    pats_is no_pat v m D = let e : m ≡ m + 0 = omega arith in ap D e
    pats_is (pat p ps) v m D =
        let e1 : first + suc v ≡ first + v + 1 = omega arith in
        let e2 : first + (m + gain p) ≡ first + m + gain p = omega arith in
        let e3 : m + gain p + gains ps ≡ m + (gain p + gains ps) = omega arith in
        pat_is p v m (λ j. comp_pats first (noted_pats place ps) (suc v) j D (var (first + k)))
        ∙ ap (all_unwrapped (first + k) (tests_pat p (first + v) (first + m))) (pats_is ps (suc v) (m + gain p) D)
        ∙ (λ i. all_unwrapped (first + k) (tests_pat p (first + v) (first + m)) (all_unwrapped (first + k) (tests_pats ps (e1 i) (e2 i)) (D (e3 i))))
        ∙ sym (all_append (first + k) (tests_pat p (first + v) (first + m)) (tests_pats ps (first + v + 1) (first + m + gain p)) (D (m + (gain p + gains ps))))

-- bodies and groups -------------------------------------------------------------------------------------------------------

seen : (e : CoreTerm) → strip (code_of e) ≡ untyped e
seen e = sym (erasure_strips e)

body_is : (ty : Nameless) (g : Option CoreTerm) (e : CoreTerm) (rest : Code) (bs : Bodies) (fail : Term) → strip rest ≡ comp_bodies bs fail
    → strip (body_code ty g (code_of e) rest) ≡ comp_bodies (body_read g (untyped e) bs) fail
body_is ty None e rest bs fail h = seen e
body_is ty (Some g) e rest bs fail h = λ i. cases (seen g i) (truth_alts (seen e i) (h i))

bodies_are : (ty : Nameless) (k : ℕ) (bs : List (Option CoreTerm × CoreTerm)) → strip (bodies_code ty k bs) ≡ comp_bodies (bodies_read bs) (var k)
bodies_are ty k [] = refl
bodies_are ty k (b ∷ bs) = body_is ty b.0 b.1 (bodies_code ty k bs) (bodies_read bs) (var k) (bodies_are ty k bs)

group_is : (g : List (ℕ × CoreType × CoreTerm)) → strip_bindings (group_code g) ≡ group_read g
group_is [] = refl
group_is (b ∷ bs) = λ i. bind b.0 (seen b.2 i) (group_is bs i)

nested_are : (gs : List (List (ℕ × CoreType × CoreTerm))) (e : Code) → strip (nested_code gs e) ≡ nested (map group_read gs) (strip e)
nested_are [] e = refl
nested_are (g ∷ gs) e = λ i. letrec (group_is g i) (nested_are gs e i)

letrecs_are : (gs : List (List (ℕ × CoreType × CoreTerm))) (e : Code) → strip (letrecs_code gs e) ≡ letrecs (map group_read gs) (strip e)
letrecs_are [] e = refl
letrecs_are (g ∷ gs) e = λ i. letrec (group_is g i) (nested_are gs e i)

-- rows --------------------------------------------------------------------------------------------------------------------

row_is : (ty : Nameless) (first m k : ℕ) (r : MatchRow) → strip (row_code ty (first + 1) (first + m) (first + k) r) ≡ comp_row first (patterns_read r) (map group_read r.groups) (bodies_read r.bodies) m k
row_is ty first m k r =
    strip_all ty (first + k) (tests_pats (patterns_of r.patterns) (first + 1) (first + m)) (letrecs_code r.groups (bodies_code ty (first + k) r.bodies))
    ∙ ap (all_unwrapped (first + k) (tests_pats (patterns_of r.patterns) (first + 1) (first + m))) (letrecs_are r.groups (bodies_code ty (first + k) r.bodies) ∙ ap (letrecs (map group_read r.groups)) (bodies_are ty (first + k) r.bodies))
    ∙ sym (pats_is first k (patterns_of r.patterns) 1 m (λ j. letrecs (map group_read r.groups) (comp_bodies (bodies_read r.bodies) (var (first + k)))))

abbrev pub halves_read : Tree → Halves
halves_read (leaf r) = single (patterns_read r) (map group_read r.groups) (bodies_read r.bodies)
halves_read (node front back) = halves (halves_read front) (halves_read back)

pub tree_is : (ty : Nameless) (first m k : ℕ) (t : Tree) → strip (tree_code ty (first + 1) t (first + m) (first + k)) ≡ comp_rows first (halves_read t) m k
tree_is ty first m k (leaf r) = row_is ty first m k r
tree_is ty first m k (node front back) =
    let e : first + m + 1 ≡ first + suc m = omega arith in
    ap (λ j. app (lam (first + m) (strip (tree_code ty (first + 1) front j (first + m)))) (strip (tree_code ty (first + 1) back (first + m) (first + k)))) e
    ∙ (λ i. app (lam (first + m) (tree_is ty first (suc m) m front i)) (tree_is ty first m k back i))

-- the rows of a tree, before others
abbrev joined : List MatchRow → Rows → Rows
joined [] rest = rest
joined (r ∷ rs) rest = row (patterns_read r) (map group_read r.groups) (bodies_read r.bodies) (joined rs rest)

joined_append : (xs ys : List MatchRow) (rest : Rows) → joined (xs ++ ys) rest ≡ joined xs (joined ys rest)
joined_append [] ys rest = refl
joined_append (r ∷ rs) ys rest = ap (row (patterns_read r) (map group_read r.groups) (bodies_read r.bodies)) (joined_append rs ys rest)

joined_read : (rs : List MatchRow) → joined rs no_row ≡ rows_read rs
joined_read [] = refl
joined_read (r ∷ rs) = ap (row (patterns_read r) (map group_read r.groups) (bodies_read r.bodies)) (joined_read rs)

tree_joined : (t : Tree) (rest : Rows) → rows_of (halves_read t) rest ≡ joined (leaves t) rest
tree_joined (leaf r) rest = refl
tree_joined (node front back) rest = tree_joined front (rows_of (halves_read back) rest) ∙ ap (joined (leaves front)) (tree_joined back rest) ∙ sym (joined_append (leaves front) (leaves back) rest)

pub tree_rows : (t : Tree) → rows_of (halves_read t) no_row ≡ rows_read (leaves t)
tree_rows t = tree_joined t no_row ∙ joined_read (leaves t)

pub tree_tall : (t : Tree) → height (halves_read t) ≡ tall t
tree_tall (leaf r) = refl
tree_tall (node front back) = λ i. suc (max (tree_tall front i) (tree_tall back i))

-- the whole ---------------------------------------------------------------------------------------------------------------

functions_are : (first m : ℕ) (ps : List (Pattern Note)) (b : Code) → strip (functions (first + m) ps b) ≡ lams first m (length ps) (strip b)
functions_are first m [] b = refl
functions_are first m (p ∷ ps) b = let e : first + m + 1 ≡ first + suc m = omega arith in ap (lam (first + m)) (ap (λ j. strip (functions j ps b)) e ∙ functions_are first (suc m) ps b)

applied_are : (f : Code) (es : List CoreTerm) → strip (applied_code f (map code_of es)) ≡ applied (strip f) (map untyped es)
applied_are f [] = refl
applied_are f (e ∷ es) = applied_are (an_app f (code_of e)) es ∙ ap (λ d. applied (app (strip f) d) (map untyped es)) (seen e)

map_length : {A B : Type 0} (f : A → B) (xs : List A) → length (map f xs) ≡ length xs
map_length f [] = refl
map_length f (x ∷ xs) = ap (λ n. suc n) (map_length f xs)

-- rows in a tree, where the first row has as many patterns as there are scrutinees
pub match_is : (ty : Nameless) (first : ℕ) (es : List CoreTerm) (ps : List (Pattern Note)) (t : Tree) (otherwise : CoreTerm) → length ps ≡ length es
    → strip (match_code ty first (map code_of es) ps t (code_of otherwise)) ≡ compile_rows first (map untyped es) (Some (halves_read t)) (untyped otherwise)
match_is ty first es ps t otherwise fit =
    let n = length (map untyped es) in
    let e1 : length ps ≡ n = fit ∙ sym (map_length untyped es) in
    let e2 : length (map code_of es) ≡ n = map_length code_of es ∙ sym (map_length untyped es) in
    let e3 : first + 1 + n ≡ first + suc n = omega arith in
    let e4 : first ≡ first + 0 = omega arith in
    let body : strip (functions (first + 1) ps (tree_code ty (first + 1) t (first + 1 + length (map code_of es)) first)) ≡ lams first 1 n (comp_rows first (halves_read t) (suc n) 0) =
    functions_are first 1 ps (tree_code ty (first + 1) t (first + 1 + length (map code_of es)) first)
    ∙ (λ i. lams first 1 (e1 i) (strip (tree_code ty (first + 1) t (first + 1 + e2 i) (e4 i))))
    ∙ ap (λ j. lams first 1 n (strip (tree_code ty (first + 1) t j (first + 0)))) e3
    ∙ ap (lams first 1 n) (tree_is ty first (suc n) 0 t) in
    applied_are _ es
    ∙ (λ i. applied (app (lam (e4 i) (body i)) (letrec no_bind (seen otherwise i))) (map untyped es))
