-- A text with other notes, twice and not at all; a kernel with notes is a typing of the text without them.
use Rattle.std.proofs.Common.{◌≡◌, ℕ, Bool, true, false, cond, ◌==◌, List, [], ◌∷◌, length, map, refl, sym, ap, ◌∙◌}
use Rattle.gh_base.specs.declared.place.Span.{Span}
use Rattle.gh_kernel.specs.declared.kernel.Binding.{Binding}
use Rattle.gh_kernel.specs.declared.kernel.CaseBody.{CaseBody}
use Rattle.gh_kernel.specs.declared.kernel.Kernel.{Kernel}
use Rattle.gh_kernel.specs.declared.signatures.Note.{Note}
use Rattle.gh_kernel.specs.Bridge.{Text, note_of, typed_of, text_of}
use Rattle.gh_kernel.specs.General.{text_typed}
use Rattle.gh_kernel.specs.Modules.{Top, Clause, Module, noted_top, noted_clause, noted_module, top_of, clause_of, stands_in, groups_in, cases_in, modules_of}
use Rattle.gh_kernel.specs.Nodes.{noted_pat, noted_pats, noted_type, noted, noted_all, noted_binds, noted_groups, noted_rows, noted_bodies, noted_table}
use Rattle.gh_kernel.specs.Terms.{Pat, pvar, pwild, pcon, plit, pstring, pas, Pats, no_pat, pat, TypeTerm, tycon, tyvar, tyapp, tyname, tylocal, Expr, var, top, con, lit, string, lam, app, lets, cases, call, redef, ann, whole, contents, convert, Exprs, no_expr, expr, Binds, no_bind, bind, Groups, no_group, group, Rows, no_row, row, Bodies, no_body, always, guarded, Table, no_entry, entry}
use Rattle.gh_kernel.specs.Typing.{Typed}
use Rattle.gh_kernel.specs.TypingLaws.{NotesAreTyping}

-- one after the other
module _ {A B C : Type 0} (f : B → C) (g : A → B) where
  mutual
    pub pat_twice : (t : Pat A) → noted_pat f (noted_pat g t) ≡ noted_pat (λ n. f (g n)) t
    pat_twice (pvar n x1) = refl
    pat_twice (pwild n) = refl
    pat_twice (pcon n x1 x2) = λ i. pcon (f (g n)) x1 (pats_twice x2 i)
    pat_twice (plit n x1) = refl
    pat_twice (pstring n x1) = refl
    pat_twice (pas n x1 x2) = λ i. pas (f (g n)) x1 (pat_twice x2 i)

    pub pats_twice : (t : Pats A) → noted_pats f (noted_pats g t) ≡ noted_pats (λ n. f (g n)) t
    pats_twice no_pat = refl
    pats_twice (pat x0 x1) = λ i. pat (pat_twice x0 i) (pats_twice x1 i)

  mutual
    pub type_twice : (t : TypeTerm A) → noted_type f (noted_type g t) ≡ noted_type (λ n. f (g n)) t
    type_twice (tycon x0) = refl
    type_twice (tyvar x0) = refl
    type_twice (tyapp x0 x1) = λ i. tyapp (type_twice x0 i) (type_twice x1 i)
    type_twice (tyname x0) = refl
    type_twice (tylocal x0 x1) = λ i. tylocal x0 (table_twice x1 i)

    pub term_twice : (t : Expr A) → noted f (noted g t) ≡ noted (λ n. f (g n)) t
    term_twice (var n x1) = refl
    term_twice (top n x1) = refl
    term_twice (con n x1) = refl
    term_twice (lit n x1) = refl
    term_twice (string n x1) = refl
    term_twice (lam n x1 x2) = λ i. lam (f (g n)) x1 (term_twice x2 i)
    term_twice (app n x1 x2) = λ i. app (f (g n)) (term_twice x1 i) (term_twice x2 i)
    term_twice (lets n x1 x2) = λ i. lets (f (g n)) (groups_twice x1 i) (term_twice x2 i)
    term_twice (cases n x1 x2) = λ i. cases (f (g n)) (terms_twice x1 i) (rows_twice x2 i)
    term_twice (call n x1 x2) = λ i. call (f (g n)) x1 (type_twice x2 i)
    term_twice (redef n x1 x2 x3 x4) = λ i. redef (f (g n)) x1 x2 (table_twice x3 i) (term_twice x4 i)
    term_twice (ann n x1 x2) = λ i. ann (f (g n)) (term_twice x1 i) x2
    term_twice (whole x0) = λ i. whole (term_twice x0 i)
    term_twice (contents x0 x1) = λ i. contents x0 (term_twice x1 i)
    term_twice (convert n x1 x2 x3 x4) = λ i. convert (f (g n)) x1 x2 x3 (type_twice x4 i)

    pub terms_twice : (t : Exprs A) → noted_all f (noted_all g t) ≡ noted_all (λ n. f (g n)) t
    terms_twice no_expr = refl
    terms_twice (expr x0 x1) = λ i. expr (term_twice x0 i) (terms_twice x1 i)

    pub binds_twice : (t : Binds A) → noted_binds f (noted_binds g t) ≡ noted_binds (λ n. f (g n)) t
    binds_twice no_bind = refl
    binds_twice (bind n x1 x2 x3 x4) = λ i. bind (f (g n)) x1 x2 (term_twice x3 i) (binds_twice x4 i)

    pub groups_twice : (t : Groups A) → noted_groups f (noted_groups g t) ≡ noted_groups (λ n. f (g n)) t
    groups_twice no_group = refl
    groups_twice (group x0 x1) = λ i. group (binds_twice x0 i) (groups_twice x1 i)

    pub rows_twice : (t : Rows A) → noted_rows f (noted_rows g t) ≡ noted_rows (λ n. f (g n)) t
    rows_twice no_row = refl
    rows_twice (row x0 x1 x2 x3) = λ i. row (pats_twice x0 i) (groups_twice x1 i) (bodies_twice x2 i) (rows_twice x3 i)

    pub bodies_twice : (t : Bodies A) → noted_bodies f (noted_bodies g t) ≡ noted_bodies (λ n. f (g n)) t
    bodies_twice no_body = refl
    bodies_twice (always x0 x1) = λ i. always (term_twice x0 i) (bodies_twice x1 i)
    bodies_twice (guarded x0 x1 x2) = λ i. guarded (term_twice x0 i) (term_twice x1 i) (bodies_twice x2 i)

    pub table_twice : (t : Table A) → noted_table f (noted_table g t) ≡ noted_table (λ n. f (g n)) t
    table_twice no_entry = refl
    table_twice (entry x0 x1 x2 x3) = λ i. entry x0 x1 (term_twice x2 i) (table_twice x3 i)

-- notes that stay
module _ {A : Type 0} where
  mutual
    pub pat_same : (t : Pat A) → noted_pat (λ n. n) t ≡ t
    pat_same (pvar n x1) = refl
    pat_same (pwild n) = refl
    pat_same (pcon n x1 x2) = λ i. pcon n x1 (pats_same x2 i)
    pat_same (plit n x1) = refl
    pat_same (pstring n x1) = refl
    pat_same (pas n x1 x2) = λ i. pas n x1 (pat_same x2 i)

    pub pats_same : (t : Pats A) → noted_pats (λ n. n) t ≡ t
    pats_same no_pat = refl
    pats_same (pat x0 x1) = λ i. pat (pat_same x0 i) (pats_same x1 i)

  mutual
    pub type_same : (t : TypeTerm A) → noted_type (λ n. n) t ≡ t
    type_same (tycon x0) = refl
    type_same (tyvar x0) = refl
    type_same (tyapp x0 x1) = λ i. tyapp (type_same x0 i) (type_same x1 i)
    type_same (tyname x0) = refl
    type_same (tylocal x0 x1) = λ i. tylocal x0 (table_same x1 i)

    pub term_same : (t : Expr A) → noted (λ n. n) t ≡ t
    term_same (var n x1) = refl
    term_same (top n x1) = refl
    term_same (con n x1) = refl
    term_same (lit n x1) = refl
    term_same (string n x1) = refl
    term_same (lam n x1 x2) = λ i. lam n x1 (term_same x2 i)
    term_same (app n x1 x2) = λ i. app n (term_same x1 i) (term_same x2 i)
    term_same (lets n x1 x2) = λ i. lets n (groups_same x1 i) (term_same x2 i)
    term_same (cases n x1 x2) = λ i. cases n (terms_same x1 i) (rows_same x2 i)
    term_same (call n x1 x2) = λ i. call n x1 (type_same x2 i)
    term_same (redef n x1 x2 x3 x4) = λ i. redef n x1 x2 (table_same x3 i) (term_same x4 i)
    term_same (ann n x1 x2) = λ i. ann n (term_same x1 i) x2
    term_same (whole x0) = λ i. whole (term_same x0 i)
    term_same (contents x0 x1) = λ i. contents x0 (term_same x1 i)
    term_same (convert n x1 x2 x3 x4) = λ i. convert n x1 x2 x3 (type_same x4 i)

    pub terms_same : (t : Exprs A) → noted_all (λ n. n) t ≡ t
    terms_same no_expr = refl
    terms_same (expr x0 x1) = λ i. expr (term_same x0 i) (terms_same x1 i)

    pub binds_same : (t : Binds A) → noted_binds (λ n. n) t ≡ t
    binds_same no_bind = refl
    binds_same (bind n x1 x2 x3 x4) = λ i. bind n x1 x2 (term_same x3 i) (binds_same x4 i)

    pub groups_same : (t : Groups A) → noted_groups (λ n. n) t ≡ t
    groups_same no_group = refl
    groups_same (group x0 x1) = λ i. group (binds_same x0 i) (groups_same x1 i)

    pub rows_same : (t : Rows A) → noted_rows (λ n. n) t ≡ t
    rows_same no_row = refl
    rows_same (row x0 x1 x2 x3) = λ i. row (pats_same x0 i) (groups_same x1 i) (bodies_same x2 i) (rows_same x3 i)

    pub bodies_same : (t : Bodies A) → noted_bodies (λ n. n) t ≡ t
    bodies_same no_body = refl
    bodies_same (always x0 x1) = λ i. always (term_same x0 i) (bodies_same x1 i)
    bodies_same (guarded x0 x1 x2) = λ i. guarded (term_same x0 i) (term_same x1 i) (bodies_same x2 i)

    pub table_same : (t : Table A) → noted_table (λ n. n) t ≡ t
    table_same no_entry = refl
    table_same (entry x0 x1 x2 x3) = λ i. entry x0 x1 (term_same x2 i) (table_same x3 i)

-- modules ------------------------------------------------------------------------------------------------------------------------

-- the groups of a file, in the text
abbrev text_stands_in : ℕ → List (Top Span) → Bool
text_stands_in file [] = false
text_stands_in file (b ∷ bs) = b.note.file == file

abbrev text_groups_in : ℕ → List (List (Top Span)) → List (List (Top Span))
text_groups_in file [] = []
text_groups_in file (g ∷ gs) = cond (text_stands_in file g) (g ∷ text_groups_in file gs) (text_groups_in file gs)

abbrev text_cases_in : ℕ → List (Clause Span) → List (Clause Span)
text_cases_in file [] = []
text_cases_in file (c ∷ cs) = cond (c.place.file == file) (c ∷ text_cases_in file cs) (text_cases_in file cs)

abbrev text_modules : List ℕ → List (List (Top Span)) → List (Clause Span) → List (Module Span)
text_modules order groups clauses = map (λ file. record { groups = text_groups_in file groups; cases = text_cases_in file clauses }) order

-- the modules of a kernel with other notes, of which the places stay
module _ {A N : Type 0} (place : A → Span) (note : A → N) (span : N → Span) (same : (x : A) → span (note x) ≡ place x) where
  body_is : (e : Expr A) → noted span (noted note e) ≡ noted place e
  body_is e = term_twice span note e ∙ ap (λ (h : A → Span). noted h e) (λ i x. same x i)

  tops_are : (bs : List (Binding A)) → map (noted_top span) (map (noted_top note) (map (top_of place) bs)) ≡ map (λ (b : Binding A). noted_top place (top_of place b)) bs
  tops_are [] = refl
  tops_are (b ∷ bs) =
      λ i. record { name = b.name; signature = b.signature; body = body_is (top_of place b).body i; note = same b.note i } ∷ tops_are bs i

  clause_is : (c : CaseBody A) → noted_clause span (noted_clause note (clause_of place c)) ≡ noted_clause place (clause_of place c)
  clause_is c = λ i. record { function = c.function; head = c.head; names = length c.names; body = body_is (clause_of place c).body i; place = c.span }

  same_file : (file : ℕ) (g : List (Binding A)) → stands_in place file g ≡ text_stands_in file (map (λ (b : Binding A). noted_top place (top_of place b)) g)
  same_file file [] = refl
  same_file file (b ∷ bs) = refl

  group_step : (b : Bool) (x : List (Top A)) (xs : List (List (Top A))) (y : List (Top Span)) (ys : List (List (Top Span)))
      → map (noted_top span) (map (noted_top note) x) ≡ y → map (map (noted_top span)) (map (map (noted_top note)) xs) ≡ ys
      → map (map (noted_top span)) (map (map (noted_top note)) (cond b (x ∷ xs) xs)) ≡ cond b (y ∷ ys) ys
  group_step true x xs y ys e rest = λ i. e i ∷ rest i
  group_step false x xs y ys e rest = rest

  groups_are : (file : ℕ) (gs : List (List (Binding A)))
      → map (map (noted_top span)) (map (map (noted_top note)) (groups_in place file gs)) ≡ text_groups_in file (map (map (λ (b : Binding A). noted_top place (top_of place b))) gs)
  groups_are file [] = refl
  groups_are file (g ∷ gs) =
      let y = map (λ (b : Binding A). noted_top place (top_of place b)) g in
      let ys = text_groups_in file (map (map (λ (b : Binding A). noted_top place (top_of place b))) gs) in
      group_step (stands_in place file g) (map (top_of place) g) (groups_in place file gs) y ys (tops_are g) (groups_are file gs)
      ∙ ap (λ t. cond t (y ∷ ys) ys) (same_file file g)

  case_step : (b : Bool) (x : Clause A) (xs : List (Clause A)) (y : Clause Span) (ys : List (Clause Span))
      → noted_clause span (noted_clause note x) ≡ y → map (noted_clause span) (map (noted_clause note) xs) ≡ ys
      → map (noted_clause span) (map (noted_clause note) (cond b (x ∷ xs) xs)) ≡ cond b (y ∷ ys) ys
  case_step true x xs y ys e rest = λ i. e i ∷ rest i
  case_step false x xs y ys e rest = rest

  cases_are : (file : ℕ) (cs : List (CaseBody A)) → map (noted_clause span) (map (noted_clause note) (cases_in place file cs)) ≡ text_cases_in file (map (λ (c : CaseBody A). noted_clause place (clause_of place c)) cs)
  cases_are file [] = refl
  cases_are file (c ∷ cs) =
      case_step (c.span.file == file) (clause_of place c) (cases_in place file cs) (noted_clause place (clause_of place c))
      (text_cases_in file (map (λ (c : CaseBody A). noted_clause place (clause_of place c)) cs)) (clause_is c) (cases_are file cs)

  modules_are : (order : List ℕ) (gs : List (List (Binding A))) (cs : List (CaseBody A))
      → map (noted_module span) (map (noted_module note) (map (λ file. record { groups = groups_in place file gs; cases = cases_in place file cs }) order))
      ≡ text_modules order (map (map (λ (b : Binding A). noted_top place (top_of place b))) gs) (map (λ (c : CaseBody A). noted_clause place (clause_of place c)) cs)
  modules_are [] gs cs = refl
  modules_are (file ∷ order) gs cs = λ i. record { groups = groups_are file gs i; cases = cases_are file cs i } ∷ modules_are order gs cs i

-- notes that stay
map_same : {X : Type 0} (f : X → X) → ((x : X) → f x ≡ x) → (xs : List X) → map f xs ≡ xs
map_same f h [] = refl
map_same f h (x ∷ xs) = λ i. h x i ∷ map_same f h xs i

module _ {A : Type 0} where
  top_same : (b : Top A) → noted_top (λ n. n) b ≡ b
  top_same b = λ i. record { name = b.name; signature = b.signature; body = term_same b.body i; note = b.note }

  clause_same : (c : Clause A) → noted_clause (λ n. n) c ≡ c
  clause_same c = λ i. record { function = c.function; head = c.head; names = c.names; body = term_same c.body i; place = c.place }

  module_same : (m : Module A) → noted_module (λ n. n) m ≡ m
  module_same m = λ i. record {
    groups = map_same (map (noted_top (λ n. n))) (map_same (noted_top (λ n. n)) top_same) m.groups i;
    cases = map_same (noted_clause (λ n. n)) clause_same m.cases i;
  }

  modules_same : (ms : List (Module A)) → map (noted_module (λ n. n)) ms ≡ ms
  modules_same = map_same (noted_module (λ n. n)) module_same

pub notes_are_typing : NotesAreTyping
notes_are_typing k s e =
    let order_is = ap (λ (t : Text). t.order) e in
    let groups_is = ap (λ (t : Text). t.groups) e in
    let cases_is = ap (λ (t : Text). t.cases) e in
    let typed = modules_are (λ (n : Note). n.span) note_of (λ (t : Typed). t.span) (λ x. refl) k.order k.groups k.cases in
    let plain = modules_are (λ (n : Span). n) (λ (n : Span). n) (λ (n : Span). n) (λ x. refl) s.order s.groups s.cases in
    let both = modules_same (map (noted_module (λ (n : Span). n)) (modules_of (λ (n : Span). n) s)) ∙ modules_same (modules_of (λ (n : Span). n) s) in
    typed ∙ (λ i. text_modules (order_is i) (groups_is i) (cases_is i)) ∙ sym plain ∙ both
