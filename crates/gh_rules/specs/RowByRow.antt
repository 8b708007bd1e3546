-- Rows compiled one after the other: a way that meets the contract.
use Rattle.std.specs.Prelude.{◌≡◌, ◌<◌, ◌≤◌, ◌*◌, ℕ, zero, suc, ◌+◌, max, Bool, true, false, List, [], ◌∷◌, length, Option, Some, None}
use Rattle.gh_base.specs.declared.place.Origin.{Origin}
use Rattle.gh_base.specs.declared.place.Span.{Span}
use Rattle.gh_core.specs.Closing.{binds_name}
use Rattle.gh_core.specs.Reduce.{Program, is_newtype}
use Rattle.gh_core.specs.Terms as core
use Rattle.gh_kernel.specs.Steps.{count}
use Rattle.gh_kernel.specs.Terms.{Pat, pvar, pwild, pcon, plit, pstring, pas, Pats, no_pat, pat}
use Rattle.gh_rules.specs.Rules.{Matches}
use Rattle.gh_rules.specs.Rules as rules

-- patterns whose names are below the first made one, none of them a literal string
module _ (first : ℕ) where
  abbrev mutual
    pub IsPattern : Pat Span → Type 0
    IsPattern (pvar n x) = x < first
    IsPattern (pwild n) = Unit {0}
    IsPattern (pcon n c ps) = ArePatterns ps
    IsPattern (plit n l) = Unit {0}
    IsPattern (pstring n cs) = ⊥
    IsPattern (pas n x p) = (x < first) × IsPattern p

    pub ArePatterns : Pats Span → Type 0
    ArePatterns no_pat = Unit {0}
    ArePatterns (pat p ps) = IsPattern p × ArePatterns ps

-- Rows as the leaves of a tree. What comes after the first of two halves is bound to a name, so it stands once, and no row stands
-- further in than the tree is high.
pub data Halves : Type 0 where
  single : (ps : Pats Span) (bs : List core.Binds) (gs : rules.Bodies) → Halves
  halves : (front back : Halves) → Halves

-- the rows of a tree, and those after them
abbrev pub rows_of : Halves → rules.Rows → rules.Rows
rows_of (single ps bs gs) rest = rules.row ps bs gs rest
rows_of (halves front back) rest = rows_of front (rows_of back rest)

abbrev pub height : Halves → ℕ
height (single ps bs gs) = 0
height (halves front back) = suc (max (height front) (height back))

abbrev pub all_rows : Option Halves → rules.Rows
all_rows None = rules.no_row
all_rows (Some t) = rows_of t rules.no_row

abbrev pub whole_height : Option Halves → ℕ
whole_height None = 0
whole_height (Some t) = height t

-- groups, each round those after it
abbrev pub nested : List core.Binds → core.Term → core.Term
nested [] e = e
nested (bs ∷ rest) e = core.letrec bs (nested rest e)

-- the groups of a row; one without any has an empty one, so that no body is a value that would be printed at once
abbrev pub letrecs : List core.Binds → core.Term → core.Term
letrecs [] e = core.letrec core.no_bind e
letrecs (bs ∷ rest) e = core.letrec bs (nested rest e)

abbrev pub comp_bodies : rules.Bodies → core.Term → core.Term
comp_bodies rules.no_body fail = fail
comp_bodies (rules.always e rest) fail = e
comp_bodies (rules.guarded g e rest) fail = core.cases g (rules.truth_alts e (comp_bodies rest fail))

abbrev pub applied : core.Term → List core.Term → core.Term
applied f [] = f
applied f (e ∷ es) = applied (core.app f e) es

-- rows one after the other; what comes after a row that fails has a name
module _ (first : ℕ) where
  -- the names that are made
  abbrev pub new : ℕ → ℕ
  new i = first + i

  abbrev pub news : ℕ → ℕ → List ℕ
  news m zero = []
  news m (suc n) = new m ∷ news (suc m) n

  abbrev mutual
    -- the pattern meets what is called v; m and above are free. What follows a success, by the names that are free then, and a failure.
    -- A newtype's constructor is met as any other: it is the program that tells whether a case on it demands anything
    pub comp_pat : Pat Span → ℕ → ℕ → (ℕ → core.Term) → core.Term → core.Term
    comp_pat (pvar n x) v m done fail = core.app (core.lam x (done m)) (core.var (new v))
    comp_pat (pwild n) v m done fail = done m
    comp_pat (pas n x p) v m done fail = core.app (core.lam x (comp_pat p v m done fail)) (core.var (new v))
    comp_pat (pcon n c ps) v m done fail = core.cases (core.var (new v)) (core.alt (core.con_alt c (news m (count ps)) (comp_pats ps m (m + count ps) done fail)) (core.else_to fail))
    comp_pat (plit n l) v m done fail = core.cases (core.var (new v)) (core.alt (core.lit_alt l (done m)) (core.else_to fail))
    comp_pat (pstring n cs) v m done fail = fail

    pub comp_pats : Pats Span → ℕ → ℕ → (ℕ → core.Term) → core.Term → core.Term
    comp_pats no_pat v m done fail = done m
    comp_pats (pat p ps) v m done fail = comp_pat p v m (λ j. comp_pats ps (suc v) j done fail) fail

  -- where a row fails, what is called k goes on; m and above are free
  abbrev pub comp_row : Pats Span → List core.Binds → rules.Bodies → ℕ → ℕ → core.Term
  comp_row ps bs gs m k = comp_pats ps 1 m (λ j. letrecs bs (comp_bodies gs (core.var (new k)))) (core.var (new k))

  abbrev pub comp_rows : Halves → ℕ → ℕ → core.Term
  comp_rows (single ps bs gs) m k = comp_row ps bs gs m k
  comp_rows (halves front back) m k = core.app (core.lam (new m) (comp_rows front (suc m) m)) (comp_rows back m k)

  abbrev pub lams : ℕ → ℕ → core.Term → core.Term
  lams m zero t = t
  lams m (suc n) t = core.lam (new m) (lams (suc m) n t)

  -- What comes after the last row stands in an empty letrec, so it may be any term, also a value that a demand would print at once.
  -- It is bound to the name 0, outside of the names of every row, and the arguments to the names from 1 on
  abbrev pub compile_rows : List core.Term → Option Halves → core.Term → core.Term
  compile_rows es None otherwise = core.letrec core.no_bind otherwise
  compile_rows es (Some rows) otherwise = applied (lams 0 (suc (length es)) (comp_rows rows (suc (length es)) 0)) (core.letrec core.no_bind otherwise ∷ es)

-- no group binds a made name
abbrev pub GroupsFit : ℕ → List core.Binds → Type 0
GroupsFit first [] = Unit {0}
GroupsFit first (bs ∷ rest) = ((i : ℕ) → binds_name bs (first + i) ≡ false) × GroupsFit first rest

-- one pattern for each argument, at most 64 groups, and names below the first made one
abbrev pub RowsFit : ℕ → ℕ → Halves → Type 0
RowsFit first m (single ps bs gs) = (count ps ≡ m) × ArePatterns first ps × GroupsFit first bs × (length bs ≤ 64)
RowsFit first m (halves front back) = RowsFit first m front × RowsFit first m back

abbrev pub AllFit : ℕ → ℕ → Option Halves → Type 0
AllFit first m None = Unit {0}
AllFit first m (Some t) = RowsFit first m t

-- The contract is met: rows one after the other follow the rules, on up to 64 arguments and in a tree of up to 32 levels, for the
-- newtypes of the program, whatever comes after the last row, and for each limit up to the first made name.
abbrev pub RowsFollow : Type 0
RowsFollow =
    (p : Program) (nt : Origin → Bool) (limit first : ℕ) (otherwise : core.Term) (es : List core.Term) (rows : Option Halves)
    → ((c : Origin) → is_newtype p.newtypes c ≡ nt c) → limit ≤ first → length es ≤ 64 → whole_height rows ≤ 32 → AllFit first (length es) rows
    → Matches p nt limit otherwise es (all_rows rows) (compile_rows first es rows otherwise)
