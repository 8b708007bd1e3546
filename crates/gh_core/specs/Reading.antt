-- The terms that values of the program stand for.
use Rattle.std.specs.Prelude.{ℕ, List, [], ◌∷◌, Option, Some, None}
use Rattle.gh_core.specs.Terms.{Term, var, glob, con, lit, int, char, string, prim, lam, app, letrec, cases, stop, Binds, no_bind, bind, Alt, con_alt, lit_alt, Alts, no_alt, else_to, alt}
use Rattle.gh_core.specs.declared.terms.CoreName.{CoreName}
use Rattle.gh_core.specs.declared.erased.ErasedTerm.{ErasedTerm, fold-ErasedTerm}
use Rattle.gh_core.specs.declared.erased.ErasedAlt.TheOpen.{ErasedTerm-F, ErasedAlt-F}
use Rattle.gh_core.specs.declared.erased.ErasedAlt.{ErasedAlt, fold-ErasedAlt}

abbrev pub binds_of : List (ℕ × Term) → Binds
binds_of [] = no_bind
binds_of (b ∷ bs) = bind b.0 b.1 (binds_of bs)

-- alternatives, and what else a case goes on with
abbrev pub alts_of : List Alt → Option Term → Alts
alts_of [] None = no_alt
alts_of [] (Some t) = else_to t
alts_of (a ∷ rest) other = alt a (alts_of rest other)

abbrev pub alt_step : ErasedAlt-F Alt Term → Alt
alt_step (ErasedAlt-F.ErasedAlt::Con c xs t) = con_alt c xs t
alt_step (ErasedAlt-F.ErasedAlt::Int n t) = lit_alt (int n) t
alt_step (ErasedAlt-F.ErasedAlt::Char c t) = lit_alt (char c) t

abbrev pub term_step : ErasedTerm-F Alt Term → Term
term_step (ErasedTerm-F.Var x) = var x
term_step (ErasedTerm-F.Global name) = glob name
term_step (ErasedTerm-F.ErasedTerm::Con c) = con c
term_step (ErasedTerm-F.ErasedTerm::Int n) = lit (int n)
term_step (ErasedTerm-F.ErasedTerm::Char c) = lit (char c)
term_step (ErasedTerm-F.Str cs) = string cs
term_step (ErasedTerm-F.Prim p place) = prim p place
term_step (ErasedTerm-F.Lam x body) = lam x body
term_step (ErasedTerm-F.App f e) = app f e
term_step (ErasedTerm-F.LetRec bs body) = letrec (binds_of bs) body
term_step (ErasedTerm-F.Case t alts other) = cases t (alts_of alts other)
term_step (ErasedTerm-F.Stop place) = stop place

abbrev pub term_of : ErasedTerm → Term
term_of = fold-ErasedTerm Alt Term alt_step term_step

abbrev pub alt_of : ErasedAlt → Alt
alt_of = fold-ErasedAlt Alt Term alt_step term_step

-- definitions with their terms
abbrev pub defs_of : List (CoreName × ErasedTerm) → List (CoreName × Term)
defs_of [] = []
defs_of (d ∷ ds) = (d.0, term_of d.1) ∷ defs_of ds
