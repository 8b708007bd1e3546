-- The terms that values of the program stand for, form by form.
use Rattle.std.proofs.Common.{◌≡◌, ℕ, ℤ, List, Option, map, sym, ap, ◌∙◌}
use Rattle.std.specs.Prelude.{option_map, Some, None}
use Rattle.gh_base.specs.declared.place.Origin.{Origin}
use Rattle.gh_base.specs.declared.place.Span.{Span}
use Rattle.gh_core.specs.Terms.{Term, var, glob, con, lit, int, char, string, prim, lam, app, letrec, cases, stop, Alt, con_alt, lit_alt}
use Rattle.gh_core.specs.Reading.{term_of, alt_of, term_step, alt_step, binds_of, alts_of}
use Rattle.gh_core.specs.declared.terms.CoreName.{CoreName}
use Rattle.gh_core.specs.declared.erased.ErasedTerm.{ErasedTerm, fold-roll-ErasedTerm}
use Rattle.gh_core.specs.declared.erased.ErasedAlt.TheOpen.{ErasedTerm-F, ErasedAlt-F}
use Rattle.gh_core.specs.declared.erased.ErasedTerm.TheVariants as t
use Rattle.gh_core.specs.declared.erased.ErasedAlt.{ErasedAlt, fold-roll-ErasedAlt}
use Rattle.gh_core.specs.declared.erased.ErasedAlt.TheVariants as a

abbrev pub bind_of : ℕ × ErasedTerm → ℕ × Term
bind_of b = (b.0, term_of b.1)

pub term_of-Var : (x : ℕ) → term_of (t.Var x) ≡ var x
term_of-Var x = ap term_of (sym (t.rolls-Var x)) ∙ fold-roll-ErasedTerm Alt Term alt_step term_step (ErasedTerm-F.Var x)

pub term_of-Global : (name : CoreName) → term_of (t.Global name) ≡ glob name
term_of-Global name = ap term_of (sym (t.rolls-Global name)) ∙ fold-roll-ErasedTerm Alt Term alt_step term_step (ErasedTerm-F.Global name)

pub term_of-Con : (c : Origin) → term_of (t.Con c) ≡ con c
term_of-Con c = ap term_of (sym (t.rolls-Con c)) ∙ fold-roll-ErasedTerm Alt Term alt_step term_step (ErasedTerm-F.ErasedTerm::Con c)

pub term_of-Int : (n : ℤ) → term_of (t.Int n) ≡ lit (int n)
term_of-Int n = ap term_of (sym (t.rolls-Int n)) ∙ fold-roll-ErasedTerm Alt Term alt_step term_step (ErasedTerm-F.ErasedTerm::Int n)

pub term_of-Char : (c : ℕ) → term_of (t.Char c) ≡ lit (char c)
term_of-Char c = ap term_of (sym (t.rolls-Char c)) ∙ fold-roll-ErasedTerm Alt Term alt_step term_step (ErasedTerm-F.ErasedTerm::Char c)

pub term_of-Str : (cs : List ℕ) → term_of (t.Str cs) ≡ string cs
term_of-Str cs = ap term_of (sym (t.rolls-Str cs)) ∙ fold-roll-ErasedTerm Alt Term alt_step term_step (ErasedTerm-F.Str cs)

pub term_of-Prim : (p : Origin) (place : Span) → term_of (t.Prim p place) ≡ prim p place
term_of-Prim p place = ap term_of (sym (t.rolls-Prim p place)) ∙ fold-roll-ErasedTerm Alt Term alt_step term_step (ErasedTerm-F.Prim p place)

pub term_of-Lam : (x : ℕ) (b : ErasedTerm) → term_of (t.Lam x b) ≡ lam x (term_of b)
term_of-Lam x b = ap term_of (sym (t.rolls-Lam x b)) ∙ fold-roll-ErasedTerm Alt Term alt_step term_step (ErasedTerm-F.Lam x b)

pub term_of-App : (f : ErasedTerm) (e : ErasedTerm) → term_of (t.App f e) ≡ app (term_of f) (term_of e)
term_of-App f e = ap term_of (sym (t.rolls-App f e)) ∙ fold-roll-ErasedTerm Alt Term alt_step term_step (ErasedTerm-F.App f e)

pub term_of-Stop : (place : Span) → term_of (t.Stop place) ≡ stop place
term_of-Stop place = ap term_of (sym (t.rolls-Stop place)) ∙ fold-roll-ErasedTerm Alt Term alt_step term_step (ErasedTerm-F.Stop place)

pub term_of-LetRec : (bs : List (ℕ × ErasedTerm)) (b : ErasedTerm) → term_of (t.LetRec bs b) ≡ letrec (binds_of (map bind_of bs)) (term_of b)
term_of-LetRec bs b = ap term_of (sym (t.rolls-LetRec bs b)) ∙ fold-roll-ErasedTerm Alt Term alt_step term_step (ErasedTerm-F.LetRec bs b)

pub term_of-Case : (s : ErasedTerm) (alts : List ErasedAlt) (o : Option ErasedTerm) → term_of (t.Case s alts o) ≡ cases (term_of s) (alts_of (map alt_of alts) (option_map term_of o))
term_of-Case s alts None = ap term_of (sym (t.rolls-Case s alts None)) ∙ fold-roll-ErasedTerm Alt Term alt_step term_step (ErasedTerm-F.Case s alts None)
term_of-Case s alts (Some o) = ap term_of (sym (t.rolls-Case s alts (Some o))) ∙ fold-roll-ErasedTerm Alt Term alt_step term_step (ErasedTerm-F.Case s alts (Some o))

pub alt_of-Con : (c : Origin) (xs : List ℕ) (b : ErasedTerm) → alt_of (a.Con c xs b) ≡ con_alt c xs (term_of b)
alt_of-Con c xs b = ap alt_of (sym (a.rolls-Con c xs b)) ∙ fold-roll-ErasedAlt Alt Term alt_step term_step (ErasedAlt-F.ErasedAlt::Con c xs b)

pub alt_of-Int : (n : ℤ) (b : ErasedTerm) → alt_of (a.Int n b) ≡ lit_alt (int n) (term_of b)
alt_of-Int n b = ap alt_of (sym (a.rolls-Int n b)) ∙ fold-roll-ErasedAlt Alt Term alt_step term_step (ErasedAlt-F.ErasedAlt::Int n b)

pub alt_of-Char : (c : ℕ) (b : ErasedTerm) → alt_of (a.Char c b) ≡ lit_alt (char c) (term_of b)
alt_of-Char c b = ap alt_of (sym (a.rolls-Char c b)) ∙ fold-roll-ErasedAlt Alt Term alt_step term_step (ErasedAlt-F.ErasedAlt::Char c b)
