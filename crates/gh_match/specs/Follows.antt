-- What rows mean, and the contract of a compiled match.
use Rattle.std.specs.Prelude.{◌≡◌, ◌≤◌, ℕ, Bool, List, [], ◌∷◌, map, length, Option, Some, None}
use Rattle.gh_base.specs.declared.place.Origin.{Origin}
use Rattle.gh_base.specs.declared.place.Span.{Span}
use Rattle.gh_core.specs.declared.types.CoreType.{CoreType}
use Rattle.gh_core.specs.declared.terms.CoreTerm.{CoreTerm}
use Rattle.gh_core.specs.Reduce.{Program, is_newtype}
use Rattle.gh_core.specs.Typing.{code_of}
use Rattle.gh_core.specs.Terms.{Term, Binds, no_bind, bind}
use Rattle.gh_kernel.specs.declared.signatures.Note.{Note}
use Rattle.gh_kernel.specs.Nodes.{noted_pats}
use Rattle.gh_kernel.specs.Reading.{patterns_of}
use Rattle.gh_kernel.specs.Steps.{count}
use Rattle.gh_kernel.specs.Terms.{Pat, pvar, pwild, pcon, plit, pstring, pas, Pats, no_pat, pat}
use Rattle.gh_rules.specs.Rules.{Bodies, no_body, always, guarded, Rows, no_row, row, Matches}
use Rattle.gh_adapt.specs.Untyped.{untyped}
use Rattle.gh_match.specs.declared.rows.MatchRow.{MatchRow}
use Rattle.gh_match.specs.Numbers.{first_made}

-- rows as the rules of matching read them ------------------------------------------------------------------------------------

abbrev pub group_read : List (ℕ × CoreType × CoreTerm) → Binds
group_read [] = no_bind
group_read (b ∷ bs) = bind b.0 (untyped b.2) (group_read bs)

abbrev pub body_read : Option CoreTerm → Term → Bodies → Bodies
body_read None e rest = always e rest
body_read (Some g) e rest = guarded (untyped g) e rest

abbrev pub bodies_read : List (Option CoreTerm × CoreTerm) → Bodies
bodies_read [] = no_body
bodies_read (b ∷ bs) = body_read b.0 (untyped b.1) (bodies_read bs)

abbrev pub place : Note → Span
place n = n.span

abbrev pub patterns_read : MatchRow → Pats Span
patterns_read r = noted_pats place (patterns_of r.patterns)

abbrev pub rows_read : List MatchRow → Rows
rows_read [] = no_row
rows_read (r ∷ rs) = row (patterns_read r) (map group_read r.groups) (bodies_read r.bodies) (rows_read rs)

-- the conditions -------------------------------------------------------------------------------------------------------------

-- no literal string at any depth
abbrev mutual
  pub HasNoString : Pat Span → Type 0
  HasNoString (pvar n x) = Unit {0}
  HasNoString (pwild n) = Unit {0}
  HasNoString (pcon n c ps) = HaveNoString ps
  HasNoString (plit n l) = Unit {0}
  HasNoString (pstring n cs) = ⊥
  HasNoString (pas n x p) = HasNoString p

  pub HaveNoString : Pats Span → Type 0
  HaveNoString no_pat = Unit {0}
  HaveNoString (pat p ps) = HasNoString p × HaveNoString ps

-- each row has so many patterns, none of them a literal string, and at most 64 groups
abbrev pub AreRows : ℕ → List MatchRow → Type 0
AreRows n [] = Unit {0}
AreRows n (r ∷ rs) = (count (patterns_read r) ≡ n) × HaveNoString (patterns_read r) × (length r.groups ≤ 64) × AreRows n rs

-- the contract ---------------------------------------------------------------------------------------------------------------

-- On up to 64 scrutinees the term does what the rules of matching do, in every program of core, whichever constructors are its
-- newtypes'. The names from `limit` on are the term's own: any limit will do that is at most the first number above those in the
-- rows and in `otherwise`.
abbrev pub FollowsRows : List CoreTerm → List MatchRow → CoreTerm → CoreTerm → Type 0
FollowsRows es rows otherwise made =
    (p : Program) (nt : Origin → Bool) (limit : ℕ)
    → ((c : Origin) → is_newtype p.newtypes c ≡ nt c) → limit ≤ first_made rows (code_of otherwise) → length es ≤ 64 → AreRows (length es) rows
    → Matches p nt limit (untyped otherwise) (map untyped es) (rows_read rows) (untyped made)
