-- The answers of the check of kinds.
use Rattle.std.specs.Prelude.{◌≡◌, reverse, List, [], ◌∷◌, Option, Some, None}
use Rattle.gh_typeterm.specs.declared.kind.Kind.{Kind}
use Rattle.gh_typeterm.specs.declared.kind.Kind.TheVariants as kind
use Rattle.gh_typeterm.specs.declared.decl.DeclData.{DeclData}
use Rattle.gh_core.specs.SameType.{Nameless}
use Rattle.gh_core.specs.Typing.{Kinds, HasKind}
use Rattle.gh_core_lint.specs.declared.kinds.Round.{Round, fold-Round}
use Rattle.gh_core_lint.specs.declared.kinds.Round.TheOpen.{Round-F}

abbrev pub round_step : Round-F (List Kind) → List Kind
round_step Round-F.Outside = []
round_step (Round-F.Params kinds) = reverse kinds.now
round_step (Round-F.Inside kind outer) = kind.now ∷ outer.now

-- the kinds of the binders round a part of a type, the nearest first
abbrev pub round : Round → List Kind
round = fold-Round (List Kind) round_step

-- the kind of a type, or none where it has no kind
abbrev pub IsKind : List DeclData → Kinds → List Kind → Nameless → Option Kind → Type 0
IsKind decls ks bs t None = (k : Kind) → HasKind decls ks bs t k → ⊥
IsKind decls ks bs t (Some k) = HasKind decls ks bs t k

abbrev pub IsApplied : Option Kind → Option Kind → Option Kind → Type 0
IsApplied f x None = (a k : Kind) → f ≡ Some (kind.Arrow a k) → x ≡ Some a → ⊥
IsApplied f x (Some k) = (a : Kind) × (f ≡ Some (kind.Arrow a k)) × (x ≡ Some a)

abbrev pub IsStar : Option Kind → Option Kind → Type 0
IsStar body None = body ≡ Some kind.Star → ⊥
IsStar body (Some k) = (k ≡ kind.Star) × (body ≡ Some kind.Star)

-- all types are of values
abbrev pub AreStars : List DeclData → Kinds → List Nameless → Type 0
AreStars decls ks [] = Unit {0}
AreStars decls ks (t ∷ ts) = HasKind decls ks [] t kind.Star × AreStars decls ks ts
