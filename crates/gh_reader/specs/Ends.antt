-- The first and the last place of a list.
use Rattle.std.specs.Prelude.{List, [], ◌∷◌, Option, Some, None}
use Rattle.gh_base.specs.declared.place.Span.{Span}
use Rattle.gh_tree.specs.Syms.{last_of}

abbrev pub first : List Span → Option Span
first [] = None
first (a ∷ as') = Some a

abbrev pub last : List Span → Option Span
last [] = None
last (a ∷ as') = Some (last_of a as')
