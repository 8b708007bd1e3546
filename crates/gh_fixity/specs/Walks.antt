-- What a part of a program becomes where it is arranged, and the clashes that stand in it, by the fixities of local names
-- round it.
use Rattle.std.specs.Prelude.{cond, nat_lt, List, [], ◌∷◌, ◌++◌, Option, Some, None}
use Rattle.gh_fixity.specs.declared.part.Clash.{Clash}
use Rattle.gh_fixity.specs.Fixities.{LocalFixities}

pub record Out (T : Type 0) : Type 0 where
  pub tree : T
  pub clashes : List Clash

abbrev pub Walk : Type 0 → Type 0
Walk T = LocalFixities → Out T

abbrev pub trees : {T : Type 0} → LocalFixities → List (Walk T) → List T
trees l [] = []
trees l (g ∷ gs) = (g l).tree ∷ trees l gs

abbrev pub all_clashes : {T : Type 0} → LocalFixities → List (Walk T) → List Clash
all_clashes l [] = []
all_clashes l (g ∷ gs) = (g l).clashes ++ all_clashes l gs

-- the same of lists, one after another
abbrev pub all_trees : {T : Type 0} → LocalFixities → List (Walk (List T)) → List T
all_trees l [] = []
all_trees l (g ∷ gs) = (g l).tree ++ all_trees l gs

-- declarations, with the fixities that they declare for local names
pub record Scoped (T : Type 0) : Type 0 where
  pub enter : LocalFixities → LocalFixities
  pub walk : Walk T

abbrev pub walks : {T : Type 0} → List (Scoped T) → List (Walk T)
walks [] = []
walks (d ∷ ds) = d.walk ∷ walks ds

-- the fixities inside a list of declarations
abbrev pub entered : {T : Type 0} → List (Scoped T) → LocalFixities → LocalFixities
entered [] l = l
entered (d ∷ ds) l = entered ds (d.enter l)

-- the clash whose right operator begins first; of two that begin at one byte, the first
abbrev pub earlier : Option Clash → Clash → Option Clash
earlier None c = Some c
earlier (Some b) c = cond (nat_lt c.span.from b.span.from) (Some c) (Some b)

-- the first of those found before and of these
abbrev pub least : Option Clash → List Clash → Option Clash
least f [] = f
least f (c ∷ cs) = least (earlier f c) cs
