-- The numbers of free variables in types.
use Rattle.std.specs.Prelude.{ℕ, suc, ◌<◌, max, List, [], ◌∷◌}
use Rattle.gh_core.specs.SameType.{Nameless, bound, free, con, applied, forall, any}

-- the first number above all free variables of a type
abbrev pub above : Nameless → ℕ
above (bound i) = 0
above (free x) = suc x
above (con c) = 0
above (applied f x) = max (above f) (above x)
above (forall k b) = above b
above (any k) = 0

abbrev pub above_all : List Nameless → ℕ
above_all [] = 0
above_all (t ∷ ts) = max (above t) (above_all ts)
