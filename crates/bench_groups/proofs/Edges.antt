-- One more edge below a count.
use Rattle.std.proofs.Common.{ℕ, ◌<◌, List, [], ◌∷◌, ◌++◌}
use Rattle.gh_groups.specs.Grouping.{AreBelow}

pub below_more : (count a b : ℕ) (edges : List (ℕ × ℕ)) → AreBelow count edges → a < count → b < count → AreBelow count (edges ++ (a, b) ∷ [])
below_more count a b [] h l m = (l, m, tt)
below_more count a b (e ∷ edges) h l m = (h.0, h.1, below_more count a b edges h.2 l m)
