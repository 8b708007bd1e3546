-- What stands at the front of a list.
use Rattle.std.proofs.Common.{◌≡◌, ℕ, suc, ◌+◌, ◌<◌, ◌≤◌, List, take, ◌∷◌, drop, length, get_or, add-one, ap, sym}
use Rattle.std.proofs.lemmas.List.{take_all}
use Rattle.std.proofs.Math.Seq.{drop-cons}

pub whole_front_of : (n : ℕ) (xs : List ℕ) → length xs ≤ n → xs ≡ take n xs
whole_front_of n xs h = sym (take_all n xs h)
