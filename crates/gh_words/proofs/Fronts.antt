-- What stands at a place of a list.
use Rattle.std.proofs.Common.{◌≡◌, ℕ, suc, ◌+◌, ◌<◌, ◌≤◌, List, take, ◌∷◌, drop, length, get_or, add-one, ap, sym}
use Rattle.std.proofs.lemmas.List.{take_all}
use Rattle.std.proofs.Math.Seq.{drop-cons}

pub front_of : {A : Type 0} → (xs : List A) (at : ℕ) (x : A) → at < length xs → x ≡ get_or xs at x → drop at xs ≡ x ∷ drop (at + 1) xs
front_of xs at x h is = rw (add-one, drop-cons xs at x) (ap (λ y. y ∷ drop (suc at) xs) (sym is))
