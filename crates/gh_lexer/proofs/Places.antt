-- Lines and columns, byte by byte.
use Rattle.std.proofs.Common.{◌≡◌, ℕ, suc, ◌+◌, ◌-◌, ◌<◌, List, length, drop, get_or, ap, ◌∙◌, arith}
use Rattle.gh_lexer.specs.declared.place.Place.{Place}
use Rattle.gh_lexer.specs.Place.{past, moved}
use Rattle.gh_lexer.proofs.Literals.{front_at}

pub moved_step : (bytes : List ℕ) (n at : ℕ) (p : Place) → at < n → at < length bytes
    → moved (n - at) (drop at bytes) p ≡ moved (n - (at + 1)) (drop (at + 1) bytes) (past (get_or bytes at 0) (drop (at + 1) bytes) p)
moved_step bytes n at p h lt =
    let more : n - at ≡ suc (n - (at + 1)) = omega arith in
    ap (λ k. moved k (drop at bytes) p) more ∙ ap (λ xs. moved (suc (n - (at + 1))) xs p) (front_at bytes at lt)
