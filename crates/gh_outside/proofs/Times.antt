-- How often a name stands in a list that has one name more.
use Rattle.std.proofs.Common.{◌≡◌, ◌≢◌, ℕ, ◌+◌, false, List, [], ◌∷◌, ◌++◌, refl, sym, ap, ◌∙◌, arith, if◌then◌else◌}
use Rattle.std.proofs.lemmas.Bool.{false_from_ne_true}
use Rattle.std.proofs.lemmas.Slice.Eq.{bytes_eq-Decides}
use Rattle.std.specs.Str.{bytes_eq}
use Rattle.gh_outside.specs.Shelves.{times}

abbrev one_at : List ℕ → List ℕ → ℕ
one_at m n = if bytes_eq m n then 1 else 0

times_push : (n m : List ℕ) (ns : List (List ℕ)) → times n (ns ++ m ∷ []) ≡ times n ns + one_at m n
times_push n m [] = omega arith
times_push n m (x ∷ ns) = omega (arith, times_push n m ns)

pub times_pushed : (n : List ℕ) (ns : List (List ℕ)) → times n (ns ++ n ∷ []) ≡ times n ns + 1
times_pushed n ns = times_push n n ns ∙ ap (λ b. times n ns + (if b then 1 else 0)) ((bytes_eq-Decides n n).1 refl)

pub times_pushed_other : (n m : List ℕ) (ns : List (List ℕ)) → n ≢ m → times n (ns ++ m ∷ []) ≡ times n ns
times_pushed_other n m ns other =
    let no : bytes_eq m n ≡ false = false_from_ne_true (bytes_eq m n) (λ yes. other (sym ((bytes_eq-Decides m n).0 yes))) in
    times_push n m ns ∙ ap (λ b. times n ns + (if b then 1 else 0)) no ∙ omega arith
