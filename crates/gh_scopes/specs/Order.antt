-- The order of the files: again and again the first one, by number, that was not taken and all of whose imports were.
use Rattle.std.specs.Prelude.{ℕ, zero, suc, Bool, ◌&&◌, not, ◌==◌, if◌then◌else◌, List, [], ◌∷◌, ◌++◌, length, Option, Some, None}
use Rattle.std.specs.List.{list_any, list_all}

abbrev pub taken : List ℕ → ℕ → Bool
taken done f = list_any (λ g. g == f) done

abbrev pub is_ready : List ℕ → ℕ → List ℕ → Bool
is_ready done f imports = not (taken done f) && list_all (taken done) imports

-- the first ready file, where these files stand from a number on
abbrev pub first_ready : List ℕ → ℕ → List (List ℕ) → Option ℕ
first_ready done f [] = None
first_ready done f (imports ∷ rest) = if is_ready done f imports then Some f else first_ready done (suc f) rest

-- one file more, if one is ready
abbrev pub with_ready : List ℕ → Option ℕ → List ℕ
with_ready done None = done
with_ready done (Some f) = done ++ f ∷ []

abbrev pub taken_from : List (List ℕ) → ℕ → List ℕ → List ℕ
taken_from g zero done = done
taken_from g (suc n) done = taken_from g n (with_ready done (first_ready done 0 g))

abbrev pub order_of : List (List ℕ) → List ℕ
order_of g = taken_from g (length g) []
