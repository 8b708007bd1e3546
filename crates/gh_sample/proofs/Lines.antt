-- Lines and names that are put one after another.
use Rattle.std.proofs.Common.{◌≡◌, ℕ, zero, suc, ◌+◌, ◌<◌, ◌≤◌, List, [], ◌∷◌, ◌++◌, length, map, refl, sym, ap, ◌∙◌, append_assoc, append-nil, add-one, arith}
use Rattle.gh_sample.specs.Sample.{ended, numbers, joined, named, pair_lines, lines_of}

pub ended-append : (a b : List (List ℕ)) → ended (a ++ b) ≡ ended a ++ ended b
ended-append [] b = refl
ended-append (l ∷ a) b = ap (λ t. l ++ 10 ∷ t) (ended-append a b) ∙ sym (append_assoc l (10 ∷ ended a) (ended b))

pub lines_of-append : (a b : List ℕ) → lines_of (a ++ b) ≡ lines_of a ++ lines_of b
lines_of-append [] b = refl
lines_of-append (i ∷ a) b = ap (λ t. pair_lines i ++ t) (lines_of-append a b) ∙ sym (append_assoc (pair_lines i) (lines_of a) (lines_of b))

-- two lines, put one after the other
pub two_lines : (t a b : List ℕ) → (t ++ (a ++ 10 ∷ [])) ++ (b ++ 10 ∷ []) ≡ t ++ ended (a ∷ b ∷ [])
two_lines t a b = append_assoc t (a ++ 10 ∷ []) (b ++ 10 ∷ []) ∙ ap (λ s. t ++ s) (append_assoc a (10 ∷ []) (b ++ 10 ∷ []))

-- one more type
pub pairs_more : (head : List (List ℕ)) (n : ℕ) → ended (head ++ lines_of (numbers n)) ++ ended (pair_lines (n + 1)) ≡ ended (head ++ lines_of (numbers (n + 1)))
pairs_more head n =
    sym (ended-append (head ++ lines_of (numbers n)) (pair_lines (n + 1)))
    ∙ ap ended (append_assoc head (lines_of (numbers n)) (pair_lines (n + 1)))
    ∙ ap (λ t. ended (head ++ t)) (ap (λ t. lines_of (numbers n) ++ t) (sym (append-nil (pair_lines (n + 1)))) ∙ sym (lines_of-append (numbers n) ((n + 1) ∷ [])))
    ∙ ap (λ m. ended (head ++ lines_of (numbers m))) (sym (add-one n))

-- one more text
joined_more : (b y : List ℕ) (xs : List (List ℕ)) → 0 < length xs → joined b (xs ++ y ∷ []) ≡ joined b xs ++ b ++ y
joined_more b y [] h = absurd (omega arith)
joined_more b y (x ∷ []) h = refl
joined_more b y (x ∷ (z ∷ zs)) h =
    ap (λ t. x ++ b ++ t) (joined_more b y (z ∷ zs) (omega arith))
    ∙ ap (λ t. x ++ b ++ t) (append_assoc (joined b (z ∷ zs)) b y)
    ∙ sym (append_assoc (x ++ b) (joined b (z ∷ zs)) (b ++ y))
    ∙ sym (append_assoc (x ++ b ++ joined b (z ∷ zs)) b y)

map_more : (xs : List ℕ) (i : ℕ) → map named (xs ++ i ∷ []) ≡ map named xs ++ named i ∷ []
map_more [] i = refl
map_more (x ∷ xs) i = ap (λ t. named x ∷ t) (map_more xs i)

some_named : (n : ℕ) → 1 ≤ n → 0 < length (map named (numbers n))
some_named zero h = absurd (omega arith)
some_named (suc n) h = some (numbers n)
  where
    some : (xs : List ℕ) → 0 < length (map named (xs ++ (n + 1) ∷ []))
    some [] = omega arith
    some (x ∷ xs) = omega arith

-- one more name
pub names_more : (t b : List ℕ) (n : ℕ) → 1 ≤ n → ((t ++ joined b (map named (numbers n))) ++ b) ++ named (n + 1) ≡ t ++ joined b (map named (numbers (n + 1)))
names_more t b n h =
    append_assoc (t ++ joined b (map named (numbers n))) b (named (n + 1))
    ∙ append_assoc t (joined b (map named (numbers n))) (b ++ named (n + 1))
    ∙ ap (λ s. t ++ s) (sym (append_assoc (joined b (map named (numbers n))) b (named (n + 1)))
    ∙ sym (joined_more b (named (n + 1)) (map named (numbers n)) (some_named n h))
    ∙ ap (joined b) (sym (map_more (numbers n) (n + 1))) ∙ ap (λ m. joined b (map named (numbers m))) (sym (add-one n)))

-- a line in three parts
pub last_line : (t a b c : List ℕ) → ((t ++ a) ++ b) ++ (c ++ 10 ∷ []) ≡ t ++ (((a ++ b) ++ c) ++ 10 ∷ [])
last_line t a b c = simp append_assoc
