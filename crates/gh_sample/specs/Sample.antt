-- The sample program, line by line.
use Rattle.std.specs.Prelude.{ℕ, zero, suc, ◌+◌, List, [], ◌∷◌, ◌++◌, codes, map, nat_eq, if◌then◌else◌}
use Rattle.std.specs.Fmt.{decimal}

-- lines as one text, each ended by a line feed
abbrev pub ended : List (List ℕ) → List ℕ
ended [] = []
ended (line ∷ lines) = line ++ 10 ∷ ended lines

-- a line with the digits in place of each `#`
abbrev pub filled : List ℕ → List ℕ → List ℕ
filled digits [] = []
filled digits (c ∷ line) = (if nat_eq c 35 then digits else c ∷ []) ++ filled digits line

-- the numbers from 1 to n
abbrev pub numbers : ℕ → List ℕ
numbers zero = []
numbers (suc n) = numbers n ++ (n + 1) ∷ []

-- texts in a row, with a text between each two
abbrev pub joined : List ℕ → List (List ℕ) → List ℕ
joined between [] = []
joined between (t ∷ []) = t
joined between (t ∷ (u ∷ us)) = t ++ between ++ joined between (u ∷ us)

-- the lines before those of the types
unfoldable pub head_lines : List (List ℕ)
head_lines =
    codes "module Main where" ∷
    codes "total{|a|} :: (total{|a|}) => a -> Int" ∷
    codes "total{|Unit|} u = 0" ∷
    codes "total{|Int|} n = n" ∷
    codes "total{|Sum a b|} (Inl x) = total{|a|} x" ∷
    codes "total{|Sum a b|} (Inr y) = total{|b|} y" ∷
    codes "total{|Prod a b|} (x :*: y) = total{|a|} x + total{|b|} y" ∷ []

-- the two lines of a type, where `#` stands for its number
unfoldable pub type_line : List ℕ
type_line = codes "data T# f a = L# a | N# (f a) (T# f (a, a))"

unfoldable pub value_line : List ℕ
value_line = codes "v# = total{|T# [] Int|} (N# [#] (L# (1, 2)))"

abbrev pub pair_lines : ℕ → List (List ℕ)
pair_lines i = filled (decimal i) type_line ∷ filled (decimal i) value_line ∷ []

-- the lines of the types of these numbers, in order
abbrev pub lines_of : List ℕ → List (List ℕ)
lines_of [] = []
lines_of (i ∷ is) = pair_lines i ++ lines_of is

-- the name of the value of a type
abbrev pub named : ℕ → List ℕ
named i = codes "v" ++ decimal i

abbrev pub main_line : ℕ → List ℕ
main_line n = codes "main = showInt (" ++ joined (codes " + ") (map named (numbers n)) ++ codes ")"

-- the whole program with n types
abbrev pub sample_lines : ℕ → List (List ℕ)
sample_lines n = head_lines ++ lines_of (numbers n) ++ main_line n ∷ []
