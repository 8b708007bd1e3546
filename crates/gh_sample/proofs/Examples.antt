-- The definition at work.
use Rattle.std.proofs.Common.{◌≡◌, [], ◌∷◌, length, map, refl}
use Rattle.std.specs.Prelude.{codes}
use Rattle.std.specs.Fmt.{digits}
use Rattle.gh_sample.specs.Sample.{ended, filled, numbers, joined, named, type_line, value_line, head_lines, lines_of, main_line, sample_lines}

pub each_mark : filled (codes "12") (codes "a#b##") ≡ codes "a12b1212"
each_mark = refl

pub no_mark : filled (codes "12") (codes "ab") ≡ codes "ab"
no_mark = refl

pub three_numbers : numbers 3 ≡ 1 ∷ 2 ∷ 3 ∷ []
three_numbers = refl

pub name_of_twelve : named 12 ≡ codes "v12"
unfolding digits
name_of_twelve = refl

pub joined_none : joined (codes ", ") [] ≡ []
joined_none = refl

pub joined_one : joined (codes ", ") (codes "ab" ∷ []) ≡ codes "ab"
joined_one = refl

pub joined_three : joined (codes ", ") (codes "a" ∷ codes "b" ∷ codes "c" ∷ []) ≡ codes "a, b, c"
joined_three = refl

pub main_of_one : main_line 1 ≡ codes "main = showInt (v1)"
unfolding digits
main_of_one = refl

pub main_of_two : main_line 2 ≡ codes "main = showInt (v1 + v2)"
unfolding digits
main_of_two = refl

pub type_seven : filled (codes "7") type_line ≡ codes "data T7 f a = L7 a | N7 (f a) (T7 f (a, a))"
unfolding type_line
type_seven = refl

pub types_of_two : length (lines_of (numbers 2)) ≡ 4
types_of_two = refl

pub value_of_two : map (λ i. filled (named i) (codes "<#>")) (numbers 2) ≡ codes "<v1>" ∷ codes "<v2>" ∷ []
unfolding digits
value_of_two = refl

pub length_one : length (ended (sample_lines 1)) ≡ 343
unfolding digits type_line value_line head_lines
length_one = refl

pub length_forty : length (ended (sample_lines 40)) ≡ 4319
unfolding digits type_line value_line head_lines
length_forty = refl
