-- The definition at work.
use Rattle.std.proofs.Common.{◌≡◌, true, false, List, [], ◌∷◌, Some, refl}
use Rattle.gh_base.specs.declared.place.Span.{Span}
use Rattle.gh_fixity.specs.declared.item.Fixity.{Fixity}
use Rattle.gh_fixity.specs.declared.item.Side.TheVariants.{Left, Right, Neither}
use Rattle.gh_fixity.specs.declared.item.Item.{Item}
use Rattle.gh_fixity.specs.declared.item.Item.TheVariants as item
use Rattle.gh_fixity.specs.Arrangement.{leaf, minus, pair, fits, Arranges, is_list, level_at, up_to}

abbrev at : Span
at = record { file = 0; from = 0; to = 0 }

abbrev left4 : Fixity
left4 = record { side = Left; level = 4 }

abbrev right4 : Fixity
right4 = record { side = Right; level = 4 }

abbrev none4 : Fixity
none4 = record { side = Neither; level = 4 }

abbrev left6 : Fixity
left6 = record { side = Left; level = 6 }

abbrev right6 : Fixity
right6 = record { side = Right; level = 6 }

abbrev left7 : Fixity
left7 = record { side = Left; level = 7 }

-- a f b g c
abbrev two : Fixity → Fixity → List Item
two f g = item.Leaf 0 ∷ item.Op f at ∷ item.Leaf 1 ∷ item.Op g at ∷ item.Leaf 2 ∷ []

pub left_twice : Arranges (two left4 left4) (pair 3 left4 (pair 1 left4 (leaf 0) (leaf 2)) (leaf 4))
left_twice = record { in_list = refl; fitting = refl }

pub right_twice : Arranges (two right4 right4) (pair 1 right4 (leaf 0) (pair 3 right4 (leaf 2) (leaf 4)))
right_twice = record { in_list = refl; fitting = refl }

pub right_not_to_the_left : fits (pair 3 right4 (pair 1 right4 (leaf 0) (leaf 2)) (leaf 4)) ≡ false
right_not_to_the_left = refl

pub neither_to_the_left : fits (pair 3 none4 (pair 1 none4 (leaf 0) (leaf 2)) (leaf 4)) ≡ false
neither_to_the_left = refl

pub neither_to_the_right : fits (pair 1 none4 (leaf 0) (pair 3 none4 (leaf 2) (leaf 4))) ≡ false
neither_to_the_right = refl

pub left_under_right : fits (pair 3 right4 (pair 1 left4 (leaf 0) (leaf 2)) (leaf 4)) ≡ false
left_under_right = refl

pub higher_to_the_right : Arranges (two left6 left7) (pair 1 left6 (leaf 0) (pair 3 left7 (leaf 2) (leaf 4)))
higher_to_the_right = record { in_list = refl; fitting = refl }

pub higher_to_the_left : Arranges (two left7 left6) (pair 3 left6 (pair 1 left7 (leaf 0) (leaf 2)) (leaf 4))
higher_to_the_left = record { in_list = refl; fitting = refl }

pub minus_to_the_left : Arranges (item.Minus at ∷ item.Leaf 0 ∷ item.Op left6 at ∷ item.Leaf 1 ∷ []) (pair 2 left6 (minus (leaf 1)) (leaf 3))
minus_to_the_left = record { in_list = refl; fitting = refl }

pub minus_over_a_product : Arranges (item.Minus at ∷ item.Leaf 0 ∷ item.Op left7 at ∷ item.Leaf 1 ∷ []) (minus (pair 2 left7 (leaf 1) (leaf 3)))
minus_over_a_product = record { in_list = refl; fitting = refl }

pub minus_over_a_sum : fits (minus (pair 2 left6 (leaf 1) (leaf 3))) ≡ false
minus_over_a_sum = refl

pub minus_under_a_right_sum : fits (pair 2 right6 (minus (leaf 1)) (leaf 3)) ≡ false
minus_under_a_right_sum = refl

pub minus_to_the_right : Arranges (item.Leaf 0 ∷ item.Op none4 at ∷ item.Minus at ∷ item.Leaf 1 ∷ []) (pair 1 none4 (leaf 0) (minus (leaf 3)))
minus_to_the_right = record { in_list = refl; fitting = refl }

pub minus_to_the_right_of_a_sum : fits (pair 1 left6 (leaf 0) (minus (leaf 3))) ≡ false
minus_to_the_right_of_a_sum = refl

pub a_list : is_list (item.Minus at ∷ item.Leaf 0 ∷ item.Op left6 at ∷ item.Minus at ∷ item.Leaf 1 ∷ []) ≡ true
a_list = refl

pub no_list_of_two_leaves : is_list (item.Leaf 0 ∷ item.Leaf 1 ∷ []) ≡ false
no_list_of_two_leaves = refl

pub no_list_of_two_signs : is_list (item.Minus at ∷ item.Minus at ∷ item.Leaf 1 ∷ []) ≡ false
no_list_of_two_signs = refl

pub level_of_minus : level_at (item.Minus at ∷ item.Leaf 0 ∷ []) 0 ≡ Some 6
level_of_minus = refl

pub up_to_an_operator : up_to (item.Leaf 0 ∷ item.Op left6 at ∷ item.Minus at ∷ item.Leaf 1 ∷ item.Op left4 at ∷ item.Leaf 2 ∷ []) 1 ≡ item.Leaf 0 ∷ item.Op left6 at ∷ item.Leaf 1 ∷ []
up_to_an_operator = refl

pub up_to_a_minus : up_to (item.Leaf 0 ∷ item.Op left6 at ∷ item.Minus at ∷ item.Leaf 1 ∷ item.Op left4 at ∷ item.Leaf 2 ∷ []) 2 ≡ item.Leaf 0 ∷ item.Op left6 at ∷ item.Minus at ∷ item.Leaf 1 ∷ []
up_to_a_minus = refl
