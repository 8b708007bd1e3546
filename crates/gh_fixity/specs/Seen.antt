-- What the grammar still gives of an operator list.
use Rattle.std.specs.Prelude.{Bool, false, List, ◌∷◌, Option, Some, None}
use Rattle.gh_fixity.specs.declared.item.Item.{Item}
use Rattle.gh_fixity.specs.declared.item.Item.TheVariants as item
use Rattle.gh_fixity.specs.declared.finish.Seen.{Seen}
use Rattle.gh_fixity.specs.declared.finish.Seen.TheVariants as seen
use Rattle.gh_fixity.specs.Arrangement.{is_list, is_rest}

abbrev pub is_signed : List Item → Bool
is_signed (item.Leaf n ∷ xs) = is_rest xs
is_signed xs = false

abbrev pub goes_from : Seen → List Item → Bool
goes_from seen.Start xs = is_list xs
goes_from seen.Sign xs = is_signed xs
goes_from seen.Leaf xs = is_rest xs

abbrev pub goes_on : Option Seen → List Item → Bool
goes_on None xs = false
goes_on (Some s) xs = goes_from s xs
