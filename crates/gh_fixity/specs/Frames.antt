-- The frames of the reader as what is open, the innermost first.
use Rattle.std.specs.Prelude.{Bool, false, List, [], ◌∷◌, slice_get}
use Rattle.gh_fixity.specs.declared.item.Fixity.{Fixity}
use Rattle.gh_fixity.specs.declared.item.Item.{Item}
use Rattle.gh_fixity.specs.declared.stack.Frame.{Frame}
use Rattle.gh_fixity.specs.declared.stack.Frame.TheVariants as frame
use Rattle.gh_fixity.specs.Arrangement.{fixity_in, or_default, may_be_left, tree_in}
use Rattle.gh_fixity.specs.Stack.{Open, after_minus, after, open_fixity}

abbrev pub open_of : List Item → Frame → Open
open_of items frame.Minus = after_minus
open_of items (frame.Op p left) = after p (or_default (fixity_in (slice_get items p))) (tree_in items left)

abbrev pub opens_onto : List Item → List Open → List Frame → List Open
opens_onto items gs [] = gs
opens_onto items gs (x ∷ xs) = opens_onto items (open_of items x ∷ gs) xs

abbrev pub opens : List Item → List Frame → List Open
opens items xs = opens_onto items [] xs

-- whether the innermost may be the left child of an operator
abbrev pub closes_top : List Open → Fixity → Bool
closes_top [] f = false
closes_top (g ∷ gs) f = may_be_left f (open_fixity g)
