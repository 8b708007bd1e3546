-- Lists of operands and of patterns, sections, and left sides of functions, as trees.
use Rattle.std.specs.Prelude.{ℕ, List, [], ◌∷◌, ◌++◌, map, length, Option, Some, None}
use Rattle.gh_program.specs.declared.names.Occurrence.{Occurrence}
use Rattle.gh_program.specs.declared.patterns.Pattern.{Pattern}
use Rattle.gh_program.specs.declared.expressions.Operands.{Operands}
use Rattle.gh_fixity.specs.declared.item.Item.{Item}
use Rattle.gh_fixity.specs.declared.part.Part.{Part}
use Rattle.gh_fixity.specs.declared.part.Sign.{Sign}
use Rattle.gh_fixity.specs.declared.part.Sign.TheVariants as sign
use Rattle.gh_fixity.specs.declared.part.Clash.{Clash}
use Rattle.gh_fixity.specs.declared.walked.Walked.{Walked}
use Rattle.gh_fixity.specs.declared.walked.Walked.TheVariants as walked
use Rattle.gh_fixity.specs.declared.walked.WalkedPattern.{WalkedPattern}
use Rattle.gh_fixity.specs.declared.walked.WalkedPattern.TheVariants as pat
use Rattle.gh_fixity.specs.Built.{op_nodes, pat_nodes, no_operands, no_pattern, settled_tree, left_child, right_child, from_tree}
use Rattle.gh_fixity.specs.Fixities.{TopFixities, LocalFixities}
use Rattle.gh_fixity.specs.Parts.{part_sign, item_of, clash_at}
use Rattle.gh_fixity.specs.Settle.{Settling, goes, fails, settle}
use Rattle.gh_fixity.specs.Walks.{Walk}

abbrev pub sign_items : TopFixities → LocalFixities → List Sign → List Item
sign_items ts ls ss = map (item_of ts ls) ss

-- what becomes of a list of which a place has to be the root, or any may be
abbrev pub settle_signs : TopFixities → LocalFixities → List Sign → Option ℕ → Settling
settle_signs ts ls ss root = settle (sign_items ts ls ss) root

abbrev pub clash_list : List Sign → Settling → List Clash
clash_list ss (goes t) = []
clash_list ss (fails l r) = clash_at ss l r ∷ []

abbrev pub signs : List Part → List Sign
signs ps = map part_sign ps

-- a list of operands; what is a tree already stays
unfoldable pub plain_tree : TopFixities → LocalFixities → Walked → Operands
plain_tree ts ls (walked.List ps) = from_tree op_nodes no_operands ps (settled_tree (settle_signs ts ls (signs ps) None))
plain_tree ts ls (walked.Tree n) = n

unfoldable pub plain_clashes : TopFixities → LocalFixities → Walked → List Clash
plain_clashes ts ls (walked.List ps) = clash_list (signs ps) (settle_signs ts ls (signs ps) None)
plain_clashes ts ls (walked.Tree n) = []

-- a section without its right operand: a leaf stands for that, and the operator is the root
abbrev pub left_signs : List Part → Occurrence → List Sign
left_signs ps o = signs ps ++ sign.Op o ∷ sign.Leaf ∷ []

unfoldable pub left_tree : TopFixities → LocalFixities → Walked → Occurrence → Operands
left_tree ts ls (walked.List ps) o = from_tree op_nodes no_operands ps (left_child (settled_tree (settle_signs ts ls (left_signs ps o) (Some (length ps)))))
left_tree ts ls (walked.Tree n) o = n

unfoldable pub left_clashes : TopFixities → LocalFixities → Walked → Occurrence → List Clash
left_clashes ts ls (walked.List ps) o = clash_list (left_signs ps o) (settle_signs ts ls (left_signs ps o) (Some (length ps)))
left_clashes ts ls (walked.Tree n) o = []

-- a section without its left operand
abbrev pub right_signs : Occurrence → List Part → List Sign
right_signs o ps = sign.Leaf ∷ sign.Op o ∷ signs ps

unfoldable pub right_tree : TopFixities → LocalFixities → Occurrence → Walked → Operands
right_tree ts ls o (walked.List ps) = from_tree op_nodes no_operands ps (right_child (settled_tree (settle_signs ts ls (right_signs o ps) (Some 1))))
right_tree ts ls o (walked.Tree n) = n

unfoldable pub right_clashes : TopFixities → LocalFixities → Occurrence → Walked → List Clash
right_clashes ts ls o (walked.List ps) = clash_list (right_signs o ps) (settle_signs ts ls (right_signs o ps) (Some 1))
right_clashes ts ls o (walked.Tree n) = []

-- operands, where they stand by themselves
abbrev pub finished : TopFixities → Walk Walked → Walk Operands
finished ts g = λ l. record { tree = plain_tree ts l (g l).tree; clashes = (g l).clashes ++ plain_clashes ts l (g l).tree }

-- a list of patterns
unfoldable pub pattern_of : TopFixities → LocalFixities → WalkedPattern → Pattern
pattern_of ts ls (pat.List ps) = from_tree pat_nodes no_pattern ps (settled_tree (settle_signs ts ls (signs ps) None))
pattern_of ts ls (pat.Tree n) = n

unfoldable pub pattern_own : TopFixities → LocalFixities → WalkedPattern → List Clash
pattern_own ts ls (pat.List ps) = clash_list (signs ps) (settle_signs ts ls (signs ps) None)
pattern_own ts ls (pat.Tree n) = []

abbrev pub finished_pattern : TopFixities → Walk WalkedPattern → Walk Pattern
finished_pattern ts g = λ l. record { tree = pattern_of ts l (g l).tree; clashes = (g l).clashes ++ pattern_own ts l (g l).tree }

-- the left side of a function that is an operator: one list, whose root is that operator
abbrev pub lhs_signs : List Part → Occurrence → List Part → List Sign
lhs_signs ps o qs = signs ps ++ sign.Op o ∷ signs qs

abbrev pub lhs_settled : TopFixities → LocalFixities → List Part → Occurrence → List Part → Settling
lhs_settled ts ls ps o qs = settle_signs ts ls (lhs_signs ps o qs) (Some (length ps))

unfoldable pub lhs_left : TopFixities → LocalFixities → WalkedPattern → Occurrence → WalkedPattern → Pattern
lhs_left ts ls (pat.List ps) o (pat.List qs) = from_tree pat_nodes no_pattern ps (left_child (settled_tree (lhs_settled ts ls ps o qs)))
lhs_left ts ls (pat.List ps) o (pat.Tree n) = pattern_of ts ls (pat.List ps)
lhs_left ts ls (pat.Tree m) o q = m

unfoldable pub lhs_right : TopFixities → LocalFixities → WalkedPattern → Occurrence → WalkedPattern → Pattern
lhs_right ts ls (pat.List ps) o (pat.List qs) = from_tree pat_nodes no_pattern qs (right_child (settled_tree (lhs_settled ts ls ps o qs)))
lhs_right ts ls (pat.List ps) o (pat.Tree n) = n
lhs_right ts ls (pat.Tree m) o q = pattern_of ts ls q

unfoldable pub lhs_clashes : TopFixities → LocalFixities → WalkedPattern → Occurrence → WalkedPattern → List Clash
lhs_clashes ts ls (pat.List ps) o (pat.List qs) = clash_list (lhs_signs ps o qs) (lhs_settled ts ls ps o qs)
lhs_clashes ts ls (pat.List ps) o (pat.Tree n) = pattern_own ts ls (pat.List ps)
lhs_clashes ts ls (pat.Tree m) o q = pattern_own ts ls q
