-- Nodes of lists that settled.
use Rattle.std.proofs.Common.{◌≡◌, ℕ, List, Option, Some, None, sym, ap, ◌∙◌}
use Rattle.std.specs.Prelude.{option_map, length}
use Rattle.gh_program.specs.declared.names.Occurrence.{Occurrence}
use Rattle.gh_fixity.specs.declared.item.Item.{Item}
use Rattle.gh_fixity.specs.declared.item.Arranged.{Arranged}
use Rattle.gh_fixity.specs.declared.part.Part.{Part}
use Rattle.gh_fixity.specs.declared.part.Sign.{Sign}
use Rattle.gh_fixity.specs.declared.walked.Walked.{Walked}
use Rattle.gh_fixity.specs.declared.walked.Walked.TheVariants as walked
use Rattle.gh_fixity.specs.declared.walked.WalkedPattern.{WalkedPattern}
use Rattle.gh_fixity.specs.declared.walked.WalkedPattern.TheVariants as pat
use Rattle.gh_fixity.specs.Arrangement.{Tree, tree_in}
use Rattle.gh_fixity.specs.Built.{Nodes, op_nodes, pat_nodes, no_operands, no_pattern, settled_tree, left_child, right_child, from_tree}
use Rattle.gh_fixity.specs.Finish.{sign_items, settle_signs, signs, left_signs, right_signs, plain_tree, left_tree, right_tree, pattern_of}
use Rattle.gh_fixity.specs.Fixities.{TopFixities, LocalFixities}

-- the node of a part of the tree that a list settles with
pub from_settled : {N : Type 0} (B : Nodes N) (d : N) (pick : Option Tree → Option Tree) (ts : TopFixities) (ls : LocalFixities) (ps : List Part) (list wanted : List Sign)
    (root due : Option ℕ) (tree child : Option Arranged) (node : N) → list ≡ wanted → root ≡ due
    → option_map (tree_in (sign_items ts ls list)) tree ≡ settled_tree (settle_signs ts ls list root)
    → ((items : List Item) → option_map (tree_in items) child ≡ pick (option_map (tree_in items) tree))
    → ((items : List Item) → node ≡ from_tree B d ps (option_map (tree_in items) child))
    → node ≡ from_tree B d ps (pick (settled_tree (settle_signs ts ls wanted due)))
from_settled B d pick ts ls ps list wanted root due tree child node s r t k h =
    h (sign_items ts ls list)
    ∙ ap (from_tree B d ps) (k (sign_items ts ls list) ∙ ap pick t ∙ (λ i. pick (settled_tree (settle_signs ts ls (s i) (r i)))))

pub plain_at : (ts : TopFixities) (ls : LocalFixities) (w : Walked) (ps : List Part) → w ≡ walked.List ps
    → from_tree op_nodes no_operands ps (settled_tree (settle_signs ts ls (signs ps) None)) ≡ plain_tree ts ls w
unfolding plain_tree
plain_at ts ls w ps e = ap (plain_tree ts ls) (sym e)

pub left_at : (ts : TopFixities) (ls : LocalFixities) (w : Walked) (ps : List Part) (o : Occurrence) → w ≡ walked.List ps
    → from_tree op_nodes no_operands ps (left_child (settled_tree (settle_signs ts ls (left_signs ps o) (Some (length ps))))) ≡ left_tree ts ls w o
unfolding left_tree
left_at ts ls w ps o e = ap (λ x. left_tree ts ls x o) (sym e)

pub right_at : (ts : TopFixities) (ls : LocalFixities) (w : Walked) (ps : List Part) (o : Occurrence) → w ≡ walked.List ps
    → from_tree op_nodes no_operands ps (right_child (settled_tree (settle_signs ts ls (right_signs o ps) (Some 1)))) ≡ right_tree ts ls o w
unfolding right_tree
right_at ts ls w ps o e = ap (right_tree ts ls o) (sym e)

pub pattern_at : (ts : TopFixities) (ls : LocalFixities) (w : WalkedPattern) (ps : List Part) → w ≡ pat.List ps
    → from_tree pat_nodes no_pattern ps (settled_tree (settle_signs ts ls (signs ps) None)) ≡ pattern_of ts ls w
unfolding pattern_of
pattern_at ts ls w ps e = ap (pattern_of ts ls) (sym e)
