-- Kinds as plain trees.
use Rattle.std.proofs.Common.{◌≡◌, ℕ, suc, ◌+◌, ◌<◌, ◌≤◌, refl, sym, ap, ◌∙◌, arith}
use Rattle.gh_typeterm.specs.declared.kind.Kind.{Kind, fold-Kind, fold-roll-Kind}
use Rattle.gh_typeterm.specs.declared.kind.Kind.TheVariants as kind
use Rattle.gh_typeterm.specs.declared.kind.Kind.TheOpen.{Kind-F}
use Rattle.gh_kind_unify.specs.Kinds.{Tree, star, arrow, tree, tree_step, nodes, arrows}

pub tree_star : tree kind.Star ≡ star
tree_star = ap (fold-Kind Tree tree_step) (sym kind.rolls-Star) ∙ fold-roll-Kind Tree tree_step Kind-F.Star

pub tree_arrow : (a b : Kind) → tree (kind.Arrow a b) ≡ arrow (tree a) (tree b)
tree_arrow a b = ap (fold-Kind Tree tree_step) (sym (kind.rolls-Arrow a b)) ∙ fold-roll-Kind Tree tree_step (Kind-F.Arrow a b)

-- nodes and arrows
pub nodes_by_arrows : (t : Tree) → nodes t ≡ suc (arrows t + arrows t)
nodes_by_arrows star = refl
nodes_by_arrows (arrow a b) = let p = nodes_by_arrows a in let q = nodes_by_arrows b in omega (arith, p, q)

pub nodes_positive : (k : Kind) → 0 < nodes (tree k)
nodes_positive k = let p = nodes_by_arrows (tree k) in omega (arith, p)

pub nodes_star : nodes (tree kind.Star) ≡ 1
nodes_star = ap nodes tree_star

pub nodes_arrow : (a b : Kind) → nodes (tree (kind.Arrow a b)) ≡ suc (nodes (tree a) + nodes (tree b))
nodes_arrow a b = ap nodes (tree_arrow a b)
