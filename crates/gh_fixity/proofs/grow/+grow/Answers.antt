use Rattle.std.proofs.Common.{ap, sym, ◌∙◌, reverse}
use Rattle.gh_fixity.specs.declared.item.Arranged.TheVariants as arranged
use Rattle.gh_fixity.specs.Arrangement.{tree_in}
use Rattle.gh_fixity.specs.Built.{built, op_nodes}
use Rattle.gh_fixity.proofs.Growing.{if_ok, grown_minus, grown_pair}
use Rattle.gh_fixity.proofs.grow.+grow.Goals as goal

pub returns-in_ok-operand-in-Minus : goal.returns-in_ok-operand-in-Minus
returns-in_ok-operand-in-Minus t c =
    if_ok c.negate.result
    (λ node p items.
    ap (λ u. built op_nodes (tree_in items u) (reverse c.args.waiting.now)) (c.in-Minus.is ∙ ap arranged.Minus (sym c.into_inner.ensures))
    ∙ grown_minus op_nodes items c.into_inner.result (reverse c.args.waiting.now) (reverse c.next-in-Minus.new.waiting) (reverse c.grow.new.waiting) c.next-in-Minus.result
    c.in_ok-mark-in-Minus.mark c.in_ok-operand-in-Minus.operand node c.next-in-Minus.ensures.part c.next-in-Minus.ensures.rest c.in_ok-mark-in-Minus.ensures
    (c.in_ok-operand-in-Minus.ensures items) p)
    c.negate.ensures

pub returns-in_ok-right-in-Pair : goal.returns-in_ok-right-in-Pair
returns-in_ok-right-in-Pair t c =
    if_ok c.pair.result
    (λ node p items.
    ap (λ u. built op_nodes (tree_in items u) (reverse c.args.waiting.now))
    (c.in-Pair.is ∙ (λ i. arranged.Pair c.in-Pair.field-0 (sym c.into_inner-in-Pair.ensures i) (sym c.into_inner-in-Pair-2.ensures i)))
    ∙ grown_pair op_nodes items c.in-Pair.field-0 c.into_inner-in-Pair.result c.into_inner-in-Pair-2.result (reverse c.args.waiting.now) (reverse c.grow-in-Pair.new.waiting)
    (reverse c.next-in-Pair.new.waiting) (reverse c.grow-in-Pair-2.new.waiting) c.next-in-Pair.result c.in_ok-op-in-Pair.op c.in_ok-left-in-Pair.left
    c.in_ok-right-in-Pair.right node (c.in_ok-left-in-Pair.ensures items) c.next-in-Pair.ensures.part c.next-in-Pair.ensures.rest c.in_ok-op-in-Pair.ensures
    (c.in_ok-right-in-Pair.ensures items) p)
    c.pair.ensures
