use Rattle.std.proofs.Common.{ap, sym, ◌∙◌, reverse}
use Rattle.gh_fixity.specs.declared.item.Arranged.TheVariants as arranged
use Rattle.gh_fixity.specs.Arrangement.{tree_in}
use Rattle.gh_fixity.specs.Built.{built, pat_nodes}
use Rattle.gh_fixity.proofs.Growing.{if_ok, grown_pair}
use Rattle.gh_fixity.proofs.grow.+grow_pattern.Goals as goal

pub returns : goal.returns
returns t c =
    if_ok c.pat_pair.result
    (λ node p items.
    ap (λ u. built pat_nodes (tree_in items u) (reverse c.args.waiting.now))
    (c.in-Pair.is ∙ (λ i. arranged.Pair c.in-Pair.field-0 (sym c.into_inner.ensures i) (sym c.into_inner-in-Pair.ensures i)))
    ∙ grown_pair pat_nodes items c.in-Pair.field-0 c.into_inner.result c.into_inner-in-Pair.result (reverse c.args.waiting.now) (reverse c.grow_pattern.new.waiting)
    (reverse c.next-in-Pair.new.waiting) (reverse c.grow_pattern-in-Pair.new.waiting) c.next-in-Pair.result c.in_ok-op-in-Pair.op c.in_ok-left-in-Pair.left
    c.in_ok-right-in-Pair.right node (c.in_ok-left-in-Pair.ensures items) c.next-in-Pair.ensures.part c.next-in-Pair.ensures.rest c.in_ok-op-in-Pair.ensures
    (c.in_ok-right-in-Pair.ensures items) p)
    c.pat_pair.ensures
