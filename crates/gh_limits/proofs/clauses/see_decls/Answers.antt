use Rattle.std.proofs.Common.{arith, sym, ap, ◌∙◌}
use Rattle.gh_limits.specs.Inside.{Declared, names_at}
use Rattle.gh_limits.specs.Seen.{keeps}
use Rattle.gh_limits.proofs.InsideAt.{decl_item_at}
use Rattle.gh_limits.proofs.Seen.{see_more}
use Rattle.gh_limits.proofs.clauses.see_decls.Goals as goal

pub loop-item-preserved : goal.loop-item-preserved
loop-item-preserved c =
    see_more names_at c.args.decls.now c.loop-item.item-index c.item-item.result c.args.seen.now.items c.loop-item.seen.items c.see_decl.new.seen.items
    (omega arith) c.item-item.is c.loop-item.invariant (c.see_decl.ensures ∙ ap (λ (d : Declared). keeps c.loop-item.seen.items d.names) (sym (decl_item_at _)))
