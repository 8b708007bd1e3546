use Rattle.std.proofs.Common.{◌++◌, sym, ap, ◌∙◌, arith}
use Rattle.gh_declarations.specs.Inside.{Found, declared_at}
use Rattle.gh_declarations.proofs.InsideAt.{decl_item_at}
use Rattle.gh_declarations.proofs.Steps.{flat_more}
use Rattle.gh_declarations.proofs.declared.add_items.Goals as goal

pub loop-item-preserved : goal.loop-item-preserved
loop-item-preserved c =
    flat_more declared_at c.args.decls.now c.loop-item.item-index c.item-item.result c.args.list.now c.loop-item.list c.add_declared.new.list
    (omega arith) c.item-item.is c.loop-item.invariant
    (c.in_ok-add_declared.ensures ∙ ap (λ l. c.loop-item.list ++ l) (ap (λ (d : Found). d.declared) (sym (decl_item_at c.item-item.result))))
