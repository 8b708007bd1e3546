use Rattle.gh_kind_unify.proofs.Turns.{settling_next}
use Rattle.gh_kind_unify.proofs.settling.settle_all.Goals as goal

pub next-preserved : goal.next-preserved
next-preserved c =
    settling_next c.args.cells.now c.next.cells c.settle-more.new.cells c.args.rules.items c.next.todo.items c.pop.new.self.items c.add.new.todo.items
    c.in-Some.rule c.settle-more.result c.next.invariant c.in-Some.ensures.items c.settle-more.ensures c.in_default-more.not-Clash c.in_ok-add.ensures
