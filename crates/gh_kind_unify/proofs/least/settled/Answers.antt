use Rattle.gh_kind_unify.proofs.Failing.{settled_back, none_back}
use Rattle.gh_kind_unify.proofs.least.settled.Goals as goal

pub returns-then-met : goal.returns-then-met
returns-then-met c =
    settled_back c.as_mut_slice.result.now c.in_ok-cells.cells.items c.settle_all.new.cells c.in_ok-cells.cells.len c.args.count c.args.rules.now
    c.in_ok-todo.todo.items c.as_mut_slice.ensures.value c.as_mut_slice.ensures.len c.in_ok-cells.ensures.length c.in_ok-cells.ensures.free
    (c.in_ok-met.ensures.yes c.if-met.true) c.in_ok-todo.ensures

pub returns : goal.returns
returns c =
    none_back c.as_mut_slice.result.now c.in_ok-cells.cells.items c.args.rules.now c.in_ok-todo.todo.items c.as_mut_slice.ensures.value
    c.in_ok-cells.ensures.free (c.in_ok-met.ensures.no c.if-met.false) c.in_ok-todo.ensures
