use Rattle.std.proofs.Common.{arith, ◌+◌, ◌++◌, map, drop, ap, ◌∙◌}
use Rattle.gh_declarations.specs.Tops.{item_at, case_failures}
use Rattle.gh_declarations.proofs.CaseSteps.{case_more}
use Rattle.gh_declarations.proofs.cases.add_next_cases.Goals as goal

pub loop-next-preserved : goal.loop-next-preserved
loop-next-preserved c =
    ap (λ f. c.add_unequal_case.new.failures ++ case_failures f (map item_at (drop (c.loop-next.next-index + 1) c.args.items.now))) c.first_case-first.ensures
    ∙ case_more c.args.items.now c.loop-next.next-index c.next-item.result c.loop-next.first.now c.loop-next.failures c.add_unequal_case.new.failures
    (c.args.failures.now ++ case_failures c.args.first.now (map item_at c.args.items.now))
    (omega arith) c.next-item.is c.loop-next.invariant c.in_ok-add_unequal_case.ensures
