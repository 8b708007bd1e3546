use Rattle.std.proofs.lemmas.Result.{IfOk-weaker}
use Rattle.gh_unify.specs.Steps.{Reached, Blocked}
use Rattle.gh_unify.proofs.Going.{read_reached, read_blocked, read_are_free, all_refused}
use Rattle.gh_unify.proofs.solving.solve.Goals as goal

pub solve_read-requires-clause-left : goal.solve_read-requires-clause-left
solve_read-requires-clause-left c =
    read_are_free c.args.kept.now c.in-Ok.made.items c.args.a.now c.in-Ok-read.left c.requires.tidy c.requires.left c.in-Ok.ensures c.in-Ok-read.ensures

pub solve_read-requires-clause-right : goal.solve_read-requires-clause-right
solve_read-requires-clause-right c =
    read_are_free c.args.kept.now c.in-Ok.made.items c.args.b.now c.in-Ok-read-2.right c.requires.tidy c.requires.right c.in-Ok.ensures c.in-Ok-read-2.ensures

pub returns-clause-ok : goal.returns-clause-ok
returns-clause-ok c =
    let kept = c.args.kept.now in
    let made = c.in-Ok.made.items in
    IfOk-weaker c.solve_read.result (λ end. Reached made c.in-Ok-read.left c.in-Ok-read-2.right end.items) (λ end. Reached kept c.args.a.now c.args.b.now end.items)
    (λ end. read_reached kept made end.items c.args.a.now c.args.b.now c.in-Ok-read.left c.in-Ok-read-2.right c.requires.tidy c.in-Ok.ensures c.in-Ok-read.ensures c.in-Ok-read-2.ensures)
    c.solve_read.ensures.ok

pub returns-clause-refused : goal.returns-clause-refused
returns-clause-refused c =
    let kept = c.args.kept.now in
    let made = c.in-Ok.made.items in
    all_refused c.solve_read.result (λ fault. Blocked fault made c.in-Ok-read.left c.in-Ok-read-2.right) (λ fault. Blocked fault kept c.args.a.now c.args.b.now)
    (λ fault. read_blocked fault kept made c.args.a.now c.args.b.now c.in-Ok-read.left c.in-Ok-read-2.right c.in-Ok.ensures c.in-Ok-read.ensures c.in-Ok-read-2.ensures)
    c.solve_read.ensures.refused
