use Rattle.std.proofs.Common.{arith}
use Rattle.gh_core_lint.proofs.Lists.{clash_seen, alike_more}
use Rattle.gh_core_lint.proofs.rules.alike_rule.Goals as goal

pub returns-then-not-same-clause-err : goal.returns-then-not-same-clause-err
returns-then-not-same-clause-err c =
    clash_seen c.args.wanted.now c.args.found.now c.args.node c.loop-place.place
    c.index-found-place.result c.index-found-place-then-not-same.result c.in_ok-share.field-0 c.in_ok-share-2.field-0 (omega arith) c.loop-place.invariant
    c.index-found-place.is c.index-found-place-then-not-same.is c.in_ok-share.ensures c.in_ok-share-2.ensures
    (λ h. let yes = c.same.ensures.1 h in let no = c.if-not-same.true in absurd (cc))

pub loop-place-preserved : goal.loop-place-preserved
loop-place-preserved c =
    alike_more c.args.wanted.now c.args.found.now c.loop-place.place c.index-found-place.result (omega arith)
    c.index-found-place.is (c.same.ensures.0 (let yes = c.if-not-same.false in cc)) c.loop-place.invariant
