use Rattle.std.proofs.Common.{◌≡◌, sym, ap, ◌∙◌, arith}
use Rattle.gh_core.specs.Typing.{con_origin, times_named}
use Rattle.gh_core_lint.proofs.Alternatives.{chosen_from, once_more, once_one}
use Rattle.gh_core_lint.proofs.Nodes.{never}
use Rattle.gh_core_lint.proofs.cases.each_once.Goals as goal

pub returns-then-times-ne1 : goal.returns-then-times-ne1
returns-then-times-ne1 c =
    let bs = chosen_from c.args.alternatives.now in
    let con = c.con-item.result in
    let counts = c.times.ensures ∙ c.in_ok-table.ensures con.origin in
    never (λ w. let once : c.times.result ≡ 1 = counts ∙ ap (λ k. times_named (con_origin k) bs) c.con-item.is
    ∙ once_one c.args.cons.now c.loop-con.con-index con bs (omega arith) w in
    let no = c.if-times-ne1.true in absurd (omega arith))

pub loop-con-preserved : goal.loop-con-preserved
loop-con-preserved c =
    once_more c.args.cons.now c.loop-con.con-index c.con-item.result (chosen_from c.args.alternatives.now) (omega arith) c.con-item.is c.loop-con.invariant
    (sym (c.times.ensures ∙ c.in_ok-table.ensures c.con-item.result.origin) ∙ (let yes = c.if-times-ne1.false in omega arith))
