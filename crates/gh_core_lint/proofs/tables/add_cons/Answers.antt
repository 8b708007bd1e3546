use Rattle.std.proofs.Common.{refl, arith}
use Rattle.gh_core_lint.proofs.Lists.{con_pushed}
use Rattle.gh_core_lint.proofs.tables.add_cons.Goals as goal

pub loop-con-preserved : goal.loop-con-preserved
loop-con-preserved c =
    con_pushed c.loop-con.list c.push.new.self c.args.list.now _ c.args.decl.now c.as_slice-con-items.result.now c.loop-con.con-index c.con-item.result
    c.in_ok-push.ensures.ok refl refl c.loop-con.invariant (omega arith) c.con-item.is
