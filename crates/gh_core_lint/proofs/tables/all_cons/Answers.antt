use Rattle.std.proofs.Common.{arith, map}
use Rattle.gh_core_lint.specs.Tables.{pair_at}
use Rattle.gh_core_lint.proofs.Lists.{decl_added}
use Rattle.gh_core_lint.proofs.tables.all_cons.Goals as goal

pub loop-decl-preserved : goal.loop-decl-preserved
loop-decl-preserved c =
    decl_added c.args.decls.now c.loop-decl.decl-index (map pair_at c.loop-decl.list) (map pair_at c.add_cons.new.list) c.decl-item.result (omega arith) c.decl-item.is
    c.loop-decl.invariant c.in_ok-add_cons.ensures
