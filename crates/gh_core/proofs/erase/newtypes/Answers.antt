use Rattle.std.proofs.Common.{arith}
use Rattle.gh_core.proofs.Shapes.{newtypes_more}
use Rattle.gh_core.proofs.erase.newtypes.Goals as goal

pub loop-decl-preserved : goal.loop-decl-preserved
loop-decl-preserved c = newtypes_more c.args.decls.now c.loop-decl.decl-index c.loop-decl.made c.add_newtype.new.made c.decl-item.result (omega arith) c.decl-item.is c.loop-decl.invariant c.in_ok-add_newtype.ensures
