use Rattle.std.proofs.Common.{◌-◌, arith}
use Rattle.gh_core_lint.proofs.Bound.{bound_more}
use Rattle.gh_core_lint.proofs.scope.bind_names.Goals as goal

pub loop-left-preserved : goal.loop-left-preserved
loop-left-preserved c = record {
  within = omega arith;
  bound =
      bound_more c.args.vars.now c.loop-left.vars c.bind.new.self c.args.names.now c.args.types.now c.loop-left.left (c.loop-left.left - 1) c.in_ok-type_for.field-0
      (omega arith) (omega arith) c.loop-left.invariant.bound c.in_ok-type_for.ensures c.in_ok-bind.ensures;
}
