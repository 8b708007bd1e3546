use Rattle.std.proofs.Common.{◌≡◌}
use Rattle.gh_base.specs.declared.place.TyCon.TheVariants as tycon
use Rattle.gh_core.specs.SameType.{con}
use Rattle.gh_core.specs.Typing.{applied_to, params_from}
use Rattle.gh_core_lint.specs.Types.{type_at}
use Rattle.gh_core_lint.proofs.data.make_data.Given as goal

abbrev pub invariant-loop-left : goal.invariant-loop-left
invariant-loop-left l = applied_to (type_at l.made) (params_from l.left) ≡ applied_to (con (tycon.Named l.fn.origin)) (params_from l.count)

abbrev pub decreases-loop-left : goal.decreases-loop-left
decreases-loop-left l = l.left
