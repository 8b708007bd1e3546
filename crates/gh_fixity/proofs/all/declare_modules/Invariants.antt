use Rattle.std.proofs.Common.{◌≡◌, drop}
use Rattle.gh_fixity.specs.Programs.{modules_tops}
use Rattle.gh_fixity.proofs.all.declare_modules.Given as goal

abbrev pub invariant-loop-module : goal.invariant-loop-module
invariant-loop-module l = modules_tops l.fn.tops l.modules ≡ modules_tops l.tops (drop l.module-index l.modules)
