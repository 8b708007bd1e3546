use Rattle.std.proofs.Common.{◌≡◌, map, take}
use Rattle.gh_kernel.specs.Erase.{erased_pattern}
use Rattle.gh_kernel.proofs.erasing.+erase_pattern.Given as goal

abbrev pub invariant-erase_patterns-loop-pattern : goal.invariant-erase_patterns-loop-pattern
invariant-erase_patterns-loop-pattern g l = l.made ≡ map erased_pattern (take l.pattern-index l.patterns)
