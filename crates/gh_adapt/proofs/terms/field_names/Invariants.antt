use Rattle.std.proofs.Common.{◌≡◌}
use Rattle.gh_adapt.specs.Conversions.{field_names}
use Rattle.gh_adapt.proofs.terms.field_names.Given as goal

abbrev pub invariant-loop-i : goal.invariant-loop-i
invariant-loop-i l = l.names ≡ field_names l.before l.i
