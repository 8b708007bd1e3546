use Rattle.std.proofs.Common.{◌≡◌, ◌++◌, map, take}
use Rattle.gh_declarations.specs.Inside.{a_value}
use Rattle.gh_declarations.proofs.declared.add_values.Given as goal

abbrev pub invariant-loop-named : goal.invariant-loop-named
invariant-loop-named l = l.list ≡ l.initial.list ++ map a_value (take l.named-index l.names)
