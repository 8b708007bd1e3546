use Rattle.std.proofs.Common.{◌≡◌, ◌++◌, map, take}
use Rattle.gh_declarations.specs.Inside.{next_signed}
use Rattle.gh_declarations.proofs.declared.add_next_signed.Given as goal

abbrev pub invariant-loop-next : goal.invariant-loop-next
invariant-loop-next l = l.list ≡ l.initial.list ++ map next_signed (take l.next-index l.names)
