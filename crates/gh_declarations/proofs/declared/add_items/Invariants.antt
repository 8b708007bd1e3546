use Rattle.std.proofs.Common.{◌≡◌, ◌++◌, take}
use Rattle.std.specs.List.{flat_map}
use Rattle.gh_declarations.specs.Inside.{declared_at}
use Rattle.gh_declarations.proofs.declared.add_items.Given as goal

abbrev pub invariant-loop-item : goal.invariant-loop-item
invariant-loop-item l = l.list ≡ l.initial.list ++ flat_map declared_at (take l.item-index l.decls)
