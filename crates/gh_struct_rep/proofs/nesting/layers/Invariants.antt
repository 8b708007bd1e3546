use Rattle.std.proofs.Common.{◌≡◌, map, take}
use Rattle.gh_typeterm.specs.Representation.{layer_of}
use Rattle.gh_struct_rep.proofs.nesting.layers.Given as goal

abbrev pub invariant-loop-con : goal.invariant-loop-con
invariant-loop-con l = l.made ≡ map layer_of (take l.con-index l.constructors)
