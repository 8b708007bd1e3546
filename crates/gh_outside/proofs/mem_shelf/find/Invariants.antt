use Rattle.std.proofs.Common.{◌≡◌, drop}
use Rattle.gh_outside.specs.Shelves.{file_of}
use Rattle.gh_outside.proofs.mem_shelf.find.Given as goal

abbrev pub invariant-loop-at : goal.invariant-loop-at
invariant-loop-at l = file_of l.files l.name ≡ file_of (drop l.at-index l.files) l.name
