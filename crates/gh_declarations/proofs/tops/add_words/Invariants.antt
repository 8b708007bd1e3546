use Rattle.std.proofs.Common.{◌≡◌, ◌++◌, map, take}
use Rattle.gh_declarations.specs.Names.{alone}
use Rattle.gh_declarations.proofs.tops.add_words.Given as goal

abbrev pub invariant-loop-name : goal.invariant-loop-name
invariant-loop-name l = l.list ≡ l.initial.list ++ map alone (take l.name-index l.words)
