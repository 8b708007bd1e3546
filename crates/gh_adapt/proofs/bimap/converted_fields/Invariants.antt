use Rattle.std.proofs.Common.{◌≡◌, ◌+◌, map, drop}
use Rattle.gh_core.specs.Typing.{code_of, type_of}
use Rattle.gh_adapt.specs.TypedPairs.{rebuilt_code}
use Rattle.gh_adapt.proofs.bimap.converted_fields.Given as goal

abbrev pub invariant-loop-i : goal.invariant-loop-i
invariant-loop-i l = rebuilt_code l.way (map type_of l.left) (map type_of l.right) (map code_of l.pairs) (code_of l.made) (l.count + l.i) (drop l.i l.fields) ≡ rebuilt_code l.way (map type_of l.left) (map type_of l.right) (map code_of l.pairs) (code_of l.initial.made) l.count l.fields
