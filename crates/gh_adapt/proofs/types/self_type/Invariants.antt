use Rattle.std.proofs.Common.{◌≡◌, map, drop}
use Rattle.gh_core.specs.Typing.{applied_to, type_of}
use Rattle.gh_adapt.proofs.types.self_type.Given as goal

abbrev pub invariant-loop-argument : goal.invariant-loop-argument
invariant-loop-argument l = applied_to (type_of l.made) (map type_of (drop l.argument-index l.arguments)) ≡ applied_to (type_of l.initial.made) (map type_of l.arguments)
