use Rattle.std.proofs.Common.{◌≡◌, map, drop}
use Rattle.gh_core.specs.Typing.{code_of}
use Rattle.gh_match.specs.Compiled.{applied_code}
use Rattle.gh_match.proofs.compile.applied.Given as goal

abbrev pub invariant-loop-argument : goal.invariant-loop-argument
invariant-loop-argument l = applied_code (code_of l.made) (map code_of (drop l.argument-index l.arguments)) ≡ applied_code (code_of l.initial.made) (map code_of l.arguments)
