use Rattle.std.proofs.Common.{◌≡◌, drop}
use Rattle.gh_kind_index.specs.KindIndex.{function_of}
use Rattle.gh_kind_index.proofs.indexed.function_of.Given as goal

abbrev pub invariant-loop-function : goal.invariant-loop-function
invariant-loop-function l = function_of l.functions l.name ≡ function_of (drop l.function-index l.functions) l.name
