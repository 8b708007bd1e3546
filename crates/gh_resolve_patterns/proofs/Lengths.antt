-- Lists of walks are as long as those of the parts.
use Rattle.std.proofs.Common.{◌≡◌, List, length, map}
use Rattle.std.proofs.lemmas.List.{length-map}
use Rattle.gh_tree.specs.declared.patterns.ArgPattern.{ArgPattern}
use Rattle.gh_resolve_names.specs.declared.context.Context.{Context}
use Rattle.gh_resolve_patterns.specs.Patterns.{arg_pattern_out}

pub args_length : (c : Context) (xs : List ArgPattern) → length (map (arg_pattern_out c) xs) ≡ length xs
args_length c xs = length-map xs (arg_pattern_out c)
