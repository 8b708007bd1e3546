-- Lists of walks are as long as those of the parts.
use Rattle.std.proofs.Common.{◌≡◌, ℕ, List, [], ◌∷◌, ◌++◌, length, map, refl}
use Rattle.std.proofs.lemmas.List.{append-nil, length-map}
use Rattle.gh_tree.specs.declared.types.ArgType.{ArgType}
use Rattle.gh_tree.specs.declared.types.Arrow.{Arrow}
use Rattle.gh_resolve_names.specs.declared.context.Context.{Context}
use Rattle.gh_resolve_types.specs.Types.{arg_type_out, arrow_out, unless_arrow}

pub args_length : (c : Context) (xs : List ArgType) → length (map (arg_type_out c) xs) ≡ length xs
args_length c xs = length-map xs (arg_type_out c)

pub unless_mapped : (c : Context) (xs : List Arrow) (k : ℕ) → unless_arrow (map (arrow_out c) xs) k ≡ unless_arrow xs k
unless_mapped c [] k = refl
unless_mapped c (x ∷ xs) k = refl

pub append_none : {X : Type 0} (xs : List X) → xs ++ [] ≡ xs
append_none xs = append-nil xs
