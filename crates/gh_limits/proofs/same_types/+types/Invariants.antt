use Rattle.std.proofs.Common.{◌≡◌, map, drop}
use Rattle.gh_limits.specs.SameTypes.{all_same, same_arg_type, same_arrow, same_type_part}
use Rattle.gh_limits.proofs.same_types.+types.Given as goal

abbrev pub invariant-same_arg_types-loop-i : goal.invariant-same_arg_types-loop-i
invariant-same_arg_types-loop-i l = all_same (map same_arg_type l.a) l.b ≡ all_same (map same_arg_type (drop l.i l.a)) (drop l.i l.b)

abbrev pub invariant-same_arrows-loop-i : goal.invariant-same_arrows-loop-i
invariant-same_arrows-loop-i l = all_same (map same_arrow l.a) l.b ≡ all_same (map same_arrow (drop l.i l.a)) (drop l.i l.b)

abbrev pub invariant-same_type_parts-loop-i : goal.invariant-same_type_parts-loop-i
invariant-same_type_parts-loop-i l = all_same (map same_type_part l.a) l.b ≡ all_same (map same_type_part (drop l.i l.a)) (drop l.i l.b)
