use Rattle.std.proofs.Common.{◌≡◌, ◌++◌, take}
use Rattle.std.specs.List.{flat_map}
use Rattle.gh_declarations.specs.Inside.{aexp_failures, alt_guard_failures, alt_item_failures, guard_failures, inside_at, next_operand_failures, part_failures, redef_item_failures}
use Rattle.gh_declarations.proofs.inside.+exps.Given as goal

abbrev pub invariant-add_next_operands-loop-part : goal.invariant-add_next_operands-loop-part
invariant-add_next_operands-loop-part l = l.failures ≡ l.initial.failures ++ flat_map next_operand_failures (take l.part-index l.parts)

abbrev pub invariant-add_aexps-loop-part : goal.invariant-add_aexps-loop-part
invariant-add_aexps-loop-part l = l.failures ≡ l.initial.failures ++ flat_map aexp_failures (take l.part-index l.parts)

abbrev pub invariant-add_redef_items-loop-part : goal.invariant-add_redef_items-loop-part
invariant-add_redef_items-loop-part l = l.failures ≡ l.initial.failures ++ flat_map redef_item_failures (take l.part-index l.parts)

abbrev pub invariant-add_decl_items-loop-part : goal.invariant-add_decl_items-loop-part
invariant-add_decl_items-loop-part l = l.failures ≡ l.initial.failures ++ flat_map inside_at (take l.part-index l.parts)

abbrev pub invariant-add_alt_items-loop-part : goal.invariant-add_alt_items-loop-part
invariant-add_alt_items-loop-part l = l.failures ≡ l.initial.failures ++ flat_map alt_item_failures (take l.part-index l.parts)

abbrev pub invariant-add_guards-loop-part : goal.invariant-add_guards-loop-part
invariant-add_guards-loop-part l = l.failures ≡ l.initial.failures ++ flat_map guard_failures (take l.part-index l.parts)

abbrev pub invariant-add_alt_guards-loop-part : goal.invariant-add_alt_guards-loop-part
invariant-add_alt_guards-loop-part l = l.failures ≡ l.initial.failures ++ flat_map alt_guard_failures (take l.part-index l.parts)

abbrev pub invariant-add_exp_parts-loop-part : goal.invariant-add_exp_parts-loop-part
invariant-add_exp_parts-loop-part l = l.failures ≡ l.initial.failures ++ flat_map part_failures (take l.part-index l.parts)
