use Rattle.std.proofs.Common.{◌++◌, sym, ap, ◌∙◌, arith}
use Rattle.gh_tree.specs.declared.expressions.RedefItem.{out-RedefItem}
use Rattle.gh_declarations.specs.Inside.{Found, aexp_failures, alt_guard_failures, alt_item_failures, decl_found, guard_failures, inside_at, next_operand_failures, part_failures, redef_item_failures, where_failures}
use Rattle.gh_declarations.proofs.InsideAt.{aexp_var, aexp_generic, aexp_con, aexp_int, aexp_char, aexp_str, where_absent, inside_signature, inside_fixity, next_operand_at, redef_item_at, redef_at, decl_item_at, alt_item_at, part_at}
use Rattle.gh_declarations.proofs.Steps.{stays, flat_more}
use Rattle.gh_declarations.proofs.inside.+exps.Goals as goal

pub add_aexp-returns-in-Var : goal.add_aexp-returns-in-Var
add_aexp-returns-in-Var t c = stays _ _ (ap aexp_failures c.in-Var.is ∙ aexp_var _)

pub add_aexp-returns-in-Generic : goal.add_aexp-returns-in-Generic
add_aexp-returns-in-Generic t c = stays _ _ (ap aexp_failures c.in-Generic.is ∙ aexp_generic _ _ _ _ _)

pub add_aexp-returns-in-Con : goal.add_aexp-returns-in-Con
add_aexp-returns-in-Con t c = stays _ _ (ap aexp_failures c.in-Con.is ∙ aexp_con _)

pub add_aexp-returns-in-Int : goal.add_aexp-returns-in-Int
add_aexp-returns-in-Int t c = stays _ _ (ap aexp_failures c.in-Int.is ∙ aexp_int _ _)

pub add_aexp-returns-in-Char : goal.add_aexp-returns-in-Char
add_aexp-returns-in-Char t c = stays _ _ (ap aexp_failures c.in-Char.is ∙ aexp_char _ _)

pub add_aexp-returns-in-Str : goal.add_aexp-returns-in-Str
add_aexp-returns-in-Str t c = stays _ _ (ap aexp_failures c.in-Str.is ∙ aexp_str _ _)

pub add_where-returns-in-Absent : goal.add_where-returns-in-Absent
add_where-returns-in-Absent t c = stays _ _ (ap where_failures c.in-Absent.is ∙ where_absent)

pub add_decl-returns-in-Signature : goal.add_decl-returns-in-Signature
add_decl-returns-in-Signature t c = stays _ _ (ap (λ d. (decl_found d).inside) c.in-Signature.is ∙ inside_signature _ _ _ _ _)

pub add_decl-returns-in-Fixity : goal.add_decl-returns-in-Fixity
add_decl-returns-in-Fixity t c = stays _ _ (ap (λ d. (decl_found d).inside) c.in-Fixity.is ∙ inside_fixity _ _ _ _ _)

pub add_next_operands-loop-part-preserved : goal.add_next_operands-loop-part-preserved
add_next_operands-loop-part-preserved t c =
    flat_more next_operand_failures c.args.parts.now c.loop-part.part-index c.part-item.result c.args.failures.now c.loop-part.failures c.add_operand.new.failures
    (omega arith) c.part-item.is c.loop-part.invariant
    (c.in_ok-add_operand.ensures ∙ ap (λ l. c.loop-part.failures ++ l) (sym (next_operand_at c.part-item.result)))

pub add_aexps-loop-part-preserved : goal.add_aexps-loop-part-preserved
add_aexps-loop-part-preserved t c =
    flat_more aexp_failures c.args.parts.now c.loop-part.part-index c.part-item.result c.args.failures.now c.loop-part.failures c.add_aexp.new.failures
    (omega arith) c.part-item.is c.loop-part.invariant
    c.in_ok-add_aexp.ensures

pub add_redef_items-loop-part-preserved : goal.add_redef_items-loop-part-preserved
add_redef_items-loop-part-preserved t c =
    flat_more redef_item_failures c.args.parts.now c.loop-part.part-index c.part-item.result c.args.failures.now c.loop-part.failures c.add_exp.new.failures
    (omega arith) c.part-item.is c.loop-part.invariant
    (c.in_ok-add_exp.ensures ∙ ap (λ l. c.loop-part.failures ++ l) (sym (redef_item_at c.part-item.result ∙ redef_at (out-RedefItem c.part-item.result).redef)))

pub add_decl_items-loop-part-preserved : goal.add_decl_items-loop-part-preserved
add_decl_items-loop-part-preserved t c =
    flat_more inside_at c.args.parts.now c.loop-part.part-index c.part-item.result c.args.failures.now c.loop-part.failures c.add_decl.new.failures
    (omega arith) c.part-item.is c.loop-part.invariant
    (c.in_ok-add_decl.ensures ∙ ap (λ l. c.loop-part.failures ++ l) (ap (λ (d : Found). d.inside) (sym (decl_item_at c.part-item.result))))

pub add_alt_items-loop-part-preserved : goal.add_alt_items-loop-part-preserved
add_alt_items-loop-part-preserved t c =
    flat_more alt_item_failures c.args.parts.now c.loop-part.part-index c.part-item.result c.args.failures.now c.loop-part.failures c.add_alt.new.failures
    (omega arith) c.part-item.is c.loop-part.invariant
    (c.in_ok-add_alt.ensures ∙ ap (λ l. c.loop-part.failures ++ l) (sym (alt_item_at c.part-item.result)))

pub add_guards-loop-part-preserved : goal.add_guards-loop-part-preserved
add_guards-loop-part-preserved t c =
    flat_more guard_failures c.args.parts.now c.loop-part.part-index c.part-item.result c.args.failures.now c.loop-part.failures c.add_guard.new.failures
    (omega arith) c.part-item.is c.loop-part.invariant
    c.in_ok-add_guard.ensures

pub add_alt_guards-loop-part-preserved : goal.add_alt_guards-loop-part-preserved
add_alt_guards-loop-part-preserved t c =
    flat_more alt_guard_failures c.args.parts.now c.loop-part.part-index c.part-item.result c.args.failures.now c.loop-part.failures c.add_alt_guard.new.failures
    (omega arith) c.part-item.is c.loop-part.invariant
    c.in_ok-add_alt_guard.ensures

pub add_exp_parts-loop-part-preserved : goal.add_exp_parts-loop-part-preserved
add_exp_parts-loop-part-preserved t c =
    flat_more part_failures c.args.parts.now c.loop-part.part-index c.part-item.result c.args.failures.now c.loop-part.failures c.add_exp.new.failures
    (omega arith) c.part-item.is c.loop-part.invariant
    (c.in_ok-add_exp.ensures ∙ ap (λ l. c.loop-part.failures ++ l) (sym (part_at c.part-item.result)))
