use Rattle.std.proofs.Common.{rules, arith, drop, ap, ◌∙◌}
use Rattle.std.proofs.lemmas.Grind.{common_steps}
use Rattle.gh_parser.specs.Gives.{Fails}
use Rattle.gh_parser.specs.Parse.{part_of, item_tokens}
use Rattle.gh_parser.proofs.Loop.{slice_from, unended_fails, item_fails, item_found}
use Rattle.gh_parser.proofs.items.next_part.Goals as goal

pub returns-in-None-clause-value : goal.returns-in-None-clause-value
returns-in-None-clause-value c =
    unended_fails 2000 c.args.tops c.args.tokens.now c.rest.result.now c.item_end-size.result c.end_of-end.result c.no_parse.result (search rules) (c.rest.ensures ∙ c.new.ensures ∙ slice_from c.item_end-size.result c.rest-syms.result.now ∙ ap (drop c.item_end-size.result) c.rest-syms.ensures) (search rules) (search rules) (search rules)

pub returns-in_err-item-in-Some-clause-value : goal.returns-in_err-item-in-Some-clause-value
unfolding item_tokens
returns-in_err-item-in-Some-clause-value c =
    let e : Fails c.in_err-item-in-Some.field-0.0 (part_of 2000 c.args.tops c.args.tokens.now) =
    item_fails 2000 c.args.tops c.args.tokens.now c.rest.result.now _ c.item_end-size.result c.end_of-end.result c.in-Some.end c.in_err-item-in-Some.field-0.0 (search rules) (c.rest.ensures ∙ c.new.ensures ∙ slice_from c.item_end-size.result c.rest-syms.result.now ∙ ap (drop c.item_end-size.result) c.rest-syms.ensures) (search rules) (search rules) (search rules) c.in_err-item-in-Some.ensures in
    first_of (search rules, grind (arith, common_steps))

pub returns-in_ok-item-in-Some-clause-value : goal.returns-in_ok-item-in-Some-clause-value
unfolding item_tokens
returns-in_ok-item-in-Some-clause-value c =
    item_found 2000 c.args.tops c.args.tokens.now c.rest.result.now _ c.item_end-size.result c.end_of-end.result c.in-Some.end c.in_ok-item-in-Some.item (search rules) (c.rest.ensures ∙ c.new.ensures ∙ slice_from c.item_end-size.result c.rest-syms.result.now ∙ ap (drop c.item_end-size.result) c.rest-syms.ensures) (search rules) (search rules) (search rules) c.in_ok-item-in-Some.ensures
