use Rattle.std.proofs.Common.{rules, List, length, arith, subst, sym, ap, ◌∙◌}
use Rattle.std.proofs.lemmas.Grind.{common_steps}
use Rattle.gh_tree.specs.declared.symbol.Sym.{Sym}
use Rattle.gh_reader.specs.Reads.{Fails}
use Rattle.gh_parse_exps.specs.Exps.{knot}
use Rattle.gh_parse_exps.specs.Wholes.{Refuses}
use Rattle.gh_parse_exps.proofs.Whole.{spelled, refused, refused_rest}
use Rattle.gh_parse_exps.proofs.exps.parse_exp.Goals as goal

pub returns-in_err-found : goal.returns-in_err-found
returns-in_err-found c =
    let e : Refuses c.in_err-found.field-0.0 c.args.syms.now =
    refused c.in_err-found.field-0.0 c.args.syms.now (subst (λ (ss : List Sym). Fails c.in_err-found.field-0.0 ((knot (length c.args.syms.now)).exp ss)) c.new-tokens.ensures c.in_err-found.ensures) in
    first_of (search rules, grind (arith, common_steps))

pub returns-then-not-is_empty : goal.returns-then-not-is_empty
returns-then-not-is_empty c =
    refused_rest c.args.syms.now c.exp.new.tokens c.in_ok-found.found (sym (ap (knot (length c.args.syms.now)).exp c.new-tokens.ensures) ∙ c.in_ok-found.ensures) (search rules)

pub returns : goal.returns
returns c = spelled (length c.args.syms.now) c.args.syms.now c.exp.new.tokens c.in_ok-found.found (sym (ap (knot (length c.args.syms.now)).exp c.new-tokens.ensures) ∙ c.in_ok-found.ensures) (search rules)
