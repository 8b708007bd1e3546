use Rattle.std.proofs.Common.{rules, List, arith, subst, sym, ap, ◌∙◌}
use Rattle.std.proofs.lemmas.Grind.{common_steps}
use Rattle.gh_tree.specs.declared.symbol.Sym.{Sym}
use Rattle.gh_reader.specs.Reads.{Fails}
use Rattle.gh_parse_heads.specs.Imports.{import_item, Refuses}
use Rattle.gh_parse_heads.proofs.ImportsWhole.{spelled, refused, refused_rest}
use Rattle.gh_parse_heads.proofs.imports.parse_import.Goals as goal

pub returns-in_err-found : goal.returns-in_err-found
returns-in_err-found c =
    let e : Refuses c.in_err-found.field-0.0 c.args.syms.now =
    refused c.in_err-found.field-0.0 c.args.syms.now (subst (λ (ss : List Sym). Fails c.in_err-found.field-0.0 (import_item ss)) c.new-tokens.ensures c.in_err-found.ensures) in
    first_of (search rules, grind (arith, common_steps))

pub returns-then-not-is_empty : goal.returns-then-not-is_empty
returns-then-not-is_empty c =
    refused_rest c.args.syms.now c.import_item.new.tokens c.in_ok-found.found (sym (ap import_item c.new-tokens.ensures) ∙ c.in_ok-found.ensures) (search rules)

pub returns : goal.returns
returns c = spelled c.args.syms.now c.import_item.new.tokens c.in_ok-found.found (sym (ap import_item c.new-tokens.ensures) ∙ c.in_ok-found.ensures) (search rules)
