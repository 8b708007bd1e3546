use Rattle.std.proofs.Common.{ap, ◌∙◌, sym, map, Some}
use Rattle.std.specs.Prelude.{option_map}
use Rattle.gh_core.specs.Reading.{term_of, alt_of, alts_of}
use Rattle.gh_machine.specs.Unload.{alts_in}
use Rattle.gh_machine.specs.Values.{literal_of}
use Rattle.gh_machine.proofs.Picks.{alts_at, literal_taken, literal_else, literal_nothing}
use Rattle.gh_machine.proofs.pick.pick_literal.Goals as goal

pub returns-then-takes_literal : goal.returns-then-takes_literal
returns-then-takes_literal c =
    let items = c.as_slice-alternative-items.result.now in
    let o = c.in-Case.other in
    let w = alts_at c.args.case.now c.in-Case.field-0 c.in-Case.alternatives o c.in-Case.is ∙ ap (λ xs. alts_of (map alt_of xs) (option_map term_of o)) (sym c.as_slice-alternative-items.ensures) in
    λ ρ stack out s. literal_taken (alts_in (term_of c.args.case.now)) items o c.loop-alternative.alternative-index c.alternative-item.result (literal_of c.args.literal) (term_of c.body_of.result.now) w c.loop-alternative-test.true c.alternative-item.is
    (sym c.takes_literal.ensures ∙ c.if-takes_literal.true) c.body_of.ensures c.loop-alternative.invariant ρ stack out s

pub returns-in-Some : goal.returns-in-Some
returns-in-Some c =
    let items = c.as_slice-alternative-items.result.now in
    let o = c.in-Case.other in
    let w = alts_at c.args.case.now c.in-Case.field-0 c.in-Case.alternatives o c.in-Case.is ∙ ap (λ xs. alts_of (map alt_of xs) (option_map term_of o)) (sym c.as_slice-alternative-items.ensures) in
    λ ρ stack out s. literal_else (alts_in (term_of c.args.case.now)) items o c.loop-alternative.alternative-index (literal_of c.args.literal) c.get.result.now w c.loop-alternative-test.false (c.in-Some.is ∙ ap Some (sym c.get.ensures)) c.loop-alternative.invariant ρ stack out s

pub returns-in-None : goal.returns-in-None
returns-in-None c =
    let items = c.as_slice-alternative-items.result.now in
    let o = c.in-Case.other in
    let w = alts_at c.args.case.now c.in-Case.field-0 c.in-Case.alternatives o c.in-Case.is ∙ ap (λ xs. alts_of (map alt_of xs) (option_map term_of o)) (sym c.as_slice-alternative-items.ensures) in
    λ ρ stack out s. literal_nothing (alts_in (term_of c.args.case.now)) items o c.loop-alternative.alternative-index (literal_of c.args.literal) w c.loop-alternative-test.false c.in-None.is c.loop-alternative.invariant ρ stack out s
