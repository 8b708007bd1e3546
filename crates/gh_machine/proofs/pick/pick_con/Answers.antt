use Rattle.std.proofs.Common.{ap, ◌∙◌, sym, map, Some}
use Rattle.std.specs.Prelude.{option_map}
use Rattle.gh_core.specs.Reading.{term_of, alt_of, alts_of}
use Rattle.gh_machine.specs.Unload.{alts_in}
use Rattle.gh_machine.proofs.Picks.{alts_at, con_taken, con_else, con_nothing}
use Rattle.gh_machine.proofs.Names.{names_taken, names_none}
use Rattle.gh_machine.proofs.pick.pick_con.Goals as goal

pub returns-then-takes_con-clause-is : goal.returns-then-takes_con-clause-is
returns-then-takes_con-clause-is c =
    let items = c.as_slice-alternative-items.result.now in
    let o = c.in-Case.other in
    let w = alts_at c.args.case.now c.in-Case.field-0 c.in-Case.alternatives o c.in-Case.is ∙ ap (λ xs. alts_of (map alt_of xs) (option_map term_of o)) (sym c.as_slice-alternative-items.ensures) in
    λ ρ es stack out s e. con_taken (alts_in (term_of c.args.case.now)) items o c.loop-alternative.alternative-index c.alternative-item.result c.args.con c.args.count c.names_of.result.now (term_of c.body_of.result.now) w c.loop-alternative-test.true c.alternative-item.is
    (sym c.takes_con.ensures ∙ c.if-takes_con.true) c.names_of.ensures c.body_of.ensures c.loop-alternative.invariant.choice ρ es stack out s e

pub returns-in-Some-clause-is : goal.returns-in-Some-clause-is
returns-in-Some-clause-is c =
    let items = c.as_slice-alternative-items.result.now in
    let o = c.in-Case.other in
    let w = alts_at c.args.case.now c.in-Case.field-0 c.in-Case.alternatives o c.in-Case.is ∙ ap (λ xs. alts_of (map alt_of xs) (option_map term_of o)) (sym c.as_slice-alternative-items.ensures) in
    λ ρ es stack out s e. con_else (alts_in (term_of c.args.case.now)) items o c.loop-alternative.alternative-index c.args.con c.args.count c.get.result.now w c.loop-alternative-test.false (c.in-Some.is ∙ ap Some (sym c.get.ensures)) c.loop-alternative.invariant.choice ρ es stack out s e

pub returns-in-None-clause-is : goal.returns-in-None-clause-is
returns-in-None-clause-is c =
    let items = c.as_slice-alternative-items.result.now in
    let o = c.in-Case.other in
    let w = alts_at c.args.case.now c.in-Case.field-0 c.in-Case.alternatives o c.in-Case.is ∙ ap (λ xs. alts_of (map alt_of xs) (option_map term_of o)) (sym c.as_slice-alternative-items.ensures) in
    λ ρ es stack out s e. con_nothing (alts_in (term_of c.args.case.now)) items o c.loop-alternative.alternative-index c.args.con c.args.count w c.loop-alternative-test.false c.in-None.is c.loop-alternative.invariant.choice ρ es stack out s e

pub returns-then-takes_con-clause-bound : goal.returns-then-takes_con-clause-bound
returns-then-takes_con-clause-bound c =
    let items = c.as_slice-alternative-items.result.now in
    let o = c.in-Case.other in
    let w = alts_at c.args.case.now c.in-Case.field-0 c.in-Case.alternatives o c.in-Case.is ∙ ap (λ xs. alts_of (map alt_of xs) (option_map term_of o)) (sym c.as_slice-alternative-items.ensures) in
    names_taken (alts_in (term_of c.args.case.now)) items o c.loop-alternative.alternative-index c.alternative-item.result c.args.con c.args.count c.names_of.result.now w c.loop-alternative-test.true c.alternative-item.is
    (sym c.takes_con.ensures ∙ c.if-takes_con.true) c.names_of.ensures c.loop-alternative.invariant.names

pub returns-in-Some-clause-bound : goal.returns-in-Some-clause-bound
returns-in-Some-clause-bound c =
    let items = c.as_slice-alternative-items.result.now in
    let o = c.in-Case.other in
    let w = alts_at c.args.case.now c.in-Case.field-0 c.in-Case.alternatives o c.in-Case.is ∙ ap (λ xs. alts_of (map alt_of xs) (option_map term_of o)) (sym c.as_slice-alternative-items.ensures) in
    names_none (alts_in (term_of c.args.case.now)) items o c.loop-alternative.alternative-index c.args.con c.args.count w c.loop-alternative-test.false c.loop-alternative.invariant.names

pub returns-in-None-clause-bound : goal.returns-in-None-clause-bound
returns-in-None-clause-bound c =
    let items = c.as_slice-alternative-items.result.now in
    let o = c.in-Case.other in
    let w = alts_at c.args.case.now c.in-Case.field-0 c.in-Case.alternatives o c.in-Case.is ∙ ap (λ xs. alts_of (map alt_of xs) (option_map term_of o)) (sym c.as_slice-alternative-items.ensures) in
    names_none (alts_in (term_of c.args.case.now)) items o c.loop-alternative.alternative-index c.args.con c.args.count w c.loop-alternative-test.false c.loop-alternative.invariant.names
