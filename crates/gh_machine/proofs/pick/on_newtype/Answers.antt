use Rattle.std.proofs.Common.{ap, ◌∙◌, sym, drop, map, subst, length, get_or, arith}
use Rattle.std.specs.Prelude.{slice_get, option_map}
use Rattle.gh_core.specs.Reading.{term_of, alt_of, alts_of}
use Rattle.gh_core.specs.Read.{alt_of-Con, alt_of-Int, alt_of-Char}
use Rattle.gh_core.specs.Terms.{alt, con_alt}
use Rattle.gh_machine.proofs.Picks.{alts_at, first_is, first_none, Demands, demands_none, demands_literal, demands_con, single, unwraps}
use Rattle.gh_machine.proofs.Names.{unwraps_name}
use Rattle.gh_machine.specs.Unload.{alts_in}
use Rattle.gh_core.specs.Terms.{int, char}
use Rattle.gh_machine.proofs.pick.on_newtype.Goals as goal
use Rattle.gh_machine.proofs.pick.on_newtype.Goals.{else-names-eq1-via-then-names-eq1+else-is_newtype, else-names-eq1-via-else-names-eq1}

pub returns-then-is_newtype-clause-is : goal.returns-then-is_newtype-clause-is
returns-then-is_newtype-clause-is c =
    let items = c.in-Case.alternatives in
    let o = option_map term_of c.in-Case.field-2 in
    let f = c.in-Some-Con in
    let rest = alts_of (map alt_of (drop 1 items)) o in
    let xs = c.as_slice-names.result.now in
    let one = single xs c.if-names-eq1.true in
    let is = alts_at c.args.case.now c.in-Case.field-0 items c.in-Case.field-2 c.in-Case.is ∙ first_is items o f.field-0.now (f.ensures ∙ ap (λ ys. slice_get ys 0) c.as_slice.ensures)
    ∙ ap (λ a. alt a rest) (ap alt_of f.field-0-is ∙ alt_of-Con f.con f.names f.body ∙ ap (λ ys. con_alt f.con ys (term_of f.body)) (sym c.as_slice-names.ensures ∙ one)) in
    unwraps c.args.newtypes.now (term_of c.args.case.now) f.con (get_or xs 0 0) (term_of f.body) rest is (sym c.is_newtype.ensures ∙ c.if-is_newtype.true)

pub returns-else-names-eq1-clause-is : goal.returns-else-names-eq1-clause-is
returns-else-names-eq1-clause-is c =
    let items = c.in-Case.alternatives in
    let o = option_map term_of c.in-Case.field-2 in
    let f = c.in-Some-Con in
    let rest = alts_of (map alt_of (drop 1 items)) o in
    let is = alts_at c.args.case.now c.in-Case.field-0 items c.in-Case.field-2 c.in-Case.is ∙ first_is items o f.field-0.now (f.ensures ∙ ap (λ ys. slice_get ys 0) c.as_slice.ensures)
    ∙ ap (λ a. alt a rest) (ap alt_of f.field-0-is ∙ alt_of-Con f.con f.names f.body) in
    let len = ap length c.as_slice-names.ensures in
    subst (Demands c.args.newtypes.now) (sym is) (demands_con c.args.newtypes.now f.con f.names (term_of f.body) rest (λ e. elim c.else-names-eq1.branch [
      | else-names-eq1-via-then-names-eq1+else-is_newtype w ↦ sym w.is_newtype.ensures ∙ w.if-is_newtype.false
      | else-names-eq1-via-else-names-eq1 w ↦ absurd (w.if-names-eq1.false (omega arith))
    ]))

pub returns-in-Some-Int-clause-is : goal.returns-in-Some-Int-clause-is
returns-in-Some-Int-clause-is c =
    let items = c.in-Case.alternatives in
    let o = option_map term_of c.in-Case.field-2 in
    let f = c.in-Some-Int in
    let rest = alts_of (map alt_of (drop 1 items)) o in
    let is = alts_at c.args.case.now c.in-Case.field-0 items c.in-Case.field-2 c.in-Case.is ∙ first_is items o f.field-0.now (f.ensures ∙ ap (λ ys. slice_get ys 0) c.as_slice.ensures)
    ∙ ap (λ a. alt a rest) (ap alt_of f.field-0-is ∙ alt_of-Int f.field-0-0 f.field-0-1) in
    subst (Demands c.args.newtypes.now) (sym is) (demands_literal c.args.newtypes.now (int f.field-0-0) (term_of f.field-0-1) rest)

pub returns-in-Some-Char-clause-is : goal.returns-in-Some-Char-clause-is
returns-in-Some-Char-clause-is c =
    let items = c.in-Case.alternatives in
    let o = option_map term_of c.in-Case.field-2 in
    let f = c.in-Some-Char in
    let rest = alts_of (map alt_of (drop 1 items)) o in
    let is = alts_at c.args.case.now c.in-Case.field-0 items c.in-Case.field-2 c.in-Case.is ∙ first_is items o f.field-0.now (f.ensures ∙ ap (λ ys. slice_get ys 0) c.as_slice.ensures)
    ∙ ap (λ a. alt a rest) (ap alt_of f.field-0-is ∙ alt_of-Char f.field-0-0 f.field-0-1) in
    subst (Demands c.args.newtypes.now) (sym is) (demands_literal c.args.newtypes.now (char f.field-0-0) (term_of f.field-0-1) rest)

pub returns-in-None-clause-is : goal.returns-in-None-clause-is
returns-in-None-clause-is c =
    let items = c.in-Case.alternatives in
    let o = option_map term_of c.in-Case.field-2 in
    let is = alts_at c.args.case.now c.in-Case.field-0 items c.in-Case.field-2 c.in-Case.is ∙ first_none items o (c.in-None.ensures ∙ ap (λ ys. slice_get ys 0) c.as_slice.ensures) in
    subst (Demands c.args.newtypes.now) (sym is) (demands_none c.args.newtypes.now o)

pub returns-then-is_newtype-clause-bound : goal.returns-then-is_newtype-clause-bound
returns-then-is_newtype-clause-bound c =
    let items = c.in-Case.alternatives in
    let o = option_map term_of c.in-Case.field-2 in
    let f = c.in-Some-Con in
    let rest = alts_of (map alt_of (drop 1 items)) o in
    let xs = c.as_slice-names.result.now in
    let one = single xs c.if-names-eq1.true in
    let is = alts_at c.args.case.now c.in-Case.field-0 items c.in-Case.field-2 c.in-Case.is ∙ first_is items o f.field-0.now (f.ensures ∙ ap (λ ys. slice_get ys 0) c.as_slice.ensures)
    ∙ ap (λ a. alt a rest) (ap alt_of f.field-0-is ∙ alt_of-Con f.con f.names f.body ∙ ap (λ ys. con_alt f.con ys (term_of f.body)) (sym c.as_slice-names.ensures ∙ one)) in
    unwraps_name c.args.newtypes.now (alts_in (term_of c.args.case.now)) f.con (get_or xs 0 0) (term_of f.body) rest is (sym c.is_newtype.ensures ∙ c.if-is_newtype.true)
