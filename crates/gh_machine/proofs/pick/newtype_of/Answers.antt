use Rattle.std.proofs.Common.{ap, ◌∙◌, sym, drop, map}
use Rattle.std.specs.Prelude.{slice_get, option_map}
use Rattle.gh_core.specs.Reading.{term_of, alt_of, alts_of}
use Rattle.gh_core.specs.Read.{alt_of-Con, alt_of-Int, alt_of-Char}
use Rattle.gh_core.specs.Terms.{alt}
use Rattle.gh_machine.specs.Unload.{first_con}
use Rattle.gh_machine.proofs.Picks.{alts_at, first_is, first_none, no_first_con}
use Rattle.gh_machine.proofs.pick.newtype_of.Goals as goal

pub returns-in-Some-Con : goal.returns-in-Some-Con
returns-in-Some-Con c =
    let items = c.in-Case.alternatives in
    let o = option_map term_of c.in-Case.field-2 in
    sym (ap first_con (alts_at c.args.case.now c.in-Case.field-0 items c.in-Case.field-2 c.in-Case.is ∙ first_is items o c.in-Some-Con.field-0.now (c.in-Some-Con.ensures ∙ ap (λ xs. slice_get xs 0) c.as_slice.ensures))
    ∙ ap (λ a. first_con (alt a (alts_of (map alt_of (drop 1 items)) o))) (ap alt_of c.in-Some-Con.field-0-is ∙ alt_of-Con c.in-Some-Con.con c.in-Some-Con.field-0-1 c.in-Some-Con.field-0-2))

pub returns-in-Some-Int : goal.returns-in-Some-Int
returns-in-Some-Int c =
    let items = c.in-Case.alternatives in
    let o = option_map term_of c.in-Case.field-2 in
    c.prelude_value-in-Some-Int.ensures ∙ sym (ap first_con (alts_at c.args.case.now c.in-Case.field-0 items c.in-Case.field-2 c.in-Case.is ∙ first_is items o c.in-Some-Int.field-0.now (c.in-Some-Int.ensures ∙ ap (λ xs. slice_get xs 0) c.as_slice.ensures))
    ∙ ap (λ a. first_con (alt a (alts_of (map alt_of (drop 1 items)) o))) (ap alt_of c.in-Some-Int.field-0-is ∙ alt_of-Int c.in-Some-Int.field-0-0 c.in-Some-Int.field-0-1))

pub returns-in-Some-Char : goal.returns-in-Some-Char
returns-in-Some-Char c =
    let items = c.in-Case.alternatives in
    let o = option_map term_of c.in-Case.field-2 in
    c.prelude_value-in-Some-Char.ensures ∙ sym (ap first_con (alts_at c.args.case.now c.in-Case.field-0 items c.in-Case.field-2 c.in-Case.is ∙ first_is items o c.in-Some-Char.field-0.now (c.in-Some-Char.ensures ∙ ap (λ xs. slice_get xs 0) c.as_slice.ensures))
    ∙ ap (λ a. first_con (alt a (alts_of (map alt_of (drop 1 items)) o))) (ap alt_of c.in-Some-Char.field-0-is ∙ alt_of-Char c.in-Some-Char.field-0-0 c.in-Some-Char.field-0-1))

pub returns-in-None : goal.returns-in-None
returns-in-None c =
    let items = c.in-Case.alternatives in
    let o = option_map term_of c.in-Case.field-2 in
    c.prelude_value-in-None.ensures ∙ sym (ap first_con (alts_at c.args.case.now c.in-Case.field-0 items c.in-Case.field-2 c.in-Case.is ∙ first_none items o (c.in-None.ensures ∙ ap (λ xs. slice_get xs 0) c.as_slice.ensures)) ∙ no_first_con o)
