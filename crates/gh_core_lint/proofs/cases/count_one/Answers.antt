use Rattle.std.proofs.Common.{◌+◌, cond, suc, Some, refl, sym, ap, ◌∙◌}
use Rattle.std.specs.HashMap.{get}
use Rattle.gh_core.specs.declared.terms.CoreName.TheVariants as name
use Rattle.gh_core.specs.Primitives.{same_origin}
use Rattle.gh_core.specs.Typing.{names_it}
use Rattle.gh_core_lint.specs.Branches.{alt_code, tallied}
use Rattle.gh_core_lint.specs.Keys.{key_of, same_key}
use Rattle.gh_core_lint.proofs.Alternatives.{counted}
use Rattle.gh_core_lint.proofs.Codes.{alt_Con}
use Rattle.gh_core_lint.proofs.Keys.{keys_same}
use Rattle.gh_core_lint.proofs.cases.count_one.Goals as goal

pub returns-in_ok-insert-in-Con : goal.returns-in_ok-insert-in-Con
returns-in_ok-insert-in-Con c = λ o.
    let con = c.in-Con.con in
    let n = c.times.result in
    let old = get same_key c.args.table.now (key_of (name.Plain o)) in
    let named = ap (names_it o) (ap alt_code c.in-Con.is ∙ alt_Con con c.in-Con.field-1 c.in-Con.field-2) in
    counted (same_origin con o) con o (λ a. get same_key c.args.table.now (key_of (name.Plain a))) (get same_key c.insert.new.self (key_of (name.Plain o))) n refl
    (c.in_ok-insert-in-Con.ensures.updates.0 (key_of (name.Plain o))
    ∙ (λ j. cond (same_key (c.key.ensures j) (key_of (name.Plain o))) (Some (c.in_ok-count-in-Con.ensures j)) old)
    ∙ ap (λ b. cond b (Some (suc n)) old) (keys_same (name.Plain con) (name.Plain o)))
    c.times.ensures
    ∙ ap (λ m. m + tallied old) (sym named)
