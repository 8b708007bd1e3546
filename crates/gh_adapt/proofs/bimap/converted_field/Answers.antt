use Rattle.std.proofs.Common.{◌≡◌, [], map, ap, ◌∙◌}
use Rattle.gh_core.specs.Typing.{a_var, an_app, type_of, code_of}
use Rattle.gh_adapt.specs.TypedPairs.{converted_code}
use Rattle.gh_adapt.proofs.PairForms.{if_ok}
use Rattle.gh_adapt.proofs.bimap.converted_field.Goals as goal

pub returns : goal.returns
returns c =
    let l = map type_of c.args.left.now in
    let r = map type_of c.args.right.now in
    let ps = map code_of c.args.pairs.now in
    if_ok c.apply.result (λ made. code_of made ≡ an_app (code_of c.in_ok-chosen.chosen) (code_of c.in_ok-field.field))
    (λ made. code_of made ≡ an_app (converted_code c.args.way l r [] ps c.args.ty.now) (a_var c.args.x))
    (λ made e. e ∙ (λ i. an_app
    ((c.in_ok-chosen.ensures ∙ ap (λ o. converted_code c.args.way l r (map type_of o) ps c.args.ty.now) (c.as_slice.ensures ∙ c.new-none.ensures)) i)
    (c.in_ok-field.ensures i)))
    c.apply.ensures
