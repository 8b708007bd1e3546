use Rattle.std.proofs.Common.{◌≡◌, map, sym, ◌∙◌}
use Rattle.gh_core.specs.Typing.{an_app, type_of, code_of}
use Rattle.gh_adapt.specs.TypedPairs.{pair_at_code}
use Rattle.gh_adapt.proofs.PairForms.{application_seen, if_ok}
use Rattle.gh_adapt.proofs.pairs.+pair_at.Goals as goal

pub returns-in_ok-argument-in-App : goal.returns-in_ok-argument-in-App
returns-in_ok-argument-in-App t c =
    let l = map type_of c.args.left.now in
    let r = map type_of c.args.right.now in
    let o = map type_of c.args.others.now in
    let ps = map code_of c.args.pairs.now in
    let head = code_of c.in_ok-head-in-App.head in
    let one = code_of c.in_ok-head-in-App-2.head in
    let two = code_of c.in_ok-head-in-App-3.head in
    let argument = code_of c.in_ok-argument-in-App.argument in
    if_ok c.apply.result (λ made. code_of made ≡ an_app two argument) (λ made. code_of made ≡ pair_at_code l r o ps c.args.ty.now)
    (λ made e. application_seen l r o ps c.args.ty.now c.in-App.f c.in-App.s head one two argument (code_of made) (type_of c.in_ok-a-in-App.a) (type_of c.in_ok-b-in-App.b)
    (sym c.get.ensures ∙ c.in-App.is) c.in_ok-head-in-App.ensures c.in_ok-a-in-App.ensures c.in_ok-b-in-App.ensures c.in_ok-head-in-App-2.ensures c.in_ok-head-in-App-3.ensures
    c.in_ok-argument-in-App.ensures e)
    c.apply.ensures
