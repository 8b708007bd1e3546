use Rattle.std.proofs.Common.{map, length, drop, ap, ◌∙◌, sym, refl, arith}
use Rattle.gh_core.specs.Typing.{type_of, arrows}
use Rattle.gh_kind_index.specs.KindIndex.{for_all, asked, indexed}
use Rattle.gh_kind_index.proofs.Finish.{ok_more, arrow_made}
use Rattle.gh_kind_index.proofs.indexed.+indexed.Goals as goal

pub returns-after-loop-i : goal.returns-after-loop-i
returns-after-loop-i t c =
    ok_more c.quantified.result _ _ c.quantified.ensures
    (λ made e. arrow_made c.args.functions.now (map type_of c.args.others.now) c.in-Arrow.from c.in-Arrow.to c.args.kind.now c.args.function.now c.args.level (length c.args.types.now) c.in_ok-inside-in-Arrow.inside c.loop-i.i
    c.args.types.now c.in_ok-at-in-Arrow.at c.as_slice-given.result.now made c.loop-i.made c.in_ok-made-in-Arrow.made
    c.in-Arrow.is refl c.in_ok-inside-in-Arrow.ensures
    (ap (map type_of) c.as_slice-given.ensures ∙ c.in_ok-arguments-in-Arrow.ensures)
    c.in_ok-at-in-Arrow.ensures
    (let a = c.in_ok-made-in-Arrow.ensures in let b = c.as_slice.ensures in let g = c.get.ensures in cc)
    (omega arith)
    (c.loop-i.invariant ∙ ap (λ ds. arrows (asked c.args.functions.now (indexed c.args.functions.now (map type_of c.args.others.now) c.in-Arrow.from) c.in_ok-inside-in-Arrow.inside (map type_of c.as_slice-given.result.now) (drop c.loop-i.i ds)) (type_of c.in_ok-made-in-Arrow.made)) c.as_slice-dependencies.ensures)
    (e ∙ ap (λ z. for_all z c.args.level (length c.args.types.now) (type_of c.loop-i.made)) c.get-in-Arrow.ensures))
