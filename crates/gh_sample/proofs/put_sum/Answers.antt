use Rattle.std.proofs.Common.{◌≡◌, ◌+◌, ◌∙◌, ap, ◌++◌, map, arith}
use Rattle.std.specs.Prelude.{codes}
use Rattle.gh_sample.specs.Sample.{joined, named, numbers}
use Rattle.gh_sample.proofs.Lines.{names_more}
use Rattle.gh_sample.proofs.put_sum.Goals as goal

pub loop-i-init : goal.loop-i-init
loop-i-init c = c.in_ok-put_name.ensures

pub loop-i-preserved : goal.loop-i-preserved
loop-i-preserved c =
    c.in_ok-put_name-2.ensures ∙ ap (λ t. t ++ named (c.loop-i.i + 1)) (c.in_ok-extend_from_slice.ensures.ok ∙ ap (λ t. t ++ codes " + ") c.loop-i.invariant)
    ∙ names_more c.args.text.now (codes " + ") c.loop-i.i c.loop-i.auto.i

pub returns : goal.returns
returns c =
    let last : c.loop-i.i ≡ c.args.n = omega arith in
    c.loop-i.invariant ∙ ap (λ n. c.args.text.now ++ joined (codes " + ") (map named (numbers n))) last
