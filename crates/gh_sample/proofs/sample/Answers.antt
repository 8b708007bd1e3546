use Rattle.std.proofs.Common.{◌≡◌, ◌+◌, ◌∙◌, ap, ◌++◌, ◌∷◌, [], sym, arith, map}
use Rattle.std.specs.Prelude.{codes}
use Rattle.gh_sample.specs.Sample.{ended, head_lines, pair_lines, lines_of, numbers, main_line, joined, named}
use Rattle.gh_sample.proofs.Lines.{pairs_more, ended-append, last_line}
use Rattle.gh_sample.proofs.sample.Goals as goal

pub loop-i-init : goal.loop-i-init
unfolding head_lines
loop-i-init c = c.in_ok-extend_from_slice.ensures.ok ∙ ap (λ t. t ++ ended head_lines) c.new-text.ensures

pub loop-i-preserved : goal.loop-i-preserved
loop-i-preserved c = c.in_ok-put_pair.ensures ∙ ap (λ t. t ++ ended (pair_lines (c.loop-i.i + 1))) c.loop-i.invariant ∙ pairs_more head_lines c.loop-i.i

pub returns : goal.returns
returns c =
    let last : c.loop-i.i ≡ c.args.n = omega arith in
    let types : c.loop-i.text ≡ ended (head_lines ++ lines_of (numbers c.args.n)) = c.loop-i.invariant ∙ ap (λ n. ended (head_lines ++ lines_of (numbers n))) last in
    let names = joined (codes " + ") (map named (numbers c.args.n)) in
    c.in_ok-extend_from_slice-3.ensures.ok
    ∙ ap (λ t. t ++ (codes ")" ++ 10 ∷ [])) (c.in_ok-put_sum.ensures ∙ ap (λ t. t ++ names) (c.in_ok-extend_from_slice-2.ensures.ok ∙ ap (λ t. t ++ codes "main = showInt (") types))
    ∙ last_line (ended (head_lines ++ lines_of (numbers c.args.n))) (codes "main = showInt (") names (codes ")")
    ∙ sym (ended-append (head_lines ++ lines_of (numbers c.args.n)) (main_line c.args.n ∷ []))
