use Rattle.std.proofs.Common.{◌≡◌, ◌∙◌, ap, ◌++◌, ◌∷◌, [], rules}
use Rattle.std.specs.Fmt.{decimal}
use Rattle.gh_sample.specs.Sample.{filled, type_line, value_line}
use Rattle.gh_sample.proofs.Lines.{two_lines}
use Rattle.gh_sample.proofs.put_pair.Goals as goal

pub returns : goal.returns
unfolding type_line value_line
returns c =
    let digits : c.as_bytes.result.now ≡ decimal c.args.i = search rules in
    let digits_again : c.as_bytes-2.result.now ≡ decimal c.args.i = search rules in
    c.in_ok-put_line-2.ensures ∙ ap (λ d. c.put_line.new.text ++ (filled d value_line ++ 10 ∷ [])) digits_again
    ∙ ap (λ t. t ++ (filled (decimal c.args.i) value_line ++ 10 ∷ [])) (c.in_ok-put_line.ensures ∙ ap (λ d. c.args.text.now ++ (filled d type_line ++ 10 ∷ [])) digits)
    ∙ two_lines c.args.text.now (filled (decimal c.args.i) type_line) (filled (decimal c.args.i) value_line)
