use Rattle.std.proofs.Common.{ap, sym, ◌∙◌}
use Rattle.gh_kernel.specs.Reading.{patterns_of}
use Rattle.gh_match.specs.Numbers.{pat_above, pats_above}
use Rattle.gh_match.proofs.Codes.{con_read}
use Rattle.gh_match.proofs.numbers.+pattern_above.Goals as goal

pub pattern_above-returns-in-PCon : goal.pattern_above-returns-in-PCon
pattern_above-returns-in-PCon t c = c.patterns_above.ensures ∙ ap (λ l. pats_above (patterns_of l)) c.as_slice.ensures ∙ sym (ap pat_above (con_read c.args.pattern.now _ _ c.in-PCon.is))
