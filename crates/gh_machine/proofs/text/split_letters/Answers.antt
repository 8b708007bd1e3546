use Rattle.std.proofs.Common.{◌+◌, length, drop, get_or, ◌∷◌, refl, sym, ap, ◌∙◌, arith, add-one, drop-cons}
use Rattle.gh_core.specs.Reading.{term_of}
use Rattle.gh_machine.specs.Unload.{chars_in}
use Rattle.gh_machine.proofs.text.split_letters.Goals as goal

pub returns-then-at-chars_of-clause-value : goal.returns-then-at-chars_of-clause-value
returns-then-at-chars_of-clause-value c =
    let cs = chars_in (term_of c.args.term.now) in
    let i = c.args.at in
    let n = ap length c.chars_of.ensures in
    record {
      c = get_or cs i 0;
      more = drop (i + 1) cs;
      cs = drop-cons cs i 0 (omega arith) ∙ ap (λ k. get_or cs i 0 ∷ drop k cs) (sym (add-one i));
      first = refl;
      rest = refl;
      first_env = refl;
      rest_env = refl;
    }
