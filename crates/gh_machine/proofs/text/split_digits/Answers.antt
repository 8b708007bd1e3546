use Rattle.std.proofs.Common.{◌+◌, ◌<◌, ℕ, ℤ, length, drop, get_or, ◌∷◌, refl, sym, ap, ◌∙◌, subst, arith, add-one, drop-cons}
use Rattle.std.specs.Fmt.{signed_decimal}
use Rattle.std.proofs.Math.Facts.{to_z-of_z}
use Rattle.gh_machine.specs.Texts.{IsPair}
use Rattle.gh_machine.specs.declared.closure.Closure.TheVariants.{Digit, Digits}
use Rattle.gh_machine.proofs.text.split_digits.Goals as goal

pair : (at : ℕ) (number : ℤ) → at < length (signed_decimal number) → IsPair (drop at (signed_decimal number)) (record { first = Digit at number; rest = Digits (at + 1) number })
pair at number lt =
    let cs = signed_decimal number in
    record {
      c = get_or cs at 0;
      more = drop (at + 1) cs;
      cs = drop-cons cs at 0 lt ∙ ap (λ k. get_or cs at 0 ∷ drop k cs) (sym (add-one at));
      first = refl;
      rest = refl;
      first_env = refl;
      rest_env = refl;
    }

pub returns-then-at-digits-clause-value : goal.returns-then-at-digits-clause-value
returns-then-at-digits-clause-value c =
    let i = c.args.at in
    let same = to_z-of_z c.ranges.number in
    let n = ap (λ m. length (signed_decimal m)) same in
    let P : ℤ → Type 0 = λ m. IsPair (drop i (signed_decimal c.args.number)) (record { first = Digit i m; rest = Digits (i + 1) m }) in
    subst P (sym same) (pair i c.args.number (omega arith))
