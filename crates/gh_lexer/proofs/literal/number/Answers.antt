use Rattle.std.proofs.Common.{◌≡◌, ◌∙◌, ◌+◌, ◌*◌, ap, sym, None, drop, get_or}
use Rattle.gh_lexer.specs.Literal.{fits, value_on, digit_value}
use Rattle.gh_lexer.proofs.Literals.{too_great, front_at}
use Rattle.gh_lexer.proofs.literal.number.Goals as goal

pub returns-in_default : goal.returns-in_default
returns-in_default c =
    let front = front_at c.args.digits.now c.loop-byte.byte-index (c.loop-byte-test.true) in
    let base = c.args.base in
    let digit = digit_value (get_or c.args.digits.now c.loop-byte.byte-index 0) in
    let great : fits (c.loop-byte.value * base + digit) ≡ None =
    ap (λ d. fits (c.loop-byte.value * base + d)) (sym c.value_of_digit.ensures.value) ∙ sym c.shifted.ensures ∙ c.in_default.is in
    sym (ap fits (sym c.loop-byte.invariant.same ∙ ap (value_on base c.loop-byte.value) front)
    ∙ too_great base (c.loop-byte.value * base + digit) (drop (c.loop-byte.byte-index + 1) c.args.digits.now) c.requires great)
