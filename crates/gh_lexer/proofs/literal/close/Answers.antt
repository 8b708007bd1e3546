use Rattle.std.proofs.Common.{◌≡◌, ◌≤◌, ◌∙◌, ap, sym, Some, drop, length, ◌+◌, arith, length-drop, get_or}
use Rattle.std.proofs.lemmas.Bool.{ne_eqb}
use Rattle.gh_lexer.specs.Literal.{item_at, close_at}
use Rattle.gh_lexer.proofs.Literals.{plus, plus_plus, close_step}
use Rattle.gh_lexer.proofs.literal.close.Goals as goal

pub loop-at-preserved : goal.loop-at-preserved
loop-at-preserved c =
    let bytes = c.args.bytes.now in
    let found : item_at (drop c.loop-at.at bytes) ≡ Some c.in-Some.found = ap item_at (sym c.from_place.ensures) ∙ sym c.item.ensures.value ∙ c.in-Some.is in
    let len = c.in-Some.found.len in
    let within : len ≤ length (drop c.loop-at.at bytes) = rw (← c.from_place.ensures) c.in-Some.ensures.within.1 in
    record {
      within = omega (arith, length-drop c.loop-at.at bytes, within);
      same = c.loop-at.invariant.same
          ∙ ap (plus c.loop-at.at) (close_step bytes c.loop-at.at c.in-Some.found c.loop-at-test.true (ne_eqb (get_or bytes c.loop-at.at 0) 34 c.if-bytes-at-eq34.false) found c.in-Some.ensures.within.0)
          ∙ plus_plus c.loop-at.at len (close_at 0 (drop (c.loop-at.at + len) bytes));
    }
