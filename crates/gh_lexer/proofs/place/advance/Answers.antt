use Rattle.std.proofs.Common.{◌∙◌, ◌-◌, ◌+◌, ◌<◌, length, sym, ap, arith, get_or, drop}
use Rattle.gh_lexer.specs.Place.{past, moved}
use Rattle.gh_lexer.proofs.Places.{moved_step}
use Rattle.gh_lexer.proofs.place.advance.Goals as goal

pub loop-at-preserved : goal.loop-at-preserved
loop-at-preserved c =
    let bytes = c.args.bytes.now in
    let lt : c.loop-at.at < length bytes = omega arith in
    record {
      same = ap (moved (c.args.len - (c.loop-at.at + 1)) (drop (c.loop-at.at + 1) bytes)) (c.after_byte-now.ensures.value ∙ ap (λ rest. past (get_or bytes c.loop-at.at 0) rest c.loop-at.now) c.from_place.ensures)
          ∙ sym (moved_step bytes c.args.len c.loop-at.at c.loop-at.now c.loop-at-test.true lt) ∙ c.loop-at.invariant.same;
      line = omega arith;
      column = omega arith;
    }
