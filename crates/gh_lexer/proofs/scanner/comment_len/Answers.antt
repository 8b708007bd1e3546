use Rattle.std.proofs.Common.{◌≡◌, ◌∙◌, ◌+◌, ◌==◌, ◌&&◌, sym, ap, arith, length-drop, drop, get_or, true, false, refl}
use Rattle.gh_lexer.specs.Chars.{begins}
use Rattle.gh_lexer.proofs.Comments.{comment_closes, comment_opens, comment_on, begins_some}
use Rattle.gh_lexer.proofs.scanner.comment_len.Goals as goal

pub loop-at-preserved-then-closes : goal.loop-at-preserved-then-closes
loop-at-preserved-then-closes c =
    let bytes = c.args.bytes.now in
    let at = c.loop-at.at in
    let pair : get_or bytes at 0 == 45 && begins 125 (drop (at + 1) bytes) ≡ true =
    ap (λ rest. get_or bytes at 0 == 45 && begins 125 rest) (sym c.from_place-rest.ensures) ∙ sym c.is_pair-closes.ensures.value ∙ c.if-closes.true in
    let next : begins 125 (drop (at + 1) bytes) ≡ true = ap (begins 125) (sym c.from_place-rest.ensures) ∙ c.if-closes.ensures.second refl in
    let long = begins_some 125 (drop (at + 1) bytes) next in
    record {
      within = omega (arith, length-drop (at + 1) bytes, long);
      few = omega arith;
      same = c.loop-at.invariant.same ∙ comment_closes bytes at c.loop-at.depth c.loop-at-test.true pair next (omega arith);
    }

pub loop-at-preserved-then-opens : goal.loop-at-preserved-then-opens
loop-at-preserved-then-opens c =
    let bytes = c.args.bytes.now in
    let at = c.loop-at.at in
    let no_close : get_or bytes at 0 == 45 && begins 125 (drop (at + 1) bytes) ≡ false =
    ap (λ rest. get_or bytes at 0 == 45 && begins 125 rest) (sym c.from_place-rest.ensures) ∙ sym c.is_pair-closes.ensures.value ∙ c.if-closes.false in
    let pair : get_or bytes at 0 == 123 && begins 45 (drop (at + 1) bytes) ≡ true =
    ap (λ rest. get_or bytes at 0 == 123 && begins 45 rest) (sym c.from_place-rest.ensures) ∙ sym c.is_pair-opens.ensures.value ∙ c.if-opens.true in
    let next : begins 45 (drop (at + 1) bytes) ≡ true = ap (begins 45) (sym c.from_place-rest.ensures) ∙ c.if-opens.ensures.second refl in
    let long = begins_some 45 (drop (at + 1) bytes) next in
    record {
      within = omega (arith, length-drop (at + 1) bytes, long);
      few = omega arith;
      same = c.loop-at.invariant.same ∙ comment_opens bytes at c.loop-at.depth c.loop-at-test.true no_close pair next;
    }

pub loop-at-preserved : goal.loop-at-preserved
loop-at-preserved c =
    let bytes = c.args.bytes.now in
    let at = c.loop-at.at in
    let no_close : get_or bytes at 0 == 45 && begins 125 (drop (at + 1) bytes) ≡ false =
    ap (λ rest. get_or bytes at 0 == 45 && begins 125 rest) (sym c.from_place-rest.ensures) ∙ sym c.is_pair-closes.ensures.value ∙ c.if-closes.false in
    let no_open : get_or bytes at 0 == 123 && begins 45 (drop (at + 1) bytes) ≡ false =
    ap (λ rest. get_or bytes at 0 == 123 && begins 45 rest) (sym c.from_place-rest.ensures) ∙ sym c.is_pair-opens.ensures.value ∙ c.if-opens.false in
    record {
      within = omega arith;
      few = omega arith;
      same = c.loop-at.invariant.same ∙ comment_on bytes at c.loop-at.depth c.loop-at-test.true no_close no_open;
    }
