use Rattle.std.proofs.Common.{◌≡◌, ◌≤◌, ◌∙◌, ap, sym, Some, None, drop, length, ◌+◌, arith, length-drop}
use Rattle.gh_lexer.specs.Literal.{item_at, spelled_from}
use Rattle.gh_lexer.proofs.Literals.{after_chars, spell_none, spell_step, spelled_char, spelled_nothing, spelled_bad, spelled_all}
use Rattle.gh_lexer.proofs.literal.spell.Goals as goal
use Rattle.gh_lexer.proofs.literal.spell.Goals.{in-Nothing, in-Char+in_ok-push-in-Char}

pub returns-in_default-clause-value : goal.returns-in_default-clause-value
returns-in_default-clause-value c =
    let body = c.args.body.now in
    let none : item_at (drop c.loop-at.at body) ≡ None = ap item_at (sym c.from_place.ensures) ∙ sym c.item.ensures.value ∙ c.in_default.is in
    sym (c.loop-at.invariant.same ∙ ap (after_chars c.loop-at.out) (spell_none body c.loop-at.at c.loop-at-test.true none) ∙ spelled_all c.loop-at.out)

pub returns-in-TooGreat-clause-value : goal.returns-in-TooGreat-clause-value
returns-in-TooGreat-clause-value c =
    let body = c.args.body.now in
    let found : item_at (drop c.loop-at.at body) ≡ Some c.in-Some.found = ap item_at (sym c.from_place.ensures) ∙ sym c.item.ensures.value ∙ c.in-Some.is in
    let len = c.in-Some.found.len in
    sym (c.loop-at.invariant.same ∙ ap (after_chars c.loop-at.out) (spell_step body c.loop-at.at c.in-Some.found c.loop-at-test.true found c.in-Some.ensures.within.0)
    ∙ spelled_bad c.loop-at.out c.in-Some.found.meaning (c.loop-at.at + 1) len (spelled_from 0 (c.loop-at.at + len + 1) (drop (c.loop-at.at + len) body)) c.in-TooGreat.is)

pub loop-at-preserved : goal.loop-at-preserved
loop-at-preserved c =
    let body = c.args.body.now in
    let found : item_at (drop c.loop-at.at body) ≡ Some c.in-Some.found = ap item_at (sym c.from_place.ensures) ∙ sym c.item.ensures.value ∙ c.in-Some.is in
    let len = c.in-Some.found.len in
    let within : len ≤ length (drop c.loop-at.at body) = rw (← c.from_place.ensures) c.in-Some.ensures.within.1 in
    let rest = spelled_from 0 (c.loop-at.at + len + 1) (drop (c.loop-at.at + len) body) in
    let step = c.loop-at.invariant.same ∙ ap (after_chars c.loop-at.out) (spell_step body c.loop-at.at c.in-Some.found c.loop-at-test.true found c.in-Some.ensures.within.0) in
    record {
      within = omega (arith, length-drop c.loop-at.at body, within);
      same = elim c.match-found.branch [
        | in-Nothing w ↦ step ∙ spelled_nothing c.loop-at.out c.in-Some.found.meaning (c.loop-at.at + 1) len rest w.in-Nothing.is ∙ ap (λ cs. after_chars cs rest) (sym w.out-is)
        | in-Char+in_ok-push-in-Char w ↦ step ∙ spelled_char c.loop-at.out c.in-Some.found.meaning (c.loop-at.at + 1) len w.in-Char.character rest w.in-Char.is
            ∙ ap (λ cs. after_chars cs rest) (sym w.in_ok-push-in-Char.ensures.ok ∙ sym w.out-is)
      ];
    }
