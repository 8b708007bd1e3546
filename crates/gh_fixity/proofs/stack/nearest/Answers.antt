use Rattle.std.proofs.Common.{◌≡◌, ℕ, ◌-◌, ◌<◌, arith, length, Some, refl, false, true}
use Rattle.gh_fixity.specs.Arrangement.{level_at}
use Rattle.gh_fixity.proofs.Places.{level_read, level_unread, down_more}
use Rattle.gh_fixity.proofs.stack.nearest.Goals as goal

pub returns-then-has_level : goal.returns-then-has_level
returns-then-has_level c =
    let low : c.loop-place.place - 1 < length c.args.items.now = omega arith in
    record {
      before = omega arith;
      same = level_read c.args.items.now (c.loop-place.place - 1) _ (Some c.args.level) low (c.if-has_level.ensures.0 refl);
      others = λ p a b h. c.loop-place.invariant p (omega arith) b h;
    }

pub unreachable-requires : goal.unreachable-requires
unreachable-requires c = c.loop-place.invariant c.requires.some.0 (omega arith) c.requires.some.1 c.requires.some.2

pub loop-place-preserved : goal.loop-place-preserved
loop-place-preserved c =
    let low : c.loop-place.place - 1 < length c.args.items.now = omega arith in
    let P : ℕ → Type 0 = λ p. level_at c.args.items.now p ≡ Some c.args.level in
    let here : P (c.loop-place.place - 1) → ⊥ = λ h.
    let bad : false ≡ true = c.if-has_level.ensures.1 (level_unread c.args.items.now (c.loop-place.place - 1) _ (Some c.args.level) low h) in cc in
    down_more P c.loop-place.place c.args.right c.loop-place-test.true here c.loop-place.invariant
