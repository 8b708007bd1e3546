use Rattle.std.proofs.Common.{◌≡◌, subst, arith}
use Rattle.gh_kind_unify.specs.Cells.{SameValue}
use Rattle.gh_kind_unify.proofs.Holding.{alike_after, value_kept}
use Rattle.gh_kind_unify.proofs.Going.{goes_same, goes_turned, goes_met}
use Rattle.gh_kind_unify.proofs.settling.settle_same.Goals as goal

pub returns-then-first-second : goal.returns-then-first-second
returns-then-first-second c =
    let a = c.args.cells.now in
    let m = c.find-first.new.cells in
    let b = c.find-second.new.cells in
    let p = c.find-first.result in
    let q = c.find-second.result in
    goes_same a b c.join.new.cells c.args.v c.args.w p q c.join.result
    (alike_after a m b c.find-first.ensures.alike c.find-second.ensures.alike)
    (value_kept m b c.args.v p c.find-second.ensures.alike c.find-first.ensures.value) c.find-second.ensures.value c.join.ensures

pub returns-then-second-first : goal.returns-then-second-first
returns-then-second-first c =
    let a = c.args.cells.now in
    let m = c.find-first.new.cells in
    let b = c.find-second.new.cells in
    let p = c.find-first.result in
    let q = c.find-second.result in
    goes_turned a b c.join-then-second-first.new.cells c.args.v c.args.w p q c.join-then-second-first.result
    (alike_after a m b c.find-first.ensures.alike c.find-second.ensures.alike)
    (value_kept m b c.args.v p c.find-second.ensures.alike c.find-first.ensures.value) c.find-second.ensures.value c.join-then-second-first.ensures

pub returns : goal.returns
returns c =
    let a = c.args.cells.now in
    let m = c.find-first.new.cells in
    let b = c.find-second.new.cells in
    let p = c.find-first.result in
    let q = c.find-second.result in
    let g = c.if-first-second.false in
    let h = c.if-second-first.false in
    let e : q ≡ p = omega (arith, g, h) in
    goes_met a b c.args.v c.args.w p
    (alike_after a m b c.find-first.ensures.alike c.find-second.ensures.alike)
    (value_kept m b c.args.v p c.find-second.ensures.alike c.find-first.ensures.value) (subst (SameValue b c.args.w) e c.find-second.ensures.value)
