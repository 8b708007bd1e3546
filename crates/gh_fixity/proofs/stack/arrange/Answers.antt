use Rattle.std.proofs.Common.{◌≡◌, ◌+◌, Option, Some, None, ℕ, ap, sym, subst, ◌∙◌, drop}
use Rattle.gh_fixity.specs.declared.item.Arranged.{Arranged}
use Rattle.gh_fixity.specs.declared.item.Item.TheVariants as item
use Rattle.gh_fixity.specs.Arrangement.{minus_sign, op_at, Clashes, IsNearest, Arranges, tree_in, fixity_in, or_default}
use Rattle.gh_fixity.specs.Frames.{opens}
use Rattle.gh_fixity.specs.Stack.{step, goes, closed}
use Rattle.gh_fixity.specs.Settle.{settle, fails}
use Rattle.gh_fixity.proofs.Laws.{arranges}
use Rattle.gh_fixity.proofs.Settling.{minus_stops, op_stops, settles}
use Rattle.gh_fixity.proofs.Places.{leaf_read}
use Rattle.gh_fixity.proofs.Turns.{at_item, leaf_turn, minus_turn, op_turn, minus_clashes, op_clashes, clash_from, HasTurn}
use Rattle.gh_fixity.proofs.stack.arrange.Goals as goal
use Rattle.gh_fixity.proofs.stack.arrange.Goals.{in-Leaf, in-Minus+in_default, in-Op+in-Some+in_default-put_operator}

pub returns-in-Err-clause-clash : goal.returns-in-Err-clause-clash
returns-in-Err-clause-clash c =
    let xs = c.as_slice-list.result.now in
    let gs = opens xs c.loop-at.frames.items in
    let t : HasTurn xs c.loop-at.at gs c.loop-at.last = record { reads = c.loop-at.invariant.reads; grammar = c.loop-at.invariant.grammar } in
    clash_from (Unit {0}) Arranged c.in-Err.fault
    (λ left right. (right ≡ c.loop-at.at) × (left + 1 ≡ right) × (step gs None minus_sign ≡ None))
    (Clashes c.args.items.now)
    (λ left right h. minus_clashes xs c.loop-at.at gs c.args.items.now c.loop-at.last c.in-Minus.field-0 left right c.as_slice-list.ensures c.requires
    (at_item xs c.loop-at.at (item.Leaf 0) (item.Minus c.in-Minus.field-0) c.loop-at-test.true c.in-Minus.is) t h)
    c.in-Err.ensures.clash

pub returns-in-Err-put_operator-clause-clash : goal.returns-in-Err-put_operator-clause-clash
returns-in-Err-put_operator-clause-clash c =
    let xs = c.as_slice-list.result.now in
    let gs = opens xs c.loop-at.frames.items in
    let t : HasTurn xs c.loop-at.at gs (Some c.in-Some.leaf)
    = subst (HasTurn xs c.loop-at.at gs) c.in-Some.is (record { reads = c.loop-at.invariant.reads; grammar = c.loop-at.invariant.grammar }) in
    clash_from (Unit {0}) Arranged c.in-Err-put_operator.fault
    (λ left right. (right ≡ c.loop-at.at) × IsNearest xs c.in-Op.fixity.level left right × (step gs (Some c.in-Some.leaf) (op_at c.loop-at.at c.in-Op.fixity) ≡ None))
    (Clashes c.args.items.now)
    (λ left right h. op_clashes xs c.loop-at.at gs c.args.items.now c.in-Some.leaf c.in-Op.fixity c.in-Op.field-1 left right c.as_slice-list.ensures c.requires
    (at_item xs c.loop-at.at (item.Leaf 0) (item.Op c.in-Op.fixity c.in-Op.field-1) c.loop-at-test.true c.in-Op.is) t h)
    c.in-Err-put_operator.ensures.clash

pub returns-in-Err-clause-settled : goal.returns-in-Err-clause-settled
returns-in-Err-clause-settled c =
    let xs = c.as_slice-list.result.now in
    let gs = opens xs c.loop-at.frames.items in
    let t : HasTurn xs c.loop-at.at gs c.loop-at.last = record { reads = c.loop-at.invariant.reads; grammar = c.loop-at.invariant.grammar } in
    clash_from (Unit {0}) Arranged c.in-Err.fault
    (λ left right. (right ≡ c.loop-at.at) × (left + 1 ≡ right) × (step gs None minus_sign ≡ None))
    (λ left right. (root : Option ℕ) → settle c.args.items.now root ≡ fails left right)
    (λ left right h. settles c.args.items.now left right (minus_stops xs c.args.items.now c.loop-at.at gs c.loop-at.last c.in-Minus.field-0 left right c.as_slice-list.ensures
    (at_item xs c.loop-at.at (item.Leaf 0) (item.Minus c.in-Minus.field-0) c.loop-at-test.true c.in-Minus.is) t h)
    (minus_clashes xs c.loop-at.at gs c.args.items.now c.loop-at.last c.in-Minus.field-0 left right c.as_slice-list.ensures c.requires
    (at_item xs c.loop-at.at (item.Leaf 0) (item.Minus c.in-Minus.field-0) c.loop-at-test.true c.in-Minus.is) t h).other)
    c.in-Err.ensures.clash

pub returns-in-Err-put_operator-clause-settled : goal.returns-in-Err-put_operator-clause-settled
returns-in-Err-put_operator-clause-settled c =
    let xs = c.as_slice-list.result.now in
    let gs = opens xs c.loop-at.frames.items in
    let t : HasTurn xs c.loop-at.at gs (Some c.in-Some.leaf)
    = subst (HasTurn xs c.loop-at.at gs) c.in-Some.is (record { reads = c.loop-at.invariant.reads; grammar = c.loop-at.invariant.grammar }) in
    clash_from (Unit {0}) Arranged c.in-Err-put_operator.fault
    (λ left right. (right ≡ c.loop-at.at) × IsNearest xs c.in-Op.fixity.level left right × (step gs (Some c.in-Some.leaf) (op_at c.loop-at.at c.in-Op.fixity) ≡ None))
    (λ left right. (root : Option ℕ) → settle c.args.items.now root ≡ fails left right)
    (λ left right h. settles c.args.items.now left right (op_stops xs c.args.items.now c.loop-at.at gs c.in-Some.leaf c.in-Op.fixity c.in-Op.field-1 left right c.as_slice-list.ensures
    (at_item xs c.loop-at.at (item.Leaf 0) (item.Op c.in-Op.fixity c.in-Op.field-1) c.loop-at-test.true c.in-Op.is) t h)
    (op_clashes xs c.loop-at.at gs c.args.items.now c.in-Some.leaf c.in-Op.fixity c.in-Op.field-1 left right c.as_slice-list.ensures c.requires
    (at_item xs c.loop-at.at (item.Leaf 0) (item.Op c.in-Op.fixity c.in-Op.field-1) c.loop-at-test.true c.in-Op.is) t h).other)
    c.in-Err-put_operator.ensures.clash

pub put_operator-requires-clause-here : goal.put_operator-requires-clause-here
put_operator-requires-clause-here c =
    ap (λ o. or_default (fixity_in o)) (at_item c.as_slice-list.result.now c.loop-at.at (item.Leaf 0) (item.Op c.in-Op.fixity c.in-Op.field-1) c.loop-at-test.true c.in-Op.is)

pub loop-at-preserved : goal.loop-at-preserved
loop-at-preserved c =
    let xs = c.as_slice-list.result.now in
    let k = c.loop-at.at in
    let gs = opens xs c.loop-at.frames.items in
    let t : HasTurn xs k gs c.loop-at.last = record { reads = c.loop-at.invariant.reads; grammar = c.loop-at.invariant.grammar } in
    elim c.match-item.branch [
      | in-Leaf w ↦
          let u = leaf_turn xs k gs c.loop-at.last w.in-Leaf.field-0 (at_item xs k (item.Leaf 0) (item.Leaf w.in-Leaf.field-0) c.loop-at-test.true w.in-Leaf.is) t in
          record {
            reads = u.reads ∙ ap (λ v. Some (opens xs v.items, Some k)) (sym w.frames-is) ∙ ap (λ o. Some (opens xs c.match-item.frames.items, o)) (sym w.last-is);
            grammar = ap (λ o. goes o (drop (k + 1) xs)) w.last-is ∙ u.grammar;
          }
      | in-Minus+in_default w ↦
          let u = minus_turn xs k gs c.loop-at.last w.in-Minus.field-0 (opens xs w.put_minus.new.frames.items)
          (at_item xs k (item.Leaf 0) (item.Minus w.in-Minus.field-0) c.loop-at-test.true w.in-Minus.is) t w.in_default.ensures.ok in
          record {
            reads = u.reads ∙ ap (λ v. Some (opens xs v.items, c.loop-at.last)) (sym w.frames-is) ∙ ap (λ o. Some (opens xs c.match-item.frames.items, o)) (sym w.last-is);
            grammar = ap (λ o. goes o (drop (k + 1) xs)) w.last-is ∙ u.grammar;
          }
      | in-Op+in-Some+in_default-put_operator w ↦
          let s : HasTurn xs k gs (Some w.in-Some.leaf) = subst (HasTurn xs k gs) w.in-Some.is t in
          let u = op_turn xs k gs w.in-Some.leaf w.in-Op.fixity w.in-Op.field-1 (opens xs w.put_operator.new.frames.items)
          (at_item xs k (item.Leaf 0) (item.Op w.in-Op.fixity w.in-Op.field-1) c.loop-at-test.true w.in-Op.is) s w.in_default-put_operator.ensures.ok in
          record {
            reads = u.reads ∙ ap (λ v. Some (opens xs v.items, None)) (sym w.frames-is) ∙ ap (λ o. Some (opens xs c.match-item.frames.items, o)) (sym w.last-is);
            grammar = ap (λ o. goes o (drop (k + 1) xs)) w.last-is ∙ u.grammar;
          }
    ]

pub returns-in-Ok-clause-tree : goal.returns-in-Ok-clause-tree
returns-in-Ok-clause-tree c =
    let xs = c.as_slice-list.result.now in
    let gs = opens xs c.loop-at.frames.items in
    let whole : Arranges xs (tree_in xs c.in-Ok.tree) =
    arranges xs c.loop-at.at gs c.in-Some-last.leaf (tree_in xs c.in-Ok.tree) c.loop-at-test.false
    (c.loop-at.invariant.reads ∙ ap (λ o. Some (gs, o)) c.in-Some-last.is)
    (c.in-Ok.ensures xs ∙ ap (closed gs) (leaf_read xs c.in-Some-last.leaf)) in
    subst (λ ys. Arranges ys (tree_in ys c.in-Ok.tree)) c.as_slice-list.ensures whole
