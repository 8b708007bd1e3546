use Rattle.std.proofs.Common.{rules, arith, ◌≡◌, map, take, ap, sym, ◌∙◌, ◌+◌, ◌++◌, [], ◌∷◌, Option, Some}
use Rattle.std.specs.Prelude.{option_map}
use Rattle.gh_kernel.specs.declared.terms.Term.{Term}
use Rattle.gh_kernel.proofs.erasing.+erase.Goals.{erase_bodies-in-Some+in_ok-erase_term-in-Some, erase_bodies-in-None}
use Rattle.gh_kernel.specs.declared.terms.Row.{out-Row, roll-Row}
use Rattle.gh_kernel.specs.Erase.{unit, erased, erased_binding, erased_body, erased_pair, erased_pattern, erased_row}
use Rattle.gh_kernel.proofs.Shapes.{push_mapped, row_at}
use Rattle.gh_kernel.proofs.erasing.+erase.Goals as goal

pub erase_row-returns : goal.erase_row-returns
erase_row-returns g t c =
    let A = g.row.A.Denot in
    let p : c.in_ok-patterns.patterns ≡ map erased_pattern (out-Row A c.args.row.now).patterns = search rules in
    let q : c.in_ok-groups.groups ≡ map (map erased_binding) (out-Row A c.args.row.now).groups = search rules in
    let b : c.in_ok-bodies.bodies ≡ map erased_body (out-Row A c.args.row.now).bodies = c.in_ok-bodies.ensures ∙ ap (map erased_body) c.as_slice-3.ensures in
    (λ i. roll-Row unit (record { patterns = p i; groups = q i; bodies = b i })) ∙ row_at c.args.row.now

pub erase_terms-loop-term-preserved : goal.erase_terms-loop-term-preserved
erase_terms-loop-term-preserved g t c =
    push_mapped erased c.args.terms.now c.loop-term.term-index c.loop-term.made c.push.new.self c.term-item.result c.in_ok-erase_term.field-0
    (omega arith) c.term-item.is c.in_ok-erase_term.ensures c.loop-term.invariant c.in_ok-push.ensures.ok

pub erase_bodies-loop-guard-preserved : goal.erase_bodies-loop-guard-preserved
erase_bodies-loop-guard-preserved g t c =
    let item : (o : Option (Term unit)) → o ≡ option_map erased c.loop-guard-item.result.0 → c.push.new.self ≡ c.loop-guard.made ++ (o, c.in_ok-erase_term.field-0) ∷ []
    → c.push.new.self ≡ map erased_body (take (c.loop-guard.guard-index + 1) c.args.bodies.now)
    = λ o is pushed. push_mapped erased_body c.args.bodies.now c.loop-guard.guard-index c.loop-guard.made c.push.new.self c.loop-guard-item.result (o, c.in_ok-erase_term.field-0)
    (omega arith) c.loop-guard-item.is (λ i. (is i, c.in_ok-erase_term.ensures i)) c.loop-guard.invariant pushed in
    elim c.match-guard.branch [
      | erase_bodies-in-Some+in_ok-erase_term-in-Some w ↦ item c.match-guard.guard (w.guard-is ∙ (λ i. Some (w.in_ok-erase_term-in-Some.ensures i)) ∙ sym (ap (option_map erased) w.in-Some.is)) c.in_ok-push.ensures.ok
      | erase_bodies-in-None w ↦ item c.match-guard.guard (w.guard-is ∙ sym (ap (option_map erased) w.in-None.is)) c.in_ok-push.ensures.ok
    ]

pub erase_rows-loop-row-preserved : goal.erase_rows-loop-row-preserved
erase_rows-loop-row-preserved g t c =
    push_mapped erased_row c.args.rows.now c.loop-row.row-index c.loop-row.made c.push.new.self c.row-item.result c.in_ok-erase_row.field-0
    (omega arith) c.row-item.is c.in_ok-erase_row.ensures c.loop-row.invariant c.in_ok-push.ensures.ok

pub erase_pairs-loop-function-preserved : goal.erase_pairs-loop-function-preserved
erase_pairs-loop-function-preserved g t c =
    let pair = c.loop-function-item.result in
    push_mapped erased_pair c.args.pairs.now c.loop-function.function-index c.loop-function.made c.push.new.self pair (pair.0, pair.1, c.in_ok-erase_term.field-0)
    (omega arith) c.loop-function-item.is (λ i. (pair.0, pair.1, c.in_ok-erase_term.ensures i)) c.loop-function.invariant c.in_ok-push.ensures.ok

pub erase_groups-loop-binding-preserved : goal.erase_groups-loop-binding-preserved
erase_groups-loop-binding-preserved g t c = (
  c.loop-binding.invariant.0,
  push_mapped erased_binding c.as_slice-binding-items.result.now c.loop-binding.binding-index c.loop-binding.members c.push.new.self c.binding-item.result c.in_ok-erase_binding.field-0
      (omega arith) c.binding-item.is c.in_ok-erase_binding.ensures c.loop-binding.invariant.1 c.in_ok-push.ensures.ok,
)
