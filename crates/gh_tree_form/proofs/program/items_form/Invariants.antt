use Rattle.std.proofs.Common.{◌≡◌, map, drop}
use Rattle.gh_tree_form.specs.Form as spec
use Rattle.gh_tree_form.proofs.program.items_form.Given as goal

abbrev pub invariant-loop-next : goal.invariant-loop-next
invariant-loop-next l = spec.items_form l.fn.bound (map (λ x. x.item) l.fn.others) ≡ spec.items_form l.bound (map (λ x. x.item) (drop l.next-index l.fn.others))
