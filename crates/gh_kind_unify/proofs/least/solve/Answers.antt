use Rattle.std.proofs.Common.{◌≡◌, length, subst}
use Rattle.gh_kind_unify.specs.Kinds.{HasNone}
use Rattle.gh_kind_unify.specs.Orders.{BuiltTo, IsEndless, IsOrder}
use Rattle.gh_kind_unify.specs.Faults.{Says}
use Rattle.gh_kind_unify.proofs.Places.{none_found, some_found}
use Rattle.gh_kind_unify.proofs.Grounding.{none_endless, least_solution}
use Rattle.gh_kind_unify.proofs.least.solve.Goals as goal

pub returns-in_default-found-2-clause-err : goal.returns-in_default-found-2-clause-err
returns-in_default-found-2-clause-err c =
    let rules = c.args.rules.now in
    let count = c.args.count in
    let says = some_found c.in-Ok.found c.in-Some.cells (HasNone rules) (λ cells. (length cells.items ≡ count) × Says rules cells.items) c.in-Some.is c.in-Ok.ensures in
    let endless = none_found c.in-Ok-order.found (IsEndless c.as_slice.result.now) (λ order. IsOrder c.as_slice.result.now order.items) c.in_default-found-2.is
    c.in-Ok-order.ensures in
    none_endless rules c.in-Some.cells.items says.1 (subst IsEndless c.as_slice.ensures.value endless)

pub returns-in-Ok-build-clause-ok : goal.returns-in-Ok-build-clause-ok
returns-in-Ok-build-clause-ok c =
    let rules = c.args.rules.now in
    let count = c.args.count in
    let cells = c.in-Some.cells.items in
    let order = c.in-Some-found.order.items in
    let kinds = c.in-Ok-build.kinds.items in
    let says = some_found c.in-Ok.found c.in-Some.cells (HasNone rules) (λ made. (length made.items ≡ count) × Says rules made.items) c.in-Some.is c.in-Ok.ensures in
    let ordered = some_found c.in-Ok-order.found c.in-Some-found.order (IsEndless c.as_slice.result.now) (λ made. IsOrder c.as_slice.result.now made.items)
    c.in-Some-found.is c.in-Ok-order.ensures in
    let built = c.in-Ok-build.ensures.ok in
    least_solution count rules cells order kinds c.requires says.0 says.1 (subst (λ z. IsOrder z order) c.as_slice.ensures.value ordered)
    (subst (λ z. length kinds ≡ length z) c.as_slice-2.ensures.value c.in-Ok-build.ensures.count)
    (subst (λ z. BuiltTo cells z (length z) kinds) c.as_slice-3.ensures.value
    (subst (λ z. BuiltTo z c.as_slice-3.result.now (length c.as_slice-3.result.now) kinds) c.as_slice-2.ensures.value built))
