use Rattle.std.proofs.Common.{◌≡◌, ℕ, ◌<◌, get_or, vec_len}
use Rattle.gh_groups.specs.Plans.{IsWindow, OrderOk}
use Rattle.gh_groups.proofs.check.is_order_ok.Given as goal

abbrev pub invariant-loop-place : goal.invariant-loop-place
invariant-loop-place l = record {
  full : vec_len l.windows ≡ l.place;
  windows : (q : ℕ) → q < l.place → IsWindow l.groups (get_or l.windows.items q 0) q;
  order : (q : ℕ) → q < l.place → OrderOk l.edges l.groups l.plan.places.items q;
}
