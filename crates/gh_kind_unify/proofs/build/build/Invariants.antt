use Rattle.std.proofs.Common.{◌≡◌, length}
use Rattle.gh_kind_unify.specs.Orders.{BuiltTo}
use Rattle.gh_kind_unify.proofs.build.build.Given as goal

abbrev pub invariant-loop-v : goal.invariant-loop-v
invariant-loop-v l = record {
  count : length l.built.items ≡ length l.cells;
  done : BuiltTo l.cells l.order l.v-index l.built.items;
}
