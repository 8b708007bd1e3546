use Rattle.std.proofs.Common.{◌≡◌, ◌≤◌, ◌^◌, length, map, drop}
use Rattle.gh_base.specs.Stored.{texts}
use Rattle.gh_base.specs.Table.{with_all}
use Rattle.gh_base.proofs.names.add_all.Given as goal

abbrev pub invariant-loop-text : goal.invariant-loop-text
invariant-loop-text l = record {
  table : with_all (texts l.set.keys) (map (λ t. t.now) (drop l.text-index l.all)) ≡ with_all (texts l.initial.set.keys) (map (λ t. t.now) l.all);
  few : length l.set.keys ≤ 2 ^ 32;
}
