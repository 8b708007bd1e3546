use Rattle.std.proofs.Common.{◌≡◌, ◌++◌, ◌-◌, ◌+◌, drop, length}
use Rattle.gh_core.specs.Levels.{backwards}
use Rattle.gh_core_text.proofs.binders.Binders.bind_list.Given as goal

abbrev pub invariant-loop-taken : goal.invariant-loop-taken
invariant-loop-taken l = record {
  bound : l.self ≡ l.initial.self ++ backwards (l.count + (length l.numbers - l.taken)) (drop (length l.numbers - l.taken) l.numbers);
  count : l.count ≡ length l.initial.self;
}
