use Rattle.std.proofs.Common.{◌≡◌, ◌≤◌, length, drop}
use Rattle.std.specs.HashMap.{get}
use Rattle.gh_core.specs.declared.terms.CoreName.{CoreName}
use Rattle.gh_core.specs.Typing.{NamesDiffer}
use Rattle.gh_core_lint.specs.Keys.{first_from, key_of, same_key}
use Rattle.gh_core_lint.proofs.index.Index.new.Given as goal

abbrev pub invariant-loop-left : goal.invariant-loop-left
invariant-loop-left l = record {
  within : l.left ≤ length l.fn.names;
  agrees : (name : CoreName) → get same_key l.places (key_of name) ≡ first_from l.left (drop l.left l.fn.names) name;
  differ : NamesDiffer (drop l.left l.fn.names);
}

abbrev pub decreases-loop-left : goal.decreases-loop-left
decreases-loop-left l = l.left
