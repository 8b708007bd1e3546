use Rattle.std.proofs.Common.{◌≡◌, ◌++◌, drop}
use Rattle.gh_lines.specs.Lines.{AreIds, names_of}
use Rattle.gh_lines.proofs.lines.add_names.Given as goal

abbrev pub invariant-loop-name : goal.invariant-loop-name
invariant-loop-name l = record {
  known : AreIds l.names (drop l.name-index l.list);
  written : l.out ++ names_of l.names (drop l.name-index l.list) ≡ l.initial.out ++ names_of l.names l.list;
}
