use Rattle.std.proofs.Common.{◌≡◌, ◌≤◌, ◌++◌, drop, length}
use Rattle.gh_core_text.specs.Needs.{needs_cons}
use Rattle.gh_core.specs.Text.{cons_text}
use Rattle.gh_core_text.proofs.program.add_constructors.Given as goal

abbrev pub invariant-loop-con : goal.invariant-loop-con
invariant-loop-con l = record {
  needs : needs_cons (drop l.con-index l.cons) ≤ length l.names;
  written : l.out ++ cons_text l.names (drop l.con-index l.cons) ≡ l.initial.out ++ cons_text l.names l.cons;
}
