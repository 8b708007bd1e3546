use Rattle.std.proofs.Common.{◌≡◌, ◌≤◌, ◌++◌, drop, length}
use Rattle.gh_core_text.specs.Needs.{needs_defs}
use Rattle.gh_core.specs.Text.{defs_text}
use Rattle.gh_core_text.proofs.program.add_defs.Given as goal

abbrev pub invariant-loop-def : goal.invariant-loop-def
invariant-loop-def l = record {
  needs : needs_defs (drop l.def-index l.defs) ≤ length l.names;
  written : l.out ++ defs_text l.names (drop l.def-index l.defs) ≡ l.initial.out ++ defs_text l.names l.defs;
}
