use Rattle.std.proofs.Common.{◌≡◌, ◌≤◌, ◌++◌, drop, length}
use Rattle.gh_core_text.specs.Needs.{needs_decls}
use Rattle.gh_core.specs.Text.{decls_text}
use Rattle.gh_core_text.proofs.program.add_decls.Given as goal

abbrev pub invariant-loop-decl : goal.invariant-loop-decl
invariant-loop-decl l = record {
  needs : needs_decls (drop l.decl-index l.decls) ≤ length l.names;
  written : l.out ++ decls_text l.names (drop l.decl-index l.decls) ≡ l.initial.out ++ decls_text l.names l.decls;
}
