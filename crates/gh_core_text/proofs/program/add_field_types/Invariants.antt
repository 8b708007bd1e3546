use Rattle.std.proofs.Common.{◌≡◌, ◌≤◌, ◌++◌, drop, length}
use Rattle.gh_core_text.specs.Needs.{needs_fields}
use Rattle.gh_core.specs.Text.{fields_text}
use Rattle.gh_core_text.proofs.program.add_field_types.Given as goal

abbrev pub invariant-loop-field : goal.invariant-loop-field
invariant-loop-field l = record {
  needs : needs_fields (drop l.field-index l.fields) ≤ length l.names;
  written : l.out ++ fields_text l.names (drop l.field-index l.fields) ≡ l.initial.out ++ fields_text l.names l.fields;
}
