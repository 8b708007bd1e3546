use Rattle.std.proofs.Common.{◌≡◌, ◌++◌, ◌+◌, drop, length}
use Rattle.gh_core.specs.Text.{names_text}
use Rattle.gh_core_text.proofs.terms.add_fields.Given as goal

abbrev pub invariant-loop-place : goal.invariant-loop-place
invariant-loop-place l = record {
  written : l.out ++ names_text (l.count + l.place) (drop l.place l.fields) ≡ l.initial.out ++ names_text l.count l.fields;
  count : l.count ≡ length l.variables;
}
