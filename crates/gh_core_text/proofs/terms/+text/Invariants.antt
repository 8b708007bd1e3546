use Rattle.std.proofs.Common.{◌≡◌, ◌≤◌, ◌++◌, ◌+◌, ◌*◌, drop, length, map}
use Rattle.std.specs.Prelude.{option_map}
use Rattle.gh_core_text.specs.Needs.{needs_alt, needs_all, needs_bindings, needs_term}
use Rattle.gh_core.specs.Text.{alt_text, alts_text, bindings_text, term_text}
use Rattle.gh_core_text.proofs.Weights.{all_weight, alt_weight, bindings_weight, else_weight, term_weight}
use Rattle.gh_core_text.proofs.terms.+text.Given as goal

abbrev pub decreases-add_alternative : goal.decreases-add_alternative
decreases-add_alternative l = 4 * alt_weight l.alternative.now + 1

abbrev pub decreases-add_alternatives : goal.decreases-add_alternatives
decreases-add_alternatives l = 4 * all_weight (map alt_weight l.alternatives.now) + 2

abbrev pub decreases-add_app : goal.decreases-add_app
decreases-add_app l = 4 * (term_weight l.function.now + term_weight l.argument.now) + 1

abbrev pub decreases-add_bindings : goal.decreases-add_bindings
decreases-add_bindings l = 4 * bindings_weight term_weight l.bindings.now + 1

abbrev pub decreases-add_case : goal.decreases-add_case
decreases-add_case l = 4 * (term_weight l.scrutinee.now + (all_weight (map alt_weight l.alternatives.now) + else_weight (option_map term_weight l.otherwise.now))) + 3

abbrev pub decreases-add_lam : goal.decreases-add_lam
decreases-add_lam l = 4 * term_weight l.body.now + 1

abbrev pub decreases-add_letrec : goal.decreases-add_letrec
decreases-add_letrec l = 4 * (bindings_weight term_weight l.bindings.now + term_weight l.body.now) + 2

abbrev pub decreases-add_otherwise : goal.decreases-add_otherwise
decreases-add_otherwise l = 4 * else_weight (option_map term_weight l.otherwise.now) + 1

abbrev pub decreases-add_term : goal.decreases-add_term
decreases-add_term l = 4 * term_weight l.term.now

abbrev pub decreases-add_tyapp : goal.decreases-add_tyapp
decreases-add_tyapp l = 4 * term_weight l.function.now + 1

abbrev pub decreases-add_tylam : goal.decreases-add_tylam
decreases-add_tylam l = 4 * term_weight l.body.now + 1

abbrev pub invariant-add_alternatives-loop-alternative : goal.invariant-add_alternatives-loop-alternative
invariant-add_alternatives-loop-alternative l = record {
  weight : all_weight (map alt_weight (drop l.alternative-index l.alternatives)) ≤ all_weight (map alt_weight l.alternatives);
  needs : needs_all (map needs_alt (drop l.alternative-index l.alternatives)) ≤ length l.names;
  written : l.out ++ alts_text (map (alt_text l.names) (drop l.alternative-index l.alternatives)) l.initial.variables l.initial.types ≡ l.initial.out ++ alts_text (map (alt_text l.names) l.alternatives) l.initial.variables l.initial.types;
  variables : l.variables ≡ l.initial.variables;
  types : l.types ≡ l.initial.types;
}

abbrev pub invariant-add_bindings-loop-ty : goal.invariant-add_bindings-loop-ty
invariant-add_bindings-loop-ty l = record {
  place : l.place ≡ l.ty-index;
  weight : bindings_weight term_weight (drop l.ty-index l.bindings) ≤ bindings_weight term_weight l.bindings;
  needs : needs_bindings needs_term (drop l.ty-index l.bindings) ≤ length l.names;
  written : l.out ++ bindings_text l.names (term_text l.names) l.count l.place (drop l.ty-index l.bindings) l.initial.variables l.initial.types ≡ l.initial.out ++ bindings_text l.names (term_text l.names) l.count 0 l.bindings l.initial.variables l.initial.types;
  variables : l.variables ≡ l.initial.variables;
  types : l.types ≡ l.initial.types;
}
