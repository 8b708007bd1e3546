-- Uses of names in a small module. Modules and names are numbers: the module 1 defines 11, the generic function 12, the
-- constructor 13 with two fields and the synonym 14 with one parameter; 10 is imported from the modules 2 and 3.
use Rattle.std.proofs.Common.{◌≡◌, ℕ, List, [], ◌∷◌, Some, None, Ok, Err, refl}
use Rattle.gh_base.specs.declared.names.NameId.{NameId}
use Rattle.gh_base.specs.declared.place.Origin.{Origin}
use Rattle.gh_base.specs.declared.place.Span.{Span}
use Rattle.gh_base.specs.declared.place.Space.{Space}
use Rattle.gh_base.specs.declared.place.Space.TheVariants.{Values, Types}
use Rattle.gh_program.specs.declared.names.Referent.TheVariants as referent
use Rattle.gh_scopes.specs.declared.types.Used.{Used}
use Rattle.gh_scopes.specs.declared.types.ScopeEntry.{ScopeEntry}
use Rattle.gh_scopes.specs.Found.{entry}
use Rattle.gh_scopes.specs.Keys.{use_key, serves}
use Rattle.gh_resolve_names.specs.declared.context.Context.{Context}
use Rattle.gh_resolve_names.specs.declared.misuse.Rule.TheVariants as rule
use Rattle.gh_resolve_names.specs.Misuses.{least}
use Rattle.gh_resolve_names.specs.Standing.{Bound, constructor_use, generic_stands, misuse, plain_stands, type_use, variable_stands}

abbrev name : ℕ → NameId
name n = record { 0 = n }

abbrev at : ℕ → Span
at p = record { file = 1; from = p; to = p }

-- the use of a name that stands at a place, and of one with a qualifier
abbrev used : ℕ → ℕ → Used
used p n = record { span = at p; qualifier = None; name = name n }

abbrev used_of : ℕ → ℕ → ℕ → Used
used_of p q n = record { span = at p; qualifier = Some (name q); name = name n }

abbrev origin : ℕ → Space → ℕ → Origin
origin m s n = record { «module» = name m; space = s; name = name n }

abbrev entries : List ScopeEntry
entries =
    entry None (origin 1 Values 11) ∷ entry None (origin 1 Values 12) ∷ entry None (origin 1 Values 13) ∷ entry None (origin 1 Types 14)
    ∷ entry None (origin 2 Values 10) ∷ entry (Some (name 2)) (origin 2 Values 10) ∷ entry None (origin 3 Values 10) ∷ []

abbrev here : Context
here = record { home = name 1; scope = entries; functions = ((1, (0, 12)), 0) ∷ []; fields = ((1, (0, 13)), 2) ∷ []; synonyms = ((1, (1, 14)), 1) ∷ [] }

abbrev locals : Bound
locals = (11, 40) ∷ (12, 30) ∷ (11, 20) ∷ []

pub a_definition : plain_stands here [] (used 5 11) ≡ Ok (referent.Top (origin 1 Values 11))
unfolding use_key serves
a_definition = refl

-- the innermost binder hides the others and the definition
pub a_local_name : plain_stands here locals (used 50 11) ≡ Ok (referent.Local 40)
a_local_name = refl

pub no_name : plain_stands here [] (used 5 99) ≡ Err rule.Unknown
unfolding use_key serves
no_name = refl

pub two_origins : plain_stands here [] (used 5 10) ≡ Err rule.Ambiguous
unfolding use_key serves
two_origins = refl

pub with_a_qualifier : plain_stands here locals (used_of 5 2 10) ≡ Ok (referent.Top (origin 2 Values 10))
unfolding use_key serves
with_a_qualifier = refl

-- a generic function is no plain name, and a local name hides it
pub a_generic_name : plain_stands here [] (used 5 12) ≡ Err rule.Unknown
unfolding use_key serves
a_generic_name = refl

pub a_call : generic_stands here [] (used 5 12) ≡ Ok (referent.Top (origin 1 Values 12))
unfolding use_key serves
a_call = refl

pub a_hidden_call : generic_stands here locals (used 50 12) ≡ Err rule.Unknown
a_hidden_call = refl

pub a_plain_call : generic_stands here [] (used 5 11) ≡ Err rule.Unknown
unfolding use_key serves
a_plain_call = refl

pub a_variable : variable_stands locals (used 50 12) ≡ Ok (referent.Local 30)
a_variable = refl

pub no_variable : variable_stands locals (used 50 13) ≡ Err rule.Unknown
no_variable = refl

-- fields and arguments
pub two_fields : (constructor_use here (Some 2) (used 5 13)).misuses ≡ []
unfolding use_key serves
two_fields = refl

pub three_fields : (constructor_use here (Some 3) (used 5 13)).misuses ≡ misuse rule.Fields (used 5 13) ∷ []
unfolding use_key serves
three_fields = refl

pub one_argument : (type_use here 1 (used 5 14)).misuses ≡ []
unfolding use_key serves
one_argument = refl

pub no_argument : (type_use here 0 (used 5 14)).misuses ≡ misuse rule.Arguments (used 5 14) ∷ []
unfolding use_key serves
no_argument = refl

-- the first byte decides, and then the number
pub the_first : least None (misuse rule.Ambiguous (used 7 1) ∷ misuse rule.Arguments (used 3 2) ∷ misuse rule.Unknown (used 3 3) ∷ []) ≡ Some (misuse rule.Unknown (used 3 3))
the_first = refl
