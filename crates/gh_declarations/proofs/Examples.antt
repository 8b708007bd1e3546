-- Small lists of declarations, with where the rules fail.
use Rattle.std.proofs.Common.{◌≡◌, ℕ, ◌+◌, List, [], ◌∷◌, Some, None, refl}
use Rattle.gh_base.specs.declared.names.NameId.{NameId}
use Rattle.gh_base.specs.declared.place.Span.{Span}
use Rattle.gh_declarations.specs.declared.named.Named.{Named}
use Rattle.gh_declarations.specs.declared.named.Sort.TheVariants as sort
use Rattle.gh_declarations.specs.declared.named.Declared.{Declared}
use Rattle.gh_declarations.specs.declared.named.Declared.TheVariants as declares
use Rattle.gh_declarations.specs.declared.named.Rule.{Rule}
use Rattle.gh_declarations.specs.declared.named.Rule.TheVariants as rule
use Rattle.gh_declarations.specs.declared.named.Failure.{Failure}
use Rattle.gh_declarations.specs.Lists.{list_failures, repeated}
use Rattle.gh_declarations.specs.Tops.{first_of}

-- one byte of file 1
abbrev at : ℕ → Span
at p = record { file = 1; from = p; to = p + 1 }

abbrev named : ℕ → ℕ → Named
named n p = record { span = at p; name = record { 0 = n } }

abbrev clause : ℕ → ℕ → ℕ → Declared
clause n arguments p = declares.Clause (record { span = at p; named = named n p; arguments = arguments })

abbrev signature : ℕ → ℕ → Declared
signature n p = declares.Name sort.Signature (named n p)

abbrev fails : Rule → ℕ → ℕ → Failure
fails r n p = record { rule = r; span = at p; name = record { 0 = n } }

-- `f` of two clauses, and `g`
two_clauses : list_failures (clause 1 1 0 ∷ clause 1 1 10 ∷ clause 2 0 20 ∷ []) ≡ []
two_clauses = refl

-- clauses that are apart are two definitions
apart_clauses : list_failures (clause 1 1 0 ∷ clause 2 0 10 ∷ clause 1 1 20 ∷ []) ≡ fails rule.Double 1 20 ∷ []
apart_clauses = refl

-- a name without arguments is bound by itself
two_bindings : list_failures (clause 1 0 0 ∷ clause 1 0 10 ∷ []) ≡ fails rule.Double 1 10 ∷ []
two_bindings = refl

-- a clause with fewer arguments than the first
fewer_arguments : list_failures (clause 1 2 0 ∷ clause 1 1 10 ∷ clause 1 2 20 ∷ []) ≡ fails rule.Unequal 1 10 ∷ []
fewer_arguments = refl

-- a signature that is there twice, and one without a definition
two_signatures : list_failures (signature 1 0 ∷ signature 1 10 ∷ clause 1 0 20 ∷ []) ≡ fails rule.Double 1 10 ∷ []
two_signatures = refl

signature_alone : list_failures (signature 1 0 ∷ clause 2 0 10 ∷ []) ≡ fails rule.Alone 1 0 ∷ []
signature_alone = refl

-- a type and a constructor of one name are two names
type_and_constructor : list_failures (declares.Name sort.Type (named 1 0) ∷ declares.Name sort.Value (named 1 10) ∷ []) ≡ []
type_and_constructor = refl

-- each variable but the first of its text
three_times : repeated (named 1 0 ∷ named 2 10 ∷ named 1 20 ∷ named 1 30 ∷ []) ≡ fails rule.Repeated 1 20 ∷ fails rule.Repeated 1 30 ∷ []
three_times = refl

-- the least first byte decides, and then the number
least_byte : first_of None (fails rule.Double 1 20 ∷ fails rule.Alone 2 10 ∷ []) ≡ Some (fails rule.Alone 2 10)
least_byte = refl

least_number : first_of None (fails rule.Alone 1 10 ∷ fails rule.Double 2 10 ∷ []) ≡ Some (fails rule.Double 2 10)
least_number = refl

-- the refused statement that two clauses of one name are always one definition
not_one_definition : list_failures (clause 1 1 0 ∷ clause 2 0 10 ∷ clause 1 1 20 ∷ []) ≡ [] → ⊥
not_one_definition h = absurd (cc)
