-- The first refusal of several.
use Rattle.std.proofs.Common.{◌≡◌, Option, Some, None, ap}
use Rattle.gh_base.specs.declared.Refusal.{Refusal}
use Rattle.gh_check.specs.Scope.{first_of}

pub first_found : (r : Refusal) (o later : Option Refusal) → o ≡ Some r → first_of o later ≡ Some r
first_found r o later h = ap (λ x. first_of x later) h

pub first_missed : (o later : Option Refusal) → o ≡ None → first_of o later ≡ later
first_missed o later h = ap (λ x. first_of x later) h
