-- What the code does: it gives what is due, unless memory ran out.
use Rattle.std.specs.Prelude.{◌≡◌, Result, Ok, Err}
use Rattle.gh_base.specs.declared.refusal.Fault.{Fault}
use Rattle.gh_base.specs.declared.refusal.Fault.TheVariants as fault
use Rattle.gh_base.specs.declared.refusal.Refusal.{Refusal}

-- the refusal that is due, unless memory ran out
abbrev pub Fails : {A : Type 0} → Fault → Result A Refusal → Type 0
Fails (fault.Refused r) due = due ≡ Err r
Fails fault.NoMemory due = Unit {0}

abbrev pub Gives : {A : Type 0} → Result A Refusal → Result A Fault → Type 0
Gives due (Ok x) = due ≡ Ok x
Gives due (Err e) = Fails e due
