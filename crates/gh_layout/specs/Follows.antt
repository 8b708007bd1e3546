-- What the steps of the layout answer, and the whole.
use Rattle.std.specs.Prelude.{◌≡◌, ℕ, List, Option, Some, None, Result, Ok, Err}
use Rattle.gh_base.specs.declared.refusal.Fault.{Fault}
use Rattle.gh_base.specs.declared.refusal.Fault.TheVariants as fault
use Rattle.gh_base.specs.declared.refusal.Refusal.{Refusal}
use Rattle.gh_base.specs.declared.refusal.Refusal.TheVariants as refusal
use Rattle.gh_lexer.specs.declared.token.Token.{Token}
use Rattle.gh_layout.specs.Layout.{span_at}
use Rattle.gh_layout.specs.declared.laying.LaidToken.{LaidToken}
use Rattle.gh_layout.specs.declared.laying.Laying.{Laying}
use Rattle.gh_layout.specs.declared.laying.Stop.{Stop}
use Rattle.gh_layout.specs.declared.laying.Stop.TheVariants as stop

-- the step is made where it is wanted, and refused where there is none
abbrev pub Follows : Option Laying → Result (Unit {0}) Stop → Laying → Type 0
Follows want (Ok x) new = want ≡ Some new
Follows want (Err stop.BadLayout) new = want ≡ None
Follows want (Err stop.NoMemory) new = Unit {0}

-- the fault of a step that is not made at a place
abbrev pub fault_of : List Token → ℕ → Stop → Fault
fault_of ts i stop.BadLayout = fault.Refused (refusal.BadLayout (span_at ts i))
fault_of ts i stop.NoMemory = fault.NoMemory

-- the answer is the wanted one, or there is not enough memory
abbrev pub Gives : Result (List LaidToken) Fault → Result (List LaidToken) Refusal → Type 0
Gives (Ok out) want = want ≡ Ok out
Gives (Err (fault.Refused r)) want = want ≡ Err r
Gives (Err fault.NoMemory) want = Unit {0}
