-- What an answered fault says of a program.
use Rattle.std.specs.Prelude.{◌≡◌, ℕ}
use Rattle.gh_core.specs.Typing.{type_of}
use Rattle.gh_core_lint.specs.declared.fault.LintFault.{LintFault}
use Rattle.gh_core_lint.specs.declared.fault.LintFault.TheVariants as answer
use Rattle.gh_core_lint.specs.declared.rules.Stop.{Stop}
use Rattle.gh_core_lint.specs.declared.rules.Stop.TheVariants as stop
use Rattle.gh_core_lint.specs.Faults.{Fault, broken, clash}
use Rattle.gh_core_lint.specs.Types.{type_at}

-- an answered fault says that this definition has this one; want of memory says nothing
abbrev pub Tells : LintFault → (ℕ → Fault → Type 0) → Type 0
Tells (answer.Clash def node wanted found) F = F def (clash node (type_of wanted) (type_of found))
Tells (answer.Broken def node) F = F def (broken node)
Tells answer.NoMemory F = Unit {0}

-- the fault of a stop
abbrev pub IsOf : Stop → Fault → Type 0
IsOf (stop.Broken n) f = f ≡ broken n
IsOf (stop.Clash n w u) f = f ≡ clash n (type_at w) (type_at u)
IsOf stop.NoMemory f = ⊥

-- an answered fault is that of a stop, at this definition
abbrev pub Reports : ℕ → Stop → LintFault → Type 0
Reports def s r = Tells r (λ at f. (at ≡ def) × IsOf s f)
