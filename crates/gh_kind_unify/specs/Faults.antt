-- Where a list of rules fails.
use Rattle.std.specs.Prelude.{◌≡◌, ℕ, suc, ◌<◌, ◌≤◌, List, length, take}
use Rattle.gh_kind_unify.specs.declared.rules.Rule.{Rule}
use Rattle.gh_kind_unify.specs.declared.cells.Cell.{Cell}
use Rattle.gh_kind_unify.specs.declared.build.Trouble.{Trouble}
use Rattle.gh_kind_unify.specs.declared.build.Trouble.TheVariants as trouble
use Rattle.gh_kind_unify.specs.declared.least.KindFault.{KindFault}
use Rattle.gh_kind_unify.specs.declared.least.KindFault.TheVariants as fault
use Rattle.gh_kind_unify.specs.declared.least.Bounds.{Bounds}
use Rattle.gh_kind_unify.specs.Kinds.{Kinds, MeetsAll, HasInSize, HasNone, HasOnlyLarger}
use Rattle.gh_kind_unify.specs.Cells.{Holds, IsTidy}

-- the cells say what the rules do
pub record Says (rules : List Rule) (cells : List Cell) : Type 0 where
  pub tidy : IsTidy cells
  pub forth : (ρ : Kinds) → MeetsAll ρ rules → Holds ρ cells
  pub back : (ρ : Kinds) → Holds ρ cells → MeetsAll ρ rules

-- why all of the rules together are not met
abbrev pub Fails : Trouble → ℕ → List Rule → Type 0
Fails trouble.Clash count rules = HasNone rules
Fails trouble.TooLarge count rules = HasOnlyLarger count rules
Fails trouble.NoMemory count rules = Unit {0}

-- the first rule that is not met: those before it have a solution in size, and with it there is none at all, or only
-- larger ones
abbrev pub StopsFirst : ℕ → List Rule → KindFault → Type 0
StopsFirst count rules (fault.Clash at) = (at < length rules) × HasInSize count (take at rules) × HasNone (take (suc at) rules)
StopsFirst count rules (fault.TooLarge at) = (at < length rules) × HasInSize count (take at rules) × HasOnlyLarger count (take (suc at) rules)
StopsFirst count rules fault.NoMemory = Unit {0}

-- what is known of the first rule that is not met
pub record AreBounds (count : ℕ) (rules : List Rule) (b : Bounds) : Type 0 where
  pub met : HasInSize count (take b.met rules)
  pub fails : Fails b.why count (take b.failing rules)
  pub order : b.met < b.failing
  pub within : b.failing ≤ length rules
