-- What is seen of names that lead back to themselves.
use Rattle.std.specs.Prelude.{◌≡◌, ℕ, zero, suc, ◌==◌, if◌then◌else◌, List, [], ◌∷◌, Option, Some, None}
use Rattle.gh_base.specs.declared.fixed.TheConstants.{MAIN}
use Rattle.gh_base.specs.declared.names.NameId.{NameId}
use Rattle.gh_bindings.specs.declared.binding.Operand.{Operand}
use Rattle.gh_bindings.specs.declared.binding.Operand.TheVariants as operand
use Rattle.gh_bindings.specs.declared.binding.Binding.{Binding}
use Rattle.gh_core.specs.Reduce.{running}
use Rattle.gh_run.specs.Core.{core_seen}

-- operands that are one name
abbrev pub alone : List Operand → Option NameId
alone [] = None
alone (operand.Name n s ∷ []) = Some n
alone (operand.Text cs ∷ []) = None
alone (o ∷ p ∷ os) = None

-- the name to which a name is bound
abbrev pub next_name : List Binding → NameId → Option NameId
next_name [] n = None
next_name (b ∷ bs) n = if b.name.0 == n.0 then alone b.operands else next_name bs n

abbrev pub and_then : Option NameId → (NameId → Option NameId) → Option NameId
and_then None go = None
and_then (Some n) go = go n

-- the name to which a name leads after so many bindings
abbrev pub name_after : ℕ → List Binding → NameId → Option NameId
name_after zero bs n = Some n
name_after (suc k) bs n = and_then (next_name bs n) (λ m. name_after k bs m)

-- where `main` leads to a name that leads back to itself, the core goes on for ever and prints nothing
abbrev pub CyclesRunForEver : Type 0
CyclesRunForEver = (bs : List Binding) (n : NameId) (before more : ℕ) → name_after before bs MAIN ≡ Some n → name_after (suc more) bs n ≡ Some n
    → (k : ℕ) → core_seen bs k ≡ record { out = []; status = running }
