-- The work on one rule after another.
use Rattle.std.specs.Prelude.{◌≡◌, ℕ, ◌+◌, ◌<◌, List, [], ◌∷◌, length, sum_by}
use Rattle.gh_kind_unify.specs.declared.rules.Rule.{Rule}
use Rattle.gh_kind_unify.specs.declared.rules.Rule.TheVariants as rule
use Rattle.gh_kind_unify.specs.declared.cells.Cell.{Cell}
use Rattle.gh_kind_unify.specs.declared.settling.More.{More}
use Rattle.gh_kind_unify.specs.declared.settling.More.TheVariants as more
use Rattle.gh_kind_unify.specs.Kinds.{Kinds, Meets, MeetsAll, IsBelow, AreBelow}
use Rattle.gh_kind_unify.specs.Cells.{Holds, IsTidy, weight}

abbrev pub MeetsMore : Kinds → More → Type 0
MeetsMore ρ more.Clash = ⊥
MeetsMore ρ more.Nothing = Unit {0}
MeetsMore ρ (more.One r) = Meets ρ r
MeetsMore ρ (more.Two r s) = Meets ρ r × Meets ρ s

abbrev pub MoreBelow : ℕ → More → Type 0
MoreBelow count more.Clash = Unit {0}
MoreBelow count more.Nothing = Unit {0}
MoreBelow count (more.One r) = IsBelow count r
MoreBelow count (more.Two r s) = IsBelow count r × IsBelow count s

abbrev pub rule_weight : Rule → ℕ
rule_weight (rule.Star v) = 1
rule_weight (rule.Same v w) = 1
rule_weight (rule.Applies f x r) = 3

abbrev pub more_weight : More → ℕ
more_weight more.Clash = 0
more_weight more.Nothing = 0
more_weight (more.One r) = rule_weight r
more_weight (more.Two r s) = rule_weight r + rule_weight s

-- what is left of a rule once the cells say a part of it; after a clash nothing meets it
pub record Goes (before after : List Cell) (r : Rule) (m : More) : Type 0 where
  pub count : length after ≡ length before
  pub tidy : IsTidy after
  pub below : MoreBelow (length before) m
  pub forth : (ρ : Kinds) → Holds ρ before → Meets ρ r → Holds ρ after × MeetsMore ρ m
  pub back : (ρ : Kinds) → Holds ρ after → MeetsMore ρ m → Holds ρ before × Meets ρ r
  pub lighter : weight after + more_weight m < weight before + rule_weight r

abbrev pub rest : More → List Rule
rest more.Clash = []
rest more.Nothing = []
rest (more.One r) = r ∷ []
rest (more.Two r s) = r ∷ (s ∷ [])

abbrev pub weights : List Rule → ℕ
weights rules = sum_by rule_weight rules

-- cells and rules that are met together where other cells and rules are
pub record Settling (start : List Cell) (rules : List Rule) (cells : List Cell) (todo : List Rule) : Type 0 where
  pub count : length cells ≡ length start
  pub tidy : IsTidy cells
  pub below : AreBelow (length cells) todo
  pub forth : (ρ : Kinds) → Holds ρ start → MeetsAll ρ rules → Holds ρ cells × MeetsAll ρ todo
  pub back : (ρ : Kinds) → Holds ρ cells → MeetsAll ρ todo → Holds ρ start × MeetsAll ρ rules

-- the cells say what the rules do
pub record Settled (start : List Cell) (rules : List Rule) (cells : List Cell) : Type 0 where
  pub count : length cells ≡ length start
  pub tidy : IsTidy cells
  pub forth : (ρ : Kinds) → Holds ρ start → MeetsAll ρ rules → Holds ρ cells
  pub back : (ρ : Kinds) → Holds ρ cells → MeetsAll ρ rules

-- nothing meets the rules
abbrev pub Refutes : List Cell → List Rule → Type 0
Refutes start rules = (ρ : Kinds) → Holds ρ start → MeetsAll ρ rules → ⊥
