-- Which names have a binding, and the first use of one that has none.
use Rattle.std.specs.Prelude.{◌≡◌, if◌then◌else◌, List, [], ◌∷◌, ◌++◌, Option, Some, None}
use Rattle.gh_base.specs.declared.fixed.TheConstants.{MAIN}
use Rattle.gh_base.specs.declared.names.NameId.{NameId}
use Rattle.gh_base.specs.declared.Refusal.{Refusal}
use Rattle.gh_base.specs.declared.Refusal.TheVariants as refusal
use Rattle.gh_bindings.specs.declared.binding.Operand.{Operand}
use Rattle.gh_bindings.specs.declared.binding.Operand.TheVariants as operand
use Rattle.gh_bindings.specs.declared.binding.Binding.{Binding}
use Rattle.gh_tree_form.specs.Form.{has_name}
use Rattle.gh_tree_form.specs.Grammar.{AreOthers}

-- the refusal of an operand that is a name without a binding
abbrev pub unknown_use : List Binding → Operand → Option Refusal
unknown_use bs (operand.Name n s) = if has_name bs n then None else Some (refusal.UnknownName s n)
unknown_use bs (operand.Text chars) = None

abbrev pub first_of : Option Refusal → Option Refusal → Option Refusal
first_of (Some r) later = Some r
first_of None later = later

-- the first of them by place, in some operands
abbrev pub first_in : List Binding → List Operand → Option Refusal
first_in bs [] = None
first_in bs (o ∷ os) = first_of (unknown_use bs o) (first_in bs os)

-- the first of them, in the bindings that are listed last
abbrev pub first_unknown : List Binding → List Binding → Option Refusal
first_unknown bs [] = None
first_unknown bs (b ∷ rest) = first_of (first_in bs b.operands) (first_unknown bs rest)

-- a use of a name is good where one binding has the name, and no other does
pub record IsBound (bs : List Binding) (n : NameId) : Type 0 where
  pub before : List Binding
  pub binding : Binding
  pub after : List Binding
  pub is : bs ≡ before ++ binding ∷ after
  pub named : binding.name ≡ n
  pub others_before : AreOthers n before
  pub others_after : AreOthers n after

abbrev pub IsGood : List Binding → Operand → Type 0
IsGood bs (operand.Name n s) = IsBound bs n
IsGood bs (operand.Text chars) = Unit {0}

abbrev pub AllGood : List Binding → List Operand → Type 0
AllGood bs [] = Unit {0}
AllGood bs (o ∷ os) = IsGood bs o × AllGood bs os

-- each use in the bindings that are listed last is good
abbrev pub AreGood : List Binding → List Binding → Type 0
AreGood bs [] = Unit {0}
AreGood bs (b ∷ rest) = AllGood bs b.operands × AreGood bs rest

-- each use is good, and so is that of `main`
abbrev pub IsScoped : List Binding → Type 0
IsScoped bs = IsBound bs MAIN × AreGood bs bs
