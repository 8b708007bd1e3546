-- The first rule on declarations that fails in a file, as a relation: this rule fails, and none that fails is before it.
use Rattle.std.specs.Prelude.{◌≡◌, ℕ, ◌⊎◌, true, false, List, [], ◌∷◌, Some, None}
use Rattle.gh_base.specs.declared.refusal.Refusal.{Refusal}
use Rattle.gh_tree.specs.declared.module_tree.Item.TheVariants as item
use Rattle.gh_tree.specs.declared.module_tree.ModuleTree.{ModuleTree}
use Rattle.gh_tree.specs.declared.tops.Top.{Top}
use Rattle.gh_tree.specs.declared.tops.Top.TheVariants as top
use Rattle.gh_limits.specs.Nodes.{Among, a_decl, a_rhs}
use Rattle.gh_declarations.specs.declared.named.Failure.{Failure}
use Rattle.gh_declarations.specs.Lists.{list_failures}
use Rattle.gh_declarations.specs.Nodes.{FailsInside}
use Rattle.gh_declarations.specs.Tops.{declared_at_top, items_of, cases_of, parameter_failures, argument_failures, is_before, refusal_of, fault_of}

-- a rule fails at the head of a declaration of the top, or inside it
abbrev pub FailsAt : Failure → Top → Type 0
FailsAt f (top.Synonym s a n ps m t) = Among f (parameter_failures ps)
FailsAt f (top.Data s a n ps m k ks) = Among f (parameter_failures ps)
FailsAt f (top.Newtype s a n ps m c t) = Among f (parameter_failures ps)
FailsAt f (top.Signature s v vs m c t) = ⊥
FailsAt f (top.Case s v a t b ps r) = Among f (argument_failures ps) ⊎ FailsInside f (a_rhs r)
FailsAt f (top.Extends s v m w) = ⊥
FailsAt f (top.Decl d) = FailsInside f (a_decl d)

-- a rule fails in the file of this number: in the list of its declarations at the top, at one more clause of a case, or at one
-- of its declarations
pub data Fails (n : ℕ) (t : ModuleTree) (f : Failure) : Type 0 where
  in_the_list : Among f (list_failures (declared_at_top n (items_of t))) → Fails n t f
  at_a_case : Among f (cases_of t) → Fails n t f
  at_a_declaration : (d : Top) → Among (item.Top d) (items_of t) → FailsAt f d → Fails n t f

-- this refusal is that of a rule that fails, and none that fails is before it, by first bytes and then by numbers
abbrev pub IsFirst : ℕ → ModuleTree → Refusal → Type 0
IsFirst n t r = (f : Failure) × (r ≡ refusal_of f) × Fails n t f × ((g : Failure) → Fails n t g → is_before g f ≡ false)

-- this rule fails, before every other that fails
abbrev pub IsStrictlyFirst : ℕ → ModuleTree → Failure → Type 0
IsStrictlyFirst n t f = Fails n t f × ((g : Failure) → Fails n t g → (g ≡ f) ⊎ (is_before f g ≡ true))

abbrev pub NoneFails : ℕ → ModuleTree → Type 0
NoneFails n t = (f : Failure) → Fails n t f → ⊥

-- The answer for a file is a refusal only where that is the first; it is the refusal of each that fails before every other; and
-- there is none exactly where no rule fails.
pub record AnswersFirst : Type 0 where
  pub sound : (n : ℕ) (t : ModuleTree) (r : Refusal) → fault_of n t ≡ Some r → IsFirst n t r
  pub complete : (n : ℕ) (t : ModuleTree) (f : Failure) → IsStrictlyFirst n t f → fault_of n t ≡ Some (refusal_of f)
  pub none_fails : (n : ℕ) (t : ModuleTree) → fault_of n t ≡ None → NoneFails n t
  pub no_answer : (n : ℕ) (t : ModuleTree) → NoneFails n t → fault_of n t ≡ None
