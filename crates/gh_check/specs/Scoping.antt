-- The law that a program is accepted exactly where its uses of names are good.
use Rattle.std.specs.Prelude.{◌≡◌, ◌↔◌, List}
use Rattle.gh_bindings.specs.declared.binding.Binding.{Binding}
use Rattle.gh_tree.specs.declared.module_tree.ModuleTree.{ModuleTree}
use Rattle.gh_tree_form.specs.Form.{form_of}
use Rattle.gh_tree_form.specs.declared.program.Parsed.TheVariants as parsed
use Rattle.gh_check.specs.declared.phases.Checked.TheVariants as checked
use Rattle.gh_check.specs.Check.{linked_of}
use Rattle.gh_check.specs.Scope.{IsScoped}

-- for the bindings that are taken out of any tree
abbrev pub ScopeIsExact : Type 0
ScopeIsExact = (t : ModuleTree) (bs : List Binding) → form_of t ≡ parsed.Program bs → IsScoped bs ↔ (linked_of bs ≡ checked.Program bs)
