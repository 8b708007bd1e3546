-- When a file is accepted, by what each phase says of it.
use Rattle.std.specs.Prelude.{◌≡◌, ◌≤◌, ◌↔◌, ℕ, List, length, None, Ok}
use Rattle.gh_bindings.specs.declared.binding.Binding.{Binding}
use Rattle.gh_layout.specs.Layout.{layout}
use Rattle.gh_layout.specs.declared.laying.LaidToken.{LaidToken}
use Rattle.gh_lexer.specs.Cut.{IsReading}
use Rattle.gh_lexer.specs.Lexeme.{Lexeme}
use Rattle.gh_limits.specs.Limits.{limits_of}
use Rattle.gh_tree.specs.Depth.{depth_of}
use Rattle.gh_tree.specs.Print.{Spells}
use Rattle.gh_tree.specs.Syms.{syms_of}
use Rattle.gh_tree.specs.declared.module_tree.ModuleTree.{ModuleTree}
use Rattle.gh_tree_form.specs.Grammar.{IsFirstForm}
use Rattle.gh_check.specs.declared.phases.Checked.TheVariants as checked
use Rattle.gh_check.specs.Check.{checked_of, tokens_by}
use Rattle.gh_lines.specs.Lines.{Table}
use Rattle.gh_check.specs.Scope.{IsScoped}

-- a file is accepted as these bindings: it is no longer than the limit; its bytes have a reading, whose tokens have a layout; the laid tokens
-- are those of a well-formed tree, which is no deeper and passes no other limit; the tree is of the first form, with these bindings; and each
-- name that they use is bound once, and so is `main`
pub record IsAccepted (table : Table) (bytes : List ℕ) (bs : List Binding) : Type 0 where
  pub lexemes : List Lexeme
  pub laid : List LaidToken
  pub tree : ModuleTree
  pub short : length bytes ≤ 1048576
  pub is_reading : IsReading 1 bytes (Ok lexemes)
  pub is_layout : layout (tokens_by table lexemes) ≡ Ok laid
  pub spells : Spells (syms_of (tokens_by table lexemes) laid) tree
  pub shallow : depth_of tree ≤ 2000
  pub within : limits_of tree ≡ None
  pub is_form : IsFirstForm tree bs
  pub is_scoped : IsScoped bs

-- the check gives a program exactly where the file is accepted as that program
abbrev pub AcceptanceIsExact : Type 0
AcceptanceIsExact = (table : Table) (bytes : List ℕ) (bs : List Binding) → IsAccepted table bytes bs ↔ (checked_of table bytes ≡ checked.Program bs)
