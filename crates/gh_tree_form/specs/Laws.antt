-- What holds of the first form of trees.
use Rattle.std.specs.Prelude.{◌≡◌, ◌↔◌, List, IsTrue}
use Rattle.gh_base.specs.declared.place.Span.{Span}
use Rattle.gh_bindings.specs.declared.binding.Binding.{Binding}
use Rattle.gh_layout.specs.declared.laying.LaidToken.{LaidToken}
use Rattle.gh_lexer.specs.Seen.{Table, AllPlaced}
use Rattle.gh_lexer.specs.declared.token.Token.{Token}
use Rattle.gh_tree.specs.Print.{item, flat, IsWellFormed}
use Rattle.gh_tree.specs.Syms.{syms_of, cover}
use Rattle.gh_tree.specs.declared.module_tree.Item.{Item}
use Rattle.gh_tree.specs.declared.module_tree.ModuleTree.{ModuleTree}
use Rattle.gh_tree_form.specs.declared.program.Parsed.TheVariants as parsed
use Rattle.gh_tree_form.specs.Form.{form_of}
use Rattle.gh_tree_form.specs.Grammar.{IsItem, AllSpan, IsFirstForm, IsRefused}
use Rattle.gh_tree_form.specs.Named.{ParsedPlaced}

-- the bindings of a tree are those of the first form that it is, and no other tree is accepted
abbrev pub FormIsExact : Type 0
FormIsExact = (t : ModuleTree) (bs : List Binding) → (form_of t ≡ parsed.Program bs) ↔ IsFirstForm t bs

-- a tree has one list of bindings at most
abbrev pub FormIsUnique : Type 0
FormIsUnique = (t : ModuleTree) (a b : List Binding) → IsFirstForm t a → IsFirstForm t b → a ≡ b

-- what is refused is the first item that is not of the form, by the bytes of its tokens
abbrev pub RefusalIsExact : Type 0
RefusalIsExact = (t : ModuleTree) (s : Span) → IsWellFormed t → (form_of t ≡ parsed.Bad s) ↔ IsRefused t s

-- a binding has the bytes of its item's tokens
abbrev pub BindingsAreSpanned : Type 0
BindingsAreSpanned = (x : Item) (bs : List Binding) → IsTrue (item x).good → IsItem x bs → AllSpan (cover (item x).flat) bs

-- the names of bindings are names of the tokens
abbrev pub NamesArePlaced : Type 0
NamesArePlaced = (table : Table) (ts : List Token) (xs : List LaidToken) (t : ModuleTree) → AllPlaced table ts → flat t ≡ syms_of ts xs → ParsedPlaced table (form_of t)
