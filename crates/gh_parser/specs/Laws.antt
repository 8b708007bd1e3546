-- Laws on the reading of a file, and on the trees that its tokens may have.
use Rattle.std.specs.Prelude.{◌≡◌, ◌≤◌, List, Ok, Err, IsTrue}
use Rattle.gh_base.specs.declared.refusal.Refusal.{Refusal}
use Rattle.gh_lexer.specs.declared.token.Token.{Token}
use Rattle.gh_layout.specs.declared.laying.LaidToken.{LaidToken}
use Rattle.gh_tree.specs.declared.symbol.Sym.{Sym}
use Rattle.gh_tree.specs.declared.expressions.Decls.{Decls}
use Rattle.gh_tree.specs.declared.expressions.Exp.{Exp}
use Rattle.gh_tree.specs.declared.module_tree.ModuleTree.{ModuleTree}
use Rattle.gh_tree.specs.Depth.{depth_of}
use Rattle.gh_tree.specs.Items.{items_of}
use Rattle.gh_tree.specs.Print as printed
use Rattle.gh_tree.specs.Print.{Spells}
use Rattle.gh_tree.specs.Syms.{syms_of}
use Rattle.gh_parser.specs.Faults.{FirstFault}
use Rattle.gh_parser.specs.Parse.{parsed_of}

-- no well-formed tree is refused, but for its depth
abbrev pub ReadsEachTree : Type 0
ReadsEachTree = (ss : List Sym) (t : ModuleTree) → Spells ss t → depth_of t ≤ 2000 → parsed_of ss ≡ Ok t

-- each of two claims follows from the other
abbrev pub Alike : Type 0 → Type 0 → Type 0
Alike a b = (a → b) × (b → a)

-- this tree is well formed, has the laid tokens of the file, and is no deeper than 2,000
abbrev pub IsTreeOf : List Token → List LaidToken → ModuleTree → Type 0
IsTreeOf tokens laid t = Spells (syms_of tokens laid) t × (depth_of t ≤ 2000)

-- a tree is given exactly where it is the file's
abbrev pub GivesItsTree : Type 0
GivesItsTree = (tokens : List Token) (laid : List LaidToken) (t : ModuleTree) → Alike (parsed_of (syms_of tokens laid) ≡ Ok t) (IsTreeOf tokens laid t)

-- a refusal is given exactly where it is that of the first item that has no tree, or whose tree is too deep
abbrev pub GivesFirstFault : Type 0
GivesFirstFault = (tokens : List Token) (laid : List LaidToken) (r : Refusal) → Alike (parsed_of (syms_of tokens laid) ≡ Err r) (FirstFault (items_of tokens laid) r)

-- well-formed expressions with the same tokens are one expression
abbrev pub HaveOneExp : Type 0
HaveOneExp = (x y : Exp) → IsTrue (printed.exp x).good → IsTrue (printed.exp y).good → (printed.exp x).flat ≡ (printed.exp y).flat → x ≡ y

-- well-formed blocks of declarations with the same tokens are one block
abbrev pub HaveOneDecls : Type 0
HaveOneDecls = (x y : Decls) → IsTrue (printed.decls x).good → IsTrue (printed.decls y).good → (printed.decls x).flat ≡ (printed.decls y).flat → x ≡ y
