-- Imports are told by their tokens.
use Rattle.std.specs.Prelude.{◌≡◌, IsTrue}
use Rattle.gh_tree.specs.declared.tops.Import.{Import}
use Rattle.gh_tree.specs.Print.{import_item}

-- well-formed imports with the same tokens are one import
abbrev pub HaveOneImport : Type 0
HaveOneImport = (t u : Import) → IsTrue (import_item t).good → IsTrue (import_item u).good → (import_item t).flat ≡ (import_item u).flat → t ≡ u
