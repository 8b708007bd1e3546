-- What linking reads of headers and imports.
use Rattle.std.proofs.Common.{◌≡◌, ℕ, suc, true, false, List, [], ◌∷◌, ◌++◌, Option, Some, None, refl}
use Rattle.gh_base.specs.declared.fixed.TheConstants.{MAIN_MODULE, PRELUDE}
use Rattle.gh_base.specs.declared.names.NameId.{NameId}
use Rattle.gh_scopes.specs.declared.types.Import.{Import}
use Rattle.gh_scopes.specs.declared.types.Selection.TheVariants as selection
use Rattle.gh_modules.specs.Summaries.{exports_of, module_name, header_span, imports_of, main_alone, start_of, implied_prelude, with_prelude}

-- a file without a header is the module Main, and exports `main`; both stand at no bytes at its first
exports_main : exports_of 1 None ≡ Some (main_alone 1 ∷ [])
exports_main = refl

is_main : module_name 1 None ≡ MAIN_MODULE
is_main = refl

stands_nowhere : header_span 1 None ≡ start_of 1
stands_nowhere = refl

-- the first file is the Prelude, whatever its header says, and imports nothing
is_prelude : module_name 0 None ≡ PRELUDE
is_prelude = refl

-- an import of the Prelude that is qualified, or that takes nothing, keeps the implied one away
takes_nothing : with_prelude 2 (record { span = start_of 2; name = PRELUDE; qualified = true; qualifier = PRELUDE; selection = selection.Only [] } ∷ [])
    ≡ record { span = start_of 2; name = PRELUDE; qualified = true; qualifier = PRELUDE; selection = selection.Only [] } ∷ []
takes_nothing = refl

abbrev another : Import
another = record { span = start_of 2; name = record { 0 = 200 }; qualified = false; qualifier = PRELUDE; selection = selection.Whole }

-- one of another module does not, whatever its qualifier, and the implied one stands behind it
stands_behind : with_prelude 2 (another ∷ []) ≡ another ∷ implied_prelude 2 ∷ []
stands_behind = refl
