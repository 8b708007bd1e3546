-- How headers are read, and what their reader promises.
use Rattle.std.specs.Prelude.{◌≡◌, Bool, true, false, List, Option, Some, None, IsTrue}
use Rattle.gh_tree.specs.declared.symbol.Kind.{Kind}
use Rattle.gh_tree.specs.declared.symbol.Kind.TheVariants as k
use Rattle.gh_tree.specs.declared.symbol.Sym.{Sym}
use Rattle.gh_tree.specs.declared.module_tree.Header.{Header}
use Rattle.gh_tree.specs.declared.tops.Exports.{Exports}
use Rattle.gh_tree.specs.Print as printed
use Rattle.gh_tree.specs.Read.{Read, ◌>>=◌, pure, peek, expect, here, since}
use Rattle.gh_tree.specs.ReadExports.{module_name, exports}
use Rattle.gh_reader.specs.declared.stop.Stop.{Stop}
use Rattle.gh_reader.specs.declared.stop.Stop.TheVariants as stop

abbrev pub is_module : Option Kind → Bool
is_module (Some k.Module) = true
is_module _ = false

abbrev pub is_where : Option Kind → Bool
is_where (Some k.Where) = true
is_where _ = false

abbrev pub any_exports_by : Option Kind → Read (Option Exports)
any_exports_by (Some k.Open) = exports >>= λ x. pure (Some x)
any_exports_by _ = pure None

unfoldable pub any_exports : Read (Option Exports)
any_exports = peek >>= any_exports_by

unfoldable pub header : Read Header
header = do
  start ← here
  a ← expect is_module
  n ← module_name
  x ← any_exports
  w ← expect is_where
  s ← since start
  pure (record { span = s; mark = a; name = n; exports = x; begins = w })

-- these tokens are those of a well-formed header, or of none
abbrev pub Spells : List Sym → Option Header → Type 0
Spells ss h = IsTrue (printed.header h).good × ((printed.header h).flat ≡ ss)

-- no well-formed header has these tokens, and there are some
abbrev pub Refuses : Stop → List Sym → Type 0
Refuses stop.NoParse ss = (h : Option Header) → Spells ss h → ⊥
Refuses stop.NoMemory ss = Unit {0}
