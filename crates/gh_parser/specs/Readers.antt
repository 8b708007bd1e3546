-- What is read from all the tokens of a header or of an item.
use Rattle.std.specs.Prelude.{Bool, true, false, List, [], ◌∷◌, length, Option, Some, None}
use Rattle.gh_tree.specs.declared.symbol.Kind.{Kind}
use Rattle.gh_tree.specs.declared.symbol.Kind.TheVariants as k
use Rattle.gh_tree.specs.declared.symbol.Sym.{Sym}
use Rattle.gh_tree.specs.declared.module_tree.Header.{Header}
use Rattle.gh_tree.specs.declared.module_tree.Item.{Item}
use Rattle.gh_tree.specs.declared.module_tree.Item.TheVariants as v_Item
use Rattle.gh_tree.specs.declared.tops.Import.{Import}
use Rattle.gh_tree.specs.declared.tops.Top.{Top}
use Rattle.gh_tree.specs.Read.{Outcome, kind}
use Rattle.gh_parse_heads.specs.Header.{header}
use Rattle.gh_parse_heads.specs.Imports.{import_item}
use Rattle.gh_parse_exps.specs.Exps.{knot}
use Rattle.gh_parse_tops.specs.Tops.{top}

-- what is read, where no token is left
abbrev pub where_none_left : {A : Type 0} → A → List Sym → Option A
where_none_left x [] = Some x
where_none_left x (s ∷ ss) = None

abbrev pub whole : {A : Type 0} → Outcome A → Option A
whole None = None
whole (Some p) = where_none_left p.0 p.1

unfoldable pub top_of : List Sym → Option Top
top_of ss = whole (top (knot (length ss)) ss)

unfoldable pub import_of : List Sym → Option Import
import_of ss = whole (import_item ss)

abbrev pub present : Option Header → Option (Option Header)
present None = None
present (Some h) = Some (Some h)

-- a file may have no header
abbrev pub header_by : List Sym → Option Header → Option (Option Header)
header_by [] h = Some None
header_by (s ∷ ss) h = present h

unfoldable pub header_of : List Sym → Option (Option Header)
header_of ss = header_by ss (whole (header ss))

abbrev pub as_import : Option Import → Option Item
as_import None = None
as_import (Some x) = Some (v_Item.Import x)

abbrev pub as_top : Option Top → Option Item
as_top None = None
as_top (Some x) = Some (v_Item.Top x)

-- no import stands behind a declaration of the top
abbrev pub import_behind : Bool → List Sym → Option Item
import_behind true ss = None
import_behind false ss = as_import (import_of ss)

abbrev pub item_by : Option Kind → Bool → List Sym → Option Item
item_by None tops ss = Some v_Item.Empty
item_by (Some k.Import) tops ss = import_behind tops ss
item_by (Some _) tops ss = as_top (top_of ss)

-- an item, by whether a declaration of the top stands before it
unfoldable pub item_of : Bool → List Sym → Option Item
item_of tops ss = item_by (kind ss) tops ss
