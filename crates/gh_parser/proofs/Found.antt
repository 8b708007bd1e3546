-- From what the readers of a header, an import and a declaration of the top promise to what is read.
use Rattle.std.proofs.Common.{◌≡◌, Bool, true, false, List, Option, Some, None, Result, Ok, Err, refl, ap, MatchResult}
use Rattle.gh_tree.specs.declared.symbol.Sym.{Sym}
use Rattle.gh_tree.specs.declared.module_tree.Header.{Header}
use Rattle.gh_tree.specs.declared.module_tree.Item.TheVariants as v_Item
use Rattle.gh_tree.specs.declared.tops.Import.{Import}
use Rattle.gh_tree.specs.declared.tops.Top.{Top}
use Rattle.gh_reader.specs.declared.stop.Stop.{Stop}
use Rattle.gh_reader.specs.declared.stop.Stop.TheVariants as stop
use Rattle.gh_parse_heads.specs.Header as heads
use Rattle.gh_parse_heads.specs.Imports as imports
use Rattle.gh_parse_tops.specs.Whole as top_whole
use Rattle.gh_parser.specs.Gives.{Finds, Misses}
use Rattle.gh_parser.specs.Readers.{header_of, import_of, top_of, as_import, as_top, import_behind}
use Rattle.gh_parser.proofs.ReadBack.{header_spelled, header_read, import_spelled, import_read}
use Rattle.gh_parser.proofs.Tops.{top_spelled, top_read}

-- where no tree has these tokens, none is read
none_by : {A : Type 0} (o p : Option A) → o ≡ p → ((x : A) → o ≡ Some x → ⊥) → o ≡ None
none_by o None e refuse = e
none_by o (Some x) e refuse = absurd (refuse x e)

header_misses : (e : Stop) (ss : List Sym) → heads.Refuses e ss → Misses e (header_of ss)
header_misses stop.NoParse ss refuse = none_by (header_of ss) (header_of ss) refl (λ h e. refuse h (header_spelled ss h e))
header_misses stop.NoMemory ss refuse = tt

pub header_finds : (ss : List Sym) (r : Result (Option Header) Stop) → MatchResult r (heads.Spells ss) (λ e. heads.Refuses e ss) → Finds (header_of ss) r
header_finds ss (Ok h) s = header_read ss h s
header_finds ss (Err e) s = header_misses e ss s

pub import_misses : (e : Stop) (ss : List Sym) (tops : Bool) → tops ≡ false → imports.Refuses e ss → Misses e (import_behind tops ss)
import_misses stop.NoParse ss true no_tops refuse = absurd (cc)
import_misses stop.NoParse ss false no_tops refuse = ap as_import (none_by (import_of ss) (import_of ss) refl (λ x e. refuse x (import_spelled ss x e)))
import_misses stop.NoMemory ss tops no_tops refuse = tt

pub import_found : (ss : List Sym) (tops : Bool) (x : Import) → tops ≡ false → imports.Spells ss x → import_behind tops ss ≡ Some (v_Item.Import x)
import_found ss true x no_tops s = absurd (cc)
import_found ss false x no_tops s = ap as_import (import_read ss x s)

pub top_misses : (e : Stop) (ss : List Sym) → top_whole.Refuses e ss → Misses e (as_top (top_of ss))
top_misses stop.NoParse ss refuse = ap as_top (none_by (top_of ss) (top_of ss) refl (λ x e. refuse x (top_spelled ss x e)))
top_misses stop.NoMemory ss refuse = tt

pub top_found : (ss : List Sym) (x : Top) → top_whole.Spells ss x → as_top (top_of ss) ≡ Some (v_Item.Top x)
top_found ss x s = ap as_top (top_read ss x s)
