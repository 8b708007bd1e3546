-- What is read from all tokens of a header or of an item is the one tree that has these tokens.
use Rattle.std.proofs.Common.{◌≡◌, Bool, true, false, List, [], ◌∷◌, Option, Some, None, refl, sym, ap, ◌∙◌, subst, append-nil, IsTrue}
use Rattle.gh_tree.specs.declared.symbol.Kind.{Kind}
use Rattle.gh_tree.specs.declared.symbol.Kind.TheVariants as k
use Rattle.gh_tree.specs.declared.symbol.Sym.{Sym}
use Rattle.gh_tree.specs.declared.module_tree.Header.{Header}
use Rattle.gh_tree.specs.declared.module_tree.Item.{Item}
use Rattle.gh_tree.specs.declared.module_tree.Item.TheVariants as v_Item
use Rattle.gh_tree.specs.declared.tops.Import.{Import}
use Rattle.gh_tree.specs.declared.tops.Top.{Top}
use Rattle.gh_tree.specs.Items.{may_stand}
use Rattle.gh_tree.specs.Print as printed
use Rattle.gh_tree.specs.Read.{kind}
use Rattle.gh_parse_heads.specs.Header as heads
use Rattle.gh_parse_heads.specs.Imports as imports
use Rattle.gh_parse_heads.proofs.Complete.{header_complete}
use Rattle.gh_parse_heads.proofs.ImportsComplete.{import_complete}
use Rattle.gh_parse_heads.proofs.Whole as whole_header
use Rattle.gh_parse_heads.proofs.ImportsWhole as whole_import
use Rattle.gh_parse_tops.specs.Whole as top_whole
use Rattle.gh_parser.specs.Readers.{whole, top_of, import_of, present, header_of, as_import, as_top, import_behind, item_by, item_of}
use Rattle.gh_parser.proofs.AllRead.{whole_is}
use Rattle.gh_parser.proofs.Bind.{some_value}
use Rattle.gh_parser.proofs.Tops.{top_spelled, top_read, top_begins, read_as_top}

-- ---- headers

present_is : (o : Option Header) (h : Option Header) → present o ≡ Some h → (h ≡ None → ⊥) × (o ≡ h)
present_is None h e = absurd (cc)
present_is (Some x) h e = let same = some_value (Some x) h e in (λ none. absurd (cc), same)

some_header : (ss : List Sym) (h : Option Header) → present (whole (heads.header ss)) ≡ Some h → heads.Spells ss h
some_header ss None e = absurd ((present_is (whole (heads.header ss)) None e).0 refl)
some_header ss (Some x) e =
    let w = whole_is (heads.header ss) x (present_is (whole (heads.header ss)) (Some x) e).1 in
    whole_header.spelled ss w.rest x w.read w.end

pub header_spelled : (ss : List Sym) (h : Option Header) → header_of ss ≡ Some h → heads.Spells ss h
unfolding header_of
header_spelled [] None e = (refl, refl)
header_spelled [] (Some x) e = absurd (cc)
header_spelled (s ∷ ss) h e = some_header (s ∷ ss) h e

header_present : (ss : List Sym) (h : Header) → whole (heads.header ss) ≡ Some h → (ss ≡ [] → ⊥) → header_of ss ≡ Some (Some h)
unfolding header_of
header_present [] h e some = absurd (some refl)
header_present (s ∷ ss) h e some = ap present e

pub header_read : (ss : List Sym) (h : Option Header) → heads.Spells ss h → header_of ss ≡ Some h
unfolding header_of
header_read ss None s = ap header_of (sym s.1)
header_read ss (Some h) s =
    header_present ss h (ap (λ us. whole (heads.header us)) (sym s.1 ∙ sym (append-nil (printed.header (Some h)).flat)) ∙ ap whole (header_complete h [] s.0)) (some ss s.1)
  where
    some : (ss : List Sym) → (printed.header (Some h)).flat ≡ ss → ss ≡ [] → ⊥
    some [] same none = absurd (cc)
    some (t ∷ ts) same none = absurd (cc)

-- ---- imports

pub import_spelled : (ss : List Sym) (x : Import) → import_of ss ≡ Some x → imports.Spells ss x
unfolding import_of
import_spelled ss x e = let w = whole_is (imports.import_item ss) x e in whole_import.spelled ss w.rest x w.read w.end

pub import_read : (ss : List Sym) (x : Import) → imports.Spells ss x → import_of ss ≡ Some x
unfolding import_of
import_read ss x s = ap (λ us. whole (imports.import_item us)) (sym s.1 ∙ sym (append-nil (printed.import_item x).flat)) ∙ ap whole (import_complete x s.0)

-- ---- items

-- these are the tokens of an item that may stand here
abbrev pub ItemSpells : Bool → List Sym → Item → Type 0
ItemSpells tops ss x = IsTrue (printed.item x).good × ((printed.item x).flat ≡ ss) × IsTrue (may_stand tops x)

may_top : (tops : Bool) (t : Top) → may_stand tops (v_Item.Top t) ≡ true
may_top true t = refl
may_top false t = refl

may_empty : (tops : Bool) → may_stand tops v_Item.Empty ≡ true
may_empty true = refl
may_empty false = refl

as_import_is : (o : Option Import) (ss : List Sym) (x : Item) → as_import o ≡ Some x → ((y : Import) → o ≡ Some y → imports.Spells ss y) → ItemSpells false ss x
as_import_is None ss x e spells = absurd (cc)
as_import_is (Some y) ss x e spells =
    let s = spells y refl in
    subst (ItemSpells false ss) (some_value (v_Item.Import y) x e) (s.0, s.1, refl)

as_top_is : (o : Option Top) (tops : Bool) (ss : List Sym) (x : Item) → as_top o ≡ Some x → ((y : Top) → o ≡ Some y → top_whole.Spells ss y) → ItemSpells tops ss x
as_top_is None b ss x e spells = absurd (cc)
as_top_is (Some y) b ss x e spells =
    let s = spells y refl in
    subst (ItemSpells b ss) (some_value (v_Item.Top y) x e) (s.0, s.1, may_top b y)

import_is : (tops : Bool) (ss : List Sym) (x : Item) → import_behind tops ss ≡ Some x → ItemSpells tops ss x
import_is true ss x e = absurd (cc)
import_is false ss x e = as_import_is (import_of ss) ss x e (import_spelled ss)

by_kind : (first : Kind) (tops : Bool) (ss : List Sym) (x : Item) → item_by (Some first) tops ss ≡ Some x → ItemSpells tops ss x
by_kind k.Import tops ss x e = import_is tops ss x e
by_kind _ tops ss x e = as_top_is (top_of ss) tops ss x e (top_spelled ss)

pub item_spelled : (tops : Bool) (ss : List Sym) (x : Item) → item_of tops ss ≡ Some x → ItemSpells tops ss x
unfolding item_of
item_spelled tops [] x e = subst (ItemSpells tops []) (some_value v_Item.Empty x e) (refl, refl, may_empty tops)
item_spelled tops (s ∷ ss) x e = by_kind s.kind tops (s ∷ ss) x e

printed_read : (tops : Bool) (x : Item) → (printed.item x).good ≡ true → may_stand tops x ≡ true → item_of tops (printed.item x).flat ≡ Some x
unfolding item_of
printed_read tops v_Item.Empty good may = refl
printed_read true (v_Item.Import x) good may = absurd (cc)
printed_read false (v_Item.Import x) good may = ap as_import (import_read (printed.import_item x).flat x (good, refl))
printed_read tops (v_Item.Top x) good may =
    read_as_top (kind (printed.top x).flat) tops (printed.top x).flat (top_begins x good) ∙ ap as_top (top_read (printed.top x).flat x (good, refl))

pub item_read : (tops : Bool) (ss : List Sym) (x : Item) → ItemSpells tops ss x → item_of tops ss ≡ Some x
item_read tops ss x s = ap (item_of tops) (sym s.1) ∙ printed_read tops x s.0 s.2
