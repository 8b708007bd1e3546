-- Declarations of the top: what is read from all tokens, and how these begin.
use Rattle.std.proofs.Common.{◌≡◌, Bool, true, List, [], length, Option, Some, None, refl, sym, ap, ◌∙◌, append-nil}
use Rattle.gh_tree.specs.declared.symbol.Kind.{Kind}
use Rattle.gh_tree.specs.declared.symbol.Kind.TheVariants as k
use Rattle.gh_tree.specs.declared.symbol.Sym.{Sym}
use Rattle.gh_tree.specs.declared.tops.Top.{Top}
use Rattle.gh_tree.specs.Print as printed
use Rattle.gh_tree.specs.Read.{kind}
use Rattle.gh_parse_exps.specs.Exps.{knot}
use Rattle.gh_parse_tops.specs.Tops.{top}
use Rattle.gh_parse_tops.specs.Whole.{Spells}
use Rattle.gh_parse_tops.proofs.CompleteTops.{begins_top, begins_top_by, top_starts}
use Rattle.gh_parse_tops.proofs.Whole.{spelled, read_back}
use Rattle.gh_parser.specs.Readers.{whole, top_of, as_top, item_by}
use Rattle.gh_parser.proofs.AllRead.{whole_is}

pub top_spelled : (ss : List Sym) (t : Top) → top_of ss ≡ Some t → Spells ss t
unfolding top_of
top_spelled ss t e = let w = whole_is (top (knot (length ss)) ss) t e in spelled (length ss) ss w.rest t w.read w.end

pub top_read : (ss : List Sym) (t : Top) → Spells ss t → top_of ss ≡ Some t
unfolding top_of
top_read ss t s = ap whole (read_back ss t s)

-- where a token stands that is no `import`, it is read as a declaration of the top
pub read_as_top : (first : Option Kind) (tops : Bool) (ss : List Sym) → begins_top_by first ≡ true → item_by first tops ss ≡ as_top (top_of ss)
read_as_top None tops ss e = absurd (cc)
read_as_top (Some k.Import) tops ss e = absurd (cc)
read_as_top (Some _) tops ss e = refl

pub top_begins : (t : Top) → (printed.top t).good ≡ true → begins_top_by (kind (printed.top t).flat) ≡ true
top_begins t good = ap begins_top (sym (append-nil (printed.top t).flat)) ∙ top_starts t [] good
