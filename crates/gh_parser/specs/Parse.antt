-- What the laid tokens of a file are: a tree, or a refusal of its first item that is no tree's or whose tree is too deep.
use Rattle.std.specs.Prelude.{ℕ, zero, suc, Bool, true, false, nat_lt, List, [], ◌∷◌, length, take, drop, Option, Some, None, Result, Ok, Err}
use Rattle.gh_base.specs.declared.refusal.Refusal.{Refusal}
use Rattle.gh_base.specs.declared.refusal.Refusal.TheVariants as refusal
use Rattle.gh_tree.specs.declared.names.BlockMark.{BlockMark}
use Rattle.gh_tree.specs.declared.symbol.Sym.{Sym}
use Rattle.gh_tree.specs.declared.module_tree.Header.{Header}
use Rattle.gh_tree.specs.declared.module_tree.Item.{Item}
use Rattle.gh_tree.specs.declared.module_tree.ModuleTree.{ModuleTree}
use Rattle.gh_tree.specs.Syms.{cover}
use Rattle.gh_tree.specs.Cut.{header_size, item_size, mark_of}
use Rattle.gh_tree.specs.Depth.{item_depth, header_depth}
use Rattle.gh_tree.specs.Items.{Brace, part_mark, closing_brace, brace, tops_behind}
use Rattle.gh_tree.specs.Read.{after}
use Rattle.gh_parser.specs.declared.items.End.{End}
use Rattle.gh_parser.specs.declared.items.End.TheVariants as v_End
use Rattle.gh_parser.specs.declared.items.Part.{Part}
use Rattle.gh_parser.specs.declared.items.Others.{Others}
use Rattle.gh_parser.specs.declared.items.Body.{Body}
use Rattle.gh_parser.specs.Readers.{header_of, item_of}

-- an item of these tokens is refused, with its bytes
abbrev pub no_parse : List Sym → Refusal
no_parse ss = refusal.NoParse (cover ss)

abbrev pub too_deep : List Sym → Refusal
too_deep ss = refusal.TooDeep (cover ss)

-- the first refusal is that of the whole
infixl 10 ◌>>=◌
abbrev pub ◌>>=◌ : {A B : Type 0} → Result A Refusal → (A → Result B Refusal) → Result B Refusal
Ok x >>= f = f x
Err r >>= f = Err r

-- what is read from an item's tokens, if it is not too deep
abbrev pub unless_deep : {A : Type 0} → Bool → List Sym → A → Result A Refusal
unless_deep true ss x = Err (too_deep ss)
unless_deep false ss x = Ok x

abbrev pub limited : {A : Type 0} → ℕ → (A → ℕ) → List Sym → Option A → Result A Refusal
limited limit depth ss None = Err (no_parse ss)
limited limit depth ss (Some x) = unless_deep (nat_lt limit (depth x)) ss x

-- how an item of a body ends, by what stands behind its tokens
abbrev pub end_by : Brace → Bool → Sym → Option End
end_by part_mark is_last s = Some (v_End.Parted (mark_of s))
end_by closing_brace true s = Some (v_End.Closed (mark_of s))
end_by _ is_last s = None

abbrev pub is_end : List Sym → Bool
is_end [] = true
is_end (s ∷ ss) = false

abbrev pub end_of : List Sym → Option End
end_of [] = None
end_of (s ∷ ss) = end_by (brace s.kind) (is_end ss) s

-- the tokens of the first item of a body, how it ends, and what stands behind it and the mark that ends it
unfoldable pub item_tokens : List Sym → List Sym
item_tokens ss = take (item_size ss 0) ss

unfoldable pub item_end_of : List Sym → Option End
item_end_of ss = end_of (drop (item_size ss 0) ss)

unfoldable pub behind_item : List Sym → List Sym
behind_item ss = after (drop (item_size ss 0) ss)

abbrev pub no_others : BlockMark → Others
no_others m = record { found = []; close = m }

abbrev pub one_more : BlockMark → Item → Others → Others
one_more m x o = record { found = record { mark = m; item = x } ∷ o.found; close = o.close }

-- trees deeper than this limit are refused
module _ (limit : ℕ) where
  unfoldable pub header_in : List Sym → Result (Option Header) Refusal
  header_in ss = limited limit header_depth ss (header_of ss)

  unfoldable pub item_in : Bool → List Sym → Result Item Refusal
  item_in tops ss = limited limit item_depth ss (item_of tops ss)

  -- the first item of a body, if it ends as an item does; behind a declaration of the top, or not
  abbrev pub part_by : Option End → Bool → List Sym → Result Part Refusal
  part_by None tops ss = Err (no_parse ss)
  part_by (Some e) tops ss = item_in tops (item_tokens ss) >>= λ x. Ok (record { item = x; end = e })

  unfoldable pub part_of : Bool → List Sym → Result Part Refusal
  part_of tops ss = part_by (item_end_of ss) tops ss

  -- the items behind one that ends so, for as many turns as there are tokens
  unfoldable pub others_of : ℕ → Bool → End → List Sym → Result Others Refusal
  others_of zero tops (v_End.Closed m) ss = Ok (no_others m)
  others_of zero tops (v_End.Parted m) ss = Err (no_parse ss)
  others_of (suc n) tops (v_End.Closed m) ss = Ok (no_others m)
  others_of (suc n) tops (v_End.Parted m) ss = part_of tops ss >>= λ p. others_of n (tops_behind tops p.item) p.end (behind_item ss) >>= λ o. Ok (one_more m p.item o)

  -- the items of a body, behind its `{`
  unfoldable pub body_of : List Sym → Result Body Refusal
  body_of ss = part_of false ss >>= λ p. others_of (length (behind_item ss)) (tops_behind false p.item) p.end (behind_item ss) >>= λ o. Ok (record { first = p.item; others = o.found; close = o.close })

  -- behind the header's tokens stands the body, or nothing
  abbrev pub parsed_by : List Sym → List Sym → List Sym → Result ModuleTree Refusal
  parsed_by front [] ss = Err (no_parse ss)
  parsed_by front (s ∷ rest) ss = header_in front >>= λ h. body_of rest >>= λ b. Ok (record { span = cover ss; header = h; «open» = mark_of s; first = b.first; others = b.others; close = b.close })

  unfoldable pub parsed_within : List Sym → Result ModuleTree Refusal
  parsed_within ss = parsed_by (take (header_size ss) ss) (drop (header_size ss) ss) ss

abbrev pub parsed_of : List Sym → Result ModuleTree Refusal
parsed_of ss = parsed_within 2000 ss
