-- How an item of a body ends, and where the header and an item end in the tokens of a tree.
use Rattle.std.proofs.Common.{◌≡◌, ℕ, Bool, true, false, List, [], ◌∷◌, ◌++◌, take, drop, Option, Some, refl, sym, ap, ◌∙◌, subst, append-nil}
use Rattle.std.proofs.lemmas.List.{append_cancel_left, take-append-drop}
use Rattle.gh_tree.specs.declared.symbol.Sym.{Sym}
use Rattle.gh_tree.specs.declared.names.BlockMark.{BlockMark}
use Rattle.gh_tree.specs.declared.names.BlockMark.TheVariants as bm
use Rattle.gh_tree.specs.declared.module_tree.Header.{Header}
use Rattle.gh_tree.specs.declared.module_tree.Item.{Item}
use Rattle.gh_tree.specs.Cut.{header_size, header_step, header_cut, header_cut_at, item_size, item_cut, item_cut_at, mark_of, ArePlaced}
use Rattle.gh_tree.specs.Items.{Brace, opening_brace, part_mark, closing_brace, no_brace, brace, TopItem, ended, body_items, top_step, top_items}
use Rattle.gh_tree.specs.Print.{item, header, block_open, block_semi, block_close}
use Rattle.gh_tree.specs.Read.{after}
use Rattle.gh_tree.proofs.BareNames.{bare_header}
use Rattle.gh_tree.proofs.Braces.{fronts, fronts_ended, open_opens}
use Rattle.gh_tree.proofs.Cutting.{header_is_cut, item_is_cut}
use Rattle.gh_tree.proofs.Placed.{semi_again, close_again, placed_drop}
use Rattle.gh_tree.proofs.TreeItems.{whole_item}
use Rattle.gh_parser.specs.declared.items.End.{End}
use Rattle.gh_parser.specs.declared.items.End.TheVariants as v_End
use Rattle.gh_parser.specs.Parse.{end_by, is_end, end_of, item_tokens, item_end_of, behind_item}
use Rattle.gh_parser.proofs.Bind.{some_value}

-- the token that ends an item
abbrev pub end_token : End → Sym
end_token (v_End.Parted m) = block_semi m
end_token (v_End.Closed m) = block_close m

-- nothing stands behind the `}` of the body
abbrev pub IsLast : End → List Sym → Type 0
IsLast (v_End.Parted m) rest = Unit {0}
IsLast (v_End.Closed m) rest = rest ≡ []

abbrev pub items_behind : End → List Sym → List TopItem
items_behind (v_End.Parted m) rest = body_items rest 0
items_behind (v_End.Closed m) rest = []

pub placed_after : (ss : List Sym) → ArePlaced ss → ArePlaced (after ss)
placed_after [] placed = tt
placed_after (s ∷ ss) placed = placed.1

pub placed_behind : (ss : List Sym) → ArePlaced ss → ArePlaced (behind_item ss)
unfolding behind_item
placed_behind ss placed = placed_after (drop (item_size ss 0) ss) (placed_drop (item_size ss 0) ss placed)

-- ---- what is found behind an item

abbrev EndIs : Sym → List Sym → End → Type 0
EndIs s rest e = (s ∷ rest ≡ end_token e ∷ rest) × IsLast e rest

by_brace : (b : Brace) (s : Sym) (rest : List Sym) (e : End) → brace s.kind ≡ b → ArePlaced (s ∷ rest) → end_by b (is_end rest) s ≡ Some e → EndIs s rest e
by_brace opening_brace s rest e same placed found = absurd (cc)
by_brace part_mark s rest e same placed found =
    subst (EndIs s rest) (some_value (v_End.Parted (mark_of s)) e found) (ap (λ t. t ∷ rest) (sym (semi_again s same placed.0)), tt)
by_brace closing_brace s [] e same placed found =
    subst (EndIs s []) (some_value (v_End.Closed (mark_of s)) e found) (ap (λ t. t ∷ []) (sym (close_again s same placed.0)), refl)
by_brace closing_brace s (t ∷ ts) e same placed found = absurd (cc)
by_brace no_brace s rest e same placed found = absurd (cc)

pub end_is : (us : List Sym) (e : End) → ArePlaced us → end_of us ≡ Some e → (us ≡ end_token e ∷ after us) × IsLast e (after us)
end_is [] e placed found = absurd (cc)
end_is (s ∷ rest) e placed found = by_brace (brace s.kind) s rest e refl placed found

pub end_at : (e : End) (rest : List Sym) → IsLast e rest → end_of (end_token e ∷ rest) ≡ Some e
end_at (v_End.Parted (bm.Written s)) rest last = refl
end_at (v_End.Parted (bm.Inserted p)) rest last = refl
end_at (v_End.Closed (bm.Written s)) [] last = refl
end_at (v_End.Closed (bm.Inserted p)) [] last = refl
end_at (v_End.Closed m) (t ∷ ts) last = absurd (cc)

end_items : (e : End) (rest : List Sym) → IsLast e rest → body_items (end_token e ∷ rest) 0 ≡ ended [] ∷ items_behind e rest
end_items (v_End.Parted (bm.Written s)) rest last = refl
end_items (v_End.Parted (bm.Inserted p)) rest last = refl
end_items (v_End.Closed (bm.Written s)) [] last = refl
end_items (v_End.Closed (bm.Inserted p)) [] last = refl
end_items (v_End.Closed m) (t ∷ ts) last = absurd (cc)

-- ---- the cuts

first_tokens : List TopItem → List Sym
first_tokens [] = []
first_tokens (i ∷ is) = i.tokens

first_ended : List TopItem → Bool
first_ended [] = false
first_ended (i ∷ is) = i.is_ended

item_front_by : (b : Brace) (a : List Sym) (s : Sym) (rest f : List Sym) (is : List TopItem) → item_cut_at b a s rest ≡ ended f ∷ is → a ≡ f
unfolding first_tokens first_ended
item_front_by opening_brace a s rest f is e = let no : false ≡ true = ap first_ended e in absurd (cc)
item_front_by part_mark a s rest f is e = ap first_tokens e
item_front_by closing_brace a s [] f is e = ap first_tokens e
item_front_by closing_brace a s (t ∷ ts) f is e = let no : false ≡ true = ap first_ended e in absurd (cc)
item_front_by no_brace a s rest f is e = let no : false ≡ true = ap first_ended e in absurd (cc)

item_front : (a b f : List Sym) (is : List TopItem) → item_cut a b ≡ ended f ∷ is → a ≡ f
unfolding first_tokens
item_front a [] f is e = ap first_tokens e
item_front a (s ∷ rest) f is e = item_front_by (brace s.kind) a s rest f is e

header_front_by : (b : Brace) (a : List Sym) (s : Sym) (rest f : List Sym) (is : List TopItem) → header_cut_at b a s rest ≡ ended f ∷ is → a ≡ f
unfolding first_tokens first_ended
header_front_by opening_brace a s rest f is e = ap first_tokens e
header_front_by part_mark a s rest f is e = let no : false ≡ true = ap first_ended e in absurd (cc)
header_front_by closing_brace a s rest f is e = let no : false ≡ true = ap first_ended e in absurd (cc)
header_front_by no_brace a s rest f is e = let no : false ≡ true = ap first_ended e in absurd (cc)

header_front : (a b f : List Sym) (is : List TopItem) → header_cut a b ≡ ended f ∷ is → a ≡ f
unfolding first_tokens
header_front a [] f is e = ap first_tokens e
header_front a (s ∷ rest) f is e = header_front_by (brace s.kind) a s rest f is e

-- these tokens stand at the front, so the others are the rest
pub cut_at : (n : ℕ) (f rest : List Sym) → take n (f ++ rest) ≡ f → drop n (f ++ rest) ≡ rest
cut_at n f rest e =
    append_cancel_left f (drop n (f ++ rest)) rest (ap (λ us. us ++ drop n (f ++ rest)) (sym e) ∙ take-append-drop n (f ++ rest))

-- an item, and what ends it
pub item_cut_is : (x : Item) (e : End) (rest : List Sym) → IsLast e rest → item_tokens ((item x).flat ++ end_token e ∷ rest) ≡ (item x).flat
unfolding item_tokens
item_cut_is x e rest last =
    let f : List Sym = (item x).flat in
    let ss : List Sym = f ++ end_token e ∷ rest in
    let items : body_items ss 0 ≡ ended f ∷ items_behind e rest =
    (whole_item x).passed (end_token e ∷ rest) 0 ∙ ap (fronts f) (end_items e rest last) ∙ fronts_ended f [] (items_behind e rest) ∙ ap (λ us. ended us ∷ items_behind e rest) (append-nil f) in
    item_front (take (item_size ss 0) ss) (drop (item_size ss 0) ss) f (items_behind e rest) (sym (item_is_cut ss) ∙ items)

pub item_rest_is : (x : Item) (e : End) (rest : List Sym) → IsLast e rest
    → drop (item_size ((item x).flat ++ end_token e ∷ rest) 0) ((item x).flat ++ end_token e ∷ rest) ≡ end_token e ∷ rest
unfolding item_tokens
item_rest_is x e rest last = cut_at (item_size ((item x).flat ++ end_token e ∷ rest) 0) (item x).flat (end_token e ∷ rest) (item_cut_is x e rest last)

pub item_end_is : (x : Item) (e : End) (rest : List Sym) → IsLast e rest → item_end_of ((item x).flat ++ end_token e ∷ rest) ≡ Some e
unfolding item_end_of
item_end_is x e rest last = ap end_of (item_rest_is x e rest last) ∙ end_at e rest last

pub behind_item_is : (x : Item) (e : End) (rest : List Sym) → IsLast e rest → behind_item ((item x).flat ++ end_token e ∷ rest) ≡ rest
unfolding behind_item
behind_item_is x e rest last = ap after (item_rest_is x e rest last)

-- the header, and the `{` behind it
pub header_cut_is : (h : Option Header) (m : BlockMark) (body : List Sym) → take (header_size ((header h).flat ++ block_open m ∷ body)) ((header h).flat ++ block_open m ∷ body) ≡ (header h).flat
header_cut_is h m body =
    let f : List Sym = (header h).flat in
    let ss : List Sym = f ++ block_open m ∷ body in
    let items : top_items ss ≡ ended f ∷ body_items body 0 =
    (bare_header h).before_body (block_open m ∷ body) ∙ ap (λ u. fronts f (top_step u (block_open m) body (top_items body))) (open_opens m)
    ∙ fronts_ended f [] (body_items body 0) ∙ ap (λ us. ended us ∷ body_items body 0) (append-nil f) in
    header_front (take (header_size ss) ss) (drop (header_size ss) ss) f (body_items body 0) (sym (header_is_cut ss) ∙ items)

-- what stands behind a header is the `{` of the body
abbrev first_brace : List Sym → Brace
first_brace [] = no_brace
first_brace (s ∷ ss) = brace s.kind

opens_by : (b : Brace) (s t : Sym) (ss rest : List Sym) → brace s.kind ≡ b → ((drop (header_size ss) ss ≡ t ∷ rest) → brace t.kind ≡ opening_brace)
    → drop (header_step b (header_size ss)) (s ∷ ss) ≡ t ∷ rest → brace t.kind ≡ opening_brace
opens_by opening_brace s t ss rest same next e = ap first_brace (sym e) ∙ same
opens_by part_mark s t ss rest same next e = next e
opens_by closing_brace s t ss rest same next e = next e
opens_by no_brace s t ss rest same next e = next e

pub header_opens : (ss : List Sym) (t : Sym) (rest : List Sym) → drop (header_size ss) ss ≡ t ∷ rest → brace t.kind ≡ opening_brace
header_opens [] t rest e = absurd (cc)
header_opens (s ∷ ss) t rest e = opens_by (brace s.kind) s t ss rest refl (header_opens ss t rest) e
