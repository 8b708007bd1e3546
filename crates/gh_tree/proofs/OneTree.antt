-- Two trees with one list of tokens have the same cuts, so their parts have the same tokens, and their marks are the same.
use Rattle.std.proofs.Common.{◌≡◌, Bool, true, ◌&&◌, List, [], ◌∷◌, ◌++◌, map, refl, sym, ap, ◌∙◌, append_assoc}
use Rattle.std.proofs.lemmas.List.{append_cancel_left}
use Rattle.gh_tree.specs.declared.names.BlockMark.{BlockMark}
use Rattle.gh_tree.specs.declared.names.BlockMark.TheVariants as bm
use Rattle.gh_tree.specs.declared.symbol.Sym.{Sym}
use Rattle.gh_tree.specs.declared.module_tree.NextItem.{NextItem}
use Rattle.gh_tree.specs.Syms.{cover, same_span}
use Rattle.gh_tree.specs.Read.{after}
use Rattle.gh_tree.specs.Items.{TopItem, top_items}
use Rattle.gh_tree.specs.Cut.{mark_of}
use Rattle.gh_tree.specs.TreeItems.{printed_item, printed_items}
use Rattle.gh_tree.specs.OneTree.{HaveOneItem, HaveOneTreeByItems}
use Rattle.gh_tree.specs.Print.{flat_all, good_all, header, item, next_item, imports_first, flat, block_open, block_semi, block_close}
use Rattle.gh_tree.proofs.Steps.{both, same_span_is}
use Rattle.gh_tree.proofs.TreeItems.{have_their_items}

-- ---- a token that a mark is printed as gives the mark

mark_open : (m : BlockMark) → mark_of (block_open m) ≡ m
mark_open (bm.Written s) = refl
mark_open (bm.Inserted p) = refl

mark_semi : (m : BlockMark) → mark_of (block_semi m) ≡ m
mark_semi (bm.Written s) = refl
mark_semi (bm.Inserted p) = refl

mark_close : (m : BlockMark) → mark_of (block_close m) ≡ m
mark_close (bm.Written s) = refl
mark_close (bm.Inserted p) = refl

-- ---- parts of lists

first_tokens : List TopItem → List Sym
first_tokens [] = []
first_tokens (i ∷ is) = i.tokens

other_items : List TopItem → List TopItem
other_items [] = []
other_items (i ∷ is) = is

first_mark : BlockMark → List Sym → BlockMark
first_mark m [] = m
first_mark m (s ∷ ss) = mark_of s

-- the same tokens before two lists
behind_same : (a b xs ys : List Sym) → a ≡ b → a ++ xs ≡ b ++ ys → xs ≡ ys
behind_same a b xs ys e same = append_cancel_left a xs ys (same ∙ ap (λ ss. ss ++ ys) (sym e))

-- ---- files

others_same : HaveOneItem → (xs ys : List NextItem) (b c : BlockMark) → good_all (map next_item xs) ≡ true → good_all (map next_item ys) ≡ true
    → map (λ x. printed_item x.item) xs ≡ map (λ y. printed_item y.item) ys
    → flat_all (map next_item xs) ++ block_close b ∷ [] ≡ flat_all (map next_item ys) ++ block_close c ∷ []
    → (xs ≡ ys) × (b ≡ c)
unfolding first_tokens other_items first_mark
others_same one [] [] b c g h items same = (refl, sym (mark_close b) ∙ ap (first_mark b) same ∙ mark_close c)
others_same one [] (y ∷ ys) b c g h items same = absurd (cc)
others_same one (x ∷ xs) [] b c g h items same = absurd (cc)
others_same one (x ∷ xs) (y ∷ ys) b c g h items same =
    let gs = both (item x.item).good (good_all (map next_item xs)) g in
    let hs = both (item y.item).good (good_all (map next_item ys)) h in
    let tokens : (item x.item).flat ≡ (item y.item).flat = ap first_tokens items in
    let node : x.item ≡ y.item = one x.item y.item gs.0 hs.0 tokens in
    let mark : x.mark ≡ y.mark = sym (mark_semi x.mark) ∙ ap (first_mark x.mark) same ∙ mark_semi y.mark in
    let left : List Sym = flat_all (map next_item xs) ++ block_close b ∷ [] in
    let right : List Sym = flat_all (map next_item ys) ++ block_close c ∷ [] in
    let tail : left ≡ right = behind_same (item x.item).flat (item y.item).flat left right tokens (
    sym (append_assoc (item x.item).flat (flat_all (map next_item xs)) (block_close b ∷ [])) ∙ ap after same
    ∙ append_assoc (item y.item).flat (flat_all (map next_item ys)) (block_close c ∷ [])) in
    let rest = others_same one xs ys b c gs.1 hs.1 (ap other_items items) tail in
    (λ i. record { mark = mark i; item = node i } ∷ rest.0 i, rest.1)

pub one_tree_by_items : HaveOneTreeByItems
unfolding first_tokens other_items first_mark
one_tree_by_items one_header one_item t u good_t good_u same =
    let rest_t : List Sym = flat_all (map next_item t.others) ++ block_close t.close ∷ [] in
    let rest_u : List Sym = flat_all (map next_item u.others) ++ block_close u.close ∷ [] in
    let body_t : List Sym = (item t.first).flat ++ rest_t in
    let body_u : List Sym = (item u.first).flat ++ rest_u in
    let first_t : Bool = imports_first t.first t.others in
    let first_u : Bool = imports_first u.first u.others in
    let others_t : Bool = good_all (map next_item t.others) && first_t in
    let others_u : Bool = good_all (map next_item u.others) && first_u in
    let g = both ((header t.header).good && ((item t.first).good && others_t)) (same_span t.span (cover (flat t))) good_t in
    let h = both ((header u.header).good && ((item u.first).good && others_u)) (same_span u.span (cover (flat u))) good_u in
    let gh = both (header t.header).good ((item t.first).good && others_t) g.0 in
    let hh = both (header u.header).good ((item u.first).good && others_u) h.0 in
    let gi = both (item t.first).good others_t gh.1 in
    let hi = both (item u.first).good others_u hh.1 in
    let go = both (good_all (map next_item t.others)) first_t gi.1 in
    let ho = both (good_all (map next_item u.others)) first_u hi.1 in
    let items : printed_items t ≡ printed_items u = sym (have_their_items t) ∙ ap top_items same ∙ have_their_items u in
    let head_tokens : (header t.header).flat ≡ (header u.header).flat = ap first_tokens items in
    let item_tokens : (item t.first).flat ≡ (item u.first).flat = ap (λ is. first_tokens (other_items is)) items in
    let behind : block_open t.open ∷ body_t ≡ block_open u.open ∷ body_u =
    behind_same (header t.header).flat (header u.header).flat (block_open t.open ∷ body_t) (block_open u.open ∷ body_u) head_tokens same in
    let rest : rest_t ≡ rest_u = behind_same (item t.first).flat (item u.first).flat rest_t rest_u item_tokens (ap after behind) in
    let head : t.header ≡ u.header = one_header t.header u.header gh.0 hh.0 head_tokens in
    let node : t.first ≡ u.first = one_item t.first u.first gi.0 hi.0 item_tokens in
    let begins : t.open ≡ u.open = sym (mark_open t.open) ∙ ap (first_mark t.open) behind ∙ mark_open u.open in
    let others = others_same one_item t.others u.others t.close u.close go.0 ho.0 (ap (λ is. other_items (other_items is)) items) rest in
    let span : t.span ≡ u.span = same_span_is t.span (cover (flat t)) g.1 ∙ ap cover same ∙ sym (same_span_is u.span (cover (flat u)) h.1) in
    λ i. record { span = span i; header = head i; «open» = begins i; first = node i; others = others.0 i; close = others.1 i }
