-- What is read from the tokens of a file is a tree of these tokens, and no deeper than the limit.
use Rattle.std.proofs.Common.{◌≡◌, ℕ, zero, suc, ◌≤◌, max, Bool, true, false, List, [], ◌∷◌, ◌++◌, length, take, drop, map, Option, Some, None, Ok, refl, sym, ap, ◌∙◌, subst, arith, append_assoc, IsTrue}
use Rattle.std.proofs.lemmas.List.{take-append-drop}
use Rattle.gh_tree.specs.declared.names.BlockMark.{BlockMark}
use Rattle.gh_tree.specs.declared.symbol.Sym.{Sym}
use Rattle.gh_tree.specs.declared.module_tree.Header.{Header}
use Rattle.gh_tree.specs.declared.module_tree.Item.{Item}
use Rattle.gh_tree.specs.declared.module_tree.Item.TheVariants as v_Item
use Rattle.gh_tree.specs.declared.module_tree.ModuleTree.{ModuleTree}
use Rattle.gh_tree.specs.declared.module_tree.NextItem.{NextItem}
use Rattle.gh_tree.specs.Cut.{header_size, item_size, mark_of, ArePlaced}
use Rattle.gh_tree.specs.Depth.{deepest, item_depth, header_depth, depth_of}
use Rattle.gh_tree.specs.Items.{may_stand, is_top, tops_behind}
use Rattle.gh_tree.specs.Print.{flat_all, good_all, header, item, next_item, tops_alone, imports_first, flat, Spells, block_open, block_semi, block_close}
use Rattle.gh_tree.specs.Syms.{cover, same_span}
use Rattle.gh_tree.proofs.Placed.{open_again, placed_drop}
use Rattle.gh_tree.proofs.Steps.{and_is, same_span_refl}
use Rattle.gh_parser.specs.declared.items.End.{End}
use Rattle.gh_parser.specs.declared.items.End.TheVariants as v_End
use Rattle.gh_parser.specs.declared.items.Part.{Part}
use Rattle.gh_parser.specs.declared.items.Others.{Others}
use Rattle.gh_parser.specs.declared.items.Body.{Body}
use Rattle.gh_parser.specs.Readers.{header_of, item_of}
use Rattle.gh_parser.specs.Parse.{◌>>=◌, item_tokens, item_end_of, behind_item, no_others, one_more, header_in, item_in, part_by, part_of, others_of, body_of, parsed_by, parsed_within}
use Rattle.gh_parser.proofs.Bind.{value_is, reached, limited_ok}
use Rattle.gh_parser.proofs.Ends.{end_token, IsLast, placed_behind, end_is, header_opens}
use Rattle.gh_parser.proofs.ReadBack.{ItemSpells, header_spelled, item_spelled}

-- ---- one item

pub record PartIs (limit : ℕ) (tops : Bool) (ss : List Sym) (p : Part) : Type 0 where
  pub tokens : ss ≡ (item p.item).flat ++ end_token p.end ∷ behind_item ss
  pub last : IsLast p.end (behind_item ss)
  pub good : (item p.item).good ≡ true
  pub stands : may_stand tops p.item ≡ true
  pub shallow : item_depth p.item ≤ limit

pub item_is : (limit : ℕ) (tops : Bool) (ss : List Sym) (x : Item) → item_in limit tops ss ≡ Ok x → ItemSpells tops ss x × (item_depth x ≤ limit)
unfolding item_in
item_is limit tops ss x e =
    let h = limited_ok limit item_depth ss (item_of tops ss) x e in
    (item_spelled tops ss x h.0, h.1)

part_at : (limit : ℕ) (tops : Bool) (ss : List Sym) (e : End) (x : Item) → ArePlaced ss → item_end_of ss ≡ Some e → item_in limit tops (item_tokens ss) ≡ Ok x
    → PartIs limit tops ss (record { item = x; end = e })
unfolding item_end_of item_tokens behind_item
part_at limit tops ss e x placed ends read =
    let n : ℕ = item_size ss 0 in
    let h = item_is limit tops (take n ss) x read in
    let at = end_is (drop n ss) e (placed_drop n ss placed) ends in
    record {
      tokens = sym (take-append-drop n ss) ∙ ap (λ us. us ++ drop n ss) (sym h.0.1) ∙ ap (λ us. (item x).flat ++ us) at.0;
      last = at.1;
      good = h.0.0;
      stands = h.0.2;
      shallow = h.1;
    }

part_by_is : (limit : ℕ) (tops : Bool) (ss : List Sym) (o : Option End) (p : Part) → ArePlaced ss → item_end_of ss ≡ o → part_by limit o tops ss ≡ Ok p → PartIs limit tops ss p
part_by_is limit tops ss None p placed ends e = absurd (cc)
part_by_is limit tops ss (Some end) p placed ends e =
    let r = reached (item_in limit tops (item_tokens ss)) (λ x. Ok (record { item = x; end = end })) p e in
    subst (PartIs limit tops ss) (value_is (record { item = r.x; end = end }) p r.then) (part_at limit tops ss end r.x placed ends r.first)

pub part_sound : (limit : ℕ) (tops : Bool) (ss : List Sym) (p : Part) → ArePlaced ss → part_of limit tops ss ≡ Ok p → PartIs limit tops ss p
unfolding part_of
part_sound limit tops ss p placed e = part_by_is limit tops ss (item_end_of ss) p placed refl e

-- ---- the others

-- no import stands behind a declaration of the top, which is before these or not
abbrev pub follows : Bool → List NextItem → Bool
follows true xs = tops_alone xs
follows false [] = true
follows false (x ∷ xs) = follows (is_top x.item) xs

pub follows_first : (x : Item) (xs : List NextItem) → imports_first x xs ≡ follows (is_top x) xs
follows_first v_Item.Empty [] = refl
follows_first v_Item.Empty (x ∷ xs) = follows_first x.item xs
follows_first (v_Item.Import i) [] = refl
follows_first (v_Item.Import i) (x ∷ xs) = follows_first x.item xs
follows_first (v_Item.Top t) xs = refl

follows_more : (tops : Bool) (m : BlockMark) (x : Item) (xs : List NextItem) → may_stand tops x ≡ true → follows (tops_behind tops x) xs ≡ true
    → follows tops (record { mark = m; item = x } ∷ xs) ≡ true
follows_more true m x xs may rest = and_is may rest
follows_more false m x xs may rest = rest

pub record OthersAre (limit : ℕ) (tops : Bool) (e : End) (ss : List Sym) (o : Others) : Type 0 where
  pub tokens : end_token e ∷ ss ≡ flat_all (map next_item o.found) ++ block_close o.close ∷ []
  pub good : good_all (map next_item o.found) ≡ true
  pub follow : follows tops o.found ≡ true
  pub shallow : deepest (map (λ x. item_depth x.item) o.found) ≤ limit

follows_none : (tops : Bool) → follows tops [] ≡ true
follows_none true = refl
follows_none false = refl

none_are : (limit : ℕ) (tops : Bool) (m : BlockMark) (ss : List Sym) → ss ≡ [] → OthersAre limit tops (v_End.Closed m) ss (no_others m)
none_are limit tops m ss last = record { tokens = ap (λ us. block_close m ∷ us) last; good = refl; follow = follows_none tops; shallow = omega arith }

more_are : (limit : ℕ) (tops : Bool) (m : BlockMark) (ss : List Sym) (p : Part) (o : Others) → PartIs limit tops ss p → OthersAre limit (tops_behind tops p.item) p.end (behind_item ss) o
    → OthersAre limit tops (v_End.Parted m) ss (one_more m p.item o)
more_are limit tops m ss p o part rest = record {
  tokens = ap (λ us. block_semi m ∷ us) (part.tokens ∙ ap (λ us. (item p.item).flat ++ us) rest.tokens ∙ sym (append_assoc (item p.item).flat (flat_all (map next_item o.found)) (block_close o.close ∷ [])));
  good = and_is part.good rest.good;
  follow = follows_more tops m p.item o.found part.stands rest.follow;
  shallow = let a = part.shallow in let b = rest.shallow in omega (arith, a, b);
}

pub others_sound : (limit n : ℕ) (tops : Bool) (e : End) (ss : List Sym) (o : Others) → ArePlaced ss → IsLast e ss → others_of limit n tops e ss ≡ Ok o → OthersAre limit tops e ss o
unfolding others_of
others_sound limit zero tops (v_End.Closed m) ss o placed last e = subst (OthersAre limit tops (v_End.Closed m) ss) (value_is (no_others m) o e) (none_are limit tops m ss last)
others_sound limit zero tops (v_End.Parted m) ss o placed last e = absurd (cc)
others_sound limit (suc n) tops (v_End.Closed m) ss o placed last e = subst (OthersAre limit tops (v_End.Closed m) ss) (value_is (no_others m) o e) (none_are limit tops m ss last)
others_sound limit (suc n) tops (v_End.Parted m) ss o placed last e =
    let r = reached (part_of limit tops ss) (λ p. others_of limit n (tops_behind tops p.item) p.end (behind_item ss) >>= λ o. Ok (one_more m p.item o)) o e in
    let q = reached (others_of limit n (tops_behind tops r.x.item) r.x.end (behind_item ss)) (λ o. Ok (one_more m r.x.item o)) o r.then in
    let part : PartIs limit tops ss r.x = part_sound limit tops ss r.x placed r.first in
    let rest : OthersAre limit (tops_behind tops r.x.item) r.x.end (behind_item ss) q.x =
    others_sound limit n (tops_behind tops r.x.item) r.x.end (behind_item ss) q.x (placed_behind ss placed) part.last q.first in
    subst (OthersAre limit tops (v_End.Parted m) ss) (value_is (one_more m r.x.item q.x) o q.then) (more_are limit tops m ss r.x q.x part rest)

-- ---- the body and the file

pub record BodyIs (limit : ℕ) (ss : List Sym) (b : Body) : Type 0 where
  pub tokens : ss ≡ (item b.first).flat ++ (flat_all (map next_item b.others) ++ block_close b.close ∷ [])
  pub good_first : (item b.first).good ≡ true
  pub good : good_all (map next_item b.others) ≡ true
  pub follow : imports_first b.first b.others ≡ true
  pub shallow : max (item_depth b.first) (deepest (map (λ x. item_depth x.item) b.others)) ≤ limit

body_are : (limit : ℕ) (ss : List Sym) (p : Part) (o : Others) → PartIs limit false ss p → OthersAre limit (tops_behind false p.item) p.end (behind_item ss) o
    → BodyIs limit ss (record { first = p.item; others = o.found; close = o.close })
body_are limit ss p o part rest = record {
  tokens = part.tokens ∙ ap (λ us. (item p.item).flat ++ us) rest.tokens;
  good_first = part.good;
  good = rest.good;
  follow = follows_first p.item o.found ∙ rest.follow;
  shallow = let a = part.shallow in let b = rest.shallow in omega (arith, a, b);
}

pub body_sound : (limit : ℕ) (ss : List Sym) (b : Body) → ArePlaced ss → body_of limit ss ≡ Ok b → BodyIs limit ss b
unfolding body_of
body_sound limit ss b placed e =
    let f : Part → Others → Body = λ p o. record { first = p.item; others = o.found; close = o.close } in
    let r = reached (part_of limit false ss) (λ p. others_of limit (length (behind_item ss)) (tops_behind false p.item) p.end (behind_item ss) >>= λ o. Ok (f p o)) b e in
    let q = reached (others_of limit (length (behind_item ss)) (tops_behind false r.x.item) r.x.end (behind_item ss)) (λ o. Ok (f r.x o)) b r.then in
    let part : PartIs limit false ss r.x = part_sound limit false ss r.x placed r.first in
    let rest = others_sound limit (length (behind_item ss)) (tops_behind false r.x.item) r.x.end (behind_item ss) q.x (placed_behind ss placed) part.last q.first in
    subst (BodyIs limit ss) (value_is (f r.x q.x) b q.then) (body_are limit ss r.x q.x part rest)

pub record TreeIs (limit : ℕ) (ss : List Sym) (t : ModuleTree) : Type 0 where
  pub spells : Spells ss t
  pub shallow : depth_of t ≤ limit

pub header_is : (limit : ℕ) (ss : List Sym) (h : Option Header) → header_in limit ss ≡ Ok h → (IsTrue (header h).good × ((header h).flat ≡ ss)) × (header_depth h ≤ limit)
unfolding header_in
header_is limit ss h e =
    let l = limited_ok limit header_depth ss (header_of ss) h e in
    (header_spelled ss h l.0, l.1)

abbrev tree_of : List Sym → Option Header → Sym → Body → ModuleTree
tree_of ss h s b = record { span = cover ss; header = h; «open» = mark_of s; first = b.first; others = b.others; close = b.close }

tree_is : (limit : ℕ) (ss front : List Sym) (s : Sym) (rest : List Sym) (h : Option Header) (b : Body) → ss ≡ front ++ s ∷ rest → block_open (mark_of s) ≡ s
    → (IsTrue (header h).good × ((header h).flat ≡ front)) × (header_depth h ≤ limit) → BodyIs limit rest b → TreeIs limit ss (tree_of ss h s b)
tree_is limit ss front s rest h b is mark head body =
    let tokens : flat (tree_of ss h s b) ≡ ss =
    ap (λ us. us ++ block_open (mark_of s) ∷ ((item b.first).flat ++ (flat_all (map next_item b.others) ++ block_close b.close ∷ []))) head.0.1
    ∙ ap (λ us. front ++ block_open (mark_of s) ∷ us) (sym body.tokens) ∙ ap (λ t. front ++ t ∷ rest) mark ∙ sym is in
    let span : same_span (cover ss) (cover (flat (tree_of ss h s b))) ≡ true = ap (λ us. same_span (cover ss) (cover us)) tokens ∙ same_span_refl (cover ss) in
    record {
      spells = (and_is (and_is head.0.0 (and_is body.good_first (and_is body.good body.follow))) span, tokens);
      shallow = let a = head.1 in let c = body.shallow in omega (arith, a, c);
    }

by_rest : (limit : ℕ) (ss front us : List Sym) (t : ModuleTree) → ss ≡ front ++ us → ((s : Sym) (rest : List Sym) → us ≡ s ∷ rest → block_open (mark_of s) ≡ s) → ArePlaced us
    → parsed_by limit front us ss ≡ Ok t → TreeIs limit ss t
by_rest limit ss front [] t is opens placed e = absurd (cc)
by_rest limit ss front (s ∷ rest) t is opens placed e =
    let r = reached (header_in limit front) (λ h. body_of limit rest >>= λ b. Ok (tree_of ss h s b)) t e in
    let q = reached (body_of limit rest) (λ b. Ok (tree_of ss r.x s b)) t r.then in
    subst (TreeIs limit ss) (value_is (tree_of ss r.x s q.x) t q.then)
    (tree_is limit ss front s rest r.x q.x is (opens s rest refl) (header_is limit front r.x r.first) (body_sound limit rest q.x placed.1 q.first))

pub parsed_sound : (limit : ℕ) (ss : List Sym) (t : ModuleTree) → ArePlaced ss → parsed_within limit ss ≡ Ok t → TreeIs limit ss t
unfolding parsed_within
parsed_sound limit ss t placed e =
    let n : ℕ = header_size ss in
    let after_header : ArePlaced (drop n ss) = placed_drop n ss placed in
    by_rest limit ss (take n ss) (drop n ss) t (sym (take-append-drop n ss))
    (λ s rest is. open_again s (header_opens ss s rest is) (subst ArePlaced is after_header).0) after_header e
