-- A well-formed tree that is no deeper than the limit is read from its tokens.
use Rattle.std.proofs.Common.{◌≡◌, ℕ, zero, suc, ◌+◌, ◌≤◌, Bool, true, false, ◌&&◌, List, [], ◌∷◌, ◌++◌, length, take, drop, map, Option, Ok, refl, sym, ap, ◌∙◌, arith, append_assoc, length-append}
use Rattle.gh_tree.specs.declared.names.BlockMark.{BlockMark}
use Rattle.gh_tree.specs.declared.names.BlockMark.TheVariants as bm
use Rattle.gh_tree.specs.declared.symbol.Sym.{Sym}
use Rattle.gh_tree.specs.declared.module_tree.Header.{Header}
use Rattle.gh_tree.specs.declared.module_tree.Item.{Item}
use Rattle.gh_tree.specs.declared.module_tree.ModuleTree.{ModuleTree}
use Rattle.gh_tree.specs.declared.module_tree.NextItem.{NextItem}
use Rattle.gh_tree.specs.Cut.{header_size, mark_of}
use Rattle.gh_tree.specs.Depth.{deepest, item_depth, header_depth, depth_of}
use Rattle.gh_tree.specs.Items.{may_stand, is_top, tops_behind}
use Rattle.gh_tree.specs.Print.{flat_all, good_all, header, item, next_item, is_no_import, tops_alone, imports_first, flat, IsWellFormed, HaveOneTree, block_open, block_semi, block_close}
use Rattle.gh_tree.specs.Syms.{cover, same_span}
use Rattle.gh_tree.proofs.Steps.{both, same_span_is}
use Rattle.gh_parser.specs.declared.items.End.{End}
use Rattle.gh_parser.specs.declared.items.End.TheVariants as v_End
use Rattle.gh_parser.specs.Readers.{header_of, item_of}
use Rattle.gh_parser.specs.Parse.{◌>>=◌, item_tokens, behind_item, one_more, header_in, item_in, part_of, others_of, body_of, parsed_by, parsed_within}
use Rattle.gh_parser.specs.Laws.{ReadsEachTree}
use Rattle.gh_parser.proofs.Bind.{value_is, chain, limited_some}
use Rattle.gh_parser.proofs.Ends.{end_token, IsLast, item_cut_is, item_end_is, behind_item_is, header_cut_is, cut_at}
use Rattle.gh_parser.proofs.Loop.{part_is, others_closed, others_step}
use Rattle.gh_parser.proofs.ReadBack.{header_read, item_read}
use Rattle.gh_parser.proofs.SoundFile.{follows, follows_first}

-- ---- one item

item_given : (limit : ℕ) (tops : Bool) (ss : List Sym) (x : Item) → ss ≡ (item x).flat → (item x).good ≡ true → may_stand tops x ≡ true → item_depth x ≤ limit → item_in limit tops ss ≡ Ok x
unfolding item_in
item_given limit tops ss x is good may le = limited_some limit item_depth ss (item_of tops ss) x (item_read tops ss x (good, sym is, may)) le

pub part_complete : (limit : ℕ) (tops : Bool) (x : Item) (e : End) (rest : List Sym) → IsLast e rest → (item x).good ≡ true → may_stand tops x ≡ true → item_depth x ≤ limit
    → part_of limit tops ((item x).flat ++ end_token e ∷ rest) ≡ Ok (record { item = x; end = e })
part_complete limit tops x e rest last good may le =
    part_is limit tops ((item x).flat ++ end_token e ∷ rest) e (item_end_is x e rest last)
    ∙ chain (λ x. Ok (record { item = x; end = e })) (item_given limit tops (item_tokens ((item x).flat ++ end_token e ∷ rest)) x (item_cut_is x e rest last) good may le) refl

-- ---- the others

-- how the item before these ends, and the tokens behind that
abbrev end_before : List NextItem → BlockMark → End
end_before [] c = v_End.Closed c
end_before (x ∷ xs) c = v_End.Parted x.mark

abbrev tokens_behind : List NextItem → BlockMark → List Sym
tokens_behind [] c = []
tokens_behind (x ∷ xs) c = (item x.item).flat ++ end_token (end_before xs c) ∷ tokens_behind xs c

last_behind : (xs : List NextItem) (c : BlockMark) → IsLast (end_before xs c) (tokens_behind xs c)
last_behind [] c = refl
last_behind (x ∷ xs) c = tt

printed_behind : (xs : List NextItem) (c : BlockMark) → flat_all (map next_item xs) ++ block_close c ∷ [] ≡ end_token (end_before xs c) ∷ tokens_behind xs c
printed_behind [] c = refl
printed_behind (x ∷ xs) c =
    ap (λ us. block_semi x.mark ∷ us) (append_assoc (item x.item).flat (flat_all (map next_item xs)) (block_close c ∷ []) ∙ ap (λ us. (item x.item).flat ++ us) (printed_behind xs c))

follows_may : (tops : Bool) (x : NextItem) (xs : List NextItem) → follows tops (x ∷ xs) ≡ true → (may_stand tops x.item ≡ true) × (follows (tops_behind tops x.item) xs ≡ true)
follows_may true x xs e = both (is_no_import x.item) (tops_alone xs) e
follows_may false x xs e = (refl, e)

fewer : (f : List Sym) (t : Sym) (rest : List Sym) (n : ℕ) → length (f ++ t ∷ rest) ≤ suc n → length rest ≤ n
fewer f t rest n le = let e : length (f ++ t ∷ rest) ≡ length f + length (t ∷ rest) = length-append f (t ∷ rest) in omega (arith, e, le)

some_left : (f : List Sym) (t : Sym) (rest : List Sym) → length (f ++ t ∷ rest) ≤ 0 → ⊥
some_left f t rest le = let e : length (f ++ t ∷ rest) ≡ length f + length (t ∷ rest) = length-append f (t ∷ rest) in omega (arith, e, le)

pub others_complete : (limit n : ℕ) (tops : Bool) (xs : List NextItem) (c : BlockMark) → good_all (map next_item xs) ≡ true → follows tops xs ≡ true
    → deepest (map (λ x. item_depth x.item) xs) ≤ limit → length (tokens_behind xs c) ≤ n
    → others_of limit n tops (end_before xs c) (tokens_behind xs c) ≡ Ok (record { found = xs; close = c })
others_complete limit n tops [] c good follow shallow fuel = others_closed limit n tops c []
others_complete limit zero tops (x ∷ xs) c good follow shallow fuel = absurd (some_left (item x.item).flat (end_token (end_before xs c)) (tokens_behind xs c) fuel)
others_complete limit (suc n) tops (x ∷ xs) c good follow shallow fuel =
    let goods = both (item x.item).good (good_all (map next_item xs)) good in
    let stands = follows_may tops x xs follow in
    let e : End = end_before xs c in
    let rest : List Sym = tokens_behind xs c in
    let le : item_depth x.item ≤ limit = omega (arith, shallow) in
    let les : deepest (map (λ x. item_depth x.item) xs) ≤ limit = omega (arith, shallow) in
    others_step limit n tops x.mark ((item x.item).flat ++ end_token e ∷ rest)
    ∙ chain (λ p. others_of limit n (tops_behind tops p.item) p.end (behind_item ((item x.item).flat ++ end_token e ∷ rest)) >>= λ o. Ok (one_more x.mark p.item o))
    (part_complete limit tops x.item e rest (last_behind xs c) goods.0 stands.0 le)
    (chain (λ o. Ok (one_more x.mark x.item o))
    (ap (others_of limit n (tops_behind tops x.item) e) (behind_item_is x.item e rest (last_behind xs c))
    ∙ others_complete limit n (tops_behind tops x.item) xs c goods.1 stands.1 les (fewer (item x.item).flat (end_token e) rest n fuel)) refl)

-- ---- the body and the file

body_complete : (limit : ℕ) (x : Item) (xs : List NextItem) (c : BlockMark) → (item x).good ≡ true → good_all (map next_item xs) ≡ true → imports_first x xs ≡ true
    → item_depth x ≤ limit → deepest (map (λ x. item_depth x.item) xs) ≤ limit
    → body_of limit ((item x).flat ++ (flat_all (map next_item xs) ++ block_close c ∷ [])) ≡ Ok (record { first = x; others = xs; close = c })
unfolding body_of
body_complete limit x xs c good goods first le les =
    let e : End = end_before xs c in
    let rest : List Sym = tokens_behind xs c in
    let ss : List Sym = (item x).flat ++ end_token e ∷ rest in
    let behind : behind_item ss ≡ rest = behind_item_is x e rest (last_behind xs c) in
    let fuel : length rest ≤ length (behind_item ss) = let l : length (behind_item ss) ≡ length rest = ap length behind in omega (arith, l) in
    ap (λ us. body_of limit ((item x).flat ++ us)) (printed_behind xs c)
    ∙ chain (λ p. others_of limit (length (behind_item ss)) (tops_behind false p.item) p.end (behind_item ss) >>= λ o. Ok (record { first = p.item; others = o.found; close = o.close }))
    (part_complete limit false x e rest (last_behind xs c) good refl le)
    (chain (λ o. Ok (record { first = x; others = o.found; close = o.close }))
    (ap (others_of limit (length (behind_item ss)) (is_top x) e) behind
    ∙ others_complete limit (length (behind_item ss)) (is_top x) xs c goods (sym (follows_first x xs) ∙ first) les fuel) refl)

header_given : (limit : ℕ) (ss : List Sym) (h : Option Header) → ss ≡ (header h).flat → (header h).good ≡ true → header_depth h ≤ limit → header_in limit ss ≡ Ok h
unfolding header_in
header_given limit ss h is good le = limited_some limit header_depth ss (header_of ss) h (header_read ss h (good, sym is)) le

mark_open : (m : BlockMark) → mark_of (block_open m) ≡ m
mark_open (bm.Written s) = refl
mark_open (bm.Inserted p) = refl

file_complete : (limit : ℕ) (t : ModuleTree) (ss front body : List Sym) → front ≡ (header t.header).flat → body ≡ (item t.first).flat ++ (flat_all (map next_item t.others) ++ block_close t.close ∷ [])
    → t.span ≡ cover ss → (header t.header).good ≡ true → header_depth t.header ≤ limit
    → body_of limit ((item t.first).flat ++ (flat_all (map next_item t.others) ++ block_close t.close ∷ [])) ≡ Ok (record { first = t.first; others = t.others; close = t.close })
    → parsed_by limit front (block_open t.open ∷ body) ss ≡ Ok t
file_complete limit t ss front body head inside span good le read =
    chain (λ h. body_of limit body >>= λ b. Ok (record { span = cover ss; header = h; «open» = mark_of (block_open t.open); first = b.first; others = b.others; close = b.close }))
    (header_given limit front t.header head good le)
    (chain (λ b. Ok (record { span = cover ss; header = t.header; «open» = mark_of (block_open t.open); first = b.first; others = b.others; close = b.close }))
    (ap (body_of limit) inside ∙ read)
    (λ i. Ok (record { span = sym span i; header = t.header; «open» = mark_open t.open i; first = t.first; others = t.others; close = t.close })))

pub parsed_complete : (limit : ℕ) (t : ModuleTree) → IsWellFormed t → depth_of t ≤ limit → parsed_within limit (flat t) ≡ Ok t
unfolding parsed_within
parsed_complete limit t good shallow =
    let rest : List Sym = flat_all (map next_item t.others) ++ block_close t.close ∷ [] in
    let body : List Sym = (item t.first).flat ++ rest in
    let first : Bool = imports_first t.first t.others in
    let others : Bool = good_all (map next_item t.others) && first in
    let g = both ((header t.header).good && ((item t.first).good && others)) (same_span t.span (cover (flat t))) good in
    let gh = both (header t.header).good ((item t.first).good && others) g.0 in
    let gi = both (item t.first).good others gh.1 in
    let go = both (good_all (map next_item t.others)) first gi.1 in
    let head : take (header_size (flat t)) (flat t) ≡ (header t.header).flat = header_cut_is t.header t.open body in
    let behind : drop (header_size (flat t)) (flat t) ≡ block_open t.open ∷ body = cut_at (header_size (flat t)) (header t.header).flat (block_open t.open ∷ body) head in
    let low : header_depth t.header ≤ limit = omega (arith, shallow) in
    let low_first : item_depth t.first ≤ limit = omega (arith, shallow) in
    let low_others : deepest (map (λ x. item_depth x.item) t.others) ≤ limit = omega (arith, shallow) in
    ap (λ us. parsed_by limit (take (header_size (flat t)) (flat t)) us (flat t)) behind
    ∙ file_complete limit t (flat t) (take (header_size (flat t)) (flat t)) body head refl (same_span_is t.span (cover (flat t)) g.1) gh.0 low
    (body_complete limit t.first t.others t.close gi.0 go.0 go.1 low_first low_others)

-- ---- the laws

pub each_is_read : ReadsEachTree
each_is_read ss t s shallow = ap (parsed_within 2000) (sym s.1) ∙ parsed_complete 2000 t s.0 shallow

pub one_tree : HaveOneTree
one_tree t u good_t good_u same =
    let limit : ℕ = depth_of t + depth_of u in
    let below_t : depth_of t ≤ limit = omega arith in
    let below_u : depth_of u ≤ limit = omega arith in
    value_is t u (sym (parsed_complete limit t good_t below_t) ∙ ap (parsed_within limit) same ∙ parsed_complete limit u good_u below_u)
