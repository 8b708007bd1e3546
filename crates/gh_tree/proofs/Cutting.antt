-- Where the items of a file end.
use Rattle.std.proofs.Common.{◌≡◌, ℕ, zero, suc, ◌+◌, ◌<◌, ◌≤◌, true, false, List, [], ◌∷◌, length, take, drop, get_or, Option, Some, None, refl, sym, ap, ◌∙◌, arith}
use Rattle.std.proofs.lemmas.List.{drop_more, length-drop}
use Rattle.gh_tree.specs.declared.symbol.Sym.{Sym}
use Rattle.gh_tree.specs.Items.{Brace, opening_brace, part_mark, closing_brace, no_brace, brace, front, body_end, body_step, body_items, top_step, top_items}
use Rattle.gh_tree.specs.Cut.{behind, opens, size_step, item_size, header_step, header_size, header_cut_at, header_cut, last_cut, item_cut_at, item_cut}

some_number : {a b : ℕ} → Some a ≡ Some b → a ≡ b
some_number e = cc

-- ---- the header

header_step_other : (b : Brace) (n : ℕ) → opens b ≡ false → header_step b n ≡ suc n
header_step_other opening_brace n other = absurd (cc)
header_step_other part_mark n other = refl
header_step_other closing_brace n other = refl
header_step_other no_brace n other = refl

header_step_opens : (b : Brace) (n : ℕ) → opens b ≡ true → header_step b n ≡ zero
header_step_opens opening_brace n opening = refl
header_step_opens part_mark n opening = absurd (cc)
header_step_opens closing_brace n opening = absurd (cc)
header_step_opens no_brace n opening = absurd (cc)

next_token : (ss : List Sym) (i : ℕ) (s : Sym) → i < length ss → s ≡ get_or ss i s → drop i ss ≡ s ∷ drop (i + 1) ss
next_token ss i s lt is = drop_more ss i s lt ∙ ap (λ t. t ∷ drop (i + 1) ss) (sym is)

no_token : (ss : List Sym) → length ss ≡ 0 → ss ≡ []
no_token [] e = refl
no_token (s ∷ ss) e = absurd (omega (arith, e))

nothing_left : (ss : List Sym) (i : ℕ) → length ss ≤ i → drop i ss ≡ []
nothing_left ss i done = no_token (drop i ss) (length-drop i ss ∙ omega (arith, done))

pub header_goes : (ss : List Sym) (i : ℕ) (s : Sym) → i < length ss → s ≡ get_or ss i s → opens (brace s.kind) ≡ false
    → header_size ss ≡ i + header_size (drop i ss) → header_size ss ≡ (i + 1) + header_size (drop (i + 1) ss)
header_goes ss i s lt is other so_far =
    let n : ℕ = header_size (drop (i + 1) ss) in
    let step : header_size (drop i ss) ≡ suc n = ap header_size (next_token ss i s lt is) ∙ header_step_other (brace s.kind) n other in
    so_far ∙ ap (λ m. i + m) step ∙ omega arith

pub header_ends : (ss : List Sym) (i : ℕ) (s : Sym) → i < length ss → s ≡ get_or ss i s → opens (brace s.kind) ≡ true
    → header_size ss ≡ i + header_size (drop i ss) → i ≡ header_size ss
header_ends ss i s lt is opening so_far =
    let n : ℕ = header_size (drop (i + 1) ss) in
    let step : header_size (drop i ss) ≡ zero = ap header_size (next_token ss i s lt is) ∙ header_step_opens (brace s.kind) n opening in
    sym (so_far ∙ ap (λ m. i + m) step ∙ omega arith)

pub header_all : (ss : List Sym) (i : ℕ) → length ss ≤ i → i ≤ length ss → header_size ss ≡ i + header_size (drop i ss) → length ss ≡ header_size ss
header_all ss i low high so_far =
    let none : header_size (drop i ss) ≡ zero = ap header_size (nothing_left ss i low) in
    omega (arith, low, high, so_far, none)

header_step_within : (b : Brace) (n m : ℕ) → n ≤ m → header_step b n ≤ m + 1
header_step_within opening_brace n m le = omega (arith, le)
header_step_within part_mark n m le = omega (arith, le)
header_step_within closing_brace n m le = omega (arith, le)
header_step_within no_brace n m le = omega (arith, le)

pub header_within : (ss : List Sym) → header_size ss ≤ length ss
header_within [] = omega arith
header_within (s ∷ ss) = let h = header_step_within (brace s.kind) (header_size ss) (length ss) (header_within ss) in omega (arith, h)

header_at_front : (s : Sym) (b : Brace) (f : List Sym) (t : Sym) (ts : List Sym) → front s (header_cut_at b f t ts) ≡ header_cut_at b (s ∷ f) t ts
header_at_front s opening_brace f t ts = refl
header_at_front s part_mark f t ts = refl
header_at_front s closing_brace f t ts = refl
header_at_front s no_brace f t ts = refl

-- a token before the header
header_front : (s : Sym) (f rest : List Sym) → front s (header_cut f rest) ≡ header_cut (s ∷ f) rest
header_front s f [] = refl
header_front s f (t ∷ ts) = header_at_front s (brace t.kind) f t ts

abbrev HeaderIsCut : List Sym → Type 0
HeaderIsCut ss = top_items ss ≡ header_cut (take (header_size ss) ss) (drop (header_size ss) ss)

header_by : (s : Sym) (ss : List Sym) (b : Brace) → brace s.kind ≡ b → HeaderIsCut ss
    → top_step b s ss (top_items ss) ≡ header_cut (take (header_step b (header_size ss)) (s ∷ ss)) (drop (header_step b (header_size ss)) (s ∷ ss))
header_by s ss opening_brace e h = ap (λ b. header_cut_at b [] s ss) (sym e)
header_by s ss part_mark e h = ap (front s) h ∙ header_front s (take (header_size ss) ss) (drop (header_size ss) ss)
header_by s ss closing_brace e h = ap (front s) h ∙ header_front s (take (header_size ss) ss) (drop (header_size ss) ss)
header_by s ss no_brace e h = ap (front s) h ∙ header_front s (take (header_size ss) ss) (drop (header_size ss) ss)

pub header_is_cut : (ss : List Sym) → HeaderIsCut ss
header_is_cut [] = refl
header_is_cut (s ∷ ss) = header_by s ss (brace s.kind) refl (header_is_cut ss)

-- ---- an item of the body

item_at : (ss : List Sym) (i depth : ℕ) (s : Sym) (next : Option ℕ) → i < length ss → s ≡ get_or ss i s → behind (brace s.kind) depth ≡ next
    → item_size (drop i ss) depth ≡ size_step next (item_size (drop (i + 1) ss))
item_at ss i depth s next lt is goes = ap (λ us. item_size us depth) (next_token ss i s lt is) ∙ ap (λ n. size_step n (item_size (drop (i + 1) ss))) goes

pub item_goes : (ss : List Sym) (i depth inside : ℕ) (s : Sym) → i < length ss → s ≡ get_or ss i s → behind (brace s.kind) depth ≡ Some inside
    → item_size ss 0 ≡ i + item_size (drop i ss) depth → item_size ss 0 ≡ (i + 1) + item_size (drop (i + 1) ss) inside
item_goes ss i depth inside s lt is goes so_far = so_far ∙ ap (λ n. i + n) (item_at ss i depth s (Some inside) lt is goes) ∙ omega arith

pub item_ends : (ss : List Sym) (i depth : ℕ) (s : Sym) → i < length ss → s ≡ get_or ss i s → behind (brace s.kind) depth ≡ None
    → item_size ss 0 ≡ i + item_size (drop i ss) depth → i ≡ item_size ss 0
item_ends ss i depth s lt is goes so_far = sym (so_far ∙ ap (λ n. i + n) (item_at ss i depth s None lt is goes) ∙ omega arith)

pub item_all : (ss : List Sym) (i depth : ℕ) → length ss ≤ i → i ≤ length ss → item_size ss 0 ≡ i + item_size (drop i ss) depth → length ss ≡ item_size ss 0
item_all ss i depth low high so_far =
    let none : item_size (drop i ss) depth ≡ zero = ap (λ us. item_size us depth) (nothing_left ss i low) in
    omega (arith, low, high, so_far, none)

-- one brace more at most
pub goes_within : (b : Brace) (depth inside i : ℕ) → behind b depth ≡ Some inside → depth ≤ i → inside ≤ i + 1
goes_within opening_brace depth inside i e le = let same : suc depth ≡ inside = some_number e in omega (arith, same, le)
goes_within part_mark zero inside i e le = absurd (cc)
goes_within part_mark (suc depth) inside i e le = let same : suc depth ≡ inside = some_number e in omega (arith, same, le)
goes_within closing_brace zero inside i e le = absurd (cc)
goes_within closing_brace (suc depth) inside i e le = let same : depth ≡ inside = some_number e in omega (arith, same, le)
goes_within no_brace depth inside i e le = let same : depth ≡ inside = some_number e in omega (arith, same, le)

size_step_within : (n : Option ℕ) (next : ℕ → ℕ) (m : ℕ) → ((depth : ℕ) → next depth ≤ m) → size_step n next ≤ m + 1
size_step_within None next m le = omega arith
size_step_within (Some depth) next m le = let h = le depth in omega (arith, h)

item_size_within : (ss : List Sym) (depth : ℕ) → item_size ss depth ≤ length ss
item_size_within [] depth = omega arith
item_size_within (s ∷ ss) depth = let h = size_step_within (behind (brace s.kind) depth) (item_size ss) (length ss) (item_size_within ss) in omega (arith, h)

pub item_within : (ss : List Sym) → item_size ss 0 ≤ length ss
item_within ss = item_size_within ss 0

item_at_front : (s : Sym) (b : Brace) (f : List Sym) (t : Sym) (ts : List Sym) → front s (item_cut_at b f t ts) ≡ item_cut_at b (s ∷ f) t ts
item_at_front s opening_brace f t ts = refl
item_at_front s part_mark f t ts = refl
item_at_front s closing_brace f t [] = refl
item_at_front s closing_brace f t (u ∷ us) = refl
item_at_front s no_brace f t ts = refl

-- a token before the item
item_front : (s : Sym) (f rest : List Sym) → front s (item_cut f rest) ≡ item_cut (s ∷ f) rest
item_front s f [] = refl
item_front s f (t ∷ ts) = item_at_front s (brace t.kind) f t ts

body_end_is : (s : Sym) (ss : List Sym) → body_end s ss ≡ last_cut [] s ss
body_end_is s [] = refl
body_end_is s (t ∷ ts) = refl

abbrev IsCut : List Sym → ℕ → Type 0
IsCut ss depth = body_items ss depth ≡ item_cut (take (item_size ss depth) ss) (drop (item_size ss depth) ss)

item_by : (s : Sym) (ss : List Sym) (depth : ℕ) (b : Brace) → brace s.kind ≡ b → ((inside : ℕ) → IsCut ss inside)
    → body_step b s ss (body_items ss) depth ≡ item_cut (take (size_step (behind b depth) (item_size ss)) (s ∷ ss)) (drop (size_step (behind b depth) (item_size ss)) (s ∷ ss))
item_by s ss depth opening_brace e h = ap (front s) (h (suc depth)) ∙ item_front s (take (item_size ss (suc depth)) ss) (drop (item_size ss (suc depth)) ss)
item_by s ss zero part_mark e h = ap (λ b. item_cut_at b [] s ss) (sym e)
item_by s ss (suc depth) part_mark e h = ap (front s) (h (suc depth)) ∙ item_front s (take (item_size ss (suc depth)) ss) (drop (item_size ss (suc depth)) ss)
item_by s ss zero closing_brace e h = body_end_is s ss ∙ ap (λ b. item_cut_at b [] s ss) (sym e)
item_by s ss (suc depth) closing_brace e h = ap (front s) (h depth) ∙ item_front s (take (item_size ss depth) ss) (drop (item_size ss depth) ss)
item_by s ss depth no_brace e h = ap (front s) (h depth) ∙ item_front s (take (item_size ss depth) ss) (drop (item_size ss depth) ss)

body_is_cut : (ss : List Sym) (depth : ℕ) → IsCut ss depth
body_is_cut [] depth = refl
body_is_cut (s ∷ ss) depth = item_by s ss depth (brace s.kind) refl (body_is_cut ss)

pub item_is_cut : (ss : List Sym) → IsCut ss 0
item_is_cut ss = body_is_cut ss 0
