-- The items of a file have one first fault at most, and where a tree has them that is no deeper than the limit, they have none.
use Rattle.std.proofs.Common.{◌≡◌, ℕ, ◌≤◌, ◌<◌, Bool, true, false, ◌&&◌, List, [], ◌∷◌, map, Option, refl, sym, ap, ◌∙◌, subst, arith}
use Rattle.gh_base.specs.declared.refusal.Refusal.{Refusal}
use Rattle.gh_tree.specs.declared.module_tree.Header.{Header}
use Rattle.gh_tree.specs.declared.module_tree.Item.{Item}
use Rattle.gh_tree.specs.declared.module_tree.ModuleTree.{ModuleTree}
use Rattle.gh_tree.specs.declared.module_tree.NextItem.{NextItem}
use Rattle.gh_tree.specs.Depth.{deepest, item_depth, header_depth, depth_of}
use Rattle.gh_tree.specs.Items.{TopItem, ended, IsHeader, IsItem, may_stand, tops_behind}
use Rattle.gh_tree.specs.Print.{header, item, next_item, good_all, flat, imports_first, is_no_import, tops_alone, IsWellFormed}
use Rattle.gh_tree.specs.Syms.{cover, same_span}
use Rattle.gh_tree.specs.TreeItems.{printed_item, printed_items}
use Rattle.gh_tree.proofs.Steps.{both, and_is}
use Rattle.gh_parser.specs.Faults.{BodyFault, item_has_no_tree, item_is_too_deep, item_is_tree, FaultWithin, header_has_no_tree, header_is_too_deep, header_is_tree}
use Rattle.gh_parser.proofs.Bind.{some_value}
use Rattle.gh_parser.proofs.ReadBack.{header_read, item_read}
use Rattle.gh_parser.proofs.SoundFile.{follows, follows_first}

-- ---- an item has one tree at most

same_item : (tops : Bool) (i : TopItem) (x y : Item) → IsItem tops i x → IsItem tops i y → x ≡ y
same_item tops i x y a b = some_value x y (sym (item_read tops i.tokens x (a.1, a.2, a.3)) ∙ item_read tops i.tokens y (b.1, b.2, b.3))

same_header : (i : TopItem) (g h : Option Header) → IsHeader i g → IsHeader i h → g ≡ h
same_header i g h a b = some_value g h (sym (header_read i.tokens g (a.1, a.2)) ∙ header_read i.tokens h (b.1, b.2))

-- a tree that is deeper than the limit, and one that is not, are two
item_apart : (limit : ℕ) (x y : Item) → x ≡ y → limit < item_depth x → item_depth y ≤ limit → ⊥
item_apart limit x y same deep low = let d : item_depth x ≡ item_depth y = ap item_depth same in omega (arith, d, deep, low)

header_apart : (limit : ℕ) (g h : Option Header) → g ≡ h → limit < header_depth g → header_depth h ≤ limit → ⊥
header_apart limit g h same deep low = let d : header_depth g ≡ header_depth h = ap header_depth same in omega (arith, d, deep, low)

-- ---- one first fault

body_faults : (limit : ℕ) (tops : Bool) (is : List TopItem) (r s : Refusal) → BodyFault limit tops is r → BodyFault limit tops is s → r ≡ s
body_faults limit tops is r s (item_has_no_tree b i js none) (item_has_no_tree c k ks other) = refl
body_faults limit tops is r s (item_has_no_tree b i js none) (item_is_too_deep c k ks x tree deep) = absurd (none x tree)
body_faults limit tops is r s (item_has_no_tree b i js none) (item_is_tree c k ks x q tree low later) = absurd (none x tree)
body_faults limit tops is r s (item_is_too_deep b i js x tree deep) (item_has_no_tree c k ks none) = absurd (none x tree)
body_faults limit tops is r s (item_is_too_deep b i js x tree deep) (item_is_too_deep c k ks y other deeper) = refl
body_faults limit tops is r s (item_is_too_deep b i js x tree deep) (item_is_tree c k ks y q other low later) = absurd (item_apart limit x y (same_item b i x y tree other) deep low)
body_faults limit tops is r s (item_is_tree b i js x q tree low later) (item_has_no_tree c k ks none) = absurd (none x tree)
body_faults limit tops is r s (item_is_tree b i js x q tree low later) (item_is_too_deep c k ks y other deep) = absurd (item_apart limit y x (same_item b i y x other tree) deep low)
body_faults limit tops is r s (item_is_tree b i js x q tree low later) (item_is_tree c k ks y p other lower behind) =
    body_faults limit (tops_behind b x) js r s later (subst (λ z. BodyFault limit (tops_behind b z) js s) (same_item b i y x other tree) behind)

pub one_fault : (limit : ℕ) (is : List TopItem) (r s : Refusal) → FaultWithin limit is r → FaultWithin limit is s → r ≡ s
one_fault limit is r s (header_has_no_tree i js none) (header_has_no_tree k ks other) = refl
one_fault limit is r s (header_has_no_tree i js none) (header_is_too_deep k ks h tree deep) = absurd (none h tree)
one_fault limit is r s (header_has_no_tree i js none) (header_is_tree k ks h q tree low later) = absurd (none h tree)
one_fault limit is r s (header_is_too_deep i js g tree deep) (header_has_no_tree k ks none) = absurd (none g tree)
one_fault limit is r s (header_is_too_deep i js g tree deep) (header_is_too_deep k ks h other deeper) = refl
one_fault limit is r s (header_is_too_deep i js g tree deep) (header_is_tree k ks h q other low later) = absurd (header_apart limit g h (same_header i g h tree other) deep low)
one_fault limit is r s (header_is_tree i js g q tree low later) (header_has_no_tree k ks none) = absurd (none g tree)
one_fault limit is r s (header_is_tree i js g q tree low later) (header_is_too_deep k ks h other deep) = absurd (header_apart limit h g (same_header i h g other tree) deep low)
one_fault limit is r s (header_is_tree i js g q tree low later) (header_is_tree k ks h p other lower behind) = body_faults limit false js r s later behind

-- ---- no fault in the items of a tree

follows_may : (tops : Bool) (x : NextItem) (xs : List NextItem) → follows tops (x ∷ xs) ≡ true → (may_stand tops x.item ≡ true) × (follows (tops_behind tops x.item) xs ≡ true)
follows_may true x xs e = both (is_no_import x.item) (tops_alone xs) e
follows_may false x xs e = (refl, e)

item_stands : (tops : Bool) (x : Item) → (item x).good ≡ true → may_stand tops x ≡ true → IsItem tops (printed_item x) x
item_stands tops x good may = (refl, good, refl, may)

first_same : (i j : TopItem) (is js : List TopItem) → i ∷ is ≡ j ∷ js → i ≡ j
first_same i j is js e = cc

others_same : (i j : TopItem) (is js : List TopItem) → i ∷ is ≡ j ∷ js → is ≡ js
others_same i j is js e = cc

abbrev items_printed : List NextItem → List TopItem
items_printed xs = map (λ x. printed_item x.item) xs

-- what is printed of an item stands first among these
own_item : (tops : Bool) (x : Item) (i : TopItem) (is js : List TopItem) → (item x).good ≡ true → may_stand tops x ≡ true → printed_item x ∷ is ≡ i ∷ js → IsItem tops i x
own_item tops x i is js good may same = subst (λ k. IsItem tops k x) (first_same (printed_item x) i is js same) (item_stands tops x good may)

-- what stands before the others is a tree's, so a fault lies behind it
others_clean : (limit : ℕ) (tops : Bool) (xs : List NextItem) (is : List TopItem) (r : Refusal) → good_all (map next_item xs) ≡ true → follows tops xs ≡ true
    → deepest (map (λ x. item_depth x.item) xs) ≤ limit → map (λ x. printed_item x.item) xs ≡ is → BodyFault limit tops is r → ⊥
others_clean limit tops [] is r good follow low same (item_has_no_tree b i js none) = absurd (cc)
others_clean limit tops [] is r good follow low same (item_is_too_deep b i js x tree deep) = absurd (cc)
others_clean limit tops [] is r good follow low same (item_is_tree b i js x q tree shallow later) = absurd (cc)
others_clean limit tops (x ∷ xs) is r good follow low same (item_has_no_tree b i js none) =
    let goods = both (item x.item).good (good_all (map next_item xs)) good in
    none x.item (own_item b x.item i (items_printed xs) js goods.0 (follows_may b x xs follow).0 same)
others_clean limit tops (x ∷ xs) is r good follow low same (item_is_too_deep b i js y tree deep) =
    let goods = both (item x.item).good (good_all (map next_item xs)) good in
    let own : IsItem b i x.item = own_item b x.item i (items_printed xs) js goods.0 (follows_may b x xs follow).0 same in
    item_apart limit y x.item (same_item b i y x.item tree own) deep (omega (arith, low))
others_clean limit tops (x ∷ xs) is r good follow low same (item_is_tree b i js y q tree shallow later) =
    let goods = both (item x.item).good (good_all (map next_item xs)) good in
    let stands = follows_may b x xs follow in
    let own : IsItem b i x.item = own_item b x.item i (items_printed xs) js goods.0 stands.0 same in
    let rest : items_printed xs ≡ js = others_same (printed_item x.item) i (items_printed xs) js same in
    let behind : BodyFault limit (tops_behind b x.item) js r = subst (λ z. BodyFault limit (tops_behind b z) js r) (same_item b i y x.item tree own) later in
    others_clean limit (tops_behind b x.item) xs js r goods.1 stands.1 (omega (arith, low)) rest behind

own_header : (h : Option Header) (i : TopItem) (is js : List TopItem) → (header h).good ≡ true → ended (header h).flat ∷ is ≡ i ∷ js → IsHeader i h
own_header h i is js good same = subst (λ k. IsHeader k h) (first_same (ended (header h).flat) i is js same) (refl, good, refl)

body_of_tree : ModuleTree → List NextItem
body_of_tree t = record { mark = t.«open»; item = t.first } ∷ t.others

pub tree_clean : (limit : ℕ) (t : ModuleTree) (is : List TopItem) (r : Refusal) → IsWellFormed t → depth_of t ≤ limit → printed_items t ≡ is → FaultWithin limit is r → ⊥
unfolding body_of_tree
tree_clean limit t is r good low same fault =
    let first : Bool = imports_first t.first t.others in
    let others : Bool = good_all (map next_item t.others) && first in
    let g = both ((header t.header).good && ((item t.first).good && others)) (same_span t.span (cover (flat t))) good in
    let gh = both (header t.header).good ((item t.first).good && others) g.0 in
    let gi = both (item t.first).good others gh.1 in
    let go = both (good_all (map next_item t.others)) first gi.1 in
    by_fault is r gh.0 (omega (arith, low)) (and_is gi.0 go.0) (sym (follows_first t.first t.others) ∙ go.1) (omega (arith, low)) same fault
  where
    by_fault : (is : List TopItem) (r : Refusal) → (header t.header).good ≡ true → header_depth t.header ≤ limit → good_all (map next_item (body_of_tree t)) ≡ true → follows false (body_of_tree t) ≡ true
        → deepest (map (λ x. item_depth x.item) (body_of_tree t)) ≤ limit → printed_items t ≡ is → FaultWithin limit is r → ⊥
    by_fault is r good_header low_header goods follow lows same (header_has_no_tree i js none) = none t.header (own_header t.header i (items_printed (body_of_tree t)) js good_header same)
    by_fault is r good_header low_header goods follow lows same (header_is_too_deep i js h tree deep) =
        header_apart limit h t.header (same_header i h t.header tree (own_header t.header i (items_printed (body_of_tree t)) js good_header same)) deep low_header
    by_fault is r good_header low_header goods follow lows same (header_is_tree i js h q tree shallow later) =
        others_clean limit false (body_of_tree t) js q goods follow lows (others_same (ended (header t.header).flat) i (items_printed (body_of_tree t)) js same) later
