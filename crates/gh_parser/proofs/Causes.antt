-- A refusal is that of the first item that is no tree's, or whose tree is too deep.
use Rattle.std.proofs.Common.{◌≡◌, ℕ, zero, suc, ◌-◌, ◌≤◌, Bool, true, false, List, [], ◌∷◌, ◌++◌, length, take, drop, Option, Some, None, Result, Ok, Err, refl, sym, ap, ◌∙◌, subst, arith, append-nil}
use Rattle.std.proofs.lemmas.List.{take-append-drop, length-drop}
use Rattle.gh_base.specs.declared.refusal.Refusal.{Refusal}
use Rattle.gh_tree.specs.declared.symbol.Sym.{Sym}
use Rattle.gh_tree.specs.declared.module_tree.Header.{Header}
use Rattle.gh_tree.specs.declared.module_tree.Item.{Item}
use Rattle.gh_tree.specs.declared.module_tree.ModuleTree.{ModuleTree}
use Rattle.gh_tree.specs.Cut.{header_size, header_cut, header_cut_at, item_size, item_cut, item_cut_at, mark_of}
use Rattle.gh_tree.specs.Depth.{item_depth, header_depth}
use Rattle.gh_tree.specs.Items.{Brace, opening_brace, part_mark, closing_brace, no_brace, brace, TopItem, ended, not_ended, body_items, top_items, IsHeader, IsItem, tops_behind}
use Rattle.gh_tree.specs.Read.{after}
use Rattle.gh_tree.specs.Syms.{cover}
use Rattle.gh_tree.proofs.Cutting.{header_is_cut, item_is_cut}
use Rattle.gh_parser.specs.declared.items.End.{End}
use Rattle.gh_parser.specs.declared.items.End.TheVariants as v_End
use Rattle.gh_parser.specs.declared.items.Part.{Part}
use Rattle.gh_parser.specs.declared.items.Others.{Others}
use Rattle.gh_parser.specs.declared.items.Body.{Body}
use Rattle.gh_parser.specs.Faults.{BodyFault, item_has_no_tree, item_is_too_deep, item_is_tree, FaultWithin, header_has_no_tree, header_is_too_deep, header_is_tree}
use Rattle.gh_parser.specs.Readers.{header_of, item_of}
use Rattle.gh_parser.specs.Parse.{◌>>=◌, no_parse, is_end, end_by, end_of, item_tokens, item_end_of, behind_item, one_more, header_in, item_in, part_by, part_of, others_of, body_of, parsed_by, parsed_within}
use Rattle.gh_parser.proofs.Bind.{value_is, refusal_is, some_value, Reached, reached, Stopped, at_first, at_then, stopped, Limits, no_tree, is_deep, limited_err}
use Rattle.gh_parser.proofs.Ends.{items_behind, header_opens}
use Rattle.gh_parser.proofs.ReadBack.{header_spelled, header_read, item_spelled, item_read}
use Rattle.gh_parser.proofs.SoundFile.{item_is, header_is}

-- ---- the cuts

unended_by : (b : Brace) (a : List Sym) (s : Sym) (rest : List Sym) → end_by b (is_end rest) s ≡ None → item_cut_at b a s rest ≡ not_ended (a ++ s ∷ rest) ∷ []
unended_by opening_brace a s rest e = refl
unended_by part_mark a s rest e = absurd (cc)
unended_by closing_brace a s [] e = absurd (cc)
unended_by closing_brace a s (t ∷ ts) e = refl
unended_by no_brace a s rest e = refl

unended_cut : (a b : List Sym) → end_of b ≡ None → item_cut a b ≡ not_ended (a ++ b) ∷ []
unended_cut a [] e = ap (λ us. not_ended us ∷ []) (sym (append-nil a))
unended_cut a (s ∷ rest) e = unended_by (brace s.kind) a s rest e

ended_by : (b : Brace) (a : List Sym) (s : Sym) (rest : List Sym) (e : End) → end_by b (is_end rest) s ≡ Some e → item_cut_at b a s rest ≡ ended a ∷ items_behind e rest
ended_by opening_brace a s rest e found = absurd (cc)
ended_by part_mark a s rest e found = ap (λ e. ended a ∷ items_behind e rest) (some_value (v_End.Parted (mark_of s)) e found)
ended_by closing_brace a s [] e found = ap (λ e. ended a ∷ items_behind e []) (some_value (v_End.Closed (mark_of s)) e found)
ended_by closing_brace a s (t ∷ ts) e found = absurd (cc)
ended_by no_brace a s rest e found = absurd (cc)

ended_cut : (a b : List Sym) (e : End) → end_of b ≡ Some e → item_cut a b ≡ ended a ∷ items_behind e (after b)
ended_cut a [] e found = absurd (cc)
ended_cut a (s ∷ rest) e found = ended_by (brace s.kind) a s rest e found

first_unended : (ss : List Sym) → item_end_of ss ≡ None → body_items ss 0 ≡ not_ended ss ∷ []
unfolding item_end_of
first_unended ss e =
    item_is_cut ss ∙ unended_cut (take (item_size ss 0) ss) (drop (item_size ss 0) ss) e ∙ ap (λ us. not_ended us ∷ []) (take-append-drop (item_size ss 0) ss)

first_ended : (ss : List Sym) (e : End) → item_end_of ss ≡ Some e → body_items ss 0 ≡ ended (item_tokens ss) ∷ items_behind e (behind_item ss)
unfolding item_end_of item_tokens behind_item
first_ended ss e found = item_is_cut ss ∙ ended_cut (take (item_size ss 0) ss) (drop (item_size ss 0) ss) e found

-- ---- one item

no_item : (tops : Bool) (ss : List Sym) → (x : Item) → IsItem tops (not_ended ss) x → ⊥
no_item tops ss x is = let e : false ≡ true = is.0 in absurd (cc)

unended_fault : (limit : ℕ) (tops : Bool) (ss : List Sym) (r : Refusal) → item_end_of ss ≡ None → r ≡ no_parse ss → BodyFault limit tops (body_items ss 0) r
unended_fault limit tops ss r e is =
    subst (λ is. BodyFault limit tops is r) (sym (first_unended ss e))
    (subst (BodyFault limit tops (not_ended ss ∷ [])) (sym is) (item_has_no_tree tops (not_ended ss) [] (λ x is. absurd (no_item tops ss x is))))

item_limits : (limit : ℕ) (tops : Bool) (ss : List Sym) (is : List TopItem) (r : Refusal) → Limits limit item_depth ss (item_of tops ss) r → BodyFault limit tops (ended ss ∷ is) r
item_limits limit tops ss is r (no_tree none same) =
    subst (BodyFault limit tops (ended ss ∷ is)) (sym same)
    (item_has_no_tree tops (ended ss) is (λ x s. let read = item_read tops ss x (s.1, s.2, s.3) in absurd (cc)))
item_limits limit tops ss is r (is_deep x read deep same) =
    let s = item_spelled tops ss x read in
    subst (BodyFault limit tops (ended ss ∷ is)) (sym same) (item_is_too_deep tops (ended ss) is x (refl, s.0, s.1, s.2) deep)

item_fault : (limit : ℕ) (tops : Bool) (ss : List Sym) (is : List TopItem) (r : Refusal) → item_in limit tops ss ≡ Err r → BodyFault limit tops (ended ss ∷ is) r
unfolding item_in
item_fault limit tops ss is r e = item_limits limit tops ss is r (limited_err limit item_depth ss (item_of tops ss) r e)

part_fault_by : (limit : ℕ) (tops : Bool) (ss : List Sym) (o : Option End) (r : Refusal) → item_end_of ss ≡ o → part_by limit o tops ss ≡ Err r → BodyFault limit tops (body_items ss 0) r
part_fault_by limit tops ss None r ends e = unended_fault limit tops ss r ends (sym (refusal_is (no_parse ss) r e))
part_fault_by limit tops ss (Some end) r ends e =
    subst (λ is. BodyFault limit tops is r) (sym (first_ended ss end ends)) (by_item (stopped (item_in limit tops (item_tokens ss)) part r e))
  where
    part : Item → Result Part Refusal
    part x = Ok (record { item = x; end = end })

    by_item : Stopped (item_in limit tops (item_tokens ss)) part r → BodyFault limit tops (ended (item_tokens ss) ∷ items_behind end (behind_item ss)) r
    by_item (at_first h) = item_fault limit tops (item_tokens ss) (items_behind end (behind_item ss)) r h
    by_item (at_then x h i) = absurd (cc)

pub part_fault : (limit : ℕ) (tops : Bool) (ss : List Sym) (r : Refusal) → part_of limit tops ss ≡ Err r → BodyFault limit tops (body_items ss 0) r
unfolding part_of
part_fault limit tops ss r e = part_fault_by limit tops ss (item_end_of ss) r refl e

-- behind an item that is a tree's, the fault lies among the others
later_by : (limit : ℕ) (tops : Bool) (ss : List Sym) (o : Option End) (p : Part) (r : Refusal) → item_end_of ss ≡ o → part_by limit o tops ss ≡ Ok p
    → BodyFault limit (tops_behind tops p.item) (items_behind p.end (behind_item ss)) r → BodyFault limit tops (body_items ss 0) r
later_by limit tops ss None p r ends e fault = absurd (cc)
later_by limit tops ss (Some end) p r ends e fault = by_item (reached (item_in limit tops (item_tokens ss)) part p e)
  where
    part : Item → Result Part Refusal
    part x = Ok (record { item = x; end = end })

    by_item : Reached (item_in limit tops (item_tokens ss)) part p → BodyFault limit tops (body_items ss 0) r
    by_item h =
        let is_part : record { item = h.x; end = end } ≡ p = value_is (record { item = h.x; end = end }) p h.then in
        let read = item_is limit tops (item_tokens ss) h.x h.first in
        let at : BodyFault limit (tops_behind tops h.x) (items_behind end (behind_item ss)) r =
        subst (λ (q : Part). BodyFault limit (tops_behind tops q.item) (items_behind q.end (behind_item ss)) r) (sym is_part) fault in
        subst (λ is. BodyFault limit tops is r) (sym (first_ended ss end ends))
        (item_is_tree tops (ended (item_tokens ss)) (items_behind end (behind_item ss)) h.x r (refl, read.0.0, read.0.1, read.0.2) read.1 at)

later_fault : (limit : ℕ) (tops : Bool) (ss : List Sym) (p : Part) (r : Refusal) → part_of limit tops ss ≡ Ok p
    → BodyFault limit (tops_behind tops p.item) (items_behind p.end (behind_item ss)) r → BodyFault limit tops (body_items ss 0) r
unfolding part_of
later_fault limit tops ss p r e fault = later_by limit tops ss (item_end_of ss) p r refl e fault

-- ---- the others

no_tokens : (ss : List Sym) → length ss ≤ 0 → item_end_of ss ≡ None
unfolding item_end_of
no_tokens [] le = refl
no_tokens (s ∷ ss) le = absurd (omega (arith, le))

after_fewer : (ss : List Sym) (n : ℕ) → length ss ≤ suc n → length (after ss) ≤ n
after_fewer [] n le = omega arith
after_fewer (s ∷ ss) n le = omega (arith, le)

behind_fewer : (ss : List Sym) (n : ℕ) → length ss ≤ suc n → length (behind_item ss) ≤ n
unfolding behind_item
behind_fewer ss n le = after_fewer (drop (item_size ss 0) ss) n (let e : length (drop (item_size ss 0) ss) ≡ length ss - item_size ss 0 = length-drop (item_size ss 0) ss in omega (arith, e, le))

pub others_fault : (limit n : ℕ) (tops : Bool) (e : End) (ss : List Sym) (r : Refusal) → length ss ≤ n → others_of limit n tops e ss ≡ Err r → BodyFault limit tops (items_behind e ss) r
unfolding others_of
others_fault limit zero tops (v_End.Closed m) ss r fuel e = absurd (cc)
others_fault limit zero tops (v_End.Parted m) ss r fuel e = unended_fault limit tops ss r (no_tokens ss fuel) (sym (refusal_is (no_parse ss) r e))
others_fault limit (suc n) tops (v_End.Closed m) ss r fuel e = absurd (cc)
others_fault limit (suc n) tops (v_End.Parted m) ss r fuel e =
    by_part (stopped (part_of limit tops ss) rest_of r e) (λ p. others_fault limit n (tops_behind tops p.item) p.end (behind_item ss) r (behind_fewer ss n fuel))
  where
    others : Part → Result Others Refusal
    others p = others_of limit n (tops_behind tops p.item) p.end (behind_item ss)

    joined : Part → Others → Result Others Refusal
    joined p o = Ok (one_more m p.item o)

    rest_of : Part → Result Others Refusal
    rest_of p = others p >>= joined p

    Next : Part → Type 0
    Next p = others p ≡ Err r → BodyFault limit (tops_behind tops p.item) (items_behind p.end (behind_item ss)) r

    by_others : (p : Part) → Stopped (others p) (joined p) r → Next p → BodyFault limit (tops_behind tops p.item) (items_behind p.end (behind_item ss)) r
    by_others p (at_first h) next = next h
    by_others p (at_then o h i) next = absurd (cc)

    by_part : Stopped (part_of limit tops ss) rest_of r → ((p : Part) → Next p) → BodyFault limit tops (body_items ss 0) r
    by_part (at_first h) next = part_fault limit tops ss r h
    by_part (at_then p h i) next = later_fault limit tops ss p r h (by_others p (stopped (others p) (joined p) r i) (next p))

-- ---- the body and the file

body_fault : (limit : ℕ) (ss : List Sym) (r : Refusal) → body_of limit ss ≡ Err r → BodyFault limit false (body_items ss 0) r
unfolding body_of
body_fault limit ss r e = by_part (stopped (part_of limit false ss) rest_of r e)
  where
    others : Part → Result Others Refusal
    others p = others_of limit (length (behind_item ss)) (tops_behind false p.item) p.end (behind_item ss)

    joined : Part → Others → Result Body Refusal
    joined p o = Ok (record { first = p.item; others = o.found; close = o.close })

    rest_of : Part → Result Body Refusal
    rest_of p = others p >>= joined p

    by_others : (p : Part) → Stopped (others p) (joined p) r → BodyFault limit (tops_behind false p.item) (items_behind p.end (behind_item ss)) r
    by_others p (at_first h) = others_fault limit (length (behind_item ss)) (tops_behind false p.item) p.end (behind_item ss) r (omega arith) h
    by_others p (at_then o h i) = absurd (cc)

    by_part : Stopped (part_of limit false ss) rest_of r → BodyFault limit false (body_items ss 0) r
    by_part (at_first h) = part_fault limit false ss r h
    by_part (at_then p h i) = later_fault limit false ss p r h (by_others p (stopped (others p) (joined p) r i))

no_header : (ss : List Sym) (h : Option Header) → IsHeader (not_ended ss) h → ⊥
no_header ss h is = let e : false ≡ true = is.0 in absurd (cc)

header_limits : (limit : ℕ) (ss : List Sym) (is : List TopItem) (r : Refusal) → Limits limit header_depth ss (header_of ss) r → FaultWithin limit (ended ss ∷ is) r
header_limits limit ss is r (no_tree none same) =
    subst (FaultWithin limit (ended ss ∷ is)) (sym same)
    (header_has_no_tree (ended ss) is (λ h s. let read = header_read ss h (s.1, s.2) in absurd (cc)))
header_limits limit ss is r (is_deep h read deep same) =
    let s = header_spelled ss h read in
    subst (FaultWithin limit (ended ss ∷ is)) (sym same) (header_is_too_deep (ended ss) is h (refl, s.0, s.1) deep)

header_fault : (limit : ℕ) (ss : List Sym) (is : List TopItem) (r : Refusal) → header_in limit ss ≡ Err r → FaultWithin limit (ended ss ∷ is) r
unfolding header_in
header_fault limit ss is r e = header_limits limit ss is r (limited_err limit header_depth ss (header_of ss) r e)

opened_cut : (b : Brace) (a : List Sym) (s : Sym) (rest : List Sym) → b ≡ opening_brace → header_cut_at b a s rest ≡ ended a ∷ body_items rest 0
opened_cut b a s rest e = ap (λ b. header_cut_at b a s rest) e

by_rest : (limit : ℕ) (ss front us : List Sym) (r : Refusal) → front ++ us ≡ ss → top_items ss ≡ header_cut front us → ((s : Sym) (rest : List Sym) → us ≡ s ∷ rest → brace s.kind ≡ opening_brace)
    → parsed_by limit front us ss ≡ Err r → FaultWithin limit (top_items ss) r
by_rest limit ss front [] r is cut opens e =
    let whole : front ≡ ss = sym (append-nil front) ∙ is in
    subst (λ is. FaultWithin limit is r) (sym (cut ∙ ap (λ us. not_ended us ∷ []) whole))
    (subst (FaultWithin limit (not_ended ss ∷ [])) (refusal_is (no_parse ss) r e) (header_has_no_tree (not_ended ss) [] (no_header ss)))
by_rest limit ss front (s ∷ rest) r is cut opens e =
    subst (λ is. FaultWithin limit is r) (sym (cut ∙ opened_cut (brace s.kind) front s rest (opens s rest refl)))
    (by_header (stopped (header_in limit front) rest_of r e))
  where
    tree : Option Header → Body → Result ModuleTree Refusal
    tree h b = Ok (record { span = cover ss; header = h; «open» = mark_of s; first = b.first; others = b.others; close = b.close })

    rest_of : Option Header → Result ModuleTree Refusal
    rest_of h = body_of limit rest >>= tree h

    by_body : (h : Option Header) → Stopped (body_of limit rest) (tree h) r → BodyFault limit false (body_items rest 0) r
    by_body h (at_first i) = body_fault limit rest r i
    by_body h (at_then b i j) = absurd (cc)

    by_header : Stopped (header_in limit front) rest_of r → FaultWithin limit (ended front ∷ body_items rest 0) r
    by_header (at_first h) = header_fault limit front (body_items rest 0) r h
    by_header (at_then h i j) =
        let read = header_is limit front h i in
        header_is_tree (ended front) (body_items rest 0) h r (refl, read.0.0, read.0.1) read.1 (by_body h (stopped (body_of limit rest) (tree h) r j))

pub parsed_fault : (limit : ℕ) (ss : List Sym) (r : Refusal) → parsed_within limit ss ≡ Err r → FaultWithin limit (top_items ss) r
unfolding parsed_within
parsed_fault limit ss r e =
    let n : ℕ = header_size ss in
    by_rest limit ss (take n ss) (drop n ss) r (take-append-drop n ss) (header_is_cut ss) (header_opens ss) e
