-- The loop over the items of a body.
use Rattle.std.proofs.Common.{◌≡◌, ℕ, zero, suc, ◌-◌, ◌+◌, ◌<◌, ◌≤◌, Bool, List, [], ◌∷◌, ◌++◌, length, take, drop, Option, Some, None, Result, Ok, Err, refl, sym, ap, ◌∙◌, subst, arith, append-nil, append_assoc}
use Rattle.std.proofs.Math.Seq.{take-length}
use Rattle.std.proofs.lemmas.List.{length-drop}
use Rattle.gh_base.specs.declared.refusal.Fault.{Fault}
use Rattle.gh_base.specs.declared.refusal.Fault.TheVariants as fault
use Rattle.gh_base.specs.declared.refusal.Refusal.{Refusal}
use Rattle.gh_tree.specs.declared.names.BlockMark.{BlockMark}
use Rattle.gh_tree.specs.declared.symbol.Sym.{Sym}
use Rattle.gh_tree.specs.declared.module_tree.Item.{Item}
use Rattle.gh_tree.specs.declared.module_tree.NextItem.{NextItem}
use Rattle.gh_tree.specs.Cut.{item_size}
use Rattle.gh_tree.specs.Items.{tops_behind}
use Rattle.gh_parser.specs.declared.items.End.{End}
use Rattle.gh_parser.specs.declared.items.End.TheVariants as v_End
use Rattle.gh_parser.specs.declared.items.Part.{Part}
use Rattle.gh_parser.specs.declared.items.Others.{Others}
use Rattle.gh_parser.specs.Gives.{Fails}
use Rattle.gh_parser.specs.Parse.{◌>>=◌, no_parse, end_of, item_tokens, item_end_of, behind_item, no_others, one_more, item_in, part_by, part_of, others_of}

-- a refusal of the first is one of the whole
pub fails_first : {A B : Type 0} (e : Fault) (r : Result A Refusal) (f : A → Result B Refusal) → Fails e r → Fails e (r >>= f)
fails_first (fault.Refused x) r f e = ap (λ r. r >>= f) e
fails_first fault.NoMemory r f e = tt

-- ---- one item

-- a slice from a place on
pub slice_from : (n : ℕ) (ss : List Sym) → take (length ss - n) (drop n ss) ≡ drop n ss
slice_from n ss = ap (λ k. take k (drop n ss)) (sym (length-drop n ss)) ∙ take-length (drop n ss)

pub part_is : (limit : ℕ) (tops : Bool) (ss : List Sym) (e : End) → item_end_of ss ≡ Some e
    → part_of limit tops ss ≡ (item_in limit tops (item_tokens ss) >>= λ x. Ok (record { item = x; end = e }))
unfolding part_of
part_is limit tops ss e is = ap (λ o. part_by limit o tops ss) is

pub part_unended : (limit : ℕ) (tops : Bool) (ss : List Sym) → item_end_of ss ≡ None → part_of limit tops ss ≡ Err (no_parse ss)
unfolding part_of
part_unended limit tops ss is = ap (λ o. part_by limit o tops ss) is

pub unended_fails : (limit : ℕ) (tops : Bool) (ss us : List Sym) (size : ℕ) (o : Option End) (f : Fault) → size ≡ item_size ss 0 → us ≡ drop size ss
    → o ≡ end_of us → o ≡ None → f ≡ fault.Refused (no_parse ss) → Fails f (part_of limit tops ss)
unfolding item_end_of
unended_fails limit tops ss us size o f count rest at none is =
    let e : item_end_of ss ≡ None = ap (λ n. end_of (drop n ss)) (sym count) ∙ ap end_of (sym rest) ∙ sym at ∙ none in
    subst (λ g. Fails g (part_of limit tops ss)) (sym is) (part_unended limit tops ss e)

abbrev Ends : List Sym → ℕ → List Sym → Option End → End → Type 0
Ends ss size us o e = (size ≡ item_size ss 0) × (us ≡ drop size ss) × (o ≡ end_of us) × (o ≡ Some e)

end_found : (ss us : List Sym) (size : ℕ) (o : Option End) (e : End) → size ≡ item_size ss 0 → us ≡ drop size ss → o ≡ end_of us → o ≡ Some e → item_end_of ss ≡ Some e
unfolding item_end_of
end_found ss us size o e count rest at some = ap (λ n. end_of (drop n ss)) (sym count) ∙ ap end_of (sym rest) ∙ sym at ∙ some

pub item_fails : (limit : ℕ) (tops : Bool) (ss us front : List Sym) (size : ℕ) (o : Option End) (e : End) (f : Fault) → size ≡ item_size ss 0 → us ≡ drop size ss
    → o ≡ end_of us → o ≡ Some e → front ≡ item_tokens ss → Fails f (item_in limit tops front) → Fails f (part_of limit tops ss)
item_fails limit tops ss us front size o e f count rest at some same fails =
    subst (Fails f) (sym (part_is limit tops ss e (end_found ss us size o e count rest at some)))
    (fails_first f (item_in limit tops (item_tokens ss)) (λ x. Ok (record { item = x; end = e })) (subst (λ t. Fails f (item_in limit tops t)) same fails))

pub item_found : (limit : ℕ) (tops : Bool) (ss us front : List Sym) (size : ℕ) (o : Option End) (e : End) (x : Item) → size ≡ item_size ss 0 → us ≡ drop size ss
    → o ≡ end_of us → o ≡ Some e → front ≡ item_tokens ss → item_in limit tops front ≡ Ok x → part_of limit tops ss ≡ Ok (record { item = x; end = e })
item_found limit tops ss us front size o e x count rest at some same found =
    part_is limit tops ss e (end_found ss us size o e count rest at some)
    ∙ ap (λ t. item_in limit tops t >>= λ x. Ok (record { item = x; end = e })) (sym same) ∙ ap (λ r. r >>= λ x. Ok (record { item = x; end = e })) found

-- ---- the others

abbrev pub with_found : List NextItem → Result Others Refusal → Result Others Refusal
with_found xs (Ok o) = Ok (record { found = xs ++ o.found; close = o.close })
with_found xs (Err r) = Err r

with_none : (r : Result Others Refusal) → r ≡ with_found [] r
with_none (Ok o) = refl
with_none (Err r) = refl

with_more : (xs : List NextItem) (m : BlockMark) (x : Item) (r : Result Others Refusal)
    → with_found xs (r >>= λ o. Ok (one_more m x o)) ≡ with_found (xs ++ record { mark = m; item = x } ∷ []) r
with_more xs m x (Ok o) = ap (λ ys. Ok (record { found = ys; close = o.close })) (sym (append_assoc xs (record { mark = m; item = x } ∷ []) o.found))
with_more xs m x (Err r) = refl

pub others_closed : (limit n : ℕ) (tops : Bool) (m : BlockMark) (ss : List Sym) → others_of limit n tops (v_End.Closed m) ss ≡ Ok (no_others m)
unfolding others_of
others_closed limit zero tops m ss = refl
others_closed limit (suc n) tops m ss = refl

pub others_step : (limit n : ℕ) (tops : Bool) (m : BlockMark) (ss : List Sym) → others_of limit (suc n) tops (v_End.Parted m) ss
    ≡ (part_of limit tops ss >>= λ p. others_of limit n (tops_behind tops p.item) p.end (behind_item ss) >>= λ o. Ok (one_more m p.item o))
unfolding others_of
others_step limit n tops m ss = refl

pub begin : (limit n : ℕ) (tops : Bool) (e : End) (found : List NextItem) (ss : List Sym) → n ≡ length ss → found ≡ []
    → others_of limit (length ss) tops e ss ≡ with_found found (others_of limit (n - 0) tops e ss)
begin limit n tops e found ss count none =
    let turns : length ss ≡ n - 0 = omega arith in
    ap (λ m. others_of limit m tops e ss) turns ∙ with_none (others_of limit (n - 0) tops e ss) ∙ ap (λ xs. with_found xs (others_of limit (n - 0) tops e ss)) (sym none)

pub more : (limit n at : ℕ) (all : Result Others Refusal) (tops tops' : Bool) (e : End) (m : BlockMark) (p : Part) (found : List NextItem) (ss ss' : List Sym) → at < n → e ≡ v_End.Parted m
    → part_of limit tops ss ≡ Ok p → ss' ≡ behind_item ss → tops' ≡ tops_behind tops p.item
    → all ≡ with_found found (others_of limit (n - at) tops e ss)
    → all ≡ with_found (found ++ record { mark = m; item = p.item } ∷ []) (others_of limit (n - (at + 1)) tops' p.end ss')
more limit n at all tops tops' e m p found ss ss' below parted read rest now so_far =
    let turn : n - at ≡ suc (n - (at + 1)) = omega arith in
    so_far ∙ ap (λ k. with_found found (others_of limit k tops e ss)) turn ∙ ap (λ e. with_found found (others_of limit (suc (n - (at + 1))) tops e ss)) parted
    ∙ ap (with_found found) (others_step limit (n - (at + 1)) tops m ss
    ∙ ap (λ r. r >>= λ p. others_of limit (n - (at + 1)) (tops_behind tops p.item) p.end (behind_item ss) >>= λ o. Ok (one_more m p.item o)) read)
    ∙ with_more found m p.item (others_of limit (n - (at + 1)) (tops_behind tops p.item) p.end (behind_item ss))
    ∙ ap (λ us. with_found (found ++ record { mark = m; item = p.item } ∷ []) (others_of limit (n - (at + 1)) (tops_behind tops p.item) p.end us)) (sym rest)
    ∙ ap (λ t. with_found (found ++ record { mark = m; item = p.item } ∷ []) (others_of limit (n - (at + 1)) t p.end ss')) (sym now)

with_fails : (e : Fault) (xs : List NextItem) (r : Result Others Refusal) → Fails e r → Fails e (with_found xs r)
with_fails (fault.Refused x) xs r f = ap (with_found xs) f
with_fails fault.NoMemory xs r f = tt

pub part_fails : (limit n at : ℕ) (f : Fault) (all : Result Others Refusal) (tops : Bool) (e : End) (m : BlockMark) (found : List NextItem) (ss : List Sym) → at < n → e ≡ v_End.Parted m
    → Fails f (part_of limit tops ss) → all ≡ with_found found (others_of limit (n - at) tops e ss) → Fails f all
part_fails limit n at f all tops e m found ss below parted fails so_far =
    let turn : n - at ≡ suc (n - (at + 1)) = omega arith in
    let step : others_of limit (n - at) tops e ss ≡ (part_of limit tops ss >>= λ p. others_of limit (n - (at + 1)) (tops_behind tops p.item) p.end (behind_item ss) >>= λ o. Ok (one_more m p.item o)) =
    ap (λ k. others_of limit k tops e ss) turn ∙ ap (λ e. others_of limit (suc (n - (at + 1))) tops e ss) parted ∙ others_step limit (n - (at + 1)) tops m ss in
    subst (Fails f) (sym (so_far ∙ ap (with_found found) step)) (with_fails f found _ (fails_first f (part_of limit tops ss) _ fails))

pub closes : (limit n : ℕ) (all : Result Others Refusal) (tops : Bool) (e : End) (m : BlockMark) (found : List NextItem) (ss : List Sym) → e ≡ v_End.Closed m
    → all ≡ with_found found (others_of limit n tops e ss) → all ≡ Ok (record { found = found; close = m })
closes limit n all tops e m found ss closed so_far =
    so_far ∙ ap (λ e. with_found found (others_of limit n tops e ss)) closed ∙ ap (with_found found) (others_closed limit n tops m ss)
    ∙ ap (λ xs. Ok (record { found = xs; close = m })) (append-nil found)

others_out : (limit : ℕ) (tops : Bool) (m : BlockMark) (ss : List Sym) → others_of limit zero tops (v_End.Parted m) ss ≡ Err (no_parse ss)
unfolding others_of
others_out limit tops m ss = refl

pub runs_out : (limit n at : ℕ) (all : Result Others Refusal) (tops : Bool) (e : End) (m : BlockMark) (found : List NextItem) (ss : List Sym) → n ≤ at → e ≡ v_End.Parted m
    → all ≡ with_found found (others_of limit (n - at) tops e ss) → all ≡ Err (no_parse ss)
runs_out limit n at all tops e m found ss done parted so_far =
    let none : n - at ≡ zero = omega arith in
    so_far ∙ ap (λ k. with_found found (others_of limit k tops e ss)) none ∙ ap (λ e. with_found found (others_of limit zero tops e ss)) parted ∙ ap (with_found found) (others_out limit tops m ss)

pub refused_fails : {A : Type 0} (f : Fault) (ss : List Sym) (all : Result A Refusal) → f ≡ fault.Refused (no_parse ss) → all ≡ Err (no_parse ss) → Fails f all
refused_fails f ss all is e = subst (λ g. Fails g all) (sym is) e
