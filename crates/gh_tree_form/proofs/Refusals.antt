-- What is refused of a well-formed tree is its first item that is not of the form.
use Rattle.std.proofs.Common.{◌≡◌, Bool, true, false, ◌&&◌, if◌then◌else◌, List, [], ◌∷◌, ◌++◌, map, Option, Some, None, refl, sym, ap, ◌∙◌, subst, append_assoc, append-nil}
use Rattle.gh_base.specs.declared.place.Span.{Span}
use Rattle.gh_bindings.specs.declared.binding.Binding.{Binding}
use Rattle.gh_tree.specs.declared.names.Var.TheVariants as v_Var
use Rattle.gh_tree.specs.declared.patterns.FunLhs.TheVariants as v_FunLhs
use Rattle.gh_tree.specs.declared.expressions.Decl.{Decl, roll-Decl, out-Decl, roll-out-Decl}
use Rattle.gh_tree.specs.declared.expressions.Decl.TheVariants as v_Decl
use Rattle.gh_tree.specs.declared.expressions.Rhs.TheVariants as v_Rhs
use Rattle.gh_tree.specs.declared.expressions.Where.TheVariants as v_Where
use Rattle.gh_tree.specs.declared.expressions.Aexp.TheOpen.{Decl-F}
use Rattle.gh_tree.specs.declared.tops.Top.{Top}
use Rattle.gh_tree.specs.declared.tops.Top.TheVariants as v_Top
use Rattle.gh_tree.specs.declared.module_tree.Header.{Header}
use Rattle.gh_tree.specs.declared.module_tree.Item.{Item}
use Rattle.gh_tree.specs.declared.module_tree.Item.TheVariants as v_Item
use Rattle.gh_tree.specs.declared.module_tree.ModuleTree.{ModuleTree}
use Rattle.gh_tree.specs.declared.module_tree.NextItem.{NextItem}
use Rattle.gh_tree.specs.declared.symbol.Sym.{Sym}
use Rattle.gh_tree.specs.Print.{Print, spanned, good_all, flat, IsWellFormed}
use Rattle.gh_tree.specs.Print as printed
use Rattle.gh_tree.specs.Syms.{cover, same_span}
use Rattle.gh_tree.proofs.Steps.{both, same_span_is}
use Rattle.gh_tree_form.specs.declared.program.Parsed.{Parsed}
use Rattle.gh_tree_form.specs.declared.program.Parsed.TheVariants as parsed
use Rattle.gh_tree_form.specs.Form.{item_form, decl_span_by, decl_span, top_span, item_span, bound_by, going_on, items_form, is_main, header_form, items_of, form_of}
use Rattle.gh_tree_form.specs.Grammar.{IsItem, empty_item, binding_item, AreItems, no_items, more_items, IsHeader, no_header, main_header, AreDifferent, IsRefused, refused_header, refused_item}
use Rattle.gh_tree_form.specs.Layers.{DeclLayer}
use Rattle.gh_tree.proofs.Printed.{printed_decl_signature, printed_decl_fixity, printed_decl_function, printed_decl_pattern}
use Rattle.gh_tree_form.specs.Laws.{BindingsAreSpanned}
use Rattle.gh_tree_form.proofs.Names.{no_true}
use Rattle.gh_tree_form.proofs.Shapes.{span_function}
use Rattle.gh_tree_form.proofs.Backward.{bound_back, through, header_back, main_back}
use Rattle.gh_tree_form.proofs.Forward.{Added, added, main_is}

-- ---- the bytes of an item are those of its tokens

spanned_is : (span : Span) (flat : List Sym) (good : Bool) → (spanned span flat good).good ≡ true → span ≡ cover flat
spanned_is span flat good e = same_span_is span (cover flat) (both good (same_span span (cover flat)) e).1

node_is : (p : Print) (span : Span) (flat : List Sym) (good : Bool) → p ≡ spanned span flat good → p.good ≡ true → span ≡ cover p.flat
node_is p span flat good is e = spanned_is span flat good (sym (ap (λ (q : Print). q.good) is) ∙ e) ∙ sym (ap (λ (q : Print). cover q.flat) is)

decl_span_at : (y : DeclLayer) → (printed.decl (roll-Decl y)).good ≡ true → decl_span_by y ≡ cover (printed.decl (roll-Decl y)).flat
decl_span_at (Decl-F.Signature s v vs m t) e =
    node_is (printed.decl (roll-Decl (Decl-F.Signature s v vs m t))) s _ _ (ap printed.decl (v_Decl.rolls-Signature s v vs m t) ∙ printed_decl_signature s v vs m t) e
decl_span_at (Decl-F.Fixity s w l o os) e =
    node_is (printed.decl (roll-Decl (Decl-F.Fixity s w l o os))) s _ _ (ap printed.decl (v_Decl.rolls-Fixity s w l o os) ∙ printed_decl_fixity s w l o os) e
decl_span_at (Decl-F.Function s l r) e =
    node_is (printed.decl (roll-Decl (Decl-F.Function s l r))) s _ _ (ap printed.decl (v_Decl.rolls-Function s l r) ∙ printed_decl_function s l r) e
decl_span_at (Decl-F.Pattern s p r) e =
    node_is (printed.decl (roll-Decl (Decl-F.Pattern s p r))) s _ _ (ap printed.decl (v_Decl.rolls-Pattern s p r) ∙ printed_decl_pattern s p r) e

decl_span_is : (x : Decl) → (printed.decl x).good ≡ true → decl_span x ≡ cover (printed.decl x).flat
unfolding decl_span
decl_span_is x e =
    decl_span_at (out-Decl x) (ap (λ (z : Decl). (printed.decl z).good) (roll-out-Decl x) ∙ e) ∙ ap (λ (z : Decl). cover (printed.decl z).flat) (roll-out-Decl x)

top_span_is : (x : Top) → (printed.top x).good ≡ true → top_span x ≡ cover (printed.top x).flat
top_span_is (v_Top.Synonym s a n ps m t) e = node_is (printed.top (v_Top.Synonym s a n ps m t)) s _ _ refl e
top_span_is (v_Top.Data s a n ps m c cs) e = node_is (printed.top (v_Top.Data s a n ps m c cs)) s _ _ refl e
top_span_is (v_Top.Newtype s a n ps m c t) e = node_is (printed.top (v_Top.Newtype s a n ps m c t)) s _ _ refl e
top_span_is (v_Top.Signature s v vs m c t) e = node_is (printed.top (v_Top.Signature s v vs m c t)) s _ _ refl e
top_span_is (v_Top.Case s v a t b ps r) e = node_is (printed.top (v_Top.Case s v a t b ps r)) s _ _ refl e
top_span_is (v_Top.Extends s v m w) e = node_is (printed.top (v_Top.Extends s v m w)) s _ _ refl e
top_span_is (v_Top.Decl d) e = decl_span_is d e

item_span_is : (x : Item) → (printed.item x).good ≡ true → item_span x ≡ cover (printed.item x).flat
unfolding cover
item_span_is v_Item.Empty e = refl
item_span_is (v_Item.Import x) e = node_is (printed.import_item x) x.span _ _ refl e
item_span_is (v_Item.Top x) e = top_span_is x e

pub bindings_spanned : BindingsAreSpanned
bindings_spanned x bs good empty_item = tt
bindings_spanned x bs good (binding_item s l r m n e os i j) =
    (sym (span_function s (v_FunLhs.Prefix l (v_Var.Word n) []) (v_Rhs.Plain r m e v_Where.Absent)) ∙ item_span_is x good, tt)

header_span_is : (h : Header) → (printed.header (Some h)).good ≡ true → h.span ≡ cover (printed.header (Some h)).flat
header_span_is h e = node_is (printed.header (Some h)) h.span _ _ refl e

-- ---- the parts of a well-formed file are well formed

abbrev AllGood : List Item → Type 0
AllGood [] = Unit {0}
AllGood (x ∷ xs) = ((printed.item x).good ≡ true) × AllGood xs

others_good : (xs : List NextItem) → good_all (map printed.next_item xs) ≡ true → AllGood (map (λ x. x.item) xs)
others_good [] e = tt
others_good (x ∷ xs) e = let p = both (printed.item x.item).good (good_all (map printed.next_item xs)) e in (p.0, others_good xs p.1)

good_at : (before : List Item) (x : Item) (after : List Item) → AllGood (before ++ x ∷ after) → (printed.item x).good ≡ true
good_at [] x after g = g.0
good_at (y ∷ ys) x after g = good_at ys x after g.1

record AreGood (t : ModuleTree) : Type 0 where
  header : (printed.header t.header).good ≡ true
  items : AllGood (items_of t)

parts_good : (t : ModuleTree) → IsWellFormed t → AreGood t
parts_good t w =
    let head = (printed.header t.header).good in
    let first = (printed.item t.first).good in
    let others = good_all (map printed.next_item t.others) in
    let ordered = printed.imports_first t.first t.others in
    let p = both (head && (first && (others && ordered))) (same_span t.span (cover (flat t))) w in
    let q = both head (first && (others && ordered)) p.0 in
    let r = both first (others && ordered) q.1 in
    record { header = q.0; items = (r.0, others_good t.others (both others ordered r.1).0) }

-- ---- what is refused is the first item that is not of the form

items_push : (xs : List Item) (x : Item) (bs cs : List Binding) → AreItems xs bs → IsItem x cs → AreItems (xs ++ x ∷ []) (bs ++ cs)
items_push xs x bs cs no_items i = subst (AreItems (x ∷ [])) (append-nil cs) (more_items x [] cs [] i no_items)
items_push xs x bs cs (more_items y ys ds es j k) i =
    subst (AreItems (y ∷ (ys ++ x ∷ []))) (sym (append_assoc ds es cs)) (more_items y (ys ++ x ∷ []) ds (es ++ cs) j (items_push ys x es cs k i))

same_bad : (a b : Span) → parsed.Bad a ≡ parsed.Bad b → a ≡ b
same_bad a b h = cc

program_bad : (bs : List Binding) (s : Span) → parsed.Program bs ≡ parsed.Bad s → ⊥
program_bad bs s h = cc

some_none : (bs : List Binding) → let some : Option (List Binding) = Some bs in some ≡ None → ⊥
some_none bs h = cc

not_bound : (x : Item) (bs : List Binding) → bound_by bs (item_form x) ≡ None → (new : List Binding) → IsItem x new → AreDifferent (bs ++ new) → ⊥
not_bound x bs e new i d =
    let bound : bound_by bs (item_form x) ≡ Some (bs ++ new) = bound_back x bs new [] i (subst (λ l. AreDifferent (bs ++ l)) (sym (append-nil new)) d) in
    some_none (bs ++ new) (sym bound ∙ e)

refused_at : (t : ModuleTree) (s : Span) (before : List Item) (x : Item) (xs : List Item) (known : List Binding) → IsHeader t.header → items_of t ≡ before ++ x ∷ xs → AreItems before known
    → AreDifferent known → (printed.item x).good ≡ true → ((more : List Binding) → Added x known more → items_form more xs ≡ parsed.Bad s → IsRefused t s) → (m : Option (List Binding))
    → bound_by known (item_form x) ≡ m → going_on m (parsed.Bad (item_span x)) (λ more. items_form more xs) ≡ parsed.Bad s → IsRefused t s
refused_at t s before x xs known head is items differ good ih None e h =
    subst (IsRefused t) (sym (item_span_is x good) ∙ same_bad (item_span x) s h) (refused_item before x xs known head is items differ (not_bound x known e))
refused_at t s before x xs known head is items differ good ih (Some more) e h = ih more (added x known more e) h

refused_of : (t : ModuleTree) (s : Span) (before xs : List Item) (known : List Binding) → IsHeader t.header → items_of t ≡ before ++ xs → AreItems before known → AreDifferent known
    → AllGood xs → items_form known xs ≡ parsed.Bad s → IsRefused t s
refused_of t s before [] known head is items differ good h = absurd (program_bad known s h)
refused_of t s before (x ∷ xs) known head is items differ good h =
    refused_at t s before x xs known head is items differ good.0
    (λ more a f. refused_of t s (before ++ x ∷ []) xs more head (is ∙ sym (append_assoc before (x ∷ []) xs))
    (subst (AreItems (before ++ x ∷ [])) (sym a.is) (items_push before x known a.new items a.item)) (a.differ differ) good.1 f)
    (bound_by known (item_form x)) refl h

body_refused : (t : ModuleTree) (s : Span) → IsHeader t.header → AllGood (items_of t) → items_form [] (items_of t) ≡ parsed.Bad s → IsRefused t s
body_refused t s head good h = refused_of t s [] (items_of t) [] head refl no_items tt good h

no_main : (h : Header) → is_main h ≡ false → IsHeader (Some h) → ⊥
no_main h e (main_header s m w n p f) = no_true (sym (main_back s m w n p f) ∙ e)

main_known : (t : ModuleTree) (s : Span) (h : Header) (b : Bool) → t.header ≡ Some h → AreGood t → is_main h ≡ b
    → (if b then items_form [] (items_of t) else parsed.Bad h.span) ≡ parsed.Bad s → IsRefused t s
main_known t s h true is good e f = body_refused t s (subst IsHeader (sym is) (main_is h e)) good.items f
main_known t s h false is good e f =
    let g : (printed.header (Some h)).good ≡ true = subst (λ x. (printed.header x).good ≡ true) is good.header in
    subst (IsRefused t) (ap (λ x. cover (printed.header x).flat) is ∙ sym (header_span_is h g) ∙ same_bad h.span s f)
    (refused_header (λ i. no_main h e (subst IsHeader is i)))

header_refused : (t : ModuleTree) (s : Span) (m : Option Header) → t.header ≡ m → AreGood t → header_form m (items_form [] (items_of t)) ≡ parsed.Bad s → IsRefused t s
header_refused t s None is good h = body_refused t s (subst IsHeader (sym is) no_header) good.items h
header_refused t s (Some x) is good h = main_known t s x (is_main x) is good refl h

pub refusal_is : (t : ModuleTree) (s : Span) → IsWellFormed t → form_of t ≡ parsed.Bad s → IsRefused t s
unfolding form_of
refusal_is t s w h = header_refused t s t.header refl (parts_good t w) h

-- ---- and it is refused

refused_by : (x : Item) (after : List Item) (bs : List Binding) (m : Option (List Binding)) → AreDifferent bs → ((new : List Binding) → IsItem x new → AreDifferent (bs ++ new) → ⊥)
    → bound_by bs (item_form x) ≡ m → going_on m (parsed.Bad (item_span x)) (λ more. items_form more after) ≡ parsed.Bad (item_span x)
refused_by x after bs None differ never e = refl
refused_by x after bs (Some more) differ never e = let a = added x bs more e in absurd (never a.new a.item (subst AreDifferent a.is (a.differ differ)))

main_refused : (h : Header) (body : Parsed) (b : Bool) → (IsHeader (Some h) → ⊥) → is_main h ≡ b → (if b then body else parsed.Bad h.span) ≡ parsed.Bad h.span
main_refused h body true never e = absurd (never (main_is h e))
main_refused h body false never e = refl

header_back_bad : (m : Option Header) (body : Parsed) → (IsHeader m → ⊥) → (printed.header m).good ≡ true → header_form m body ≡ parsed.Bad (cover (printed.header m).flat)
header_back_bad None body never g = absurd (never no_header)
header_back_bad (Some h) body never g = main_refused h body (is_main h) never refl ∙ ap parsed.Bad (header_span_is h g)

pub refusal_back : (t : ModuleTree) (s : Span) → IsWellFormed t → IsRefused t s → form_of t ≡ parsed.Bad s
unfolding form_of
refusal_back t s w (refused_header never) = header_back_bad t.header (items_form [] (items_of t)) never (parts_good t w).header
refusal_back t s w (refused_item before x after bs head is items differ never) =
    let good : (printed.item x).good ≡ true = good_at before x after (subst AllGood is (parts_good t w).items) in
    header_back t.header (items_form [] (items_of t)) head
    ∙ ap (items_form []) is
    ∙ through before (x ∷ after) [] bs [] items (subst AreDifferent (sym (append-nil bs)) differ)
    ∙ refused_by x after bs (bound_by bs (item_form x)) differ never refl
    ∙ ap parsed.Bad (item_span_is x good)
