-- A type is read from its text in one way, up to bound names.
use Rattle.std.proofs.Common.{◌≡◌, ◌==◌, true, false, Bool, ℕ, suc, ◌++◌, List, [], ◌∷◌, refl, sym, ap, ◌∙◌, drop, append_assoc}
use Rattle.std.specs.Prelude.{◌&&◌, not, codes, decimal}
use Rattle.std.proofs.lemmas.Fmt.{decimal_injective}
use Rattle.gh_typeterm.specs.declared.kind.Kind.{Kind}
use Rattle.gh_core.specs.Text.{kind_text, type_binder}
use Rattle.gh_core_text.specs.Shown.{Shown, var, con, app, all, any, shown_text, all_plain, has_mark, begins, is_name, IsNamed}
use Rattle.gh_core_text.proofs.KindsRead.{different, kind_reads}
use Rattle.gh_core_text.proofs.Words.{and_left, and_right, not_true, Ends, word_split, append_cancel, plain_decimal}

abbrev Closed : Shown → Type 0
Closed a = (b : Shown) (d : ℕ) (r s : List ℕ) → IsNamed a → IsNamed b → Ends r → Ends s → shown_text a false d ++ r ≡ shown_text b false d ++ s → (a ≡ b) × (r ≡ s)

-- the arguments of a spine, and the type that they make with its head
abbrev args : ℕ → List Shown → List ℕ
args d [] = []
args d (x ∷ xs) = 32 ∷ (shown_text x false d ++ args d xs)

abbrev spine : Shown → List Shown → Shown
spine a [] = a
spine a (x ∷ xs) = spine (app a x) xs

abbrev AllNamed : List Shown → Type 0
AllNamed [] = Unit {0}
AllNamed (x ∷ xs) = IsNamed x × AllNamed xs

abbrev AllClosed : List Shown → Type 0
AllClosed [] = Unit {0}
AllClosed (x ∷ xs) = Closed x × AllClosed xs

abbrev Open : Shown → Type 0
Open a = (b : Shown) (d : ℕ) (xs ys : List Shown) (r s : List ℕ) → IsNamed a → IsNamed b → AllNamed xs → AllNamed ys → AllClosed xs
    → shown_text a true d ++ (args d xs ++ 41 ∷ r) ≡ shown_text b true d ++ (args d ys ++ 41 ∷ s) → (spine a xs ≡ spine b ys) × (r ≡ s)

args_cons : (d : ℕ) (x : Shown) (xs : List Shown) (t : List ℕ) → args d (x ∷ xs) ++ t ≡ 32 ∷ (shown_text x false d ++ (args d xs ++ t))
args_cons d x xs t = ap (λ z. 32 ∷ z) (append_assoc (shown_text x false d) (args d xs) t)

args_end : (d : ℕ) (xs : List Shown) (r : List ℕ) → Ends (args d xs ++ 41 ∷ r)
args_end d [] r = refl
args_end d (x ∷ xs) r = refl

args_read : (d : ℕ) (xs ys : List Shown) (r s : List ℕ) → AllNamed xs → AllNamed ys → AllClosed xs → args d xs ++ 41 ∷ r ≡ args d ys ++ 41 ∷ s → (xs ≡ ys) × (r ≡ s)
args_read d [] [] r s g h q e = (refl, ap (drop 1) e)
args_read d [] (y ∷ ys) r s g h q e = absurd (different 41 32 _ _ e refl)
args_read d (x ∷ xs) [] r s g h q e = absurd (different 32 41 _ _ e refl)
args_read d (x ∷ xs) (y ∷ ys) r s g h q e =
    let all = ap (drop 1) (sym (args_cons d x xs (41 ∷ r)) ∙ e ∙ args_cons d y ys (41 ∷ s)) in
    let one = q.0 y d (args d xs ++ 41 ∷ r) (args d ys ++ 41 ∷ s) g.0 h.0 (args_end d xs r) (args_end d ys s) all in
    let rest = args_read d xs ys r s g.1 h.1 q.1 one.1 in
    ((λ i. one.0 i ∷ rest.0 i), rest.1)

app_open : (f x : Shown) (d : ℕ) (t : List ℕ) → shown_text (app f x) true d ++ t ≡ shown_text f true d ++ 32 ∷ (shown_text x false d ++ t)
app_open f x d t =
    append_assoc (shown_text f true d) (32 ∷ (shown_text x false d ++ [])) t
    ∙ ap (λ z. shown_text f true d ++ 32 ∷ z) (append_assoc (shown_text x false d) [] t)

app_closed : (f x : Shown) (d : ℕ) (t : List ℕ) → shown_text (app f x) false d ++ t ≡ 40 ∷ (shown_text f true d ++ 32 ∷ (shown_text x false d ++ 41 ∷ t))
app_closed f x d t =
    ap (λ z. 40 ∷ z) (append_assoc (shown_text f true d) (32 ∷ (shown_text x false d ++ 41 ∷ [])) t
    ∙ ap (λ z. shown_text f true d ++ 32 ∷ z) (append_assoc (shown_text x false d) (41 ∷ []) t))

binder_open : (d : ℕ) (k : Kind) (t : List ℕ) → type_binder d k ++ t ≡ codes "(t" ++ (decimal d ++ 32 ∷ (kind_text k ++ 41 ∷ t))
binder_open d k t =
    ap (λ z. codes "(t" ++ z) (append_assoc (decimal d) (32 ∷ (kind_text k ++ 41 ∷ [])) t
    ∙ ap (λ z. decimal d ++ 32 ∷ z) (append_assoc (kind_text k) (41 ∷ []) t))

all_open : (k : Kind) (b : Shown) (i : Bool) (d : ℕ) (t : List ℕ)
    → shown_text (all k b) i d ++ t ≡ codes "(forall (t" ++ (decimal d ++ 32 ∷ (kind_text k ++ 41 ∷ (32 ∷ (shown_text b false (suc d) ++ 41 ∷ t))))
all_open k b i d t =
    ap (λ z. codes "(forall " ++ z) (append_assoc (type_binder d k) (32 ∷ (shown_text b false (suc d) ++ 41 ∷ [])) t
    ∙ binder_open d k ((32 ∷ (shown_text b false (suc d) ++ 41 ∷ [])) ++ t)
    ∙ ap (λ z. codes "(t" ++ (decimal d ++ 32 ∷ (kind_text k ++ 41 ∷ (32 ∷ z)))) (append_assoc (shown_text b false (suc d)) (41 ∷ []) t))

any_open : (k : Kind) (i : Bool) (d : ℕ) (t : List ℕ) → shown_text (any k) i d ++ t ≡ codes "(any " ++ (kind_text k ++ 41 ∷ t)
any_open k i d t = ap (λ z. codes "(any " ++ z) (append_assoc (kind_text k) (41 ∷ []) t)

-- the first byte of a name
no_bracket : (c : ℕ) (w : List ℕ) → is_name (c ∷ w) ≡ true → (c == 40) ≡ false
no_bracket c w h = not_true (c == 40) (and_left (not (c == 40)) (not (c == 116)) (and_left (begins c) (all_plain (c ∷ w) && has_mark (c ∷ w)) h))

no_t : (c : ℕ) (w : List ℕ) → is_name (c ∷ w) ≡ true → (c == 116) ≡ false
no_t c w h = not_true (c == 116) (and_right (not (c == 40)) (not (c == 116)) (and_left (begins c) (all_plain (c ∷ w) && has_mark (c ∷ w)) h))

name_plain : (w : List ℕ) → is_name w ≡ true → all_plain w ≡ true
name_plain [] h = absurd (cc)
name_plain (c ∷ w) h = and_left (all_plain (c ∷ w)) (has_mark (c ∷ w)) (and_right (begins c) (all_plain (c ∷ w) && has_mark (c ∷ w)) h)

name_mark : (w : List ℕ) → is_name w ≡ true → has_mark w ≡ true
name_mark [] h = absurd (cc)
name_mark (c ∷ w) h = and_right (all_plain (c ∷ w)) (has_mark (c ∷ w)) (and_right (begins c) (all_plain (c ∷ w) && has_mark (c ∷ w)) h)

-- a name, and a text that begins with another byte than a name can
name_else : (w : List ℕ) (n : ℕ) (r s : List ℕ) → is_name w ≡ true → ((c : ℕ) (v : List ℕ) → is_name (c ∷ v) ≡ true → (c == n) ≡ false) → w ++ r ≡ n ∷ s → ⊥
name_else [] n r s h f e = absurd (cc)
name_else (c ∷ w) n r s h f e = different c n (w ++ r) s e (f c w h)

-- the head of a spine is no word without a mark
no_word : (w : List ℕ) (c : ℕ) (a : Shown) (d : ℕ) (r s : List ℕ) → all_plain (c ∷ w) ≡ true → has_mark (c ∷ w) ≡ false → (116 == c) ≡ false → (40 == c) ≡ false
    → IsNamed a → shown_text a true d ++ 32 ∷ r ≡ (c ∷ w) ++ 32 ∷ s → ⊥
no_word w c (var l) d r s p m t b g e = different 116 c _ _ e t
no_word w c (con v) d r s p m t b g e =
    let h : has_mark v ≡ false = ap has_mark (word_split v (c ∷ w) (32 ∷ r) (32 ∷ s) (name_plain v g) p refl refl e).0 ∙ m in
    let k : has_mark v ≡ true = name_mark v g in
    absurd (cc)
no_word w c (app f x) d r s p m t b g e = no_word w c f d (shown_text x false d ++ 32 ∷ r) s p m t b g.0 (sym (app_open f x d (32 ∷ r)) ∙ e)
no_word w c (all k x) d r s p m t b g e = different 40 c _ _ e b
no_word w c (any k) d r s p m t b g e = different 40 c _ _ e b

-- ---- each form against each

var_closed : (l : ℕ) → Closed (var l)
var_closed l (var m) d r s g h p q e =
    let both = word_split (decimal l) (decimal m) r s (plain_decimal l g) (plain_decimal m h) p q (ap (drop 1) e) in
    (ap var (decimal_injective l m g h both.0), both.1)
var_closed l (con w) d r s g h p q e = absurd (name_else w 116 s _ h no_t (sym e))
var_closed l (app f x) d r s g h p q e = absurd (different 116 40 _ _ (e ∙ app_closed f x d s) refl)
var_closed l (all k b) d r s g h p q e = absurd (different 116 40 _ _ e refl)
var_closed l (any k) d r s g h p q e = absurd (different 116 40 _ _ e refl)

con_closed : (v : List ℕ) → Closed (con v)
con_closed v (var m) d r s g h p q e = absurd (name_else v 116 r _ g no_t e)
con_closed v (con w) d r s g h p q e =
    let both = word_split v w r s (name_plain v g) (name_plain w h) p q e in
    (ap con both.0, both.1)
con_closed v (app f x) d r s g h p q e = absurd (name_else v 40 r _ g no_bracket (e ∙ app_closed f x d s))
con_closed v (all k b) d r s g h p q e = absurd (name_else v 40 r _ g no_bracket e)
con_closed v (any k) d r s g h p q e = absurd (name_else v 40 r _ g no_bracket e)

app_closed_read : (f x : Shown) → Open f → Closed x → Closed (app f x)
app_closed_read f x o c (var m) d r s g h p q e = absurd (different 40 116 _ _ (sym (app_closed f x d r) ∙ e) refl)
app_closed_read f x o c (con w) d r s g h p q e = absurd (name_else w 40 s _ h no_bracket (sym e ∙ app_closed f x d r))
app_closed_read f x o c (app k y) d r s g h p q e =
    let inside = ap (drop 1) (sym (app_closed f x d r) ∙ e ∙ app_closed k y d s) in
    o k d (x ∷ []) (y ∷ []) r s g.0 h.0 (g.1, tt) (h.1, tt) (c, tt)
    (ap (λ z. shown_text f true d ++ z) (args_cons d x [] (41 ∷ r)) ∙ inside ∙ sym (ap (λ z. shown_text k true d ++ z) (args_cons d y [] (41 ∷ s))))
app_closed_read f x o c (all k b) d r s g h p q e =
    absurd (no_word (codes "orall") 102 f d _ _ refl refl refl refl g.0 (ap (drop 1) (sym (app_closed f x d r) ∙ e)))
app_closed_read f x o c (any k) d r s g h p q e =
    absurd (no_word (codes "ny") 97 f d _ _ refl refl refl refl g.0 (ap (drop 1) (sym (app_closed f x d r) ∙ e)))

all_closed : (k : Kind) (b : Shown) → Closed b → Closed (all k b)
all_closed k b c (var m) d r s g h p q e = absurd (different 40 116 _ _ e refl)
all_closed k b c (con w) d r s g h p q e = absurd (name_else w 40 s _ h no_bracket (sym e))
all_closed k b c (app f x) d r s g h p q e =
    absurd (no_word (codes "orall") 102 f d _ _ refl refl refl refl h.0 (ap (drop 1) (sym (app_closed f x d s) ∙ sym e)))
all_closed k b c (all l y) d r s g h p q e =
    let whole = ap (drop 10) (sym (all_open k b false d r) ∙ e ∙ all_open l y false d s) in
    let kinds = kind_reads k l _ _ (ap (drop 1) (append_cancel (decimal d) _ _ whole)) in
    let body = c y (suc d) (41 ∷ r) (41 ∷ s) g h refl refl (ap (drop 2) kinds.1) in
    ((λ i. all (kinds.0 i) (body.0 i)), ap (drop 1) body.1)
all_closed k b c (any l) d r s g h p q e = absurd (different 102 97 _ _ (ap (drop 1) e) refl)

any_closed : (k : Kind) → Closed (any k)
any_closed k (var m) d r s g h p q e = absurd (different 40 116 _ _ e refl)
any_closed k (con w) d r s g h p q e = absurd (name_else w 40 s _ h no_bracket (sym e))
any_closed k (app f x) d r s g h p q e =
    absurd (no_word (codes "ny") 97 f d _ _ refl refl refl refl h.0 (ap (drop 1) (sym (app_closed f x d s) ∙ sym e)))
any_closed k (all l y) d r s g h p q e = absurd (different 97 102 _ _ (ap (drop 1) e) refl)
any_closed k (any l) d r s g h p q e =
    let kinds = kind_reads k l _ _ (ap (drop 5) (sym (any_open k false d r) ∙ e ∙ any_open l false d s)) in
    (ap any kinds.0, ap (drop 1) kinds.1)

-- ---- spines

abbrev is_head : Shown → Bool
is_head (var l) = true
is_head (con w) = true
is_head (app f x) = false
is_head (all k b) = true
is_head (any k) = true

head_text : (a : Shown) (d : ℕ) → is_head a ≡ true → shown_text a true d ≡ shown_text a false d
head_text (var l) d h = refl
head_text (con w) d h = refl
head_text (app f x) d h = absurd (cc)
head_text (all k b) d h = refl
head_text (any k) d h = refl

two_heads : (a b : Shown) (d : ℕ) (xs ys : List Shown) (r s : List ℕ) → is_head a ≡ true → is_head b ≡ true → Closed a → IsNamed a → IsNamed b → AllNamed xs → AllNamed ys → AllClosed xs
    → shown_text a true d ++ (args d xs ++ 41 ∷ r) ≡ shown_text b true d ++ (args d ys ++ 41 ∷ s) → (spine a xs ≡ spine b ys) × (r ≡ s)
two_heads a b d xs ys r s ha hb c g h gs hs cs e =
    let one = c b d (args d xs ++ 41 ∷ r) (args d ys ++ 41 ∷ s) g h (args_end d xs r) (args_end d ys s)
    (ap (λ z. z ++ (args d xs ++ 41 ∷ r)) (sym (head_text a d ha)) ∙ e ∙ ap (λ z. z ++ (args d ys ++ 41 ∷ s)) (head_text b d hb)) in
    let rest = args_read d xs ys r s gs hs cs one.1 in
    ((λ i. spine (one.0 i) (rest.0 i)), rest.1)

longer : (f x : Shown) (d : ℕ) (xs : List Shown) (t : List ℕ) → shown_text (app f x) true d ++ (args d xs ++ t) ≡ shown_text f true d ++ (args d (x ∷ xs) ++ t)
longer f x d xs t = app_open f x d (args d xs ++ t) ∙ ap (λ z. shown_text f true d ++ z) (sym (args_cons d x xs t))

head_open : (a : Shown) → is_head a ≡ true → Closed a → Open a
head_open a ha c (var m) d xs ys r s g h gs hs cs e = two_heads a (var m) d xs ys r s ha refl c g h gs hs cs e
head_open a ha c (con w) d xs ys r s g h gs hs cs e = two_heads a (con w) d xs ys r s ha refl c g h gs hs cs e
head_open a ha c (app f x) d xs ys r s g h gs hs cs e =
    head_open a ha c f d xs (x ∷ ys) r s g h.0 gs (h.1, hs) cs (e ∙ longer f x d ys (41 ∷ s))
head_open a ha c (all k b) d xs ys r s g h gs hs cs e = two_heads a (all k b) d xs ys r s ha refl c g h gs hs cs e
head_open a ha c (any k) d xs ys r s g h gs hs cs e = two_heads a (any k) d xs ys r s ha refl c g h gs hs cs e

app_open_read : (f x : Shown) → Open f → Closed x → Open (app f x)
app_open_read f x o c b d xs ys r s g h gs hs cs e =
    o b d (x ∷ xs) ys r s g.0 h (g.1, gs) hs (c, cs) (sym (longer f x d xs (41 ∷ r)) ∙ e)

pub reads : (a : Shown) → Closed a × Open a
reads (var l) = (var_closed l, head_open (var l) refl (var_closed l))
reads (con w) = (con_closed w, head_open (con w) refl (con_closed w))
reads (app f x) =
    let g = reads f in let y = reads x in
    (app_closed_read f x g.1 y.0, app_open_read f x g.1 y.0)
reads (all k b) =
    let c = all_closed k b (reads b).0 in
    (c, head_open (all k b) refl c)
reads (any k) = (any_closed k, head_open (any k) refl (any_closed k))

pub shown_text-injective : (a b : Shown) (d : ℕ) → IsNamed a → IsNamed b → shown_text a false d ≡ shown_text b false d → a ≡ b
shown_text-injective a b d g h e = ((reads a).0 b d [] [] g h tt tt (ap (λ t. t ++ []) e)).0
