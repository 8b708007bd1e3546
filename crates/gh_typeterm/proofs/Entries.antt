-- What a store of terms holds after one more term.
use Rattle.std.proofs.Common.{◌≡◌, ℕ, zero, suc, ◌-◌, ◌<◌, ◌^◌, eqb, eq-eqb, eqb-true, ◌&&◌, nat_eq, min, Bool, true, false, List, [], ◌∷◌, ◌++◌, length, cond, get_or, slice_get, Option, Some, None, option_map, is_some, refl, sym, ap, subst, ◌∙◌, inl, inr, ◌⊎◌, arith, length-append}
use Rattle.std.proofs.lemmas.List.{map-append, length-map}
use Rattle.std.proofs.lemmas.List.Quantifiers.{position-Some}
use Rattle.std.proofs.lemmas.Option.{same_Some, none-some, slice_get-map, slice_get-get_or}
use Rattle.std.specs.List.{position}
use Rattle.std.specs.Map.{keys_of, lookup}
use Rattle.gh_base.specs.declared.place.TyCon.{TyCon}
use Rattle.gh_base.specs.declared.place.TyCon.TheVariants as c
use Rattle.gh_base.specs.declared.place.Origin.{Origin}
use Rattle.gh_base.specs.declared.place.Space.{Space}
use Rattle.gh_base.specs.declared.place.Space.TheVariants.{Values, Types}
use Rattle.gh_typeterm.specs.declared.ty.TyNode.{TyNode, out-TyNode}
use Rattle.gh_typeterm.specs.declared.ty.TyNode.TheVariants as t
use Rattle.gh_typeterm.specs.declared.ty.TyNode.TheOpen.{TyNode-F}
use Rattle.gh_typeterm.specs.declared.store.Stored.{Stored}
use Rattle.gh_typeterm.specs.Keys.{OriginKey, ConKey, Key, space_number, no_con, origin_key, con_key, same_numbers, same_origin_key, same_con_key, same_parts, same_key, Fits, a_con, a_var, an_app, a_name, terms_in, IsStore}
use Rattle.gh_typeterm.specs.Stores.{IsAmong, IsDistinct, IsEntered, new}
use Rattle.gh_typeterm.specs.Terms.{size_of}
use Rattle.gh_typeterm.proofs.Folds.{App-injective}

-- lists with one element more at the end
pub get_before : {A : Type 0} (xs : List A) (y : A) (i : ℕ) (x : A) → slice_get xs i ≡ Some x → slice_get (xs ++ y ∷ []) i ≡ Some x
get_before [] y i x e = absurd (none-some x e)
get_before (z ∷ xs) y zero x e = e
get_before (z ∷ xs) y (suc i) x e = get_before xs y i x e

pub get_last : {A : Type 0} (xs : List A) (y : A) → slice_get (xs ++ y ∷ []) (length xs) ≡ Some y
get_last [] y = refl
get_last (x ∷ xs) y = get_last xs y

either_next : {A : Type 0} (xs : List A) (y : A) (i : ℕ) (x : A) → (slice_get xs i ≡ Some x) ⊎ ((i ≡ length xs) × (x ≡ y))
    → (slice_get xs i ≡ Some x) ⊎ ((suc i ≡ suc (length xs)) × (x ≡ y))
either_next xs y i x (inl e) = inl e
either_next xs y i x (inr e) = inr (ap suc e.0, e.1)

pub get_either : {A : Type 0} (xs : List A) (y : A) (i : ℕ) (x : A) → slice_get (xs ++ y ∷ []) i ≡ Some x
    → (slice_get xs i ≡ Some x) ⊎ ((i ≡ length xs) × (x ≡ y))
get_either [] y zero x e = inr (refl, sym (same_Some y x e))
get_either [] y (suc i) x e = absurd (none-some x e)
get_either (z ∷ xs) y zero x e = inl e
get_either (z ∷ xs) y (suc i) x e = either_next xs y i x (get_either xs y i x e)

-- a key of a constructor determines it
number_space : ℕ → Space
number_space zero = Values
number_space (suc n) = Types

space_back : (s : Space) → number_space (space_number s) ≡ s
unfolding number_space
space_back Values = refl
space_back Types = refl

abbrev origin_of : ℕ → Space → ℕ → Origin
origin_of m s n = record { «module» = record { 0 = m }; space = s; name = record { 0 = n } }

abbrev key_origin : OriginKey → Origin
key_origin k = origin_of k.0 (number_space k.1.0) k.1.1

origin_back : (o : Origin) → key_origin (origin_key o) ≡ o
origin_back o = ap (λ s. origin_of o.«module».0 s o.name.0) (space_back o.space)

abbrev con_back : ℕ → OriginKey → TyCon
con_back zero k = c.Named (key_origin k)
con_back (suc zero) k = c.Arrow
con_back (suc (suc zero)) k = c.Int
con_back (suc (suc (suc zero))) k = c.Char
con_back (suc (suc (suc (suc n)))) k = c.ConOf (key_origin k)

con_there : (d : TyCon) → con_back (con_key d).0 (con_key d).1 ≡ d
con_there (c.Named o) = ap c.Named (origin_back o)
con_there c.Arrow = refl
con_there c.Int = refl
con_there c.Char = refl
con_there (c.ConOf o) = ap c.ConOf (origin_back o)

con_key_same : (d e : TyCon) → con_key d ≡ con_key e → d ≡ e
con_key_same d e k = sym (con_there d) ∙ ap (λ (x : ConKey). con_back x.0 x.1) k ∙ con_there e

-- the form of a term's node
abbrev form_of : TyNode-F TyNode → ℕ
form_of (TyNode-F.Con d) = 0
form_of (TyNode-F.Var v) = 1
form_of (TyNode-F.App f x) = 2
form_of (TyNode-F.Name n) = 3

abbrev form : TyNode → ℕ
form u = form_of (out-TyNode u)

form_fits : (ts : List TyNode) (k : Key) (u : TyNode) → Fits ts k u → form u ≡ k.0
form_fits ts k u (a_con d a b) = ap form b ∙ ap form_of (t.outs-Con d) ∙ sym (ap (λ (x : Key). x.0) a)
form_fits ts k u (a_var v a b) = ap form b ∙ ap form_of (t.outs-Var v) ∙ sym (ap (λ (x : Key). x.0) a)
form_fits ts k u (an_app p q f x a g h b) = ap form b ∙ ap form_of (t.outs-App f x) ∙ sym (ap (λ (x : Key). x.0) a)
form_fits ts k u (a_name n a b) = ap form b ∙ ap form_of (t.outs-Name n) ∙ sym (ap (λ (x : Key). x.0) a)

con_same : (d e : TyCon) → t.Con d ≡ t.Con e → d ≡ e
con_same d e k = let o : TyNode-F.Con d ≡ TyNode-F.Con e = sym (t.outs-Con d) ∙ ap out-TyNode k ∙ t.outs-Con e in cc

var_same : (v w : ℕ) → t.Var v ≡ t.Var w → v ≡ w
var_same v w k = let o : TyNode-F.Var v ≡ TyNode-F.Var w = sym (t.outs-Var v) ∙ ap out-TyNode k ∙ t.outs-Var w in cc

name_same : (v w : ℕ) → t.Name v ≡ t.Name w → v ≡ w
name_same v w k = let o : TyNode-F.Name v ≡ TyNode-F.Name w = sym (t.outs-Name v) ∙ ap out-TyNode k ∙ t.outs-Name w in cc

apart : (m n : ℕ) → m ≡ n → eqb m n ≡ false → ⊥
apart m n e h = let k : eqb m n ≡ true = eq-eqb m n e in let j : true ≡ false = sym k ∙ h in absurd (cc)

-- two keys with different forms are two, and so are two terms
keys_apart : {A : Type 0} (k : Key) (m n : ℕ) (x y : (ℕ × ℕ) × ConKey) → k ≡ (m, x) → k ≡ (n, y) → eqb m n ≡ false → A
keys_apart k m n x y a b h = absurd (apart m n (sym (ap (λ (z : Key). z.0) a) ∙ ap (λ (z : Key). z.0) b) h)

forms_apart : {A : Type 0} (u : TyNode) (m n : ℕ) → form u ≡ m → form u ≡ n → eqb m n ≡ false → A
forms_apart u m n a b h = absurd (apart m n (sym a ∙ b) h)

form_con : (u : TyNode) (d : TyCon) → u ≡ t.Con d → form u ≡ 0
form_con u d b = ap form b ∙ ap form_of (t.outs-Con d)

form_var : (u : TyNode) (v : ℕ) → u ≡ t.Var v → form u ≡ 1
form_var u v b = ap form b ∙ ap form_of (t.outs-Var v)

form_app : (u f x : TyNode) → u ≡ t.App f x → form u ≡ 2
form_app u f x b = ap form b ∙ ap form_of (t.outs-App f x)

form_name : (u : TyNode) (n : ℕ) → u ≡ t.Name n → form u ≡ 3
form_name u n b = ap form b ∙ ap form_of (t.outs-Name n)

-- one key is that of one term
pub fits_term : (ts : List TyNode) (k : Key) (u w : TyNode) → Fits ts k u → Fits ts k w → u ≡ w
fits_term ts k u w (a_con d a b) (a_con e g h) = b ∙ ap t.Con (con_key_same d e (ap (λ (z : Key). z.1.1) (sym a ∙ g))) ∙ sym h
fits_term ts k u w (a_var v a b) (a_var z g h) = b ∙ ap t.Var (ap (λ (z : Key). z.1.0.0) (sym a ∙ g)) ∙ sym h
fits_term ts k u w (an_app p q f x a l r b) (an_app p2 q2 f2 x2 g l2 r2 h) =
    let e = ap (λ (z : Key). z.1.0.0) (sym a ∙ g) in
    let o = ap (λ (z : Key). z.1.0.1) (sym a ∙ g) in
    let i = same_Some f f2 (sym l ∙ ap (slice_get ts) e ∙ l2) in
    let j = same_Some x x2 (sym r ∙ ap (slice_get ts) o ∙ r2) in
    b ∙ (λ y. t.App (i y) (j y)) ∙ sym h
fits_term ts k u w (a_name v a b) (a_name z g h) = b ∙ ap t.Name (ap (λ (z : Key). z.1.0.0) (sym a ∙ g)) ∙ sym h
fits_term ts k u w (a_con d a b) (a_var z g h) = keys_apart k 0 1 ((0, 0), con_key d) ((z, 0), no_con) a g refl
fits_term ts k u w (a_con d a b) (an_app p2 q2 f2 x2 g l2 r2 h) = keys_apart k 0 2 ((0, 0), con_key d) ((p2, q2), no_con) a g refl
fits_term ts k u w (a_con d a b) (a_name m g h) = keys_apart k 0 3 ((0, 0), con_key d) ((m, 0), no_con) a g refl
fits_term ts k u w (a_var v a b) (a_con e g h) = keys_apart k 1 0 ((v, 0), no_con) ((0, 0), con_key e) a g refl
fits_term ts k u w (a_var v a b) (an_app p2 q2 f2 x2 g l2 r2 h) = keys_apart k 1 2 ((v, 0), no_con) ((p2, q2), no_con) a g refl
fits_term ts k u w (a_var v a b) (a_name m g h) = keys_apart k 1 3 ((v, 0), no_con) ((m, 0), no_con) a g refl
fits_term ts k u w (an_app p q f x a l r b) (a_con e g h) = keys_apart k 2 0 ((p, q), no_con) ((0, 0), con_key e) a g refl
fits_term ts k u w (an_app p q f x a l r b) (a_var z g h) = keys_apart k 2 1 ((p, q), no_con) ((z, 0), no_con) a g refl
fits_term ts k u w (an_app p q f x a l r b) (a_name m g h) = keys_apart k 2 3 ((p, q), no_con) ((m, 0), no_con) a g refl
fits_term ts k u w (a_name n a b) (a_con e g h) = keys_apart k 3 0 ((n, 0), no_con) ((0, 0), con_key e) a g refl
fits_term ts k u w (a_name n a b) (a_var z g h) = keys_apart k 3 1 ((n, 0), no_con) ((z, 0), no_con) a g refl
fits_term ts k u w (a_name n a b) (an_app p2 q2 f2 x2 g l2 r2 h) = keys_apart k 3 2 ((n, 0), no_con) ((p2, q2), no_con) a g refl

-- where no term stands twice, one term has one key
pub fits_same : (ts : List TyNode) → IsDistinct ts → (k l : Key) (u : TyNode) → Fits ts k u → Fits ts l u → k ≡ l
fits_same ts o k l u (a_con d a b) (a_con e g h) =
    let i = con_same d e (sym b ∙ h) in a ∙ (λ y. (0, ((0, 0), con_key (i y)))) ∙ sym g
fits_same ts o k l u (a_var v a b) (a_var z g h) =
    let i = var_same v z (sym b ∙ h) in a ∙ (λ y. (1, ((i y, 0), no_con))) ∙ sym g
fits_same ts o k l u (an_app p q f x a ll r b) (an_app p2 q2 f2 x2 g l2 r2 h) =
    let parts = App-injective f x f2 x2 (sym b ∙ h) in
    let i = o p p2 f2 (ll ∙ ap Some parts.0) l2 in
    let j = o q q2 x2 (r ∙ ap Some parts.1) r2 in
    a ∙ (λ y. (2, ((i y, j y), no_con))) ∙ sym g
fits_same ts o k l u (a_name v a b) (a_name z g h) =
    let i = name_same v z (sym b ∙ h) in a ∙ (λ y. (3, ((i y, 0), no_con))) ∙ sym g
fits_same ts o k l u (a_con d a b) (a_var z g h) = forms_apart u 0 1 (form_con u d b) (form_var u z h) refl
fits_same ts o k l u (a_con d a b) (an_app p2 q2 f2 x2 g l2 r2 h) = forms_apart u 0 2 (form_con u d b) (form_app u f2 x2 h) refl
fits_same ts o k l u (a_con d a b) (a_name m g h) = forms_apart u 0 3 (form_con u d b) (form_name u m h) refl
fits_same ts o k l u (a_var v a b) (a_con e g h) = forms_apart u 1 0 (form_var u v b) (form_con u e h) refl
fits_same ts o k l u (a_var v a b) (an_app p2 q2 f2 x2 g l2 r2 h) = forms_apart u 1 2 (form_var u v b) (form_app u f2 x2 h) refl
fits_same ts o k l u (a_var v a b) (a_name m g h) = forms_apart u 1 3 (form_var u v b) (form_name u m h) refl
fits_same ts o k l u (an_app p q f x a ll r b) (a_con e g h) = forms_apart u 2 0 (form_app u f x b) (form_con u e h) refl
fits_same ts o k l u (an_app p q f x a ll r b) (a_var z g h) = forms_apart u 2 1 (form_app u f x b) (form_var u z h) refl
fits_same ts o k l u (an_app p q f x a ll r b) (a_name m g h) = forms_apart u 2 3 (form_app u f x b) (form_name u m h) refl
fits_same ts o k l u (a_name n a b) (a_con e g h) = forms_apart u 3 0 (form_name u n b) (form_con u e h) refl
fits_same ts o k l u (a_name n a b) (a_var z g h) = forms_apart u 3 1 (form_name u n b) (form_var u z h) refl
fits_same ts o k l u (a_name n a b) (an_app p2 q2 f2 x2 g l2 r2 h) = forms_apart u 3 2 (form_name u n b) (form_app u f2 x2 h) refl

fits_more : (ts : List TyNode) (w : TyNode) (k : Key) (u : TyNode) → Fits ts k u → Fits (ts ++ w ∷ []) k u
fits_more ts w k u (a_con d a b) = a_con d a b
fits_more ts w k u (a_var v a b) = a_var v a b
fits_more ts w k u (an_app p q f x a l r b) = an_app p q f x a (get_before ts w p f l) (get_before ts w q x r) b
fits_more ts w k u (a_name n a b) = a_name n a b

-- keys that a search holds for equal are equal
and_first : (a b : Bool) → (a && b) ≡ true → a ≡ true
and_first true b h = refl
and_first false b h = h

and_second : (a b : Bool) → (a && b) ≡ true → b ≡ true
and_second true b h = h
and_second false b h = let k : false ≡ true = h in absurd (cc)

numbers_same : (x y : ℕ × ℕ) → same_numbers x y ≡ true → x ≡ y
numbers_same x y h =
    let a = eqb-true x.0 y.0 (and_first (nat_eq x.0 y.0) (nat_eq x.1 y.1) h) in
    let b = eqb-true x.1 y.1 (and_second (nat_eq x.0 y.0) (nat_eq x.1 y.1) h) in
    λ i. (a i, b i)

origins_same : (x y : OriginKey) → same_origin_key x y ≡ true → x ≡ y
origins_same x y h =
    let a = eqb-true x.0 y.0 (and_first (nat_eq x.0 y.0) (same_numbers x.1 y.1) h) in
    let b = numbers_same x.1 y.1 (and_second (nat_eq x.0 y.0) (same_numbers x.1 y.1) h) in
    λ i. (a i, b i)

cons_same : (x y : ConKey) → same_con_key x y ≡ true → x ≡ y
cons_same x y h =
    let a = eqb-true x.0 y.0 (and_first (nat_eq x.0 y.0) (same_origin_key x.1 y.1) h) in
    let b = origins_same x.1 y.1 (and_second (nat_eq x.0 y.0) (same_origin_key x.1 y.1) h) in
    λ i. (a i, b i)

parts_same : (x y : (ℕ × ℕ) × ConKey) → same_parts x y ≡ true → x ≡ y
parts_same x y h =
    let a = numbers_same x.0 y.0 (and_first (same_numbers x.0 y.0) (same_con_key x.1 y.1) h) in
    let b = cons_same x.1 y.1 (and_second (same_numbers x.0 y.0) (same_con_key x.1 y.1) h) in
    λ i. (a i, b i)

pub key_same : (x y : Key) → same_key x y ≡ true → x ≡ y
key_same x y h =
    let a = eqb-true x.0 y.0 (and_first (nat_eq x.0 y.0) (same_parts x.1 y.1) h) in
    let b = parts_same x.1 y.1 (and_second (nat_eq x.0 y.0) (same_parts x.1 y.1) h) in
    λ i. (a i, b i)

both_true : (a b : Bool) → a ≡ true → b ≡ true → (a && b) ≡ true
both_true true b g h = h
both_true false b g h = g

itself : (n : ℕ) → nat_eq n n ≡ true
itself n = eq-eqb n n refl

numbers_itself : (x : ℕ × ℕ) → same_numbers x x ≡ true
numbers_itself x = both_true (nat_eq x.0 x.0) (nat_eq x.1 x.1) (itself x.0) (itself x.1)

origins_itself : (x : OriginKey) → same_origin_key x x ≡ true
origins_itself x = both_true (nat_eq x.0 x.0) (same_numbers x.1 x.1) (itself x.0) (numbers_itself x.1)

cons_itself : (x : ConKey) → same_con_key x x ≡ true
cons_itself x = both_true (nat_eq x.0 x.0) (same_origin_key x.1 x.1) (itself x.0) (origins_itself x.1)

parts_itself : (x : (ℕ × ℕ) × ConKey) → same_parts x x ≡ true
parts_itself x = both_true (same_numbers x.0 x.0) (same_con_key x.1 x.1) (numbers_itself x.0) (cons_itself x.1)

pub key_itself : (x : Key) → same_key x x ≡ true
key_itself x = both_true (nat_eq x.0 x.0) (same_parts x.1 x.1) (itself x.0) (parts_itself x.1)

-- entries and their terms
abbrev Entries : Type 0
Entries = List (Key × Stored)

pub terms_push : (es : Entries) (k : Key) (s : Stored) → terms_in (es ++ (k, s) ∷ []) ≡ terms_in es ++ s.term ∷ []
terms_push es k s = map-append (λ (e : Key × Stored). e.1.term) es ((k, s) ∷ [])

pub terms_length : (es : Entries) → length (terms_in es) ≡ length es
terms_length es = length-map es (λ (e : Key × Stored). e.1.term)

pub term_at : (es : Entries) (i : ℕ) (e : Key × Stored) → slice_get es i ≡ Some e → slice_get (terms_in es) i ≡ Some e.1.term
term_at es i e g = slice_get-map (λ (e : Key × Stored). e.1.term) es i ∙ ap (option_map (λ (e : Key × Stored). e.1.term)) g

entry_of : (es : Entries) (i : ℕ) (u : TyNode) → slice_get (terms_in es) i ≡ Some u → (e : Key × Stored) × (slice_get es i ≡ Some e) × (e.1.term ≡ u)
entry_of [] i u g = absurd (none-some u g)
entry_of (e ∷ es) zero u g = (e, refl, same_Some e.1.term u g)
entry_of (e ∷ es) (suc i) u g = entry_of es i u g

place_entry : (xs : Entries) (j : ℕ) (l : Key) → slice_get (keys_of xs) j ≡ Some l → (e : Key × Stored) × (slice_get xs j ≡ Some e) × (e.0 ≡ l)
place_entry [] j l g = absurd (none-some l g)
place_entry (x ∷ xs) zero l g = (x, refl, same_Some x.0 l g)
place_entry (x ∷ xs) (suc j) l g = place_entry xs j l g

-- what a search for a key says
module _ (test : Key → Bool) (k : Key) (same : (l : Key) → test l ≡ true → k ≡ l) (own : test k ≡ true) where
  none_step : (x : Key × Stored) (es : Entries) (b : Bool) → test x.0 ≡ b → lookup test (x ∷ es) ≡ None
      → (lookup test es ≡ None → (i : ℕ) (e : Key × Stored) → slice_get es i ≡ Some e → e.0 ≡ k → ⊥)
      → (i : ℕ) (e : Key × Stored) → slice_get (x ∷ es) i ≡ Some e → e.0 ≡ k → ⊥
  none_step x es true b n f i e g is = none-some x.1 (sym n ∙ ap (λ c. cond c (Some x.1) (lookup test es)) b)
  none_step x es false b n f zero e g is =
      let there : true ≡ false = sym own ∙ ap test (sym is ∙ sym (ap (λ (y : Key × Stored). y.0) (same_Some x e g))) ∙ b in cc
  none_step x es false b n f (suc i) e g is = f (sym (ap (λ c. cond c (Some x.1) (lookup test es)) b) ∙ n) i e g is

  none_has : (es : Entries) → lookup test es ≡ None → (i : ℕ) (e : Key × Stored) → slice_get es i ≡ Some e → e.0 ≡ k → ⊥
  none_has [] n i e g is = none-some e g
  none_has (x ∷ es) n i e g is = none_step x es (test x.0) refl n (λ m j f h o. none_has es m j f h o) i e g is

  -- a key that is found has the term
  pub found_term : (es : Entries) (u : TyNode) (i : ℕ) → IsStore es → Fits (terms_in es) k u → position test (keys_of es) ≡ Some i
      → slice_get (terms_in es) i ≡ Some u
  found_term es u i s f p =
      let at = position-Some test (keys_of es) i k p in
      let e = place_entry es i (get_or (keys_of es) i k) (slice_get-get_or (keys_of es) i k at.0) in
      let key : get_or (keys_of es) i k ≡ k = sym (same (get_or (keys_of es) i k) at.1) in
      let fits = subst (λ l. Fits (terms_in es) l e.0.1.term) (e.2 ∙ key) (s.keys i e.0 e.1) in
      term_at es i e.0 e.1 ∙ ap Some (fits_term (terms_in es) k e.0.1.term u fits f)

  -- the term of a key that is not found stands nowhere
  pub absent_term : (es : Entries) (u : TyNode) → IsStore es → Fits (terms_in es) k u → lookup test es ≡ None → IsAmong (terms_in es) u → ⊥
  absent_term es u s f n a =
      let e = entry_of es a.0 u a.1 in
      let fits = subst (λ w. Fits (terms_in es) e.0.0 w) e.2 (s.keys a.0 e.0 e.1) in
      none_has es n a.0 e.0 e.1 (fits_same (terms_in es) s.distinct e.0.0 k u fits f)

-- a store with one term more
distinct_more : (ts : List TyNode) (u : TyNode) → IsDistinct ts → (IsAmong ts u → ⊥) → IsDistinct (ts ++ u ∷ [])
distinct_more ts u d n i j w a b = by (get_either ts u i w a) (get_either ts u j w b)
  where
    by : (slice_get ts i ≡ Some w) ⊎ ((i ≡ length ts) × (w ≡ u)) → (slice_get ts j ≡ Some w) ⊎ ((j ≡ length ts) × (w ≡ u)) → i ≡ j
    by (inl p) (inl q) = d i j w p q
    by (inl p) (inr q) = absurd (n (i, p ∙ ap Some q.1))
    by (inr p) (inl q) = absurd (n (j, q ∙ ap Some p.1))
    by (inr p) (inr q) = p.0 ∙ sym q.0

pub store_more : (es : Entries) (k : Key) (s : Stored) → IsStore es → Fits (terms_in es) k s.term → s.nodes ≡ min (size_of s.term) 1001
    → (IsAmong (terms_in es) s.term → ⊥) → length es < 2 ^ 32 - 1 → IsStore (es ++ (k, s) ∷ [])
store_more es k s st f c n room = record {
  keys = λ i e g. by i e (get_either es (k, s) i e g);
  counts = λ i e g. counted i e (get_either es (k, s) i e g);
  distinct = subst IsDistinct (sym (terms_push es k s)) (distinct_more (terms_in es) s.term st.distinct n);
  small = let l = length-append es ((k, s) ∷ []) in omega (arith, l, room);
}
  where
    by : (i : ℕ) (e : Key × Stored) → (slice_get es i ≡ Some e) ⊎ ((i ≡ length es) × (e ≡ (k, s))) → Fits (terms_in (es ++ (k, s) ∷ [])) e.0 e.1.term
    by i e (inl g) = subst (λ ts. Fits ts e.0 e.1.term) (sym (terms_push es k s)) (fits_more (terms_in es) s.term e.0 e.1.term (st.keys i e g))
    by i e (inr g) = subst (λ (y : Key × Stored). Fits (terms_in (es ++ (k, s) ∷ [])) y.0 y.1.term) (sym g.1)
        (subst (λ ts. Fits ts k s.term) (sym (terms_push es k s)) (fits_more (terms_in es) s.term k s.term f))

    counted : (i : ℕ) (e : Key × Stored) → (slice_get es i ≡ Some e) ⊎ ((i ≡ length es) × (e ≡ (k, s))) → e.1.nodes ≡ min (size_of e.1.term) 1001
    counted i e (inl g) = st.counts i e g
    counted i e (inr g) = subst (λ (y : Key × Stored). y.1.nodes ≡ min (size_of y.1.term) 1001) (sym g.1) c

pub store_empty : IsStore []
store_empty = record {
  keys = λ i e g. absurd (none-some e g);
  counts = λ i e g. absurd (none-some e g);
  distinct = λ i j w a b. absurd (none-some w a);
  small = omega arith;
}

pub last_term : (es : Entries) (k : Key) (s : Stored) → slice_get (terms_in (es ++ (k, s) ∷ [])) (length es) ≡ Some s.term
last_term es k s =
    ap (λ ts. slice_get ts (length es)) (terms_push es k s)
    ∙ ap (slice_get (terms_in es ++ s.term ∷ [])) (sym (terms_length es)) ∙ get_last (terms_in es) s.term

-- what a call of `put` finds and makes
pub none_from : {A : Type 0} (o : Option A) → is_some o ≡ false → o ≡ None
none_from None e = refl
none_from (Some x) e = let k : true ≡ false = e in absurd (cc)

pub added : (es made : Entries) (k : Key) (s : Stored) (u : TyNode) (ts : List TyNode) → terms_in es ≡ ts → made ≡ es ++ (k, s) ∷ [] → s.term ≡ u
    → (IsAmong (terms_in es) u → ⊥) → IsEntered ts u (terms_in made)
added es made k s u ts v g e n =
    subst (λ (xs : List TyNode). IsEntered ts u xs) (sym (ap terms_in g ∙ terms_push es k s ∙ ap (λ xs. xs ++ s.term ∷ []) v ∙ ap (λ w. ts ++ w ∷ []) e))
    (new (subst (λ (xs : List TyNode). IsAmong xs u → ⊥) v n))

pub last_of : (es made : Entries) (k : Key) (s : Stored) (u : TyNode) (n : ℕ) → made ≡ es ++ (k, s) ∷ [] → s.term ≡ u → n ≡ length es
    → slice_get (terms_in made) n ≡ Some u
last_of es made k s u n g e l =
    ap (λ xs. slice_get (terms_in xs) n) g ∙ ap (slice_get (terms_in (es ++ (k, s) ∷ []))) l ∙ last_term es k s ∙ ap Some e

pub more_of : (es made : Entries) (k : Key) (s : Stored) (u : TyNode) (ts : List TyNode) → terms_in es ≡ ts → made ≡ es ++ (k, s) ∷ [] → s.term ≡ u
    → IsStore es → Fits (terms_in es) k u → s.nodes ≡ min (size_of u) 1001 → (IsAmong (terms_in es) u → ⊥) → length ts < 2 ^ 32 - 1 → IsStore made
more_of es made k s u ts v g e st f c n room =
    let l : length es ≡ length ts = sym (terms_length es) ∙ ap length v in
    subst IsStore (sym g) (store_more es k s st (subst (λ w. Fits (terms_in es) k w) (sym e) f) (c ∙ ap (λ w. min (size_of w) 1001) (sym e))
    (subst (λ w. IsAmong (terms_in es) w → ⊥) (sym e) n) (omega (arith, l, room)))
