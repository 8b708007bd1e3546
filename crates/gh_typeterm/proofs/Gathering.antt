-- What several terms make of a list, one after another.
use Rattle.std.proofs.Common.{◌≡◌, ℕ, ◌+◌, ◌<◌, ◌≤◌, List, [], ◌∷◌, ◌++◌, length, slice_get, Some, refl, sym, ap, subst, ◌∙◌, arith, append_assoc, append-nil, length-append, min, ◌-◌, ◌^◌, Result, Ok, Err, OnOk, OnErr}
use Rattle.gh_base.specs.declared.place.TyCon.{TyCon}
use Rattle.gh_typeterm.specs.declared.ty.TyNode.{TyNode, fold-TyNode}
use Rattle.gh_typeterm.specs.declared.ty.TyNode.TheVariants as t
use Rattle.gh_typeterm.specs.Terms.{size_of, size_step}
use Rattle.gh_typeterm.specs.Stores.{parts_of, parts_step, IsEntered, there, new, Gathered, none, more, GatheredInPart}
use Rattle.gh_typeterm.proofs.Folds.{term_induction, fold-Con, fold-Var, fold-App, fold-Name}
use Rattle.gh_typeterm.proofs.Entries.{get_before}

-- the parts of a term, by its form
abbrev both : TyNode → TyNode × List TyNode
both u = fold-TyNode (TyNode × List TyNode) parts_step u

both_first : (u : TyNode) → (both u).0 ≡ u
both_first = term_induction (λ u. (both u).0 ≡ u)
    (λ c. ap (λ p. p.0) (fold-Con (TyNode × List TyNode) parts_step c))
    (λ v. ap (λ p. p.0) (fold-Var (TyNode × List TyNode) parts_step v))
    (λ f x p q. ap (λ p. p.0) (fold-App (TyNode × List TyNode) parts_step f x) ∙ (λ i. t.App (p i) (q i)))
    (λ n. ap (λ p. p.0) (fold-Name (TyNode × List TyNode) parts_step n))

pub parts-Con : (c : TyCon) → parts_of (t.Con c) ≡ t.Con c ∷ []
parts-Con c = ap (λ p. p.1) (fold-Con (TyNode × List TyNode) parts_step c)

pub parts-Var : (v : ℕ) → parts_of (t.Var v) ≡ t.Var v ∷ []
parts-Var v = ap (λ p. p.1) (fold-Var (TyNode × List TyNode) parts_step v)

pub parts-Name : (n : ℕ) → parts_of (t.Name n) ≡ t.Name n ∷ []
parts-Name n = ap (λ p. p.1) (fold-Name (TyNode × List TyNode) parts_step n)

pub parts-App : (f x : TyNode) → parts_of (t.App f x) ≡ parts_of f ++ (parts_of x ++ t.App f x ∷ [])
parts-App f x =
    ap (λ p. p.1) (fold-App (TyNode × List TyNode) parts_step f x)
    ∙ ap (λ u. parts_of f ++ (parts_of x ++ u ∷ [])) (λ i. t.App (both_first f i) (both_first x i))

-- one list of terms after another
pub gathered_append : (a b c : List TyNode) (xs ys : List TyNode) → Gathered a xs b → Gathered b ys c → Gathered a (xs ++ ys) c
gathered_append a b _ xs _ g none = subst (λ zs. Gathered a zs b) (sym (append-nil xs)) g
gathered_append a b _ xs _ g (more ys y m c h e) =
    subst (λ zs. Gathered a zs c) (append_assoc xs ys (y ∷ [])) (more (xs ++ ys) y m c (gathered_append a b m xs ys g h) e)

pub gathered_one : (a b : List TyNode) (u : TyNode) → IsEntered a u b → Gathered a (u ∷ []) b
gathered_one a b u e = more [] u a b none e

pub part_none : (a xs : List TyNode) → GatheredInPart a xs a
part_none a xs = ([], xs, refl, none)

pub part_left : (a b : List TyNode) (xs ys : List TyNode) → GatheredInPart a xs b → GatheredInPart a (xs ++ ys) b
part_left a b xs ys g = (g.0, g.1 ++ ys, ap (λ zs. zs ++ ys) g.2 ∙ append_assoc g.0 g.1 ys, g.3)

pub part_right : (a b c : List TyNode) (xs ys : List TyNode) → Gathered a xs b → GatheredInPart b ys c → GatheredInPart a (xs ++ ys) c
part_right a b c xs ys g h =
    (xs ++ h.0, h.1, ap (λ zs. xs ++ zs) h.2 ∙ sym (append_assoc xs h.0 h.1), gathered_append a b c xs h.0 g h.3)

-- what was there stays at its place
entered_keeps : (a b : List TyNode) (u : TyNode) → IsEntered a u b → (i : ℕ) (w : TyNode) → slice_get a i ≡ Some w → slice_get b i ≡ Some w
entered_keeps a _ u (there h) i w g = g
entered_keeps a _ u (new h) i w g = get_before a u i w g

pub gathered_keeps : (a b : List TyNode) (xs : List TyNode) → Gathered a xs b → (i : ℕ) (w : TyNode) → slice_get a i ≡ Some w → slice_get b i ≡ Some w
gathered_keeps a _ _ none i w g = g
gathered_keeps a _ _ (more xs x m b h e) i w g = entered_keeps m b x e i w (gathered_keeps a m xs h i w g)

-- how many there are at most
entered_length : (a b : List TyNode) (u : TyNode) → IsEntered a u b → length b ≤ length a + 1
entered_length a _ u (there h) = omega arith
entered_length a _ u (new h) = let l = length-append a (u ∷ []) in omega (arith, l)

pub gathered_length : (a b : List TyNode) (xs : List TyNode) → Gathered a xs b → length b ≤ length a + length xs
gathered_length a _ _ none = omega arith
gathered_length a _ _ (more xs x m b h e) =
    let l = gathered_length a m xs h in
    let k = entered_length m b x e in
    let n = length-append xs (x ∷ []) in
    omega (arith, l, k, n)

pub parts_length : (u : TyNode) → length (parts_of u) ≡ size_of u
parts_length = term_induction (λ u. length (parts_of u) ≡ size_of u)
    (λ c. ap length (parts-Con c) ∙ sym (fold-Con ℕ size_step c))
    (λ v. ap length (parts-Var v) ∙ sym (fold-Var ℕ size_step v))
    (λ f x p q.
    let l = length-append (parts_of f) (parts_of x ++ t.App f x ∷ []) in
    let k = length-append (parts_of x) (t.App f x ∷ []) in
    let e : length (parts_of f ++ (parts_of x ++ t.App f x ∷ [])) ≡ 1 + size_of f + size_of x = omega (arith, l, k, p, q) in
    ap length (parts-App f x) ∙ e ∙ sym (fold-App ℕ size_step f x))
    (λ n. ap length (parts-Name n) ∙ sym (fold-Name ℕ size_step n))

-- what a call says of its answer
module _ {E : Type 0} where
  pub on_ok : {A : Type 0} (r : Result A E) {P Q : Type 0} → (P → Q) → OnOk r P → OnOk r Q
  on_ok (Ok x) f p = f p
  on_ok (Err e) f p = tt

  pub on_err : {A : Type 0} (r : Result A E) {P Q : Type 0} → (P → Q) → OnErr r P → OnErr r Q
  on_err (Ok x) f p = tt
  on_err (Err e) f p = f p

  pub on_err_any : {A : Type 0} (r : Result A E) {P : Type 0} → P → OnErr r P
  on_err_any (Ok x) p = tt
  on_err_any (Err e) p = p

-- a term that has no parts
pub leaf_terms : (a b : List TyNode) (u : TyNode) → parts_of u ≡ u ∷ [] → IsEntered a u b → Gathered a (parts_of u) b
leaf_terms a b u e h = subst (λ xs. Gathered a xs b) (sym e) (gathered_one a b u h)

pub leaf_part : (a b : List TyNode) (u : TyNode) → b ≡ a → GatheredInPart a (parts_of u) b
leaf_part a b u e = subst (λ c. GatheredInPart a (parts_of u) c) (sym e) (part_none a (parts_of u))

pub con_parts : (u : TyNode) (c : TyCon) → u ≡ t.Con c → parts_of u ≡ u ∷ []
con_parts u c e = ap parts_of e ∙ parts-Con c ∙ ap (λ w. w ∷ []) (sym e)

pub var_parts : (u : TyNode) (v : ℕ) → u ≡ t.Var v → parts_of u ≡ u ∷ []
var_parts u v e = ap parts_of e ∙ parts-Var v ∙ ap (λ w. w ∷ []) (sym e)

pub name_parts : (u : TyNode) (n : ℕ) → u ≡ t.Name n → parts_of u ≡ u ∷ []
name_parts u n e = ap parts_of e ∙ parts-Name n ∙ ap (λ w. w ∷ []) (sym e)

-- an application, by its parts
module _ (u f x : TyNode) (is : u ≡ t.App f x) where
  app_parts : parts_of u ≡ parts_of f ++ (parts_of x ++ u ∷ [])
  app_parts = ap parts_of is ∙ parts-App f x ∙ ap (λ w. parts_of f ++ (parts_of x ++ w ∷ [])) (sym is)

  pub app_size : size_of u ≡ 1 + size_of f + size_of x
  app_size = ap size_of is ∙ fold-App ℕ size_step f x

  pub app_terms : (a b c d : List TyNode) → Gathered a (parts_of f) b → Gathered b (parts_of x) c → IsEntered c u d → Gathered a (parts_of u) d
  app_terms a b c d g h e = subst (λ xs. Gathered a xs d) (sym app_parts)
      (gathered_append a b d (parts_of f) (parts_of x ++ u ∷ []) g (gathered_append b c d (parts_of x) (u ∷ []) h (gathered_one c d u e)))

  pub app_part_head : (a b : List TyNode) → GatheredInPart a (parts_of f) b → GatheredInPart a (parts_of u) b
  app_part_head a b g = subst (λ xs. GatheredInPart a xs b) (sym app_parts) (part_left a b (parts_of f) (parts_of x ++ u ∷ []) g)

  pub app_part_arg : (a b c : List TyNode) → Gathered a (parts_of f) b → GatheredInPart b (parts_of x) c → GatheredInPart a (parts_of u) c
  app_part_arg a b c g h = subst (λ xs. GatheredInPart a xs c) (sym app_parts)
      (part_right a b c (parts_of f) (parts_of x ++ u ∷ []) g (part_left b c (parts_of x) (u ∷ []) h))

  pub app_part_last : (a b c d : List TyNode) → Gathered a (parts_of f) b → Gathered b (parts_of x) c → d ≡ c → GatheredInPart a (parts_of u) d
  app_part_last a b c d g h e = subst (λ w. GatheredInPart a (parts_of u) w) (sym e) (subst (λ xs. GatheredInPart a xs c) (sym app_parts)
      (part_right a b c (parts_of f) (parts_of x ++ u ∷ []) g (part_right b c c (parts_of x) (u ∷ []) h (part_none c (u ∷ [])))))

  pub app_room : (a b : List TyNode) (n : ℕ) → Gathered a (parts_of f) b → length a + size_of u < n → length b + size_of x < n
  app_room a b n g h =
      let l = gathered_length a b (parts_of f) g in
      let k = parts_length f in
      let s = app_size in omega (arith, l, k, s, h)

  pub app_room_last : (a b c : List TyNode) → Gathered a (parts_of f) b → Gathered b (parts_of x) c → length a + size_of u < 2 ^ 32 → length c < 2 ^ 32 - 1
  app_room_last a b c g h r =
      let l = gathered_length a b (parts_of f) g in
      let k = parts_length f in
      let m = gathered_length b c (parts_of x) h in
      let n = parts_length x in
      let s = app_size in omega (arith, l, k, m, n, s, r)

  pub app_nodes : (p q r : ℕ) → p ≡ min (size_of f) 1001 → q ≡ min (size_of x) 1001 → r ≡ min (1 + p + q) 1001 → r ≡ min (size_of u) 1001
  app_nodes p q r a b c = let s = app_size in omega (arith, s, a, b, c)

  pub app_smaller_head : size_of f < size_of u
  app_smaller_head = let s = app_size in omega (arith, s)

  pub app_smaller_arg : size_of x < size_of u
  app_smaller_arg = let s = app_size in omega (arith, s)
