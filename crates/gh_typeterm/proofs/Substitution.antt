-- Laws of substitution and size.
use Rattle.std.proofs.Common.{◌≡◌, ℕ, ◌+◌, ◌≤◌, ◌<◌, ◌||◌, ◌==◌, Bool, true, false, List, [], ◌∷◌, ◌++◌, Option, Some, None, map, unwrap_or, if◌then◌else◌, refl, sym, ap, ◌∙◌, arith, IsTrue, eq-eqb, inl, inr, ◌⊎◌, ◌≢◌, eqb-true, ne_eqb, append-nil}
use Rattle.std.specs.List.{list_any, flat_map}
use Rattle.std.proofs.lemmas.Grind.{flat_map-append}
use Rattle.std.proofs.lemmas.List.Folds.{list_any-append}
use Rattle.gh_base.specs.declared.place.TyCon.{TyCon}
use Rattle.gh_typeterm.specs.declared.ty.TyNode.{TyNode}
use Rattle.gh_typeterm.specs.declared.ty.TyNode.TheVariants as t
use Rattle.gh_typeterm.specs.Terms.{size_of, listed, image_of, substituted, substituted_step, vars_in, vars_step, has_var, applied, spine_of, spine_step}
use Rattle.gh_typeterm.proofs.Folds.{fold-Con, fold-Var, fold-App, fold-Name, folds, term_induction}

-- size_of, node by node
pub size_of-App : (f x : TyNode) → size_of (t.App f x) ≡ 1 + size_of f + size_of x
size_of-App f x = simp folds

pub size_positive : (term : TyNode) → 0 < size_of term
size_positive = term_induction (λ u. 0 < size_of u)
    (λ c. simp folds (omega arith)) (λ v. simp folds (omega arith)) (λ f x p q. simp folds (omega arith)) (λ n. simp folds (omega arith))

-- substituted, node by node
module _ (by : List (ℕ × TyNode)) where
  pub substituted-Var : (v : ℕ) → substituted by (t.Var v) ≡ image_of by v
  substituted-Var v = fold-Var TyNode (substituted_step by) v

  pub substituted-App : (f x : TyNode) → substituted by (t.App f x) ≡ t.App (substituted by f) (substituted by x)
  substituted-App f x = fold-App TyNode (substituted_step by) f x

-- no replacement changes nothing
pub substituted_empty : (term : TyNode) → substituted [] term ≡ term
substituted_empty = term_induction (λ u. substituted [] u ≡ u)
    (λ c. simp folds) (λ v. simp folds) (λ f x p q. simp (folds, p, q)) (λ n. simp folds)

-- what makes of each term what `first` and then `second` make of it
abbrev pub composed : List (ℕ × TyNode) → List (ℕ × TyNode) → List (ℕ × TyNode)
composed first second = map (λ p. (p.0, substituted second p.1)) first ++ second

image_choice : (second : List (ℕ × TyNode)) (b : Bool) (u : TyNode) (more rest : Option TyNode) (v : ℕ)
    → unwrap_or more (t.Var v) ≡ substituted second (unwrap_or rest (t.Var v))
    → unwrap_or (if b then Some (substituted second u) else more) (t.Var v) ≡ substituted second (unwrap_or (if b then Some u else rest) (t.Var v))
image_choice second true u more rest v e = refl
image_choice second false u more rest v e = e

pub image_composed : (first second : List (ℕ × TyNode)) (v : ℕ) → image_of (composed first second) v ≡ substituted second (image_of first v)
image_composed [] second v = sym (substituted-Var second v)
image_composed (p ∷ first) second v =
    image_choice second (p.0 == v) p.1 (listed (composed first second) v) (listed first v) v (image_composed first second v)

-- one substitution after another is one substitution
pub substituted_composed : (first second : List (ℕ × TyNode)) (term : TyNode)
    → substituted second (substituted first term) ≡ substituted (composed first second) term
substituted_composed first second = term_induction (λ u. substituted second (substituted first u) ≡ substituted (composed first second) u)
    (λ c. simp folds)
    (λ v. ap (substituted second) (substituted-Var first v) ∙ sym (image_composed first second v) ∙ sym (substituted-Var (composed first second) v))
    (λ f x p q. simp (folds, p, q)) (λ n. simp folds)

-- vars_in and has_var, node by node
pub has_var-Var : (v w : ℕ) → has_var v (t.Var w) ≡ (w == v) || false
has_var-Var v w = ap (list_any (λ u. u == v)) (fold-Var (List ℕ) vars_step w)

pub has_var-App : (v : ℕ) (f x : TyNode) → has_var v (t.App f x) ≡ has_var v f || has_var v x
has_var-App v f x =
    ap (list_any (λ w. w == v)) (fold-App (List ℕ) vars_step f x) ∙ list_any-append (λ w. w == v) (vars_in f) (vars_in x)

or_left : (a b : Bool) → IsTrue a → IsTrue (a || b)
or_left true b h = h
or_left false b h = absurd (cc)

or_right : (a b : Bool) → IsTrue b → IsTrue (a || b)
or_right true b h = refl
or_right false b h = h

or_elim : (a b : Bool) → IsTrue (a || b) → IsTrue a ⊎ IsTrue b
or_elim true b h = inl h
or_elim false b h = inr h

pub has_var_self : (v : ℕ) → IsTrue (has_var v (t.Var v))
has_var_self v = has_var-Var v v ∙ or_left (v == v) false (eq-eqb v v refl)

pub has_var_head : (v : ℕ) (f x : TyNode) → IsTrue (has_var v f) → IsTrue (has_var v (t.App f x))
has_var_head v f x h = has_var-App v f x ∙ or_left (has_var v f) (has_var v x) h

pub has_var_arg : (v : ℕ) (f x : TyNode) → IsTrue (has_var v x) → IsTrue (has_var v (t.App f x))
has_var_arg v f x h = has_var-App v f x ∙ or_right (has_var v f) (has_var v x) h

-- the only variable of a variable is itself
pub var_in_Var : (v w : ℕ) → IsTrue (has_var v (t.Var w)) → w ≡ v
var_in_Var v w h = elim (or_elim (w == v) false (sym (has_var-Var v w) ∙ h)) [ inl e ↦ eqb-true w v e | inr e ↦ absurd (cc) ]

pub var_in_App : (v : ℕ) (f x : TyNode) → IsTrue (has_var v (t.App f x)) → IsTrue (has_var v f) ⊎ IsTrue (has_var v x)
var_in_App v f x h = or_elim (has_var v f) (has_var v x) (sym (has_var-App v f x) ∙ h)

pub no_var_in_Con : (v : ℕ) (c : TyCon) → has_var v (t.Con c) ≡ false
no_var_in_Con v c = ap (list_any (λ w. w == v)) (fold-Con (List ℕ) vars_step c)

pub no_var_in_Name : (v n : ℕ) → has_var v (t.Name n) ≡ false
no_var_in_Name v n = ap (list_any (λ w. w == v)) (fold-Name (List ℕ) vars_step n)

-- the two lists of replacements make the same of each variable of the term
abbrev pub AgreeOn : List (ℕ × TyNode) → List (ℕ × TyNode) → TyNode → Type 0
AgreeOn by with term = (v : ℕ) → IsTrue (has_var v term) → image_of by v ≡ image_of with v

-- what a substitution makes of a term depends on the images of its variables alone
pub substituted_agrees : (by with : List (ℕ × TyNode)) (term : TyNode) → AgreeOn by with term → substituted by term ≡ substituted with term
substituted_agrees by with = term_induction (λ u. AgreeOn by with u → substituted by u ≡ substituted with u)
    (λ c agree. simp folds)
    (λ v agree. substituted-Var by v ∙ agree v (has_var_self v) ∙ sym (substituted-Var with v))
    (λ f x p q agree. substituted-App by f x
    ∙ (λ i. t.App (p (λ v h. agree v (has_var_head v f x h)) i) (q (λ v h. agree v (has_var_arg v f x h)) i))
    ∙ sym (substituted-App with f x))
    (λ n agree. simp folds)

-- a substitution that touches no variable of the term leaves it
pub substituted_same : (by : List (ℕ × TyNode)) (term : TyNode)
    → ((v : ℕ) → IsTrue (has_var v term) → listed by v ≡ None) → substituted by term ≡ term
substituted_same by term h =
    substituted_agrees by [] term (λ v e. ap (λ o. unwrap_or o (t.Var v)) (h v e)) ∙ substituted_empty term

-- the images of a term's variables are in its image
pub size_image : (by : List (ℕ × TyNode)) (v : ℕ) (term : TyNode) → IsTrue (has_var v term) → size_of (image_of by v) ≤ size_of (substituted by term)
size_image by v = term_induction (λ u. IsTrue (has_var v u) → size_of (image_of by v) ≤ size_of (substituted by u))
    (λ c h. let e = no_var_in_Con v c in absurd (cc))
    (λ w h. rw (substituted-Var by w, var_in_Var v w h) (omega arith))
    (λ f x p q h.
    let whole : size_of (substituted by (t.App f x)) ≡ 1 + size_of (substituted by f) + size_of (substituted by x)
    = ap size_of (substituted-App by f x) ∙ size_of-App (substituted by f) (substituted by x) in
    elim (var_in_App v f x h) [ inl e ↦ let small = p e in omega arith | inr e ↦ let small = q e in omega arith ])
    (λ n h. let e = no_var_in_Name v n in absurd (cc))

-- a variable of an application has a smaller image than the application
pub size_image_in_App : (by : List (ℕ × TyNode)) (v : ℕ) (f x : TyNode) → IsTrue (has_var v (t.App f x))
    → size_of (image_of by v) < size_of (substituted by (t.App f x))
size_image_in_App by v f x h =
    let whole : size_of (substituted by (t.App f x)) ≡ 1 + size_of (substituted by f) + size_of (substituted by x)
    = ap size_of (substituted-App by f x) ∙ size_of-App (substituted by f) (substituted by x) in
    elim (var_in_App v f x h) [
      | inl e ↦ let small = size_image by v f e in omega arith
      | inr e ↦ let small = size_image by v x e in omega arith
    ]

-- so no substitution makes a variable equal to an application that it stands in
pub no_cycle : (by : List (ℕ × TyNode)) (v : ℕ) (f x : TyNode) → IsTrue (has_var v (t.App f x)) → image_of by v ≢ substituted by (t.App f x)
no_cycle by v f x h e =
    let small = size_image_in_App by v f x h in
    let equal : size_of (image_of by v) ≡ size_of (substituted by (t.App f x)) = ap size_of e in
    omega arith

-- a substitution makes no term smaller
pub size_grows : (by : List (ℕ × TyNode)) (term : TyNode) → size_of term ≤ size_of (substituted by term)
size_grows by = term_induction (λ u. size_of u ≤ size_of (substituted by u))
    (λ c. simp folds (omega arith))
    (λ v. let whole : size_of (t.Var v) ≡ 1 = simp folds in let more = size_positive (substituted by (t.Var v)) in omega arith)
    (λ f x p q.
    let whole : size_of (substituted by (t.App f x)) ≡ 1 + size_of (substituted by f) + size_of (substituted by x)
    = ap size_of (substituted-App by f x) ∙ size_of-App (substituted by f) (substituted by x) in
    let old = size_of-App f x in omega arith)
    (λ n. simp folds (omega arith))

-- the variables of an image are those of the images, in order
pub vars_in-substituted : (by : List (ℕ × TyNode)) (term : TyNode)
    → vars_in (substituted by term) ≡ flat_map (λ v. vars_in (image_of by v)) (vars_in term)
vars_in-substituted by = term_induction (λ u. vars_in (substituted by u) ≡ flat_map (λ v. vars_in (image_of by v)) (vars_in u))
    (λ c. simp folds)
    (λ v. ap vars_in (substituted-Var by v) ∙ sym (append-nil (vars_in (image_of by v))) ∙ sym (ap (flat_map (λ v. vars_in (image_of by v))) (fold-Var (List ℕ) vars_step v)))
    (λ f x p q. ap vars_in (substituted-App by f x) ∙ fold-App (List ℕ) vars_step (substituted by f) (substituted by x)
    ∙ (λ i. p i ++ q i) ∙ sym (flat_map-append (λ v. vars_in (image_of by v)) (vars_in f) (vars_in x))
    ∙ sym (ap (flat_map (λ v. vars_in (image_of by v))) (fold-App (List ℕ) vars_step f x)))
    (λ n. simp folds)

-- one replacement
pub image_here : (v : ℕ) (u : TyNode) (by : List (ℕ × TyNode)) → image_of ((v, u) ∷ by) v ≡ u
image_here v u by = ap (λ b. unwrap_or (if b then Some u else listed by v) (t.Var v)) (eq-eqb v v refl)

pub image_there : (v w : ℕ) (u : TyNode) (by : List (ℕ × TyNode)) → v ≢ w → image_of ((v, u) ∷ by) w ≡ image_of by w
image_there v w u by differ = ap (λ b. unwrap_or (if b then Some u else listed by w) (t.Var w)) (ne_eqb v w differ)

-- substitution goes through applied types
pub substituted-applied : (by : List (ℕ × TyNode)) (head : TyNode) (args : List TyNode)
    → substituted by (applied head args) ≡ applied (substituted by head) (map (substituted by) args)
substituted-applied by head [] = refl
substituted-applied by head (arg ∷ args) =
    substituted-applied by (t.App head arg) args ∙ ap (λ u. applied u (map (substituted by) args)) (substituted-App by head arg)

-- one more argument
pub applied-more : (head : TyNode) (args : List TyNode) (arg : TyNode) → applied head (args ++ arg ∷ []) ≡ t.App (applied head args) arg
applied-more head [] arg = refl
applied-more head (a ∷ args) arg = applied-more (t.App head a) args arg

-- a term is its head applied to its arguments
pub applied-spine : (term : TyNode) → applied (spine_of term).0 (spine_of term).1 ≡ term
applied-spine = term_induction (λ u. applied (spine_of u).0 (spine_of u).1 ≡ u)
    (λ c. simp folds) (λ v. simp folds)
    (λ f x p q.
    ap (λ (s : TyNode × List TyNode). applied s.0 s.1) (fold-App (TyNode × List TyNode) spine_step f x)
    ∙ applied-more (spine_of f).0 (spine_of f).1 (applied (spine_of x).0 (spine_of x).1)
    ∙ (λ i. t.App (p i) (q i)))
    (λ n. simp folds)
