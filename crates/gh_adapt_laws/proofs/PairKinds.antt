-- The types of pairs at kinds: their equations, their kind, and where their variables stand.
use Rattle.std.proofs.Common.{◌≡◌, ℕ, zero, suc, ◌+◌, ◌<◌, ◌≤◌, Bool, true, false, cond, ◌==◌, ◌&&◌, List, [], ◌∷◌, ◌++◌, length, map, max, Some, None, slice_get, refl, sym, ap, ◌∙◌, subst, arith}
use Rattle.std.proofs.lemmas.Bool.{eqb-true}
use Rattle.std.proofs.lemmas.Option.{slice_get_within}
use Rattle.gh_base.specs.declared.fixed.TheConstants.{EP}
use Rattle.gh_base.specs.declared.place.Origin.{Origin}
use Rattle.gh_base.specs.declared.place.Space.{Space}
use Rattle.gh_base.specs.declared.place.Space.TheVariants.{Values, Types}
use Rattle.gh_base.specs.declared.place.TyCon.TheVariants as tycon
use Rattle.gh_typeterm.specs.declared.kind.Kind.{Kind}
use Rattle.gh_typeterm.specs.declared.kind.Kind.TheVariants as kind
use Rattle.gh_typeterm.specs.declared.decl.DeclData.{DeclData}
use Rattle.gh_typeterm.specs.declared.ty.TyNode.TheVariants as ty
use Rattle.gh_typeterm.proofs.Folds.{fold-Con, fold-Var, fold-App}
use Rattle.gh_core.specs.Primitives.{same_origin, same_space}
use Rattle.gh_core.specs.SameType.{Nameless, bound, free, con, applied, forall, any}
use Rattle.gh_core.specs.Typing.{Program, Kinds, level_in, kind_at, placed, opened, closed_over, layered, arrow, arrows, prelude_type, decl_kind, HasKind}
use Rattle.gh_kind_index.specs.KindIndex.{base_step, base_at, Indexed, with_type, asked, indexed}
use Rattle.gh_kind_index.specs.Levels.{above_all}
use Rattle.gh_kind_index.specs.Laws.{Below, IsBound, opened_at}
use Rattle.gh_kind_index.proofs.Putting.{put, Fits, equal_is, unequal_is}
use Rattle.gh_kind_index.proofs.Equations.{kind_induction, indexed_star, indexed_arrow, is_put}
use Rattle.gh_kind_index.proofs.Opening.{any_level, at_arguments}
use Rattle.gh_kind_index.proofs.Whole.{below_above_all}
use Rattle.gh_adapt.specs.Pairs.{ep}
use Rattle.gh_adapt.specs.TypedPairs.{ep_type, ep_function}
use Rattle.gh_adapt_laws.specs.PairTypes.{HasPairs, pair_type}

-- ---- names

self_space : (s : Space) → same_space s s ≡ true
self_space Values = refl
self_space Types = refl

three : (a b c : Bool) → a ≡ true → b ≡ true → c ≡ true → (a && b && c) ≡ true
three a b c e f g = λ i. e i && f i && g i

pub origin_self : (o : Origin) → same_origin o o ≡ true
origin_self o =
    three (o.«module».0 == o.«module».0) (same_space o.space o.space) (o.name.0 == o.name.0) (equal_is o.«module».0 o.«module».0 refl) (self_space o.space) (equal_is o.name.0 o.name.0 refl)

-- ---- kinds and levels

pub kind_within : (ks : Kinds) (l : ℕ) (k : Kind) → kind_at ks l ≡ Some k → l < length ks
kind_within [] l k h = absurd (cc)
kind_within (e ∷ ks) l k h =
    elim (l == length ks) as (λ b. (l == length ks) ≡ b → l < suc (length ks)) [
      | true ↦ (λ s. let is = eqb-true l (length ks) s in omega arith)
      | false ↦ (λ s. let lt = kind_within ks l k (sym (ap (λ b. cond b (Some e.1) (kind_at ks l)) s) ∙ h) in omega arith)
    ] refl

-- a type with a kind has no variable but those round it
pub kind_below : (decls : List DeclData) (ks : Kinds) (bs : List Kind) (t : Nameless) (k : Kind) → HasKind decls ks bs t k → Below (length ks) t
kind_below decls ks bs (bound i) k h = tt
kind_below decls ks bs (free l) k h = kind_within ks l k h
kind_below decls ks bs (con c) k h = tt
kind_below decls ks bs (applied f x) k h = (kind_below decls ks bs f (kind.Arrow h.0 k) h.1, kind_below decls ks bs x h.0 h.2)
kind_below decls ks bs (forall l b) k h = kind_below decls ks (l ∷ bs) b kind.Star h.1
kind_below decls ks bs (any l) k h = tt

pub kind_bound : (decls : List DeclData) (ks : Kinds) (bs : List Kind) (t : Nameless) (k : Kind) → HasKind decls ks bs t k → IsBound (length bs) t
kind_bound decls ks bs (bound i) k h = slice_get_within bs i k h
kind_bound decls ks bs (free l) k h = tt
kind_bound decls ks bs (con c) k h = tt
kind_bound decls ks bs (applied f x) k h = (kind_bound decls ks bs f (kind.Arrow h.0 k) h.1, kind_bound decls ks bs x h.0 h.2)
kind_bound decls ks bs (forall l b) k h = kind_bound decls ks (l ∷ bs) b kind.Star h.1
kind_bound decls ks bs (any l) k h = tt

pub kind_last : (ks : Kinds) (x : ℕ) (k : Kind) → kind_at ((x, k) ∷ ks) (length ks) ≡ Some k
kind_last ks x k = ap (λ b. cond b (Some k) (kind_at ks (length ks))) (equal_is (length ks) (length ks) refl)

pub kind_at_more : (ks : Kinds) (x : ℕ) (k' : Kind) (l : ℕ) (k : Kind) → kind_at ks l ≡ Some k → kind_at ((x, k') ∷ ks) l ≡ Some k
kind_at_more ks x k' l k h = ap (λ b. cond b (Some k') (kind_at ks l)) (unequal_is l (length ks) (let lt = kind_within ks l k h in λ e. omega arith)) ∙ h

-- inside one type variable more
pub kind_more : (decls : List DeclData) (ks : Kinds) (x : ℕ) (k' : Kind) (bs : List Kind) (t : Nameless) (k : Kind) → HasKind decls ks bs t k → HasKind decls ((x, k') ∷ ks) bs t k
kind_more decls ks x k' bs (bound i) k h = h
kind_more decls ks x k' bs (free l) k h = kind_at_more ks x k' l k h
kind_more decls ks x k' bs (con c) k h = h
kind_more decls ks x k' bs (applied f y) k h = (h.0, kind_more decls ks x k' bs f (kind.Arrow h.0 k) h.1, kind_more decls ks x k' bs y h.0 h.2)
kind_more decls ks x k' bs (forall l b) k h = (h.0, kind_more decls ks x k' (l ∷ bs) b kind.Star h.1)
kind_more decls ks x k' bs (any l) k h = h

get_more : (bs rest : List Kind) (i : ℕ) (k : Kind) → slice_get bs i ≡ Some k → slice_get (bs ++ rest) i ≡ Some k
get_more [] rest i k h = absurd (cc)
get_more (b ∷ bs) rest zero k h = h
get_more (b ∷ bs) rest (suc i) k h = get_more bs rest i k h

get_last : (bs : List Kind) (k : Kind) → slice_get (bs ++ k ∷ []) (length bs) ≡ Some k
get_last [] k = refl
get_last (b ∷ bs) k = get_last bs k

-- a binder over the last variable
pub kind_closed : (decls : List DeclData) (ks : Kinds) (x : ℕ) (k' : Kind) (bs : List Kind) (t : Nameless) (k : Kind)
    → HasKind decls ((x, k') ∷ ks) bs t k → HasKind decls ks (bs ++ k' ∷ []) (closed_over (length ks) (length bs) t) k
kind_closed decls ks x k' bs (bound i) k h = get_more bs (k' ∷ []) i k h
kind_closed decls ks x k' bs (free l) k h =
    elim (l == length ks) as (λ b. (l == length ks) ≡ b → HasKind decls ks (bs ++ k' ∷ []) (closed_over (length ks) (length bs) (free l)) k) [
      | true ↦ (λ e. subst (λ b. HasKind decls ks (bs ++ k' ∷ []) (cond b (bound (length bs)) (free l)) k) (sym e)
          (get_last bs k' ∙ sym (ap (λ b. cond b (Some k') (kind_at ks l)) e) ∙ h))
      | false ↦ (λ e. subst (λ b. HasKind decls ks (bs ++ k' ∷ []) (cond b (bound (length bs)) (free l)) k) (sym e)
          (sym (ap (λ b. cond b (Some k') (kind_at ks l)) e) ∙ h))
    ] refl
kind_closed decls ks x k' bs (con c) k h = h
kind_closed decls ks x k' bs (applied f y) k h = (h.0, kind_closed decls ks x k' bs f (kind.Arrow h.0 k) h.1, kind_closed decls ks x k' bs y h.0 h.2)
kind_closed decls ks x k' bs (forall l b) k h = (h.0, kind_closed decls ks x k' (l ∷ bs) b kind.Star h.1)
kind_closed decls ks x k' bs (any l) k h = h

-- ---- the types of pairs

-- the type of a pair at a kind, its new variables having the numbers from n on
abbrev pub ep_at : ℕ → Kind → Nameless → Nameless → Nameless
ep_at n k a b = indexed (ep_function ∷ []) [] k ep_function n (a ∷ b ∷ [])

asked_self : (by : Indexed) (n : ℕ) (ts : List Nameless) → asked (ep_function ∷ []) by n ts ep_function.dependencies ≡ by ep_function n ts ∷ []
asked_self by n ts = ap (λ b. with_type (cond b (Some ep_function) None) by n ts []) (origin_self ep)

ep_base : (a b : Nameless) → base_at (a ∷ b ∷ []) [] ep_function.base ≡ ep_type a b
ep_base a b =
    let ts : List Nameless = a ∷ b ∷ [] in
    fold-App Nameless (base_step ts []) (ty.App (ty.Con (prelude_type EP)) (ty.Var 0)) (ty.Var 1)
    ∙ (λ i. applied
    ((fold-App Nameless (base_step ts []) (ty.Con (prelude_type EP)) (ty.Var 0)
    ∙ (λ j. applied (fold-Con Nameless (base_step ts []) (prelude_type EP) j) (fold-Var Nameless (base_step ts []) 0 j))) i)
    (fold-Var Nameless (base_step ts []) 1 i))

pub ep_star : (n : ℕ) (a b : Nameless) → ep_at n kind.Star a b ≡ ep_type a b
ep_star n a b = ap (λ (by : Indexed). by ep_function n (a ∷ b ∷ [])) (indexed_star (ep_function ∷ []) []) ∙ ep_base a b

-- what is under the two binders of the type of a pair at an arrow
abbrev pub under_two : ℕ → Kind → Kind → Nameless → Nameless → Nameless
under_two n k l f g = arrow (ep_at (suc (suc n)) k (free n) (free (suc n))) (ep_at (suc (suc n)) l (applied f (free n)) (applied g (free (suc n))))

pub ep_arrow : (n : ℕ) (k l : Kind) (f g : Nameless)
    → ep_at n (kind.Arrow k l) f g ≡ forall k (closed_over n 0 (forall k (closed_over (suc n) 0 (under_two n k l f g))))
ep_arrow n k l f g =
    let two : n + 2 ≡ suc (suc n) = omega arith in
    let vs : List Nameless = free n ∷ free (suc n) ∷ [] in
    ap (λ (by : Indexed). by ep_function n (f ∷ g ∷ [])) (indexed_arrow (ep_function ∷ []) [] k l)
    ∙ ap (λ us. forall k (closed_over n 0 (forall k (closed_over (suc n) 0 (arrows us (ep_at (n + 2) l (applied f (free n)) (applied g (free (suc n)))))))))
    (asked_self (indexed (ep_function ∷ []) [] k) (n + 2) vs)
    ∙ ap (λ m. forall k (closed_over n 0 (forall k (closed_over (suc n) 0 (arrow (ep_at m k (free n) (free (suc n))) (ep_at m l (applied f (free n)) (applied g (free (suc n)))))))))
    two

-- at two types of its kind
pub ep_given : (n : ℕ) (k l : Kind) (f g u v : Nameless) → Below n f → Below n g → Below n u → Below n v → IsBound 0 f → IsBound 0 g → IsBound 0 u → IsBound 0 v
    → opened_at (u ∷ v ∷ []) (ep_at n (kind.Arrow k l) f g) ≡ arrow (ep_at n k u v) (ep_at n l (applied f u) (applied g v))
ep_given n k l f g u v bf bg bu bv cf cg cu cv =
    at_arguments (ep_function ∷ []) [] k l ep_function n (f ∷ g ∷ []) (u ∷ v ∷ []) refl tt (bf, (bg, tt)) (bu, (bv, tt)) tt (cf, (cg, tt)) (cu, (cv, tt))
    ∙ ap (λ us. arrows us (ep_at n l (applied f u) (applied g v))) (asked_self (indexed (ep_function ∷ []) [] k) n (u ∷ v ∷ []))

-- the numbers of new variables play no part
pub ep_any : (n m : ℕ) (k : Kind) (a b : Nameless) → n ≤ m → Below n a → Below n b → ep_at n k a b ≡ ep_at m k a b
ep_any n m k a b le ba bb = any_level (ep_function ∷ []) [] k ep_function n m (a ∷ b ∷ []) le tt (ba, (bb, tt))

-- ---- their kind

pub ep_type_kind : (p : Program) (ks : Kinds) (a b : Nameless) → HasPairs p → HasKind p.decls ks [] a kind.Star → HasKind p.decls ks [] b kind.Star
    → HasKind p.decls ks [] (ep_type a b) kind.Star
ep_type_kind p ks a b known ka kb = (kind.Star, (kind.Star, ap decl_kind known.there, ka), kb)

abbrev IsType : Program → Kind → Type 0
IsType p k = (ks : Kinds) (u v : Nameless) → HasKind p.decls ks [] u k → HasKind p.decls ks [] v k → HasKind p.decls ks [] (ep_at (length ks) k u v) kind.Star

pub ep_kind : (p : Program) → HasPairs p → (k : Kind) → IsType p k
ep_kind p known = kind_induction (IsType p)
    (λ ks u v ku kv. subst (λ z. HasKind p.decls ks [] z kind.Star) (sym (ep_star (length ks) u v)) (ep_type_kind p ks u v known ku kv))
    (λ k l one more ks u v ku kv.
    let n = length ks in
    let ks1 : Kinds = (n, k) ∷ ks in
    let ks2 : Kinds = (suc n, k) ∷ ks1 in
    let first : HasKind p.decls ks2 [] (free n) k = kind_at_more ks1 (suc n) k n k (kind_last ks n k) in
    let second : HasKind p.decls ks2 [] (free (suc n)) k = kind_last ks1 (suc n) k in
    let f = kind_more p.decls ks1 (suc n) k [] u (kind.Arrow k l) (kind_more p.decls ks n k [] u (kind.Arrow k l) ku) in
    let g = kind_more p.decls ks1 (suc n) k [] v (kind.Arrow k l) (kind_more p.decls ks n k [] v (kind.Arrow k l) kv) in
    let body : HasKind p.decls ks2 [] (under_two n k l u v) kind.Star =
    (kind.Star, (kind.Star, refl, one ks2 (free n) (free (suc n)) first second), more ks2 (applied u (free n)) (applied v (free (suc n))) (k, f, first) (k, g, second)) in
    let inner : HasKind p.decls ks1 [] (forall k (closed_over (suc n) 0 (under_two n k l u v))) kind.Star = (refl, kind_closed p.decls ks1 (suc n) k [] (under_two n k l u v) kind.Star body) in
    subst (λ z. HasKind p.decls ks [] z kind.Star) (sym (ep_arrow n k l u v))
    (refl, kind_closed p.decls ks n k [] (forall k (closed_over (suc n) 0 (under_two n k l u v))) kind.Star inner))

-- ---- where their variables stand

-- no layer of a constructor stands in it
abbrev pub Kept : Nameless → Type 0
Kept (bound i) = Unit {0}
Kept (free x) = Unit {0}
Kept (con c) = layered c ≡ c
Kept (applied f x) = Kept f × Kept x
Kept (forall k b) = Kept b
Kept (any k) = Unit {0}

abbrev pub place : Kinds → ℕ → Nameless
place ks x = free (level_in ks x (length ks))

placed_put : (ks : Kinds) (t : Nameless) → Kept t → placed ks t ≡ put (place ks) t
placed_put ks (bound i) h = refl
placed_put ks (free x) h = refl
placed_put ks (con c) h = ap con h
placed_put ks (applied f x) h = λ i. applied (placed_put ks f h.0 i) (placed_put ks x h.1 i)
placed_put ks (forall k b) h = ap (forall k) (placed_put ks b h)
placed_put ks (any k) h = refl

kept_choice : (b : Bool) (d x : ℕ) → Kept (cond b (bound d) (free x))
kept_choice true d x = tt
kept_choice false d x = tt

kept_closed : (n d : ℕ) (t : Nameless) → Kept t → Kept (closed_over n d t)
kept_closed n d (bound i) h = tt
kept_closed n d (free x) h = kept_choice (x == n) d x
kept_closed n d (con c) h = h
kept_closed n d (applied f x) h = (kept_closed n d f h.0, kept_closed n d x h.1)
kept_closed n d (forall k b) h = kept_closed n (suc d) b h
kept_closed n d (any k) h = tt

abbrev StaysKept : Kind → Type 0
StaysKept k = (n : ℕ) (a b : Nameless) → Kept a → Kept b → Kept (ep_at n k a b)

kept_ep : (k : Kind) → StaysKept k
kept_ep = kind_induction StaysKept
    (λ n a b ka kb. subst Kept (sym (ep_star n a b)) ((refl, ka), kb))
    (λ k l one more n a b ka kb.
    subst Kept (sym (ep_arrow n k l a b))
    (kept_closed n 0 (forall k (closed_over (suc n) 0 (under_two n k l a b)))
    (kept_closed (suc n) 0 (under_two n k l a b)
    ((refl, one (suc (suc n)) (free n) (free (suc n)) tt tt), more (suc (suc n)) (applied a (free n)) (applied b (free (suc n))) (ka, tt) (kb, tt)))))

pub placed_ep : (ks : Kinds) (n m : ℕ) (k : Kind) (a b : Nameless) → Kept a → Kept b → Below n a → Below n b → Fits (place ks) n m
    → placed ks (ep_at n k a b) ≡ ep_at m k (placed ks a) (placed ks b)
placed_ep ks n m k a b ka kb ba bb fits =
    placed_put ks (ep_at n k a b) (kept_ep k n a b ka kb)
    ∙ is_put (ep_function ∷ []) [] k (place ks) ep_function n m (a ∷ b ∷ []) fits tt (ba, (bb, tt))
    ∙ (λ i. ep_at m k (sym (placed_put ks a ka) i) (sym (placed_put ks b kb) i))

-- a written type of a pair
pub placed_pair : (ks : Kinds) (m : ℕ) (k : Kind) (a b : Nameless) → Kept a → Kept b → Fits (place ks) (above_all (a ∷ b ∷ [])) m
    → placed ks (pair_type k a b) ≡ ep_at m k (placed ks a) (placed ks b)
placed_pair ks m k a b ka kb fits =
    let n = above_all (a ∷ b ∷ []) in
    let same : n + 0 ≡ n = omega arith in
    let below = below_above_all (a ∷ b ∷ []) in
    ap (λ j. placed ks (ep_at j k a b)) same ∙ placed_ep ks n m k a b ka kb below.0 below.1.0 fits
