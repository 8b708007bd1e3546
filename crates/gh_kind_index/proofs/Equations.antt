-- Hinze's two equations, and what is put for the variables of a kind-indexed type.
use Rattle.std.proofs.Common.{◌≡◌, ℕ, zero, suc, ◌+◌, ◌-◌, ◌<◌, ◌≤◌, List, [], ◌∷◌, length, map, Option, Some, None, option_map, slice_get, unwrap_or, refl, sym, ap, ◌∙◌, subst, arith, max}
use Rattle.std.proofs.lemmas.Option.{slice_get-map}
use Rattle.std.proofs.lemmas.List.{length-map}
use Rattle.gh_base.specs.declared.place.TyCon.{TyCon}
use Rattle.gh_base.specs.declared.place.Origin.{Origin}
use Rattle.gh_typeterm.specs.declared.kind.Kind.{Kind, map-Kind, roll-Kind, ind-Kind, fold-Kind, fold-roll-Kind}
use Rattle.gh_typeterm.specs.declared.kind.Kind.TheVariants as kind
use Rattle.gh_typeterm.specs.declared.kind.Kind.TheOpen.{Kind-F}
use Rattle.gh_typeterm.specs.declared.ty.TyNode.{TyNode}
use Rattle.gh_typeterm.specs.declared.ty.TyNode.TheVariants as ty
use Rattle.gh_typeterm.proofs.Folds.{fold-Con, fold-Var, fold-App, fold-Name, term_induction}
use Rattle.gh_core.specs.SameType.{Nameless, bound, free, con, applied, forall, any}
use Rattle.gh_core.specs.Typing.{closed_over, opened, arrow, arrows}
use Rattle.gh_kernel.specs.declared.functions.GenFun.{GenFun}
use Rattle.gh_kernel.specs.declared.functions.Dependency.{Dependency}
use Rattle.gh_kind_index.specs.KindIndex.{slot, base_step, base_at, variables_from, for_all, each_applied, function_of, Indexed, with_type, asked, at_arrow, at_star, index_step, indexed, kind_type_from, kind_type}
use Rattle.gh_kind_index.specs.Levels.{above, above_all}
use Rattle.gh_kind_index.specs.Laws.{Below, AllBelow, IsBound, AreBound, opened_at}
use Rattle.gh_kind_index.proofs.Putting.{put, also, also_all, Fits, below_more, all_below_more, below_for_all, fits_also, fits_also_all, put_for_all, put_agrees, all_put_agree, put_free, all_put_free, also_all_before, also_all_new, opened_closed}

module _ (P : Kind → Type 0) (star : P kind.Star) (to : (a b : Kind) → P a → P b → P (kind.Arrow a b)) where
  kind_layer : (y : Kind-F ((u : Kind) × P u)) → P (roll-Kind (map-Kind ((u : Kind) × P u) Kind (λ e. e.0) y))
  kind_layer Kind-F.Star = subst P (sym kind.rolls-Star) star
  kind_layer (Kind-F.Arrow a b) = subst P (sym (kind.rolls-Arrow a.0 b.0)) (to a.0 b.0 a.1 b.1)

  -- what holds of `*`, and of an arrow where it holds of its parts, holds of each kind
  pub kind_induction : (u : Kind) → P u
  kind_induction = ind-Kind P (λ x y is. subst (λ z. P (roll-Kind z)) is (kind_layer y))

-- ---- the two equations

fold_star : (fs : List GenFun) (others : List Nameless) → fold-Kind (Kind × Indexed) (index_step fs others) kind.Star ≡ (kind.Star, at_star others)
fold_star fs others = ap (fold-Kind (Kind × Indexed) (index_step fs others)) (sym kind.rolls-Star) ∙ fold-roll-Kind (Kind × Indexed) (index_step fs others) Kind-F.Star

fold_arrow : (fs : List GenFun) (others : List Nameless) (k l : Kind)
    → fold-Kind (Kind × Indexed) (index_step fs others) (kind.Arrow k l)
    ≡ index_step fs others (Kind-F.Arrow (fold-Kind (Kind × Indexed) (index_step fs others) k) (fold-Kind (Kind × Indexed) (index_step fs others) l))
fold_arrow fs others k l =
    ap (fold-Kind (Kind × Indexed) (index_step fs others)) (sym (kind.rolls-Arrow k l)) ∙ fold-roll-Kind (Kind × Indexed) (index_step fs others) (Kind-F.Arrow k l)

kind_kept : (fs : List GenFun) (others : List Nameless) (k : Kind) → (fold-Kind (Kind × Indexed) (index_step fs others) k).0 ≡ k
kind_kept fs others = kind_induction (λ k. (fold-Kind (Kind × Indexed) (index_step fs others) k).0 ≡ k)
    (ap (λ p. p.0) (fold_star fs others))
    (λ k l p q. ap (λ r. r.0) (fold_arrow fs others k l) ∙ (λ i. kind.Arrow (p i) (q i)))

pub indexed_star : (fs : List GenFun) (others : List Nameless) → indexed fs others kind.Star ≡ at_star others
indexed_star fs others = ap (λ p. p.1) (fold_star fs others)

pub indexed_arrow : (fs : List GenFun) (others : List Nameless) (k l : Kind) → indexed fs others (kind.Arrow k l) ≡ at_arrow fs k (indexed fs others k) (indexed fs others l)
indexed_arrow fs others k l =
    ap (λ p. p.1) (fold_arrow fs others k l) ∙ ap (λ z. at_arrow fs z (indexed fs others k) (indexed fs others l)) (kind_kept fs others k)

-- ---- free variables stay below the level

slot_below : (n : ℕ) (o : Option Nameless) (d : Nameless) (ts : List Nameless) (i : ℕ) → o ≡ slice_get ts i → AllBelow n ts → Below n d → Below n (unwrap_or o d)
slot_below n None d ts i e h b = b
slot_below n (Some t) d [] i e h b = absurd (cc)
slot_below n (Some t) d (s ∷ ts) zero e h b = let is : s ≡ t = cc in subst (Below n) is h.0
slot_below n (Some t) d (s ∷ ts) (suc i) e h b = slot_below n (Some t) d ts i e h.1 b

pub base_below : (n : ℕ) (ts others : List Nameless) → AllBelow n ts → AllBelow n others → (u : TyNode) → Below n (base_at ts others u)
base_below n ts others h g = term_induction (λ u. Below n (base_at ts others u))
    (λ c. subst (Below n) (sym (fold-Con Nameless (base_step ts others) c)) tt)
    (λ x. subst (Below n) (sym (fold-Var Nameless (base_step ts others) x))
    (slot_below n (slice_get ts x) (unwrap_or (slice_get others (x - length ts)) (any kind.Star)) ts x refl h
    (slot_below n (slice_get others (x - length ts)) (any kind.Star) others (x - length ts) refl g tt)))
    (λ f x p q. subst (Below n) (sym (fold-App Nameless (base_step ts others) f x)) (p, q))
    (λ m. subst (Below n) (sym (fold-Name Nameless (base_step ts others) m)) tt)

pub variables_below : (level n c : ℕ) → level + c ≤ n → AllBelow n (variables_from level c)
variables_below level n zero le = tt
variables_below level n (suc c) le = (omega arith, variables_below (suc level) n c (omega arith))

pub applied_below : (n : ℕ) (ts us : List Nameless) → AllBelow n ts → AllBelow n us → AllBelow n (each_applied ts us)
applied_below n [] us h g = tt
applied_below n (t ∷ ts) [] h g = tt
applied_below n (t ∷ ts) (u ∷ us) h g = ((h.0, g.0), applied_below n ts us h.1 g.1)

pub arrows_below : (n : ℕ) (ts : List Nameless) (t : Nameless) → AllBelow n ts → Below n t → Below n (arrows ts t)
arrows_below n [] t h g = g
arrows_below n (u ∷ ts) t h g = ((tt, h.0), arrows_below n ts t h.1 g)

-- what holds of one kind's types
abbrev StaysBelow : List GenFun → List Nameless → Kind → Type 0
StaysBelow fs others k = (f : GenFun) (n : ℕ) (ts : List Nameless) → AllBelow n others → AllBelow n ts → Below n (indexed fs others k f n ts)

with_below : (o : Option GenFun) (by : Indexed) (n : ℕ) (ts rest : List Nameless) → ((f : GenFun) → Below n (by f n ts)) → AllBelow n rest → AllBelow n (with_type o by n ts rest)
with_below None by n ts rest h g = g
with_below (Some f) by n ts rest h g = (h f, g)

pub asked_below : (fs : List GenFun) (by : Indexed) (n : ℕ) (ts : List Nameless) (ds : List Dependency) → ((f : GenFun) → Below n (by f n ts)) → AllBelow n (asked fs by n ts ds)
asked_below fs by n ts [] h = tt
asked_below fs by n ts (d ∷ ds) h = with_below (function_of fs d.function) by n ts (asked fs by n ts ds) h (asked_below fs by n ts ds h)

pub stays_below : (fs : List GenFun) (others : List Nameless) (k : Kind) → StaysBelow fs others k
stays_below fs others = kind_induction (StaysBelow fs others)
    (λ f n ts g h. subst (λ by. Below n (by f n ts)) (sym (indexed_star fs others)) (base_below n ts others h g f.base))
    (λ k l p q f n ts g h. subst (λ by. Below n (by f n ts)) (sym (indexed_arrow fs others k l))
    (let more = all_below_more n (n + length ts) others (omega arith) g in
    let new = variables_below n (n + length ts) (length ts) (omega arith) in
    below_for_all k n (length ts) (arrows (asked fs (indexed fs others k) (n + length ts) (variables_from n (length ts)) f.dependencies) (indexed fs others l f (n + length ts) (each_applied ts (variables_from n (length ts)))))
    (arrows_below (n + length ts) _ _
    (asked_below fs (indexed fs others k) (n + length ts) (variables_from n (length ts)) f.dependencies (λ y. p y (n + length ts) (variables_from n (length ts)) more new))
    (q f (n + length ts) (each_applied ts (variables_from n (length ts))) more
    (applied_below (n + length ts) ts (variables_from n (length ts)) (all_below_more n (n + length ts) ts (omega arith) h) new)))))

-- ---- putting goes through

slot_put : (σ : ℕ → Nameless) (o : Option Nameless) (d : Nameless) → put σ (unwrap_or o d) ≡ unwrap_or (option_map (put σ) o) (put σ d)
slot_put σ None d = refl
slot_put σ (Some t) d = refl

slots_put : (σ : ℕ → Nameless) (ts others : List Nameless) (x : ℕ) → put σ (slot ts others x) ≡ slot (map (put σ) ts) (map (put σ) others) x
slots_put σ ts others x =
    slot_put σ (slice_get ts x) (unwrap_or (slice_get others (x - length ts)) (any kind.Star))
    ∙ (λ i. unwrap_or (sym (slice_get-map (put σ) ts x) i)
    ((slot_put σ (slice_get others (x - length ts)) (any kind.Star)
    ∙ ap (λ o. unwrap_or o (any kind.Star)) (sym (slice_get-map (put σ) others (x - length ts)))
    ∙ ap (λ n. unwrap_or (slice_get (map (put σ) others) (x - n)) (any kind.Star)) (sym (length-map ts (put σ)))) i))

base_put : (σ : ℕ → Nameless) (ts others : List Nameless) (u : TyNode) → put σ (base_at ts others u) ≡ base_at (map (put σ) ts) (map (put σ) others) u
base_put σ ts others = term_induction (λ u. put σ (base_at ts others u) ≡ base_at (map (put σ) ts) (map (put σ) others) u)
    (λ c. ap (put σ) (fold-Con Nameless (base_step ts others) c) ∙ sym (fold-Con Nameless (base_step (map (put σ) ts) (map (put σ) others)) c))
    (λ x. ap (put σ) (fold-Var Nameless (base_step ts others) x) ∙ slots_put σ ts others x ∙ sym (fold-Var Nameless (base_step (map (put σ) ts) (map (put σ) others)) x))
    (λ f x p q. ap (put σ) (fold-App Nameless (base_step ts others) f x) ∙ (λ i. applied (p i) (q i)) ∙ sym (fold-App Nameless (base_step (map (put σ) ts) (map (put σ) others)) f x))
    (λ m. ap (put σ) (fold-Name Nameless (base_step ts others) m) ∙ sym (fold-Name Nameless (base_step (map (put σ) ts) (map (put σ) others)) m))

applied_put : (σ : ℕ → Nameless) (ts us : List Nameless) → map (put σ) (each_applied ts us) ≡ each_applied (map (put σ) ts) (map (put σ) us)
applied_put σ [] us = refl
applied_put σ (t ∷ ts) [] = refl
applied_put σ (t ∷ ts) (u ∷ us) = ap (λ rest. applied (put σ t) (put σ u) ∷ rest) (applied_put σ ts us)

arrows_put : (σ : ℕ → Nameless) (ts : List Nameless) (t : Nameless) → put σ (arrows ts t) ≡ arrows (map (put σ) ts) (put σ t)
arrows_put σ [] t = refl
arrows_put σ (u ∷ ts) t = ap (arrow (put σ u)) (arrows_put σ ts t)

with_put : (σ : ℕ → Nameless) (o : Option GenFun) (by by' : Indexed) (n m : ℕ) (ts ts' rest rest' : List Nameless)
    → ((f : GenFun) → put σ (by f n ts) ≡ by' f m ts') → map (put σ) rest ≡ rest' → map (put σ) (with_type o by n ts rest) ≡ with_type o by' m ts' rest'
with_put σ None by by' n m ts ts' rest rest' h e = e
with_put σ (Some f) by by' n m ts ts' rest rest' h e = λ i. h f i ∷ e i

asked_put : (σ : ℕ → Nameless) (fs : List GenFun) (by by' : Indexed) (n m : ℕ) (ts ts' : List Nameless) (ds : List Dependency)
    → ((f : GenFun) → put σ (by f n ts) ≡ by' f m ts') → map (put σ) (asked fs by n ts ds) ≡ asked fs by' m ts' ds
asked_put σ fs by by' n m ts ts' [] h = refl
asked_put σ fs by by' n m ts ts' (d ∷ ds) h =
    with_put σ (function_of fs d.function) by by' n m ts ts' (asked fs by n ts ds) (asked fs by' m ts' ds) h (asked_put σ fs by by' n m ts ts' ds h)

abbrev IsPut : List GenFun → List Nameless → Kind → Type 0
IsPut fs others k = (σ : ℕ → Nameless) (f : GenFun) (n m : ℕ) (ts : List Nameless) → Fits σ n m → AllBelow n others → AllBelow n ts
    → put σ (indexed fs others k f n ts) ≡ indexed fs (map (put σ) others) k f m (map (put σ) ts)

-- what is under the binders of an arrow, with other types put for the variables
pub under_put : (fs : List GenFun) (others others' : List Nameless) (k l : Kind) → IsPut fs others k → IsPut fs others l
    → (τ : ℕ → Nameless) (f : GenFun) (n m c : ℕ) (ts ts' us us' : List Nameless) → Fits τ (n + c) m → AllBelow (n + c) others → AllBelow (n + c) ts → AllBelow (n + c) us
    → map (put τ) others ≡ others' → map (put τ) ts ≡ ts' → map (put τ) us ≡ us'
    → put τ (arrows (asked fs (indexed fs others k) (n + c) us f.dependencies) (indexed fs others l f (n + c) (each_applied ts us)))
    ≡ arrows (asked fs (indexed fs others' k) m us' f.dependencies) (indexed fs others' l f m (each_applied ts' us'))
under_put fs others others' k l p q τ f n m c ts ts' us us' fits g h new eo et eu =
    arrows_put τ (asked fs (indexed fs others k) (n + c) us f.dependencies) (indexed fs others l f (n + c) (each_applied ts us))
    ∙ (λ i. arrows
    (asked_put τ fs (indexed fs others k) (indexed fs others' k) (n + c) m us us' f.dependencies
    (λ y. p τ y (n + c) m us fits g new ∙ (λ j. indexed fs (eo j) k y m (eu j))) i)
    ((q τ f (n + c) m (each_applied ts us) fits g (applied_below (n + c) ts us h new)
    ∙ (λ j. indexed fs (eo j) l f m ((applied_put τ ts us ∙ (λ a. each_applied (et a) (eu a))) j))) i))

pub is_put : (fs : List GenFun) (others : List Nameless) (k : Kind) → IsPut fs others k
is_put fs others = kind_induction (IsPut fs others)
    (λ σ f n m ts fits g h.
    ap (λ by. put σ (by f n ts)) (indexed_star fs others) ∙ base_put σ ts others f.base ∙ sym (ap (λ by. by f m (map (put σ) ts)) (indexed_star fs (map (put σ) others))))
    (λ k l p q σ f n m ts fits g h.
    let c = length ts in
    let τ = also_all σ n m c in
    let more = all_below_more n (n + c) others (omega arith) g in
    let inside = all_below_more n (n + c) ts (omega arith) h in
    let new = variables_below n (n + c) c (omega arith) in
    let before : (x : ℕ) → x < n → τ x ≡ σ x = λ x lt. also_all_before σ n m c x lt in
    let body = arrows (asked fs (indexed fs others k) (n + c) (variables_from n c) f.dependencies) (indexed fs others l f (n + c) (each_applied ts (variables_from n c))) in
    ap (λ by. put σ (by f n ts)) (indexed_arrow fs others k l)
    ∙ put_for_all σ n m c k body fits
    (arrows_below (n + c) _ _
    (asked_below fs (indexed fs others k) (n + c) (variables_from n c) f.dependencies (λ y. stays_below fs others k y (n + c) (variables_from n c) more new))
    (stays_below fs others l f (n + c) (each_applied ts (variables_from n c)) more (applied_below (n + c) ts (variables_from n c) inside new)))
    ∙ ap (for_all k m c)
    (under_put fs others (map (put σ) others) k l p q τ f n (m + c) c ts (map (put σ) ts) (variables_from n c) (variables_from m c)
    (fits_also_all σ n m c fits) more inside new
    (all_put_agree τ σ n others before g) (all_put_agree τ σ n ts before h) (also_all_new σ n m c))
    ∙ (λ i. for_all k m (sym (length-map ts (put σ)) i)
    (arrows (asked fs (indexed fs (map (put σ) others) k) (m + sym (length-map ts (put σ)) i) (variables_from m (sym (length-map ts (put σ)) i)) f.dependencies)
    (indexed fs (map (put σ) others) l f (m + sym (length-map ts (put σ)) i) (each_applied (map (put σ) ts) (variables_from m (sym (length-map ts (put σ)) i))))))
    ∙ sym (ap (λ by. by f m (map (put σ) ts)) (indexed_arrow fs (map (put σ) others) k l)))
