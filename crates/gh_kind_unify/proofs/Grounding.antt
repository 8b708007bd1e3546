-- The least kinds that cells allow.
use Rattle.std.proofs.Common.{◌≡◌, ◌≢◌, ℕ, zero, suc, ◌+◌, ◌<◌, ◌≤◌, ◌⊎◌, List, [], ◌∷◌, length, set, get_or, take, inl, inr, Option, Some, None, slice_get, refl, sym, ap, ◌∙◌, subst, arith}
use Rattle.std.proofs.lemmas.Option.{slice_get_within, slice_get-get_or}
use Rattle.gh_typeterm.specs.declared.kind.Kind.{Kind}
use Rattle.gh_typeterm.specs.declared.kind.Kind.TheVariants as kind
use Rattle.gh_kind_unify.specs.declared.rules.Rule.{Rule}
use Rattle.gh_kind_unify.specs.declared.rules.Rule.TheVariants as rule
use Rattle.gh_kind_unify.specs.declared.cells.Cell.{Cell}
use Rattle.gh_kind_unify.specs.declared.cells.Cell.TheVariants as is
use Rattle.gh_kind_unify.specs.Kinds.{Tree, star, arrow, Kinds, tree, tree_in, nodes, arrows, listed, Meets, MeetsAll, IsBelow, AreBelow, InSize, IsLeastSolution, HasInSize, HasNone, HasOnlyLarger}
use Rattle.gh_kind_unify.specs.Cells.{cell, Fits, Holds, IsTidyAt, IsTidy}
use Rattle.gh_kind_unify.specs.Orders.{PartIn, IsPart, IsEndless, IsOrder, value, Grounded, IsBuilt, BuiltTo, Gives, HasLarger, Stops}
use Rattle.gh_kind_unify.specs.declared.build.Trouble.{Trouble}
use Rattle.gh_kind_unify.specs.declared.build.Trouble.TheVariants as trouble
use Rattle.gh_kind_unify.specs.Faults.{Says, Fails}
use Rattle.gh_kind_unify.proofs.Trees.{tree_star, tree_arrow, nodes_by_arrows}
use Rattle.gh_kind_unify.proofs.Holding.{at_or}
use Rattle.gh_kind_unify.proofs.Places.{below_or, get_set_same, get_set_other}

-- kinds as deep as a number
abbrev pub eval : List Cell → ℕ → Kinds
eval cells zero v = star
eval cells (suc n) v = value (eval cells n) (cell cells v)

value_agree : (c : Cell) (f g : Kinds) → ((w : ℕ) → PartIn c w → f w ≡ g w) → value f c ≡ value g c
value_agree is.Free f g h = refl
value_agree is.Star f g h = refl
value_agree (is.Arrow a b) f g h = λ i. arrow (h a (inl refl) i) (h b (inr refl) i)
value_agree (is.Link w) f g h = h w refl

stable : (cells : List Cell) (order : List ℕ) → IsOrder cells order → (bound p n v : ℕ) → p < bound → slice_get order p ≡ Some v → p < n
    → eval cells n v ≡ eval cells (suc p) v
stable cells order o zero p n v b at l = absurd (omega (arith, b))
stable cells order o (suc bound) p zero v b at l = absurd (omega (arith, l))
stable cells order o (suc bound) p (suc n) v b at l =
    value_agree (cell cells v) (eval cells n) (eval cells p) (λ w part.
    let q = o.parts p v w at part in
    let near = q.1 in
    stable cells order o bound q.0 n w (omega (arith, b, near)) q.2 (omega (arith, l, near))
    ∙ sym (stable cells order o bound q.0 p w (omega (arith, b, near)) q.2 near))

-- an order gives kinds that are as the cells say, with `*` where they say nothing
pub grounded : (cells : List Cell) (order : List ℕ) → IsOrder cells order → Grounded cells (eval cells (suc (length order)))
grounded cells order o v l =
    let e = o.every v l in
    value_agree (cell cells v) (eval cells (length order)) (eval cells (suc (length order))) (λ w part.
    let q = o.parts e.0 v w e.1 part in
    let near = q.1 in
    let in_list = slice_get_within order e.0 v e.1 in
    stable cells order o (length order) q.0 (length order) w (omega (arith, near, in_list)) q.2 (omega (arith, near, in_list))
    ∙ sym (stable cells order o (length order) q.0 (suc (length order)) w (omega (arith, near, in_list)) q.2 (omega (arith, near, in_list))))

fits_value : (ρ : Kinds) (v : ℕ) (c : Cell) → ρ v ≡ value ρ c → Fits ρ v c
fits_value ρ v is.Free e = tt
fits_value ρ v is.Star e = e
fits_value ρ v (is.Arrow a b) e = e
fits_value ρ v (is.Link w) e = e

pub grounded_holds : (cells : List Cell) (ρ : Kinds) → Grounded cells ρ → Holds ρ cells
grounded_holds cells ρ g v l = fits_value ρ v (cell cells v) (g v l)

least_value : (ρ σ : Kinds) (v : ℕ) (c : Cell) → ρ v ≡ value ρ c → Fits σ v c → ((w : ℕ) → PartIn c w → arrows (ρ w) ≤ arrows (σ w)) → arrows (ρ v) ≤ arrows (σ v)
least_value ρ σ v is.Free e f h = let k = ap arrows e in omega (arith, k)
least_value ρ σ v is.Star e f h = let k = ap arrows e in omega (arith, k)
least_value ρ σ v (is.Arrow a b) e f h =
    let k = ap arrows e in let m = ap arrows f in let p = h a (inl refl) in let q = h b (inr refl) in omega (arith, k, m, p, q)
least_value ρ σ v (is.Link w) e f h = let k = ap arrows e in let m = ap arrows f in let p = h w refl in omega (arith, k, m, p)

least_at : (cells : List Cell) (order : List ℕ) → IsOrder cells order → (ρ σ : Kinds) → Grounded cells ρ → Holds σ cells
    → (bound p v : ℕ) → p < bound → slice_get order p ≡ Some v → arrows (ρ v) ≤ arrows (σ v)
least_at cells order o ρ σ g h zero p v b at = absurd (omega (arith, b))
least_at cells order o ρ σ g h (suc bound) p v b at =
    let l = o.below p v at in
    least_value ρ σ v (cell cells v) (g v l) (h v l) (λ w part.
    let q = o.parts p v w at part in
    let near = q.1 in
    least_at cells order o ρ σ g h bound q.0 w (omega (arith, b, near)) q.2)

pub grounded_least : (cells : List Cell) (order : List ℕ) → IsOrder cells order → (ρ σ : Kinds) → Grounded cells ρ → Holds σ cells
    → (v : ℕ) → v < length cells → arrows (ρ v) ≤ arrows (σ v)
grounded_least cells order o ρ σ g h v l = let e = o.every v l in least_at cells order o ρ σ g h (suc e.0) e.0 v (omega arith) e.1

nodes_grow : (s t : Tree) → arrows s ≤ arrows t → nodes s ≤ nodes t
nodes_grow s t l = let p = nodes_by_arrows s in let q = nodes_by_arrows t in omega (arith, l, p, q)

-- ---- the kind of one unknown

pub listed_at : (built : List Kind) (v : ℕ) (d : Kind) → v < length built → listed built v ≡ tree (get_or built v d)
listed_at built v d l = ap tree_in (slice_get-get_or built v d l)

star_gives : (cells : List Cell) (v : ℕ) (c : Cell) (k : Kind) → v < length cells → cell cells v ≡ c → ((ρ : Kinds) → value ρ c ≡ star) → k ≡ kind.Star → Gives cells v k
star_gives cells v c k l e s is_star =
    let t : tree k ≡ star = ap tree is_star ∙ tree_star in
    let n = ap nodes t in
    record { size = omega (arith, n); value = λ ρ g. t ∙ sym (g v l ∙ ap (value ρ) e ∙ s ρ) }

pub free_gives : (cells : List Cell) (v : ℕ) → v < length cells → cell cells v ≡ is.Free → Gives cells v kind.Star
free_gives cells v l e = star_gives cells v is.Free kind.Star l e (λ ρ. refl) refl

pub fixed_gives : (cells : List Cell) (v : ℕ) → v < length cells → cell cells v ≡ is.Star → Gives cells v kind.Star
fixed_gives cells v l e = star_gives cells v is.Star kind.Star l e (λ ρ. refl) refl

-- the parts of an arrow
part_from : (cells : List Cell) (v a b : ℕ) → cell cells v ≡ is.Arrow a b → IsPart cells v a
part_from cells v a b e = subst (λ c. PartIn c a) (sym e) (inl refl)

part_to : (cells : List Cell) (v a b : ℕ) → cell cells v ≡ is.Arrow a b → IsPart cells v b
part_to cells v a b e = subst (λ c. PartIn c b) (sym e) (inr refl)

arrow_value : (cells : List Cell) (built : List Kind) (v a b : ℕ) (x y : Kind) → v < length cells → cell cells v ≡ is.Arrow a b
    → ((w : ℕ) → IsPart cells v w → IsBuilt cells built w) → tree x ≡ listed built a → tree y ≡ listed built b
    → (ρ : Kinds) → Grounded cells ρ → arrow (tree x) (tree y) ≡ ρ v
arrow_value cells built v a b x y l e parts p q ρ g =
    (λ i. arrow ((p ∙ (parts a (part_from cells v a b e)).value ρ g) i) ((q ∙ (parts b (part_to cells v a b e)).value ρ g) i))
    ∙ sym (g v l ∙ ap (value ρ) e)

pub arrow_parts : (cells : List Cell) (v a b : ℕ) → IsTidy cells → v < length cells → cell cells v ≡ is.Arrow a b → (a < length cells) × (b < length cells)
arrow_parts cells v a b t l e = subst (IsTidyAt (length cells) v) e (t v l)

pub link_part : (cells : List Cell) (v w : ℕ) → IsTidy cells → v < length cells → cell cells v ≡ is.Link w → w < length cells
link_part cells v w t l e = let d = subst (IsTidyAt (length cells) v) e (t v l) in omega (arith, d, l)

-- the kind x of a, and y of b, as they stand in what is built
pub arrow_gives : (cells : List Cell) (built : List Kind) (v a b : ℕ) (x y made : Kind) → v < length cells → cell cells v ≡ is.Arrow a b
    → ((w : ℕ) → IsPart cells v w → IsBuilt cells built w) → a < length built → b < length built → x ≡ get_or built a x → y ≡ get_or built b y
    → made ≡ kind.Arrow x y → nodes (tree x) + nodes (tree y) < 63 → Gives cells v made
arrow_gives cells built v a b x y made l e parts la lb is_x is_y is_made small =
    let t : tree made ≡ arrow (tree x) (tree y) = ap tree is_made ∙ tree_arrow x y in
    let k = ap nodes t in
    record {
      size = omega (arith, k, small);
      value = λ ρ g. t ∙ arrow_value cells built v a b x y l e parts (ap tree is_x ∙ sym (listed_at built a x la)) (ap tree is_y ∙ sym (listed_at built b y lb)) ρ g;
    }

pub arrow_larger : (cells : List Cell) (built : List Kind) (v a b : ℕ) (x y : Kind) → v < length cells → cell cells v ≡ is.Arrow a b
    → ((w : ℕ) → IsPart cells v w → IsBuilt cells built w) → a < length built → b < length built → x ≡ get_or built a x → y ≡ get_or built b y
    → 62 < nodes (tree x) + nodes (tree y) → HasLarger cells
arrow_larger cells built v a b x y l e parts la lb is_x is_y large = record {
  at = v;
  within = l;
  large = λ ρ g.
      let k = ap nodes (arrow_value cells built v a b x y l e parts (ap tree is_x ∙ sym (listed_at built a x la)) (ap tree is_y ∙ sym (listed_at built b y lb)) ρ g) in
      omega (arith, k, large);
}

pub link_gives : (cells : List Cell) (built : List Kind) (v w : ℕ) (x copy : Kind) → v < length cells → cell cells v ≡ is.Link w
    → ((u : ℕ) → IsPart cells v u → IsBuilt cells built u) → w < length built → x ≡ get_or built w x → copy ≡ x → Gives cells v copy
link_gives cells built v w x copy l e parts lw is_x same =
    let here = parts w (subst (λ c. PartIn c w) (sym e) refl) in
    let is_at = ap tree (same ∙ is_x) ∙ sym (listed_at built w x lw) in
    record { size = subst (λ z. nodes z ≤ 63) (sym is_at) here.size; value = λ ρ g. is_at ∙ here.value ρ g ∙ sym (g v l ∙ ap (value ρ) e) }

-- ---- all kinds

pub built_none : (cells : List Cell) (order : List ℕ) (built : List Kind) → BuiltTo cells order 0 built
built_none cells order built p v l at = absurd (omega (arith, l))

pub parts_built : (cells : List Cell) (order : List ℕ) (built : List Kind) (i v w : ℕ) → IsOrder cells order → BuiltTo cells order i built → slice_get order i ≡ Some v
    → IsPart cells v w → IsBuilt cells built w
parts_built cells order built i v w o b at part = let q = o.parts i v w at part in b q.0 w q.1 q.2

set_here : (cells : List Cell) (built : List Kind) (v : ℕ) (k : Kind) → v < length built → Gives cells v k → IsBuilt cells (set built v k) v
set_here cells built v k l g =
    let e = ap tree_in (get_set_same built v k l) in
    record { size = subst (λ z. nodes z ≤ 63) (sym e) g.size; value = λ ρ h. e ∙ g.value ρ h }

set_other : (cells : List Cell) (built : List Kind) (v u : ℕ) (k : Kind) → u ≢ v → IsBuilt cells built u → IsBuilt cells (set built v k) u
set_other cells built v u k n b =
    let e = ap tree_in (get_set_other built v u k n) in
    record { size = subst (λ z. nodes z ≤ 63) (sym e) b.size; value = λ ρ h. e ∙ b.value ρ h }

set_built : (cells : List Cell) (built : List Kind) (v u : ℕ) (k : Kind) → v < length built → Gives cells v k → (u ≢ v → IsBuilt cells built u) → IsBuilt cells (set built v k) u
set_built cells built v u k l g other =
    at_or (λ z. IsBuilt cells (set built v k) z) v u (set_here cells built v k l g) (λ n. set_other cells built v u k n (other n))

some_same : (a b : ℕ) → Some a ≡ Some b → a ≡ b
some_same a b e = cc

pub built_next : (cells : List Cell) (order : List ℕ) (built : List Kind) (i v : ℕ) (k : Kind) → BuiltTo cells order i built → slice_get order i ≡ Some v → v < length built → Gives cells v k
    → BuiltTo cells order (suc i) (set built v k)
built_next cells order built i v k b at l g p u below is_at =
    set_built cells built v u k l g (λ n. b p u (before (below_or p i below) n) is_at)
  where
    before : (p < i) ⊎ (p ≡ i) → u ≢ v → p < i
    before (inl h) n = h
    before (inr e) n = absurd (n (some_same u v (sym is_at ∙ ap (slice_get order) e ∙ at)))

-- ---- solutions

meets_one : (ρ σ : Kinds) (count : ℕ) (r : Rule) → ((v : ℕ) → v < count → σ v ≡ ρ v) → IsBelow count r → Meets ρ r → Meets σ r
meets_one ρ σ count (rule.Star v) h b m = h v b ∙ m
meets_one ρ σ count (rule.Same v w) h b m = h v b.0 ∙ m ∙ sym (h w b.1)
meets_one ρ σ count (rule.Applies f x r) h b m = h f b.0 ∙ m ∙ (λ i. arrow (sym (h x b.1) i) (sym (h r b.2) i))

meets_agree : (ρ σ : Kinds) (count : ℕ) (rules : List Rule) → ((v : ℕ) → v < count → σ v ≡ ρ v) → AreBelow count rules → MeetsAll ρ rules → MeetsAll σ rules
meets_agree ρ σ count [] h b m = tt
meets_agree ρ σ count (r ∷ rules) h b m = (meets_one ρ σ count r h b.0 m.0, meets_agree ρ σ count rules h b.1 m.1)

pub least_solution : (count : ℕ) (rules : List Rule) (cells : List Cell) (order : List ℕ) (built : List Kind) → AreBelow count rules → length cells ≡ count → Says rules cells
    → IsOrder cells order → length built ≡ length cells → BuiltTo cells order (length order) built → IsLeastSolution count rules built
least_solution count rules cells order built below n s o m b =
    let ρ = eval cells (suc (length order)) in
    let g = grounded cells order o in
    record {
      each = m ∙ n;
      meets = meets_agree ρ (listed built) count rules (λ v l. (done v (subst (λ z. v < z) (sym n) l)).value ρ g) below (s.back ρ (grounded_holds cells ρ g));
      size = λ v l. (done v (subst (λ z. v < z) (sym n) l)).size;
      least = λ σ k v l.
          let l2 = subst (λ z. v < z) (sym n) l in
          subst (λ z. arrows z ≤ arrows (σ v)) (sym ((done v l2).value ρ g)) (grounded_least cells order o ρ σ g (s.forth σ k) v l2);
    }
  where
    done : (v : ℕ) → v < length cells → IsBuilt cells built v
    done v l = let e = o.every v l in b e.0 v (slice_get_within order e.0 v e.1) e.1

pub only_larger : (count : ℕ) (rules : List Rule) (cells : List Cell) (order : List ℕ) → length cells ≡ count → Says rules cells → IsOrder cells order → HasLarger cells → HasOnlyLarger count rules
only_larger count rules cells order n s o larger =
    let ρ = eval cells (suc (length order)) in
    let g = grounded cells order o in (
      (ρ, s.back ρ (grounded_holds cells ρ g)),
      (λ σ k size.
          let v = larger.at in let l = larger.within in let p = larger.large ρ g in
          let q = nodes_grow (ρ v) (σ v) (grounded_least cells order o ρ σ g (s.forth σ k) v l) in
          let r = size v (subst (λ z. v < z) n l) in
          omega (arith, p, q, r)),
    )

pub none_endless : (rules : List Rule) (cells : List Cell) → Says rules cells → IsEndless cells → HasNone rules
none_endless rules cells s e ρ m = e ρ (s.forth ρ m)

pub fails_stops : (count : ℕ) (rules : List Rule) (cells : List Cell) (order : List ℕ) (t : Trouble) → length cells ≡ count → Says rules cells → IsOrder cells order → Stops t (HasLarger cells)
    → Fails t count rules
fails_stops count rules cells order trouble.Clash n s o h = absurd h
fails_stops count rules cells order trouble.TooLarge n s o h = only_larger count rules cells order n s o h
fails_stops count rules cells order trouble.NoMemory n s o h = tt
