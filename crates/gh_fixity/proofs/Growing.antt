-- The node of a tree, step by step.
use Rattle.std.proofs.Common.{◌≡◌, ℕ, List, [], ◌∷◌, ◌++◌, drop, reverse, Option, Some, sym, ap, ◌∙◌}
use Rattle.std.proofs.lemmas.List.{reverse-append, reverse-reverse}
use Rattle.gh_base.specs.declared.place.Span.{Span}
use Rattle.gh_program.specs.declared.names.Occurrence.{Occurrence}
use Rattle.gh_fixity.specs.declared.item.Item.{Item}
use Rattle.gh_fixity.specs.declared.item.Arranged.{Arranged, fold-roll-Arranged}
use Rattle.gh_fixity.specs.declared.item.Arranged.TheOpen.{Arranged-F}
use Rattle.gh_fixity.specs.declared.item.Arranged.TheVariants as arranged
use Rattle.gh_fixity.specs.declared.item.Arranged.TheVariants.{rolls-Leaf, rolls-Minus, rolls-Pair}
use Rattle.gh_fixity.specs.declared.part.Part.{Part}
use Rattle.gh_fixity.specs.Arrangement.{Tree, leaf, minus, pair, tree_in, tree_step, fixity_in, or_default}
use Rattle.gh_fixity.specs.Built.{Nodes, next_part, sign_of, operator_of, with_rest, negated, paired, and_right, built, node_or, from_tree}
use Rattle.std.specs.Prelude.{slice_get, option_map, IfOk, Result, Ok, Err}

pub leaf_is : (items : List Item) (p : ℕ) → tree_in items (arranged.Leaf p) ≡ leaf p
leaf_is items p = ap (tree_in items) (sym (rolls-Leaf p)) ∙ fold-roll-Arranged Tree (tree_step items) (Arranged-F.Leaf p)

pub minus_is : (items : List Item) (a : Arranged) → tree_in items (arranged.Minus a) ≡ minus (tree_in items a)
minus_is items a = ap (tree_in items) (sym (rolls-Minus a)) ∙ fold-roll-Arranged Tree (tree_step items) (Arranged-F.Minus a)

pub pair_is : (items : List Item) (p : ℕ) (a b : Arranged) → tree_in items (arranged.Pair p a b) ≡ pair p (or_default (fixity_in (slice_get items p))) (tree_in items a) (tree_in items b)
pair_is items p a b = ap (tree_in items) (sym (rolls-Pair p a b)) ∙ fold-roll-Arranged Tree (tree_step items) (Arranged-F.Pair p a b)

-- the last of a list is the first of those that wait
pub popped_part : (old new : List Part) (x : Part) → old ≡ new ++ x ∷ [] → Some x ≡ next_part (reverse old)
popped_part old new x e = sym (ap (λ l. next_part (reverse l)) e ∙ ap next_part (reverse-append new (x ∷ [])))

pub popped_rest : (old new : List Part) (x : Part) → old ≡ new ++ x ∷ [] → reverse new ≡ drop 1 (reverse old)
popped_rest old new x e = sym (ap (λ l. drop 1 (reverse l)) e ∙ ap (drop 1) (reverse-append new (x ∷ [])))

-- a fact about what is there, from another
pub if_ok : {T E : Type 0} {P Q : T → Type 0} (r : Result T E) → ((x : T) → P x → Q x) → IfOk r P → IfOk r Q
if_ok (Ok x) f p = f x p
if_ok (Err e) f p = tt

module _ {N : Type 0} (B : Nodes N) (items : List Item) where
  pub grown_leaf : (p : ℕ) (ps rest : List Part) (o : Option Part) (n : N) → o ≡ next_part ps → rest ≡ drop 1 ps → B.leaf_of o ≡ Some n
      → built B (tree_in items (arranged.Leaf p)) ps ≡ Some (n, rest)
  grown_leaf p ps rest o n e r h =
      ap (λ t. built B t ps) (leaf_is items p) ∙ ap (λ q. with_rest q (drop 1 ps)) (ap B.leaf_of (sym e) ∙ h) ∙ ap (λ q. Some (n, q)) (sym r)

  pub grown_minus : (a : Arranged) (ps qs rest : List Part) (o : Option Part) (s : Span) (n m : N) → o ≡ next_part ps → qs ≡ drop 1 ps → sign_of o ≡ Some s
      → built B (tree_in items a) qs ≡ Some (n, rest) → m ≡ B.negate s n → built B (tree_in items (arranged.Minus a)) ps ≡ Some (m, rest)
  grown_minus a ps qs rest o s n m e r h k j =
      ap (λ t. built B t ps) (minus_is items a)
      ∙ ap (λ q. negated B q (built B (tree_in items a) (drop 1 ps))) (ap sign_of (sym e) ∙ h)
      ∙ ap (λ q. negated B (Some s) (built B (tree_in items a) q)) (sym r) ∙ ap (negated B (Some s)) k ∙ ap (λ q. Some (q, rest)) (sym j)

  pub grown_pair : (p : ℕ) (a b : Arranged) (ps mid qs rest : List Part) (o : Option Part) (op : Occurrence) (l r n : N) → built B (tree_in items a) ps ≡ Some (l, mid)
      → o ≡ next_part mid → qs ≡ drop 1 mid → operator_of o ≡ Some op → built B (tree_in items b) qs ≡ Some (r, rest) → n ≡ B.pair_of l op r
      → built B (tree_in items (arranged.Pair p a b)) ps ≡ Some (n, rest)
  grown_pair p a b ps mid qs rest o op l r n h e q g k j =
      ap (λ t. built B t ps) (pair_is items p a b)
      ∙ ap (and_right B (λ xs. built B (tree_in items b) xs)) h
      ∙ ap (λ x. paired B l x (built B (tree_in items b) (drop 1 mid))) (ap operator_of (sym e) ∙ g)
      ∙ ap (λ xs. paired B l (Some op) (built B (tree_in items b) xs)) (sym q) ∙ ap (paired B l (Some op)) k ∙ ap (λ x. Some (x, rest)) (sym j)

  -- all parts, turned round before
  pub from_grown : (d : N) (parts waiting rest : List Part) (tree : Option Arranged) (t : Arranged) (n : N) → tree ≡ Some t → waiting ≡ reverse parts
      → built B (tree_in items t) (reverse waiting) ≡ Some (n, rest) → n ≡ from_tree B d parts (option_map (tree_in items) tree)
  from_grown d parts waiting rest tree t n e w h =
      sym (ap (λ o. from_tree B d parts (option_map (tree_in items) o)) e
      ∙ ap (λ xs. node_or d (built B (tree_in items t) xs)) (sym (ap reverse w ∙ reverse-reverse parts)) ∙ ap (node_or d) h)
