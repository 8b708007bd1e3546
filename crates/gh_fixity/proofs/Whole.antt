-- A tree says which answer it comes from.
use Rattle.std.proofs.Common.{◌≡◌, ℕ, List, sym, ap, subst, ◌∙◌}
use Rattle.gh_fixity.specs.declared.item.Item.{Item}
use Rattle.gh_fixity.specs.declared.item.Arranged.{Arranged, roll-Arranged, map-Arranged, fold-roll-Arranged, ind-Arranged}
use Rattle.gh_fixity.specs.declared.item.Arranged.TheOpen.{Arranged-F}
use Rattle.gh_fixity.specs.declared.item.Arranged.TheVariants as arranged
use Rattle.gh_fixity.specs.declared.item.Arranged.TheVariants.{rolls-Leaf, rolls-Minus, rolls-Pair}
use Rattle.gh_fixity.specs.Arrangement.{Tree, leaf, minus, pair, tree_in, tree_step, HasOneAnswer}
use Rattle.gh_fixity.proofs.Laws.{one_tree}

abbrev arranged_of : Tree → Arranged
arranged_of (leaf p) = arranged.Leaf p
arranged_of (minus t) = arranged.Minus (arranged_of t)
arranged_of (pair p f a b) = arranged.Pair p (arranged_of a) (arranged_of b)

abbrev IsBack : List Item → Arranged → Type 0
IsBack items a = arranged_of (tree_in items a) ≡ a

rolled : (items : List Item) (x : Arranged-F Arranged) → tree_in items (roll-Arranged x) ≡ tree_step items (map-Arranged Arranged Tree (tree_in items) x)
rolled items x = fold-roll-Arranged Tree (tree_step items) x

leaf_back : (items : List Item) (p : ℕ) → IsBack items (roll-Arranged (Arranged-F.Leaf p))
leaf_back items p = ap arranged_of (rolled items (Arranged-F.Leaf p)) ∙ sym (rolls-Leaf p)

minus_back : (items : List Item) (a : Arranged) → IsBack items a → IsBack items (roll-Arranged (Arranged-F.Minus a))
minus_back items a h = ap arranged_of (rolled items (Arranged-F.Minus a)) ∙ ap arranged.Minus h ∙ sym (rolls-Minus a)

pair_back : (items : List Item) (p : ℕ) (a b : Arranged) → IsBack items a → IsBack items b → IsBack items (roll-Arranged (Arranged-F.Pair p a b))
pair_back items p a b h k =
    ap arranged_of (rolled items (Arranged-F.Pair p a b)) ∙ ap (λ x. arranged.Pair p x (arranged_of (tree_in items b))) h ∙ ap (λ x. arranged.Pair p a x) k ∙ sym (rolls-Pair p a b)

step_back : (items : List Item) (x : Arranged-F Arranged) (y : Arranged-F ((a : Arranged) × IsBack items a))
    → map-Arranged ((a : Arranged) × IsBack items a) Arranged (λ e. e.0) y ≡ x → IsBack items (roll-Arranged x)
step_back items x (Arranged-F.Leaf p) e = subst (λ z. IsBack items (roll-Arranged z)) e (leaf_back items p)
step_back items x (Arranged-F.Minus a) e = subst (λ z. IsBack items (roll-Arranged z)) e (minus_back items a.0 a.1)
step_back items x (Arranged-F.Pair p a b) e = subst (λ z. IsBack items (roll-Arranged z)) e (pair_back items p a.0 b.0 a.1 b.1)

back : (items : List Item) (a : Arranged) → IsBack items a
back items = ind-Arranged (IsBack items) (step_back items)

pub one_answer : HasOneAnswer
one_answer items a b h k = sym (back items a) ∙ ap arranged_of (one_tree items (tree_in items a) (tree_in items b) h k) ∙ back items b
