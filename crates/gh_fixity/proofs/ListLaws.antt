-- What settles is what the definition of arrangement says, and the node that is built has the parts of its list in order.
use Rattle.std.proofs.Common.{◌≡◌, ℕ, suc, List, [], ◌∷◌, ◌++◌, drop, Option, Some, None, refl, sym, ap, subst, ◌∙◌, append_assoc}
use Rattle.gh_fixity.specs.declared.item.Fixity.{Fixity}
use Rattle.gh_fixity.specs.declared.item.Item.{Item}
use Rattle.gh_fixity.specs.declared.part.Part.{Part}
use Rattle.gh_fixity.specs.declared.part.Part.TheVariants as part
use Rattle.gh_fixity.specs.Arrangement.{Tree, leaf, minus, pair, mark_of, marks_from, in_order, fits, Arranges}
use Rattle.gh_fixity.specs.Built.{Nodes, next_part, sign_of, operator_of, with_rest, negated, paired, and_right, built, op_nodes, pat_nodes}
use Rattle.gh_fixity.specs.Reads.{Reads, reads_leaf, reads_minus, reads_pair, Took, BuildsInOrder, SettlesWithTheTree}
use Rattle.gh_fixity.specs.Settle.{Verdict, is_tree, stops_at, finished, or_stops, read_from, verdict, goes, settled_by}
use Rattle.gh_fixity.specs.Stack.{Open, State, closed, step, steps}
use Rattle.gh_fixity.proofs.Settling.{tree_verdict}
use Rattle.gh_fixity.proofs.Sound.{read_tree}

-- what was read to its end
record Whole (s : State) (p : ℕ) (xs : List Item) (t : Tree) : Type 0 where
  opens : List Open
  last : ℕ
  reads : steps (Some s) (marks_from p xs) ≡ Some (opens, Some last)
  is : t ≡ closed opens (leaf last)

tree_is : (t u : Tree) → is_tree t ≡ is_tree u → t ≡ u
tree_is t u e = cc

done : (p : ℕ) (gs : List Open) (o : Option ℕ) (t : Tree) → finished p (gs, o) ≡ is_tree t → Whole (gs, o) p [] t
done p gs None t e = absurd (cc)
done p gs (Some q) t e = record { opens = gs; last = q; reads = refl; is = sym (tree_is _ _ e) }

whole : (xs : List Item) (s : State) (p : ℕ) (t : Tree) → read_from s p xs ≡ is_tree t → Whole s p xs t
whole [] s p t e = done p s.0 s.1 t e
whole (x ∷ xs) s p t e = by (λ u h. whole xs u (suc p) t h) (step s.0 s.1 (mark_of p x)) refl
  where
    by : ((u : State) → read_from u (suc p) xs ≡ is_tree t → Whole u (suc p) xs t) → (o : Option State) → step s.0 s.1 (mark_of p x) ≡ o → Whole s p (x ∷ xs) t
    by next None h =
        let none : stops_at p ≡ is_tree t = sym (ap (or_stops p (λ v. read_from v (suc p) xs)) h) ∙ e in
        absurd (cc)
    by next (Some u) h =
        let w = next u (sym (ap (or_stops p (λ v. read_from v (suc p) xs)) h) ∙ e) in
        record { opens = w.opens; last = w.last; reads = ap (λ o. steps o (marks_from (suc p) xs)) h ∙ w.reads; is = w.is }

arranges_verdict : (items : List Item) (t : Tree) → verdict items ≡ is_tree t → Arranges items t
arranges_verdict items t e =
    let w = whole items ([], None) 0 t e in
    let T = read_tree (marks_from 0 items) w.opens w.last w.reads in
    record { in_list = ap in_order w.is ∙ T.in_list; fitting = ap fits w.is ∙ T.fitting }

settled_tree_is : (items : List Item) (t : Tree) (v : Verdict) → settled_by items None v ≡ goes t → v ≡ is_tree t
settled_tree_is items t (is_tree u) e = cc
settled_tree_is items t (stops_at r) e = absurd (cc)

pub settles_with_the_tree : SettlesWithTheTree
settles_with_the_tree items t =
    ((λ e. arranges_verdict items t (settled_tree_is items t (verdict items) e)), (λ h. ap (settled_by items None) (tree_verdict items t h)))

pair_is : {A B : Type 0} (a c : A) (b d : B) → ◌≡◌ {A = Option (A × B)} (Some (a, b)) (Some (c, d)) → (a ≡ c) × (b ≡ d)
pair_is {A} {B} a c b d e = (ap (λ o. first o) e, ap (λ o. second o) e)
  where
    first : Option (A × B) → A
    first None = a
    first (Some r) = r.0

    second : Option (A × B) → B
    second None = b
    second (Some r) = r.1

module _ {N : Type 0} (B : Nodes N) (empty : B.leaf_of None ≡ None) where
  took_leaf : (k : ℕ) (ps rest : List Part) (n : N) (o : Option N) → B.leaf_of (next_part ps) ≡ o → with_rest o (drop 1 ps) ≡ Some (n, rest) → Took B n (leaf k) ps rest
  took_leaf k ps rest n None h e = absurd (cc)
  took_leaf k [] rest n (Some m) h e = let none : ◌≡◌ {A = Option N} None (Some m) = sym empty ∙ h in absurd (cc)
  took_leaf k (p ∷ ps) rest n (Some m) h e =
      let s = pair_is m n ps rest e in
      record { front = p ∷ []; reads = reads_leaf k p n (h ∙ ap Some s.0); all = ap (λ xs. p ∷ xs) s.1 }

  took_minus : (t : Tree) (ps rest : List Part) (n : N) (r : Option (N × List Part)) → ((m : N) (q : List Part) → r ≡ Some (m, q) → Took B m t (drop 1 ps) q)
      → negated B (sign_of (next_part ps)) r ≡ Some (n, rest) → Took B n (minus t) ps rest
  took_minus t [] rest n r k e = absurd (cc)
  took_minus t (part.Operand x ∷ ps) rest n r k e = absurd (cc)
  took_minus t (part.Pattern x ∷ ps) rest n r k e = absurd (cc)
  took_minus t (part.Op o ∷ ps) rest n r k e = absurd (cc)
  took_minus t (part.Minus s ∷ ps) rest n None k e = absurd (cc)
  took_minus t (part.Minus s ∷ ps) rest n (Some r) k e =
      let w = k r.0 r.1 refl in
      let i = pair_is (B.negate s r.0) n r.1 rest e in
      record {
        front = part.Minus s ∷ w.front;
        reads = subst (λ m. Reads B m (minus t) (part.Minus s ∷ w.front)) i.0 (reads_minus s r.0 t w.front w.reads);
        all = ap (λ xs. part.Minus s ∷ xs) (w.all ∙ ap (λ q. w.front ++ q) i.1);
      }

  took_right : (k : ℕ) (f : Fixity) (t u : Tree) (a : N) (ps front mid rest : List Part) (n : N) (r : Option (N × List Part)) → Reads B a t front → ps ≡ front ++ mid
      → ((m : N) (q : List Part) → r ≡ Some (m, q) → Took B m u (drop 1 mid) q) → paired B a (operator_of (next_part mid)) r ≡ Some (n, rest) → Took B n (pair k f t u) ps rest
  took_right k f t u a ps front [] rest n r h g j e = absurd (cc)
  took_right k f t u a ps front (part.Operand x ∷ mid) rest n r h g j e = absurd (cc)
  took_right k f t u a ps front (part.Pattern x ∷ mid) rest n r h g j e = absurd (cc)
  took_right k f t u a ps front (part.Minus s ∷ mid) rest n r h g j e = absurd (cc)
  took_right k f t u a ps front (part.Op o ∷ mid) rest n None h g j e = absurd (cc)
  took_right k f t u a ps front (part.Op o ∷ mid) rest n (Some r) h g j e =
      let w = j r.0 r.1 refl in
      let i = pair_is (B.pair_of a o r.0) n r.1 rest e in
      record {
        front = front ++ part.Op o ∷ w.front;
        reads = subst (λ m. Reads B m (pair k f t u) (front ++ part.Op o ∷ w.front)) i.0 (reads_pair k f o a r.0 t u front w.front h w.reads);
        all = g ∙ ap (λ xs. front ++ part.Op o ∷ xs) (w.all ∙ ap (λ q. w.front ++ q) i.1) ∙ sym (append_assoc front (part.Op o ∷ w.front) rest);
      }

  took : (t : Tree) (ps rest : List Part) (n : N) → built B t ps ≡ Some (n, rest) → Took B n t ps rest
  took (leaf k) ps rest n e = took_leaf k ps rest n (B.leaf_of (next_part ps)) refl e
  took (minus t) ps rest n e = took_minus t ps rest n (built B t (drop 1 ps)) (λ m q h. took t (drop 1 ps) q m h) e
  took (pair k f t u) ps rest n e = by (λ m q h. took t ps q m h) (λ qs m q h. took u qs q m h) (built B t ps) refl e
    where
      by : ((m : N) (q : List Part) → built B t ps ≡ Some (m, q) → Took B m t ps q) → ((qs : List Part) (m : N) (q : List Part) → built B u qs ≡ Some (m, q) → Took B m u qs q)
          → (r : Option (N × List Part)) → built B t ps ≡ r → and_right B (λ qs. built B u qs) r ≡ Some (n, rest) → Took B n (pair k f t u) ps rest
      by first second None h g = absurd (cc)
      by first second (Some r) h g =
          let w = first r.0 r.1 h in
          took_right k f t u r.0 ps w.front r.1 rest n (built B u (drop 1 r.1)) w.reads w.all (second (drop 1 r.1)) g

pub operands_in_order : BuildsInOrder op_nodes
operands_in_order t ps rest n e = took op_nodes refl t ps rest n e

pub patterns_in_order : BuildsInOrder pat_nodes
patterns_in_order t ps rest n e = took pat_nodes refl t ps rest n e
