-- One turn of the reader, at each kind of item.
use Rattle.std.proofs.Common.{◌≡◌, ℕ, suc, ◌+◌, ◌<◌, true, List, ◌∷◌, length, take, drop, Option, Some, None, Err, sym, ap, subst, ◌∙◌, slice_get, get_or, add-one}
use Rattle.std.proofs.lemmas.Option.{slice_get-get_or}
use Rattle.gh_base.specs.declared.place.Span.{Span}
use Rattle.gh_fixity.specs.declared.item.ArrangeFault.{ArrangeFault}
use Rattle.gh_fixity.specs.declared.item.ArrangeFault.TheVariants as fault
use Rattle.gh_fixity.specs.declared.item.Fixity.{Fixity}
use Rattle.gh_fixity.specs.declared.item.Item.{Item}
use Rattle.gh_fixity.specs.declared.item.Item.TheVariants as item
use Rattle.gh_fixity.specs.Arrangement.{minus_sign, op_at, marks_from, mark_of, Clashes, IfClash, IsNearest, is_list}
use Rattle.gh_fixity.specs.Stack.{Open, step, steps, start, goes}
use Rattle.gh_fixity.proofs.Laws.{drop_at, reads_more, goes_leaf, goes_minus, goes_op, clashes}

-- what was read of a list, and that the grammar goes on
pub record HasTurn (xs : List Item) (k : ℕ) (gs : List Open) (o : Option ℕ) : Type 0 where
  pub reads : steps start (marks_from 0 (take k xs)) ≡ Some (gs, o)
  pub grammar : goes o (drop k xs) ≡ true

pub at_item : (xs : List Item) (k : ℕ) (d x : Item) → k < length xs → get_or xs k d ≡ x → slice_get xs k ≡ Some x
at_item xs k d x h e = slice_get-get_or xs k d h ∙ ap Some e

next : (xs : List Item) (k : ℕ) (gs : List Open) (o : Option ℕ) → HasTurn xs (suc k) gs o → HasTurn xs (k + 1) gs o
next xs k gs o h = subst (λ n. HasTurn xs n gs o) (sym (add-one k)) h

goes_here : (xs : List Item) (k : ℕ) (x : Item) (o : Option ℕ) → slice_get xs k ≡ Some x → goes o (drop k xs) ≡ true → goes o (x ∷ drop (suc k) xs) ≡ true
goes_here xs k x o e h = ap (goes o) (sym (drop_at k xs x e)) ∙ h

module _ (xs : List Item) (k : ℕ) (gs : List Open) where
  pub leaf_turn : (o : Option ℕ) (n : ℕ) → slice_get xs k ≡ Some (item.Leaf n) → HasTurn xs k gs o → HasTurn xs (k + 1) gs (Some k)
  leaf_turn o n e t =
      let g = goes_leaf o n (drop (suc k) xs) (goes_here xs k (item.Leaf n) o e t.grammar) in
      next xs k gs (Some k) (record {
        reads = reads_more xs k (item.Leaf n) (gs, o) e t.reads ∙ ap (λ p. step gs p (mark_of k (item.Leaf n))) g.0;
        grammar = g.1;
      })

  pub minus_turn : (o : Option ℕ) (s : Span) (hs : List Open) → slice_get xs k ≡ Some (item.Minus s) → HasTurn xs k gs o → step gs None minus_sign ≡ Some (hs, None) → HasTurn xs (k + 1) hs o
  minus_turn o s hs e t m =
      let g = goes_minus o s (drop (suc k) xs) (goes_here xs k (item.Minus s) o e t.grammar) in
      next xs k hs o (record {
        reads = reads_more xs k (item.Minus s) (gs, o) e t.reads ∙ ap (λ p. step gs p minus_sign) g.0 ∙ m ∙ ap (λ p. Some (hs, p)) (sym g.0);
        grammar = ap (λ p. goes p (drop (suc k) xs)) g.0 ∙ g.1;
      })

  pub op_turn : (q : ℕ) (f : Fixity) (s : Span) (hs : List Open) → slice_get xs k ≡ Some (item.Op f s) → HasTurn xs k gs (Some q) → step gs (Some q) (op_at k f) ≡ Some (hs, None) → HasTurn xs (k + 1) hs None
  op_turn q f s hs e t m =
      let g = goes_op (Some q) f s (drop (suc k) xs) (goes_here xs k (item.Op f s) (Some q) e t.grammar) in
      next xs k hs None (record { reads = reads_more xs k (item.Op f s) (gs, Some q) e t.reads ∙ m; grammar = g.2 })

  pub minus_clashes : (items : List Item) (o : Option ℕ) (s : Span) (left right : ℕ) → xs ≡ items → is_list items ≡ true → slice_get xs k ≡ Some (item.Minus s) → HasTurn xs k gs o
      → (right ≡ k) × (left + 1 ≡ right) × (step gs None minus_sign ≡ None) → Clashes items left right
  minus_clashes items o s left right same g e t m =
      let w = goes_minus o s (drop (suc k) xs) (goes_here xs k (item.Minus s) o e t.grammar) in
      let c : Clashes xs left k = clashes xs k (item.Minus s) (gs, o) left (ap is_list same ∙ g) e t.reads (ap (λ p. step gs p minus_sign) w.0 ∙ m.2) (m.1 ∙ m.0) in
      let d : Clashes xs left right = subst (λ n. Clashes xs left n) (sym m.0) c in
      subst (λ ys. Clashes ys left right) same d

  pub op_clashes : (items : List Item) (q : ℕ) (f : Fixity) (s : Span) (left right : ℕ) → xs ≡ items → is_list items ≡ true → slice_get xs k ≡ Some (item.Op f s) → HasTurn xs k gs (Some q)
      → (right ≡ k) × IsNearest xs f.level left right × (step gs (Some q) (op_at k f) ≡ None) → Clashes items left right
  op_clashes items q f s left right same g e t m =
      let n : IsNearest xs f.level left k = subst (λ n. IsNearest xs f.level left n) m.0 m.1 in
      let c : Clashes xs left k = clashes xs k (item.Op f s) (gs, Some q) left (ap is_list same ∙ g) e t.reads m.2 n in
      let d : Clashes xs left right = subst (λ n. Clashes xs left n) (sym m.0) c in
      subst (λ ys. Clashes ys left right) same d

pub clash_from : (T U : Type 0) (f : ArrangeFault) (P Q : ℕ → ℕ → Type 0) → ((left right : ℕ) → P left right → Q left right) → IfClash {T = T} (Err f) P → IfClash {T = U} (Err f) Q
clash_from T U (fault.Clash left right) P Q h p = h left right p
clash_from T U fault.NoMemory P Q h p = tt
