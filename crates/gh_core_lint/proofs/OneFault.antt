-- A term has at most one fault.
use Rattle.std.proofs.Common.{◌≡◌, ℕ, ◌+◌, ◌++◌, List, [], ◌∷◌, Some, sym, subst, ◌∙◌, inl, inr}
use Rattle.gh_core.proofs.OneType.{one_type}
use Rattle.gh_core.specs.SameType.{Nameless}
use Rattle.gh_core.specs.Typing.{Code, a_var, a_global, a_con, an_int, a_char, a_string, a_prim, a_lam, an_app, a_tylam, a_tyapp, a_letrec, a_case, a_stop, Bindings, no_binding, binding, Branch, con_branch, int_branch, char_branch, Branches, no_branch, else_branch, branch, Kinds, Types_of, Program, placed, paired, bound_types}
use Rattle.gh_core_lint.specs.Faults.{Fault, clash, nodes, nodes_bound, nodes_branch, nodes_chosen, AppFails, FirstClash, written, LetFails, CaseFails, repeated, BranchesHave, Fails, BindingFails, BodyFails, BranchFails}
use Rattle.gh_core_lint.proofs.Applied.{one_fields}
use Rattle.gh_core_lint.proofs.Typed.{same_from, one_have, one_results, fails_typed, binding_typed, body_typed, branch_typed}

one_app : (t u a b : Nameless) (n : ℕ) (f g : Fault) → AppFails t u n f → AppFails a b n g → t ≡ a → u ≡ b → f ≡ g
one_app t u a b n f g (inl h) (inl k) e d = h.1 ∙ sym k.1
one_app t u a b n f g (inl h) (inr k) e d = absurd (h.0 k.0 k.1 (e ∙ k.2))
one_app t u a b n f g (inr h) (inl k) e d = absurd (k.0 h.0 h.1 (sym e ∙ h.2))
one_app t u a b n f g (inr h) (inr k) e d = let w = same_from h.0 h.1 k.0 k.1 (sym h.2 ∙ e ∙ k.2) in h.4 ∙ (λ i. clash n (w i) (d i)) ∙ sym k.4

pub one_clash : (ws us : List Nameless) (n : ℕ) (f g : Fault) → FirstClash ws us n f → FirstClash ws us n g → f ≡ g
one_clash [] us n f g h k = absurd h
one_clash (w ∷ ws) [] n f g h k = absurd h
one_clash (w ∷ ws) (u ∷ us) n f g (inl h) (inl k) = h.1 ∙ sym k.1
one_clash (w ∷ ws) (u ∷ us) n f g (inl h) (inr k) = absurd (h.0 k.0)
one_clash (w ∷ ws) (u ∷ us) n f g (inr h) (inl k) = absurd (k.0 h.0)
one_clash (w ∷ ws) (u ∷ us) n f g (inr h) (inr k) = one_clash ws us n f g h.1 k.1

one_let : (p : Program) (ks : Kinds) (bs : Bindings) (us vs : List Nameless) (n : ℕ) (f g : Fault) → LetFails p ks bs us n f → LetFails p ks bs vs n g → us ≡ vs → f ≡ g
one_let p ks bs us vs n f g (inl h) (inl k) e = h.1 ∙ sym k.1
one_let p ks bs us vs n f g (inl h) (inr k) e = absurd (h.0 k.0)
one_let p ks bs us vs n f g (inr h) (inl k) e = absurd (k.0 h.0)
one_let p ks bs us vs n f g (inr h) (inr k) e = one_clash (written ks bs) vs n f g (subst (λ (xs : List Nameless). FirstClash (written ks bs) xs n f) e h.1) k.1

one_case : (p : Program) (ks : Kinds) (s ty : Nameless) (bs : Branches) (us vs : List Nameless) (n : ℕ) (f g : Fault) → CaseFails p ks s ty bs us n f → CaseFails p ks s ty bs vs n g → us ≡ vs → f ≡ g
one_case p ks s ty bs us vs n f g (inl h) (inl k) e = h.1 ∙ sym k.1
one_case p ks s ty bs us vs n f g (inl h) (inr k) e = absurd (h.0 k.0)
one_case p ks s ty bs us vs n f g (inr h) (inl k) e = absurd (k.0 h.0)
one_case p ks s ty bs us vs n f g (inr h) (inr k) e =
    one_clash (repeated (placed ks ty) vs) vs n f g (subst (λ (xs : List Nameless). FirstClash (repeated (placed ks ty) xs) xs n f) e h.1) k.1

mutual
  pub one_fault : (p : Program) (ks : Kinds) (gs : Types_of) (n : ℕ) (e : Code) (f g : Fault) → Fails p ks gs n e f → Fails p ks gs n e g → f ≡ g
  one_fault p ks gs n (a_var x) f g h k = h.1 ∙ sym k.1
  one_fault p ks gs n (a_global name) f g h k = h.1 ∙ sym k.1
  one_fault p ks gs n (a_con c) f g h k = h.1 ∙ sym k.1
  one_fault p ks gs n (an_int i) f g h k = absurd h
  one_fault p ks gs n (a_char c) f g h k = absurd h
  one_fault p ks gs n (a_string cs) f g h k = absurd h
  one_fault p ks gs n (a_prim o place ty) f g h k = h.1 ∙ sym k.1
  one_fault p ks gs n (a_lam x ty body) f g (inl h) (inl k) = one_fault p ks ((x, Some (placed ks ty)) ∷ gs) n body f g h k
  one_fault p ks gs n (a_lam x ty body) f g (inl h) (inr k) = absurd (fails_typed p ks ((x, Some (placed ks ty)) ∷ gs) n body f k.0 h k.1)
  one_fault p ks gs n (a_lam x ty body) f g (inr h) (inl k) = absurd (fails_typed p ks ((x, Some (placed ks ty)) ∷ gs) n body g h.0 k h.1)
  one_fault p ks gs n (a_lam x ty body) f g (inr h) (inr k) = h.2.1 ∙ sym k.2.1
  one_fault p ks gs n (an_app e a) f g (inl h) (inl k) = one_fault p ks gs n e f g h k
  one_fault p ks gs n (an_app e a) f g (inl h) (inr (inl k)) = absurd (fails_typed p ks gs n e f k.0 h k.1)
  one_fault p ks gs n (an_app e a) f g (inl h) (inr (inr k)) = absurd (fails_typed p ks gs n e f k.0 h k.2)
  one_fault p ks gs n (an_app e a) f g (inr (inl h)) (inl k) = absurd (fails_typed p ks gs n e g h.0 k h.1)
  one_fault p ks gs n (an_app e a) f g (inr (inl h)) (inr (inl k)) = one_fault p ks gs (n + nodes e) a f g h.2 k.2
  one_fault p ks gs n (an_app e a) f g (inr (inl h)) (inr (inr k)) = absurd (fails_typed p ks gs (n + nodes e) a f k.1 h.2 k.3)
  one_fault p ks gs n (an_app e a) f g (inr (inr h)) (inl k) = absurd (fails_typed p ks gs n e g h.0 k h.2)
  one_fault p ks gs n (an_app e a) f g (inr (inr h)) (inr (inl k)) = absurd (fails_typed p ks gs (n + nodes e) a g h.1 k.2 h.3)
  one_fault p ks gs n (an_app e a) f g (inr (inr h)) (inr (inr k)) =
      one_app h.0 h.1 k.0 k.1 (n + nodes e + nodes a) f g h.4 k.4 (one_type p ks gs e h.0 k.0 h.2 k.2) (one_type p ks gs a h.1 k.1 h.3 k.3)
  one_fault p ks gs n (a_tylam x κ body) f g h k = one_fault p ((x, κ) ∷ ks) gs n body f g h k
  one_fault p ks gs n (a_tyapp e ty) f g (inl h) (inl k) = one_fault p ks gs n e f g h k
  one_fault p ks gs n (a_tyapp e ty) f g (inl h) (inr k) = absurd (fails_typed p ks gs n e f k.0 h k.1)
  one_fault p ks gs n (a_tyapp e ty) f g (inr h) (inl k) = absurd (fails_typed p ks gs n e g h.0 k h.1)
  one_fault p ks gs n (a_tyapp e ty) f g (inr h) (inr k) = h.2.1 ∙ sym k.2.1
  one_fault p ks gs n (a_letrec bs body) f g (inl h) (inl k) = one_binding p ks (bound_types ks bs ++ gs) n bs f g h k
  one_fault p ks gs n (a_letrec bs body) f g (inl h) (inr (inl k)) = absurd (binding_typed p ks (bound_types ks bs ++ gs) n bs f k.0 h k.1)
  one_fault p ks gs n (a_letrec bs body) f g (inl h) (inr (inr k)) = absurd (binding_typed p ks (bound_types ks bs ++ gs) n bs f k.0 h k.2)
  one_fault p ks gs n (a_letrec bs body) f g (inr (inl h)) (inl k) = absurd (binding_typed p ks (bound_types ks bs ++ gs) n bs g h.0 k h.1)
  one_fault p ks gs n (a_letrec bs body) f g (inr (inl h)) (inr (inl k)) = one_fault p ks (bound_types ks bs ++ gs) (n + nodes_bound bs) body f g h.2 k.2
  one_fault p ks gs n (a_letrec bs body) f g (inr (inl h)) (inr (inr k)) = absurd (fails_typed p ks (bound_types ks bs ++ gs) (n + nodes_bound bs) body f k.1 h.2 k.3)
  one_fault p ks gs n (a_letrec bs body) f g (inr (inr h)) (inl k) = absurd (binding_typed p ks (bound_types ks bs ++ gs) n bs g h.0 k h.2)
  one_fault p ks gs n (a_letrec bs body) f g (inr (inr h)) (inr (inl k)) = absurd (fails_typed p ks (bound_types ks bs ++ gs) (n + nodes_bound bs) body g h.1 k.2 h.3)
  one_fault p ks gs n (a_letrec bs body) f g (inr (inr h)) (inr (inr k)) =
      one_let p ks bs h.0 k.0 (n + nodes_bound bs + nodes body) f g h.4 k.4 (one_have p ks (bound_types ks bs ++ gs) bs h.0 k.0 h.2 k.2)
  one_fault p ks gs n (a_case e ty bs) f g (inl h) (inl k) = one_fault p ks gs n e f g h k
  one_fault p ks gs n (a_case e ty bs) f g (inl h) (inr (inl k)) = absurd (fails_typed p ks gs n e f k.0 h k.1)
  one_fault p ks gs n (a_case e ty bs) f g (inl h) (inr (inr k)) = absurd (fails_typed p ks gs n e f k.0 h k.2)
  one_fault p ks gs n (a_case e ty bs) f g (inr (inl h)) (inl k) = absurd (fails_typed p ks gs n e g h.0 k h.1)
  one_fault p ks gs n (a_case e ty bs) f g (inr (inl h)) (inr (inl k)) =
      one_branch p ks gs k.0 (n + nodes e) bs f g (subst (λ (s : Nameless). BranchFails p ks gs s (n + nodes e) bs f) (one_type p ks gs e h.0 k.0 h.1 k.1) h.2) k.2
  one_fault p ks gs n (a_case e ty bs) f g (inr (inl h)) (inr (inr k)) =
      absurd (branch_typed p ks gs k.0 (n + nodes e) bs f k.1 (subst (λ (s : Nameless). BranchFails p ks gs s (n + nodes e) bs f) (one_type p ks gs e h.0 k.0 h.1 k.2) h.2) k.3)
  one_fault p ks gs n (a_case e ty bs) f g (inr (inr h)) (inl k) = absurd (fails_typed p ks gs n e g h.0 k h.2)
  one_fault p ks gs n (a_case e ty bs) f g (inr (inr h)) (inr (inl k)) =
      absurd (branch_typed p ks gs h.0 (n + nodes e) bs g h.1 (subst (λ (s : Nameless). BranchFails p ks gs s (n + nodes e) bs g) (one_type p ks gs e k.0 h.0 k.1 h.2) k.2) h.3)
  one_fault p ks gs n (a_case e ty bs) f g (inr (inr h)) (inr (inr k)) =
      let same = one_type p ks gs e h.0 k.0 h.2 k.2 in
      one_case p ks k.0 ty bs h.1 k.1 (n + nodes e + nodes_chosen bs) f g (subst (λ (s : Nameless). CaseFails p ks s ty bs h.1 (n + nodes e + nodes_chosen bs) f) same h.4) k.4
      (one_results p ks gs k.0 bs h.1 k.1 (subst (λ (s : Nameless). BranchesHave p ks gs s bs h.1) same h.3) k.3)
  one_fault p ks gs n (a_stop place ty) f g h k = h.1 ∙ sym k.1

  pub one_binding : (p : Program) (ks : Kinds) (gs : Types_of) (n : ℕ) (bs : Bindings) (f g : Fault) → BindingFails p ks gs n bs f → BindingFails p ks gs n bs g → f ≡ g
  one_binding p ks gs n no_binding f g h k = absurd h
  one_binding p ks gs n (binding x ty t rest) f g (inl h) (inl k) = one_fault p ks gs n t f g h k
  one_binding p ks gs n (binding x ty t rest) f g (inl h) (inr k) = absurd (fails_typed p ks gs n t f k.0 h k.1)
  one_binding p ks gs n (binding x ty t rest) f g (inr h) (inl k) = absurd (fails_typed p ks gs n t g h.0 k h.1)
  one_binding p ks gs n (binding x ty t rest) f g (inr h) (inr k) = one_binding p ks gs (n + nodes t) rest f g h.2 k.2

  pub one_body : (p : Program) (ks : Kinds) (gs : Types_of) (s : Nameless) (n : ℕ) (b : Branch) (f g : Fault) → BodyFails p ks gs s n b f → BodyFails p ks gs s n b g → f ≡ g
  one_body p ks gs s n (con_branch c xs t) f g h k =
      one_fault p ks (paired xs k.0 ++ gs) n t f g (subst (λ (us : List Nameless). Fails p ks (paired xs us ++ gs) n t f) (one_fields p s c h.0 k.0 h.1 k.1) h.2) k.2
  one_body p ks gs s n (int_branch i t) f g h k = one_fault p ks gs n t f g h k
  one_body p ks gs s n (char_branch c t) f g h k = one_fault p ks gs n t f g h k

  pub one_branch : (p : Program) (ks : Kinds) (gs : Types_of) (s : Nameless) (n : ℕ) (bs : Branches) (f g : Fault) → BranchFails p ks gs s n bs f → BranchFails p ks gs s n bs g → f ≡ g
  one_branch p ks gs s n no_branch f g h k = absurd h
  one_branch p ks gs s n (else_branch t) f g h k = one_fault p ks gs n t f g h k
  one_branch p ks gs s n (branch b rest) f g (inl h) (inl k) = one_body p ks gs s n b f g h k
  one_branch p ks gs s n (branch b rest) f g (inl h) (inr k) = absurd (body_typed p ks gs s n b f k.0 h k.1)
  one_branch p ks gs s n (branch b rest) f g (inr h) (inl k) = absurd (body_typed p ks gs s n b g h.0 k h.1)
  one_branch p ks gs s n (branch b rest) f g (inr h) (inr k) = one_branch p ks gs s (n + nodes_branch b) rest f g h.2 k.2
