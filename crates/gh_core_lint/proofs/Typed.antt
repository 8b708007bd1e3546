-- A typed term has no fault.
use Rattle.std.proofs.Common.{◌≡◌, ℕ, ◌+◌, ◌++◌, List, [], ◌∷◌, Some, refl, sym, ap, subst, ◌∙◌, inl, inr}
use Rattle.gh_core.proofs.OneType.{one_type}
use Rattle.gh_core.specs.SameType.{Nameless, bound, free, con, applied, forall, any}
use Rattle.gh_core.specs.Typing.{Code, a_var, a_global, a_con, an_int, a_char, a_string, a_prim, a_lam, an_app, a_tylam, a_tyapp, a_letrec, a_case, a_stop, Bindings, no_binding, binding, Branch, con_branch, int_branch, char_branch, Branches, no_branch, else_branch, branch, Kinds, Types_of, Program, placed, arrow, paired, bound_types, fields_at, con_of, con_type_of, var_type, global_type, IsValueType, IsScrutinee, IsCovered, HasType, AllBound, Gives, AllGive}
use Rattle.gh_core_lint.specs.Faults.{Fault, nodes, nodes_bound, nodes_branch, nodes_chosen, AppFails, FirstClash, AreValues, written, LetFails, Fits, AllFit, CaseFails, repeated, BindingsHave, BranchHas, BranchesHave, Fails, BindingFails, BodyFails, BranchFails}
use Rattle.gh_core_lint.proofs.Applied.{none_some, one_fields}

abbrev argument : Nameless → Nameless
argument (bound i) = bound i
argument (free l) = free l
argument (con c) = con c
argument (applied f x) = x
argument (forall k b) = b
argument (any k) = any k

abbrev from_of : Nameless → Nameless
from_of (bound i) = bound i
from_of (free l) = free l
from_of (con c) = con c
from_of (applied f x) = argument f
from_of (forall k b) = b
from_of (any k) = any k

pub same_from : (a b c d : Nameless) → arrow a b ≡ arrow c d → a ≡ c
same_from a b c d e = ap from_of e

app_typed : (t u a b : Nameless) (n : ℕ) (f : Fault) → AppFails t u n f → t ≡ arrow a b → u ≡ a → ⊥
app_typed t u a b n f (inl h) e d = h.0 a b e
app_typed t u a b n f (inr h) e d = h.3 (same_from h.0 h.1 a b (sym h.2 ∙ e) ∙ sym d)

pub no_clash : (ws : List Nameless) (n : ℕ) (f : Fault) → FirstClash ws ws n f → ⊥
no_clash [] n f h = h
no_clash (w ∷ ws) n f (inl h) = h.0 refl
no_clash (w ∷ ws) n f (inr h) = no_clash ws n f h.1

-- bindings that have their types
bound_values : (p : Program) (ks : Kinds) (gs : Types_of) (bs : Bindings) → AllBound p ks gs bs → AreValues p ks bs
bound_values p ks gs no_binding h = tt
bound_values p ks gs (binding x ty t rest) h = (h.0, bound_values p ks gs rest h.2)

pub bound_have : (p : Program) (ks : Kinds) (gs : Types_of) (bs : Bindings) → AllBound p ks gs bs → BindingsHave p ks gs bs (written ks bs)
bound_have p ks gs no_binding h = refl
bound_have p ks gs (binding x ty t rest) h = (placed ks ty, written ks rest, refl, h.1, bound_have p ks gs rest h.2)

pub one_have : (p : Program) (ks : Kinds) (gs : Types_of) (bs : Bindings) (us vs : List Nameless) → BindingsHave p ks gs bs us → BindingsHave p ks gs bs vs → us ≡ vs
one_have p ks gs no_binding us vs h k = h ∙ sym k
one_have p ks gs (binding x ty t rest) us vs h k =
    let one = one_type p ks gs t h.0 k.0 h.3 k.3 in
    let more = one_have p ks gs rest h.1 k.1 h.4 k.4 in
    h.2 ∙ (λ i. one i ∷ more i) ∙ sym k.2

let_typed : (p : Program) (ks : Kinds) (gs : Types_of) (bs : Bindings) (us : List Nameless) (n : ℕ) (f : Fault) → LetFails p ks bs us n f → BindingsHave p ks gs bs us → AllBound p ks gs bs → ⊥
let_typed p ks gs bs us n f (inl h) b k = h.0 (bound_values p ks gs bs k)
let_typed p ks gs bs us n f (inr h) b k =
    no_clash (written ks bs) n f (subst (λ (xs : List Nameless). FirstClash (written ks bs) xs n f) (one_have p ks gs bs us (written ks bs) b (bound_have p ks gs bs k)) h.1)

-- branches that give a type
pub one_result : (p : Program) (ks : Kinds) (gs : Types_of) (s : Nameless) (b : Branch) (u v : Nameless) → BranchHas p ks gs s b u → BranchHas p ks gs s b v → u ≡ v
one_result p ks gs s (con_branch c xs t) u v h k =
    one_type p ks (paired xs h.0 ++ gs) t u v h.2 (subst (λ (us : List Nameless). HasType p ks (paired xs us ++ gs) t v) (one_fields p s c k.0 h.0 k.1 h.1) k.2)
one_result p ks gs s (int_branch n t) u v h k = one_type p ks gs t u v h k
one_result p ks gs s (char_branch c t) u v h k = one_type p ks gs t u v h k

pub one_results : (p : Program) (ks : Kinds) (gs : Types_of) (s : Nameless) (bs : Branches) (us vs : List Nameless) → BranchesHave p ks gs s bs us → BranchesHave p ks gs s bs vs → us ≡ vs
one_results p ks gs s no_branch us vs h k = h ∙ sym k
one_results p ks gs s (else_branch t) us vs h k = h.1 ∙ ap (λ u. u ∷ []) (one_type p ks gs t h.0 k.0 h.2 k.2) ∙ sym k.1
one_results p ks gs s (branch b rest) us vs h k =
    let one = one_result p ks gs s b h.0 k.0 h.3 k.3 in
    let more = one_results p ks gs s rest h.1 k.1 h.4 k.4 in
    h.2 ∙ (λ i. one i ∷ more i) ∙ sym k.2

give_has : (p : Program) (ks : Kinds) (gs : Types_of) (s t : Nameless) (b : Branch) → Gives p ks gs s t b → BranchHas p ks gs s b t
give_has p ks gs s t (con_branch c xs e) h = (fields_at h.0 h.1, inl (h.0, h.1, h.2, h.3, refl), h.5)
give_has p ks gs s t (int_branch n e) h = h.1
give_has p ks gs s t (char_branch c e) h = h.1

abbrev Alike : Program → Kinds → Types_of → Nameless → Nameless → Branches → Type 0
Alike p ks gs s t bs = (us : List Nameless) × BranchesHave p ks gs s bs us × (repeated t us ≡ us)

give_have : (p : Program) (ks : Kinds) (gs : Types_of) (s t : Nameless) (bs : Branches) → AllGive p ks gs s t bs → Alike p ks gs s t bs
give_have p ks gs s t no_branch h = ([], refl, refl)
give_have p ks gs s t (else_branch e) h = (t ∷ [], (t, refl, h), refl)
give_have p ks gs s t (branch b rest) h =
    let more = give_have p ks gs s t rest h.1 in
    (t ∷ more.0, (t, more.0, refl, give_has p ks gs s t b h.0, more.1), ap (λ us. t ∷ us) more.2)

give_fits : (p : Program) (ks : Kinds) (gs : Types_of) (s t : Nameless) (b : Branch) → Gives p ks gs s t b → Fits p s b
give_fits p ks gs s t (con_branch c xs e) h = (h.0, h.1, h.2, h.3, h.4)
give_fits p ks gs s t (int_branch n e) h = h.0
give_fits p ks gs s t (char_branch c e) h = h.0

all_fit : (p : Program) (ks : Kinds) (gs : Types_of) (s t : Nameless) (bs : Branches) → AllGive p ks gs s t bs → AllFit p s bs
all_fit p ks gs s t no_branch h = tt
all_fit p ks gs s t (else_branch e) h = tt
all_fit p ks gs s t (branch b rest) h = (give_fits p ks gs s t b h.0, all_fit p ks gs s t rest h.1)

case_typed : (p : Program) (ks : Kinds) (gs : Types_of) (s ty t : Nameless) (bs : Branches) (us : List Nameless) (n : ℕ) (f : Fault) → CaseFails p ks s ty bs us n f
    → BranchesHave p ks gs s bs us → IsValueType p ks ty → t ≡ placed ks ty → IsScrutinee p.decls s → AllGive p ks gs s t bs → IsCovered p.decls s bs → ⊥
case_typed p ks gs s ty t bs us n f (inl h) b v e c g d = h.0 (v, c, all_fit p ks gs s t bs g, d)
case_typed p ks gs s ty t bs us n f (inr h) b v e c g d =
    let more = give_have p ks gs s t bs g in
    let same = one_results p ks gs s bs us more.0 b more.1 in
    let is : repeated (placed ks ty) us ≡ us = ap (λ z. repeated z us) (sym e) ∙ ap (repeated t) same ∙ more.2 ∙ sym same in
    no_clash us n f (subst (λ (ws : List Nameless). FirstClash ws us n f) is h.1)

mutual
  pub fails_typed : (p : Program) (ks : Kinds) (gs : Types_of) (n : ℕ) (e : Code) (f : Fault) (t : Nameless) → Fails p ks gs n e f → HasType p ks gs e t → ⊥
  fails_typed p ks gs n (a_var x) f t h k = none_some (var_type gs x) t h.0 k
  fails_typed p ks gs n (a_global name) f t h k = none_some (global_type p.globals name) t h.0 k
  fails_typed p ks gs n (a_con c) f t h k = none_some (con_type_of (con_of p.decls c)) t h.0 k
  fails_typed p ks gs n (an_int i) f t h k = h
  fails_typed p ks gs n (a_char c) f t h k = h
  fails_typed p ks gs n (a_string cs) f t h k = h
  fails_typed p ks gs n (a_prim o place ty) f t h k = h.0 t k
  fails_typed p ks gs n (a_lam x ty body) f t (inl h) k = fails_typed p ks ((x, Some (placed ks ty)) ∷ gs) n body f k.0 h k.2
  fails_typed p ks gs n (a_lam x ty body) f t (inr h) k = h.2.0 k.1
  fails_typed p ks gs n (an_app e a) f t (inl h) k = fails_typed p ks gs n e f (arrow k.0 t) h k.1
  fails_typed p ks gs n (an_app e a) f t (inr (inl h)) k = fails_typed p ks gs (n + nodes e) a f k.0 h.2 k.2
  fails_typed p ks gs n (an_app e a) f t (inr (inr h)) k =
      app_typed h.0 h.1 k.0 t (n + nodes e + nodes a) f h.4 (one_type p ks gs e h.0 (arrow k.0 t) h.2 k.1) (one_type p ks gs a h.1 k.0 h.3 k.2)
  fails_typed p ks gs n (a_tylam x κ body) f t h k = fails_typed p ((x, κ) ∷ ks) gs n body f k.0 h k.1
  fails_typed p ks gs n (a_tyapp e ty) f t (inl h) k = fails_typed p ks gs n e f (forall k.0 k.1) h k.2
  fails_typed p ks gs n (a_tyapp e ty) f t (inr h) k = h.2.0 k.0 k.1 (one_type p ks gs e h.0 (forall k.0 k.1) h.1 k.2) k.3
  fails_typed p ks gs n (a_letrec bs body) f t (inl h) k = binding_typed p ks (bound_types ks bs ++ gs) n bs f (written ks bs) h (bound_have p ks (bound_types ks bs ++ gs) bs k.0)
  fails_typed p ks gs n (a_letrec bs body) f t (inr (inl h)) k = fails_typed p ks (bound_types ks bs ++ gs) (n + nodes_bound bs) body f t h.2 k.1
  fails_typed p ks gs n (a_letrec bs body) f t (inr (inr h)) k = let_typed p ks (bound_types ks bs ++ gs) bs h.0 (n + nodes_bound bs + nodes body) f h.4 h.2 k.0
  fails_typed p ks gs n (a_case e ty bs) f t (inl h) k = fails_typed p ks gs n e f k.0 h k.1
  fails_typed p ks gs n (a_case e ty bs) f t (inr (inl h)) k =
      let more = give_have p ks gs k.0 t bs k.5 in
      branch_typed p ks gs k.0 (n + nodes e) bs f more.0 (subst (λ (s : Nameless). BranchFails p ks gs s (n + nodes e) bs f) (one_type p ks gs e h.0 k.0 h.1 k.1) h.2) more.1
  fails_typed p ks gs n (a_case e ty bs) f t (inr (inr h)) k =
      let same = one_type p ks gs e h.0 k.0 h.2 k.1 in
      case_typed p ks gs k.0 ty t bs h.1 (n + nodes e + nodes_chosen bs) f (subst (λ (s : Nameless). CaseFails p ks s ty bs h.1 (n + nodes e + nodes_chosen bs) f) same h.4) (subst (λ (s : Nameless). BranchesHave p ks gs s bs h.1) same h.3) k.2 k.3 k.4 k.5 k.6
  fails_typed p ks gs n (a_stop place ty) f t h k = h.0 k.0

  pub binding_typed : (p : Program) (ks : Kinds) (gs : Types_of) (n : ℕ) (bs : Bindings) (f : Fault) (us : List Nameless) → BindingFails p ks gs n bs f → BindingsHave p ks gs bs us → ⊥
  binding_typed p ks gs n no_binding f us h k = h
  binding_typed p ks gs n (binding x ty t rest) f us (inl h) k = fails_typed p ks gs n t f k.0 h k.3
  binding_typed p ks gs n (binding x ty t rest) f us (inr h) k = binding_typed p ks gs (n + nodes t) rest f k.1 h.2 k.4

  pub body_typed : (p : Program) (ks : Kinds) (gs : Types_of) (s : Nameless) (n : ℕ) (b : Branch) (f : Fault) (u : Nameless) → BodyFails p ks gs s n b f → BranchHas p ks gs s b u → ⊥
  body_typed p ks gs s n (con_branch c xs t) f u h k =
      fails_typed p ks (paired xs k.0 ++ gs) n t f u (subst (λ (us : List Nameless). Fails p ks (paired xs us ++ gs) n t f) (one_fields p s c h.0 k.0 h.1 k.1) h.2) k.2
  body_typed p ks gs s n (int_branch i t) f u h k = fails_typed p ks gs n t f u h k
  body_typed p ks gs s n (char_branch c t) f u h k = fails_typed p ks gs n t f u h k

  pub branch_typed : (p : Program) (ks : Kinds) (gs : Types_of) (s : Nameless) (n : ℕ) (bs : Branches) (f : Fault) (us : List Nameless) → BranchFails p ks gs s n bs f → BranchesHave p ks gs s bs us → ⊥
  branch_typed p ks gs s n no_branch f us h k = h
  branch_typed p ks gs s n (else_branch t) f us h k = fails_typed p ks gs n t f k.0 h k.2
  branch_typed p ks gs s n (branch b rest) f us (inl h) k = body_typed p ks gs s n b f k.0 h k.3
  branch_typed p ks gs s n (branch b rest) f us (inr h) k = branch_typed p ks gs s (n + nodes_branch b) rest f k.1 h.2 k.4
