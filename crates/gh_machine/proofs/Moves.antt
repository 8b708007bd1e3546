-- What the machine's moves lead to.
use Rattle.std.proofs.Common.{◌≡◌, ℕ, zero, suc, ◌+◌, ◌≤◌, ◌<◌, List, [], ◌∷◌, length, drop, get_or, Bool, Option, Some, true, false, refl, sym, ap, ◌∙◌, subst, arith, ◌==◌, length-drop, inl, inr, vec_len, vec_capacity}
use Rattle.std.specs.Prelude.{◌&&◌}
use Rattle.std.proofs.lemmas.Bool.Decides.{eqb_tells}
use Rattle.gh_base.specs.declared.place.Origin.{Origin}
use Rattle.gh_base.specs.declared.place.Space.{Space}
use Rattle.gh_base.specs.declared.place.Space.TheVariants.{Values, Types}
use Rattle.gh_base.specs.contracts.place.Space.{the_type as the_space}
use denote.Enum.Bare.{sameb}
use Rattle.gh_core.specs.Terms.{Term, letrec, Binds, no_bind, bind}
use Rattle.gh_core.specs.Closing.{Env, empty, without, is_in, binds_name, close, close_binds, put, put_all, put_rec}
use Rattle.gh_core.specs.Primitives.{nil, cons, same_origin, same_space}
use Rattle.gh_core.specs.Reduce.{Waiting, arg, State, args_of, after_args, listed, list_cell, demand, enter, uncover, unfold_global, reduce_at, opened, Program}
use Rattle.gh_core.specs.Run.{start}
use Rattle.gh_core.specs.Bindings.{binding_count, names_at}
use Rattle.gh_core.proofs.Close.{close-empty}
use Rattle.gh_machine.specs.Unload.{env_in, envs_of, demand_env, group, binds_in}
use Rattle.gh_machine.specs.Stacks.{stack_in, AreWithin}
use Rattle.gh_machine.specs.Reach.{demand_reach, IsNear, AreNear}
use Rattle.gh_machine.specs.Sound.{state_of, IsHeld, Goes, Leads, IsBound}
use Rattle.gh_machine.specs.declared.closure.Cell.{Cell}
use Rattle.gh_machine.specs.declared.closure.Frame.{Frame}
use Rattle.gh_machine.specs.declared.parts.Parts.{Parts}
use Rattle.gh_machine.proofs.Stacks.{stack_same, within_more, after_is, after_all, has_more}
use Rattle.gh_machine.proofs.Reaches.{near_more}
use Rattle.gh_machine.proofs.Entered.{close_entered, close_chosen, close_unrolled}
use Rattle.gh_machine.proofs.Envs.{env_in_zero}

-- nothing moves
pub goes_same : (p : Parts) (s : State) → IsHeld p → state_of p ≡ s → Goes p p s
goes_same p s h e = record {
  held = h;
  state = e;
  program = refl;
  cells = refl;
  stack = omega arith;
  near = omega arith;
  pending = refl;
  cells_capacity = omega arith;
  stack_capacity = omega arith;
  pending_capacity = omega arith;
}

pub goes_to : (old new : Parts) (s t : State) → Goes old new s → s ≡ t → Goes old new t
goes_to old new s t g e = record {
  held = g.held;
  state = g.state ∙ e;
  program = g.program;
  cells = g.cells;
  stack = g.stack;
  near = g.near;
  pending = g.pending;
  cells_capacity = g.cells_capacity;
  stack_capacity = g.stack_capacity;
  pending_capacity = g.pending_capacity;
}

pub leads_same : {n : ℕ} (p : Parts) (s : State) → IsHeld p → state_of p ≡ s → Leads n p p s
leads_same p s h e = record {
  held = h;
  state = e;
  program = refl;
  cells = omega arith;
  total = omega arith;
  stack = omega arith;
  near = omega arith;
  pending = omega arith;
  cells_capacity = omega arith;
  stack_capacity = omega arith;
  pending_capacity = omega arith;
}

pub leads_to : {m n : ℕ} (old new : Parts) (s t : State) → Leads m old new s → m ≤ n → s ≡ t → Leads n old new t
leads_to old new s t g le e = record {
  held = g.held;
  state = g.state ∙ e;
  program = g.program;
  cells = let a = g.cells in omega arith;
  total = g.total;
  stack = g.stack;
  near = g.near;
  pending = g.pending;
  cells_capacity = g.cells_capacity;
  stack_capacity = g.stack_capacity;
  pending_capacity = g.pending_capacity;
}

pub nonzero : (n : ℕ) → false ≡ (n == 0) → 0 < n
nonzero zero e = absurd (let no : ⊥ = cc in no)
nonzero (suc n) e = omega arith

-- something waits: no list is printed
pub listed_waits : (c : Origin) (es : List Term) (ws : List Waiting) (out : List ℕ) (s : State) → 0 < length ws → listed c es ws out s ≡ s
listed_waits c es [] out s lt = absurd (omega arith)
listed_waits c es (w ∷ ws) out s lt = refl

pub listed_behind : (c : Origin) (ws : List Waiting) (out : List ℕ) (s : State) → (length (args_of ws) ≡ length ws → ⊥) → listed c (args_of ws) (after_args ws) out s ≡ s
listed_behind c ws out s ne =
    let is = ap length (after_is ws) in
    let le = has_more ws in
    listed_waits c (args_of ws) (after_args ws) out s (omega (arith, is, length-drop (length (args_of ws)) ws, le, ne))

spaces : (a b : Space) → same_space a b ≡ sameb the_space a b
spaces Values Values = refl
spaces Values Types = refl
spaces Types Values = refl
spaces Types Types = refl

and_assoc : (p q r : Bool) → (p && q && r) ≡ (p && (q && r))
and_assoc true q r = refl
and_assoc false q r = refl

-- the code's test of two origins
pub origins : (a b : Origin) → same_origin a b ≡ ((a.«module».0 == b.«module».0) && (sameb the_space a.space b.space && (a.name.0 == b.name.0)))
origins a b =
    ap (λ q. (a.«module».0 == b.«module».0) && q && (a.name.0 == b.name.0)) (spaces a.space b.space)
    ∙ and_assoc (a.«module».0 == b.«module».0) (sameb the_space a.space b.space) (a.name.0 == b.name.0)

and_last : (p q r : Bool) → (p && q && r) ≡ true → r ≡ true
and_last true true true e = refl
and_last true true false e = e
and_last true false true e = refl
and_last true false false e = e
and_last false true true e = refl
and_last false true false e = e
and_last false false true e = refl
and_last false false false e = e

and_false : (p q r : Bool) → r ≡ false → (p && q && r) ≡ false
and_false true true r e = e
and_false true false r e = refl
and_false false q r e = refl

no_nil : (c : Origin) → same_origin c cons ≡ true → same_origin c nil ≡ false
no_nil c e =
    let last : (c.name.0 == cons.name.0) ≡ true = and_last (c.«module».0 == cons.«module».0) (same_space c.space cons.space) (c.name.0 == cons.name.0) e in
    let name : c.name.0 ≡ cons.name.0 = elim (eqb_tells c.name.0 cons.name.0) [
      | inl h ↦ h.1
      | inr h ↦ absurd (let k : true ≡ false = sym last ∙ h.0 in let no : ⊥ = cc in no)
    ] in
    and_false (c.«module».0 == nil.«module».0) (same_space c.space nil.space) (c.name.0 == nil.name.0) (ap (λ n. n == nil.name.0) name)

-- a cell of the printed list
pub listed_cons : (c : Origin) (ws : List Waiting) (out : List ℕ) (s : State) → length (args_of ws) ≡ length ws → same_origin c cons ≡ true → list_cell false true (args_of ws) out s ≡ listed c (args_of ws) (after_args ws) out s
listed_cons c ws out s e is =
    sym (ap (λ us. listed c (args_of ws) us out s) (after_all ws e)
    ∙ (λ i. list_cell (no_nil c is i) (is i) (args_of ws) out s))

-- an empty machine
pub started : (cells : List Cell) (fs : List Frame) (out : List ℕ) (t : Term) → cells ≡ [] → fs ≡ [] → out ≡ [] → demand (close t (env_in (envs_of cells) 0)) (stack_in (envs_of cells) [] fs) out ≡ start t
started cells fs out t a b c =
    (λ i. demand (close t (env_in (envs_of (a i)) 0)) (stack_in (envs_of (a i)) [] (b i)) (c i)) ∙ ap (λ u. demand u [] []) (close-empty t)

-- cells were added
pub held_bound : (old mid : Parts) (top : ℕ) (ρ : Env) → IsHeld old → IsBound old.cells.items mid.cells.items top ρ → mid.stack.items ≡ old.stack.items → mid.demand ≡ old.demand → IsNear mid.furthest mid.cells.items → old.furthest ≤ mid.furthest → IsHeld mid
held_bound old mid top ρ h b s d near far =
    let n = length mid.cells.items in
    let le = h.demand in
    let more = b.more in
    let reached = h.reach.demand in
    record {
      cells = b.fine;
      demand = subst (λ k. demand_env k ≤ n) (sym d) (omega arith);
      stack = subst (λ fs. AreWithin n fs) (sym s) (within_more (length old.cells.items) n old.stack.items b.more h.stack);
      reach = record {
        cells = near;
        demand = subst (λ k. demand_reach k ≤ mid.furthest) (sym d) (omega arith);
        stack = subst (λ fs. AreNear mid.furthest fs) (sym s) (near_more old.furthest mid.furthest old.stack.items far h.reach.stack);
      };
    }

pub led_bound : {k m : ℕ} (old mid new : Parts) (n top : ℕ) (t : Term) (ρ : Env) (s : State) → IsHeld old → IsBound old.cells.items mid.cells.items top ρ
    → mid.stack ≡ old.stack → mid.pending ≡ old.pending → mid.program ≡ old.program → vec_capacity old.cells ≤ vec_capacity mid.cells
    → Leads k mid new (demand (close t (env_in (envs_of mid.cells.items) top)) (drop n (stack_in (envs_of mid.cells.items) [] mid.stack.items)) mid.pending.items)
    → vec_len new.cells ≤ vec_len old.cells + m
    → vec_len new.cells + vec_len new.stack ≤ vec_len old.cells + vec_len old.stack + 2
    → new.furthest ≤ old.furthest + 2
    → demand (close t ρ) (drop n (stack_in (envs_of old.cells.items) [] old.stack.items)) old.pending.items ≡ s
    → Leads m old new s
led_bound old mid new n top t ρ s h b st pe pr cap l names total near e =
    let same : stack_in (envs_of mid.cells.items) [] mid.stack.items ≡ stack_in (envs_of old.cells.items) [] old.stack.items =
    ap (λ v. stack_in (envs_of mid.cells.items) [] v.items) st ∙ stack_same (envs_of old.cells.items) (envs_of mid.cells.items) (length old.cells.items) old.stack.items b.keeps h.stack in
    let a = ap (λ v. vec_len v) st in
    let ac = ap (λ v. vec_capacity v) st in
    let q = ap (λ v. vec_len v) pe in
    let qc = ap (λ v. vec_capacity v) pe in
    let l1 = l.stack in
    let l2 = l.pending in
    let l3 = l.cells_capacity in
    let l4 = l.stack_capacity in
    let l5 = l.pending_capacity in
    record {
      held = l.held;
      state = l.state ∙ (λ i. demand (close t (b.env i)) (drop n (same i)) ((pe i).items)) ∙ e;
      program = l.program ∙ pr;
      cells = names;
      total = total;
      near = near;
      stack = omega (arith, a, l1);
      pending = omega (arith, q, l2);
      cells_capacity = omega arith;
      stack_capacity = omega (arith, ac, l4);
      pending_capacity = omega (arith, qc, l5);
    }

-- a function with its argument
pub entered : (x : ℕ) (b : Term) (ρ : Env) (e : Term) (ws rest : List Waiting) (out : List ℕ) (s : State) → ws ≡ arg e ∷ rest → demand (close b (put ρ x e)) rest out ≡ enter x (close b (without ρ (λ y. y == x))) ws out s
entered x b ρ e ws rest out s is =
    ap (λ t. demand t rest out) (sym (close_entered b ρ x e)) ∙ sym (ap (λ us. enter x (close b (without ρ (λ y. y == x))) us out s) is)

-- what waits behind the arguments
pub behind : (ws : List Waiting) (n : ℕ) (w : Waiting) (rest : List Waiting) → length (args_of ws) ≡ n → drop n ws ≡ w ∷ rest → after_args ws ≡ w ∷ rest
behind ws n w rest e is = after_is ws ∙ ap (λ k. drop k ws) e ∙ is

pub uncover_idle : (b : Bool) (es : List Term) (stack : List Waiting) (out : List ℕ) (s : State) → (length es ≡ 1 → b ≡ true → ⊥) → uncover b es stack out s ≡ s
uncover_idle false es stack out s h = refl
uncover_idle true [] stack out s h = refl
uncover_idle true (e ∷ []) stack out s h = absurd (h refl refl)
uncover_idle true (e ∷ d ∷ es) stack out s h = refl

put_nil : (ρ : Env) (xs : List ℕ) → put_all ρ xs [] ≡ ρ
put_nil ρ [] = refl
put_nil ρ (x ∷ xs) = refl

-- an alternative without names, and one with two
pub no_names : (t : Term) (ρ : Env) (xs : List ℕ) → length xs ≡ 0 → close (close t (without ρ (is_in xs))) (put_all empty xs []) ≡ close t ρ
no_names t ρ xs e = close_chosen t ρ xs [] e ∙ ap (close t) (put_nil ρ xs)

double : (xs : List ℕ) → length xs ≡ 2 → xs ≡ get_or xs 0 0 ∷ get_or xs 1 0 ∷ []
double [] e = absurd (omega arith)
double (x ∷ []) e = absurd (omega arith)
double (x ∷ y ∷ []) e = refl
double (x ∷ y ∷ z ∷ xs) e = absurd (omega arith)

pub two_names : (t : Term) (ρ : Env) (xs : List ℕ) (d e : Term) → length xs ≡ 2 → close (close t (without ρ (is_in xs))) (put_all empty xs (d ∷ e ∷ [])) ≡ close t (put_all ρ (get_or xs 0 0 ∷ get_or xs 1 0 ∷ []) (d ∷ e ∷ []))
two_names t ρ xs d e n = close_chosen t ρ xs (d ∷ e ∷ []) n ∙ ap (λ ys. close t (put_all ρ ys (d ∷ e ∷ []))) (double xs n)

-- a letrec gives way
pub unrolled : (p : Program) (T : Term) (B : Binds) (b : Term) (ρ : Env) (ws : List Waiting) (out : List ℕ) (s : State) → T ≡ letrec B b → demand (close b (group (binds_in T) ρ)) ws out ≡ reduce_at p (opened (close T ρ)) ws out s
unrolled p T B b ρ ws out s is =
    let P : Term → Type 0 = λ u. demand (close b (group (binds_in u) ρ)) ws out ≡ reduce_at p (opened (close u ρ)) ws out s in
    subst P (sym is) (ap (λ u. demand u ws out) (sym (close_unrolled B b ρ)))

pub unrolled_binding : (B : Binds) (b u : Term) (ρ : Env) (ws : List Waiting) (out : List ℕ) → u ≡ b
    → (let cs = close_binds B (without ρ (binds_name B)) in demand (close u (group B ρ)) ws out ≡ demand (close (close b (without ρ (binds_name B))) (put_rec cs empty cs)) ws out)
unrolled_binding B b u ρ ws out e = ap (λ v. demand (close v (group B ρ)) ws out) e ∙ ap (λ v. demand v ws out) (sym (close_unrolled B b ρ))

-- a definition
pub unfolded : (cells : List Cell) (o : Option Term) (t : Term) (ws : List Waiting) (out : List ℕ) (s : State) → Some t ≡ o → demand (close t (env_in (envs_of cells) 0)) ws out ≡ unfold_global o ws out s
unfolded cells o t ws out s e =
    ap (λ (ρ : Env). demand (close t ρ) ws out) (env_in_zero cells) ∙ ap (λ u. demand u ws out) (close-empty t) ∙ ap (λ p. unfold_global p ws out s) e

-- a substitution keeps the number of bindings
pub bindings-close : (bs : Binds) (σ : Env) → binding_count (close_binds bs σ) ≡ binding_count bs
bindings-close no_bind σ = refl
bindings-close (bind x t rest) σ = ap suc (bindings-close rest σ)

-- a letrec binds its names
pub unrolled_names : (p : Program) (T : Term) (B : Binds) (b : Term) (ρ : Env) (ws : List Waiting) → T ≡ letrec B b → binding_count (binds_in T) ≡ names_at p (opened (close T ρ)) ws
unrolled_names p T B b ρ ws is =
    subst (λ (u : Term). binding_count (binds_in u) ≡ names_at p (opened (close u ρ)) ws) (sym is) (sym (bindings-close B (without ρ (binds_name B))))
