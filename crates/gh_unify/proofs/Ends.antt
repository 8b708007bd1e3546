-- Scope and size of the most general solution, and the causes of refusals.
use Rattle.std.proofs.Common.{◌≡◌, ◌↔◌, ℕ, ◌<◌, ◌≤◌, Bool, true, false, not, IsTrue, List, length, get_or, Option, Some, None, refl, sym, ap, ◌∙◌, subst, inl, inr, arith}
use Rattle.std.specs.Prelude.{MatchOption}
use Rattle.std.specs.Option.{SomeIff, is_some}
use Rattle.gh_typeterm.specs.Terms.{size_of}
use Rattle.gh_typeterm.specs.declared.ty.TyNode.{TyNode}
use Rattle.gh_typeterm.specs.declared.ty.TyNode.TheVariants as t
use Rattle.gh_unify.specs.Types.{Mono, con, var, app, name, Val, inst, has, nodes, head_of, mono}
use Rattle.gh_unify.specs.Kept.{AreDrawn, CanBeMet, HasValues, MostGeneral, Eqs, Drawn, is_rigid, drawn_of, eqs_of, type_in, Solves, IsSolution, SolvesBoth, InScope, InSize, level_of, IsRead}
use Rattle.gh_unify.specs.Causes.{IsFixed, Differ, IsLarger, Shows, HasNone, Lacks}
use Rattle.gh_unify.specs.Tables.{best, value_of}
use Rattle.gh_unify.specs.Steps.{IsTidy, IsSettled, Reached, Blocked, Leaves, Exceeds, Stays}
use Rattle.gh_unify.specs.declared.table.Variable.{Variable}
use Rattle.gh_unify.specs.declared.unifier.UnifyFault.{UnifyFault}
use Rattle.gh_unify.specs.declared.unifier.UnifyFault.TheVariants.{Clash, Occurs, Escapes, TooLarge, NoMemory}
use Rattle.gh_unify.proofs.Insts.{IsVar, no_cycle, has-inst, nodes-inst, eqb-same, eqb-is, true-either}
use Rattle.gh_unify.proofs.Solved.{forced_holds, forced_values, is_best}
use Rattle.gh_unify.proofs.Reading.{mono-Var, mono-App, nodes-mono}
use Rattle.gh_unify.proofs.Tables.{drawn_length, level_entry, type_entry}

-- a fixed head stays in every solution
fixed_head : (E : Eqs) (D : Drawn) (ρ : Val) (u : Mono) → Solves E D ρ → IsFixed D u → head_of (inst ρ u) ≡ head_of u
fixed_head E D ρ (con c) s h = refl
fixed_head E D ρ (var v) s h = ap head_of (s.rigid v h)
fixed_head E D ρ (app f a) s h = refl
fixed_head E D ρ (name n) s h = refl

pub differ_none : (E : Eqs) (D : Drawn) (ρ : Val) (l r : Mono) → Solves E D ρ → Differ D l r → inst ρ l ≡ inst ρ r → ⊥
differ_none E D ρ l r s d e = d.2 (sym (fixed_head E D ρ l s d.0) ∙ ap head_of e ∙ fixed_head E D ρ r s d.1)

larger : (u : Mono) → IsLarger u → IsVar u → ⊥
larger (con c) n h = h
larger (var v) n h = n v refl
larger (app f a) n h = h
larger (name m) n h = h

-- an equation that is refused in the work has no solution at all
clash_none : (kept : List Variable) (a b l r : TyNode) → Blocked (Clash l r) kept a b → HasNone kept a b
clash_none kept a b l r h ρ s =
    differ_none (eqs_of kept) (drawn_of kept) ρ (mono l) (mono r) s.0 h.1
    (forced_holds (eqs_of kept) (drawn_of kept) (mono a) (mono b) (mono l) (mono r) ρ s.0 s.1 h.0)

occurs_none : (kept : List Variable) (a b : TyNode) (v : ℕ) (u : TyNode) → Blocked (Occurs v u) kept a b → HasNone kept a b
occurs_none kept a b v u h ρ s =
    no_cycle ρ (mono u) v h.1 (larger (mono u) h.2) (forced_holds (eqs_of kept) (drawn_of kept) (mono a) (mono b) (var v) (mono u) ρ s.0 s.1 h.0)

pub blocked_lacks : (fault : UnifyFault) (kept : List Variable) (a b : TyNode) → Blocked fault kept a b → Lacks fault kept a b
blocked_lacks (Clash l r) kept a b h = clash_none kept a b l r h
blocked_lacks (Occurs v u) kept a b h = occurs_none kept a b v u h
blocked_lacks (Escapes r v) kept a b h = absurd h
blocked_lacks (TooLarge v) kept a b h = absurd h
blocked_lacks NoMemory kept a b h = tt

pub blocked_shows : (fault : UnifyFault) (kept : List Variable) (a b : TyNode) → Blocked fault kept a b → Shows fault kept a b
blocked_shows (Clash l r) kept a b h = h
blocked_shows (Occurs v u) kept a b h = h
blocked_shows (Escapes r v) kept a b h = absurd h
blocked_shows (TooLarge v) kept a b h = absurd h
blocked_shows NoMemory kept a b h = tt

-- the solutions of what the work made are those of the old equations and the new one
pub made_from : (kept made : List Variable) (a b : TyNode) → drawn_of made ≡ drawn_of kept → Reached kept a b made
    → (ρ : Val) → SolvesBoth kept a b ρ → IsSolution made ρ
made_from kept made a b e r ρ s = subst (λ (D : Drawn). Solves (eqs_of made) D ρ) (sym e) (record {
  equal = λ v u k. forced_holds (eqs_of kept) (drawn_of kept) (mono a) (mono b) (var v) u ρ s.0 s.1 (r.kept v u k);
  rigid = s.0.rigid;
})

pub made_values : (kept made : List Variable) (a b : TyNode) → Reached kept a b made
    → (ρ : Val) → HasValues kept ρ → inst ρ (mono a) ≡ inst ρ (mono b) → HasValues made ρ
made_values kept made a b r ρ s e v t k = forced_values (eqs_of kept) (mono a) (mono b) (var v) t ρ s e (r.kept v t k)

pub best_general : (kept now : List Variable) → IsTidy (eqs_of kept) (drawn_of kept) → kept ≡ now → MostGeneral now (best (eqs_of now))
best_general kept now tidy e = subst (λ k. MostGeneral k (best (eqs_of k))) e (is_best (eqs_of kept) (drawn_of kept) tidy)

pub made_to : (kept made : List Variable) (a b : TyNode) → drawn_of made ≡ drawn_of kept → Reached kept a b made
    → (ρ : Val) → IsSolution made ρ → SolvesBoth kept a b ρ
made_to kept made a b e r ρ s = r.back ρ (subst (λ (D : Drawn). Solves (eqs_of made) D ρ) e s)

pub made_tidy : (kept made : List Variable) (a b : TyNode) → drawn_of made ≡ drawn_of kept → Reached kept a b made → IsTidy (eqs_of made) (drawn_of made)
made_tidy kept made a b e r = subst (λ (D : Drawn). IsTidy (eqs_of made) D) (sym e) r.tidy

pub made_count : (kept made : List Variable) → drawn_of made ≡ drawn_of kept → length made ≡ length kept
made_count kept made e = sym (drawn_length made) ∙ ap length e ∙ drawn_length kept

pub best_solves : (made : List Variable) → IsTidy (eqs_of made) (drawn_of made) → IsSolution made (best (eqs_of made))
best_solves made tidy = (is_best (eqs_of made) (drawn_of made) tidy).solves

pub settled_met : (kept : List Variable) → IsSettled kept → CanBeMet kept
settled_met kept s = (best (eqs_of kept), best_solves kept s.tidy, s.scope, s.size)

made_value : (kept made : List Variable) (a b : TyNode) → drawn_of made ≡ drawn_of kept → Reached kept a b made
    → (ρ : Val) → SolvesBoth kept a b ρ → (v : ℕ) → inst ρ (best (eqs_of made) v) ≡ ρ v
made_value kept made a b e r ρ s v =
    (is_best (eqs_of made) (drawn_of made) (made_tidy kept made a b e r)).factors ρ (made_from kept made a b e r ρ s) v

-- a rigid variable that escapes
leaves_shows : (kept made : List Variable) (a b : TyNode) (r v : ℕ) → drawn_of made ≡ drawn_of kept → Reached kept a b made → Leaves made r v
    → Shows (Escapes r v) kept a b
leaves_shows kept made a b r v e reached l =
    let count = made_count kept made e in
    let drawn = l.drawn in
    let rigid : IsTrue (is_rigid (drawn_of kept) r) = subst (λ (D : Drawn). IsTrue (is_rigid D r)) e l.rigid in (
      omega (arith, count, drawn),
      rigid,
      subst (λ (D : Drawn). level_of D v < level_of D r) e l.higher,
      λ ρ s. sym (ap (has r) (made_value kept made a b e reached ρ s v))
          ∙ has-inst ρ (best (eqs_of made) v) r r l.held (ap (has r) (s.0.rigid r rigid) ∙ eqb-same r),
    )

pub leaves_both : (kept made : List Variable) (a b : TyNode) (r v : ℕ) → drawn_of made ≡ drawn_of kept → Reached kept a b made → Leaves made r v
    → Lacks (Escapes r v) kept a b × Shows (Escapes r v) kept a b
leaves_both kept made a b r v e reached l =
    let shows = leaves_shows kept made a b r v e reached l in
    let tidy = made_tidy kept made a b e reached in
    let k = drawn_length kept in
    let drawn = shows.0 in
    let higher = shows.2 in (
      (
        (best (eqs_of made), made_to kept made a b e reached (best (eqs_of made)) (best_solves made tidy)),
        (λ ρ s scope. let low = scope v r (omega (arith, k, drawn)) shows.1 (shows.3 ρ s) in omega (arith, low, higher)),
      ),
      shows,
    )

-- a type that is too large
exceeds_shows : (kept made : List Variable) (a b : TyNode) (v : ℕ) → drawn_of made ≡ drawn_of kept → Reached kept a b made → Exceeds made v
    → Shows (TooLarge v) kept a b
exceeds_shows kept made a b v e reached x =
    let count = made_count kept made e in
    let drawn = x.drawn in
    let large = x.large in (
      omega (arith, count, drawn),
      λ ρ s. let p = nodes-inst ρ (best (eqs_of made) v) in
          let q : nodes (inst ρ (best (eqs_of made) v)) ≡ nodes (ρ v) = ap nodes (made_value kept made a b e reached ρ s v) in
          omega (arith, large, p, q),
    )

pub exceeds_both : (kept made : List Variable) (a b : TyNode) (v : ℕ) → drawn_of made ≡ drawn_of kept → Reached kept a b made
    → InScope (drawn_of made) (best (eqs_of made)) → Exceeds made v
    → Lacks (TooLarge v) kept a b × Shows (TooLarge v) kept a b
exceeds_both kept made a b v e reached scope x =
    let shows = exceeds_shows kept made a b v e reached x in
    let tidy = made_tidy kept made a b e reached in
    let k = drawn_length kept in
    let drawn = shows.0 in (
      (
        (best (eqs_of made), made_to kept made a b e reached (best (eqs_of made)) (best_solves made tidy), subst (λ (D : Drawn). InScope D (best (eqs_of made))) e scope),
        (λ ρ s sc size. let small = size v (omega (arith, k, drawn)) in let large = shows.1 ρ s in omega (arith, small, large)),
      ),
      shows,
    )

-- a variable on its own
pub above_other : (kept : List Variable) (term : TyNode) (v level : ℕ) → term ≡ t.Var v
    → (IsTrue (is_rigid (drawn_of kept) v) → level_of (drawn_of kept) v ≤ level)
    → (r : ℕ) → IsTrue (has r (mono term)) → IsTrue (is_rigid (drawn_of kept) r) → level_of (drawn_of kept) r ≤ level
above_other kept term v level e h r m k =
    let i : r ≡ v = eqb-is r v (sym (ap (has r) (ap mono e ∙ mono-Var v)) ∙ m) in
    subst (λ w. level_of (drawn_of kept) w ≤ level) (sym i) (h (subst (λ w. IsTrue (is_rigid (drawn_of kept) w)) i k))

pub above_both : (kept : List Variable) (term f x : TyNode) (level : ℕ) → term ≡ t.App f x
    → ((r : ℕ) → IsTrue (has r (mono f)) → IsTrue (is_rigid (drawn_of kept) r) → level_of (drawn_of kept) r ≤ level)
    → ((r : ℕ) → IsTrue (has r (mono x)) → IsTrue (is_rigid (drawn_of kept) r) → level_of (drawn_of kept) r ≤ level)
    → (r : ℕ) → IsTrue (has r (mono term)) → IsTrue (is_rigid (drawn_of kept) r) → level_of (drawn_of kept) r ≤ level
above_both kept term f x level e p q r m k =
    elim (true-either (has r (mono f)) (has r (mono x)) (sym (ap (has r) (ap mono e ∙ mono-App f x)) ∙ m)) [
      | inl h ↦ p r h k
      | inr h ↦ q r h k
    ]

-- a variable that is drawn later
pub tidy_drawn : (kept : List Variable) (v : ℕ) (d : Variable) (u : TyNode) → IsTidy (eqs_of kept) (drawn_of kept) → v < length kept
    → (get_or kept v d).term ≡ Some u → AreDrawn kept u
tidy_drawn kept v d u tidy h e w m =
    let k = drawn_length kept in
    let z = (tidy.resolved v (mono u) (type_entry kept v d h ∙ ap type_in e) w m).1 in omega (arith, k, z)

pub best_entry : (kept : List Variable) (v : ℕ) (d : Variable) (o : Option TyNode) → v < length kept → (get_or kept v d).term ≡ o
    → best (eqs_of kept) v ≡ value_of (type_in o) v
best_entry kept v d o h e = ap (λ p. value_of p v) (type_entry kept v d h ∙ ap type_in e)

pub stays_open : (kept : List Variable) (v : ℕ) (d : Variable) → v < length kept → (get_or kept v d).term ≡ None → Stays kept v
stays_open kept v d h e r k m =
    let i : r ≡ v = eqb-is r v (sym (ap (has r) (best_entry kept v d None h e)) ∙ m) in
    let j : level_of (drawn_of kept) r ≡ level_of (drawn_of kept) v = ap (level_of (drawn_of kept)) i in
    omega (arith, j)

pub at_entry : (kept : List Variable) (v : ℕ) (d d2 : Variable) (u : TyNode) (o : Option ℕ) → v < length kept → (get_or kept v d).term ≡ Some u
    → MatchOption o
    ((r : ℕ) → IsTrue (has r (mono u)) → IsTrue (is_rigid (drawn_of kept) r) → level_of (drawn_of kept) r ≤ (get_or kept v d2).level)
    (λ r. IsTrue (has r (mono u)) × IsTrue (is_rigid (drawn_of kept) r) × ((get_or kept v d2).level < level_of (drawn_of kept) r))
    → MatchOption o (Stays kept v) (λ r. Leaves kept r v)
at_entry kept v d d2 u None h e m =
    λ r k n.
    let level = level_entry kept v d2 h in
    let low = m r (sym (ap (has r) (best_entry kept v d (Some u) h e)) ∙ n) k in
    omega (arith, level, low)
at_entry kept v d d2 u (Some r) h e m =
    let level = level_entry kept v d2 h in
    let high = m.2 in
    record {
      drawn = h;
      rigid = m.1;
      higher = omega (arith, level, high);
      held = ap (has r) (best_entry kept v d (Some u) h e) ∙ m.0;
    }

passes_size : (n : ℕ) (o : Option ℕ) (r : Bool) → SomeIff o (n ≤ 1000) n → is_some o ≡ not r → IsTrue r ↔ (1000 < n)
passes_size n None true m b = ((λ h. omega (arith, m)), (λ h. refl))
passes_size n None false m b = absurd (cc)
passes_size n (Some x) true m b = absurd (cc)
passes_size n (Some x) false m b = ((λ h. absurd (cc)), (λ h. let small = m.0 in absurd (omega (arith, small, h))))

pub passes_entry : (kept : List Variable) (v : ℕ) (d : Variable) (u : TyNode) (o : Option ℕ) (r : Bool) → v < length kept → (get_or kept v d).term ≡ Some u
    → SomeIff o (size_of u ≤ 1000) (size_of u) → is_some o ≡ not r → IsTrue r ↔ (1000 < nodes (best (eqs_of kept) v))
passes_entry kept v d u o r h e m b =
    subst (λ n. IsTrue r ↔ (1000 < n)) (nodes-mono u ∙ sym (ap nodes (best_entry kept v d (Some u) h e))) (passes_size (size_of u) o r m b)

pub best_read : (kept now : List Variable) (a : TyNode) → IsTidy (eqs_of kept) (drawn_of kept) → kept ≡ now → (r : TyNode) → mono r ≡ inst (best (eqs_of kept)) (mono a)
    → IsRead now a r
best_read kept now a tidy e r m =
    subst (λ k. IsRead k a r) e (best (eqs_of kept), is_best (eqs_of kept) (drawn_of kept) tidy, m)

pub made_settled : (kept made : List Variable) (a b : TyNode) → drawn_of made ≡ drawn_of kept → Reached kept a b made → IsSettled kept
    → InScope (drawn_of made) (best (eqs_of made)) → InSize (drawn_of made) (best (eqs_of made)) → IsSettled made
made_settled kept made a b e r s scope size = record {
  tidy = made_tidy kept made a b e r;
  scope = scope;
  size = size;
  count = let k = made_count kept made e in let n = s.count in omega (arith, k, n);
}
