-- The least level of the variables whose types hold one.
use Rattle.std.proofs.Common.{◌≡◌, ℕ, zero, suc, ◌+◌, ◌<◌, ◌≤◌, min, Bool, true, false, IsTrue, List, length, get_or, Option, Some, None, refl, sym, ap, ◌∙◌, inl, inr, ◌⊎◌, arith}
use Rattle.gh_typeterm.specs.declared.ty.TyNode.{TyNode}
use Rattle.gh_unify.specs.Types.{has, mono}
use Rattle.gh_unify.specs.Kept.{drawn_of, eqs_of, level_of, type_in}
use Rattle.gh_unify.specs.Tables.{best, value_of}
use Rattle.gh_unify.specs.Levels.{Holds, IsLeast, IsReached, IsLowered}
use Rattle.gh_unify.specs.declared.table.Variable.{Variable}
use Rattle.gh_unify.proofs.Insts.{eqb-same}
use Rattle.gh_unify.proofs.Ends.{best_entry}
use Rattle.gh_unify.proofs.Tables.{level_entry}

pub holds_entry : (kept : List Variable) (number v : ℕ) (d : Variable) (o : Option TyNode) (b : Bool) → number < length kept → (get_or kept number d).term ≡ o
    → b ≡ has v (value_of (type_in o) number) → b ≡ has v (best (eqs_of kept) number)
holds_entry kept number v d o b h e is = is ∙ sym (ap (has v) (best_entry kept number d o h e))

not_true : {A : Type 0} (b : Bool) → b ≡ false → IsTrue b → A
not_true b e h = let k : true ≡ false = sym h ∙ e in absurd (cc)

pub lowered_not : (kept : List Variable) (number v least : ℕ) (b : Bool) → b ≡ has v (best (eqs_of kept) number) → b ≡ false → IsLowered kept v number least least
lowered_not kept number v least b is e = (omega arith, not_true (has v (best (eqs_of kept) number)) (sym is ∙ e), inl refl)

pub lowered : (kept : List Variable) (number v least low : ℕ) (d : Variable) (b : Bool) → number < length kept → b ≡ has v (best (eqs_of kept) number) → b ≡ true
    → low ≡ min least (get_or kept number d).level → IsLowered kept v number least low
lowered kept number v least low d b h is e m =
    let level = level_entry kept number d h in (
      omega (arith, m),
      (λ _. omega (arith, m, level)),
      elim (either_min least (get_or kept number d).level) [
        | inl k ↦ inl (m ∙ k)
        | inr k ↦ inr (sym is ∙ e, m ∙ k ∙ sym level)
      ],
    )
  where
    either_min : (a c : ℕ) → (min a c ≡ a) ⊎ (min a c ≡ c)
    either_min a c = grind arith

pub least_first : (kept : List Variable) (v : ℕ) (d : Variable) → v < length kept → eqs_of kept v ≡ None → IsReached kept v (get_or kept v d).level
least_first kept v d h e = (v, h, ap (λ o. has v (value_of o v)) e ∙ eqb-same v, sym (level_entry kept v d h))

pub least_none : (kept : List Variable) (v level : ℕ) → IsLeast kept v 0 level
least_none kept v level w h t = absurd (omega arith)

pub least_next : (kept : List Variable) (v number least low : ℕ) → IsLeast kept v number least → IsLowered kept v number least low → IsLeast kept v (number + 1) low
least_next kept v number least low m l w h t = by (below w number h)
  where
    below : (w n : ℕ) → w < n + 1 → (w < n) ⊎ (w ≡ n)
    below w n h = grind arith

    by : (w < number) ⊎ (w ≡ number) → low ≤ level_of (drawn_of kept) w
    by (inl k) = let p = m w k t in let q = l.0 in omega (arith, p, q)
    by (inr k) =
        let p : low ≤ level_of (drawn_of kept) number = l.1 (sym (ap (λ x. has v (best (eqs_of kept) x)) k) ∙ t) in
        let q : level_of (drawn_of kept) w ≡ level_of (drawn_of kept) number = ap (level_of (drawn_of kept)) k in
        omega (arith, p, q)

pub reached_next : (kept : List Variable) (v number least low : ℕ) → number < length kept → IsReached kept v least → IsLowered kept v number least low → IsReached kept v low
reached_next kept v number least low h r l = by l.2
  where
    by : (low ≡ least) ⊎ (Holds kept number v × (low ≡ level_of (drawn_of kept) number)) → IsReached kept v low
    by (inl k) = (r.0, r.1, r.2, k ∙ r.3)
    by (inr k) = (number, h, k.0, k.1)
