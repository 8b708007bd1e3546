-- Where a list of rules fails.
use Rattle.std.proofs.Common.{◌≡◌, ℕ, zero, suc, ◌+◌, ◌-◌, ◌<◌, ◌≤◌, List, [], ◌∷◌, ◌++◌, length, take, drop, refl, sym, ap, ◌∙◌, subst, arith}
use Rattle.std.proofs.Math.Seq.{take-append_seam}
use Rattle.gh_kind_unify.specs.declared.rules.Rule.{Rule}
use Rattle.gh_kind_unify.specs.declared.cells.Cell.{Cell}
use Rattle.gh_kind_unify.specs.declared.cells.Cell.TheVariants as is
use Rattle.gh_kind_unify.specs.declared.build.Trouble.{Trouble}
use Rattle.gh_kind_unify.specs.declared.build.Trouble.TheVariants as trouble
use Rattle.gh_kind_unify.specs.declared.least.Bounds.{Bounds}
use Rattle.gh_kind_unify.specs.declared.least.KindFault.TheVariants as fault
use Rattle.gh_typeterm.specs.declared.kind.Kind.{Kind}
use Rattle.gh_kind_unify.specs.Kinds.{star, Kinds, MeetsAll, AreBelow, HasInSize, HasNone, IsLeastSolution, listed}
use Rattle.gh_kind_unify.specs.Cells.{cell, Fits, Holds, IsTidyAt, IsTidy}
use Rattle.gh_kind_unify.specs.Settling.{Settled, Refutes}
use Rattle.gh_kind_unify.specs.Faults.{Says, Fails, StopsFirst, AreBounds}

-- cells that say nothing
pub free_more : (cells : List Cell) (v : ℕ) → ((u : ℕ) → cell cells u ≡ is.Free) → cell (cells ++ is.Free ∷ []) v ≡ is.Free
free_more [] zero h = refl
free_more [] (suc v) h = refl
free_more (c ∷ cells) zero h = h 0
free_more (c ∷ cells) (suc v) h = free_more cells v (λ u. h (suc u))

pub free_tidy : (cells : List Cell) → ((v : ℕ) → cell cells v ≡ is.Free) → IsTidy cells
free_tidy cells h v l = subst (IsTidyAt (length cells) v) (sym (h v)) tt

pub free_holds : (cells : List Cell) (ρ : Kinds) → ((v : ℕ) → cell cells v ≡ is.Free) → Holds ρ cells
free_holds cells ρ h v l = subst (Fits ρ v) (sym (h v)) tt

pub says_settled : (start cells : List Cell) (rules : List Rule) → ((v : ℕ) → cell start v ≡ is.Free) → Settled start rules cells → Says rules cells
says_settled start cells rules h s = record { tidy = s.tidy; forth = λ ρ m. s.forth ρ (free_holds start ρ h) m; back = s.back }

written_back : (new items : List Cell) (len : ℕ) → length new ≡ len → take len (new ++ drop (length new) items) ≡ new
written_back new items len e = ap (λ n. take n (new ++ drop (length new) items)) (sym e) ∙ take-append_seam new (drop (length new) items)

-- cells that were settled in place
pub settled_back : (start items new : List Cell) (len count : ℕ) (rules todo : List Rule) → start ≡ items → length start ≡ len → length items ≡ count
    → ((v : ℕ) → cell items v ≡ is.Free) → Settled start todo new → todo ≡ rules
    → (length (take len (new ++ drop (length new) items)) ≡ count) × Says rules (take len (new ++ drop (length new) items))
settled_back start items new len count rules todo is_items is_len is_count free s is_rules =
    let back = written_back new items len (s.count ∙ is_len) in
    let t = subst (λ z. Settled z todo new) is_items s in
    let says = subst (λ z. Says z new) is_rules (says_settled items new todo free t) in
    (ap length back ∙ s.count ∙ ap length is_items ∙ is_count, subst (Says rules) (sym back) says)

pub none_refuted : (start : List Cell) (rules : List Rule) → ((v : ℕ) → cell start v ≡ is.Free) → Refutes start rules → HasNone rules
none_refuted start rules h r ρ m = r ρ (free_holds start ρ h) m

pub none_back : (start items : List Cell) (rules todo : List Rule) → start ≡ items → ((v : ℕ) → cell items v ≡ is.Free) → Refutes start todo → todo ≡ rules → HasNone rules
none_back start items rules todo is_items free r is_rules =
    subst HasNone is_rules (none_refuted items todo free (subst (λ z. Refutes z todo) is_items r))

pub below_take : (count n : ℕ) (rules : List Rule) → AreBelow count rules → AreBelow count (take n rules)
below_take count zero rules b = tt
below_take count (suc n) [] b = tt
below_take count (suc n) (r ∷ rules) b = (b.0, below_take count n rules b.1)

-- no rule is met by kinds in size
pub none_met : (count : ℕ) (rules : List Rule) → HasInSize count (take 0 rules)
none_met count rules = ((λ v. star), tt, (λ v l. omega arith))

take_whole : {A : Type 0} (xs : List A) → take (length xs) xs ≡ xs
take_whole [] = refl
take_whole (x ∷ xs) = ap (λ z. x ∷ z) (take_whole xs)

pub bounds_first : (count : ℕ) (rules : List Rule) (why : Trouble) → 0 < length rules → Fails why count rules → AreBounds count rules (record { met = 0; failing = length rules; why = why })
bounds_first count rules why some fails = record {
  met = none_met count rules;
  fails = subst (Fails why count) (sym (take_whole rules)) fails;
  order = some;
  within = omega arith;
}

-- bounds that are nearer
pub bounds_met : (count : ℕ) (rules : List Rule) (b : Bounds) (middle : ℕ) (kinds : List Kind) → AreBounds count rules b → middle < b.failing → IsLeastSolution count (take middle rules) kinds
    → AreBounds count rules (record { met = middle; failing = b.failing; why = b.why })
bounds_met count rules b middle kinds k l s = record {
  met = (listed kinds, s.meets, s.size);
  fails = k.fails;
  order = l;
  within = k.within;
}

pub bounds_failed : (count : ℕ) (rules : List Rule) (b : Bounds) (middle : ℕ) (why : Trouble) → AreBounds count rules b → b.met < middle → middle < b.failing → Fails why count (take middle rules)
    → AreBounds count rules (record { met = b.met; failing = middle; why = why })
bounds_failed count rules b middle why k l m f =
    let w = k.within in
    record { met = k.met; fails = f; order = l; within = omega (arith, m, w) }

found : (count : ℕ) (rules : List Rule) (b : Bounds) → AreBounds count rules b → b.failing ≤ b.met + 1 → b.failing ≡ suc b.met
found count rules b k near = let o = k.order in omega (arith, o, near)

found_within : (count : ℕ) (rules : List Rule) (b : Bounds) → AreBounds count rules b → b.met < length rules
found_within count rules b k = let o = k.order in let w = k.within in omega (arith, o, w)

found_fails : (count : ℕ) (rules : List Rule) (b : Bounds) (t : Trouble) → AreBounds count rules b → b.failing ≤ b.met + 1 → b.why ≡ t → Fails t count (take (suc b.met) rules)
found_fails count rules b t k near is = subst (λ z. Fails t count (take z rules)) (found count rules b k near) (subst (λ z. Fails z count (take b.failing rules)) is k.fails)

pub first_clash : (count : ℕ) (rules : List Rule) (b : Bounds) → AreBounds count rules b → b.failing ≤ b.met + 1 → b.why ≡ trouble.Clash → StopsFirst count rules (fault.Clash b.met)
first_clash count rules b k near is = (found_within count rules b k, k.met, found_fails count rules b trouble.Clash k near is)

pub first_larger : (count : ℕ) (rules : List Rule) (b : Bounds) → AreBounds count rules b → b.failing ≤ b.met + 1 → b.why ≡ trouble.TooLarge → StopsFirst count rules (fault.TooLarge b.met)
first_larger count rules b k near is = (found_within count rules b k, k.met, found_fails count rules b trouble.TooLarge k near is)
