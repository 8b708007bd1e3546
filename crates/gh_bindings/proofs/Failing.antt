-- A program of bindings never fails.
use Rattle.std.proofs.Common.{◌≡◌, ℕ, zero, suc, ◌+◌, ◌*◌, ◌-◌, ◌≤◌, inl, inr, List, [], ◌∷◌, refl, sym, subst, arith}
use Rattle.gh_base.specs.declared.fixed.TheConstants.{MAIN}
use Rattle.gh_core.specs.Erase.{erased_program}
use Rattle.gh_core.specs.Reduce.{Status, running, ended, failed}
use Rattle.gh_core.specs.Reduce as core
use Rattle.gh_core.specs.Run.{Seen, seen, core_main}
use Rattle.gh_core.specs.Terms as t
use Rattle.gh_bindings.specs.declared.binding.Binding.{Binding}
use Rattle.gh_bindings.specs.Core.{core_program}
use Rattle.gh_keeps.specs.Keeps.{IsOver, Reaches, runs}
use Rattle.gh_bindings.specs.Laws.{HasNotFailed, NoneFails}
use Rattle.gh_bindings.specs.Meaning.{definitions, main_value, meaning}
use Rattle.gh_bindings.specs.Source as source
use Rattle.gh_bindings.specs.Acts as model
use Rattle.gh_keeps.proofs.Bridge.{moves, stays, by_order, runs-add, runs-still, grown_between}
use Rattle.gh_keeps.proofs.Rises.{rises}
use Rattle.gh_bindings.proofs.Plain.{plain_program, main_plain}
use Rattle.gh_bindings.proofs.Relation.{Same, same_name, same_string, same_cell, same_join, put_left, put_right, Join, Stacks, bottom, waits}
use Rattle.gh_bindings.proofs.Keeping.{reduce, Related, related, Goes, goes_on, main_related, core_runs, core_keeps_meaning}

-- what reaches a run that has not failed has not failed
before_good : (a b : Seen) → Reaches a b → HasNotFailed b.status → HasNotFailed a.status
before_good a b r h = by a.status refl
  where
    by : (st : Status) → a.status ≡ st → HasNotFailed a.status
    by running e = subst HasNotFailed (sym e) tt
    by ended e = subst HasNotFailed (sym e) tt
    by (failed cause place) e = subst (λ (s : Seen). HasNotFailed s.status) (sym (r.over (subst IsOver (sym e) tt))) h

demand_good : {e : source.Expression} {e' : t.Term} (js : List Join) (ws : List core.Waiting) (out : List ℕ) → Same e e' → Stacks js ws → HasNotFailed (core.demand e' ws out).status
demand_good js ws out (same_name x) st = tt
demand_good _ _ out (same_string []) bottom = tt
demand_good _ _ out (same_string (c ∷ cs)) bottom = tt
demand_good _ _ out (same_string cs) (waits a r st) = tt
demand_good js ws out (same_cell c h h' r) st = tt
demand_good js ws out (same_join r q) st = tt
demand_good js ws out (put_left r) st = demand_good js ws out r st
demand_good js ws out (put_right r) st = demand_good js ws out r st

module _ (bs : List Binding) where
  good : (w : ℕ) (s : model.State) (c : core.State) → Related bs w s c → HasNotFailed c.status
  good w s c (related e e' js ws out r st own es ec) = subst (λ (x : core.State). HasNotFailed x.status) (sym ec) (demand_good js ws out r st)

  weightless : (w : ℕ) (s : model.State) (c : core.State) → Related bs w s c → Related bs 0 s c
  weightless w s c (related e e' js ws out r st own es ec) = related e e' js ws out r st own es ec

  -- after some reductions, at least so many, the run has not failed
  abbrev Later : ℕ → core.State → Type 0
  Later n c = (m : ℕ) × (n ≤ m) × HasNotFailed (runs (reduce bs) m c).status

  later_by : (n : ℕ) (s : model.State) (c : core.State) → Related bs 0 s c → ((k : ℕ) → k + 1 ≤ n → (s' : model.State) (c' : core.State) → Related bs 0 s' c' → Later k c') → Goes bs 0 s c → Later n c
  later_by n s c r rec (stays es ec) = (n, omega arith, subst (λ (x : core.State). HasNotFailed x.status) (sym (runs-still (reduce bs) n c ec)) (good 0 s c r))
  later_by n s c r rec (moves j i v q le (inr less) r') = absurd (omega (arith, less))
  later_by n s c r rec (moves j i v q le (inl some) r') =
      let s' = runs (model.act (definitions bs)) (suc j) s in
      let c' = runs (reduce bs) i c in
      by_order i n
      (λ more.
      let b = rec (n - i) (omega (arith, more, some)) s' c' (weightless v s' c' r') in
      (i + b.0, omega (arith, b.1, more), subst (λ (x : core.State). HasNotFailed x.status) (runs-add (reduce bs) i b.0 c) b.2))
      (λ few. (i, few, good v s' c' r'))

  later : (bound n : ℕ) (s : model.State) (c : core.State) → n ≤ bound → Related bs 0 s c → Later n c
  later zero n s c le r = later_by n s c r (λ k l. absurd (omega (arith, l, le))) (goes_on bs 0 s c r)
  later (suc bound) n s c le r = later_by n s c r (λ k l s' c' r'. later bound k s' c' (omega (arith, l, le)) r') (goes_on bs 0 s c r)

  core_good : (n : ℕ) → HasNotFailed (core_main (erased_program (core_program bs)) n).status
  core_good n =
      let start = core.demand main_plain [] [] in
      let b = later n n (model.demand (source.top (main_value MAIN)) [] []) start (omega arith) (main_related bs) in
      subst (λ (x : Seen). HasNotFailed x.status) (sym (core_runs bs n))
      (before_good (seen (runs (reduce bs) n start)) (seen (runs (reduce bs) b.0 start)) (grown_between (reduce bs) seen (rises (plain_program bs)) n b.0 start b.1) b.2)

  meaning_good : (n : ℕ) → HasNotFailed (meaning bs n).status
  meaning_good n = before_good (meaning bs n) (core_main (erased_program (core_program bs)) (1000 * (n + 1))) ((core_keeps_meaning bs).within n) (core_good (1000 * (n + 1)))

pub none_fails : NoneFails
none_fails bs n = (meaning_good bs n, core_good bs n)
