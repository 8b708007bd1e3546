-- Laws on what runs show.
use Rattle.std.proofs.Common.{◌≡◌, ℕ, ◌+◌, ◌*◌, ◌≤◌, refl, sym, ap, subst₂, arith}
use Rattle.gh_core.specs.Reduce.{reduce, reductions}
use Rattle.gh_core.specs.Run.{seen}
use Rattle.gh_keeps.specs.Keeps.{Reaches, runs}
use Rattle.gh_keeps.specs.Laws.{CoreGoesOn, KeepingComposes, KeepingEnds, ReachesEither, ReachesOn}
use Rattle.gh_keeps.proofs.Bridge.{grown_between, reaches_on, squeezed}
use Rattle.gh_keeps.proofs.Rises.{reductions_runs, rises}

pub core_goes_on : CoreGoesOn
core_goes_on p s m n le =
    subst₂ Reaches (ap_seen m) (ap_seen n) (grown_between (reduce p) seen (rises p) m n s le)
  where
    ap_seen : (k : ℕ) → seen (runs (reduce p) k s) ≡ seen (reductions p k s)
    ap_seen k = ap seen (sym (reductions_runs p k s))

pub reaches_further : ReachesOn
reaches_further a b c p q = reaches_on p q

pub reaches_either : ReachesEither
reaches_either a b p q = sym (squeezed a b a p q refl)

budget : (f g n : ℕ) → g * (f * (n + 1) + 1) ≤ g * (f + 1) * (n + 1)
budget f g n = omega arith

pub keeping_composes : KeepingComposes
keeping_composes f g a b c on p q = record {
  within = λ n. reaches_on (p.within n) (reaches_on (q.within (f * (n + 1))) (on (g * (f * (n + 1) + 1)) (g * (f + 1) * (n + 1)) (budget f g n)));
  only = λ n. let k = q.only n in let j = p.only k.0 in (j.0, reaches_on k.1 j.1);
}

pub keeping_ends : KeepingEnds
keeping_ends f a b p = (
  (λ n over. (f * (n + 1), (p.within n).over over)),
  (λ m over. let k = p.only m in (k.0, k.1.over over)),
)
