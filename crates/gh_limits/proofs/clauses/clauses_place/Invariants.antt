use Rattle.std.proofs.Common.{◌≡◌, ◌≤◌, min, map, drop, None}
use Rattle.gh_limits.specs.Inside.{clause_at, clause_counts}
use Rattle.gh_limits.specs.Places.{first_place}
use Rattle.gh_limits.proofs.clauses.clauses_place.Given as goal

abbrev pub invariant-loop-item : goal.invariant-loop-item
invariant-loop-item l = (first_place (clause_counts None 0 (map clause_at l.decls)) ≡ min l.best (first_place (clause_counts l.before l.many (map clause_at (drop l.item-index l.decls))))) × (l.many ≤ l.item-index) × (l.best ≤ 7)
