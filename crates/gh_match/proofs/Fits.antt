-- The numbers in rows are below the first above them all, so the rows fit.
use Rattle.std.proofs.Common.{◌≡◌, ◌≤◌, ◌<◌, ℕ, zero, suc, ◌+◌, Bool, true, false, List, [], ◌∷◌, ◌++◌, length, map, refl, sym, ap, ◌∙◌, subst, arith, ⊎_elim}
use Rattle.std.proofs.lemmas.Bool.Decides.{eqb_tells}
use Rattle.std.proofs.Math.Nat.{le-max_left, le-max_right}
use Rattle.std.specs.Prelude.{max, ◌==◌, ◌||◌}
use Rattle.gh_base.specs.declared.place.Span.{Span}
use Rattle.gh_core.specs.declared.types.CoreType.{CoreType}
use Rattle.gh_core.specs.declared.terms.CoreTerm.{CoreTerm}
use Rattle.gh_core.specs.Closing.{binds_name}
use Rattle.gh_core.specs.Typing.{code_of}
use Rattle.gh_kernel.specs.declared.signatures.Note.{Note}
use Rattle.gh_kernel.specs.Nodes.{noted_pat, noted_pats}
use Rattle.gh_kernel.specs.Reading.{patterns_of}
use Rattle.gh_kernel.specs.Terms.{Pat, pvar, pwild, pcon, plit, pstring, pas, Pats, no_pat, pat}
use Rattle.gh_rules.specs.RowByRow.{IsPattern, ArePatterns, GroupsFit, RowsFit}
use Rattle.gh_match.specs.declared.rows.MatchRow.{MatchRow}
use Rattle.gh_match.specs.Compiled.{Tree, leaf, node, leaves}
use Rattle.gh_match.specs.Follows.{group_read, place, patterns_read, HasNoString, HaveNoString, AreRows}
use Rattle.gh_match.specs.Numbers.{above, pat_above, pats_above, group_above, groups_above, bodies_above, row_above, rows_above}
use Rattle.gh_match.proofs.Compiles.{halves_read}

pub below_left : (a b n : ℕ) → max a b ≤ n → a ≤ n
below_left a b n h = omega (arith, le-max_left a b, h)

pub below_right : (a b n : ℕ) → max a b ≤ n → b ≤ n
below_right a b n h = omega (arith, le-max_right a b, h)

module _ (first : ℕ) where
  mutual
    pattern_fits : (q : Pat Note) → HasNoString (noted_pat place q) → pat_above q ≤ first → IsPattern first (noted_pat place q)
    pattern_fits (pvar n x) h le = omega (arith, le)
    pattern_fits (pwild n) h le = tt
    pattern_fits (pcon n c ps) h le = patterns_fit ps h le
    pattern_fits (plit n l) h le = tt
    pattern_fits (pstring n cs) h le = absurd h
    pattern_fits (pas n x q) h le = let a = below_left (suc x) (pat_above q) first le in (omega (arith, a), pattern_fits q h (below_right (suc x) (pat_above q) first le))

    patterns_fit : (ps : Pats Note) → HaveNoString (noted_pats place ps) → pats_above ps ≤ first → ArePatterns first (noted_pats place ps)
    patterns_fit no_pat h le = tt
    patterns_fit (pat p ps) h le = (pattern_fits p h.0 (below_left (pat_above p) (pats_above ps) first le), patterns_fit ps h.1 (below_right (pat_above p) (pats_above ps) first le))

  group_fits : (g : List (ℕ × CoreType × CoreTerm)) → group_above g ≤ first → (i : ℕ) → binds_name (group_read g) (first + i) ≡ false
  group_fits [] le i = refl
  group_fits (b ∷ bs) le i =
      let one = below_left (suc b.0) (above (code_of b.2)) first (below_left (max (suc b.0) (above (code_of b.2))) (group_above bs) first le) in
      let apart : (first + i == b.0) ≡ false = ⊎_elim (λ y. absurd (differ one y.1)) (λ z. z.0) (eqb_tells (first + i) b.0) in
      ap (λ c. c || binds_name (group_read bs) (first + i)) apart ∙ group_fits bs (below_right (max (suc b.0) (above (code_of b.2))) (group_above bs) first le) i
    where
      differ : {x : ℕ} → suc x ≤ first → first + i ≡ x → ⊥
      differ le e = omega (arith, le, e)

  groups_fit : (gs : List (List (ℕ × CoreType × CoreTerm))) → groups_above gs ≤ first → GroupsFit first (map group_read gs)
  groups_fit [] le = tt
  groups_fit (g ∷ gs) le = (group_fits g (below_left (group_above g) (groups_above gs) first le), groups_fit gs (below_right (group_above g) (groups_above gs) first le))

  above_front : (xs ys : List MatchRow) → rows_above (xs ++ ys) ≤ first → rows_above xs ≤ first
  above_front [] ys le = omega arith
  above_front (r ∷ rs) ys le =
      let a = below_left (row_above r) (rows_above (rs ++ ys)) first le in
      let b = above_front rs ys (below_right (row_above r) (rows_above (rs ++ ys)) first le) in
      both (row_above r) (rows_above rs) a b
    where
      both : (a b : ℕ) → a ≤ first → b ≤ first → max a b ≤ first
      both a b p q = omega (arith, p, q)

  above_back : (xs ys : List MatchRow) → rows_above (xs ++ ys) ≤ first → rows_above ys ≤ first
  above_back [] ys le = le
  above_back (r ∷ rs) ys le = above_back rs ys (below_right (row_above r) (rows_above (rs ++ ys)) first le)

  rows_front : (n : ℕ) (xs ys : List MatchRow) → AreRows n (xs ++ ys) → AreRows n xs
  rows_front n [] ys h = tt
  rows_front n (r ∷ rs) ys h = (h.0, h.1, h.2, rows_front n rs ys h.3)

  rows_back : (n : ℕ) (xs ys : List MatchRow) → AreRows n (xs ++ ys) → AreRows n ys
  rows_back n [] ys h = h
  rows_back n (r ∷ rs) ys h = rows_back n rs ys h.3

  map_length : {A B : Type 0} (f : A → B) (xs : List A) → length (map f xs) ≡ length xs
  map_length f [] = refl
  map_length f (x ∷ xs) = ap (λ n. suc n) (map_length f xs)

  pub tree_fits : (n : ℕ) (t : Tree) → AreRows n (leaves t) → rows_above (leaves t) ≤ first → RowsFit first n (halves_read t)
  tree_fits n (leaf r) h le =
      let all = below_left (row_above r) 0 first le in
      let ps = pats_above (patterns_of r.patterns) in
      let rest = max (groups_above r.groups) (bodies_above r.bodies) in
      let few : length (map group_read r.groups) ≤ 64 = subst (λ j. j ≤ 64) (sym (map_length group_read r.groups)) h.2 in
      (h.0, patterns_fit (patterns_of r.patterns) h.1 (below_left ps rest first all), groups_fit r.groups (below_left (groups_above r.groups) (bodies_above r.bodies) first (below_right ps rest first all)), few)
  tree_fits n (node front back) h le =
      (tree_fits n front (rows_front n (leaves front) (leaves back) h) (above_front (leaves front) (leaves back) le), tree_fits n back (rows_back n (leaves front) (leaves back) h) (above_back (leaves front) (leaves back) le))
