-- What the code makes follows the rules.
use Rattle.std.proofs.Common.{◌≡◌, ◌≤◌, ℕ, suc, ◌+◌, List, [], ◌∷◌, length, map, Some, None, refl, sym, ap, ◌∙◌, subst, arith}
use Rattle.std.proofs.Math.Nat.{le-max_left}
use Rattle.gh_base.specs.declared.place.Span.{Span}
use Rattle.gh_core.specs.declared.terms.CoreTerm.{CoreTerm}
use Rattle.gh_core.specs.SameType.{Nameless}
use Rattle.gh_core.specs.Terms.{Term, letrec, no_bind}
use Rattle.gh_core.specs.Typing.{code_of}
use Rattle.gh_kernel.specs.declared.patterns.Pattern.{Pattern}
use Rattle.gh_kernel.specs.declared.signatures.Note.{Note}
use Rattle.gh_kernel.specs.Nodes.{noted_pats}
use Rattle.gh_kernel.specs.Reading.{pattern_of, patterns_of}
use Rattle.gh_kernel.specs.Steps.{count}
use Rattle.gh_rules.specs.Rules.{Rows, Matches, no_row}
use Rattle.gh_rules.specs.RowByRow.{height, rows_of, compile_rows}
use Rattle.gh_rules.proofs.RowByRow.{rows_follow}
use Rattle.gh_adapt.specs.Strip.{strip}
use Rattle.gh_adapt.specs.Untyped.{untyped}
use Rattle.gh_adapt.proofs.Erasures.{erasure_strips}
use Rattle.gh_match.specs.declared.rows.MatchRow.{MatchRow}
use Rattle.gh_match.specs.Compiled.{Tree, leaves, tall, IsCompiled}
use Rattle.gh_match.specs.Follows.{place, patterns_read, rows_read, AreRows, FollowsRows}
use Rattle.gh_match.specs.Numbers.{above, first_made, rows_above}
use Rattle.gh_match.proofs.Compiles.{halves_read, match_is, tree_rows, tree_tall}
use Rattle.gh_match.proofs.Fits.{tree_fits}

pattern_count : (ps : List (Pattern Note)) → count (noted_pats place (patterns_of ps)) ≡ length ps
pattern_count [] = refl
pattern_count (p ∷ ps) = ap (λ n. suc n) (pattern_count ps)

map_length : {A B : Type 0} (f : A → B) (xs : List A) → length (map f xs) ≡ length xs
map_length f [] = refl
map_length f (x ∷ xs) = ap (λ n. suc n) (map_length f xs)

pub follows : (ty : Nameless) (rows : List MatchRow) (es : List CoreTerm) (otherwise made : CoreTerm) → IsCompiled ty rows (map code_of es) (code_of otherwise) (code_of made) → FollowsRows es rows otherwise made
follows ty [] es otherwise made h p nt limit newtypes below few fit =
    let is : untyped made ≡ letrec no_bind (untyped otherwise) = erasure_strips made ∙ ap strip h ∙ ap (letrec no_bind) (sym (erasure_strips otherwise)) in
    subst (Matches p nt limit (untyped otherwise) (map untyped es) no_row) (sym is)
    (rows_follow p nt limit limit (untyped otherwise) (map untyped es) None newtypes (omega arith) (subst (λ n. n ≤ 64) (sym (map_length untyped es)) few) (omega arith) tt)
follows ty (r ∷ rs) es otherwise made h p nt limit newtypes below few fit =
    let t = h.0 in
    let first = first_made (r ∷ rs) (code_of otherwise) in
    let n : length (map untyped es) ≡ length es = map_length untyped es in
    let patterns : length r.patterns ≡ length es = sym (pattern_count r.patterns) ∙ fit.0 in
    let is : untyped made ≡ compile_rows first (map untyped es) (Some (halves_read t)) (untyped otherwise) = erasure_strips made ∙ ap strip h.3 ∙ match_is ty first es r.patterns t otherwise patterns in
    let rows : rows_of (halves_read t) no_row ≡ rows_read (r ∷ rs) = tree_rows t ∙ ap rows_read h.1 in
    let low : height (halves_read t) ≤ 32 = subst (λ j. j ≤ 32) (sym (tree_tall t)) h.2 in
    let all = tree_fits first (length (map untyped es)) t (subst (AreRows (length (map untyped es))) (sym h.1) (subst (λ j. AreRows j (r ∷ rs)) (sym n) fit)) (subst (λ l. rows_above l ≤ first) (sym h.1) (le-max_left (rows_above (r ∷ rs)) (above (code_of otherwise)))) in
    subst (λ u. Matches p nt limit (untyped otherwise) (map untyped es) (rows_read (r ∷ rs)) u) (sym is)
    (subst (λ l. Matches p nt limit (untyped otherwise) (map untyped es) l (compile_rows first (map untyped es) (Some (halves_read t)) (untyped otherwise))) rows
    (rows_follow p nt limit first (untyped otherwise) (map untyped es) (Some (halves_read t)) newtypes below (subst (λ j. j ≤ 64) (sym n) few) low all))
