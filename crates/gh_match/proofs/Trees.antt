-- Rows in halves.
use Rattle.std.proofs.Common.{◌≡◌, ◌≤◌, ℕ, suc, ◌+◌, List, [], ◌∷◌, ◌++◌, length, map, get_or, refl, sym, ap, ◌∙◌, subst, arith}
use Rattle.std.proofs.Math.Nat.{max-le}
use Rattle.gh_core.specs.SameType.{Nameless}
use Rattle.gh_core.specs.declared.terms.CoreTerm.{CoreTerm}
use Rattle.gh_core.specs.Typing.{Code, a_lam, a_letrec, an_app, no_binding, code_of}
use Rattle.gh_kernel.specs.declared.patterns.Pattern.{Pattern}
use Rattle.gh_kernel.specs.declared.signatures.Note.{Note}
use Rattle.gh_match.specs.declared.rows.MatchRow.{MatchRow}
use Rattle.gh_match.specs.Numbers.{first_made}
use Rattle.gh_match.specs.Compiled.{InHalves, IsCompiled, Tree, leaf, node, row_code, tree_code, functions, applied_code, match_code}

one_row : (rows : List MatchRow) (row : MatchRow) → length rows ≡ 1 → row ≡ get_or rows 0 row → row ∷ [] ≡ rows
one_row [] row e is = absurd (omega (arith, e))
one_row (r ∷ []) row e is = ap (λ x. x ∷ []) is
one_row (r ∷ s ∷ rest) row e is = absurd (omega (arith, e))

pub leaf_half : (ty : Nameless) (v m k : ℕ) (rows : List MatchRow) (row : MatchRow) (levels : ℕ) (code : Code) → length rows ≡ 1 → row ≡ get_or rows 0 row → code ≡ row_code ty v m k row
    → InHalves rows levels (λ t. code ≡ tree_code ty v t m k)
leaf_half ty v m k rows row levels code e is h = (leaf row, one_row rows row e is, omega arith, h)

pub node_half : (ty : Nameless) (v m k : ℕ) (rows front back : List MatchRow) (levels below after : ℕ) (first second code : Code) → front ++ back ≡ rows → below + 1 ≡ levels → after ≡ m + 1
    → InHalves front below (λ t. first ≡ tree_code ty v t after m) → InHalves back below (λ t. second ≡ tree_code ty v t m k) → code ≡ an_app (a_lam m ty first) second
    → InHalves rows levels (λ t. code ≡ tree_code ty v t m k)
node_half ty v m k rows front back levels below after first second code split fewer next f b is =
    let low = max-le f.2 b.2 in (
      node f.0 b.0,
      (λ i. f.1 i ++ b.1 i) ∙ split,
      omega (arith, low, fewer),
      is ∙ (λ i. an_app (a_lam m ty ((f.3 ∙ ap (λ j. tree_code ty v f.0 j m) next) i)) (b.3 i)),
    )

-- the whole, from its parts
map_length : (es : List CoreTerm) → length (map code_of es) ≡ length es
map_length [] = refl
map_length (e ∷ es) = ap (λ n. suc n) (map_length es)

pub whole_tree : (ty : Nameless) (top first subject free : ℕ) (rows : List MatchRow) (es : List CoreTerm) (ps : List (Pattern Note)) (otherwise last body bound one two made : Code) → first ≡ top → subject ≡ first + 1 → free ≡ subject + length es
    → InHalves rows 32 (λ t. body ≡ tree_code ty subject t free first) → bound ≡ functions subject ps body → one ≡ a_lam first ty bound → last ≡ a_letrec no_binding otherwise → two ≡ an_app one last
    → made ≡ applied_code two (map code_of es) → InHalves rows 32 (λ t. made ≡ match_code ty top (map code_of es) ps t otherwise)
whole_tree ty top first subject free rows es ps otherwise last body bound one two made f s n h b o l w m =
    let s' : subject ≡ top + 1 = s ∙ ap (λ j. j + 1) f in
    let n' : free ≡ top + 1 + length (map code_of es) = n ∙ ap (λ j. j + length es) s' ∙ ap (λ j. top + 1 + j) (sym (map_length es)) in (
      h.0,
      h.1,
      h.2,
      m ∙ (λ i. applied_code
          ((w ∙ (λ j. an_app ((o ∙ (λ k. a_lam (f k) ty ((b ∙ (λ g. functions (s' g) ps ((h.3 ∙ (λ d. tree_code ty (s' d) h.0 (n' d) (f d))) g))) k))) j) (l j))) i) (map code_of es)),
    )

pub none_compiled : (ty : Nameless) (rows : List MatchRow) (es : List Code) (otherwise made : Code) → length rows ≡ 0 → made ≡ a_letrec no_binding otherwise → IsCompiled ty rows es otherwise made
none_compiled ty [] es otherwise made e h = h
none_compiled ty (r ∷ rs) es otherwise made e h = absurd (omega (arith, e))

pub some_compiled : (ty : Nameless) (rows : List MatchRow) (row : MatchRow) (es : List Code) (otherwise made : Code) (ps : List (Pattern Note)) → (length rows ≡ 0 → ⊥) → ps ≡ (get_or rows 0 row).patterns
    → InHalves rows 32 (λ t. made ≡ match_code ty (first_made rows otherwise) es ps t otherwise) → IsCompiled ty rows es otherwise made
some_compiled ty [] row es otherwise made ps some same h = absurd (some refl)
some_compiled ty (r ∷ rs) row es otherwise made ps some same h =
    (h.0, h.1, h.2, h.3 ∙ ap (λ l. match_code ty (first_made (r ∷ rs) otherwise) es l h.0 otherwise) same)

pub moved : (ty : Nameless) (rows rows' : List MatchRow) (es es' : List CoreTerm) (otherwise otherwise' made made' : CoreTerm) → rows ≡ rows' → es ≡ es' → otherwise ≡ otherwise' → made' ≡ made
    → IsCompiled ty rows (map code_of es) (code_of otherwise) (code_of made) → IsCompiled ty rows' (map code_of es') (code_of otherwise') (code_of made')
moved ty rows rows' es es' otherwise otherwise' made made' r e o m h =
    subst (λ z. IsCompiled ty z (map code_of es') (code_of otherwise') (code_of made')) r
    (subst (λ z. IsCompiled ty rows (map code_of z) (code_of otherwise') (code_of made')) e
    (subst (λ z. IsCompiled ty rows (map code_of es) (code_of z) (code_of made')) o
    (subst (λ z. IsCompiled ty rows (map code_of es) (code_of otherwise) (code_of z)) (sym m) h)))
