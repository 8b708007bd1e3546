-- The loop over cases of generic functions.
use Rattle.std.proofs.Common.{◌≡◌, ℕ, ◌+◌, ◌<◌, List, [], ◌∷◌, ◌++◌, length, map, drop, get_or, sym, ap, ◌∙◌}
use Rattle.std.proofs.lemmas.List.{drop_more}
use Rattle.gh_tree.specs.declared.module_tree.Item.{Item}
use Rattle.gh_tree.specs.declared.module_tree.NextItem.{NextItem}
use Rattle.gh_declarations.specs.declared.named.Failure.{Failure}
use Rattle.gh_declarations.specs.Tops.{item_at, unequal_case, first_case, case_failures}
use Rattle.gh_declarations.proofs.Listed.{go_more}

pub case_more : (xs : List NextItem) (i : ℕ) (x : NextItem) (f : Item) (now after whole : List Failure)
    → i < length xs → x ≡ get_or xs i x → now ++ case_failures f (map item_at (drop i xs)) ≡ whole → after ≡ now ++ unequal_case f (item_at x)
    → after ++ case_failures (first_case f (item_at x)) (map item_at (drop (i + 1) xs)) ≡ whole
case_more xs i x f now after whole lt at old more =
    go_more now after (unequal_case f (item_at x)) (case_failures (first_case f (item_at x)) (map item_at (drop (i + 1) xs))) (case_failures f (map item_at (drop i xs))) whole old
    (ap (λ l. case_failures f (map item_at l)) (drop_more xs i x lt ∙ ap (λ y. y ∷ drop (i + 1) xs) (sym at))) more
