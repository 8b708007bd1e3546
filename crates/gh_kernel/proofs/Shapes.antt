-- How erasure goes through rows.
use Rattle.std.proofs.lemmas.List.{take_more, map-append}
use Rattle.std.proofs.Common.{◌≡◌, ℕ, ◌+◌, ◌<◌, ◌++◌, length, take, get_or, List, [], ◌∷◌, map, refl, sym, ap, ◌∙◌, Option, Some, None}
use Rattle.std.specs.Prelude.{option_map}
use Rattle.gh_kernel.specs.declared.terms.Term.{Term}
use Rattle.gh_kernel.specs.declared.terms.TermNode.{TermNode}
use Rattle.gh_kernel.specs.declared.terms.LocalBinding.{LocalBinding}
use Rattle.gh_kernel.specs.declared.terms.Row.{Row, roll-Row, out-Row, fold-roll-Row, roll-out-Row}
use Rattle.gh_kernel.specs.declared.terms.TermNode.TheOpen.{Row-F}
use Rattle.gh_kernel.specs.declared.terms.TermNode.TheShapes.{former-Row-bodies}
use Rattle.gh_kernel.specs.Erase.{unit, erased, erased_row, erased_binding, erased_body, erased_pattern, node_step, binding_step, row_step, term_step}

-- one more item, mapped
pub push_mapped : {X Y : Type 0} (f : X → Y) (xs : List X) (i : ℕ) (out new : List Y) (x : X) (y : Y)
    → i < length xs → x ≡ get_or xs i x → y ≡ f x → out ≡ map f (take i xs) → new ≡ out ++ y ∷ [] → new ≡ map f (take (i + 1) xs)
push_mapped f xs i out new x y lt at is old pushed =
    pushed ∙ ap (λ o. o ++ y ∷ []) old ∙ ap (λ z. map f (take i xs) ++ z ∷ []) (is ∙ ap f at)
    ∙ sym (ap (map f) (take_more xs i x lt) ∙ map-append f (take i xs) (get_or xs i x ∷ []))

option_mapped : (A X Y : Type 0) (h : X → Y) (xs : List (Option X × X)) (o : Option X) (x : X) → (former-Row-bodies A).map X Y h ((o, x) ∷ xs) ≡ (option_map h o, h x) ∷ (former-Row-bodies A).map X Y h xs
option_mapped A X Y h xs None x = refl
option_mapped A X Y h xs (Some g) x = refl

bodies_more : (A X Y : Type 0) (h : X → Y) (xs : List (Option X × X)) → (former-Row-bodies A).map X Y h xs ≡ map (λ b. (option_map h b.0, h b.1)) xs
    → (b : Option X × X) → (former-Row-bodies A).map X Y h (b ∷ xs) ≡ (option_map h b.0, h b.1) ∷ map (λ b. (option_map h b.0, h b.1)) xs
bodies_more A X Y h xs e b = option_mapped A X Y h xs b.0 b.1 ∙ ap (λ ys. (option_map h b.0, h b.1) ∷ ys) e

bodies_mapped : (A X Y : Type 0) (h : X → Y) (xs : List (Option X × X)) → (former-Row-bodies A).map X Y h xs ≡ map (λ b. (option_map h b.0, h b.1)) xs
bodies_mapped A X Y h [] = refl
bodies_mapped A X Y h (b ∷ bs) = bodies_more A X Y h bs (bodies_mapped A X Y h bs) b

pub row_out : {A : Type 0} (r : Row-F A (TermNode A) (LocalBinding A) (Row A) (Term A))
    → erased_row (roll-Row A r) ≡ roll-Row unit (record { patterns = map erased_pattern r.patterns; groups = map (map erased_binding) r.groups; bodies = map erased_body r.bodies })
row_out {A = A} r =
    fold-roll-Row A (TermNode unit) (LocalBinding unit) (Row unit) (Term unit) node_step binding_step row_step term_step r
    ∙ ap (λ bs. roll-Row unit (record { patterns = map erased_pattern r.patterns; groups = map (map erased_binding) r.groups; bodies = bs })) (bodies_mapped A (Term A) (Term unit) erased r.bodies)

pub row_at : {A : Type 0} (r : Row A)
    → roll-Row unit (record { patterns = map erased_pattern (out-Row A r).patterns; groups = map (map erased_binding) (out-Row A r).groups; bodies = map erased_body (out-Row A r).bodies }) ≡ erased_row r
row_at {A = A} r = sym (row_out (out-Row A r)) ∙ ap erased_row (roll-out-Row A r)
