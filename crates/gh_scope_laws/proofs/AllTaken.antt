-- Where no import lies on a cycle, the order has every file.
use Rattle.std.proofs.Common.{◌≡◌, ℕ, ◌<◌, Bool, true, false, not, ◌&&◌, ◌==◌, if◌then◌else◌, List, [], ◌∷◌, ◌++◌, length, Option, Some, None, is_some, slice_index_or, refl, sym, ap, subst, ◌∙◌, arith, append_assoc}
use Rattle.std.specs.List.{list_all, position}
use Rattle.std.specs.Option.{option_or}
use Rattle.std.proofs.lemmas.Bool.{eq-eqb, false≢true, or_left, or_right, true_from_ne_false}
use Rattle.std.proofs.lemmas.List.{length-map}
use Rattle.std.proofs.lemmas.List.Quantifiers.{position-Some}
use Rattle.gh_scopes.specs.declared.types.Import.{Import}
use Rattle.gh_scopes.specs.declared.types.Summary.{Summary}
use Rattle.gh_scopes.specs.Graph.{first_double, first_cycle, first_some, unknown_in, cycle_at, cycle_by, back, has_file, imported_files, graph_of, file_of}
use Rattle.gh_scopes.specs.Order.{taken, order_of}
use Rattle.gh_scope_laws.specs.Orders.{Orders}
use Rattle.gh_scope_laws.specs.Complete.{HasAll}
use Rattle.gh_scope_laws.proofs.AnOrder.{is_order}
use Rattle.gh_scope_laws.proofs.Onwards.{Goes, Back, comes_back}
use Rattle.gh_scope_laws.proofs.Imported.{named, item_at, cycle_found}
use Rattle.gh_scope_laws.proofs.Firsts.{none_both}

abbrev first_open : List ℕ → List ℕ → ℕ → ℕ
first_open done [] d = d
first_open done (x ∷ xs) d = if taken done x then first_open done xs d else x

-- the first import that is not among these
abbrev onwards : List (List ℕ) → List ℕ → ℕ → ℕ
onwards g done f = first_open done (slice_index_or g f []) f

open_in : (done xs : List ℕ) (d : ℕ) → list_all (taken done) xs ≡ false → (has_file xs (first_open done xs d) ≡ true) × (taken done (first_open done xs d) ≡ false)
open_in done [] d e = absurd (false≢true (sym e))
open_in done (x ∷ xs) d e = by (taken done x) refl e (open_in done xs d)
  where
    by : (b : Bool) → taken done x ≡ b → (b && list_all (taken done) xs) ≡ false
        → (list_all (taken done) xs ≡ false → (has_file xs (first_open done xs d) ≡ true) × (taken done (first_open done xs d) ≡ false))
        → (has_file (x ∷ xs) (if b then first_open done xs d else x) ≡ true) × (taken done (if b then first_open done xs d else x) ≡ false)
    by true h e ih = let p = ih e in (or_right (x == first_open done xs d) (has_file xs (first_open done xs d)) p.0, p.1)
    by false h e ih = (or_left (x == x) (has_file xs x) (eq-eqb x x refl), h)

open_by : (b a : Bool) → b ≡ false → (not b && a) ≡ false → a ≡ false
open_by true a e h = absurd (false≢true (sym e))
open_by false a e h = h

-- behind all that are taken, nothing is ready
ends : (g : List (List ℕ)) (before rest : List ℕ) → Orders g before rest → Orders g (before ++ rest) []
ends g before [] o = subst (λ l. Orders g l []) (sym (append_end before)) o
  where
    append_end : {A : Type 0} (xs : List A) → xs ++ [] ≡ xs
    append_end [] = refl
    append_end (x ∷ xs) = ap (λ l. x ∷ l) (append_end xs)
ends g before (f ∷ rest) o = subst (λ l. Orders g l []) (append_assoc before (f ∷ []) rest) (ends g (before ++ f ∷ []) rest o.1)

abbrev Left : List Summary → List ℕ → ℕ → Type 0
Left ss done f = (f < length ss) × (taken done f ≡ false)

file_below : (ss : List Summary) (s : Summary) (n x : ℕ) → position (λ (t : Summary). t.name.0 == n) ss ≡ Some x → x < length ss
file_below ss s n x e = (position-Some (λ (t : Summary). t.name.0 == n) ss x s e).0

goes_on : (ss : List Summary) (done : List ℕ) → Orders (graph_of ss) done [] → Goes (graph_of ss) (onwards (graph_of ss) done) (Left ss done)
goes_on ss done o = record { imports = λ f p. (facts f p).0; next = λ f p. (below f p, (facts f p).1); below = λ f p. subst (λ n. f < n) (sym many) p.0 }
  where
    many : length (graph_of ss) ≡ length ss
    many = length-map ss (imported_files ss)

    facts : (f : ℕ) → Left ss done f → (has_file (slice_index_or (graph_of ss) f []) (onwards (graph_of ss) done f) ≡ true) × (taken done (onwards (graph_of ss) done f) ≡ false)
    facts f p =
        open_in done (slice_index_or (graph_of ss) f []) f
        (open_by (taken done f) (list_all (taken done) (slice_index_or (graph_of ss) f [])) p.1 (o f (subst (λ n. f < n) (sym many) p.0)))

    below : (f : ℕ) → Left ss done f → onwards (graph_of ss) done f < length ss
    below f p =
        let i = item_at (imported_files ss) ss f p.0 in
        let x = onwards (graph_of ss) done f in
        let n = named ss i.item.imports x (ap (λ l. has_file l x) (sym i.mapped) ∙ (facts f p).0) in
        file_below ss i.item n.import.name.0 x n.file

some_cycle : (ss : List Summary) (f : ℕ) (i : Import) (w : Option (List ℕ)) → is_some w ≡ true → is_some (cycle_by ss f i w) ≡ true
some_cycle ss f i None e = absurd (false≢true e)
some_cycle ss f i (Some w) e = refl

on_cycle : (ss : List Summary) (done : List ℕ) → Back (graph_of ss) (onwards (graph_of ss) done) (Left ss done)
    → Goes (graph_of ss) (onwards (graph_of ss) done) (Left ss done) → is_some (first_cycle ss (graph_of ss) 0 ss) ≡ true
on_cycle ss done b go =
    let g = graph_of ss in
    let i = item_at (imported_files ss) ss b.file b.one.0 in
    let x = onwards g done b.file in
    let n = named ss i.item.imports x (ap (λ l. has_file l x) (sym i.mapped) ∙ go.imports b.file b.one) in
    cycle_found ss g ss 0 b.file b.file i.item (omega arith) i.is
    (n.found (cycle_at ss g b.file)
    (some_cycle ss b.file n.import (back g b.file (file_of ss n.import.name)) (ap (λ o. is_some (back g b.file o)) n.file ∙ b.way)))

-- where no import lies on a cycle, every file is in the order
pub all_taken : (ss : List Summary) → first_cycle ss (graph_of ss) 0 ss ≡ None → (f : ℕ) → f < length ss → taken (order_of (graph_of ss)) f ≡ true
all_taken ss none f lt = true_from_ne_false (taken (order_of (graph_of ss)) f) (λ never.
    let done = order_of (graph_of ss) in
    let go = goes_on ss done (ends (graph_of ss) [] done (is_order (graph_of ss))) in
    false≢true (sym (ap is_some none) ∙ on_cycle ss done (comes_back (graph_of ss) (onwards (graph_of ss) done) (Left ss done) go f (lt, never)) go))

pub has_all : HasAll
has_all ss none =
    let rest = (none_both (first_double [] ss) (option_or (first_cycle ss (graph_of ss) 0 ss) (first_some (unknown_in ss) ss)) none).1 in
    all_taken ss (none_both (first_cycle ss (graph_of ss) 0 ss) (first_some (unknown_in ss) ss) rest).0
