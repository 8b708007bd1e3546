-- How many names are kept.
use Rattle.std.proofs.Common.{arith, ◌≡◌, ◌≢◌, ◌⊎◌, inl, inr, ℕ, ◌+◌, ◌<◌, ◌≤◌, min, Bool, true, false, if◌then◌else◌, ◌==◌, nat_eq, List, [], ◌∷◌, ◌++◌, length, map, drop, get_or, refl, sym, ap, ◌∙◌}
use Rattle.std.proofs.Math.Dec.{eqb}
use Rattle.std.proofs.lemmas.Bool.{eqb-true}
use Rattle.std.proofs.lemmas.Bool.Decides.{eqb_tells}
use Rattle.std.specs.List.{list_any}
use Rattle.std.proofs.lemmas.List.{drop_more, length-append}
use Rattle.gh_limits.specs.Bound.{joined, different}
use Rattle.gh_limits.specs.Seen.{keep, keeps}

pub keeps_append : (seen ns ms : List ℕ) → keeps seen (ns ++ ms) ≡ keeps (keeps seen ns) ms
keeps_append seen [] ms = refl
keeps_append seen (n ∷ ns) ms = keeps_append (keep seen n) ns ms

-- one more item
pub see_more : {X : Type 0} (f : X → List ℕ) (xs : List X) (i : ℕ) (x : X) (before now after : List ℕ)
    → i < length xs → x ≡ get_or xs i x
    → keeps before (joined (map f xs)) ≡ keeps now (joined (map f (drop i xs))) → after ≡ keeps now (f x)
    → keeps before (joined (map f xs)) ≡ keeps after (joined (map f (drop (i + 1) xs)))
see_more f xs i x before now after lt at old is =
    old ∙ (λ j. keeps now (joined (map f (drop_more xs i x lt j))))
    ∙ (λ j. keeps now (f (sym at j) ++ joined (map f (drop (i + 1) xs))))
    ∙ keeps_append now (f x) (joined (map f (drop (i + 1) xs)))
    ∙ (λ j. keeps (sym is j) (joined (map f (drop (i + 1) xs))))

abbrev unknown : List ℕ → ℕ → List ℕ
unknown seen n = if list_any (λ m. nat_eq m n) seen then seen else seen ++ n ∷ []

pub kept_full : (seen : List ℕ) (n : ℕ) → true ≡ (length seen == 65) → seen ≡ keep seen n
unfolding keep
kept_full seen n full = λ j. if full j then seen else unknown seen n

kept_other : (seen : List ℕ) (n : ℕ) → false ≡ (length seen == 65) → unknown seen n ≡ keep seen n
unfolding keep
kept_other seen n room = λ j. if room j then seen else unknown seen n

pub kept_known : (seen : List ℕ) (n : ℕ) → false ≡ (length seen == 65) → true ≡ list_any (λ m. nat_eq m n) seen → seen ≡ keep seen n
kept_known seen n room known = (λ j. if known j then seen else seen ++ n ∷ []) ∙ kept_other seen n room

pub kept_new : (seen : List ℕ) (n : ℕ) → false ≡ (length seen == 65) → false ≡ list_any (λ m. nat_eq m n) seen → seen ++ n ∷ [] ≡ keep seen n
kept_new seen n room new = (λ j. if new j then seen else seen ++ n ∷ []) ∙ kept_other seen n room

one_if : Bool → ℕ
one_if true = 1
one_if false = 0

zero_one : false ≡ true → ◌≡◌ {A = ℕ} 0 1
unfolding one_if
zero_one e = ap one_if e

has_room : (a : ℕ) → a ≤ 65 → false ≡ (a == 65) → ((eqb a 65 ≡ true) × (a ≡ 65)) ⊎ ((eqb a 65 ≡ false) × (a ≢ 65)) → a ≤ 64
has_room a le room (inl full) = omega (zero_one (room ∙ full.0), arith)
has_room a le room (inr other) = omega (other.1, le, arith)

-- how many names are kept: all different ones, while there is room
fewer : (seen : List ℕ) (n : ℕ) (ns : List ℕ) (full known : Bool) → full ≡ (length seen == 65) → known ≡ list_any (λ m. nat_eq m n) seen → length seen ≤ 65
    → ((s : List ℕ) → length s ≤ 65 → length (keeps s ns) ≡ min 65 (length s + different s ns))
    → length (keeps (keep seen n) ns) ≡ min 65 (length seen + different seen (n ∷ ns))
unfolding different
fewer seen n ns true known f k le more = ap (λ s. length (keeps s ns)) (sym (kept_full seen n f)) ∙ more seen le ∙ omega (eqb-true (length seen) 65 (sym f), arith)
fewer seen n ns false true f k le more = ap (λ s. length (keeps s ns)) (sym (kept_known seen n f k)) ∙ more seen le ∙ (λ j. min 65 (length seen + (if k j then different seen ns else 1 + different (seen ++ n ∷ []) ns)))
fewer seen n ns false false f k le more = ap (λ s. length (keeps s ns)) (sym (kept_new seen n f k))
    ∙ more (seen ++ n ∷ []) (omega (length-append seen (n ∷ []), has_room (length seen) le f (eqb_tells (length seen) 65), arith))
    ∙ (λ j. min 65 (length-append seen (n ∷ []) j + different (seen ++ n ∷ []) ns)) ∙ omega arith
    ∙ (λ j. min 65 (length seen + (if k j then different seen ns else 1 + different (seen ++ n ∷ []) ns)))

pub kept_count : (seen ns : List ℕ) → length seen ≤ 65 → length (keeps seen ns) ≡ min 65 (length seen + different seen ns)
unfolding different
kept_count seen [] le = omega (le, arith)
kept_count seen (n ∷ ns) le = fewer seen n ns (length seen == 65) (list_any (λ m. nat_eq m n) seen) refl refl le (λ s l. kept_count s ns l)

pub kept_all : (ns : List ℕ) → length (keeps [] ns) ≡ min 65 (different [] ns)
kept_all ns = kept_count [] ns (omega arith) ∙ omega arith
