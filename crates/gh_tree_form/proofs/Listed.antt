-- The set of names beside a list of bindings, as the names of that list.
use Rattle.std.proofs.Common.{◌≡◌, ℕ, suc, ◌+◌, Bool, true, false, ◌||◌, not, cond, if◌then◌else◌, List, [], ◌∷◌, ◌++◌, length, map, Some, None, refl, ap, arith, nat_eq, nat_lt}
use Rattle.std.proofs.lemmas.List.{map-append}
use Rattle.std.specs.List.{list_any, position, position_or_len}
use Rattle.indexmap.specs.IndexSet.{insert_key}
use Rattle.gh_bindings.specs.declared.binding.Binding.{Binding}

abbrev pub ids : List Binding → List ℕ
ids bs = map (λ b. b.name.0) bs

pub any_id : (n : ℕ) (bs : List Binding) → list_any (λ k. nat_eq n k) (ids bs) ≡ list_any (λ b. nat_eq n b.name.0) bs
any_id n [] = refl
any_id n (b ∷ bs) = ap (λ c. nat_eq n b.name.0 || c) (any_id n bs)

pub place_id : (n : ℕ) (bs : List Binding) → position_or_len (λ k. nat_eq n k) (ids bs) ≡ position_or_len (λ b. nat_eq n b.name.0) bs
place_id n [] = refl
place_id n (b ∷ bs) = ap (λ m. cond (not (nat_eq n b.name.0)) (1 + m) 0) (place_id n bs)

pub count_ids : (bs : List Binding) → length (ids bs) ≡ length bs
count_ids [] = refl
count_ids (b ∷ bs) = ap suc (count_ids bs)

at_some : (c : Bool) (n i : ℕ) → cond c (Some n) None ≡ Some i → i ≡ n
at_some true n i h = cc
at_some false n i h = absurd (cc)

pub place_found : (n : ℕ) (ks : List ℕ) (i : ℕ) → position (λ k. nat_eq n k) ks ≡ Some i → i ≡ position_or_len (λ k. nat_eq n k) ks
place_found n ks i h = at_some (nat_lt (position_or_len (λ k. nat_eq n k) ks) (length ks)) (position_or_len (λ k. nat_eq n k) ks) i h

not_found : (b c : Bool) (m l : ℕ) → b || c ≡ false → (c ≡ false → m ≡ l) → cond (not b) (1 + m) 0 ≡ suc l
not_found true c m l h f = absurd (cc)
not_found false c m l h f = let same : m ≡ l = f h in let more : 1 + m ≡ suc l = omega (arith, same) in more

pub place_missed : (n : ℕ) (ks : List ℕ) → list_any (λ k. nat_eq n k) ks ≡ false → position_or_len (λ k. nat_eq n k) ks ≡ length ks
place_missed n [] h = refl
place_missed n (k ∷ ks) h = not_found (nat_eq n k) (list_any (λ x. nat_eq n x) ks) (position_or_len (λ x. nat_eq n x) ks) (length ks) h (place_missed n ks)

-- a new name goes last
pub inserted : (n : ℕ) (ks : List ℕ) → list_any (λ k. nat_eq n k) ks ≡ false → insert_key nat_eq ks n ≡ ks ++ n ∷ []
inserted n ks h = ap (λ c. if c then ks else ks ++ n ∷ []) h

pub ids_push : (bs : List Binding) (b : Binding) → ids (bs ++ b ∷ []) ≡ ids bs ++ b.name.0 ∷ []
ids_push bs b = map-append (λ x. x.name.0) bs (b ∷ [])

pub is_new : (c r : Bool) → r ≡ not c → r ≡ true → c ≡ false
is_new true r e h = absurd (cc)
is_new false r e h = refl

pub is_old : (c r : Bool) → r ≡ not c → r ≡ false → c ≡ true
is_old true r e h = refl
is_old false r e h = absurd (cc)
