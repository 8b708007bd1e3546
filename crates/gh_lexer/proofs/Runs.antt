-- Runs of characters at the front of a list, and longest pieces of what follows a first character.
use Rattle.std.proofs.Common.{◌≡◌, ℕ, zero, suc, ◌+◌, ◌-◌, ◌<◌, ◌≤◌, Bool, true, false, cond, ◌&&◌, List, [], ◌∷◌, length, take, drop, Option, Some, None, refl, ap, ◌∙◌, arith, length-drop}
use Rattle.std.proofs.lemmas.List.{drop-take}
use Rattle.std.specs.List.{prefix_len, list_all}
use Rattle.gh_lexer.specs.Pieces.{Sort, is_if, IsLongest, piece_of}

pub take_nil : (n : ℕ) → let nil : List ℕ = [] in take n nil ≡ nil
take_nil zero = refl
take_nil (suc n) = refl

choose : (b : Bool) (m n : ℕ) → (b ≡ true → m ≡ n) → cond b (1 + m) 0 ≡ cond b (1 + n) 0
choose true m n f = ap (λ k. 1 + k) (f refl)
choose false m n f = refl

below : (b : Bool) (n m : ℕ) → b ≡ true → cond b (1 + n) 0 ≤ suc m → n ≤ m
below true n m e h = omega arith
below false n m e h = absurd (cc)

above : (b : Bool) (n m : ℕ) → suc m ≤ cond b (1 + n) 0 → (b ≡ true) × (m ≤ n)
above true n m h = (refl, omega arith)
above false n m h = absurd (omega arith)

pub both : (a b : Bool) → a ≡ true → b ≡ true → a && b ≡ true
both true b e f = f
both false b e f = absurd (cc)

out_step : (b : Bool) (n m : ℕ) (rest : Bool) → cond b (1 + n) 0 < suc m → (n < m → rest ≡ false) → b && rest ≡ false
out_step true n m rest h f = f (omega arith)
out_step false n m rest h f = refl

module _ (p : ℕ → Bool) where
  -- a front that holds the whole run has the same run
  pub prefix_take : (xs : List ℕ) (m : ℕ) → prefix_len p xs ≤ m → prefix_len p (take m xs) ≡ prefix_len p xs
  prefix_take [] m h = ap (prefix_len p) (take_nil m)
  prefix_take (x ∷ xs) zero h = omega arith
  prefix_take (x ∷ xs) (suc m) h = choose (p x) (prefix_len p (take m xs)) (prefix_len p xs) (λ e. prefix_take xs m (below (p x) (prefix_len p xs) m e h))

  -- a front within the run is all run
  pub prefix_within : (xs : List ℕ) (m : ℕ) → m ≤ prefix_len p xs → prefix_len p (take m xs) ≡ m
  prefix_within xs zero h = refl
  prefix_within [] (suc m) h = absurd (omega arith)
  prefix_within (x ∷ xs) (suc m) h =
      let s = above (p x) (prefix_len p xs) m h in
      ap (λ b. cond b (1 + prefix_len p (take m xs)) 0) s.0 ∙ ap (λ n. 1 + n) (prefix_within xs m s.1) ∙ omega arith

  pub run_in : (xs : List ℕ) (m : ℕ) → m ≤ prefix_len p xs → list_all p (take m xs) ≡ true
  run_in xs zero h = refl
  run_in [] (suc m) h = refl
  run_in (x ∷ xs) (suc m) h = let s = above (p x) (prefix_len p xs) m h in both (p x) (list_all p (take m xs)) s.0 (run_in xs m s.1)

  pub run_out : (xs : List ℕ) (m : ℕ) → prefix_len p xs < m → m ≤ length xs → list_all p (take m xs) ≡ false
  run_out xs zero h le = absurd (omega arith)
  run_out [] (suc m) h le = absurd (omega arith)
  run_out (x ∷ xs) (suc m) h le = out_step (p x) (prefix_len p xs) m (list_all p (take m xs)) h (λ lt. run_out xs m lt (omega arith))

-- the longest front of this kind has this length
pub record RunsTo (P : List ℕ → Option Sort) (rest : List ℕ) (len : ℕ) (sort : Sort) : Type 0 where
  pub within : len ≤ length rest
  pub is : P (take len rest) ≡ Some sort
  pub longest : (n : ℕ) → len < n → n ≤ length rest → P (take n rest) ≡ None

pub same_from : (P Q : List ℕ → Option Sort) (rest : List ℕ) (k : ℕ) (sort : Sort) → ((m : ℕ) → k ≤ m → P (take m rest) ≡ Q (take m rest)) → RunsTo Q rest k sort → RunsTo P rest k sort
same_from P Q rest k sort e r = record {
  within = r.within;
  is = e k (omega arith) ∙ r.is;
  longest = λ n lt le. e n (omega arith) ∙ r.longest n lt le;
}

-- after n bytes it is another kind
pub shift : (P Q : List ℕ → Option Sort) (rest : List ℕ) (n k : ℕ) (sort : Sort) → n ≤ length rest → ((j : ℕ) → k ≤ j → P (take (n + j) rest) ≡ Q (take j (drop n rest)))
    → RunsTo Q (drop n rest) k sort → RunsTo P rest (n + k) sort
shift P Q rest n k sort le e r =
    let long = length-drop n rest in
    let in_rest = r.within in
    record {
      within = omega (arith, long, in_rest);
      is = e k (omega arith) ∙ r.is;
      longest = λ m lt most.
          let same : m ≡ n + (m - n) = omega arith in
          ap (λ i. P (take i rest)) same ∙ e (m - n) (omega arith) ∙ r.longest (m - n) (omega arith) (omega (arith, long));
    }

-- a run is the longest of its kind
pub run_longest : (p : ℕ → Bool) (F : List ℕ → Sort) (rest : List ℕ) → prefix_len p rest ≤ length rest → RunsTo (λ xs. is_if (list_all p xs) (F xs)) rest (prefix_len p rest) (F (take (prefix_len p rest) rest))
run_longest p F rest le =
    let here : prefix_len p rest ≤ prefix_len p rest = omega arith in
    record {
      within = le;
      is = ap (λ b. is_if b (F (take (prefix_len p rest) rest))) (run_in p rest (prefix_len p rest) here);
      longest = λ n lt most. ap (λ b. is_if b (F (take n rest))) (run_out p rest n lt most);
    }

-- the longest piece, by what follows its first byte
pub longest_after : (c : ℕ) (rest : List ℕ) (P : List ℕ → Option Sort) → ((xs : List ℕ) → piece_of (c ∷ xs) ≡ P xs) → (len n : ℕ) (sort : Sort) → len ≡ n + 1 → RunsTo P rest n sort → IsLongest (c ∷ rest) len sort
longest_after c rest P e len n sort same r =
    let one : len ≡ suc n = omega arith in
    let in_rest = r.within in
    record {
      within = omega (arith, in_rest);
      is = ap (λ k. piece_of (take k (c ∷ rest))) one ∙ e (take n rest) ∙ r.is;
      longest = λ m lt le. by m lt le;
    }
  where
    by : (m : ℕ) → len < m → m ≤ length (c ∷ rest) → piece_of (take m (c ∷ rest)) ≡ None
    by zero lt le = absurd (omega arith)
    by (suc m) lt le = e (take m rest) ∙ r.longest m (omega arith) (omega arith)

-- a front of a front
pub take_front : (n j : ℕ) (xs : List ℕ) → take n (take (n + j) xs) ≡ take n xs
take_front zero j xs = refl
take_front (suc n) j [] = ap (take (suc n)) (take_nil (suc n + j))
take_front (suc n) j (x ∷ xs) =
    let same : suc n + j ≡ suc (n + j) = omega arith in
    ap (λ m. take (suc n) (take m (x ∷ xs))) same ∙ ap (λ ys. x ∷ ys) (take_front n j xs)

pub drop_front : (n j : ℕ) (xs : List ℕ) → drop n (take (n + j) xs) ≡ take j (drop n xs)
drop_front n j xs = drop-take n j xs
