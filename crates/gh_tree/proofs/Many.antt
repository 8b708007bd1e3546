-- Laws of `many`.
use Rattle.std.proofs.Common.{◌≡◌, ℕ, zero, suc, ◌≤◌, Bool, true, false, List, [], ◌∷◌, ◌++◌, length, map, refl, sym, ap, ◌∙◌, subst, arith, append_assoc, length-append}
use Rattle.gh_tree.specs.declared.symbol.Sym.{Sym}
use Rattle.gh_tree.specs.Read.{Read, and_then}
use Rattle.gh_tree.proofs.Steps.{both, and_is}
use Rattle.gh_tree.specs.Print.{Print, flat_all, good_all}
use Rattle.gh_tree.specs.Read.{many, all, taken}
use Rattle.gh_tree.proofs.Steps.{bound, some_is}
use Rattle.gh_tree.proofs.Loops.{many_more, many_stops, many_none, step_of, many_step}

module _ {A : Type 0} (print : A → Print) (begins : List Sym → Bool) (item : Read A) where
  -- at each item, what stands from there on begins an item, and the item is read
  abbrev pub AllRead : List A → List Sym → Type 0
  AllRead [] rest = Unit {0}
  AllRead (x ∷ xs) rest =
      (begins ((print x).flat ++ (flat_all (map print xs) ++ rest)) ≡ true)
      × (item ((print x).flat ++ (flat_all (map print xs) ++ rest)) ≡ taken x (flat_all (map print xs) ++ rest))
      × AllRead xs rest

  pub many_complete : (n : ℕ) (xs : List A) (rest : List Sym) → AllRead xs rest → length xs ≤ n → begins rest ≡ false → many begins item n (flat_all (map print xs) ++ rest) ≡ taken xs rest
  many_complete n [] rest read turns end = many_stops begins item n rest end
  many_complete zero (x ∷ xs) rest read turns end = absurd (omega arith)
  many_complete (suc n) (x ∷ xs) rest read turns end =
      let tail : List Sym = flat_all (map print xs) ++ rest in
      ap (many begins item (suc n)) (append_assoc (print x).flat (flat_all (map print xs)) rest)
      ∙ many_more begins item n ((print x).flat ++ tail) tail x read.0 read.1
      ∙ ap (λ r. and_then r (λ ys us. taken (x ∷ ys) us)) (many_complete n xs rest read.2 (omega arith) end)

  pub some_token : (flat : List Sym) → begins [] ≡ false → (mid : List Sym) → begins mid ≡ true → flat ++ [] ≡ mid → 1 ≤ length flat
  some_token [] none mid first e = absurd (cc)
  some_token (s ∷ ss) none mid first e = omega arith

  -- items that have a token each
  pub count : ((x : A) → (print x).good ≡ true → 1 ≤ length (print x).flat) → (xs : List A) → good_all (map print xs) ≡ true → length xs ≤ length (flat_all (map print xs))
  count some [] good = omega arith
  count some (x ∷ xs) good =
      let g = both (print x).good (good_all (map print xs)) good in
      let size = length-append (print x).flat (flat_all (map print xs)) in
      let one = some x g.0 in
      let rest = count some xs g.1 in
      omega (arith, size, one, rest)

  pub all_complete : ((x : A) → (print x).good ≡ true → 1 ≤ length (print x).flat) → (xs : List A) (rest : List Sym) → good_all (map print xs) ≡ true → AllRead xs rest → begins rest ≡ false →
      all begins item (flat_all (map print xs) ++ rest) ≡ taken xs rest
  all_complete some xs rest good read end =
      let n = count some xs good in
      let size = length-append (flat_all (map print xs)) rest in
      many_complete (length (flat_all (map print xs) ++ rest)) xs rest read (omega (arith, n, size)) end

  -- where what follows an item does not matter, or each item ends before the next
  pub all_read : (follows : List Sym → Bool) (most : ℕ) → ((x : A) (rest : List Sym) → (print x).good ≡ true → begins ((print x).flat ++ rest) ≡ true)
      → ((x : A) (rest : List Sym) → (print x).good ≡ true → length (print x).flat ≤ most → follows rest ≡ true → item ((print x).flat ++ rest) ≡ taken x rest)
      → ((ss : List Sym) → begins ss ≡ true → follows ss ≡ true)
      → (xs : List A) (rest : List Sym) → good_all (map print xs) ≡ true → length (flat_all (map print xs)) ≤ most → follows rest ≡ true → AllRead xs rest
  all_read follows most starts complete next [] rest good fits end = tt
  all_read follows most starts complete next (x ∷ xs) rest good fits end =
      let g = both (print x).good (good_all (map print xs)) good in
      let size = length-append (print x).flat (flat_all (map print xs)) in (
        starts x (flat_all (map print xs) ++ rest) g.0,
        complete x (flat_all (map print xs) ++ rest) g.0 (omega (arith, size, fits)) (tail xs g.1),
        all_read follows most starts complete next xs rest g.1 (omega (arith, size, fits)) end,
      )
    where
      tail : (ys : List A) → good_all (map print ys) ≡ true → follows (flat_all (map print ys) ++ rest) ≡ true
      tail [] e = end
      tail (y ∷ ys) e = ap follows (append_assoc (print y).flat (flat_all (map print ys)) rest) ∙ next _ (starts y (flat_all (map print ys) ++ rest) (both (print y).good (good_all (map print ys)) e).0)

  -- the two together, for a list whose items do not depend on what follows them but by its start
  pub items_complete : begins [] ≡ false → (follows : List Sym → Bool) (most : ℕ) → ((x : A) (rest : List Sym) → (print x).good ≡ true → begins ((print x).flat ++ rest) ≡ true)
      → ((x : A) (rest : List Sym) → (print x).good ≡ true → length (print x).flat ≤ most → follows rest ≡ true → item ((print x).flat ++ rest) ≡ taken x rest)
      → ((ss : List Sym) → begins ss ≡ true → follows ss ≡ true)
      → (xs : List A) (rest : List Sym) → good_all (map print xs) ≡ true → length (flat_all (map print xs)) ≤ most → follows rest ≡ true → begins rest ≡ false
      → all begins item (flat_all (map print xs) ++ rest) ≡ taken xs rest
  items_complete never follows most starts complete next xs rest good fits follow end =
      all_complete (λ x g. some_token (print x).flat never _ (starts x [] g) refl) xs rest good (all_read follows most starts complete next xs rest good fits follow) end

-- a tree of at most so many tokens is read back where what follows it does not go on with it
abbrev pub Complete : {A : Type 0} → (A → Print) → (List Sym → Bool) → ℕ → Read A → Type 0
Complete {A} print follows most p = (x : A) (rest : List Sym) → (print x).good ≡ true → length (print x).flat ≤ most → follows rest ≡ true
    → p ((print x).flat ++ rest) ≡ taken x rest

abbrev pub CompleteAll : {A : Type 0} → (A → Print) → (List Sym → Bool) → ℕ → Read (List A) → Type 0
CompleteAll {A} print ends most p = (xs : List A) (rest : List Sym) → good_all (map print xs) ≡ true → length (flat_all (map print xs)) ≤ most → ends rest ≡ true
    → p (flat_all (map print xs) ++ rest) ≡ taken xs rest

abbrev pub anything : List Sym → Bool
anything ss = true

-- ---- what was read is the print of a well-formed tree

pub record Taken {A : Type 0} (print : A → Print) (ss : List Sym) (x : A) (rest : List Sym) : Type 0 where
  pub flat : ss ≡ (print x).flat ++ rest
  pub good : (print x).good ≡ true

pub record AllTaken {A : Type 0} (print : A → Print) (ss : List Sym) (xs : List A) (rest : List Sym) : Type 0 where
  pub flat : ss ≡ flat_all (map print xs) ++ rest
  pub good : good_all (map print xs) ≡ true

module _ {A : Type 0} (print : A → Print) (begins : List Sym → Bool) (item : Read A) where
  abbrev pub Sound : Type 0
  Sound = (ss : List Sym) (x : A) (rest : List Sym) → begins ss ≡ true → item ss ≡ taken x rest → Taken print ss x rest

  nil_taken : (ss rest : List Sym) (xs : List A) → taken {A = List A} [] ss ≡ taken xs rest → AllTaken print ss xs rest
  nil_taken ss rest xs e =
      let h = some_is [] xs ss rest e in
      subst (λ (ys : List A). AllTaken print ss ys rest) h.0 (record { flat = h.1; good = refl })

  step_sound : Sound → (n : ℕ) → ((ss : List Sym) (xs : List A) (rest : List Sym) → many begins item n ss ≡ taken xs rest → AllTaken print ss xs rest) →
      (ss : List Sym) (xs : List A) (rest : List Sym) (b : Bool) → begins ss ≡ b → step_of begins item n ss b ≡ taken xs rest → AllTaken print ss xs rest
  unfolding step_of
  step_sound sound n others ss xs rest true is e =
      let h = bound (item ss) _ xs rest e in
      let i = bound (many begins item n h.mid) _ xs rest h.then in
      let ends = some_is (h.x ∷ i.x) xs i.mid rest i.then in
      let t = sound ss h.x h.mid is h.first in
      let ts = others h.mid i.x rest (i.first ∙ ap (λ r. taken i.x r) ends.1) in
      subst (λ (ys : List A). AllTaken print ss ys rest) ends.0 (record {
        flat = t.flat ∙ ap (λ m. (print h.x).flat ++ m) ts.flat ∙ sym (append_assoc (print h.x).flat (flat_all (map print i.x)) rest);
        good = and_is t.good ts.good;
      })
  step_sound sound n others ss xs rest false is e = nil_taken ss rest xs e

  pub many_sound : Sound → (n : ℕ) (ss : List Sym) (xs : List A) (rest : List Sym) → many begins item n ss ≡ taken xs rest → AllTaken print ss xs rest
  many_sound sound zero ss xs rest e = nil_taken ss rest xs (sym (many_none begins item ss) ∙ e)
  many_sound sound (suc n) ss xs rest e = step_sound sound n (many_sound sound n) ss xs rest (begins ss) refl (sym (many_step begins item n ss) ∙ e)
