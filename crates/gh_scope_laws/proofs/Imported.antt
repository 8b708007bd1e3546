-- The files that a file imports are those of its imports.
use Rattle.std.proofs.Common.{◌≡◌, ◌⊎◌, inl, inr, ℕ, suc, zero, ◌+◌, ◌<◌, Bool, true, false, cond, ◌||◌, ◌==◌, List, [], ◌∷◌, ◌++◌, length, map, Option, Some, None, is_some, unwrap_or, slice_get, slice_index_or, refl, sym, ap, ◌∙◌, arith}
use Rattle.std.proofs.lemmas.Bool.{or_cases, eqb-true, false≢true}
use Rattle.std.proofs.lemmas.List.Folds.{list_any-append}
use Rattle.gh_base.specs.declared.refusal.Refusal.{Refusal}
use Rattle.gh_scopes.specs.declared.types.Import.{Import}
use Rattle.gh_scopes.specs.declared.types.Summary.{Summary}
use Rattle.gh_scopes.specs.Graph.{first_some, first_cycle, cycle_at, has_file, with_file, files_from, file_of}
use Rattle.gh_scope_laws.proofs.Onwards.{some_left, some_right}

-- an import of a file
pub record Named (ss : List Summary) (is : List Import) (x : ℕ) : Type 0 where
  pub import : Import
  pub file : file_of ss import.name ≡ Some x
  pub found : (h : Import → Option Refusal) → is_some (h import) ≡ true → is_some (first_some h is) ≡ true

or_end : (b : Bool) → (b || false) ≡ b
or_end true = refl
or_end false = refl

pub pushed : (fs : List ℕ) (y x : ℕ) → has_file (fs ++ y ∷ []) x ≡ true → (has_file fs x ≡ true) ⊎ (y ≡ x)
pushed fs y x e = by (or_cases (has_file fs x) ((y == x) || false) (sym (list_any-append (λ g. g == x) fs (y ∷ [])) ∙ e))
  where
    by : (has_file fs x ≡ true) ⊎ (((y == x) || false) ≡ true) → (has_file fs x ≡ true) ⊎ (y ≡ x)
    by (inl h) = inl h
    by (inr h) = inr (eqb-true y x (sym (or_end (y == x)) ∙ h))

chosen : (b : Bool) (fs : List ℕ) (y x : ℕ) → has_file (cond b fs (fs ++ y ∷ [])) x ≡ true → (has_file fs x ≡ true) ⊎ (y ≡ x)
chosen true fs y x e = inl e
chosen false fs y x e = pushed fs y x e

with_one : (fs : List ℕ) (o : Option ℕ) (x : ℕ) → has_file (with_file fs o) x ≡ true → (has_file fs x ≡ true) ⊎ (o ≡ Some x)
with_one fs None x e = inl e
with_one fs (Some y) x e = by (chosen (has_file fs y) fs y x e)
  where
    by : (has_file fs x ≡ true) ⊎ (y ≡ x) → (has_file fs x ≡ true) ⊎ (Some y ≡ Some x)
    by (inl h) = inl h
    by (inr h) = inr (ap Some h)

named_from : (ss : List Summary) (is : List Import) (fs : List ℕ) (x : ℕ) → has_file (files_from ss fs is) x ≡ true → (has_file fs x ≡ true) ⊎ Named ss is x
named_from ss [] fs x e = inl e
named_from ss (i ∷ is) fs x e = by (named_from ss is (with_file fs (file_of ss i.name)) x e)
  where
    first : (has_file fs x ≡ true) ⊎ (file_of ss i.name ≡ Some x) → (has_file fs x ≡ true) ⊎ Named ss (i ∷ is) x
    first (inl h) = inl h
    first (inr h) = inr (record { import = i; file = h; found = λ f s. some_left (f i) (first_some f is) s })

    by : (has_file (with_file fs (file_of ss i.name)) x ≡ true) ⊎ Named ss is x → (has_file fs x ≡ true) ⊎ Named ss (i ∷ is) x
    by (inl h) = first (with_one fs (file_of ss i.name) x h)
    by (inr n) = inr (record { import = n.import; file = n.file; found = λ f s. some_right (f i) (first_some f is) (n.found f s) })

pub named : (ss : List Summary) (is : List Import) (x : ℕ) → has_file (files_from ss [] is) x ≡ true → Named ss is x
named ss is x e = by (named_from ss is [] x e)
  where
    by : (has_file [] x ≡ true) ⊎ Named ss is x → Named ss is x
    by (inl h) = absurd (false≢true h)
    by (inr n) = n

-- an item and what stands for it
pub record At {A : Type 0} (h : A → List ℕ) (xs : List A) (k : ℕ) : Type 0 where
  pub item : A
  pub is : slice_get xs k ≡ Some item
  pub mapped : slice_index_or (map h xs) k [] ≡ h item

pub item_at : {A : Type 0} (h : A → List ℕ) (xs : List A) (k : ℕ) → k < length xs → At h xs k
item_at h [] k lt = absurd (omega (arith, lt))
item_at h (x ∷ xs) zero lt = record { item = x; is = refl; mapped = refl }
item_at h (x ∷ xs) (suc k) lt = let i = item_at h xs k (omega (arith, lt)) in record { item = i.item; is = i.is; mapped = i.mapped }

pub some_same : {A : Type 0} (x y : A) → Some x ≡ Some y → x ≡ y
some_same x y e = ap (λ o. unwrap_or o x) e

pub cycle_found : (ss : List Summary) (g : List (List ℕ)) (all : List Summary) (f k m : ℕ) (s : Summary) → m ≡ f + k → slice_get all k ≡ Some s
    → is_some (first_some (cycle_at ss g m) s.imports) ≡ true → is_some (first_cycle ss g f all) ≡ true
cycle_found ss g [] f k m s at is some = absurd (false≢true (ap is_some is))
cycle_found ss g (x ∷ all) f zero m s at is some =
    let same : f ≡ m = omega (arith, at) in
    let one : x ≡ s = some_same x s is in
    some_left (first_some (cycle_at ss g f) x.imports) (first_cycle ss g (suc f) all) ((λ i. is_some (first_some (cycle_at ss g (same i)) (one i).imports)) ∙ some)
cycle_found ss g (x ∷ all) f (suc k) m s at is some =
    some_right (first_some (cycle_at ss g f) x.imports) (first_cycle ss g (suc f) all) (cycle_found ss g all (suc f) k m s (omega (arith, at)) is some)
