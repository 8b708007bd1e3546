-- What is found at the place of a name.
use Rattle.std.proofs.Common.{◌≡◌, ℕ, suc, ◌+◌, Bool, true, false, cond, List, [], ◌∷◌, ◌++◌, map, length, refl, sym, ap, ◌∙◌, Option, Some, None, arith}
use Rattle.std.specs.Prelude.{slice_get}
use Rattle.gh_base.specs.declared.place.Origin.{Origin}
use Rattle.gh_typeterm.specs.declared.decl.DeclCon.{DeclCon}
use Rattle.gh_typeterm.specs.declared.decl.DeclData.{DeclData}
use Rattle.gh_core.specs.declared.terms.CoreName.{CoreName}
use Rattle.gh_core.specs.declared.terms.CoreName.TheVariants.{Plain}
use Rattle.gh_core.specs.Primitives.{same_origin}
use Rattle.gh_core.specs.Reduce.{same_name}
use Rattle.gh_core.specs.SameType.{Nameless}
use Rattle.gh_core.specs.Typing.{con_in, con_of, with_decl, decl_of, global_type}
use Rattle.gh_core_lint.specs.Keys.{first_from}
use Rattle.std.proofs.lemmas.Option.{slice_get-map}
use Rattle.std.proofs.lemmas.List.{length-map}
use Rattle.std.specs.Prelude.{option_map}
use Rattle.gh_core_lint.specs.declared.types.Node.{Node}
use Rattle.gh_core_lint.specs.Types.{type_at}
use Rattle.gh_core_lint.specs.Tables.{find_by, decl_name, pair_name, pair_at, cons_with, flat, zipped}
use denote.Bor.{Bor}

abbrev Found : {X : Type 0} → Option X → List X → ℕ → ℕ → Type 0
Found {X} o xs k i = (j : ℕ) × (i ≡ k + j) × (o ≡ slice_get xs j)

found_choice : {X : Type 0} (b : Bool) (x : X) (xs : List X) (o : Option X) (p : Option ℕ) (k i : ℕ) → cond b (Some k) p ≡ Some i → (p ≡ Some i → Found o xs (suc k) i) → Found (cond b (Some x) o) (x ∷ xs) k i
found_choice true x xs o p k i h rec = let e : k ≡ i = cc in (0, omega arith, refl)
found_choice false x xs o p k i h rec = let r = rec h in let e = r.1 in (suc r.0, omega arith, r.2)

found : {X : Type 0} (f : X → CoreName) (xs : List X) (n : CoreName) (k i : ℕ) → first_from k (map f xs) n ≡ Some i → Found (find_by f xs n) xs k i
found f [] n k i h = absurd (cc)
found f (x ∷ xs) n k i h = found_choice (same_name (f x) n) x xs (find_by f xs n) (first_from (suc k) (map f xs) n) k i h (found f xs n (suc k) i)

missed_choice : {X : Type 0} (b : Bool) (x : X) (o : Option X) (p : Option ℕ) (k : ℕ) → cond b (Some k) p ≡ None → (p ≡ None → o ≡ None) → cond b (Some x) o ≡ None
missed_choice true x o p k h rec = absurd (cc)
missed_choice false x o p k h rec = rec h

missed : {X : Type 0} (f : X → CoreName) (xs : List X) (n : CoreName) (k : ℕ) → first_from k (map f xs) n ≡ None → find_by f xs n ≡ None
missed f [] n k h = refl
missed f (x ∷ xs) n k h = missed_choice (same_name (f x) n) x (find_by f xs n) (first_from (suc k) (map f xs) n) k h (missed f xs n (suc k))

from_start : {X : Type 0} (o : Option X) (xs : List X) (i : ℕ) → Found o xs 0 i → o ≡ slice_get xs i
from_start o xs i h = let e : h.0 ≡ i = (let f = h.1 in omega arith) in h.2 ∙ ap (slice_get xs) e

-- datatypes
decl_by_name : (ds : List DeclData) (o : Origin) → decl_of ds o ≡ find_by decl_name ds (Plain o)
decl_by_name [] o = refl
decl_by_name (d ∷ ds) o = ap (cond (same_origin d.origin o) (Some d)) (decl_by_name ds o)

pub decl_here : (ds : List DeclData) (names : List CoreName) (o : Origin) (i : ℕ) → names ≡ map decl_name ds → first_from 0 names (Plain o) ≡ Some i → decl_of ds o ≡ slice_get ds i
decl_here ds names o i is h =
    decl_by_name ds o ∙ from_start (find_by decl_name ds (Plain o)) ds i (found decl_name ds (Plain o) 0 i (ap (λ ns. first_from 0 ns (Plain o)) (sym is) ∙ h))

pub decl_missed : (ds : List DeclData) (names : List CoreName) (o : Origin) → names ≡ map decl_name ds → first_from 0 names (Plain o) ≡ None → decl_of ds o ≡ None
decl_missed ds names o is h = decl_by_name ds o ∙ missed decl_name ds (Plain o) 0 (ap (λ ns. first_from 0 ns (Plain o)) (sym is) ∙ h)

-- constructors
con_choice : (b : Bool) (d : DeclData) (c : DeclCon) (p : Option DeclCon) (rest : Option (DeclData × DeclCon)) → cond b (Some (d, c)) (with_decl d p rest) ≡ with_decl d (cond b (Some c) p) rest
con_choice true d c p rest = refl
con_choice false d c p rest = refl

con_inside : (d : DeclData) (cs : List DeclCon) (rest : List (DeclData × DeclCon)) (o : Origin)
    → find_by pair_name (cons_with d cs ++ rest) (Plain o) ≡ with_decl d (con_in cs o) (find_by pair_name rest (Plain o))
con_inside d [] rest o = refl
con_inside d (c ∷ cs) rest o =
    ap (cond (same_origin c.origin o) (Some (d, c))) (con_inside d cs rest o) ∙ con_choice (same_origin c.origin o) d c (con_in cs o) (find_by pair_name rest (Plain o))

con_by_name : (ds : List DeclData) (o : Origin) → con_of ds o ≡ find_by pair_name (flat ds) (Plain o)
con_by_name [] o = refl
con_by_name (d ∷ ds) o = ap (with_decl d (con_in d.constructors o)) (con_by_name ds o) ∙ sym (con_inside d d.constructors (flat ds) o)

pub con_here : (ds : List DeclData) (names : List CoreName) (o : Origin) (i : ℕ) → names ≡ map pair_name (flat ds) → first_from 0 names (Plain o) ≡ Some i → con_of ds o ≡ slice_get (flat ds) i
con_here ds names o i is h =
    con_by_name ds o ∙ from_start (find_by pair_name (flat ds) (Plain o)) (flat ds) i (found pair_name (flat ds) (Plain o) 0 i (ap (λ ns. first_from 0 ns (Plain o)) (sym is) ∙ h))

pub con_missed : (ds : List DeclData) (names : List CoreName) (o : Origin) → names ≡ map pair_name (flat ds) → first_from 0 names (Plain o) ≡ None → con_of ds o ≡ None
con_missed ds names o is h = con_by_name ds o ∙ missed pair_name (flat ds) (Plain o) 0 (ap (λ ns. first_from 0 ns (Plain o)) (sym is) ∙ h)

-- definitions
global_found : (ns : List CoreName) (ts : List Nameless) (n : CoreName) (k i : ℕ) → length ts ≡ length ns → first_from k ns n ≡ Some i → Found (global_type (zipped ns ts) n) ts k i
global_found [] ts n k i l h = absurd (cc)
global_found (m ∷ ns) [] n k i l h = absurd (omega arith)
global_found (m ∷ ns) (t ∷ ts) n k i l h =
    found_choice (same_name m n) t ts (global_type (zipped ns ts) n) (first_from (suc k) ns n) k i h (global_found ns ts n (suc k) i (omega arith))

pub global_here : (ns : List CoreName) (ts : List Nameless) (n : CoreName) (i : ℕ) → length ts ≡ length ns → first_from 0 ns n ≡ Some i → global_type (zipped ns ts) n ≡ slice_get ts i
global_here ns ts n i l h = from_start (global_type (zipped ns ts) n) ts i (global_found ns ts n 0 i l h)

pub global_missed : (ns : List CoreName) (ts : List Nameless) (n : CoreName) (k : ℕ) → first_from k ns n ≡ None → global_type (zipped ns ts) n ≡ None
global_missed [] ts n k h = refl
global_missed (m ∷ ns) [] n k h = refl
global_missed (m ∷ ns) (t ∷ ts) n k h = missed_choice (same_name m n) t (global_type (zipped ns ts) n) (first_from (suc k) ns n) k h (global_missed ns ts n (suc k))

pub con_pair : (ds : List DeclData) (cons : List (Bor DeclData × Bor DeclCon)) (o : Origin) (i : ℕ) (r : Option (Bor DeclData × Bor DeclCon)) → r ≡ slice_get cons i → map pair_at cons ≡ flat ds
    → con_of ds o ≡ slice_get (flat ds) i → option_map pair_at r ≡ con_of ds o
con_pair ds cons o i r e is h = ap (option_map pair_at) e ∙ sym (slice_get-map pair_at cons i) ∙ ap (λ l. slice_get l i) is ∙ sym h

pub global_there : (ns : List CoreName) (ts : List Node) (n : CoreName) (i : ℕ) (r : Option Node) → r ≡ slice_get ts i → length ts ≡ length ns → first_from 0 ns n ≡ Some i
    → option_map type_at r ≡ global_type (zipped ns (map type_at ts)) n
global_there ns ts n i r e l h =
    ap (option_map type_at) e ∙ sym (slice_get-map type_at ts i) ∙ sym (global_here ns (map type_at ts) n i (length-map ts type_at ∙ l) h)
