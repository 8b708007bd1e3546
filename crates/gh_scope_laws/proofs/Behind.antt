-- Imports and the files that they are of.
use Rattle.std.proofs.Common.{◌≡◌, ◌⊎◌, inl, inr, ℕ, ◌<◌, Bool, true, false, cond, not, ◌&&◌, ◌||◌, ◌==◌, List, [], ◌∷◌, ◌++◌, length, Option, Some, None, is_some, slice_get, refl, sym, ap, ◌∙◌}
use Rattle.std.specs.List.{list_all}
use Rattle.std.specs.Option.{option_or}
use Rattle.std.proofs.lemmas.Bool.{or_cases, eqb-true, false≢true, and_parts}
use Rattle.std.proofs.lemmas.List.Folds.{list_all-append}
use Rattle.std.proofs.lemmas.Option.{slice_get_within}
use Rattle.gh_scopes.specs.declared.types.Import.{Import}
use Rattle.gh_scopes.specs.declared.types.Summary.{Summary}
use Rattle.gh_scopes.specs.Graph.{first_some, unknown_at, unknown_by, unknown_in, has_file, with_file, files_from, file_of, imported_files, graph_of}
use Rattle.gh_scopes.specs.Order.{taken, is_ready}
use Rattle.gh_scope_laws.specs.Orders.{ready}
use Rattle.gh_scope_laws.specs.LinkOrders.{has_it, is_behind, may_come, may_come_by}
use Rattle.gh_scope_laws.proofs.Imported.{item_at}
use Rattle.gh_scope_laws.proofs.Firsts.{none_both, none_at}
use Rattle.gh_scope_laws.proofs.Ready.{no_more}

and_assoc : (a b c : Bool) → ((a && b) && c) ≡ (a && (b && c))
and_assoc true b c = refl
and_assoc false b c = refl

and_end : (b : Bool) → (b && true) ≡ b
and_end true = refl
and_end false = refl

and_again : (a b : Bool) → (a && b) ≡ ((a && b) && a)
and_again true true = refl
and_again true false = refl
and_again false b = refl

-- what all these files have, one of them has
in_all : (p : ℕ → Bool) (fs : List ℕ) (x : ℕ) → has_file fs x ≡ true → list_all p fs ≡ (list_all p fs && p x)
in_all p [] x e = absurd (false≢true e)
in_all p (y ∷ ys) x e = by (or_cases (y == x) (has_file ys x) e) (in_all p ys x)
  where
    by : ((y == x) ≡ true) ⊎ (has_file ys x ≡ true) → (has_file ys x ≡ true → list_all p ys ≡ (list_all p ys && p x)) → (p y && list_all p ys) ≡ ((p y && list_all p ys) && p x)
    by (inl q) ih = and_again (p y) (list_all p ys) ∙ ap (λ k. (p y && list_all p ys) && p k) (eqb-true y x q)
    by (inr h) ih = ap (λ b. p y && b) (ih h) ∙ sym (and_assoc (p y) (list_all p ys) (p x))

with_one : (before fs : List ℕ) (o : Option ℕ) → is_some o ≡ true → list_all (taken before) (with_file fs o) ≡ (list_all (taken before) fs && has_it before o)
with_one before fs None e = absurd (false≢true e)
with_one before fs (Some x) e = by (has_file fs x) refl
  where
    by : (b : Bool) → has_file fs x ≡ b → list_all (taken before) (cond b fs (fs ++ x ∷ [])) ≡ (list_all (taken before) fs && taken before x)
    by true h = in_all (taken before) fs x h
    by false h = list_all-append (taken before) fs (x ∷ []) ∙ ap (λ b. list_all (taken before) fs && b) (and_end (taken before x))

known_by : (i : Import) (o : Option ℕ) → unknown_by i o ≡ None → is_some o ≡ true
known_by i None e = absurd (false≢true (sym (ap is_some e)))
known_by i (Some f) e = refl

-- the files that are imported are the files of the imports
pub all_behind : (ss : List Summary) (before : List ℕ) (is : List Import) (fs : List ℕ) → first_some (unknown_at ss) is ≡ None
    → list_all (taken before) (files_from ss fs is) ≡ (list_all (taken before) fs && list_all (is_behind ss before) is)
all_behind ss before [] fs e = sym (and_end (list_all (taken before) fs))
all_behind ss before (i ∷ is) fs e =
    let p = none_both (unknown_at ss i) (first_some (unknown_at ss) is) e in
    all_behind ss before is (with_file fs (file_of ss i.name)) p.1
    ∙ ap (λ b. b && list_all (is_behind ss before) is) (with_one before fs (file_of ss i.name) (known_by i (file_of ss i.name) p.0))
    ∙ and_assoc (list_all (taken before) fs) (has_it before (file_of ss i.name)) (list_all (is_behind ss before) is)

-- a file is ready where it may come next
pub same_ready : (ss : List Summary) → first_some (unknown_in ss) ss ≡ None → (before : List ℕ) (f : ℕ) → f < length ss → ready (graph_of ss) before f ≡ may_come ss before f
same_ready ss known before f lt =
    let i = item_at (imported_files ss) ss f lt in
    ap (is_ready before f) i.mapped
    ∙ ap (λ b. not (taken before f) && b) (all_behind ss before i.item.imports [] (none_at (unknown_in ss) ss known f i.item i.is))
    ∙ sym (ap (may_come_by ss before f) i.is)

known_of : (before : List ℕ) (i : Import) (o : Option ℕ) → has_it before o ≡ true → unknown_by i o ≡ None
known_of before i None e = absurd (false≢true e)
known_of before i (Some f) e = refl

-- imports of files that are there are of known modules
pub known_behind : (ss : List Summary) (before : List ℕ) (is : List Import) → list_all (is_behind ss before) is ≡ true → first_some (unknown_at ss) is ≡ None
known_behind ss before [] e = refl
known_behind ss before (i ∷ is) e =
    let p = and_parts (is_behind ss before i) (list_all (is_behind ss before) is) e in
    ap (λ o. option_or o (first_some (unknown_at ss) is)) (known_of before i (file_of ss i.name) p.0) ∙ known_behind ss before is p.1

-- a file that comes next
pub record Comes (ss : List Summary) (before : List ℕ) (f : ℕ) : Type 0 where
  pub summary : Summary
  pub is : slice_get ss f ≡ Some summary
  pub below : f < length ss
  pub fresh : taken before f ≡ false
  pub behind : list_all (is_behind ss before) summary.imports ≡ true

comes_by : (ss : List Summary) (before : List ℕ) (f : ℕ) (o : Option Summary) → slice_get ss f ≡ o → may_come_by ss before f o ≡ true → Comes ss before f
comes_by ss before f None e h = absurd (false≢true h)
comes_by ss before f (Some s) e h =
    let p = and_parts (not (taken before f)) (list_all (is_behind ss before) s.imports) h in
    record { summary = s; is = e; below = slice_get_within ss f s e; fresh = no_more (taken before f) p.0; behind = p.1 }

pub comes : (ss : List Summary) (before : List ℕ) (f : ℕ) → may_come ss before f ≡ true → Comes ss before f
comes ss before f h = comes_by ss before f (slice_get ss f) refl h

-- what is there stays there
pub stays_taken : (before : List ℕ) (x t : ℕ) → taken before t ≡ true → taken (before ++ x ∷ []) t ≡ true
stays_taken [] x t e = absurd (false≢true e)
stays_taken (y ∷ ys) x t e = by (y == t) e (stays_taken ys x t)
  where
    by : (b : Bool) → (b || taken ys t) ≡ true → (taken ys t ≡ true → taken (ys ++ x ∷ []) t ≡ true) → (b || taken (ys ++ x ∷ []) t) ≡ true
    by true e ih = refl
    by false e ih = ih e

has_more : (before : List ℕ) (x : ℕ) (o : Option ℕ) → has_it before o ≡ true → has_it (before ++ x ∷ []) o ≡ true
has_more before x None e = absurd (false≢true e)
has_more before x (Some t) e = stays_taken before x t e

both : (a b : Bool) → a ≡ true → b ≡ true → (a && b) ≡ true
both a b e h = (λ i. e i && h i)

pub stays_behind : (ss : List Summary) (before : List ℕ) (x : ℕ) (is : List Import) → list_all (is_behind ss before) is ≡ true → list_all (is_behind ss (before ++ x ∷ [])) is ≡ true
stays_behind ss before x [] e = refl
stays_behind ss before x (i ∷ is) e =
    let p = and_parts (is_behind ss before i) (list_all (is_behind ss before) is) e in
    both (is_behind ss (before ++ x ∷ []) i) (list_all (is_behind ss (before ++ x ∷ [])) is) (has_more before x (file_of ss i.name) p.0) (stays_behind ss before x is p.1)

pub all_stay : (before : List ℕ) (x : ℕ) (fs : List ℕ) → list_all (taken before) fs ≡ true → list_all (taken (before ++ x ∷ [])) fs ≡ true
all_stay before x [] e = refl
all_stay before x (f ∷ fs) e =
    let p = and_parts (taken before f) (list_all (taken before) fs) e in
    both (taken (before ++ x ∷ []) f) (list_all (taken (before ++ x ∷ [])) fs) (stays_taken before x f p.0) (all_stay before x fs p.1)
