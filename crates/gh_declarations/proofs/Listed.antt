-- Steps of the loops over a list of declarations and over lists of names.
use Rattle.std.proofs.Common.{arith, ◌≡◌, ℕ, ◌+◌, ◌<◌, Bool, true, false, not, ◌||◌, ◌&&◌, nat_eq, if◌then◌else◌, List, [], ◌∷◌, ◌++◌, length, map, filter, take, drop, get_or, Option, Some, None, refl, sym, ap, ◌∙◌, append_assoc}
use Rattle.std.specs.List.{list_any}
use Rattle.std.proofs.lemmas.Bool.{eqb-true}
use Rattle.std.proofs.lemmas.List.{drop_more, take_more, map-append}
use Rattle.std.proofs.lemmas.List.Folds.{list_any-append}
use Rattle.indexmap.specs.IndexSet.{insert_key}
use Rattle.gh_declarations.specs.declared.named.Named.{Named}
use Rattle.gh_declarations.specs.declared.named.Clause.{Clause}
use Rattle.gh_declarations.specs.declared.named.Declared.{Declared}
use Rattle.gh_declarations.specs.declared.named.Rule.{Rule}
use Rattle.gh_declarations.specs.declared.named.Rule.TheVariants as rule
use Rattle.gh_declarations.specs.declared.named.Failure.{Failure}
use Rattle.gh_declarations.specs.Names.{failure}
use Rattle.gh_declarations.specs.Lists.{has, second_behind, undefined, first_behind, value_of, values_behind, unequal_of, unequal_behind}

-- a loop that adds the front of what is left
pub go_more : {A : Type 0} (now after step rest left whole : List A) → now ++ left ≡ whole → left ≡ step ++ rest → after ≡ now ++ step → after ++ rest ≡ whole
go_more now after step rest left whole old is more =
    ap (λ l. l ++ rest) more ∙ append_assoc now step rest ∙ ap (λ l. now ++ l) (sym is) ∙ old

-- ---- values and clauses

pub value_more : (ds : List Declared) (i : ℕ) (z : Declared) (f : Option Clause) (now after whole : List Named)
    → i < length ds → now ++ values_behind f (drop i ds) ≡ whole → after ≡ now ++ value_of f (get_or ds i z)
    → after ++ values_behind (first_behind f (get_or ds i z)) (drop (i + 1) ds) ≡ whole
value_more ds i z f now after whole lt old more =
    go_more now after (value_of f (get_or ds i z)) (values_behind (first_behind f (get_or ds i z)) (drop (i + 1) ds)) (values_behind f (drop i ds)) whole old
    (ap (values_behind f) (drop_more ds i z lt)) more

pub unequal_more : (ds : List Declared) (i : ℕ) (z : Declared) (f : Option Clause) (now after whole : List Failure)
    → i < length ds → now ++ unequal_behind f (drop i ds) ≡ whole → after ≡ now ++ unequal_of f (get_or ds i z)
    → after ++ unequal_behind (first_behind f (get_or ds i z)) (drop (i + 1) ds) ≡ whole
unequal_more ds i z f now after whole lt old more =
    go_more now after (unequal_of f (get_or ds i z)) (unequal_behind (first_behind f (get_or ds i z)) (drop (i + 1) ds)) (unequal_behind f (drop i ds)) whole old
    (ap (unequal_behind f) (drop_more ds i z lt)) more

-- ---- names that were seen

or_true : (b : Bool) → b ≡ true → b ≡ (b || true)
or_true true h = refl
or_true false h = absurd (cc)

or_false : (b : Bool) → b ≡ (b || false)
or_false true = refl
or_false false = refl

-- one more name is seen
pub seen_more : (keys : List ℕ) (n k : ℕ) → list_any (nat_eq k) (insert_key nat_eq keys n) ≡ (list_any (nat_eq k) keys || (nat_eq k n || false))
seen_more keys n k = by_case (list_any (nat_eq n) keys) refl (nat_eq k n) refl
  where
    by_case : (b : Bool) → list_any (nat_eq n) keys ≡ b → (e : Bool) → nat_eq k n ≡ e
        → list_any (nat_eq k) (if b then keys else keys ++ n ∷ []) ≡ (list_any (nat_eq k) keys || (nat_eq k n || false))
    by_case false known e same = list_any-append (nat_eq k) keys (n ∷ [])
    by_case true known true same = or_true (list_any (nat_eq k) keys) (ap (λ m. list_any (nat_eq m) keys) (eqb-true k n same) ∙ known) ∙ sym (ap (λ e. list_any (nat_eq k) keys || (e || false)) same)
    by_case true known false same = or_false (list_any (nat_eq k) keys) ∙ sym (ap (λ e. list_any (nat_eq k) keys || (e || false)) same)

-- the keys of a set are the texts of these names
abbrev pub Holds : List ℕ → List Named → Type 0
Holds keys ns = (k : ℕ) → list_any (nat_eq k) keys ≡ has ns k

pub holds_more : (keys after : List ℕ) (ns : List Named) (i : ℕ) (z : Named) → i < length ns
    → Holds keys (take i ns) → after ≡ insert_key nat_eq keys (get_or ns i z).name.0 → Holds after (take (i + 1) ns)
holds_more keys after ns i z lt holds is k =
    ap (list_any (nat_eq k)) is ∙ seen_more keys (get_or ns i z).name.0 k
    ∙ ap (λ b. b || (nat_eq k (get_or ns i z).name.0 || false)) (holds k)
    ∙ sym (list_any-append (λ (m : Named). nat_eq k m.name.0) (take i ns) (get_or ns i z ∷ []))
    ∙ sym (ap (λ l. has l k) (take_more ns i z lt))

-- ---- second times

map_if : (r : Rule) (b : Bool) (n : Named) → map (failure r) (if b then n ∷ [] else []) ≡ (if b then failure r n ∷ [] else [])
map_if r true n = refl
map_if r false n = refl

pub second_more : (r : Rule) (ns : List Named) (i : ℕ) (z : Named) (keys : List ℕ) (now after whole : List Failure)
    → i < length ns → Holds keys (take i ns)
    → now ++ map (failure r) (second_behind (take i ns) (drop i ns)) ≡ whole
    → after ≡ now ++ (if list_any (nat_eq (get_or ns i z).name.0) keys then failure r (get_or ns i z) ∷ [] else [])
    → after ++ map (failure r) (second_behind (take (i + 1) ns) (drop (i + 1) ns)) ≡ whole
second_more r ns i z keys now after whole lt holds old more =
    let n = get_or ns i z in
    go_more now after (if list_any (nat_eq n.name.0) keys then failure r n ∷ [] else [])
    (map (failure r) (second_behind (take (i + 1) ns) (drop (i + 1) ns)))
    (map (failure r) (second_behind (take i ns) (drop i ns))) whole old
    (ap (λ l. map (failure r) (second_behind (take i ns) l)) (drop_more ns i z lt)
    ∙ map-append (failure r) (if has (take i ns) n.name.0 then n ∷ [] else []) (second_behind (take i ns ++ n ∷ []) (drop (i + 1) ns))
    ∙ (λ j. (map_if r (has (take i ns) n.name.0) n ∙ ap (λ b. if b then failure r n ∷ [] else []) (sym (holds n.name.0))) j
    ++ map (failure r) (second_behind (sym (take_more ns i z lt) j) (drop (i + 1) ns))))
    more

-- ---- names without a definition

abbrev alone : Named → Failure
alone n = failure rule.Alone n

one_more : (values ns : List Named) (n : Named) (b : Bool) → has values n.name.0 ≡ b
    → map alone (undefined values (n ∷ ns)) ≡ (if b then [] else alone n ∷ []) ++ map alone (undefined values ns)
one_more values ns n true h = ap (λ b. map alone (if not b then n ∷ undefined values ns else undefined values ns)) h
one_more values ns n false h = ap (λ b. map alone (if not b then n ∷ undefined values ns else undefined values ns)) h

pub undefined_more : (keys : List ℕ) (values ns : List Named) (i : ℕ) (z : Named) (now after whole : List Failure)
    → i < length ns → Holds keys values
    → now ++ map alone (undefined values (drop i ns)) ≡ whole
    → after ≡ now ++ (if list_any (nat_eq (get_or ns i z).name.0) keys then [] else alone (get_or ns i z) ∷ [])
    → after ++ map alone (undefined values (drop (i + 1) ns)) ≡ whole
undefined_more keys values ns i z now after whole lt holds old more =
    let n = get_or ns i z in
    go_more now after (if list_any (nat_eq n.name.0) keys then [] else alone n ∷ []) (map alone (undefined values (drop (i + 1) ns))) (map alone (undefined values (drop i ns))) whole old
    (ap (λ l. map alone (undefined values l)) (drop_more ns i z lt)
    ∙ one_more values (drop (i + 1) ns) n (has values n.name.0) refl
    ∙ ap (λ b. (if b then [] else alone n ∷ []) ++ map alone (undefined values (drop (i + 1) ns))) (sym (holds n.name.0)))
    more
