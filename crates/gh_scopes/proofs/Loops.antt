-- Loops of the graph and the order, one turn further.
use Rattle.std.proofs.Common.{◌≡◌, ℕ, suc, ◌+◌, ◌<◌, true, false, if◌then◌else◌, List, [], ◌∷◌, ◌++◌, length, get_or, take, drop, Option, Some, None, Result, Ok, Err, refl, sym, ap, ◌∙◌, arith}
use Rattle.std.specs.Option.{option_or}
use Rattle.gh_base.specs.declared.refusal.Refusal.{Refusal}
use Rattle.gh_scopes.specs.declared.types.Import.{Import}
use Rattle.gh_scopes.specs.declared.types.Summary.{Summary}
use Rattle.gh_scopes.specs.Graph.{first_some, first_double, double_at, with_file, files_from, file_of, first_cycle, cycle_at, shortest, walk}
use Rattle.gh_scopes.specs.Order.{first_ready, is_ready, with_ready, taken_from}
use Rattle.std.proofs.lemmas.List.{take_more, drop_more, take-append-drop}
use Rattle.gh_base.specs.declared.names.NameId.{NameId}
use Rattle.gh_base.specs.declared.place.Origin.{Origin}
use Rattle.gh_base.specs.declared.refusal.Fault.{Fault}
use Rattle.gh_base.specs.declared.refusal.Fault.TheVariants as fault
use Rattle.gh_scopes.specs.declared.given.Given.{Given}
use Rattle.gh_scopes.specs.declared.progress.Progress.{Progress}
use Rattle.gh_scopes.specs.declared.types.Listed.{Listed}
use Rattle.gh_scopes.specs.declared.types.ScopeEntry.{ScopeEntry}
use Rattle.std.proofs.lemmas.Bool.{cond-true, cond-false}
use Rattle.gh_scopes.specs.Keys.{same_origin}
use Rattle.gh_scopes.specs.Found.{entry}
use Rattle.gh_scopes.specs.Exports.{added, added_by, added_one, stands_for, with_items, with_next}
use Rattle.gh_scopes.specs.Gives.{Fails}
use Rattle.gh_scopes.specs.Linking.{along}
use Rattle.gh_scopes.specs.Linking as linking
use Rattle.gh_scopes.proofs.Lists.{front_more, rest_more}

pub double_more : (ss : List Summary) (i : ℕ) (s : Summary) (whole : Option Refusal) → i < length ss → s ≡ get_or ss i s
    → whole ≡ first_double (take i ss) (drop i ss) → double_at (take i ss) s ≡ None → whole ≡ first_double (take (i + 1) ss) (drop (i + 1) ss)
double_more ss i s whole lt at is none =
    is ∙ ap (first_double (take i ss)) (rest_more ss i s lt at)
    ∙ ap (λ o. option_or o (first_double (take i ss ++ s ∷ []) (drop (i + 1) ss))) none
    ∙ ap (λ l. first_double l (drop (i + 1) ss)) (sym (front_more ss i s lt at))

pub double_here : (ss : List Summary) (i : ℕ) (s : Summary) (r : Refusal) (whole : Option Refusal) → i < length ss → s ≡ get_or ss i s
    → whole ≡ first_double (take i ss) (drop i ss) → double_at (take i ss) s ≡ Some r → Some r ≡ whole
double_here ss i s r whole lt at is some =
    sym (is ∙ ap (first_double (take i ss)) (rest_more ss i s lt at) ∙ ap (λ o. option_or o (first_double (take i ss ++ s ∷ []) (drop (i + 1) ss))) some)

pub files_more : (ss : List Summary) (is : List Import) (k : ℕ) (i : Import) (now after whole : List ℕ) → k < length is → i ≡ get_or is k i
    → whole ≡ files_from ss now (drop k is) → after ≡ with_file now (file_of ss i.name) → whole ≡ files_from ss after (drop (k + 1) is)
files_more ss is k i now after whole lt at eq up =
    eq ∙ ap (files_from ss now) (rest_more is k i lt at) ∙ ap (λ fs. files_from ss fs (drop (k + 1) is)) (sym up)

suc_is : (n : ℕ) → suc n ≡ n + 1
suc_is n = omega arith

pub cycle_more : (ss : List Summary) (g : List (List ℕ)) (all : List Summary) (i : ℕ) (s : Summary) (whole : Option Refusal) → i < length all → s ≡ get_or all i s
    → whole ≡ first_cycle ss g i (drop i all) → first_some (cycle_at ss g i) s.imports ≡ None → whole ≡ first_cycle ss g (i + 1) (drop (i + 1) all)
cycle_more ss g all i s whole lt at is none =
    is ∙ ap (first_cycle ss g i) (rest_more all i s lt at)
    ∙ ap (λ o. option_or o (first_cycle ss g (suc i) (drop (i + 1) all))) none
    ∙ ap (λ n. first_cycle ss g n (drop (i + 1) all)) (suc_is i)

pub cycle_here : (ss : List Summary) (g : List (List ℕ)) (all : List Summary) (i : ℕ) (s : Summary) (r : Refusal) (whole : Option Refusal) → i < length all → s ≡ get_or all i s
    → whole ≡ first_cycle ss g i (drop i all) → first_some (cycle_at ss g i) s.imports ≡ Some r → Some r ≡ whole
cycle_here ss g all i s r whole lt at is some =
    sym (is ∙ ap (first_cycle ss g i) (rest_more all i s lt at) ∙ ap (λ o. option_or o (first_cycle ss g (suc i) (drop (i + 1) all))) some)

pub ready_more : (done : List ℕ) (g : List (List ℕ)) (i : ℕ) (fs : List ℕ) (whole : Option ℕ) → i < length g → fs ≡ get_or g i fs
    → whole ≡ first_ready done i (drop i g) → is_ready done i fs ≡ false → whole ≡ first_ready done (i + 1) (drop (i + 1) g)
ready_more done g i fs whole lt at is never =
    is ∙ ap (first_ready done i) (rest_more g i fs lt at)
    ∙ ap (λ b. if b then Some i else first_ready done (suc i) (drop (i + 1) g)) never
    ∙ ap (λ n. first_ready done n (drop (i + 1) g)) (suc_is i)

pub ready_here : (done : List ℕ) (g : List (List ℕ)) (i : ℕ) (fs : List ℕ) (whole : Option ℕ) → i < length g → fs ≡ get_or g i fs
    → whole ≡ first_ready done i (drop i g) → is_ready done i fs ≡ true → Some i ≡ whole
ready_here done g i fs whole lt at is ready =
    sym (is ∙ ap (first_ready done i) (rest_more g i fs lt at) ∙ ap (λ b. if b then Some i else first_ready done (suc i) (drop (i + 1) g)) ready)

pub taken_more : (g : List (List ℕ)) (n m : ℕ) (now after whole : List ℕ) → n ≡ m + 1 → whole ≡ taken_from g n now
    → after ≡ with_ready now (first_ready now 0 g) → whole ≡ taken_from g m after
taken_more g n m now after whole e is up =
    is ∙ ap (λ k. taken_from g k now) (e ∙ sym (suc_is m)) ∙ ap (taken_from g m) (sym up)

pub shortest_more : (g : List (List ℕ)) (to n m i a : ℕ) (whole : Option (List ℕ)) → n ≡ m + 1 → whole ≡ shortest g to n i a → walk g to i a ≡ None
    → whole ≡ shortest g to m (i + 1) a
shortest_more g to n m i a whole e is none =
    is ∙ ap (λ k. shortest g to k i a) (e ∙ sym (suc_is m)) ∙ ap (λ o. option_or o (shortest g to m (suc i) a)) none
    ∙ ap (λ k. shortest g to m k a) (suc_is i)

pub shortest_here : (g : List (List ℕ)) (to n m i a : ℕ) (w : List ℕ) (whole : Option (List ℕ)) → n ≡ m + 1 → whole ≡ shortest g to n i a → walk g to i a ≡ Some w → Some w ≡ whole
shortest_here g to n m i a w whole e is some =
    sym (is ∙ ap (λ k. shortest g to k i a) (e ∙ sym (suc_is m)) ∙ ap (λ o. option_or o (shortest g to m (suc i) a)) some)

pub first_same : {A B : Type 0} (f h : A → Option B) (xs : List A) → ((x : A) → f x ≡ h x) → first_some f xs ≡ first_some h xs
first_same f h [] same = refl
first_same f h (x ∷ xs) same = (λ j. option_or (same x j) (first_same f h xs same j))

-- the exports of one item more

items_push : (ss : List Summary) (s : Summary) (es : List ScopeEntry) (g : Given) (ls : List Listed) (l : Listed) → with_items ss s es g (ls ++ l ∷ []) ≡ with_next ss s es (with_items ss s es g ls) l
items_push ss s es g [] l = refl
items_push ss s es g (x ∷ ls) l = items_push ss s es (with_next ss s es g x) ls l

pub items_more : (ss : List Summary) (s : Summary) (es : List ScopeEntry) (g : Given) (ls : List Listed) (i : ℕ) (l : Listed) (now after : Given) → i < length ls → l ≡ get_or ls i l
    → now ≡ with_items ss s es g (take i ls) → after ≡ with_next ss s es now l → after ≡ with_items ss s es g (take (i + 1) ls)
items_more ss s es g ls i l now after lt at is up =
    up ∙ ap (λ n. with_next ss s es n l) is ∙ sym (items_push ss s es g (take i ls) l) ∙ ap (with_items ss s es g) (sym (front_more ls i l lt at))

added_push : (ex : List ScopeEntry) (r : Result (List ScopeEntry) NameId) (os : List Origin) (o : Origin) → added ex r (os ++ o ∷ []) ≡ added_one ex (added ex r os) o
added_push ex r [] o = refl
added_push ex r (x ∷ os) o = added_push ex (added_one ex r x) os o

-- one origin more, where origins are read with what stands for those that are not there
pub added_more : (ex : List ScopeEntry) (os : List Origin) (i : ℕ) (d : Origin) (now : List ScopeEntry) (after : Result (List ScopeEntry) NameId) → i < length os
    → added ex (Ok []) (take i os) ≡ Ok now → added_one ex (Ok now) (get_or os i d) ≡ after → added ex (Ok []) (take (i + 1) os) ≡ after
added_more ex os i d now after lt is up =
    ap (added ex (Ok [])) (take_more os i d lt) ∙ added_push ex (Ok []) (take i os) (get_or os i d) ∙ ap (λ r. added_one ex r (get_or os i d)) is ∙ up

added_stays : (ex : List ScopeEntry) (n : NameId) (os : List Origin) → added ex (Err n) os ≡ Err n
added_stays ex n [] = refl
added_stays ex n (o ∷ os) = added_stays ex n os

added_both : (ex : List ScopeEntry) (r : Result (List ScopeEntry) NameId) (os ps : List Origin) → added ex r (os ++ ps) ≡ added ex (added ex r os) ps
added_both ex r [] ps = refl
added_both ex r (o ∷ os) ps = added_both ex (added_one ex r o) os ps

-- a second origin is the end
pub added_ends : (ex : List ScopeEntry) (os : List Origin) (i : ℕ) (d : Origin) (now : List ScopeEntry) (n : NameId) → i < length os
    → added ex (Ok []) (take i os) ≡ Ok now → added_one ex (Ok now) (get_or os i d) ≡ Err n → Err n ≡ added ex (Ok []) os
added_ends ex os i d now n lt is up =
    sym (ap (added ex (Ok [])) (sym (take-append-drop (i + 1) os)) ∙ added_both ex (Ok []) (take (i + 1) os) (drop (i + 1) os)
    ∙ ap (λ r. added ex r (drop (i + 1) os)) (added_more ex os i d now (Err n) lt is up) ∙ added_stays ex n (drop (i + 1) os))

pub clashes : (ex now : List ScopeEntry) (o p : Origin) → stands_for ex now o ≡ Some p → same_origin p o ≡ false → added_one ex (Ok now) o ≡ Err o.name
clashes ex now o p s e = ap (added_by now o) s ∙ cond-false (same_origin p o) (Ok now) (Err o.name) e

pub is_there : (ex now : List ScopeEntry) (o p : Origin) → stands_for ex now o ≡ Some p → same_origin p o ≡ true → added_one ex (Ok now) o ≡ Ok now
is_there ex now o p s e = ap (added_by now o) s ∙ cond-true (same_origin p o) (Ok now) (Err o.name) e

pub is_new : (ex now : List ScopeEntry) (o : Origin) → stands_for ex now o ≡ None → added_one ex (Ok now) o ≡ Ok (now ++ entry None o ∷ [])
is_new ex now o s = ap (added_by now o) s

-- files that are linked one after another: a fault is the end

linked_stays : (ss : List Summary) (r : Refusal) (fs : List ℕ) → along ss (Err r) fs ≡ Err r
linked_stays ss r [] = refl
linked_stays ss r (f ∷ fs) = refl

pub linked_fails : (ss : List Summary) (p : Progress) (fs : List ℕ) (i d : ℕ) (whole : Result Progress Refusal) (e : Fault) → i < length fs
    → whole ≡ along ss (Ok p) (drop i fs) → Fails e (linking.with_file ss p (get_or fs i d)) → Fails e whole
linked_fails ss p fs i d whole (fault.Refused r) lt is fails =
    is ∙ ap (along ss (Ok p)) (drop_more fs i d lt) ∙ ap (λ q. along ss q (drop (i + 1) fs)) fails ∙ linked_stays ss r (drop (i + 1) fs)
linked_fails ss p fs i d whole fault.NoMemory lt is fails = tt
