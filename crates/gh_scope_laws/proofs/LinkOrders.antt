-- There is one link order where no import lies on a cycle and none is of an unknown module, and none elsewhere.
use Rattle.std.proofs.Common.{◌≡◌, ◌⊎◌, inl, inr, ℕ, zero, suc, ◌+◌, ◌<◌, Bool, true, false, ◌==◌, if◌then◌else◌, List, [], ◌∷◌, ◌++◌, length, Option, Some, None, is_some, slice_get, slice_index_or, refl, sym, ap, subst, ◌∙◌, arith, append_assoc}
use Rattle.std.specs.List.{list_all}
use Rattle.std.specs.Option.{option_or}
use Rattle.std.proofs.lemmas.Bool.{cases_order, cases_eq, eqb-true, false≢true, and_parts}
use Rattle.std.proofs.lemmas.List.{length-map}
use Rattle.std.proofs.lemmas.Option.{slice_get_within}
use Rattle.gh_scopes.specs.declared.types.Import.{Import}
use Rattle.gh_scopes.specs.declared.types.Summary.{Summary}
use Rattle.gh_scopes.specs.Graph.{first_some, first_cycle, cycle_at, cycle_by, back, shortest, walk, begin_with, unknown_in, file_of, imported_files, graph_of}
use Rattle.gh_scopes.specs.Order.{taken, order_of}
use Rattle.gh_scope_laws.specs.Orders.{Orders}
use Rattle.gh_scope_laws.specs.LinkOrders.{has_it, is_behind, IsNext, Follow, HasLinkOrder, NoLinkOrder, OneLinkOrder}
use Rattle.gh_scope_laws.proofs.AnOrder.{is_order}
use Rattle.gh_scope_laws.proofs.AllTaken.{all_taken}
use Rattle.gh_scope_laws.proofs.Untaken.{other}
use Rattle.gh_scope_laws.proofs.Imported.{item_at, some_same, pushed}
use Rattle.gh_scope_laws.proofs.Firsts.{none_from, none_first}
use Rattle.gh_scope_laws.proofs.Behind.{Comes, comes, same_ready, all_behind, known_behind, all_stay}

-- there is one where all is well

many : (ss : List Summary) → length (graph_of ss) ≡ length ss
many ss = length-map ss (imported_files ss)

follows : (ss : List Summary) → first_some (unknown_in ss) ss ≡ None → (before rest : List ℕ) → Orders (graph_of ss) before rest → Follow ss before rest
follows ss known before [] o = tt
follows ss known before (f ∷ rest) o = (next, follows ss known (before ++ f ∷ []) rest o.1)
  where
    below : f < length ss
    below = subst (λ n. f < n) (many ss) o.0.below

    next : IsNext ss before f
    next = record {
      may = sym (same_ready ss known before f below) ∙ o.0.is_ready;
      next_first = λ h lt. sym (same_ready ss known before h (omega (arith, lt, below))) ∙ o.0.first h lt;
    }

pub has_link_order : HasLinkOrder
has_link_order ss can = record { follow = follows ss can.known [] (order_of (graph_of ss)) (is_order (graph_of ss)); whole = all_taken ss can.acyclic }

-- there are no two

same_next : (ss : List Summary) (before : List ℕ) (a b : ℕ) → IsNext ss before a → IsNext ss before b → a ≡ b
same_next ss before a b x y = by (cases_order a b)
  where
    by : (a ≡ b) ⊎ ((a < b) ⊎ (b < a)) → a ≡ b
    by (inl e) = e
    by (inr (inl l)) = absurd (false≢true (sym (y.next_first a l) ∙ x.may))
    by (inr (inr l)) = absurd (false≢true (sym (x.next_first b l) ∙ y.may))

abbrev Whole : List Summary → List ℕ → Type 0
Whole ss fs = (f : ℕ) → f < length ss → taken fs f ≡ true

append_end : {A : Type 0} (xs : List A) → xs ++ [] ≡ xs
append_end [] = refl
append_end (x ∷ xs) = ap (λ l. x ∷ l) (append_end xs)

-- behind all files there is no next one
no_next : (ss : List Summary) (before : List ℕ) (f : ℕ) → Whole ss (before ++ []) → IsNext ss before f → ⊥
no_next ss before f whole n =
    let c = comes ss before f n.may in
    false≢true (sym c.fresh ∙ ap (λ l. taken l f) (sym (append_end before)) ∙ whole f c.below)

same_from : (ss : List Summary) (before a b : List ℕ) → Follow ss before a → Follow ss before b → Whole ss (before ++ a) → Whole ss (before ++ b) → a ≡ b
same_from ss before [] [] x y v w = refl
same_from ss before [] (f ∷ b) x y v w = absurd (no_next ss before f v y.0)
same_from ss before (f ∷ a) [] x y v w = absurd (no_next ss before f w x.0)
same_from ss before (f ∷ a) (h ∷ b) x y v w =
    let e = same_next ss before f h x.0 y.0 in
    ap (λ l. f ∷ l)
    (same_from ss (before ++ f ∷ []) a b x.1 (subst (λ k. Follow ss (before ++ k ∷ []) b) (sym e) y.1)
    (λ k lt. ap (λ l. taken l k) (append_assoc before (f ∷ []) a) ∙ v k lt)
    (λ k lt. ap (λ l. taken l k) (append_assoc before (f ∷ []) b) ∙ ap (λ m. taken (before ++ m ∷ b) k) e ∙ w k lt))
    ∙ ap (λ k. k ∷ b) e

pub one_link_order : OneLinkOrder
one_link_order ss a b x y = same_from ss [] a b x.follow y.follow x.whole y.whole

-- there is none elsewhere: the files before a place import files before it, and so no walk from them leads to what stands there

abbrev Closed : List Summary → List ℕ → Type 0
Closed ss before = (a : ℕ) → taken before a ≡ true → list_all (taken before) (slice_index_or (graph_of ss) a []) ≡ true

own_files : (ss : List Summary) (before : List ℕ) (f : ℕ) → Comes ss before f → list_all (taken before) (slice_index_or (graph_of ss) f []) ≡ true
own_files ss before f c =
    let i = item_at (imported_files ss) ss f c.below in
    let same : i.item ≡ c.summary = some_same i.item c.summary (sym i.is ∙ c.is) in
    ap (list_all (taken before)) (i.mapped ∙ ap (imported_files ss) same)
    ∙ all_behind ss before c.summary.imports [] (known_behind ss before c.summary.imports c.behind)
    ∙ c.behind

closed_more : (ss : List Summary) (before : List ℕ) (f : ℕ) → Closed ss before → Comes ss before f → Closed ss (before ++ f ∷ [])
closed_more ss before f closed c a e = by (pushed before f a e)
  where
    by : (taken before a ≡ true) ⊎ (f ≡ a) → list_all (taken (before ++ f ∷ [])) (slice_index_or (graph_of ss) a []) ≡ true
    by (inl h) = all_stay before f (slice_index_or (graph_of ss) a []) (closed a h)
    by (inr h) = all_stay before f (slice_index_or (graph_of ss) a []) (ap (λ k. list_all (taken before) (slice_index_or (graph_of ss) k [])) (sym h) ∙ own_files ss before f c)

-- a file at its place
record Place (ss : List Summary) (f : ℕ) : Type 0 where
  pub before : List ℕ
  pub closed : Closed ss before
  pub at : Comes ss before f

place : (ss : List Summary) (before rest : List ℕ) → Follow ss before rest → Closed ss before → (f : ℕ) → taken (before ++ rest) f ≡ true → taken before f ≡ false → Place ss f
place ss before [] o closed f e never = absurd (false≢true (sym never ∙ ap (λ l. taken l f) (sym (append_end before)) ∙ e))
place ss before (h ∷ rest) o closed f e never = by (cases_eq f h) (place ss (before ++ h ∷ []) rest o.1 (closed_more ss before h closed here) f (ap (λ l. taken l f) (append_assoc before (h ∷ []) rest) ∙ e))
  where
    here : Comes ss before h
    here = comes ss before h o.0.may

    by : (f ≡ h) ⊎ (f ≡ h → ⊥) → (taken (before ++ h ∷ []) f ≡ false → Place ss f) → Place ss f
    by (inl q) ih = record { before = before; closed = closed; at = subst (Comes ss before) (sym q) here }
    by (inr ne) ih = ih (other before h f (λ q. ne (sym q)) ∙ never)

-- one of these files that has a walk
via : {C : Type 0} (p : ℕ → Bool) (h : ℕ → Option (List ℕ)) (xs : List ℕ) → list_all p xs ≡ true → is_some (first_some h xs) ≡ true
    → ((x : ℕ) → p x ≡ true → is_some (h x) ≡ true → C) → C
via p h [] e s next = absurd (false≢true s)
via {C} p h (x ∷ xs) e s next = by (h x) refl s (via p h xs (and_parts (p x) (list_all p xs) e).1)
  where
    by : (o : Option (List ℕ)) → h x ≡ o → is_some (option_or o (first_some h xs)) ≡ true
        → (is_some (first_some h xs) ≡ true → ((x : ℕ) → p x ≡ true → is_some (h x) ≡ true → C) → C) → C
    by None q s ih = ih s next
    by (Some w) q s ih = next x (and_parts (p x) (list_all p xs) e).0 (ap is_some q)

begun : (a : ℕ) (o : Option (List ℕ)) → is_some (begin_with a o) ≡ true → is_some o ≡ true
begun a None e = e
begun a (Some w) e = refl

abbrev no_step : Option (List ℕ)
no_step = Some []

at_once : (b : Bool) → is_some (if b then no_step else None) ≡ true → b ≡ true
at_once true e = refl
at_once false e = absurd (false≢true e)

-- a walk from these files stays among them
stays : (ss : List Summary) (before : List ℕ) → Closed ss before → (n a to : ℕ) → taken before a ≡ true → is_some (walk (graph_of ss) to n a) ≡ true → taken before to ≡ true
unfolding walk
stays ss before closed zero a to e s = ap (taken before) (sym (eqb-true a to (at_once (a == to) s))) ∙ e
stays ss before closed (suc n) a to e s =
    via (taken before) (walk (graph_of ss) to n) (slice_index_or (graph_of ss) a []) (closed a e) (begun a (first_some (walk (graph_of ss) to n) (slice_index_or (graph_of ss) a [])) s)
    (λ x p q. stays ss before closed n x to p q)

none_shortest : (g : List (List ℕ)) (to k n a : ℕ) → ((m : ℕ) → walk g to m a ≡ None) → shortest g to k n a ≡ None
none_shortest g to zero n a h = refl
none_shortest g to (suc k) n a h = ap (λ o. option_or o (shortest g to k (suc n) a)) (h n) ∙ none_shortest g to k (suc n) a h

no_cycle_by : (ss : List Summary) (f : ℕ) (p : Place ss f) (i : Import) (o : Option ℕ) → has_it p.before o ≡ true → cycle_by ss f i (back (graph_of ss) f o) ≡ None
no_cycle_by ss f p i None e = absurd (false≢true e)
no_cycle_by ss f p i (Some t) e =
    ap (cycle_by ss f i)
    (none_shortest (graph_of ss) f (length (graph_of ss)) 0 t
    (λ m. none_from (walk (graph_of ss) f m t) (λ s. false≢true (sym p.at.fresh ∙ stays ss p.before p.closed m t f e s))))

no_cycle : (ss : List Summary) (f : ℕ) (p : Place ss f) (is : List Import) → list_all (is_behind ss p.before) is ≡ true → first_some (cycle_at ss (graph_of ss) f) is ≡ None
no_cycle ss f p [] e = refl
no_cycle ss f p (i ∷ is) e =
    let q = and_parts (is_behind ss p.before i) (list_all (is_behind ss p.before) is) e in
    ap (λ o. option_or o (first_some (cycle_at ss (graph_of ss) f) is)) (no_cycle_by ss f p i (file_of ss i.name) q.0) ∙ no_cycle ss f p is q.1

none_cycle : (ss : List Summary) (g : List (List ℕ)) (all : List Summary) (k : ℕ)
    → ((f m : ℕ) (s : Summary) → m ≡ k + f → slice_get all f ≡ Some s → first_some (cycle_at ss g m) s.imports ≡ None) → first_cycle ss g k all ≡ None
none_cycle ss g [] k h = refl
none_cycle ss g (s ∷ all) k h =
    ap (λ o. option_or o (first_cycle ss g (suc k) all)) (h 0 k s (omega arith) refl)
    ∙ none_cycle ss g all (suc k) (λ f m u e is. h (suc f) m u (omega (arith, e)) is)

pub no_link_order : NoLinkOrder
no_link_order ss order l = record {
  acyclic = none_cycle ss (graph_of ss) ss 0 (λ f m s e is. let same : f ≡ m = omega (arith, e) in from m s (ap (slice_get ss) (sym same) ∙ is));
  known = none_first (unknown_in ss) ss (λ f s is. known_at f s is);
}
  where
    there : (f : ℕ) (s : Summary) → slice_get ss f ≡ Some s → Place ss f
    there f s is = place ss [] order l.follow (λ a e. absurd (false≢true e)) f (l.whole f (slice_get_within ss f s is)) refl

    behind : (f : ℕ) (s : Summary) (is : slice_get ss f ≡ Some s) → list_all (is_behind ss (there f s is).before) s.imports ≡ true
    behind f s is =
        let p = there f s is in
        ap (λ (u : Summary). list_all (is_behind ss p.before) u.imports) (some_same s p.at.summary (sym is ∙ p.at.is)) ∙ p.at.behind

    from : (f : ℕ) (s : Summary) → slice_get ss f ≡ Some s → first_some (cycle_at ss (graph_of ss) f) s.imports ≡ None
    from f s is = no_cycle ss f (there f s is) s.imports (behind f s is)

    known_at : (f : ℕ) (s : Summary) → slice_get ss f ≡ Some s → unknown_in ss s ≡ None
    known_at f s is = known_behind ss (there f s is).before s.imports (behind f s is)
