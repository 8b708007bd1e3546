-- There are scopes of all modules at once, and no others: along the link order, each is fixed by those before it.
use Rattle.std.proofs.Common.{◌≡◌, ◌⊎◌, inl, inr, ℕ, ◌<◌, true, List, [], ◌∷◌, ◌++◌, length, map, Some, None, option_map, slice_get, refl, sym, ap, subst, ◌∙◌, append_assoc}
use Rattle.std.specs.List.{list_all}
use Rattle.std.proofs.lemmas.Bool.{false≢true}
use Rattle.std.proofs.lemmas.List.{length-map, length-set, length-replicate}
use Rattle.std.proofs.lemmas.Option.{slice_get-map}
use Rattle.gh_scopes.specs.declared.types.Summary.{Summary}
use Rattle.gh_scopes.specs.declared.types.Scope.{Scope}
use Rattle.gh_scopes.specs.declared.types.ScopeEntry.{ScopeEntry}
use Rattle.gh_scopes.specs.Graph.{before_scopes, first_double, first_cycle, first_some, unknown_in, graph_of}
use Rattle.gh_scopes.specs.Imports.{scope_of}
use Rattle.gh_scopes.specs.Exports.{exports_of}
use Rattle.gh_scopes.specs.Linking.{State, start, no_scope, scoped}
use Rattle.gh_scopes.specs.Order.{taken, order_of}
use Rattle.gh_scope_laws.specs.LinkOrders.{is_behind, Follow, LinkOrder}
use Rattle.gh_scope_laws.specs.Scopes.{exports_over, scope_over, AreScopes, HasScopes, OneScopes}
use Rattle.gh_scope_laws.proofs.Imported.{some_same, pushed}
use Rattle.gh_scope_laws.proofs.Firsts.{none_both}
use Rattle.gh_scope_laws.proofs.Lookups.{set_here, set_there, item, same_items}
use Rattle.gh_scope_laws.proofs.Behind.{Comes, comes, stays_behind}
use Rattle.gh_scope_laws.proofs.LinkOrders.{has_link_order}
use Rattle.gh_scope_laws.proofs.Agree.{SameAt, scope_same, exported_at, exported_many, scope_at, scopes_many}

-- where nothing is refused before the scopes, the order is a link order
pub ordered : (ss : List Summary) → before_scopes ss ≡ None → LinkOrder ss (order_of (graph_of ss))
ordered ss none =
    let rest = (none_both (first_double [] ss) _ none).1 in
    let two = none_both (first_cycle ss (graph_of ss) 0 ss) (first_some (unknown_in ss) ss) rest in
    has_link_order ss (record { acyclic = two.0; known = two.1 })

-- there are no others

record Same (a b : List Scope) (ea eb : List (List ScopeEntry)) (t : ℕ) : Type 0 where
  pub scope : slice_get a t ≡ slice_get b t
  pub exports : slice_get ea t ≡ slice_get eb t

abbrev AllSame : List Summary → List Scope → List Scope → List ℕ → Type 0
AllSame ss a b before = (t : ℕ) → taken before t ≡ true → Same a b (exports_over ss ss a) (exports_over ss ss b) t

same_next : (ss : List Summary) (a b : List Scope) → AreScopes ss a → AreScopes ss b → (before : List ℕ) (f : ℕ) → Comes ss before f → AllSame ss a b before
    → Same a b (exports_over ss ss a) (exports_over ss ss b) f
same_next ss a b x y before f c same =
    let s = c.summary in
    let ea = exports_over ss ss a in
    let eb = exports_over ss ss b in
    let entries : scope_of ss ea s ≡ scope_of ss eb s = scope_same ss before ea eb (λ t e. (same t e).exports) s c.behind in
    let in_a = scope_at ss a x f s c.is in
    let in_b = scope_at ss b y f s c.is in
    record {
      scope = in_a ∙ (λ j. Some (record { entries = entries j })) ∙ sym in_b;
      exports =
          exported_at ss ss a f s (scope_over ss ea s) c.is in_a ∙ (λ j. Some (exports_of ss s (entries j)).entries)
          ∙ sym (exported_at ss ss b f s (scope_over ss eb s) c.is in_b);
    }

same_along : (ss : List Summary) (a b : List Scope) → AreScopes ss a → AreScopes ss b → (before rest : List ℕ) → Follow ss before rest → AllSame ss a b before → AllSame ss a b (before ++ rest)
same_along ss a b x y before [] o same = λ t e. same t (ap (λ l. taken l t) (sym (append_end before)) ∙ e)
  where
    append_end : (xs : List ℕ) → xs ++ [] ≡ xs
    append_end [] = refl
    append_end (x ∷ xs) = ap (λ l. x ∷ l) (append_end xs)
same_along ss a b x y before (f ∷ rest) o same =
    subst (AllSame ss a b) (append_assoc before (f ∷ []) rest)
    (same_along ss a b x y (before ++ f ∷ []) rest o.1 (λ t e. by t (pushed before f t e)))
  where
    here : Same a b (exports_over ss ss a) (exports_over ss ss b) f
    here = same_next ss a b x y before f (comes ss before f o.0.may) same

    by : (t : ℕ) → (taken before t ≡ true) ⊎ (f ≡ t) → Same a b (exports_over ss ss a) (exports_over ss ss b) t
    by t (inl h) = same t h
    by t (inr h) = subst (Same a b (exports_over ss ss a) (exports_over ss ss b)) h here

pub one_scopes : OneScopes
one_scopes ss a b none x y =
    let l = ordered ss none in
    let all = same_along ss a b x y [] (order_of (graph_of ss)) l.follow (λ t e. absurd (false≢true e)) in
    same_items a b (scopes_many ss a x ∙ sym (scopes_many ss b y))
    (λ f lt. (all f (l.whole f (subst (λ n. f < n) (scopes_many ss a x) lt))).scope)

-- there are some: those that are found along the order

record Kept (ss : List Summary) (before : List ℕ) (st : State) : Type 0 where
  pub exports_many : length st.exports ≡ length ss
  pub scopes_many : length st.scopes ≡ length ss
  pub behind : (t : ℕ) (s : Summary) → taken before t ≡ true → slice_get ss t ≡ Some s → list_all (is_behind ss before) s.imports ≡ true
  pub scopes : (t : ℕ) (s : Summary) → taken before t ≡ true → slice_get ss t ≡ Some s → slice_get st.scopes t ≡ Some (scope_over ss st.exports s)
  pub exports : (t : ℕ) (s : Summary) → taken before t ≡ true → slice_get ss t ≡ Some s → slice_get st.exports t ≡ Some (exports_of ss s (scope_of ss st.exports s)).entries

kept_more : (ss : List Summary) (before : List ℕ) (st : State) (f : ℕ) → Kept ss before st → (c : Comes ss before f) → Kept ss (before ++ f ∷ []) (scoped ss st f c.summary)
kept_more ss before st f k c = record {
  exports_many = length-set st.exports f given ∙ k.exports_many;
  scopes_many = length-set st.scopes f mine ∙ k.scopes_many;
  behind = λ t s e is. stays_behind ss before f s.imports (behind_at t s is (pushed before f t e));
  scopes = λ t s e is. scope_at_now t s is (pushed before f t e);
  exports = λ t s e is. exports_at_now t s is (pushed before f t e);
}
  where
    mine : Scope
    mine = scope_over ss st.exports c.summary

    given : List ScopeEntry
    given = (exports_of ss c.summary mine.entries).entries

    after : State
    after = scoped ss st f c.summary

    fresh : (t : ℕ) → taken before t ≡ true → f ≡ t → ⊥
    fresh t e q = false≢true (sym c.fresh ∙ ap (taken before) q ∙ e)

    stay : SameAt before st.exports after.exports
    stay t e = sym (set_there st.exports f t given (fresh t e))

    same_scope : (s : Summary) → list_all (is_behind ss before) s.imports ≡ true → scope_of ss st.exports s ≡ scope_of ss after.exports s
    same_scope s e = scope_same ss before st.exports after.exports stay s e

    is_mine : (t : ℕ) (s : Summary) → slice_get ss t ≡ Some s → f ≡ t → c.summary ≡ s
    is_mine t s is q = some_same c.summary s (sym c.is ∙ ap (slice_get ss) q ∙ is)

    behind_at : (t : ℕ) (s : Summary) → slice_get ss t ≡ Some s → (taken before t ≡ true) ⊎ (f ≡ t) → list_all (is_behind ss before) s.imports ≡ true
    behind_at t s is (inl e) = k.behind t s e is
    behind_at t s is (inr q) = ap (λ (u : Summary). list_all (is_behind ss before) u.imports) (sym (is_mine t s is q)) ∙ c.behind

    scope_at_now : (t : ℕ) (s : Summary) → slice_get ss t ≡ Some s → (taken before t ≡ true) ⊎ (f ≡ t) → slice_get after.scopes t ≡ Some (scope_over ss after.exports s)
    scope_at_now t s is (inl e) =
        set_there st.scopes f t mine (fresh t e) ∙ k.scopes t s e is ∙ (λ j. Some (record { entries = same_scope s (k.behind t s e is) j }))
    scope_at_now t s is (inr q) =
        ap (slice_get after.scopes) (sym q) ∙ set_here st.scopes f mine (subst (λ n. f < n) (sym k.scopes_many) c.below)
        ∙ (λ j. Some (record { entries = same_scope c.summary c.behind j })) ∙ ap (λ u. Some (scope_over ss after.exports u)) (is_mine t s is q)

    exports_at_now : (t : ℕ) (s : Summary) → slice_get ss t ≡ Some s → (taken before t ≡ true) ⊎ (f ≡ t) → slice_get after.exports t ≡ Some (exports_of ss s (scope_of ss after.exports s)).entries
    exports_at_now t s is (inl e) =
        set_there st.exports f t given (fresh t e) ∙ k.exports t s e is ∙ (λ j. Some (exports_of ss s (same_scope s (k.behind t s e is) j)).entries)
    exports_at_now t s is (inr q) =
        ap (slice_get after.exports) (sym q) ∙ set_here st.exports f given (subst (λ n. f < n) (sym k.exports_many) c.below)
        ∙ (λ j. Some (exports_of ss c.summary (same_scope c.summary c.behind j)).entries) ∙ ap (λ u. Some (exports_of ss u (scope_of ss after.exports u)).entries) (is_mine t s is q)

record Kepts (ss : List Summary) (before : List ℕ) : Type 0 where
  pub state : State
  pub kept : Kept ss before state

kept_along : (ss : List Summary) (before rest : List ℕ) (st : State) → Follow ss before rest → Kept ss before st → Kepts ss (before ++ rest)
kept_along ss before [] st o k = subst (Kepts ss) (sym (append_end before)) (record { state = st; kept = k })
  where
    append_end : (xs : List ℕ) → xs ++ [] ≡ xs
    append_end [] = refl
    append_end (x ∷ xs) = ap (λ l. x ∷ l) (append_end xs)
kept_along ss before (f ∷ rest) st o k =
    let c = comes ss before f o.0.may in
    subst (Kepts ss) (append_assoc before (f ∷ []) rest) (kept_along ss (before ++ f ∷ []) rest (scoped ss st f c.summary) o.1 (kept_more ss before st f k c))

abbrev no_entries : List ScopeEntry
no_entries = []

none_kept : (ss : List Summary) → Kept ss [] (start (length ss))
none_kept ss = record {
  exports_many = length-replicate (length ss) no_entries;
  scopes_many = length-replicate (length ss) no_scope;
  behind = λ t s e is. absurd (false≢true e);
  scopes = λ t s e is. absurd (false≢true e);
  exports = λ t s e is. absurd (false≢true e);
}

settled : (ss : List Summary) (order : List ℕ) (st : State) → Kept ss order st → ((f : ℕ) → f < length ss → taken order f ≡ true) → AreScopes ss st.scopes
settled ss order st k whole = scopes_are ∙ ap (λ exs. map (scope_over ss exs) ss) (sym exports_are)
  where
    scopes_are : st.scopes ≡ map (scope_over ss st.exports) ss
    scopes_are =
        same_items st.scopes (map (scope_over ss st.exports) ss) (k.scopes_many ∙ sym (length-map ss (scope_over ss st.exports)))
        (λ f lt.
        let below : f < length ss = subst (λ n. f < n) k.scopes_many lt in
        let i = item ss f below in
        k.scopes f i.it (whole f below) i.is ∙ sym (slice_get-map (scope_over ss st.exports) ss f ∙ ap (option_map (scope_over ss st.exports)) i.is))

    exports_are : exports_over ss ss st.scopes ≡ st.exports
    exports_are =
        same_items (exports_over ss ss st.scopes) st.exports (exported_many ss ss st.scopes k.scopes_many ∙ sym k.exports_many)
        (λ f lt.
        let below : f < length ss = subst (λ n. f < n) (exported_many ss ss st.scopes k.scopes_many) lt in
        let i = item ss f below in
        exported_at ss ss st.scopes f i.it (scope_over ss st.exports i.it) i.is (k.scopes f i.it (whole f below) i.is)
        ∙ sym (k.exports f i.it (whole f below) i.is))

pub has_scopes : HasScopes
has_scopes ss none =
    let l = ordered ss none in
    let k = kept_along ss [] (order_of (graph_of ss)) (start (length ss)) l.follow (none_kept ss) in
    record { scopes = k.state.scopes; are = settled ss (order_of (graph_of ss)) k.state k.kept l.whole }
