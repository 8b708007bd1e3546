-- The answer of linking, from the scopes of all modules at once.
use Rattle.std.proofs.Common.{◌≡◌, ◌⊎◌, inl, inr, ℕ, ◌<◌, Bool, true, false, List, [], ◌∷◌, ◌++◌, length, Option, Some, None, Result, Ok, Err, slice_get, slice_set, refl, sym, ap, subst, ◌∙◌, append_assoc}
use Rattle.std.specs.Option.{option_or}
use Rattle.std.proofs.lemmas.Bool.{false≢true}
use Rattle.std.proofs.lemmas.List.{length-set, length-replicate}
use Rattle.gh_base.specs.declared.refusal.Refusal.{Refusal}
use Rattle.gh_scopes.specs.declared.types.Summary.{Summary}
use Rattle.gh_scopes.specs.declared.types.Scope.{Scope}
use Rattle.gh_scopes.specs.declared.types.ScopeEntry.{ScopeEntry}
use Rattle.gh_scopes.specs.declared.types.Linked.{Linked}
use Rattle.gh_scopes.specs.Graph.{before_scopes, first_some, graph_of}
use Rattle.gh_scopes.specs.Imports.{scope_of}
use Rattle.gh_scopes.specs.Exports.{exports_of}
use Rattle.gh_scopes.specs.Linking.{State, start, no_scope, scoped, with_file, along, linked_of, linked_by, linked_at, linked_unless, linked_after, finished}
use Rattle.gh_scopes.specs.Order.{taken, order_of}
use Rattle.gh_scope_laws.specs.LinkOrders.{Follow, LinkOrder}
use Rattle.gh_scope_laws.specs.Scopes.{exports_over, scope_over, AreScopes, AnswerOver, AnsweredScopes, import_fault_at, import_fault_by, export_fault_at, export_fault_by, refused_along, first_refusal, answer_by}
use Rattle.gh_scope_laws.proofs.Imported.{pushed}
use Rattle.gh_scope_laws.proofs.Firsts.{first_push}
use Rattle.gh_scope_laws.proofs.Lookups.{set_here, set_there, same_items}
use Rattle.gh_scope_laws.proofs.Behind.{Comes, comes}
use Rattle.gh_scope_laws.proofs.Agree.{SameAt, scope_same, fault_same, exported_at, scope_at, scopes_many}
use Rattle.gh_scope_laws.proofs.Settled.{ordered, has_scopes}

-- behind these files, the state of linking has their scopes, their exports and the first fault of their export lists
record Agrees (ss : List Summary) (cs : List Scope) (before : List ℕ) (st : State) : Type 0 where
  pub exports_many : length st.exports ≡ length ss
  pub scopes_many : length st.scopes ≡ length ss
  pub scopes : (t : ℕ) → taken before t ≡ true → slice_get st.scopes t ≡ slice_get cs t
  pub exports : SameAt before st.exports (exports_over ss ss cs)
  pub fault : st.fault ≡ first_some (export_fault_at ss cs) before

agrees_more : (ss : List Summary) (cs : List Scope) → AreScopes ss cs → (before : List ℕ) (st : State) (f : ℕ) → Agrees ss cs before st → (c : Comes ss before f)
    → Agrees ss cs (before ++ f ∷ []) (scoped ss st f c.summary)
agrees_more ss cs are before st f k c = record {
  exports_many = length-set st.exports f given ∙ k.exports_many;
  scopes_many = length-set st.scopes f mine ∙ k.scopes_many;
  scopes = λ t e. scope_now t (pushed before f t e);
  exports = λ t e. exports_now t (pushed before f t e);
  fault = (λ j. option_or (k.fault j) (fault_is j)) ∙ sym (first_push (export_fault_at ss cs) before f);
}
  where
    mine : Scope
    mine = scope_over ss st.exports c.summary

    given : List ScopeEntry
    given = (exports_of ss c.summary mine.entries).entries

    final : List (List ScopeEntry)
    final = exports_over ss ss cs

    same : scope_of ss st.exports c.summary ≡ scope_of ss final c.summary
    same = scope_same ss before st.exports final k.exports c.summary c.behind

    here : slice_get cs f ≡ Some (scope_over ss final c.summary)
    here = scope_at ss cs are f c.summary c.is

    fresh : (t : ℕ) → taken before t ≡ true → f ≡ t → ⊥
    fresh t e q = false≢true (sym c.fresh ∙ ap (taken before) q ∙ e)

    scope_now : (t : ℕ) → (taken before t ≡ true) ⊎ (f ≡ t) → slice_get (slice_set st.scopes f mine) t ≡ slice_get cs t
    scope_now t (inl e) = set_there st.scopes f t mine (fresh t e) ∙ k.scopes t e
    scope_now t (inr q) =
        ap (slice_get (slice_set st.scopes f mine)) (sym q) ∙ set_here st.scopes f mine (subst (λ n. f < n) (sym k.scopes_many) c.below)
        ∙ (λ j. Some (record { entries = same j })) ∙ sym here ∙ ap (slice_get cs) q

    exports_now : (t : ℕ) → (taken before t ≡ true) ⊎ (f ≡ t) → slice_get (slice_set st.exports f given) t ≡ slice_get final t
    exports_now t (inl e) = set_there st.exports f t given (fresh t e) ∙ k.exports t e
    exports_now t (inr q) =
        ap (slice_get (slice_set st.exports f given)) (sym q) ∙ set_here st.exports f given (subst (λ n. f < n) (sym k.exports_many) c.below)
        ∙ (λ j. Some (exports_of ss c.summary (same j)).entries) ∙ sym (exported_at ss ss cs f c.summary (scope_over ss final c.summary) c.is here) ∙ ap (slice_get final) q

    final_fault : export_fault_at ss cs f ≡ (exports_of ss c.summary (scope_of ss final c.summary)).fault
    final_fault = (λ j. export_fault_by ss (c.is j) (here j))

    fault_is : (exports_of ss c.summary mine.entries).fault ≡ export_fault_at ss cs f
    fault_is = (λ j. (exports_of ss c.summary (same j)).fault) ∙ sym final_fault

abbrev no_entries : List ScopeEntry
no_entries = []

none_agrees : (ss : List Summary) (cs : List Scope) → Agrees ss cs [] (start (length ss))
none_agrees ss cs = record {
  exports_many = length-replicate (length ss) no_entries;
  scopes_many = length-replicate (length ss) no_scope;
  scopes = λ t e. absurd (false≢true e);
  exports = λ t e. absurd (false≢true e);
  fault = refl;
}

-- linking of these files stops at the first fault of an import, or comes to their end

record Stopped (ss : List Summary) (cs : List Scope) (st : State) (rest : List ℕ) : Type 0 where
  pub refusal : Refusal
  pub is : along ss (Ok st) rest ≡ Err refusal
  pub first : first_some (import_fault_at ss cs) rest ≡ Some refusal

record Ended (ss : List Summary) (cs : List Scope) (before : List ℕ) (st : State) (rest : List ℕ) : Type 0 where
  pub state : State
  pub is : along ss (Ok st) rest ≡ Ok state
  pub first : first_some (import_fault_at ss cs) rest ≡ None
  pub agrees : Agrees ss cs (before ++ rest) state

stays : (ss : List Summary) (r : Refusal) (fs : List ℕ) → along ss (Err r) fs ≡ Err r
stays ss r [] = refl
stays ss r (f ∷ fs) = refl

one_file : (ss : List Summary) (cs : List Scope) (before : List ℕ) (st : State) (f : ℕ) → Agrees ss cs before st → (c : Comes ss before f)
    → with_file ss st f ≡ linked_by ss st f c.summary (import_fault_at ss cs f)
unfolding with_file
one_file ss cs before st f k c =
    ap (linked_at ss st f) c.is
    ∙ ap (linked_by ss st f c.summary) (fault_same ss before st.exports (exports_over ss ss cs) k.exports c.summary c.behind ∙ sym (ap (import_fault_by ss cs) c.is))

append_end : (xs : List ℕ) → xs ++ [] ≡ xs
append_end [] = refl
append_end (x ∷ xs) = ap (λ l. x ∷ l) (append_end xs)

linked_along : (ss : List Summary) (cs : List Scope) → AreScopes ss cs → (before rest : List ℕ) (st : State) → Follow ss before rest → Agrees ss cs before st
    → Stopped ss cs st rest ⊎ Ended ss cs before st rest
linked_along ss cs are before [] st o k = inr (record { state = st; is = refl; first = refl; agrees = subst (λ l. Agrees ss cs l st) (sym (append_end before)) k })
linked_along ss cs are before (f ∷ rest) st o k = by (import_fault_at ss cs f) refl (linked_along ss cs are (before ++ f ∷ []) rest (scoped ss st f c.summary) o.1 (agrees_more ss cs are before st f k c))
  where
    c : Comes ss before f
    c = comes ss before f o.0.may

    one : with_file ss st f ≡ linked_by ss st f c.summary (import_fault_at ss cs f)
    one = one_file ss cs before st f k c

    further : import_fault_at ss cs f ≡ None → Stopped ss cs (scoped ss st f c.summary) rest ⊎ Ended ss cs (before ++ f ∷ []) (scoped ss st f c.summary) rest
        → Stopped ss cs st (f ∷ rest) ⊎ Ended ss cs before st (f ∷ rest)
    further e (inl s) = inl (record {
      refusal = s.refusal;
      is = ap (λ r. along ss r rest) (one ∙ ap (linked_by ss st f c.summary) e) ∙ s.is;
      first = ap (λ q. option_or q (first_some (import_fault_at ss cs) rest)) e ∙ s.first;
    })
    further e (inr n) = inr (record {
      state = n.state;
      is = ap (λ r. along ss r rest) (one ∙ ap (linked_by ss st f c.summary) e) ∙ n.is;
      first = ap (λ q. option_or q (first_some (import_fault_at ss cs) rest)) e ∙ n.first;
      agrees = subst (λ l. Agrees ss cs l n.state) (append_assoc before (f ∷ []) rest) n.agrees;
    })

    by : (q : Option Refusal) → import_fault_at ss cs f ≡ q → Stopped ss cs (scoped ss st f c.summary) rest ⊎ Ended ss cs (before ++ f ∷ []) (scoped ss st f c.summary) rest
        → Stopped ss cs st (f ∷ rest) ⊎ Ended ss cs before st (f ∷ rest)
    by None e ih = further e ih
    by (Some r) e ih = inl (record {
      refusal = r;
      is = ap (λ a. along ss a rest) (one ∙ ap (linked_by ss st f c.summary) e) ∙ stays ss r rest;
      first = ap (λ q. option_or q (first_some (import_fault_at ss cs) rest)) e;
    })

-- the end of linking

abbrev made : List ℕ → List Scope → Result Linked Refusal
made order cs = Ok (record { order = order; scopes = cs })

ends : (order : List ℕ) (cs : List Scope) (st : State) → st.scopes ≡ cs → (o : Option Refusal) → linked_unless order st o ≡ answer_by order cs o
ends order cs st e None = ap (made order) e
ends order cs st e (Some r) = refl

answer_along : (ss : List Summary) (cs : List Scope) (order : List ℕ) → LinkOrder ss order → AreScopes ss cs
    → Stopped ss cs (start (length ss)) order ⊎ Ended ss cs [] (start (length ss)) order
    → finished order (along ss (Ok (start (length ss))) order) ≡ answer_by order cs (refused_along ss cs order)
answer_along ss cs order l are (inl s) =
    ap (finished order) s.is ∙ sym (ap (λ q. answer_by order cs (option_or q (first_some (export_fault_at ss cs) order))) s.first)
answer_along ss cs order l are (inr n) =
    ap (finished order) n.is ∙ ends order cs n.state scopes_are n.state.fault ∙ ap (answer_by order cs) n.agrees.fault
    ∙ sym (ap (λ q. answer_by order cs (option_or q (first_some (export_fault_at ss cs) order))) n.first)
  where
    scopes_are : n.state.scopes ≡ cs
    scopes_are =
        same_items n.state.scopes cs (n.agrees.scopes_many ∙ sym (scopes_many ss cs are))
        (λ f lt. n.agrees.scopes f (l.whole f (subst (λ m. f < m) n.agrees.scopes_many lt)))

pub answer_over : AnswerOver
unfolding linked_of
answer_over ss cs are = by (before_scopes ss) refl
  where
    order : List ℕ
    order = order_of (graph_of ss)

    by : (o : Option Refusal) → before_scopes ss ≡ o → linked_after ss o ≡ answer_by order cs (option_or o (refused_along ss cs order))
    by (Some r) e = refl
    by None e =
        let l = ordered ss e in
        answer_along ss cs order l are (linked_along ss cs are [] order (start (length ss)) l.follow (none_agrees ss cs))

-- the scopes that linking answers

abbrev is_linked : Result Linked Refusal → Bool
is_linked (Ok l) = true
is_linked (Err r) = false

abbrev scopes_or : List Scope → Result Linked Refusal → List Scope
scopes_or cs (Ok l) = l.scopes
scopes_or cs (Err r) = cs

not_refused : (ss : List Summary) (l : Linked) → linked_of ss ≡ Ok l → before_scopes ss ≡ None
unfolding linked_of
not_refused ss l e = by (before_scopes ss) refl e
  where
    by : (o : Option Refusal) → before_scopes ss ≡ o → linked_after ss o ≡ Ok l → before_scopes ss ≡ None
    by None h q = h
    by (Some r) h q = absurd (false≢true (ap is_linked q))

scopes_by : (order : List ℕ) (cs : List Scope) (l : Linked) (o : Option Refusal) → answer_by order cs o ≡ Ok l → cs ≡ l.scopes
scopes_by order cs l None e = ap (scopes_or cs) e
scopes_by order cs l (Some r) e = absurd (false≢true (ap is_linked e))

pub answered_scopes : AnsweredScopes
answered_scopes ss l e =
    let s = has_scopes ss (not_refused ss l e) in
    subst (AreScopes ss) (scopes_by (order_of (graph_of ss)) s.scopes l (first_refusal ss s.scopes) (sym (answer_over ss s.scopes s.are) ∙ e)) s.are
