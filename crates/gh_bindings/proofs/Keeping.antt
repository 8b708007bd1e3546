-- The core of a program of bindings keeps its meaning.
use Rattle.std.proofs.Common.{◌≡◌, ℕ, suc, ◌+◌, ◌*◌, ◌≤◌, inl, List, [], ◌∷◌, ◌++◌, map, Bool, true, false, cond, Option, Some, None, refl, sym, ap, ◌∙◌, subst, subst₂, arith}
use Rattle.std.specs.Char.{encode_utf8}
use Rattle.gh_base.specs.declared.fixed.TheConstants.{MAIN}
use Rattle.gh_base.specs.declared.names.NameId.{NameId}
use Rattle.gh_base.specs.declared.place.Origin.{Origin}
use Rattle.gh_core.specs.Primitives.{same_origin}
use Rattle.gh_core.specs.Erase.{erased_program}
use Rattle.gh_core.specs.Run.{seen, core_main}
use Rattle.gh_core.specs.Terms as t
use Rattle.gh_core.specs.Reduce as core
use Rattle.gh_core.specs.declared.terms.CoreName.TheVariants.{Plain}
use Rattle.gh_core.proofs.Runs.{reductions_zero, reductions_add}
use Rattle.gh_bindings.specs.declared.binding.Binding.{Binding}
use Rattle.gh_bindings.specs.declared.binding.Operand.{Operand}
use Rattle.gh_bindings.specs.declared.binding.Operand.TheVariants.{Name, Text}
use Rattle.gh_bindings.specs.Core.{core_program}
use Rattle.gh_keeps.specs.Keeps.{Reaches, Keeps, runs}
use Rattle.gh_bindings.specs.Laws.{CoreKeepsMeaning, CoreGoesOn}
use Rattle.gh_bindings.specs.Meaning.{definition, definitions, main_value, operand, joined, cell, join, meaning}
use Rattle.gh_bindings.specs.Source as source
use Rattle.gh_bindings.specs.Acts as model
use Rattle.gh_keeps.proofs.Bridge.{Act, moves, stays, runs-add, reaches_on, grown_between, quiet_before, keeps_alike}
use Rattle.gh_keeps.proofs.Rises.{reductions_runs, rises}
use Rattle.gh_bindings.proofs.Grows.{grows}
use Rattle.gh_bindings.proofs.Plain.{plain_def, plain_program, operand_plain, joined_plain, main_plain, runs_plain}
use Rattle.gh_bindings.proofs.Plain as plain
use Rattle.gh_bindings.proofs.Relation.{Same, same_name, same_string, same_cell, same_join, put_left, put_right, Join, first_clause, second_clause, frames, alts_at, Stacks, bottom, waits, Traced, traced_on, own_itself}

same_operand : (o : Operand) → Same (operand o) (operand_plain o)
same_operand (Name name span) = same_name name
same_operand (Text cs) = same_string cs

same_joined : (os : List Operand) → Same (joined os) (joined_plain os)
same_joined [] = same_string []
same_joined (o ∷ []) = same_operand o
same_joined (o ∷ p ∷ ps) = same_join (same_operand o) (same_joined (p ∷ ps))

-- what a name stands for on both sides
data Found (o : Option source.Expression) (o' : Option t.Term) : Type 0 where
  absent : o ≡ None → o' ≡ None → Found o o'
  found : (os : List Operand) → o ≡ Some (joined os) → o' ≡ Some (joined_plain os) → Found o o'

looked_up : (bs : List Binding) (name : Origin) → Found (model.defined (map definition bs) name) (core.defined (map plain_def bs) (Plain name))
looked_up [] name = absent refl refl
looked_up (b ∷ bs) name = by (same_origin (main_value b.name) name) (looked_up bs name)
  where
    by : (c : Bool) → Found (model.defined (map definition bs) name) (core.defined (map plain_def bs) (Plain name))
        → Found (cond c (Some (joined b.operands)) (model.defined (map definition bs) name)) (cond c (Some (joined_plain b.operands)) (core.defined (map plain_def bs) (Plain name)))
    by true h = found b.operands refl refl
    by false h = h

module _ (bs : List Binding) where
  abbrev pub act : model.State → model.State
  act = model.act (definitions bs)

  abbrev pub reduce : core.State → core.State
  reduce = core.reduce (plain_program bs)

  pub data Related (w : ℕ) (s : model.State) (c : core.State) : Type 0 where
    related : (e : source.Expression) (e' : t.Term) (js : List Join) (ws : List core.Waiting) (out : List ℕ) → Same e e' → Stacks js ws → Traced (definitions bs) e [] js
        → s ≡ model.demand e (frames js) out → c ≡ core.demand e' ws out → Related w s c

  abbrev pub Goes : ℕ → model.State → core.State → Type 0
  Goes w s c = Act 1 act reduce model.seen Related w s c

  shown_same : {e : source.Expression} {e' : t.Term} (js : List Join) (ws : List core.Waiting) (out : List ℕ) → Same e e' → Stacks js ws → model.seen (model.demand e (frames js) out) ≡ seen (core.demand e' ws out)
  shown_same js ws out (same_name x) st = refl
  shown_same _ _ out (same_string []) bottom = refl
  shown_same _ _ out (same_string (c ∷ cs)) bottom = refl
  shown_same _ _ out (same_string cs) (waits a r st) = refl
  shown_same js ws out (same_cell c h h' r) st = refl
  shown_same js ws out (same_join r q) st = refl
  shown_same js ws out (put_left r) st = shown_same js ws out r st
  shown_same js ws out (put_right r) st = shown_same js ws out r st

  -- one step for one reduction
  single : (w : ℕ) (s : model.State) (c : core.State) (e : source.Expression) (e' : t.Term) (js : List Join) (ws : List core.Waiting) (out : List ℕ)
      → Same e e' → Stacks js ws → Traced (definitions bs) e [] js → act s ≡ model.demand e (frames js) out → reduce c ≡ core.demand e' ws out → Goes w s c
  unfolding runs
  single w s c e e' js ws out r st own es ec = moves 0 1 0 refl (omega arith) (inl (omega arith)) (related e e' js ws out r st own es ec)

  name_acts : (w : ℕ) (x : NameId) (js : List Join) (ws : List core.Waiting) (out : List ℕ) → Stacks js ws → Traced (definitions bs) (source.top (main_value x)) [] js
      → Found (model.defined (map definition bs) (main_value x)) (core.defined (map plain_def bs) (Plain (main_value x)))
      → Goes w (model.demand (source.top (main_value x)) (frames js) out) (core.demand (t.glob (Plain (main_value x))) ws out)
  unfolding runs
  name_acts w x js ws out st own (absent e e') =
      stays
      (ap (λ o. model.unfold_name o (frames js) out (model.demand (source.top (main_value x)) (frames js) out)) e)
      (ap (λ o. core.unfold_global o ws out (core.demand (t.glob (Plain (main_value x))) ws out)) e')
  name_acts w x js ws out st own (found os e e') =
      single w _ _ (joined os) (joined_plain os) js ws out (same_joined os) st
      (traced_on (definitions bs) 1 (source.top (main_value x)) (joined os) [] [] [] js
      (λ fr stack u. ap (λ o. model.unfold_name o (fr ∷ stack) u (model.demand (source.top (main_value x)) (fr ∷ stack) u)) e) own)
      (ap (λ o. model.unfold_name o (frames js) out (model.demand (source.top (main_value x)) (frames js) out)) e)
      (ap (λ o. core.unfold_global o ws out (core.demand (t.glob (Plain (main_value x))) ws out)) e')

  -- six steps to the first operand
  join_steps : (a b : source.Expression) (stack : List model.Frame) (out : List ℕ) → runs act 6 (model.demand (join a b) stack out) ≡ model.demand a (first_clause (a, b) ∷ stack) out
  unfolding runs
  join_steps a b stack out = refl

  join_quiet : (a b : source.Expression) (stack : List model.Frame) (out : List ℕ) → model.seen (runs act 5 (model.demand (join a b) stack out)) ≡ model.seen (model.demand (join a b) stack out)
  unfolding runs
  join_quiet a b stack out = refl

  join_reductions : (a b : t.Term) (ws : List core.Waiting) (out : List ℕ) → runs reduce 6 (core.demand (plain.join a b) ws out) ≡ core.demand a (core.of_case (alts_at b) ∷ ws) out
  unfolding runs
  join_reductions a b ws out = refl

  join_acts : (w : ℕ) {a : source.Expression} {a' : t.Term} {b : source.Expression} {b' : t.Term} (js : List Join) (ws : List core.Waiting) (out : List ℕ) → Same a a' → Same b b' → Stacks js ws
      → Traced (definitions bs) (join a b) [] js → Goes w (model.demand (join a b) (frames js) out) (core.demand (plain.join a' b') ws out)
  join_acts w {a} {a'} {b} {b'} js ws out r q st own =
      moves 5 6 0 (join_quiet a b (frames js) out) (omega arith) (inl (omega arith))
      (related a a' ((a, b) ∷ js) (core.of_case (alts_at b') ∷ ws) out r (waits a q st)
      (own_itself (definitions bs) a, traced_on (definitions bs) 6 (join a b) a [] ((a, b) ∷ []) [] js (λ fr stack u. join_steps a b (fr ∷ stack) u) own)
      (join_steps a b (frames js) out) (join_reductions a' b' ws out))

  -- the empty list takes the first clause
  nil_steps : (a b : source.Expression) (stack : List model.Frame) (out : List ℕ) → runs act 2 (model.demand (source.string []) (first_clause (a, b) ∷ stack) out) ≡ model.demand b stack out
  unfolding runs
  nil_steps a b stack out = refl

  nil_quiet : (a b : source.Expression) (stack : List model.Frame) (out : List ℕ) → model.seen (runs act 1 (model.demand (source.string []) (first_clause (a, b) ∷ stack) out)) ≡ record { out = out; status = core.running }
  unfolding runs
  nil_quiet a b stack out = refl

  nil_reductions : (b : t.Term) (ws : List core.Waiting) (out : List ℕ) → runs reduce 1 (core.demand (t.string []) (core.of_case (alts_at b) ∷ ws) out) ≡ core.demand b ws out
  unfolding runs
  nil_reductions b ws out = refl

  nil_acts : (w : ℕ) (a : source.Expression) {b : source.Expression} {b' : t.Term} (js : List Join) (ws : List core.Waiting) (out : List ℕ) → Same b b' → Stacks js ws
      → Traced (definitions bs) (source.string []) [] ((a, b) ∷ js)
      → Goes w (model.demand (source.string []) (frames ((a, b) ∷ js)) out) (core.demand (t.string []) (core.of_case (alts_at b') ∷ ws) out)
  nil_acts w a {b} {b'} js ws out q st own =
      moves 1 1 0 (nil_quiet a b (frames js) out) (omega arith) (inl (omega arith))
      (related b b' js ws out q st
      (traced_on (definitions bs) 2 (source.string []) b ((a, b) ∷ []) [] [] js (λ fr stack u. nil_steps a b (fr ∷ stack) u) own.1)
      (nil_steps a b (frames js) out) (nil_reductions b' ws out))

  -- what the second clause makes of a cell
  abbrev made : source.Expression → source.Expression → source.Expression → source.Expression
  made x xs b = cell (source.whole x) (join (source.whole xs) (source.whole (source.whole b)))

  abbrev made' : t.Term → t.Term → t.Term → t.Term
  made' x xs b = plain.cell (t.whole x) (plain.join (t.whole xs) (t.whole b))

  same_made : {x : source.Expression} {x' : t.Term} {xs : source.Expression} {xs' : t.Term} {b : source.Expression} {b' : t.Term} (c : ℕ)
      → source.opened x ≡ source.char c → core.opened x' ≡ t.lit (t.char c) → Same xs xs' → Same b b' → Same (made x xs b) (made' x' xs' b')
  same_made c h h' r q = same_cell c h h' (same_join (put_left (put_right r)) (put_left (put_left (put_right q))))

  -- the first clause fails after so many steps and the operand is demanded again; it comes to the same, which takes the second clause
  again : (m k p : ℕ) (e a b e' : source.Expression) (stack : List model.Frame) (out : List ℕ)
      → runs act m (model.demand e (first_clause (a, b) ∷ stack) out) ≡ model.demand a (second_clause (a, b) ∷ stack) out
      → runs act p (model.demand a (second_clause (a, b) ∷ stack) out) ≡ model.demand e (second_clause (a, b) ∷ stack) out
      → runs act k (model.demand e (second_clause (a, b) ∷ stack) out) ≡ model.demand e' stack out
      → runs act (m + (p + k)) (model.demand e (first_clause (a, b) ∷ stack) out) ≡ model.demand e' stack out
  again m k p e a b e' stack out back ev on =
      sym (runs-add act m (p + k) _) ∙ ap (runs act (p + k)) back ∙ sym (runs-add act p k _) ∙ ap (runs act k) ev ∙ on

  -- a value that is a cell, with core's reductions and the steps before and after the second evaluation
  cell_goes : (w i m k : ℕ) (e a b x xs : source.Expression) (x' xs' b' : t.Term) (c : ℕ) (js : List Join) (ws : List core.Waiting) (out : List ℕ) (core_state : core.State)
      → ((stack : List model.Frame) (u : List ℕ) → runs act (suc m) (model.demand e (first_clause (a, b) ∷ stack) u) ≡ model.demand a (second_clause (a, b) ∷ stack) u)
      → ((stack : List model.Frame) (u : List ℕ) → runs act k (model.demand e (second_clause (a, b) ∷ stack) u) ≡ model.demand (made x xs b) stack u)
      → model.seen (model.demand e (first_clause (a, b) ∷ frames js) out) ≡ record { out = out; status = core.running }
      → 1 ≤ i → i ≤ suc m → runs reduce i core_state ≡ core.demand (made' x' xs' b') ws out → source.opened x ≡ source.char c → core.opened x' ≡ t.lit (t.char c) → Same xs xs' → Same b b' → Stacks js ws
      → Traced (definitions bs) e [] ((a, b) ∷ js) → Goes w (model.demand e (first_clause (a, b) ∷ frames js) out) core_state
  cell_goes w i m k e a b x xs x' xs' b' c js ws out core_state back on running some few reduces h h' r q st own =
      let p : ℕ = own.0.0 in
      let steps : (stack : List model.Frame) (u : List ℕ) → runs act (suc m + (p + k)) (model.demand e (first_clause (a, b) ∷ stack) u) ≡ model.demand (made x xs b) stack u =
      λ stack u. again (suc m) k p e a b (made x xs b) stack u (back stack u) (own.0.1 (second_clause (a, b)) stack u) (on stack u) in
      let count : suc m + (p + k) ≡ suc (m + (p + k)) = omega arith in
      let steps' : runs act (suc (m + (p + k))) (model.demand e (first_clause (a, b) ∷ frames js) out) ≡ model.demand (made x xs b) (frames js) out =
      ap (λ n. runs act n (model.demand e (first_clause (a, b) ∷ frames js) out)) (sym count) ∙ steps (frames js) out in
      moves (m + (p + k)) i 0
      (quiet_before act model.seen (grows (definitions bs)) (model.demand e (first_clause (a, b) ∷ frames js) out) (m + (p + k)) (suc (m + (p + k))) (omega arith) (ap model.seen steps' ∙ sym running))
      (omega (arith, few)) (inl some)
      (related (made x xs b) (made' x' xs' b') js ws out (same_made c h h' r q) st
      (traced_on (definitions bs) (suc m + (p + k)) e (made x xs b) ((a, b) ∷ []) [] [] js (λ fr stack u. steps (fr ∷ stack) u) own.1)
      steps' reduces)

  string_back : (c : ℕ) (cs : List ℕ) (a b : source.Expression) (stack : List model.Frame) (out : List ℕ)
      → runs act 3 (model.demand (source.string (c ∷ cs)) (first_clause (a, b) ∷ stack) out) ≡ model.demand a (second_clause (a, b) ∷ stack) out
  unfolding runs
  string_back c cs a b stack out = refl

  string_on : (c : ℕ) (cs : List ℕ) (a b : source.Expression) (stack : List model.Frame) (out : List ℕ)
      → runs act 4 (model.demand (source.string (c ∷ cs)) (second_clause (a, b) ∷ stack) out) ≡ model.demand (made (source.char c) (source.string cs) b) stack out
  unfolding runs
  string_on c cs a b stack out = refl

  string_reduction : (c : ℕ) (cs : List ℕ) (b : t.Term) (ws : List core.Waiting) (out : List ℕ)
      → runs reduce 1 (core.demand (t.string (c ∷ cs)) (core.of_case (alts_at b) ∷ ws) out) ≡ core.demand (made' (t.lit (t.char c)) (t.string cs) b) ws out
  unfolding runs
  string_reduction c cs b ws out = refl

  cell_back : (x xs a b : source.Expression) (stack : List model.Frame) (out : List ℕ)
      → runs act 5 (model.demand (cell x xs) (first_clause (a, b) ∷ stack) out) ≡ model.demand a (second_clause (a, b) ∷ stack) out
  unfolding runs
  cell_back x xs a b stack out = refl

  cell_on : (x xs a b : source.Expression) (stack : List model.Frame) (out : List ℕ)
      → runs act 6 (model.demand (cell x xs) (second_clause (a, b) ∷ stack) out) ≡ model.demand (made x xs b) stack out
  unfolding runs
  cell_on x xs a b stack out = refl

  cell_reductions : (x xs b : t.Term) (ws : List core.Waiting) (out : List ℕ)
      → runs reduce 3 (core.demand (plain.cell x xs) (core.of_case (alts_at b) ∷ ws) out) ≡ core.demand (made' x xs b) ws out
  unfolding runs
  cell_reductions x xs b ws out = refl

  string_acts : (w : ℕ) (cs : List ℕ) (js : List Join) (ws : List core.Waiting) (out : List ℕ) → Stacks js ws → Traced (definitions bs) (source.string cs) [] js
      → Goes w (model.demand (source.string cs) (frames js) out) (core.demand (t.string cs) ws out)
  string_acts w [] _ _ out bottom own = stays refl refl
  string_acts w (c ∷ cs) _ _ out bottom own = single w _ _ (source.string cs) (t.string cs) [] [] (out ++ encode_utf8 c) (same_string cs) bottom tt refl refl
  string_acts w [] _ _ out (waits a {b} {b'} {js} {ws} q st) own = nil_acts w a js ws out q st own
  string_acts w (c ∷ cs) _ _ out (waits a {b} {b'} {js} {ws} q st) own =
      cell_goes w 1 2 4 (source.string (c ∷ cs)) a b (source.char c) (source.string cs) (t.lit (t.char c)) (t.string cs) b' c js ws out _
      (string_back c cs a b) (string_on c cs a b) refl (omega arith) (omega arith) (string_reduction c cs b' ws out) refl refl (same_string cs) q st own

  -- a cell that is printed: the demand passes to the head, which is printed
  cell_printed : (c : ℕ) (x xs : source.Expression) (out : List ℕ) → source.opened x ≡ source.char c → runs act 3 (model.demand (cell x xs) [] out) ≡ model.demand xs [] (out ++ encode_utf8 c)
  unfolding runs
  cell_printed c x xs out h = ap (λ y. act (model.go (model.eval y) (model.printing xs ∷ []) out)) h

  cell_quiet : (x xs : source.Expression) (out : List ℕ) → model.seen (runs act 2 (model.demand (cell x xs) [] out)) ≡ record { out = out; status = core.running }
  unfolding runs
  cell_quiet x xs out = refl

  abbrev printing : t.Term → t.Term → List ℕ → core.State
  printing y xs out = record { focus = y; stack = core.printing xs ∷ []; out = out; status = core.running }

  cell_printed' : (c : ℕ) (x xs : t.Term) (out : List ℕ) → core.opened x ≡ t.lit (t.char c) → runs reduce 3 (core.demand (plain.cell x xs) [] out) ≡ core.demand xs [] (out ++ encode_utf8 c)
  unfolding runs
  cell_printed' c x xs out h = ap (λ y. reduce (printing y xs out)) h

  cell_acts : (w c : ℕ) {x : source.Expression} {x' : t.Term} {xs : source.Expression} {xs' : t.Term} (js : List Join) (ws : List core.Waiting) (out : List ℕ)
      → source.opened x ≡ source.char c → core.opened x' ≡ t.lit (t.char c) → Same xs xs' → Stacks js ws → Traced (definitions bs) (cell x xs) [] js
      → Goes w (model.demand (cell x xs) (frames js) out) (core.demand (plain.cell x' xs') ws out)
  cell_acts w c {x} {x'} {xs} {xs'} _ _ out h h' r bottom own =
      moves 2 3 0 (cell_quiet x xs out) (omega arith) (inl (omega arith))
      (related xs xs' [] [] (out ++ encode_utf8 c) r bottom tt (cell_printed c x xs out h) (cell_printed' c x' xs' out h'))
  cell_acts w c {x} {x'} {xs} {xs'} _ _ out h h' r (waits a {b} {b'} {js} {ws} q st) own =
      cell_goes w 3 4 6 (cell x xs) a b x xs x' xs' b' c js ws out _
      (cell_back x xs a b) (cell_on x xs a b) refl (omega arith) (omega arith) (cell_reductions x' xs' b' ws out) h h' r q st own

  acts_from : (w : ℕ) {e : source.Expression} {e' : t.Term} (js : List Join) (ws : List core.Waiting) (out : List ℕ) → Same e e' → Stacks js ws → Traced (definitions bs) e [] js
      → Goes w (model.demand e (frames js) out) (core.demand e' ws out)
  acts_from w js ws out (same_name x) st own = name_acts w x js ws out st own (looked_up bs (main_value x))
  acts_from w js ws out (same_string cs) st own = string_acts w cs js ws out st own
  acts_from w js ws out (same_cell c h h' r) st own = cell_acts w c js ws out h h' r st own
  acts_from w js ws out (same_join r q) st own = join_acts w js ws out r q st own
  acts_from w js ws out (put_left r) st own = acts_from w js ws out r st own
  acts_from w js ws out (put_right r) st own = acts_from w js ws out r st own

  shows_same : (w : ℕ) (s : model.State) (c : core.State) → Related w s c → model.seen s ≡ seen c
  shows_same w s c (related e e' js ws out r st own es ec) = ap model.seen es ∙ shown_same js ws out r st ∙ ap seen (sym ec)

  pub goes_on : (w : ℕ) (s : model.State) (c : core.State) → Related w s c → Goes w s c
  goes_on w s c (related e e' js ws out r st own es ec) = subst₂ (Goes w) (sym es) (sym ec) (acts_from w js ws out r st own)

  -- the two sides begin related
  pub main_related : Related 0 (model.demand (source.top (main_value MAIN)) [] []) (core.demand main_plain [] [])
  main_related = related (source.top (main_value MAIN)) main_plain [] [] [] (same_name MAIN) bottom tt refl refl

  -- each reduction of core is paid for by a step
  pub kept : Keeps 1 (meaning bs) (λ n. seen (runs reduce n (core.demand main_plain [] [])))
  kept =
      keeps_alike 1 act reduce model.seen seen Related (grows (definitions bs)) (rises (plain_program bs)) shows_same goes_on 0
      (model.demand (source.top (main_value MAIN)) [] []) (core.demand main_plain [] []) main_related

pub core_runs : (bs : List Binding) (n : ℕ) → core_main (erased_program (core_program bs)) n ≡ seen (runs (core.reduce (plain_program bs)) n (core.demand main_plain [] []))
core_runs bs n = runs_plain bs n ∙ ap seen (reductions_runs (plain_program bs) n (core.demand main_plain [] []))

pub core_goes_on : CoreGoesOn
core_goes_on bs m n le =
    subst₂ Reaches (sym (core_runs bs m)) (sym (core_runs bs n)) (grown_between (core.reduce (plain_program bs)) seen (rises (plain_program bs)) m n (core.demand main_plain [] []) le)

pub core_keeps_closely : CoreKeepsMeaning 1
core_keeps_closely bs = record {
  within = λ n. subst (Reaches (meaning bs n)) (sym (core_runs bs (1 * (n + 1)))) ((kept bs).within n);
  only = λ n. let k = (kept bs).only n in (k.0, subst (λ x. Reaches x (meaning bs k.0)) (sym (core_runs bs n)) k.1);
}

-- a larger budget keeps it too
pub core_keeps_meaning : CoreKeepsMeaning 1000
core_keeps_meaning bs = record {
  within = λ n. let few : 1 * (n + 1) ≤ 1000 * (n + 1) = omega arith in reaches_on ((core_keeps_closely bs).within n) (core_goes_on bs (1 * (n + 1)) (1000 * (n + 1)) few);
  only = (core_keeps_closely bs).only;
}

-- so many reductions after so many are all of them
pub reductions_join : (p : core.Program) (m n : ℕ) (s : core.State) → core.reductions p (m + n) s ≡ core.reductions p n (core.reductions p m s)
reductions_join p m n s = sym (reductions_add p m n s)

-- one reduction more prints at least as much, and changes nothing where the run is over
pub core_next : (bs : List Binding) (n : ℕ) → Reaches (core_main (erased_program (core_program bs)) n) (core_main (erased_program (core_program bs)) (n + 1))
core_next bs n = core_goes_on bs n (n + 1) (omega arith)

-- before any reduction nothing is printed, and the run goes on
pub core_starts : (bs : List Binding) → core_main (erased_program (core_program bs)) 0 ≡ record { out = []; status = core.running }
core_starts bs = runs_plain bs 0 ∙ ap seen (reductions_zero (plain_program bs) (core.demand main_plain [] []))
