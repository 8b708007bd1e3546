-- What the conversion out of the representation does with a term.
use Rattle.std.proofs.Common.{◌≡◌, ℕ, zero, suc, ◌+◌, ◌*◌, ◌<◌, ◌≤◌, ◌⊎◌, inl, inr, true, cond, List, [], ◌∷◌, map, length, Some, slice_get, refl, sym, ap, ◌∙◌, subst, arith}
use Rattle.gh_base.specs.declared.fixed.TheConstants.{UNIT, PRODUCT, CON, INL, INR}
use Rattle.gh_base.specs.declared.place.Origin.{Origin}
use Rattle.gh_typeterm.specs.declared.decl.DeclCon.{DeclCon}
use Rattle.gh_typeterm.specs.declared.decl.DeclData.{DeclData}
use Rattle.gh_core.specs.Primitives.{prelude_value}
use Rattle.gh_core.specs.Reduce.{Program, State, Waiting, of_case, demand, reductions, choose, begin_case, is_newtype}
use Rattle.gh_core.specs.Terms.{Term, con, app, cases, whole, contents, con_alt, Alts, alt}
use Rattle.gh_core.specs.Closing.{Env, empty, close, close_alts, put, stands, without, is_in}
use Rattle.gh_core.proofs.Runs.{reductions_zero}
use Rattle.gh_adapt.specs.Conversions.{here, failing, field_vars, made, apart, layer_case, to_case, to_of}
use Rattle.gh_adapt.specs.Goes.{ComesTo, HasSums, ProductComes, LayerComes, SumComes, ToGoes}
use Rattle.gh_adapt.proofs.Running.{one, then_run, choose_hit, choose_miss, begin_data, case_runs, enters, entered, entered_by, entered_one, entered_first, entered_second, entered_other, entered_none}
use Rattle.gh_adapt.proofs.FromRuns.{close_made, Finds, fields_found}

-- the variable that a product is bound to: what is looked at, or the field itself
bound_to : (i k : ℕ) (b : Term) → ((apart i (suc k) b).0 ≡ 0) ⊎ ((apart i (suc k) b).0 ≡ suc i)
bound_to i zero b = inr refl
bound_to i (suc k) b = inl refl

not_field : (r i j : ℕ) → (r ≡ 0) ⊎ (r ≡ suc (suc i)) → j ≤ i → suc j ≡ r → ⊥
not_field r i j (inl e) le is = omega arith
not_field r i j (inr e) le is = omega arith

abbrev product_cost : ℕ → ℕ
product_cost zero = 2
product_cost (suc zero) = 0
product_cost (suc (suc k)) = 2 + product_cost (suc k)

product_few : (k : ℕ) → product_cost k ≤ 2 + (k + k)
product_few zero = omega arith
product_few (suc zero) = omega arith
product_few (suc (suc k)) = let h = product_few (suc k) in omega arith

-- a product was taken apart: what stands for the names now
record Apart (p : Program) (σ : Env) (i k n cost : ℕ) (b : Term) (es : List Term) : Type 0 where
  τ : Env
  finds : Finds τ i k es
  before : (j : ℕ) → j < i → τ (suc j) ≡ σ (suc j)
  runs : (stack : List Waiting) (out : List ℕ) → reductions p (n + cost) (demand (close (apart i k b).1 σ) stack out) ≡ demand (close b τ) stack out

-- a case on what is looked at, whose first alternative is no newtype's
looks : (p : Program) (n : ℕ) (σ : Env) (v : Term) (c : Origin) (es : List Term) (alts : Alts) (stack : List Waiting) (out : List ℕ) (to : State)
    → σ 0 ≡ Some v → begin_case p.newtypes (whole v) (close_alts alts σ) stack out ≡ demand (whole v) (of_case (close_alts alts σ) ∷ stack) out → ComesTo p n v c es
    → ((s : State) → choose (close_alts alts σ) c es stack out s ≡ to) → reductions p (n + 2) (demand (close (cases here alts) σ) stack out) ≡ to
looks p n σ v c es alts stack out to is begins comes chosen =
    ap (λ o. reductions p (n + 2) (demand (cases (stands o 0) (close_alts alts σ)) stack out)) is
    ∙ case_runs p n (whole v) c es (close_alts alts σ) stack out to begins comes chosen

-- the only alternative is taken
only : (σ : Env) (c : Origin) (xs : List ℕ) (b : Term) (es : List Term) (stack : List Waiting) (out : List ℕ) (s : State) → length xs ≡ length es
    → choose (close_alts (alt (con_alt c xs b) failing) σ) c es stack out s ≡ demand (close b (entered σ xs es)) stack out
only σ c xs b es stack out s len =
    choose_hit c xs (close b (without σ (is_in xs))) (close_alts failing σ) es stack out s len ∙ ap (λ t. demand t stack out) (entered_by b σ xs es)

no_reductions : (p : Program) (s : State) → reductions p (0 + 0) s ≡ s
no_reductions p s = reductions_zero p s

taken_apart : (p : Program) (k i n : ℕ) (σ : Env) (b v : Term) (es : List Term) → σ (apart i k b).0 ≡ Some v → ProductComes p k v es n → Apart p σ i k n (product_cost k) b es
taken_apart p zero i n σ b v es is h = record {
  τ = entered σ [] [];
  finds = subst (Finds (entered σ [] []) i 0) (sym h.0) tt;
  before = λ j lt. entered_none σ (suc j);
  runs = λ stack out. looks p n σ v (prelude_value UNIT) [] (alt (con_alt (prelude_value UNIT) [] b) failing) stack out (demand (close b (entered σ [] [])) stack out) is refl h.1
      (λ s. only σ (prelude_value UNIT) [] b [] stack out s refl);
}
taken_apart p (suc zero) i n σ b v es is h = record {
  τ = σ;
  finds = subst (Finds σ i 1) (sym h.0) (is, tt);
  before = λ j lt. refl;
  runs = λ stack out. ap (λ m. reductions p (m + 0) (demand (close b σ) stack out)) h.1 ∙ no_reductions p (demand (close b σ) stack out);
}
taken_apart p (suc (suc k)) i n σ b v es is h =
    let first = h.0 in let rest = h.1 in let more = h.2 in let m = h.3 in let l = h.4 in
    let r = (apart (suc i) (suc k) b).0 in
    let body = (apart (suc i) (suc k) b).1 in
    let σ1 = entered σ (suc i ∷ r ∷ []) (first ∷ rest ∷ []) in
    let place = bound_to (suc i) k b in
    let rest_there : σ1 r ≡ Some rest = entered_second σ (suc i) r first rest (λ e. not_field r i i place (omega arith) (sym e)) in
    let inner = taken_apart p (suc k) (suc i) l σ1 b rest more rest_there h.8 in
    let cost = product_cost (suc k) in
    record {
      τ = inner.τ;
      finds = subst (Finds inner.τ i (suc (suc k))) (sym h.5) (inner.before i (omega arith) ∙ entered_first σ (suc i) r first rest, inner.finds);
      before = λ j lt. inner.before j (omega arith) ∙ entered_other σ (suc i) r (suc j) first rest (λ e. omega arith) (not_field r i j place (omega arith));
      runs = λ stack out.
          let sum : (m + 2) + (l + cost) ≡ n + (2 + cost) = let e = h.6 in omega arith in
          ap (λ z. reductions p z (demand (close (apart i (suc (suc k)) b).1 σ) stack out)) (sym sum)
          ∙ then_run p (m + 2) (l + cost) (demand (close (apart i (suc (suc k)) b).1 σ) stack out) (demand (close body σ1) stack out) (demand (close b inner.τ) stack out)
          (looks p m σ v (prelude_value PRODUCT) (first ∷ rest ∷ []) (alt (con_alt (prelude_value PRODUCT) (suc i ∷ r ∷ []) body) failing) stack out (demand (close body σ1) stack out) is refl h.7
          (λ s. only σ (prelude_value PRODUCT) (suc i ∷ r ∷ []) body (first ∷ rest ∷ []) stack out s refl))
          (inner.runs stack out);
    }

-- what stands for a constructor's layer goes to the constructor
layer_runs : (p : Program) (c : DeclCon) (n : ℕ) (σ : Env) (e : Term) (es : List Term) → is_newtype p.newtypes (prelude_value CON) ≡ true → σ 0 ≡ Some e → LayerComes p (length c.fields) e es n
    → (stack : List Waiting) (out : List ℕ) → reductions p (n + (1 + product_cost (length c.fields))) (demand (close (layer_case c) σ) stack out) ≡ demand (made c.origin (map whole es)) stack out
layer_runs p c n σ e es new is h stack out =
    let v = contents (prelude_value CON) (whole e) in
    let k = length c.fields in
    let b = made c.origin (field_vars 0 k) in
    let r = (apart 0 k b).0 in
    let body = (apart 0 k b).1 in
    let σ1 = entered σ (r ∷ []) (v ∷ []) in
    let parts = taken_apart p k 0 n σ1 b v es (entered_one σ r v) h in
    let cost = product_cost k in
    let sum : 1 + (n + cost) ≡ n + (1 + cost) = omega arith in
    let alts = close_alts (alt (con_alt (prelude_value CON) (r ∷ []) body) failing) σ in
    ap (λ z. reductions p z (demand (close (layer_case c) σ) stack out)) (sym sum)
    ∙ then_run p 1 (n + cost) (demand (close (layer_case c) σ) stack out) (demand (close body σ1) stack out) (demand (made c.origin (map whole es)) stack out)
    (ap (λ o. reductions p 1 (demand (cases (stands o 0) alts) stack out)) is
    ∙ one p (demand (cases (whole e) alts) stack out)
    ∙ ap (λ t. cond t (demand (close (close body (without σ (is_in (r ∷ [])))) (put empty r v)) stack out) (demand (whole e) (of_case alts ∷ stack) out)) new
    ∙ ap (λ t. demand t stack out) (entered_by body σ (r ∷ []) (v ∷ [])))
    (parts.runs stack out
    ∙ ap (λ t. demand t stack out) (close_made (field_vars 0 k) (con c.origin) parts.τ ∙ ap (made c.origin) (fields_found parts.τ 0 k es parts.finds)))

-- the conversion of a sum
record Sum (p : Program) (cs : List DeclCon) (c : DeclCon) (n : ℕ) (σ : Env) (es : List Term) : Type 0 where
  cost : ℕ
  few : cost ≤ 2 * length cs + (4 + (length c.fields + length c.fields))
  runs : (stack : List Waiting) (out : List ℕ) → reductions p (n + cost) (demand (close (to_case cs) σ) stack out) ≡ demand (made c.origin (map whole es)) stack out

sum_runs : (p : Program) (cs : List DeclCon) (c : DeclCon) (index n : ℕ) (σ : Env) (e : Term) (es : List Term) → HasSums p → slice_get cs index ≡ Some c → σ 0 ≡ Some e → SumComes p cs index e es n
    → Sum p cs c n σ es
sum_runs p [] c index n σ e es sums at is h = absurd h
sum_runs p (b ∷ []) c zero n σ e es sums at is h =
    let own : b ≡ c = cc in
    let h' = subst (λ (z : DeclCon). LayerComes p (length z.fields) e es n) own h in
    let few = product_few (length c.fields) in
    record {
      cost = 1 + product_cost (length c.fields);
      few = omega arith;
      runs = λ stack out. ap (λ z. reductions p (n + (1 + product_cost (length c.fields))) (demand (close (layer_case z) σ) stack out)) own
          ∙ layer_runs p c n σ e es sums.1 is h' stack out;
    }
sum_runs p (b ∷ []) c (suc index) n σ e es sums at is h = absurd h
sum_runs p (b ∷ d ∷ ds) c zero n σ e es sums at is h =
    let own : b ≡ c = cc in
    let v = h.0 in let m = h.1 in let l = h.2 in
    let layer = subst (λ (z : DeclCon). LayerComes p (length z.fields) v es l) own h.5 in
    let few = product_few (length c.fields) in
    let left = layer_case b in
    let right = to_case (d ∷ ds) in
    let σ1 = entered σ (0 ∷ []) (v ∷ []) in
    let cost = 1 + product_cost (length c.fields) in
    let whole_term = to_case (b ∷ d ∷ ds) in
    record {
      cost = 2 + cost;
      few = omega arith;
      runs = λ stack out.
          let sum : (m + 2) + (l + cost) ≡ n + (2 + cost) = let e = h.3 in omega arith in
          ap (λ z. reductions p z (demand (close whole_term σ) stack out)) (sym sum)
          ∙ then_run p (m + 2) (l + cost) (demand (close whole_term σ) stack out) (demand (close left σ1) stack out) (demand (made c.origin (map whole es)) stack out)
          (looks p m σ e (prelude_value INL) (v ∷ []) (alt (con_alt (prelude_value INL) (0 ∷ []) left) (alt (con_alt (prelude_value INR) (0 ∷ []) right) failing)) stack out (demand (close left σ1) stack out) is
          (begin_data p.newtypes (whole e) (prelude_value INL) (0 ∷ []) (close left (without σ (is_in (0 ∷ [])))) (close_alts (alt (con_alt (prelude_value INR) (0 ∷ []) right) failing) σ) stack out sums.0) h.4
          (λ s. choose_hit (prelude_value INL) (0 ∷ []) (close left (without σ (is_in (0 ∷ [])))) (close_alts (alt (con_alt (prelude_value INR) (0 ∷ []) right) failing) σ) (v ∷ []) stack out s refl
          ∙ ap (λ t. demand t stack out) (entered_by left σ (0 ∷ []) (v ∷ []))))
          (ap (λ z. reductions p (l + cost) (demand (close (layer_case z) σ1) stack out)) own ∙ layer_runs p c l σ1 v es sums.1 (entered_one σ 0 v) layer stack out);
    }
sum_runs p (b ∷ d ∷ ds) c (suc index) n σ e es sums at is h =
    let v = h.0 in let m = h.1 in let l = h.2 in
    let left = layer_case b in
    let right = to_case (d ∷ ds) in
    let σ1 = entered σ (0 ∷ []) (v ∷ []) in
    let inner = sum_runs p (d ∷ ds) c index l σ1 v es sums at (entered_one σ 0 v) h.5 in
    let whole_term = to_case (b ∷ d ∷ ds) in
    let few = inner.few in
    record {
      cost = 2 + inner.cost;
      few = omega arith;
      runs = λ stack out.
          let sum : (m + 2) + (l + inner.cost) ≡ n + (2 + inner.cost) = let e = h.3 in omega arith in
          ap (λ z. reductions p z (demand (close whole_term σ) stack out)) (sym sum)
          ∙ then_run p (m + 2) (l + inner.cost) (demand (close whole_term σ) stack out) (demand (close right σ1) stack out) (demand (made c.origin (map whole es)) stack out)
          (looks p m σ e (prelude_value INR) (v ∷ []) (alt (con_alt (prelude_value INL) (0 ∷ []) left) (alt (con_alt (prelude_value INR) (0 ∷ []) right) failing)) stack out (demand (close right σ1) stack out) is
          (begin_data p.newtypes (whole e) (prelude_value INL) (0 ∷ []) (close left (without σ (is_in (0 ∷ [])))) (close_alts (alt (con_alt (prelude_value INR) (0 ∷ []) right) failing) σ) stack out sums.0) h.4
          (λ s. choose_miss (prelude_value INR) (prelude_value INL) (0 ∷ []) (close left (without σ (is_in (0 ∷ [])))) (close_alts (alt (con_alt (prelude_value INR) (0 ∷ []) right) failing) σ) (v ∷ []) stack out s refl
          ∙ choose_hit (prelude_value INR) (0 ∷ []) (close right (without σ (is_in (0 ∷ [])))) (close_alts failing σ) (v ∷ []) stack out s refl
          ∙ ap (λ t. demand t stack out) (entered_by right σ (0 ∷ []) (v ∷ []))))
          (inner.runs stack out);
    }

pub to_goes : (d : DeclData) → ToGoes d (to_of d)
to_goes d p index n c e es sums at many wide h =
    let run = sum_runs p d.constructors c index n (put empty 0 e) e es sums at refl h in
    let few = run.few in (
      2 + run.cost,
      omega arith,
      λ stack out.
          let sum : 2 + (n + run.cost) ≡ n + (2 + run.cost) = omega arith in
          ap (λ z. reductions p z (demand (app (to_of d) e) stack out)) (sym sum)
          ∙ then_run p 2 (n + run.cost) (demand (app (to_of d) e) stack out) (demand (close (to_case d.constructors) (put empty 0 e)) stack out) (demand (made c.origin (map whole es)) stack out)
          (enters p 0 (to_case d.constructors) e stack out) (run.runs stack out),
    )
