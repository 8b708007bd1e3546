-- Looking for a name goes from cell to cell.
use Rattle.std.proofs.Common.{◌≡◌, ℕ, zero, suc, ◌+◌, ◌-◌, ◌≤◌, ◌<◌, List, [], ◌∷◌, length, Bool, true, false, cond, eq-eqb, get_or, Option, Some, None, refl, sym, ap, ◌∙◌, arith, inl, inr, ◌==◌}
use Rattle.std.specs.Prelude.{slice_get, option_map}
use Rattle.std.proofs.lemmas.Option.{slice_get_read}
use Rattle.std.proofs.lemmas.Bool.Decides.{eqb_tells}
use Rattle.gh_core.specs.Terms.{Term, letrec, Binds, bind}
use Rattle.gh_core.specs.Closing.{Env, without, binds_name, close, close_binds, put, put_rec}
use Rattle.gh_core.specs.Reading.{binds_of}
use Rattle.gh_machine.specs.Unload.{IsFine, env_in, env_of, code_in, parent_of, closed_in, after_cell, envs_of, group, binds_in, bound_at, binding_in, place_of}
use Rattle.gh_machine.specs.declared.closure.TheConstants.{GROUP}
use Rattle.gh_machine.specs.declared.closure.Cell.{Cell}
use Rattle.gh_machine.proofs.Envs.{env_here, env_in_zero}

pub record IsBelow (cells : List Cell) (at : ℕ) (c : Cell) : Type 0 where
  pub here : env_in (envs_of cells) at ≡ after_cell (envs_of cells) c
  pub parent : parent_of c < at
  pub value : env_of c.value < at

pub below : (cells : List Cell) (at : ℕ) (c : Cell) → IsFine cells → 0 < at → at ≤ length cells → c ≡ get_or cells (at - 1) c → IsBelow cells at c
below cells zero c fine pos le is = absurd (omega arith)
below cells (suc i) c fine pos le is =
    let j : suc i - 1 ≡ i = omega arith in
    let here : slice_get cells i ≡ Some c = slice_get_read cells (length cells) i c refl (omega arith) (is ∙ ap (λ k. get_or cells k c) j) in
    record {
      here = env_here cells i c fine here;
      parent = let p = fine.parent i c here in omega arith;
      value = let p = fine.value i c here in omega arith;
    }

cond_same : (n x : ℕ) (o : Option Term) (t : Term) → n ≡ x → cond (x == n) (Some t) o ≡ Some t
cond_same n x o t e = ap (λ b. cond b (Some t) o) (eq-eqb x n (sym e))

cond_other : (n x : ℕ) (o : Option Term) (t : Term) → (n ≡ x → ⊥) → cond (x == n) (Some t) o ≡ o
cond_other n x o t ne = elim (eqb_tells x n) [
  | inl h ↦ absurd (ne (sym h.1))
  | inr h ↦ ap (λ b. cond b (Some t) o) h.0
]

pub same_test : (m n : ℕ) → m ≡ n → (m == n) ≡ true
same_test m n e = eq-eqb m n e

pub other_test : (m n : ℕ) → (m ≡ n → ⊥) → (m == n) ≡ false
other_test m n ne = elim (eqb_tells m n) [
  | inl h ↦ absurd (ne h.1)
  | inr h ↦ h.0
]

pub parent_is : (c : Cell) → (c.parent ≡ GROUP → ⊥) → parent_of c ≡ c.parent
parent_is c ne = ap (λ b. cond b 0 c.parent) (other_test c.parent GROUP ne)

abbrev cell_by : List Cell → Cell → Bool → Env
cell_by cells c b = cond b (group (binds_in (code_in c.value)) (env_in (envs_of cells) (env_of c.value))) (put (env_in (envs_of cells) (parent_of c)) c.name (closed_in (envs_of cells) c.value))

-- the environment at a name's cell, and at a letrec's
pub at_name : (cells : List Cell) (at : ℕ) (c : Cell) → IsBelow cells at c → (c.parent ≡ GROUP → ⊥) → env_in (envs_of cells) at ≡ put (env_in (envs_of cells) c.parent) c.name (closed_in (envs_of cells) c.value)
at_name cells at c b ne = b.here ∙ ap (cell_by cells c) (other_test c.parent GROUP ne) ∙ ap (λ p. put (env_in (envs_of cells) p) c.name (closed_in (envs_of cells) c.value)) (parent_is c ne)

pub at_group : (cells : List Cell) (at : ℕ) (c : Cell) → IsBelow cells at c → c.parent ≡ GROUP → env_in (envs_of cells) at ≡ group (binds_in (code_in c.value)) (env_in (envs_of cells) (env_of c.value))
at_group cells at c b e = b.here ∙ ap (cell_by cells c) (same_test c.parent GROUP e)

pub found : (cells : List Cell) (at : ℕ) (c : Cell) (x : ℕ) → IsBelow cells at c → (c.parent ≡ GROUP → ⊥) → c.name ≡ x → env_in (envs_of cells) at x ≡ Some (closed_in (envs_of cells) c.value)
found cells at c x b g e = ap (λ (ρ : Env). ρ x) (at_name cells at c b g) ∙ cond_same c.name x (env_in (envs_of cells) c.parent x) (closed_in (envs_of cells) c.value) e

pub passed : (cells : List Cell) (at : ℕ) (c : Cell) (x : ℕ) → IsBelow cells at c → (c.parent ≡ GROUP → ⊥) → (c.name ≡ x → ⊥) → env_in (envs_of cells) c.parent x ≡ env_in (envs_of cells) at x
passed cells at c x b g ne = sym (ap (λ (ρ : Env). ρ x) (at_name cells at c b g) ∙ cond_other c.name x (env_in (envs_of cells) c.parent x) (closed_in (envs_of cells) c.value) ne)

pub found_none : (cells : List Cell) (at x : ℕ) → at ≡ 0 → env_in (envs_of cells) at x ≡ None
found_none cells at x e = ap (λ n. env_in (envs_of cells) n x) e ∙ ap (λ (ρ : Env). ρ x) (env_in_zero cells)

mapped_some : (o : Option ℕ) (i : ℕ) → option_map (λ k. k + 1) o ≡ Some i → (j : ℕ) × (o ≡ Some j) × (i ≡ suc j)
mapped_some None i e = absurd (let no : ⊥ = cc in no)
mapped_some (Some j) i e = let k : j + 1 ≡ i = cc in (j, refl, omega arith)

mapped_none : (o : Option ℕ) → option_map (λ k. k + 1) o ≡ None → o ≡ None
mapped_none None e = refl
mapped_none (Some j) e = absurd (let no : ⊥ = cc in no)

some_by : (q : Bool) (x : ℕ) (t : Term) (bs : List (ℕ × Term)) (all : Binds) (σ τ : Env) (y i : ℕ) (d : Term)
    → ((j : ℕ) → place_of bs y ≡ Some j → put_rec all σ (close_binds (binds_of bs) τ) y ≡ Some (letrec all (close (bound_at (binds_of bs) j d) τ)))
    → cond q (Some 0) (option_map (λ k. k + 1) (place_of bs y)) ≡ Some i
    → cond q (Some (letrec all (close t τ))) (put_rec all σ (close_binds (binds_of bs) τ) y) ≡ Some (letrec all (close (bound_at (bind x t (binds_of bs)) i d) τ))
some_by true x t bs all σ τ y i d ih e = let z : 0 ≡ i = cc in ap (λ n. Some (letrec all (close (bound_at (bind x t (binds_of bs)) n d) τ))) z
some_by false x t bs all σ τ y i d ih e =
    let h = mapped_some (place_of bs y) i e in
    ih h.0 h.1 ∙ ap (λ n. Some (letrec all (close (bound_at (bind x t (binds_of bs)) n d) τ))) (sym h.2)

rec_some : (bs : List (ℕ × Term)) (all : Binds) (σ τ : Env) (y i : ℕ) (d : Term) → place_of bs y ≡ Some i → put_rec all σ (close_binds (binds_of bs) τ) y ≡ Some (letrec all (close (bound_at (binds_of bs) i d) τ))
rec_some [] all σ τ y i d e = absurd (let no : ⊥ = cc in no)
rec_some (b ∷ bs) all σ τ y i d e = some_by (y == b.0) b.0 b.1 bs all σ τ y i d (λ j. rec_some bs all σ τ y j d) e

none_by : (q : Bool) (o : Option ℕ) (e : Term) (p r : Option Term) → (o ≡ None → p ≡ r) → cond q (Some 0) (option_map (λ k. k + 1) o) ≡ None → cond q (Some e) p ≡ r
none_by true o e p r ih h = absurd (let no : ⊥ = cc in no)
none_by false o e p r ih h = ih (mapped_none o h)

put_rec_none : (bs : List (ℕ × Term)) (all : Binds) (σ τ : Env) (y : ℕ) → place_of bs y ≡ None → put_rec all σ (close_binds (binds_of bs) τ) y ≡ σ y
put_rec_none [] all σ τ y e = refl
put_rec_none (b ∷ bs) all σ τ y e = none_by (y == b.0) (place_of bs y) (letrec all (close b.1 τ)) (put_rec all σ (close_binds (binds_of bs) τ) y) (σ y) (put_rec_none bs all σ τ y) e

-- what a letrec's bindings have for a name
pub group_some : (t : Term) (bs : List (ℕ × Term)) (b : Term) (y i : ℕ) → t ≡ letrec (binds_of bs) b → place_of bs y ≡ Some i → (ρ : Env) → group (binds_in t) ρ y ≡ Some (close (binding_in t i) ρ)
group_some t bs b y i is e ρ =
    let all = close_binds (binds_of bs) (without ρ (binds_name (binds_of bs))) in
    ap (λ u. group (binds_in u) ρ y) is
    ∙ rec_some bs all ρ (without ρ (binds_name (binds_of bs))) y i b e
    ∙ ap (λ u. Some (close (binding_in u i) ρ)) (sym is)

pub group_none : (t : Term) (bs : List (ℕ × Term)) (b : Term) (y : ℕ) → t ≡ letrec (binds_of bs) b → place_of bs y ≡ None → (ρ : Env) → group (binds_in t) ρ y ≡ ρ y
group_none t bs b y is e ρ =
    let all = close_binds (binds_of bs) (without ρ (binds_name (binds_of bs))) in
    ap (λ u. group (binds_in u) ρ y) is ∙ put_rec_none bs all ρ (without ρ (binds_name (binds_of bs))) y e
