-- One name more, or the names of a letrec.
use Rattle.std.proofs.Common.{◌≡◌, ℕ, zero, suc, ◌+◌, ◌≤◌, ◌<◌, List, [], ◌∷◌, ◌++◌, length, drop, get_or, cond, Some, refl, sym, ap, ◌∙◌, subst, ◌⊎◌, inl, inr, arith, length-append, drop-cons, add-one}
use Rattle.std.specs.Prelude.{slice_get}
use Rattle.gh_core.specs.Terms.{Term}
use Rattle.gh_core.specs.Closing.{Env, close, put, put_all}
use Rattle.gh_core.specs.Reduce.{Waiting, arg, args_of}
use Rattle.gh_machine.specs.Unload.{IsFine, env_in, env_of, code_in, parent_of, closed_in, group, binds_in, after_cell, envs_of}
use Rattle.gh_machine.specs.Sound.{IsBound}
use Rattle.gh_machine.specs.declared.closure.TheConstants.{GROUP}
use Rattle.gh_machine.specs.declared.closure.Closure.{Closure}
use Rattle.gh_machine.specs.declared.closure.Cell.{Cell}
use Rattle.gh_machine.proofs.Envs.{env_in-push, env_in_last}
use Rattle.gh_machine.proofs.Looks.{parent_is, same_test, other_test}
use Rattle.gh_machine.proofs.Stacks.{args_from}

pub slice_get_snoc : {X : Type 0} (xs : List X) (x y : X) (i : ℕ) → slice_get (xs ++ x ∷ []) i ≡ Some y → (slice_get xs i ≡ Some y) ⊎ ((i ≡ length xs) × (x ≡ y))
slice_get_snoc [] x y zero e = let is : x ≡ y = cc in inr (refl, is)
slice_get_snoc [] x y (suc i) e = inl e
slice_get_snoc (z ∷ xs) x y zero e = inl e
slice_get_snoc (z ∷ xs) x y (suc i) e = elim (slice_get_snoc xs x y i e) [
  | inl h ↦ inl h
  | inr h ↦ let n : suc i ≡ suc (length xs) = omega arith in inr (n, h.1)
]

fine-push : (cells : List Cell) (c : Cell) → IsFine cells → parent_of c ≤ length cells → env_of c.value ≤ length cells → IsFine (cells ++ c ∷ [])
fine-push cells c fine p v = record {
  parent = λ i d at. elim (slice_get_snoc cells c d i at) [
    | inl h ↦ fine.parent i d h
    | inr h ↦ subst (λ n. parent_of d ≤ n) (sym h.0) (subst (λ (x : Cell). parent_of x ≤ length cells) h.1 p)
  ];
  value = λ i d at. elim (slice_get_snoc cells c d i at) [
    | inl h ↦ fine.value i d h
    | inr h ↦ subst (λ n. env_of d.value ≤ n) (sym h.0) (subst (λ (x : Cell). env_of x.value ≤ length cells) h.1 v)
  ];
}

pushed : (cells new : List Cell) (c : Cell) (n : ℕ) (ρ : Env) → IsFine cells → parent_of c ≤ length cells → env_of c.value ≤ length cells → new ≡ cells ++ c ∷ [] → n ≡ suc (length cells) → after_cell (envs_of cells) c ≡ ρ → IsBound cells new n ρ
pushed cells new c n ρ fine p v is long e =
    let len : length new ≡ suc (length cells) = ap length is ∙ omega (arith, length-append cells (c ∷ [])) in
    record {
      fine = subst IsFine (sym is) (fine-push cells c fine p v);
      within = omega arith;
      env = ap (λ cs. env_in (envs_of cs) n) is ∙ env_in_last cells c n long ∙ e;
      keeps = λ k le. ap (λ cs. env_in (envs_of cs) k) is ∙ env_in-push cells c k le;
      more = omega arith;
    }

after_name : (envs : List Env) (c : Cell) → (c.parent ≡ GROUP → ⊥) → after_cell envs c ≡ put (env_in envs c.parent) c.name (closed_in envs c.value)
after_name envs c ne =
    ap (λ b. cond b (group (binds_in (code_in c.value)) (env_in envs (env_of c.value))) (put (env_in envs (parent_of c)) c.name (closed_in envs c.value))) (other_test c.parent GROUP ne)
    ∙ ap (λ p. put (env_in envs p) c.name (closed_in envs c.value)) (parent_is c ne)

pub bound_name : (cells new : List Cell) (c : Cell) (n : ℕ) → IsFine cells → (c.parent ≡ GROUP → ⊥) → c.parent ≤ length cells → env_of c.value ≤ length cells → new ≡ cells ++ c ∷ [] → n ≡ suc (length cells)
    → IsBound cells new n (put (env_in (envs_of cells) c.parent) c.name (closed_in (envs_of cells) c.value))
bound_name cells new c n fine ne p v is long =
    let q : parent_of c ≡ c.parent = parent_is c ne in
    pushed cells new c n (put (env_in (envs_of cells) c.parent) c.name (closed_in (envs_of cells) c.value)) fine (omega arith) v is long (after_name (envs_of cells) c ne)

pub bound_group : (cells new : List Cell) (c : Cell) (n : ℕ) → IsFine cells → c.parent ≡ GROUP → env_of c.value ≤ length cells → new ≡ cells ++ c ∷ [] → n ≡ suc (length cells)
    → IsBound cells new n (group (binds_in (code_in c.value)) (env_in (envs_of cells) (env_of c.value)))
bound_group cells new c n fine g v is long =
    let t = same_test c.parent GROUP g in
    let q : parent_of c ≡ 0 = ap (λ b. cond b 0 c.parent) t in
    pushed cells new c n (group (binds_in (code_in c.value)) (env_in (envs_of cells) (env_of c.value))) fine (omega arith) v is long
    (ap (λ b. cond b (group (binds_in (code_in c.value)) (env_in (envs_of cells) (env_of c.value))) (put (env_in (envs_of cells) (parent_of c)) c.name (closed_in (envs_of cells) c.value))) t)

-- an environment that is there
pub bound_here : (cells : List Cell) (env : ℕ) (ρ : Env) → IsFine cells → env ≤ length cells → env_in (envs_of cells) env ≡ ρ → IsBound cells cells env ρ
bound_here cells env ρ fine le e = record {
  fine = fine;
  within = le;
  env = e;
  keeps = λ k h. refl;
  more = omega arith;
}

-- the last names from a place on are bound
abbrev pub from_place : List Cell → ℕ → List ℕ → List Waiting → ℕ → Env
from_place cells env xs ws i = put_all (env_in (envs_of cells) env) (drop i xs) (drop i (args_of ws))

put_nothing : (ρ : Env) (es : List Term) → put_all ρ [] es ≡ ρ
put_nothing ρ es = refl

drop_whole : {X : Type 0} (xs : List X) → drop (length xs) xs ≡ []
drop_whole [] = refl
drop_whole (x ∷ xs) = drop_whole xs

pub bound_none : (cells : List Cell) (env : ℕ) (xs : List ℕ) (ws : List Waiting) (i : ℕ) → IsFine cells → env ≤ length cells → i ≡ length xs → IsBound cells cells env (from_place cells env xs ws i)
bound_none cells env xs ws i fine le e =
    bound_here cells env (from_place cells env xs ws i) fine le (sym (ap (λ ys. put_all (env_in (envs_of cells) env) ys (drop i (args_of ws))) (ap (λ k. drop k xs) e ∙ drop_whole xs)))

pub bound_more : (old mid new : List Cell) (env top next i : ℕ) (xs : List ℕ) (ws : List Waiting) (x : ℕ) (v : Closure)
    → IsBound old mid top (from_place old env xs ws (suc i))
    → IsBound mid new next (put (env_in (envs_of mid) top) x (closed_in (envs_of mid) v))
    → i < length xs → i < length (args_of ws) → x ≡ get_or xs i 0 → env_of v ≤ length old → drop i ws ≡ arg (closed_in (envs_of old) v) ∷ drop (i + 1) ws
    → IsBound old new next (from_place old env xs ws i)
bound_more old mid new env top next i xs ws x v a b lt lt2 at le is =
    let o = envs_of old in
    let names : drop i xs ≡ x ∷ drop (suc i) xs = drop-cons xs i 0 lt ∙ ap (λ y. y ∷ drop (suc i) xs) (sym at) in
    let args : drop i (args_of ws) ≡ closed_in o v ∷ drop (suc i) (args_of ws) =
    args_from i ws (omega arith) ∙ ap args_of is ∙ ap (λ k. closed_in o v ∷ args_of (drop k ws)) (add-one i) ∙ ap (λ es. closed_in o v ∷ es) (sym (args_from (suc i) ws (omega arith))) in
    record {
      fine = b.fine;
      within = b.within;
      env = b.env
          ∙ (λ k. put (a.env k) x (close (code_in v) (a.keeps (env_of v) le k)))
          ∙ sym (λ k. put_all (env_in o env) (names k) (args k));
      keeps = λ k h. let m = a.more in b.keeps k (omega arith) ∙ a.keeps k h;
      more = let m = a.more in let n = b.more in omega arith;
    }

-- two names more
pub bound_two : (old mid new : List Cell) (m n : ℕ) (ρ : Env) (x : ℕ) (v : Closure) → IsBound old mid m ρ → IsBound mid new n (put (env_in (envs_of mid) m) x (closed_in (envs_of mid) v)) → env_of v ≤ length old → IsBound old new n (put ρ x (closed_in (envs_of old) v))
bound_two old mid new m n ρ x v a b le = record {
  fine = b.fine;
  within = b.within;
  env = b.env ∙ (λ k. put (a.env k) x (close (code_in v) (a.keeps (env_of v) le k)));
  keeps = λ k h. let q = a.more in b.keeps k (omega arith) ∙ a.keeps k h;
  more = let q = a.more in let r = b.more in omega arith;
}
