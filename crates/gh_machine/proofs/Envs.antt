-- The environments of a list of cells.
use Rattle.std.proofs.Common.{◌≡◌, ℕ, zero, suc, ◌+◌, ◌≤◌, ◌<◌, List, [], ◌∷◌, ◌++◌, length, cond, get_or, Some, refl, sym, ap, ◌∙◌, arith, length-append, ◌==◌}
use Rattle.std.specs.Prelude.{slice_get}
use Rattle.std.proofs.Math.ListN.{get_or-append}
use Rattle.std.proofs.Math.Seq.{get_or-append_seam}
use Rattle.gh_core.specs.Closing.{Env, empty, close, put}
use Rattle.gh_machine.specs.Unload.{IsFine, env_in, env_of, code_in, parent_of, closed_in, group, binds_in, after_cell, more_envs, envs_of}
use Rattle.gh_machine.specs.declared.closure.TheConstants.{GROUP}
use Rattle.gh_machine.specs.declared.closure.Closure.{Closure}
use Rattle.gh_machine.specs.declared.closure.Cell.{Cell}

more_envs-append : (envs : List Env) (cs : List Cell) (c : Cell) → more_envs envs (cs ++ c ∷ []) ≡ more_envs envs cs ++ after_cell (more_envs envs cs) c ∷ []
more_envs-append envs [] c = refl
more_envs-append envs (d ∷ cs) c = more_envs-append (envs ++ after_cell envs d ∷ []) cs c

length-more_envs : (envs : List Env) (cs : List Cell) → length (more_envs envs cs) ≡ length envs + length cs
length-more_envs envs [] = omega arith
length-more_envs envs (d ∷ cs) = omega (arith, length-more_envs (envs ++ after_cell envs d ∷ []) cs, length-append envs (after_cell envs d ∷ []))

-- one more cell
pub envs_of-push : (cells : List Cell) (c : Cell) → envs_of (cells ++ c ∷ []) ≡ envs_of cells ++ after_cell (envs_of cells) c ∷ []
envs_of-push cells c = more_envs-append (empty ∷ []) cells c

pub length-envs_of : (cells : List Cell) → length (envs_of cells) ≡ suc (length cells)
length-envs_of cells = omega (arith, length-more_envs (empty ∷ []) cells)

-- the environments before it stay
pub env_in-push : (cells : List Cell) (c : Cell) (e : ℕ) → e ≤ length cells → env_in (envs_of (cells ++ c ∷ [])) e ≡ env_in (envs_of cells) e
env_in-push cells c e le = ap (λ envs. env_in envs e) (envs_of-push cells c) ∙ get_or-append (envs_of cells) (after_cell (envs_of cells) c ∷ []) empty e (omega (arith, length-envs_of cells))

pub closed_in-push : (cells : List Cell) (c : Cell) (d : Closure) → env_of d ≤ length cells → closed_in (envs_of (cells ++ c ∷ [])) d ≡ closed_in (envs_of cells) d
closed_in-push cells c d le = ap (close (code_in d)) (env_in-push cells c (env_of d) le)

-- and the last is the new cell's
pub env_in_last : (cells : List Cell) (c : Cell) (n : ℕ) → n ≡ suc (length cells) → env_in (envs_of (cells ++ c ∷ [])) n ≡ after_cell (envs_of cells) c
env_in_last cells c n e =
    ap (λ envs. env_in envs n) (envs_of-push cells c)
    ∙ ap (λ k. get_or (envs_of cells ++ after_cell (envs_of cells) c ∷ []) k empty) (e ∙ sym (length-envs_of cells))
    ∙ get_or-append_seam (envs_of cells) (after_cell (envs_of cells) c) [] empty

-- the environments that are there stay, whatever cells follow
more_envs_keep : (envs : List Env) (cs : List Cell) (e : ℕ) → e < length envs → env_in (more_envs envs cs) e ≡ env_in envs e
more_envs_keep envs [] e lt = refl
more_envs_keep envs (c ∷ cs) e lt =
    more_envs_keep (envs ++ after_cell envs c ∷ []) cs e (omega (arith, length-append envs (after_cell envs c ∷ [])))
    ∙ get_or-append envs (after_cell envs c ∷ []) empty e lt

pub env_in_zero : (cells : List Cell) → env_in (envs_of cells) 0 ≡ empty
env_in_zero cells = more_envs_keep (empty ∷ []) cells 0 (omega arith)

after_same : (envs more : List Env) (c : Cell) → env_in more (parent_of c) ≡ env_in envs (parent_of c) → env_in more (env_of c.value) ≡ env_in envs (env_of c.value) → after_cell envs c ≡ after_cell more c
after_same envs more c p v = λ i. cond (c.parent == GROUP) (group (binds_in (code_in c.value)) (sym v i)) (put (sym p i) c.name (close (code_in c.value) (sym v i)))

env_here_from : (envs : List Env) (cs : List Cell) (k i : ℕ) (c : Cell) → length envs ≡ suc k → slice_get cs i ≡ Some c → (parent_of c) ≤ k + i → (env_of c.value) ≤ k + i → env_in (more_envs envs cs) (suc (k + i)) ≡ after_cell (more_envs envs cs) c
env_here_from envs [] k i c len at p v = cc
env_here_from envs (d ∷ cs) k zero c len at p v =
    let is : d ≡ c = cc in
    let all = more_envs (envs ++ after_cell envs d ∷ []) cs in
    let long : length (envs ++ after_cell envs d ∷ []) ≡ suc (suc k) = omega (arith, length-append envs (after_cell envs d ∷ [])) in
    let keeps : (e : ℕ) → e < length envs → env_in all e ≡ env_in envs e = λ e lt. more_envs_keep envs (d ∷ cs) e lt in
    let here : env_in all (suc (k + 0)) ≡ after_cell envs d =
    more_envs_keep (envs ++ after_cell envs d ∷ []) cs (suc (k + 0)) (omega arith)
    ∙ ap (λ n. get_or (envs ++ after_cell envs d ∷ []) n empty) (omega arith)
    ∙ get_or-append_seam envs (after_cell envs d) [] empty in
    here ∙ ap (after_cell envs) is ∙ after_same envs all c (keeps (parent_of c) (omega arith)) (keeps (env_of c.value) (omega arith))
env_here_from envs (d ∷ cs) k (suc i) c len at p v =
    let more = envs ++ after_cell envs d ∷ [] in
    let e : suc (k + suc i) ≡ suc (suc k + i) = omega arith in
    ap (env_in (more_envs more cs)) e
    ∙ env_here_from more cs (suc k) i c (omega (arith, length-append envs (after_cell envs d ∷ []))) at (omega arith) (omega arith)

-- a cell's environment is its name's in front of its parent's
pub env_here : (cells : List Cell) (i : ℕ) (c : Cell) → IsFine cells → slice_get cells i ≡ Some c → env_in (envs_of cells) (suc i) ≡ after_cell (envs_of cells) c
env_here cells i c fine at =
    let p = fine.parent i c at in
    let v = fine.value i c at in
    let e : suc i ≡ suc (0 + i) = omega arith in
    ap (env_in (envs_of cells)) e ∙ env_here_from (empty ∷ []) cells 0 i c refl at (omega arith) (omega arith)
