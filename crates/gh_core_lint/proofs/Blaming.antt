-- What a stop says, and faults of longer lists.
use Rattle.std.proofs.Common.{◌≡◌, ℕ, ◌+◌, ◌++◌, List, [], ◌∷◌, Option, None, refl, ap, subst, inl, inr, arith}
use Rattle.gh_core.specs.declared.types.CoreType.{CoreType}
use Rattle.gh_core.specs.SameType.{Nameless}
use Rattle.gh_core.specs.Typing.{Program, Kinds, Types_of, Code, Branch, bindings_of, branches_of, HasType}
use Rattle.gh_core_lint.specs.declared.rules.Stop.{Stop}
use Rattle.gh_core_lint.specs.declared.rules.Stop.TheVariants as stop
use Rattle.gh_core_lint.specs.Faults.{Fault, broken, clash, nodes, nodes_bound, nodes_branch, nodes_chosen, BindingsHave, BranchHas, BranchesHave, Fails, BindingFails, BodyFails, BranchFails}
use Rattle.gh_core_lint.specs.Stops.{Blames}
use Rattle.gh_core_lint.specs.Types.{type_at}

pub blames_more : (s : Stop) (F G : Fault → Type 0) → ((f : Fault) → F f → G f) → Blames s F → Blames s G
blames_more (stop.Broken n) F G h b = h (broken n) b
blames_more (stop.Clash n w u) F G h b = h (clash n (type_at w) (type_at u)) b
blames_more stop.NoMemory F G h b = tt

abbrev Binds : Type 0
Binds = List (ℕ × CoreType × Code)

-- one binding more
pub bindings_more : (p : Program) (ks : Kinds) (gs : Types_of) (xs : Binds) (b : ℕ × CoreType × Code) (us : List Nameless) (v : Nameless)
    → BindingsHave p ks gs (bindings_of xs) us → HasType p ks gs b.2 v → BindingsHave p ks gs (bindings_of (xs ++ b ∷ [])) (us ++ v ∷ [])
bindings_more p ks gs [] b us v h t = (v, [], ap (λ l. l ++ v ∷ []) h, t, refl)
bindings_more p ks gs (x ∷ xs) b us v h t =
    (h.0, h.1 ++ v ∷ [], ap (λ l. l ++ v ∷ []) h.2, h.3, bindings_more p ks gs xs b h.1 v h.4 t)

pub bindings_fail : (p : Program) (ks : Kinds) (gs : Types_of) (n : ℕ) (xs : Binds) (b : ℕ × CoreType × Code) (rest : Binds) (us : List Nameless) (f : Fault)
    → BindingsHave p ks gs (bindings_of xs) us → Fails p ks gs (n + nodes_bound (bindings_of xs)) b.2 f → BindingFails p ks gs n (bindings_of (xs ++ b ∷ rest)) f
bindings_fail p ks gs n [] b rest us f h t = inl (subst (λ (m : ℕ). Fails p ks gs m b.2 f) (omega arith) t)
bindings_fail p ks gs n (x ∷ xs) b rest us f h t =
    inr (h.0, h.3, bindings_fail p ks gs (n + nodes x.2) xs b rest h.1 f h.4 (subst (λ (m : ℕ). Fails p ks gs m b.2 f) (omega arith) t))

pub bindings_nodes : (xs : Binds) (b : ℕ × CoreType × Code) → nodes_bound (bindings_of (xs ++ b ∷ [])) ≡ nodes_bound (bindings_of xs) + nodes b.2
bindings_nodes [] b = omega arith
bindings_nodes (x ∷ xs) b = let e = bindings_nodes xs b in omega arith

-- one branch more
pub branches_more : (p : Program) (ks : Kinds) (gs : Types_of) (s : Nameless) (xs : List Branch) (b : Branch) (us : List Nameless) (v : Nameless)
    → BranchesHave p ks gs s (branches_of xs None) us → BranchHas p ks gs s b v → BranchesHave p ks gs s (branches_of (xs ++ b ∷ []) None) (us ++ v ∷ [])
branches_more p ks gs s [] b us v h t = (v, [], ap (λ l. l ++ v ∷ []) h, t, refl)
branches_more p ks gs s (x ∷ xs) b us v h t =
    (h.0, h.1 ++ v ∷ [], ap (λ l. l ++ v ∷ []) h.2, h.3, branches_more p ks gs s xs b h.1 v h.4 t)

pub branches_fail : (p : Program) (ks : Kinds) (gs : Types_of) (s : Nameless) (n : ℕ) (xs : List Branch) (b : Branch) (rest : List Branch) (other : Option Code) (us : List Nameless) (f : Fault)
    → BranchesHave p ks gs s (branches_of xs None) us → BodyFails p ks gs s (n + nodes_chosen (branches_of xs None)) b f → BranchFails p ks gs s n (branches_of (xs ++ b ∷ rest) other) f
branches_fail p ks gs s n [] b rest other us f h t = inl (subst (λ (m : ℕ). BodyFails p ks gs s m b f) (omega arith) t)
branches_fail p ks gs s n (x ∷ xs) b rest other us f h t =
    inr (h.0, h.3, branches_fail p ks gs s (n + nodes_branch x) xs b rest other h.1 f h.4 (subst (λ (m : ℕ). BodyFails p ks gs s m b f) (omega arith) t))

pub branches_nodes : (xs : List Branch) (b : Branch) → nodes_chosen (branches_of (xs ++ b ∷ []) None) ≡ nodes_chosen (branches_of xs None) + nodes_branch b
branches_nodes [] b = omega arith
branches_nodes (x ∷ xs) b = let e = branches_nodes xs b in omega arith

-- the same with an `else`
pub fail_before_else : (p : Program) (ks : Kinds) (gs : Types_of) (s : Nameless) (n : ℕ) (xs : List Branch) (other : Option Code) (f : Fault)
    → BranchFails p ks gs s n (branches_of xs None) f → BranchFails p ks gs s n (branches_of xs other) f
fail_before_else p ks gs s n [] other f h = absurd h
fail_before_else p ks gs s n (x ∷ xs) other f (inl h) = inl h
fail_before_else p ks gs s n (x ∷ xs) other f (inr h) = inr (h.0, h.1, fail_before_else p ks gs s (n + nodes_branch x) xs other f h.2)
