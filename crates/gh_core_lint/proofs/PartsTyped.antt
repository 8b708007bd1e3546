-- Bindings and cases whose parts have their types.
use Rattle.std.proofs.Common.{◌≡◌, ℕ, suc, ◌+◌, ◌<◌, ◌≤◌, ◌++◌, List, [], ◌∷◌, map, take, drop, length, get_or, Option, Some, None, refl, sym, ap, subst, subst₂, ◌∙◌, inl, inr, take-append-drop, arith}
use Rattle.std.proofs.Math.Seq.{drop-cons}
use Rattle.std.proofs.lemmas.List.{map-append, take_more}
use Rattle.gh_typeterm.specs.declared.decl.DeclCon.{DeclCon}
use Rattle.gh_typeterm.specs.declared.decl.DeclData.{DeclData}
use Rattle.gh_core.specs.declared.types.CoreType.{CoreType}
use Rattle.gh_core.specs.declared.terms.CoreTerm.{CoreTerm}
use Rattle.gh_core.specs.declared.terms.CoreAlt.{CoreAlt}
use Rattle.gh_core.specs.SameType.{Nameless}
use Rattle.gh_core.specs.Typing.{Code, a_letrec, a_case, Bindings, no_binding, binding, Branch, con_branch, int_branch, char_branch, Branches, no_branch, else_branch, branch, bindings_of, branches_of, bound_types, paired, Kinds, Types_of, Program, placed, HasType, AllBound, Gives, AllGive}
use Rattle.gh_core_lint.specs.declared.scope.Scope.{Scope}
use Rattle.gh_core_lint.specs.declared.rules.Stop.{Stop}
use Rattle.gh_core_lint.specs.declared.types.Node.{Node}
use Rattle.gh_core_lint.specs.Bound.{Adds}
use Rattle.gh_core_lint.specs.Branches.{alt_code, binding_code}
use Rattle.gh_core_lint.specs.Faults.{Fault, nodes, nodes_bound, nodes_branch, nodes_chosen, repeated, written, AllFit, AreValues, BindingFails, BindingsHave, BodyFails, BranchFails, BranchHas, BranchesHave, CaseFails, Fails, Fits, IsCase}
use Rattle.gh_core_lint.specs.Stops.{vars_of, Blames}
use Rattle.gh_core_lint.specs.Types.{type_at}
use Rattle.gh_core_lint.proofs.Blaming.{blames_more, bindings_fail, bindings_more, bindings_nodes, branches_fail, branches_more, branches_nodes, fail_before_else}
use Rattle.gh_core_lint.proofs.Scoped.{again, inside, Faulty, Has}

-- ---- bindings

-- bindings whose terms have the written types, which are types of values
all_bound : (p : Program) (ks : Kinds) (gs : Types_of) (bs : Bindings) (us : List Nameless) → BindingsHave p ks gs bs us → AreValues p ks bs → written ks bs ≡ us → AllBound p ks gs bs
all_bound p ks gs no_binding us h v e = tt
all_bound p ks gs (binding x ty t rest) us h v e =
    let both : placed ks ty ∷ written ks rest ≡ h.0 ∷ h.1 = e ∙ h.2 in
    let one : placed ks ty ≡ h.0 = cc in
    let more : written ks rest ≡ h.1 = cc in
    (v.0, subst (λ (z : Nameless). HasType p ks gs t z) (sym one) h.3, all_bound p ks gs rest h.1 h.4 v.1 more)

pub bindings_many : (p : Program) (ks : Kinds) (gs : Types_of) (xs : List (ℕ × CoreType × Code)) (us : List Nameless) → BindingsHave p ks gs (bindings_of xs) us → length us ≡ length xs
bindings_many p ks gs [] us h = ap length h
bindings_many p ks gs (x ∷ xs) us h = ap length h.2 ∙ ap suc (bindings_many p ks gs xs h.1 h.4)

pub written_many : (ks : Kinds) (xs : List (ℕ × CoreType × Code)) → length (written ks (bindings_of xs)) ≡ length xs
written_many ks [] = refl
written_many ks (x ∷ xs) = ap suc (written_many ks xs)

pub letrec_has : (p : Program) (old s1 s2 : Scope) (ks : Kinds) (bs : Bindings) (b : Code) (us : List Nameless) (t : Nameless) → s1.kinds ≡ old.kinds
    → Adds (bound_types old.kinds bs) old.vars s1.vars → s2 ≡ s1 → BindingsHave p s1.kinds (vars_of s1.vars) bs us → Has p s2 b t → ks ≡ old.kinds
    → AreValues p ks bs → written ks bs ≡ us → Has p old (a_letrec bs b) t
letrec_has p old s1 s2 ks bs b us t k a e parts body same values types = (
  all_bound p old.kinds (bound_types old.kinds bs ++ vars_of old.vars) bs us
      (inside (λ l gs. BindingsHave p l gs bs us) old s1 (bound_types old.kinds bs) k a parts)
      (subst (λ (l : Kinds). AreValues p l bs) same values) (subst (λ (l : Kinds). written l bs ≡ us) same types),
  inside (λ l gs. HasType p l gs b t) old s1 (bound_types old.kinds bs) k a (again (λ l gs. HasType p l gs b t) s1 s2 e body),
)

-- ---- lists, an item at a time

mapped_more : {X Y : Type 0} (f : X → Y) (xs : List X) (i : ℕ) (x : X) → i < length xs → x ≡ get_or xs i x → map f (take (i + 1) xs) ≡ map f (take i xs) ++ f x ∷ []
mapped_more f xs i x lt is = ap (map f) (take_more xs i x lt) ∙ map-append f (take i xs) (get_or xs i x ∷ []) ∙ ap (λ y. map f (take i xs) ++ f y ∷ []) (sym is)

mapped_split : {X Y : Type 0} (f : X → Y) (xs : List X) (i : ℕ) (x : X) → i < length xs → x ≡ get_or xs i x → map f xs ≡ map f (take i xs) ++ f x ∷ map f (drop (suc i) xs)
mapped_split f xs i x lt is =
    ap (map f) (sym (take-append-drop i xs)) ∙ map-append f (take i xs) (drop i xs)
    ∙ ap (λ l. map f (take i xs) ++ map f l) (drop-cons xs i x lt) ∙ ap (λ y. map f (take i xs) ++ f y ∷ map f (drop (suc i) xs)) (sym is)

pub typed_more : (types new : List Node) (x : Node) → new ≡ types ++ x ∷ [] → map type_at new ≡ map type_at types ++ type_at x ∷ []
typed_more types new x e = ap (map type_at) e ∙ map-append type_at types (x ∷ [])

abbrev Binding : Type 0
Binding = ℕ × CoreType × CoreTerm

pub binding_has : (p : Program) (ks : Kinds) (gs : Types_of) (bs : List Binding) (i : ℕ) (b : Binding) (types new : List Node) (x : Node) → i < length bs → b ≡ get_or bs i b
    → new ≡ types ++ x ∷ [] → BindingsHave p ks gs (bindings_of (map binding_code (take i bs))) (map type_at types) → HasType p ks gs (binding_code b).2 (type_at x)
    → BindingsHave p ks gs (bindings_of (map binding_code (take (i + 1) bs))) (map type_at new)
binding_has p ks gs bs i b types new x lt is e h t =
    subst₂ (λ (l : List (ℕ × CoreType × Code)) (us : List Nameless). BindingsHave p ks gs (bindings_of l) us)
    (sym (mapped_more binding_code bs i b lt is)) (sym (typed_more types new x e))
    (bindings_more p ks gs (map binding_code (take i bs)) (binding_code b) (map type_at types) (type_at x) h t)

pub binding_next : (bs : List Binding) (i : ℕ) (b : Binding) (n next after : ℕ) → i < length bs → b ≡ get_or bs i b → next ≡ n + nodes_bound (bindings_of (map binding_code (take i bs)))
    → after ≡ next + nodes (binding_code b).2 → after ≡ n + nodes_bound (bindings_of (map binding_code (take (i + 1) bs)))
binding_next bs i b n next after lt is h e =
    let m = ap (λ l. nodes_bound (bindings_of l)) (mapped_more binding_code bs i b lt is) ∙ bindings_nodes (map binding_code (take i bs)) (binding_code b) in omega arith

pub binding_fails : (p : Program) (ks : Kinds) (gs : Types_of) (bs : List Binding) (i : ℕ) (b : Binding) (us : List Nameless) (n next : ℕ) (stop : Stop) → i < length bs → b ≡ get_or bs i b
    → BindingsHave p ks gs (bindings_of (map binding_code (take i bs))) us → next ≡ n + nodes_bound (bindings_of (map binding_code (take i bs)))
    → Blames stop (Fails p ks gs next (binding_code b).2) → Blames stop (BindingFails p ks gs n (bindings_of (map binding_code bs)))
binding_fails p ks gs bs i b us n next stop lt is h e s =
    blames_more stop (Fails p ks gs next (binding_code b).2) (BindingFails p ks gs n (bindings_of (map binding_code bs)))
    (λ f w. subst (λ (l : List (ℕ × CoreType × Code)). BindingFails p ks gs n (bindings_of l) f) (sym (mapped_split binding_code bs i b lt is))
    (bindings_fail p ks gs n (map binding_code (take i bs)) (binding_code b) (map binding_code (drop (suc i) bs)) us f h
    (subst (λ (m : ℕ). Fails p ks gs m (binding_code b).2 f) e w))) s

pub alternative_has : (p : Program) (ks : Kinds) (gs : Types_of) (s : Nameless) (bs : List CoreAlt) (i : ℕ) (b : CoreAlt) (types new : List Node) (x : Node) → i < length bs → b ≡ get_or bs i b
    → new ≡ types ++ x ∷ [] → BranchesHave p ks gs s (branches_of (map alt_code (take i bs)) None) (map type_at types) → BranchHas p ks gs s (alt_code b) (type_at x)
    → BranchesHave p ks gs s (branches_of (map alt_code (take (i + 1) bs)) None) (map type_at new)
alternative_has p ks gs s bs i b types new x lt is e h t =
    subst₂ (λ (l : List Branch) (us : List Nameless). BranchesHave p ks gs s (branches_of l None) us)
    (sym (mapped_more alt_code bs i b lt is)) (sym (typed_more types new x e))
    (branches_more p ks gs s (map alt_code (take i bs)) (alt_code b) (map type_at types) (type_at x) h t)

pub alternative_next : (bs : List CoreAlt) (i : ℕ) (b : CoreAlt) (n next after : ℕ) → i < length bs → b ≡ get_or bs i b
    → next ≡ n + nodes_chosen (branches_of (map alt_code (take i bs)) None) → after ≡ next + nodes_branch (alt_code b)
    → after ≡ n + nodes_chosen (branches_of (map alt_code (take (i + 1) bs)) None)
alternative_next bs i b n next after lt is h e =
    let m = ap (λ l. nodes_chosen (branches_of l None)) (mapped_more alt_code bs i b lt is) ∙ branches_nodes (map alt_code (take i bs)) (alt_code b) in omega arith

bound_cat : (xs ys : List (ℕ × CoreType × Code)) → nodes_bound (bindings_of (xs ++ ys)) ≡ nodes_bound (bindings_of xs) + nodes_bound (bindings_of ys)
bound_cat [] ys = omega arith
bound_cat (x ∷ xs) ys = let e = bound_cat xs ys in omega arith

-- a term of bindings has no more nodes than they
pub binding_less : (bs : List Binding) (i : ℕ) (b : Binding) → i < length bs → b ≡ get_or bs i b → nodes (binding_code b).2 ≤ nodes_bound (bindings_of (map binding_code bs))
binding_less bs i b lt is =
    let e = ap (λ l. nodes_bound (bindings_of l)) (mapped_split binding_code bs i b lt is) ∙ bound_cat (map binding_code (take i bs)) (binding_code b ∷ map binding_code (drop (suc i) bs)) in
    omega arith

chosen_cat : (xs ys : List Branch) → nodes_chosen (branches_of (xs ++ ys) None) ≡ nodes_chosen (branches_of xs None) + nodes_chosen (branches_of ys None)
chosen_cat [] ys = omega arith
chosen_cat (x ∷ xs) ys = let e = chosen_cat xs ys in omega arith

pub alternative_less : (bs : List CoreAlt) (i : ℕ) (b : CoreAlt) → i < length bs → b ≡ get_or bs i b → nodes_branch (alt_code b) ≤ nodes_chosen (branches_of (map alt_code bs) None)
alternative_less bs i b lt is =
    let e = ap (λ l. nodes_chosen (branches_of l None)) (mapped_split alt_code bs i b lt is) ∙ chosen_cat (map alt_code (take i bs)) (alt_code b ∷ map alt_code (drop (suc i) bs)) in
    omega arith

pub alternative_fails : (p : Program) (ks : Kinds) (gs : Types_of) (s : Nameless) (bs : List CoreAlt) (i : ℕ) (b : CoreAlt) (us : List Nameless) (n next : ℕ) (stop : Stop)
    → i < length bs → b ≡ get_or bs i b → BranchesHave p ks gs s (branches_of (map alt_code (take i bs)) None) us
    → next ≡ n + nodes_chosen (branches_of (map alt_code (take i bs)) None) → Blames stop (BodyFails p ks gs s next (alt_code b))
    → Blames stop (BranchFails p ks gs s n (branches_of (map alt_code bs) None))
alternative_fails p ks gs s bs i b us n next stop lt is h e d =
    blames_more stop (BodyFails p ks gs s next (alt_code b)) (BranchFails p ks gs s n (branches_of (map alt_code bs) None))
    (λ f w. subst (λ (l : List Branch). BranchFails p ks gs s n (branches_of l None) f) (sym (mapped_split alt_code bs i b lt is))
    (branches_fail p ks gs s n (map alt_code (take i bs)) (alt_code b) (map alt_code (drop (suc i) bs)) None us f h
    (subst (λ (m : ℕ). BodyFails p ks gs s m (alt_code b) f) e w))) d

-- ---- cases

-- a branch fits its scrutinee and gives its type
give : (p : Program) (ks : Kinds) (gs : Types_of) (s t : Nameless) (b : Branch) → BranchHas p ks gs s b t → Fits p s b → Gives p ks gs s t b
give p ks gs s t (con_branch c xs e) (us, inl w, h) f =
    let both : Some f.0 ≡ Some w.0 = sym f.2 ∙ w.2 in
    let one : f.0 ≡ w.0 = cc in
    (w.0, w.1, w.2, w.3, f.4 ∙ ap (λ (q : DeclData × DeclCon). length q.1.fields) one, subst (λ (l : List Nameless). HasType p ks (paired xs l ++ gs) e t) w.4 h)
give p ks gs s t (con_branch c xs e) (us, inr w, h) f = absurd (w.0 f.0 f.1 f.2 f.3)
give p ks gs s t (int_branch n e) h f = (f, h)
give p ks gs s t (char_branch c e) h f = (f, h)

all_give : (p : Program) (ks : Kinds) (gs : Types_of) (s t : Nameless) (bs : Branches) (us : List Nameless) → BranchesHave p ks gs s bs us → AllFit p s bs → repeated t us ≡ us
    → AllGive p ks gs s t bs
all_give p ks gs s t no_branch us h f r = tt
all_give p ks gs s t (else_branch e) us h f r =
    let both : t ∷ [] ≡ h.0 ∷ [] = subst (λ (l : List Nameless). repeated t l ≡ l) h.1 r in
    let one : t ≡ h.0 = cc in
    subst (λ (z : Nameless). HasType p ks gs e z) (sym one) h.2
all_give p ks gs s t (branch b rest) us h f r =
    let both : t ∷ repeated t h.1 ≡ h.0 ∷ h.1 = subst (λ (l : List Nameless). repeated t l ≡ l) h.2 r in
    let one : t ≡ h.0 = cc in
    let more : repeated t h.1 ≡ h.1 = cc in
    (give p ks gs s t b (subst (λ (z : Nameless). BranchHas p ks gs s b z) (sym one) h.3) f.0, all_give p ks gs s t rest h.1 h.4 f.1 more)

-- branches and what stands behind them
branches_join : (p : Program) (ks : Kinds) (gs : Types_of) (s : Nameless) (xs : List Branch) (other : Option Code) (us vs : List Nameless)
    → BranchesHave p ks gs s (branches_of xs None) us → BranchesHave p ks gs s (branches_of [] other) vs → BranchesHave p ks gs s (branches_of xs other) (us ++ vs)
branches_join p ks gs s [] other us vs h k = subst (λ (l : List Nameless). BranchesHave p ks gs s (branches_of [] other) (l ++ vs)) (sym h) k
branches_join p ks gs s (x ∷ xs) other us vs h k = (h.0, h.1 ++ vs, ap (λ l. l ++ vs) h.2, h.3, branches_join p ks gs s xs other h.1 vs h.4 k)

pub nodes_join : (xs : List Branch) (other : Option Code) → nodes_chosen (branches_of xs other) ≡ nodes_chosen (branches_of xs None) + nodes_chosen (branches_of [] other)
nodes_join [] other = omega arith
nodes_join (x ∷ xs) other = let e = nodes_join xs other in omega arith

fail_after : (p : Program) (ks : Kinds) (gs : Types_of) (s : Nameless) (n : ℕ) (xs : List Branch) (other : Option Code) (us : List Nameless) (f : Fault)
    → BranchesHave p ks gs s (branches_of xs None) us → BranchFails p ks gs s (n + nodes_chosen (branches_of xs None)) (branches_of [] other) f
    → BranchFails p ks gs s n (branches_of xs other) f
fail_after p ks gs s n [] other us f h w = subst (λ (m : ℕ). BranchFails p ks gs s m (branches_of [] other) f) (omega arith) w
fail_after p ks gs s n (x ∷ xs) other us f h w =
    inr (h.0, h.3, fail_after p ks gs s (n + nodes_branch x) xs other h.1 f h.4 (subst (λ (m : ℕ). BranchFails p ks gs s m (branches_of [] other) f) (omega arith) w))

-- the types of results, with that of `else` behind those of the alternatives
abbrev pub Else : Program → Scope → Option Code → List Nameless → List Nameless → Type 0
Else p at other us ws = (vs : List Nameless) × (ws ≡ us ++ vs) × ((s : Nameless) → BranchesHave p at.kinds (vars_of at.vars) s (branches_of [] other) vs)

all_have : (p : Program) (old s1 s2 : Scope) (s : Nameless) (xs : List Branch) (other : Option Code) (us ws : List Nameless) → s1 ≡ old → s2 ≡ s1
    → BranchesHave p s1.kinds (vars_of s1.vars) s (branches_of xs None) us → Else p s2 other us ws → BranchesHave p old.kinds (vars_of old.vars) s (branches_of xs other) ws
all_have p old s1 s2 s xs other us ws e1 e2 h k =
    subst (λ (l : List Nameless). BranchesHave p old.kinds (vars_of old.vars) s (branches_of xs other) l) (sym k.1)
    (branches_join p old.kinds (vars_of old.vars) s xs other us k.0 (again (λ ks gs. BranchesHave p ks gs s (branches_of xs None) us) old s1 e1 h)
    (again (λ ks gs. BranchesHave p ks gs s (branches_of [] other) k.0) old s2 (e2 ∙ e1) (k.2 s)))

pub case_has : (p : Program) (old s1 s2 s3 : Scope) (e : Code) (ty : Nameless) (xs : List Branch) (other : Option Code) (s r : Nameless) (us ws : List Nameless)
    → s1 ≡ old → s2 ≡ s1 → s3 ≡ s2 → Has p old e s → BranchesHave p s1.kinds (vars_of s1.vars) s (branches_of xs None) us → Else p s2 other us ws
    → IsCase p s3.kinds s ty (branches_of xs other) → r ≡ placed s3.kinds ty → repeated r ws ≡ ws → Has p old (a_case e ty (branches_of xs other)) r
case_has p old s1 s2 s3 e ty xs other s r us ws e1 e2 e3 typed h k is made same =
    let back : s3 ≡ old = e3 ∙ e2 ∙ e1 in
    let rule : IsCase p old.kinds s ty (branches_of xs other) = subst (λ (z : Scope). IsCase p z.kinds s ty (branches_of xs other)) back is in
    let results = all_have p old s1 s2 s xs other us ws e1 e2 h k in (
      s,
      typed,
      rule.0,
      subst (λ (z : Scope). r ≡ placed z.kinds ty) back made,
      rule.1,
      all_give p old.kinds (vars_of old.vars) s r (branches_of xs other) ws results rule.2 same,
      rule.3,
    )

-- the result of an alternative has a fault
pub case_second : (p : Program) (old s1 : Scope) (n m : ℕ) (e : Code) (ty : Nameless) (xs : List Branch) (other : Option Code) (s : Nameless) (stop : Stop) → s1 ≡ old → Has p old e s
    → m ≡ n + nodes e → Blames stop (BranchFails p s1.kinds (vars_of s1.vars) s m (branches_of xs None)) → Blames stop (Faulty p old n (a_case e ty (branches_of xs other)))
case_second p old s1 n m e ty xs other s stop e1 typed is h =
    blames_more stop (BranchFails p s1.kinds (vars_of s1.vars) s m (branches_of xs None)) (Faulty p old n (a_case e ty (branches_of xs other)))
    (λ f w. inr (inl (
      s,
      typed,
      fail_before_else p old.kinds (vars_of old.vars) s (n + nodes e) xs other f
          (subst (λ (c : ℕ). BranchFails p old.kinds (vars_of old.vars) s c (branches_of xs None) f) is
          (again (λ ks gs. BranchFails p ks gs s m (branches_of xs None) f) old s1 e1 w)),
    ))) h

-- that of `else` has one
pub case_third : (p : Program) (old s1 s2 : Scope) (n m k : ℕ) (e : Code) (ty : Nameless) (xs : List Branch) (other : Option Code) (s : Nameless) (us : List Nameless) (stop : Stop)
    → s1 ≡ old → s2 ≡ s1 → Has p old e s → m ≡ n + nodes e → BranchesHave p s1.kinds (vars_of s1.vars) s (branches_of xs None) us
    → k ≡ m + nodes_chosen (branches_of xs None) → Blames stop (λ f. (t : Nameless) → BranchFails p s2.kinds (vars_of s2.vars) t k (branches_of [] other) f)
    → Blames stop (Faulty p old n (a_case e ty (branches_of xs other)))
case_third p old s1 s2 n m k e ty xs other s us stop e1 e2 typed is h more d =
    blames_more stop (λ f. (t : Nameless) → BranchFails p s2.kinds (vars_of s2.vars) t k (branches_of [] other) f) (Faulty p old n (a_case e ty (branches_of xs other)))
    (λ f w. inr (inl (
      s,
      typed,
      fail_after p old.kinds (vars_of old.vars) s (n + nodes e) xs other us f (again (λ ks gs. BranchesHave p ks gs s (branches_of xs None) us) old s1 e1 h)
          (subst (λ (c : ℕ). BranchFails p old.kinds (vars_of old.vars) s c (branches_of [] other) f) (more ∙ ap (λ c. c + nodes_chosen (branches_of xs None)) is)
          (again (λ ks gs. BranchFails p ks gs s k (branches_of [] other) f) old s2 (e2 ∙ e1) (w s))),
    ))) d

-- the rule of the case fails
pub case_outer : (p : Program) (old s1 s2 s3 : Scope) (n m : ℕ) (e : Code) (ty : Nameless) (xs : List Branch) (other : Option Code) (s : Nameless) (us ws : List Nameless) (stop : Stop)
    → s1 ≡ old → s2 ≡ s1 → s3 ≡ s2 → Has p old e s → BranchesHave p s1.kinds (vars_of s1.vars) s (branches_of xs None) us → Else p s2 other us ws
    → m ≡ n + nodes e + nodes_chosen (branches_of xs other) → Blames stop (CaseFails p s3.kinds s ty (branches_of xs other) ws m)
    → Blames stop (Faulty p old n (a_case e ty (branches_of xs other)))
case_outer p old s1 s2 s3 n m e ty xs other s us ws stop e1 e2 e3 typed h k is d =
    blames_more stop (CaseFails p s3.kinds s ty (branches_of xs other) ws m) (Faulty p old n (a_case e ty (branches_of xs other)))
    (λ f w. inr (inr (
      s,
      ws,
      typed,
      all_have p old s1 s2 s xs other us ws e1 e2 h k,
      subst₂ (λ (z : Scope) (c : ℕ). CaseFails p z.kinds s ty (branches_of xs other) ws c f) (e3 ∙ e2 ∙ e1) is w,
    ))) d
