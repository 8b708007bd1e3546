-- The rules of a case and of recursive bindings.
use Rattle.std.proofs.Common.{◌≡◌, ℕ, ◌+◌, ◌<◌, true, List, [], ◌∷◌, ◌++◌, map, take, length, get_or, Option, Some, None, refl, sym, ap, subst, ◌∙◌, inl, arith}
use Rattle.std.proofs.lemmas.List.{take_more, map-append}
use Rattle.std.specs.Prelude.{◌↔◌, IsTrue}
use Rattle.gh_typeterm.specs.declared.kind.Kind.TheVariants as kind
use Rattle.gh_typeterm.specs.declared.decl.DeclData.{DeclData}
use Rattle.gh_core.specs.SameType.{Nameless}
use Rattle.gh_core.specs.Typing.{Bindings, no_binding, binding, Branch, Code, Kinds, Program, branches_of, has_else, HasKind, IsCovered}
use Rattle.gh_core_lint.specs.declared.types.Node.{Node}
use Rattle.gh_core_lint.specs.Faults.{written, AllFit, AreValues}
use Rattle.gh_core_lint.specs.Kinds.{AreStars}
use Rattle.gh_core_lint.specs.Types.{type_at}

else_there : (xs : List Branch) (t : Code) → has_else (branches_of xs (Some t)) ≡ true
else_there [] t = refl
else_there (x ∷ xs) t = else_there xs t

-- a case with an `else` goes on
pub else_covers : (decls : List DeclData) (s : Nameless) (xs : List Branch) (t : Code) → IsTrue true ↔ IsCovered decls s (branches_of xs (Some t))
else_covers decls s xs t = (λ y. inl (else_there xs t), λ w. refl)

-- the `else` plays no part where alternatives fit
pub fit_else : (p : Program) (s : Nameless) (xs : List Branch) (o : Option Code) → AllFit p s (branches_of xs None) → AllFit p s (branches_of xs o)
fit_else p s [] None h = tt
fit_else p s [] (Some t) h = tt
fit_else p s (x ∷ xs) o h = (h.0, fit_else p s xs o h.1)

pub fit_alone : (p : Program) (s : Nameless) (xs : List Branch) (o : Option Code) → AllFit p s (branches_of xs o) → AllFit p s (branches_of xs None)
fit_alone p s [] o h = tt
fit_alone p s (x ∷ xs) o h = (h.0, fit_alone p s xs o h.1)

stars_append : (decls : List DeclData) (ks : Kinds) (ts : List Nameless) (t : Nameless) → AreStars decls ks ts → HasKind decls ks [] t kind.Star → AreStars decls ks (ts ++ t ∷ [])
stars_append decls ks [] t h k = (k, tt)
stars_append decls ks (x ∷ ts) t h k = (h.0, stars_append decls ks ts t h.1 k)

-- one type more that is of values
pub stars_more : (decls : List DeclData) (ks : Kinds) (ts : List Node) (i : ℕ) (t : Node) → i < length ts → t ≡ get_or ts i t → AreStars decls ks (map type_at (take i ts))
    → HasKind decls ks [] (type_at t) kind.Star → AreStars decls ks (map type_at (take (i + 1) ts))
stars_more decls ks ts i t lt is h k =
    subst (AreStars decls ks)
    (sym (ap (map type_at) (take_more ts i t lt) ∙ map-append type_at (take i ts) (get_or ts i t ∷ []) ∙ ap (λ x. map type_at (take i ts) ++ type_at x ∷ []) (sym is)))
    (stars_append decls ks (map type_at (take i ts)) (type_at t) h k)

pub star_one : (decls : List DeclData) (ks : Kinds) (ts : List Node) (i : ℕ) (d : Node) → i < length ts → AreStars decls ks (map type_at ts) → HasKind decls ks [] (type_at (get_or ts i d)) kind.Star
star_one decls ks [] i d lt h = absurd (omega arith)
star_one decls ks (t ∷ ts) ℕ.zero d lt h = h.0
star_one decls ks (t ∷ ts) (ℕ.suc i) d lt h = star_one decls ks ts i d (omega arith) h.1

-- the written types of bindings are of values
pub stars_values : (p : Program) (ks : Kinds) (bs : Bindings) → AreStars p.decls ks (written ks bs) → AreValues p ks bs
stars_values p ks no_binding h = tt
stars_values p ks (binding x ty t rest) h = (h.0, stars_values p ks rest h.1)

pub values_stars : (p : Program) (ks : Kinds) (bs : Bindings) → AreValues p ks bs → AreStars p.decls ks (written ks bs)
values_stars p ks no_binding h = tt
values_stars p ks (binding x ty t rest) h = (h.0, values_stars p ks rest h.1)
