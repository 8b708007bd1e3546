-- A term has at most one type.
use Rattle.std.proofs.Common.{◌≡◌, ◌∷◌, ◌++◌, length, Option, Some, None, sym, ap, ◌∙◌}
use Rattle.gh_core.specs.Primitives.{Primitive, error, unary, binary, named, primitives}
use Rattle.gh_core.specs.SameType.{Nameless, bound, free, con, applied, forall, any}
use Rattle.gh_core.specs.Typing.{Code, a_var, a_global, a_con, an_int, a_char, a_string, a_prim, a_lam, an_app, a_tylam, a_tyapp, a_letrec, a_case, a_stop, Kinds, Types_of, Program, PrimHas, arrow, placed, opened, closed_over, bound_types, HasType}

abbrev argument : Nameless → Nameless
argument (bound i) = bound i
argument (free l) = free l
argument (con c) = con c
argument (applied f x) = x
argument (forall k b) = b
argument (any k) = any k

some_is : {X : Type 0} (o : Option X) (x y : X) → o ≡ Some x → o ≡ Some y → x ≡ y
some_is o x y h k = cc

one_prim : (p : Program) (ks : Kinds) (q : Option Primitive) (ty : Option Nameless) (t u : Nameless) → PrimHas p ks q ty t → PrimHas p ks q ty u → t ≡ u
one_prim p ks None ty t u h k = absurd h
one_prim p ks (Some error) None t u h k = absurd h
one_prim p ks (Some error) (Some a) t u h k = h.1 ∙ sym k.1
one_prim p ks (Some (unary o)) None t u h k = h ∙ sym k
one_prim p ks (Some (unary o)) (Some a) t u h k = absurd h
one_prim p ks (Some (binary o)) None t u h k = h ∙ sym k
one_prim p ks (Some (binary o)) (Some a) t u h k = absurd h

pub one_type : (p : Program) (ks : Kinds) (gs : Types_of) (e : Code) (t u : Nameless) → HasType p ks gs e t → HasType p ks gs e u → t ≡ u
one_type p ks gs (a_var x) t u h k = some_is _ t u h k
one_type p ks gs (a_global name) t u h k = some_is _ t u h k
one_type p ks gs (a_con c) t u h k = some_is _ t u h k
one_type p ks gs (an_int n) t u h k = h ∙ sym k
one_type p ks gs (a_char c) t u h k = h ∙ sym k
one_type p ks gs (a_string cs) t u h k = h ∙ sym k
one_type p ks gs (a_prim o place ty) t u h k = one_prim p ks (named primitives o) ty t u h k
one_type p ks gs (a_lam x ty body) t u h k =
    h.3 ∙ ap (arrow (placed ks ty)) (one_type p ks ((x, Some (placed ks ty)) ∷ gs) body h.0 k.0 h.2 k.2) ∙ sym k.3
one_type p ks gs (an_app f e) t u h k = ap argument (one_type p ks gs f (arrow h.0 t) (arrow k.0 u) h.1 k.1)
one_type p ks gs (a_tylam x κ body) t u h k =
    h.2 ∙ ap (λ v. forall κ (closed_over (length ks) 0 v)) (one_type p ((x, κ) ∷ ks) gs body h.0 k.0 h.1 k.1) ∙ sym k.2
one_type p ks gs (a_tyapp f ty) t u h k =
    h.4 ∙ ap (opened 0 (placed ks ty)) (ap argument (one_type p ks gs f (forall h.0 h.1) (forall k.0 k.1) h.2 k.2)) ∙ sym k.4
one_type p ks gs (a_letrec bs body) t u h k = one_type p ks (bound_types ks bs ++ gs) body t u h.1 k.1
one_type p ks gs (a_case e ty bs) t u h k = h.3 ∙ sym k.3
one_type p ks gs (a_stop place ty) t u h k = h.1 ∙ sym k.1
