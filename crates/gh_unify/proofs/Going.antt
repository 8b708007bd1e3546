-- The loop that solves one equation.
use Rattle.std.proofs.Common.{◌≡◌, ℕ, ◌<◌, List, length, Option, Some, None, Result, Ok, Err, refl, sym, ap, ◌∙◌, subst, inl, inr, arith}
use Rattle.std.specs.Prelude.{MatchOption, MatchResult}
use Rattle.gh_typeterm.specs.declared.ty.TyNode.{TyNode}
use Rattle.gh_unify.specs.Types.{Mono, var, app, inst, has, mono}
use Rattle.gh_unify.specs.Kept.{AreDrawn, Eqs, Drawn, is_rigid, drawn_of, eqs_of}
use Rattle.gh_unify.specs.Causes.{Forced, IsFixed, Differ}
use Rattle.gh_unify.specs.Causes.Forced.{given, stated, same, turned, through, heads, args, applied}
use Rattle.gh_unify.specs.Tables.{best, value_of, open_in}
use Rattle.gh_unify.specs.Steps.{IsFree, AreFree, IsTidy, Differs, Sides, IsBound, Reaches, Reached, Refused, Blocked, Goes}
use Rattle.gh_unify.specs.declared.table.Variable.{Variable}
use Rattle.gh_unify.specs.declared.unifier.UnifyFault.{UnifyFault}
use Rattle.gh_unify.specs.declared.unifier.UnifyFault.TheVariants.{Clash, Occurs, Escapes, TooLarge, NoMemory}
use Rattle.gh_unify.proofs.Insts.{eqb-same}
use Rattle.gh_unify.proofs.Solved.{put, first_reaches, next_reaches, last_reaches, forced_inst, read_free, factors_all}
use Rattle.gh_unify.proofs.Tables.{drawn_length, drawn_solved, eqs_solved, open_solved}

pub goes_first : (table : List Variable) (left right : TyNode) → IsTidy (eqs_of table) (drawn_of table) → AreFree table left → AreFree table right
    → Goes table table left right left right
goes_first table left right tidy l r = record {
  drawn = refl;
  reaches = first_reaches (eqs_of table) (drawn_of table) (mono left) (mono right) tidy l r;
}

same_length : (table kept : List Variable) → drawn_of kept ≡ drawn_of table → length kept ≡ length table
same_length table kept e = sym (drawn_length kept) ∙ ap length e ∙ drawn_length table

in_kept : (table kept : List Variable) (v : ℕ) → drawn_of kept ≡ drawn_of table → v < length (drawn_of table) → v < length kept
in_kept table kept v e h = let a = drawn_length kept in let b : length (drawn_of kept) ≡ length (drawn_of table) = ap length e in omega (arith, a, b, h)

pub goes_left : (table kept : List Variable) (left right a b x y : TyNode) → Goes table kept left right a b → Differs (mono a) (mono b) (mono x) (mono y) → AreDrawn kept x
goes_left table kept left right a b x y g d v m = in_kept table kept v g.drawn (g.reaches.left v (d.left v m)).1

pub goes_right : (table kept : List Variable) (left right a b x y : TyNode) → Goes table kept left right a b → Differs (mono a) (mono b) (mono x) (mono y) → AreDrawn kept y
goes_right table kept left right a b x y g d v m = in_kept table kept v g.drawn (g.reaches.right v (d.right v m)).1

-- what is known of the two sides of a pair
abbrev SideFacts : List Variable → List Variable → TyNode → TyNode → ℕ → TyNode → Type 0
SideFacts table kept left right v u =
    (eqs_of kept v ≡ None) × IsFree (eqs_of kept) (drawn_of table) (mono u) × Forced (eqs_of table) (mono left) (mono right) (var v) (mono u)

side_facts : (table kept : List Variable) (left right a b x y : TyNode) (v : ℕ) (u : TyNode)
    → Goes table kept left right a b → Differs (mono a) (mono b) (mono x) (mono y) → Sides x y v u → SideFacts table kept left right v u
side_facts table kept left right a b x y v u g d (inl s) =
    let f = d.forced (eqs_of table) (mono left) (mono right) g.reaches.given in (
      (g.reaches.left v (d.left v (ap (has v) s.0 ∙ eqb-same v))).0,
      subst (IsFree (eqs_of kept) (drawn_of table)) s.1 (λ w m. g.reaches.right w (d.right w m)),
      subst (λ z. Forced (eqs_of table) (mono left) (mono right) z (mono u)) s.0 (subst (Forced (eqs_of table) (mono left) (mono right) (mono x)) s.1 f),
    )
side_facts table kept left right a b x y v u g d (inr s) =
    let f = turned (mono x) (mono y) (d.forced (eqs_of table) (mono left) (mono right) g.reaches.given) in (
      (g.reaches.right v (d.right v (ap (has v) s.0 ∙ eqb-same v))).0,
      subst (IsFree (eqs_of kept) (drawn_of table)) s.1 (λ w m. g.reaches.left w (d.left w m)),
      subst (λ z. Forced (eqs_of table) (mono left) (mono right) z (mono u)) s.0 (subst (Forced (eqs_of table) (mono left) (mono right) (mono y)) s.1 f),
    )

-- the variables of the equation are drawn in the new table too
pub made_left : (table kept made : List Variable) (left right a b x y : TyNode) → Goes table kept left right a b → IsBound kept x y made → AreDrawn made a
made_left table kept made left right a b x y g h v m =
    in_kept table made v (ap drawn_of h.6 ∙ drawn_solved kept h.0 h.1 ∙ g.drawn) (g.reaches.left v m).1

pub made_right : (table kept made : List Variable) (left right a b x y : TyNode) → Goes table kept left right a b → IsBound kept x y made → AreDrawn made b
made_right table kept made left right a b x y g h v m =
    in_kept table made v (ap drawn_of h.6 ∙ drawn_solved kept h.0 h.1 ∙ g.drawn) (g.reaches.right v m).1

pub goes_next : (table kept made : List Variable) (left right a b x y a' b' : TyNode) → Goes table kept left right a b
    → Differs (mono a) (mono b) (mono x) (mono y) → IsBound kept x y made
    → mono a' ≡ inst (best (eqs_of made)) (mono a) → mono b' ≡ inst (best (eqs_of made)) (mono b) → Goes table made left right a' b'
goes_next table kept made left right a b x y a' b' g d h ea eb =
    let v : ℕ = h.0 in
    let u : TyNode = h.1 in
    let f = side_facts table kept left right a b x y v u g d h.2 in
    let D : Drawn = drawn_of table in
    let e : eqs_of made ≡ put (eqs_of kept) v (mono u) = ap eqs_of h.6 ∙ eqs_solved kept v u h.3 in
    let P : Eqs → Type 0 = λ E. Reaches (eqs_of table) D (mono left) (mono right) E (mono a') (mono b') in
    record {
      drawn = ap drawn_of h.6 ∙ drawn_solved kept v u ∙ g.drawn;
      reaches = subst P (sym e)
          (next_reaches (eqs_of table) D (mono left) (mono right) (eqs_of kept) (mono a) (mono b) v (mono u) (mono a') (mono b') g.reaches
          f.1 h.5 (ap (λ (z : Drawn). is_rigid z v) (sym g.drawn) ∙ h.4) f.0 f.2
          (ea ∙ ap (λ E. inst (best E) (mono a)) e) (eb ∙ ap (λ E. inst (best E) (mono b)) e));
    }

pub goes_smaller : (table kept made : List Variable) (left right a b x y : TyNode) → Goes table kept left right a b
    → Differs (mono a) (mono b) (mono x) (mono y) → IsBound kept x y made → open_in made < open_in kept
goes_smaller table kept made left right a b x y g d h =
    let f = side_facts table kept left right a b x y h.0 h.1 g d h.2 in
    subst (λ m. open_in m < open_in kept) (sym h.6) (open_solved kept h.0 h.1 h.3 f.0)

pub goes_done : (table kept : List Variable) (left right a b : TyNode) → Goes table kept left right a b → mono a ≡ mono b → Reached table left right kept
goes_done table kept left right a b g e =
    last_reaches (eqs_of table) (drawn_of table) (mono left) (mono right) (eqs_of kept) (mono a) (mono b) g.reaches e

fixed_in : (D D' : Drawn) (t : Mono) → D ≡ D' → IsFixed D t → IsFixed D' t
fixed_in D D' t e h = subst (λ z. IsFixed z t) e h

pub goes_refused : (fault : UnifyFault) (table kept : List Variable) (left right a b x y : TyNode) → Goes table kept left right a b
    → Differs (mono a) (mono b) (mono x) (mono y) → Refused fault kept x y → Blocked fault table left right
goes_refused (Clash l r) table kept left right a b x y g d h =
    let f = d.forced (eqs_of table) (mono left) (mono right) g.reaches.given in
    let P : TyNode → TyNode → Type 0 = λ p q. Forced (eqs_of table) (mono left) (mono right) (mono p) (mono q) × Differ (drawn_of table) (mono p) (mono q) in
    subst (λ p. P p r) (sym h.0) (subst (P x) (sym h.1)
    (f, (fixed_in (drawn_of kept) (drawn_of table) (mono x) g.drawn h.2, fixed_in (drawn_of kept) (drawn_of table) (mono y) g.drawn h.3, d.heads)))
goes_refused (Occurs v t) table kept left right a b x y g d h =
    ((side_facts table kept left right a b x y v t g d h.0).2, h.1, h.2)
goes_refused (Escapes r v) table kept left right a b x y g d h = h
goes_refused (TooLarge v) table kept left right a b x y g d h = h
goes_refused NoMemory table kept left right a b x y g d h = h

-- an equation of read types
pub forced_from : (E : Eqs) (a b a' b' s t : Mono) → Forced E a b a' b' → Forced E a' b' s t → Forced E a b s t
forced_from E a b a' b' _ _ f given = f
forced_from E a b a' b' _ _ f (stated v t k) = stated v t k
forced_from E a b a' b' _ _ f (same s) = same s
forced_from E a b a' b' _ _ f (turned s t p) = turned s t (forced_from E a b a' b' s t f p)
forced_from E a b a' b' _ _ f (through s t u p q) = through s t u (forced_from E a b a' b' s t f p) (forced_from E a b a' b' t u f q)
forced_from E a b a' b' _ _ f (heads g x h y p) = heads g x h y (forced_from E a b a' b' (app g x) (app h y) f p)
forced_from E a b a' b' _ _ f (args g x h y p) = args g x h y (forced_from E a b a' b' (app g x) (app h y) f p)
forced_from E a b a' b' _ _ f (applied g x h y p q) = applied g x h y (forced_from E a b a' b' g h f p) (forced_from E a b a' b' x y f q)

forced_best : (E : Eqs) (a b : Mono) (v : ℕ) (o : Option Mono) → E v ≡ o → Forced E a b (var v) (value_of o v)
forced_best E a b v None e = same (var v)
forced_best E a b v (Some t) e = stated v t e

read_forced : (E : Eqs) (a b a' b' : Mono) → a' ≡ inst (best E) a → b' ≡ inst (best E) b → Forced E a b a' b'
read_forced E a b a' b' ea eb =
    subst (λ z. Forced E a b z b') (sym ea) (subst (λ z. Forced E a b (inst (best E) a) z) (sym eb)
    (through (inst (best E) a) a (inst (best E) b) (turned a (inst (best E) a) (forced_inst E a b (best E) a (λ v. forced_best E a b v (E v) refl)))
    (through a b (inst (best E) b) given (forced_inst E a b (best E) b (λ v. forced_best E a b v (E v) refl)))))

pub read_reached : (table made end : List Variable) (a b left right : TyNode) → IsTidy (eqs_of table) (drawn_of table) → made ≡ table
    → mono left ≡ inst (best (eqs_of table)) (mono a) → mono right ≡ inst (best (eqs_of table)) (mono b)
    → Reached made left right end → Reached table a b end
read_reached table made end a b left right tidy em ea eb reached =
    let E : Eqs = eqs_of table in
    let D : Drawn = drawn_of table in
    let r : Reached table left right end = subst (λ m. Reached m left right end) em reached in
    let f = read_forced E (mono a) (mono b) (mono left) (mono right) ea eb in
    record {
      tidy = r.tidy;
      kept = λ v t e. forced_from E (mono a) (mono b) (mono left) (mono right) (var v) t f (r.kept v t e);
      back = λ ρ s.
          let k = r.back ρ s in
          (k.0, sym (factors_all E D ρ tidy k.0 (mono a)) ∙ ap (inst ρ) (sym ea) ∙ k.1 ∙ ap (inst ρ) eb ∙ factors_all E D ρ tidy k.0 (mono b));
    }

blocked_from : (fault : UnifyFault) (table : List Variable) (a b left right : TyNode) → Forced (eqs_of table) (mono a) (mono b) (mono left) (mono right)
    → Blocked fault table left right → Blocked fault table a b
blocked_from (Clash l r) table a b left right f h = (forced_from (eqs_of table) (mono a) (mono b) (mono left) (mono right) (mono l) (mono r) f h.0, h.1)
blocked_from (Occurs v t) table a b left right f h = (forced_from (eqs_of table) (mono a) (mono b) (mono left) (mono right) (var v) (mono t) f h.0, h.1, h.2)
blocked_from (Escapes r v) table a b left right f h = h
blocked_from (TooLarge v) table a b left right f h = h
blocked_from NoMemory table a b left right f h = h

pub read_blocked : (fault : UnifyFault) (table made : List Variable) (a b left right : TyNode) → made ≡ table
    → mono left ≡ inst (best (eqs_of table)) (mono a) → mono right ≡ inst (best (eqs_of table)) (mono b)
    → Blocked fault made left right → Blocked fault table a b
read_blocked fault table made a b left right em ea eb h =
    blocked_from fault table a b left right (read_forced (eqs_of table) (mono a) (mono b) (mono left) (mono right) ea eb)
    (subst (λ m. Blocked fault m left right) em h)

pub read_are_free : (table made : List Variable) (a left : TyNode) → IsTidy (eqs_of table) (drawn_of table) → AreDrawn table a → made ≡ table
    → mono left ≡ inst (best (eqs_of table)) (mono a) → AreFree made left
read_are_free table made a left tidy h em e =
    let k = drawn_length table in
    subst (λ m. AreFree m left) (sym em) (subst (IsFree (eqs_of table) (drawn_of table)) (sym e)
    (read_free (eqs_of table) (drawn_of table) (mono a) tidy (λ v m. let z = h v m in omega (arith, k, z))))

pub found_pair : (o : Option (TyNode × TyNode)) (a b x y : TyNode) → o ≡ Some (x, y) → MatchOption o (mono a ≡ mono b) (λ p. Differs (mono a) (mono b) (mono p.0) (mono p.1))
    → Differs (mono a) (mono b) (mono x) (mono y)
found_pair o a b x y e m = subst (λ (o : Option (TyNode × TyNode)). MatchOption o (mono a ≡ mono b) (λ p. Differs (mono a) (mono b) (mono p.0) (mono p.1))) e m

pub all_refused : {T E : Type 0} (r : Result T E) (P Q : E → Type 0) → ((e : E) → P e → Q e) → MatchResult r (λ _. Unit {0}) P → MatchResult r (λ _. Unit {0}) Q
all_refused (Ok x) P Q f h = tt
all_refused (Err e) P Q f h = f e h
