-- What pairs of conversions are made of is typed: one conversion chosen, a pair, the identity, and the pair at the arrow.
use Rattle.std.proofs.Common.{◌≡◌, ℕ, zero, suc, ◌+◌, cond, ◌==◌, inl, inr, List, [], ◌∷◌, ◌++◌, length, map, reverse, Some, refl, sym, ap, ◌∙◌, subst, arith}
use Rattle.gh_base.specs.declared.fixed.TheConstants.{EP}
use Rattle.gh_base.specs.declared.place.TyCon.TheVariants as tycon
use Rattle.gh_typeterm.specs.declared.kind.Kind.{Kind}
use Rattle.gh_typeterm.specs.declared.kind.Kind.TheVariants as kind
use Rattle.gh_typeterm.specs.declared.ty.TyNode.{TyNode}
use Rattle.gh_typeterm.specs.declared.ty.TyNode.TheVariants as ty
use Rattle.gh_typeterm.proofs.Folds.{fold-Con, fold-Var, fold-App}
use Rattle.gh_core.specs.SameType.{Nameless, bound, free, con, applied, forall}
use Rattle.gh_core.specs.Typing.{Program, Kinds, Types_of, Code, a_var, a_lam, an_app, a_tylam, a_tyapp, Branch, con_branch, branches_of, placed, opened, closed_over, arrow, prelude_type, con_type_of, con_of, field_step, field_type, fields_at, at_types, var_type, paired, HasKind, HasType, IsValueType, IsData}
use Rattle.gh_kind_index.specs.Laws.{opened_at}
use Rattle.gh_adapt.specs.declared.ways.Way.{Way}
use Rattle.gh_adapt.specs.declared.ways.Way.TheVariants.{Forth, Back}
use Rattle.gh_adapt.specs.Pairs.{ep, picked}
use Rattle.gh_adapt.specs.TypedPairs.{ep_type, pair_code, way_type, select_code, id_code, arrow_side_code, arrow_code}
use Rattle.gh_adapt_laws.specs.PairTypes.{HasPairs, ep_data, ep_con, function_of_two}
use Rattle.gh_adapt.proofs.Placing.{kinded_opened}
use Rattle.gh_adapt.proofs.Shapes.{con_two, first_of_two, second_of_two}
use Rattle.gh_adapt_laws.proofs.PairKinds.{origin_self, kind_at_more, kind_last, kind_below, kind_bound, ep_at, under_two, ep_star, ep_arrow, ep_given, ep_type_kind}

-- ---- the constructor of pairs

function_field : (a b : TyNode) (u v : Nameless) → field_type 2 a ≡ u → field_type 2 b ≡ v → field_type 2 (function_of_two a b) ≡ arrow u v
function_field a b u v ea eb =
    fold-App Nameless (field_step 2) (ty.App (ty.Con tycon.Arrow) a) b
    ∙ (λ i. applied ((fold-App Nameless (field_step 2) (ty.Con tycon.Arrow) a ∙ (λ j. applied (fold-Con Nameless (field_step 2) tycon.Arrow j) (ea j))) i) (eb i))

forth_field : field_type 2 (function_of_two (ty.Var 0) (ty.Var 1)) ≡ arrow (bound 1) (bound 0)
forth_field = function_field (ty.Var 0) (ty.Var 1) (bound 1) (bound 0) first_of_two second_of_two

back_field : field_type 2 (function_of_two (ty.Var 1) (ty.Var 0)) ≡ arrow (bound 0) (bound 1)
back_field = function_field (ty.Var 1) (ty.Var 0) (bound 0) (bound 1) second_of_two first_of_two

abbrev of_pair : Nameless
of_pair = arrow (arrow (bound 1) (bound 0)) (arrow (arrow (bound 0) (bound 1)) (ep_type (bound 1) (bound 0)))

pair_is : (p : Program) → HasPairs p → con_type_of (con_of p.decls ep) ≡ Some (forall kind.Star (forall kind.Star of_pair))
pair_is p known =
    ap con_type_of known.pair ∙ (λ i. Some (forall kind.Star (forall kind.Star (arrow (forth_field i) (arrow (back_field i) (ep_type (bound 1) (bound 0)))))))

pair_fields : (a b : Nameless) → fields_at (ep_data, ep_con) (a ∷ b ∷ []) ≡ arrow a b ∷ arrow b a ∷ []
pair_fields a b = λ i. at_types (b ∷ a ∷ []) (forth_field i) ∷ at_types (b ∷ a ∷ []) (back_field i) ∷ []

of_pairs : (p : Program) → HasPairs p → (a b : Nameless) → IsData p.decls (ep_type a b) ep_data (a ∷ b ∷ [])
of_pairs p known a b = record { there = known.there; type = refl; whole = refl }

-- a pair of two conversions
pub pair_typed : (p : Program) (ks : Kinds) (gs : Types_of) (a b u v : Nameless) (f g : Code) → HasPairs p → placed ks a ≡ u → placed ks b ≡ v
    → HasKind p.decls ks [] u kind.Star → HasKind p.decls ks [] v kind.Star → HasType p ks gs f (arrow u v) → HasType p ks gs g (arrow v u)
    → HasType p ks gs (pair_code a b f g) (ep_type u v)
pair_typed p ks gs a b u v f g known ea eb ku kv hf hg = (
  arrow v u,
  (
    arrow u v,
    con_two p ks gs ep of_pair a b u v (arrow (arrow u v) (arrow (arrow v u) (ep_type u v))) (pair_is p known) ea eb ku kv
        (ap (λ z. arrow (arrow z v) (arrow (arrow v z) (ep_type z v))) (kinded_opened p.decls ks [] u kind.Star 0 v ku (omega arith))),
    hf,
  ),
  hg,
)

-- ---- one of a pair

way_placed : (ks : Kinds) (way : Way) (a b u v : Nameless) → placed ks a ≡ u → placed ks b ≡ v → placed ks (way_type way a b) ≡ way_type way u v
way_placed ks Forth a b u v ea eb = λ i. arrow (ea i) (eb i)
way_placed ks Back a b u v ea eb = λ i. arrow (eb i) (ea i)

way_kind : (p : Program) (ks : Kinds) (way : Way) (u v : Nameless) → HasKind p.decls ks [] u kind.Star → HasKind p.decls ks [] v kind.Star → HasKind p.decls ks [] (way_type way u v) kind.Star
way_kind p ks Forth u v ku kv = (kind.Star, (kind.Star, refl, ku), kv)
way_kind p ks Back u v ku kv = (kind.Star, (kind.Star, refl, kv), ku)

way_picked : (way : Way) (u v : Nameless) (gs : Types_of) → var_type ((0, Some (arrow u v)) ∷ (1, Some (arrow v u)) ∷ gs) (picked way) ≡ Some (way_type way u v)
way_picked Forth u v gs = refl
way_picked Back u v gs = refl

pub select_typed : (p : Program) (ks : Kinds) (gs : Types_of) (way : Way) (a b u v : Nameless) (m : Code) → HasPairs p → placed ks a ≡ u → placed ks b ≡ v
    → HasKind p.decls ks [] u kind.Star → HasKind p.decls ks [] v kind.Star → HasType p ks gs m (ep_type u v) → HasType p ks gs (select_code way a b m) (way_type way u v)
select_typed p ks gs way a b u v m known ea eb ku kv hm =
    let is = way_placed ks way a b u v ea eb in
    let of_ep = of_pairs p known u v in (
      ep_type u v,
      hm,
      subst (λ z. HasKind p.decls ks [] z kind.Star) (sym is) (way_kind p ks way u v ku kv),
      sym is,
      inl (ep_data, u ∷ v ∷ [], of_ep),
      (
        (
          (ep_data, ep_con),
          u ∷ v ∷ [],
          known.pair,
          of_ep,
          refl,
          subst (λ us. HasType p ks (paired (0 ∷ 1 ∷ []) us ++ gs) (a_var (picked way)) (way_type way u v)) (sym (pair_fields u v)) (way_picked way u v gs),
        ),
        tt,
      ),
      inr (ep_data, u ∷ v ∷ [], of_ep, (ap (λ b. cond b 1 0 + 0) (origin_self ep), tt)),
    )

-- ---- nothing is converted

pub id_typed : (p : Program) (ks : Kinds) (gs : Types_of) (a u : Nameless) → HasPairs p → placed ks a ≡ u → HasKind p.decls ks [] u kind.Star → HasType p ks gs (id_code a) (ep_type u u)
id_typed p ks gs a u known ea ku =
    let value : IsValueType p ks a = subst (λ z. HasKind p.decls ks [] z kind.Star) (sym ea) ku in
    let one : HasType p ks gs (a_lam 0 a (a_var 0)) (arrow u u) = (u, value, ap Some ea, ap (λ z. arrow z u) (sym ea)) in
    pair_typed p ks gs a a u u (a_lam 0 a (a_var 0)) (a_lam 0 a (a_var 0)) known ea ea ku ku one one

-- ---- at two types of any kind

-- a pair between two type functions of a kind, at two types
pub given_two : (p : Program) (ks : Kinds) (gs : Types_of) (m : Code) (k l : Kind) (f g a b u v : Nameless) → placed ks a ≡ u → placed ks b ≡ v
    → HasKind p.decls ks [] f (kind.Arrow k l) → HasKind p.decls ks [] g (kind.Arrow k l) → HasKind p.decls ks [] u k → HasKind p.decls ks [] v k
    → HasType p ks gs m (ep_at (length ks) (kind.Arrow k l) f g)
    → HasType p ks gs (a_tyapp (a_tyapp m a) b) (arrow (ep_at (length ks) k u v) (ep_at (length ks) l (applied f u) (applied g v)))
given_two p ks gs m k l f g a b u v ea eb kf kg ku kv hm =
    let n = length ks in
    let c = closed_over n 1 (closed_over (suc n) 0 (under_two n k l f g)) in
    let wide = closed_over n 0 (forall k (closed_over (suc n) 0 (under_two n k l f g))) in
    let whole : HasType p ks gs m (forall k wide) = subst (HasType p ks gs m) (ep_arrow n k l f g) hm in
    let is : arrow (ep_at n k u v) (ep_at n l (applied f u) (applied g v)) ≡ opened 0 (placed ks b) (opened 1 (placed ks a) c) =
    sym (ap (opened_at (u ∷ v ∷ [])) (sym (ep_arrow n k l f g))
    ∙ ep_given n k l f g u v
    (kind_below p.decls ks [] f (kind.Arrow k l) kf) (kind_below p.decls ks [] g (kind.Arrow k l) kg) (kind_below p.decls ks [] u k ku) (kind_below p.decls ks [] v k kv)
    (kind_bound p.decls ks [] f (kind.Arrow k l) kf) (kind_bound p.decls ks [] g (kind.Arrow k l) kg) (kind_bound p.decls ks [] u k ku) (kind_bound p.decls ks [] v k kv))
    ∙ sym (λ i. opened 0 (eb i) (opened 1 (ea i) c)) in (
      k,
      opened 1 (placed ks a) c,
      (k, wide, whole, subst (λ z. HasKind p.decls ks [] z k) (sym ea) ku, refl),
      subst (λ z. HasKind p.decls ks [] z k) (sym eb) kv,
      is,
    )

-- ---- the pair at the arrow

abbrev two_type : Nameless → Nameless → Nameless → Nameless → Nameless
two_type a b c d = ep_type (arrow a c) (arrow b d)

-- the type of the pair at the arrow, its variables having the numbers from n on
abbrev arrow_body : ℕ → Nameless
arrow_body n = two_type (free n) (free (suc n)) (free (suc (suc n))) (free (suc (suc (suc n))))

inner_is : (n : ℕ) (f g : Nameless)
    → ep_at n (kind.Arrow kind.Star kind.Star) f g
    ≡ forall kind.Star (closed_over n 0 (forall kind.Star (closed_over (suc n) 0 (arrow (ep_type (free n) (free (suc n))) (ep_type (applied f (free n)) (applied g (free (suc n))))))))
inner_is n f g =
    ep_arrow n kind.Star kind.Star f g
    ∙ (λ i. forall kind.Star (closed_over n 0 (forall kind.Star (closed_over (suc n) 0
    (arrow (ep_star (suc (suc n)) (free n) (free (suc n)) i) (ep_star (suc (suc n)) (applied f (free n)) (applied g (free (suc n))) i))))))

abbrev arrow_con : Nameless
arrow_con = con tycon.Arrow

abbrev inner_type : ℕ → Nameless
inner_type n =
    forall kind.Star (closed_over (suc (suc n)) 0 (forall kind.Star (closed_over (suc (suc (suc n))) 0
    (arrow (ep_type (free (suc (suc n))) (free (suc (suc (suc n))))) (arrow_body n)))))

whole_is : (n : ℕ)
    → ep_at n (kind.Arrow kind.Star (kind.Arrow kind.Star kind.Star)) arrow_con arrow_con
    ≡ forall kind.Star (closed_over n 0 (forall kind.Star (closed_over (suc n) 0 (arrow (ep_type (free n) (free (suc n))) (inner_type n)))))
whole_is n =
    ep_arrow n kind.Star (kind.Arrow kind.Star kind.Star) arrow_con arrow_con
    ∙ (λ i. forall kind.Star (closed_over n 0 (forall kind.Star (closed_over (suc n) 0
    (arrow (ep_star (suc (suc n)) (free n) (free (suc n)) i) (inner_is (suc (suc n)) (applied arrow_con (free n)) (applied arrow_con (free (suc n))) i))))))

-- the type variables and variables of the pair at the arrow, inside others
abbrev four : Kinds → Kinds
four ks = (3, kind.Star) ∷ (2, kind.Star) ∷ (1, kind.Star) ∷ (0, kind.Star) ∷ ks

abbrev both : ℕ → Types_of → Types_of
both n gs = (1, Some (ep_type (free (suc (suc n))) (free (suc (suc (suc n)))))) ∷ (0, Some (ep_type (free n) (free (suc n)))) ∷ gs

record Fours (p : Program) (ks : Kinds) : Type 0 where
  one : HasKind p.decls (four ks) [] (free (length ks)) kind.Star
  two : HasKind p.decls (four ks) [] (free (suc (length ks))) kind.Star
  three : HasKind p.decls (four ks) [] (free (suc (suc (length ks)))) kind.Star
  last : HasKind p.decls (four ks) [] (free (suc (suc (suc (length ks))))) kind.Star

fours : (p : Program) (ks : Kinds) → Fours p ks
fours p ks =
    let n = length ks in
    let k1 : Kinds = (0, kind.Star) ∷ ks in
    let k2 : Kinds = (1, kind.Star) ∷ k1 in
    let k3 : Kinds = (2, kind.Star) ∷ k2 in
    record {
      one = kind_at_more k3 3 kind.Star n kind.Star (kind_at_more k2 2 kind.Star n kind.Star (kind_at_more k1 1 kind.Star n kind.Star (kind_last ks 0 kind.Star)));
      two = kind_at_more k3 3 kind.Star (suc n) kind.Star (kind_at_more k2 2 kind.Star (suc n) kind.Star (kind_last k1 1 kind.Star));
      three = kind_at_more k3 3 kind.Star (suc (suc n)) kind.Star (kind_last k2 2 kind.Star);
      last = kind_last k3 3 kind.Star;
    }

arrow_kind : (p : Program) (ks : Kinds) (u v : Nameless) → HasKind p.decls ks [] u kind.Star → HasKind p.decls ks [] v kind.Star → HasKind p.decls ks [] (arrow u v) kind.Star
arrow_kind p ks u v ku kv = (kind.Star, (kind.Star, refl, ku), kv)

side_typed : (p : Program) (ks : Kinds) (gs : Types_of) (way : Way) → HasPairs p
    → HasType p (four ks) (both (length ks) gs) (arrow_side_code way)
    (way_type way (arrow (free (length ks)) (free (suc (suc (length ks))))) (arrow (free (suc (length ks))) (free (suc (suc (suc (length ks)))))))
side_typed p ks gs Forth known =
    let n = length ks in
    let fs = fours p ks in
    let k4 = four ks in
    let a = free n in
    let b = free (suc n) in
    let c = free (suc (suc n)) in
    let d = free (suc (suc (suc n))) in
    let inside : Types_of = (3, Some b) ∷ (2, Some (arrow a c)) ∷ both n gs in
    let argument : HasType p k4 inside (an_app (select_code Back (free 0) (free 1) (a_var 0)) (a_var 3)) a =
    (b, select_typed p k4 inside Back (free 0) (free 1) a b (a_var 0) known refl refl fs.one fs.two refl, refl) in
    let answer : HasType p k4 inside (an_app (a_var 2) (an_app (select_code Back (free 0) (free 1) (a_var 0)) (a_var 3))) c = (a, refl, argument) in
    let body : HasType p k4 inside (an_app (select_code Forth (free 2) (free 3) (a_var 1)) (an_app (a_var 2) (an_app (select_code Back (free 0) (free 1) (a_var 0)) (a_var 3)))) d =
    (c, select_typed p k4 inside Forth (free 2) (free 3) c d (a_var 1) known refl refl fs.three fs.last refl, answer) in
    (arrow b d, arrow_kind p k4 a c fs.one fs.three, (d, fs.two, body, refl), refl)
side_typed p ks gs Back known =
    let n = length ks in
    let fs = fours p ks in
    let k4 = four ks in
    let a = free n in
    let b = free (suc n) in
    let c = free (suc (suc n)) in
    let d = free (suc (suc (suc n))) in
    let inside : Types_of = (3, Some a) ∷ (2, Some (arrow b d)) ∷ both n gs in
    let argument : HasType p k4 inside (an_app (select_code Forth (free 0) (free 1) (a_var 0)) (a_var 3)) b =
    (a, select_typed p k4 inside Forth (free 0) (free 1) a b (a_var 0) known refl refl fs.one fs.two refl, refl) in
    let answer : HasType p k4 inside (an_app (a_var 2) (an_app (select_code Forth (free 0) (free 1) (a_var 0)) (a_var 3))) d = (b, refl, argument) in
    let body : HasType p k4 inside (an_app (select_code Back (free 2) (free 3) (a_var 1)) (an_app (a_var 2) (an_app (select_code Forth (free 0) (free 1) (a_var 0)) (a_var 3)))) c =
    (d, select_typed p k4 inside Back (free 2) (free 3) c d (a_var 1) known refl refl fs.three fs.last refl, answer) in
    (arrow a c, arrow_kind p k4 b d fs.two fs.last, (c, fs.one, body, refl), refl)

pub arrow_typed : (p : Program) (ks : Kinds) (gs : Types_of) → HasPairs p
    → HasType p ks gs arrow_code (ep_at (length ks) (kind.Arrow kind.Star (kind.Arrow kind.Star kind.Star)) arrow_con arrow_con)
arrow_typed p ks gs known =
    let n = length ks in
    let fs = fours p ks in
    let k4 = four ks in
    let k1 : Kinds = (0, kind.Star) ∷ ks in
    let k2 : Kinds = (1, kind.Star) ∷ k1 in
    let a = free n in
    let b = free (suc n) in
    let c = free (suc (suc n)) in
    let d = free (suc (suc (suc n))) in
    let pair : HasType p k4 (both n gs) (pair_code (arrow (free 0) (free 2)) (arrow (free 1) (free 3)) (arrow_side_code Forth) (arrow_side_code Back)) (arrow_body n) =
    pair_typed p k4 (both n gs) (arrow (free 0) (free 2)) (arrow (free 1) (free 3)) (arrow a c) (arrow b d) (arrow_side_code Forth) (arrow_side_code Back) known refl refl
    (arrow_kind p k4 a c fs.one fs.three) (arrow_kind p k4 b d fs.two fs.last) (side_typed p ks gs Forth known) (side_typed p ks gs Back known) in
    let outer : HasKind p.decls k2 [] (ep_type a b) kind.Star =
    ep_type_kind p k2 a b known (kind_at_more k1 1 kind.Star n kind.Star (kind_last ks 0 kind.Star)) (kind_last k1 1 kind.Star) in
    let inner : HasKind p.decls k4 [] (ep_type c d) kind.Star = ep_type_kind p k4 c d known fs.three fs.last in
    subst (HasType p ks gs arrow_code) (sym (whole_is n)) (
      forall kind.Star (closed_over (suc n) 0 (arrow (ep_type a b) (inner_type n))),
      (
        arrow (ep_type a b) (inner_type n),
        (
          inner_type n,
          outer,
          (
            forall kind.Star (closed_over (suc (suc (suc n))) 0 (arrow (ep_type c d) (arrow_body n))),
            (arrow (ep_type c d) (arrow_body n), (arrow_body n, inner, pair, refl), refl),
            refl,
          ),
          refl,
        ),
        refl,
      ),
      refl,
    )
