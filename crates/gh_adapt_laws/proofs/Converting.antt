-- Both conversions of each pair at a type do what the definition says, and pairs put into a pair make one.
use Rattle.std.proofs.Common.{◌≡◌, ℕ, zero, suc, ◌+◌, ◌<◌, ◌≤◌, max, List, [], ◌∷◌, ◌++◌, length, slice_get, unwrap_or, Option, Some, ◌==◌, refl, sym, ap, ◌∙◌, subst, arith}
use Rattle.gh_base.specs.declared.place.TyCon.{TyCon}
use Rattle.gh_base.specs.declared.place.TyCon.TheVariants as tycon
use Rattle.gh_typeterm.specs.declared.decl.DeclData.{DeclData}
use Rattle.gh_typeterm.specs.declared.ty.TyNode.{TyNode, out-TyNode}
use Rattle.gh_typeterm.specs.declared.ty.TyNode.TheVariants as ty
use Rattle.gh_typeterm.specs.declared.ty.TyNode.TheOpen.{TyNode-F}
use Rattle.gh_typeterm.proofs.Folds.{fold-Con, fold-Var, fold-App, fold-Name, term_induction, App-injective}
use Rattle.gh_core.specs.declared.terms.CoreName.{CoreName}
use Rattle.gh_core.specs.Closing.{close, stands, put, empty, without}
use Rattle.gh_core.specs.Reduce.{Program, State, Waiting, arg, running, settled_at, opened, demand, defined, reduce, reductions, unfold_global, at}
use Rattle.gh_core.specs.Terms.{Term, var, glob, lam, app, whole}
use Rattle.gh_core.proofs.Runs.{reductions_zero}
use Rattle.gh_adapt.specs.declared.ways.Way.{Way}
use Rattle.gh_adapt.specs.declared.ways.Way.TheVariants.{Forth, Back}
use Rattle.gh_adapt.specs.Pairs.{turned, ep, pair_of, picked, select, id_pair, arrow_side, arrow_pair, head_pair, pair_step, pair_at, given, params, adapter_of, bimap_of}
use Rattle.gh_adapt.specs.Goes.{waiting}
use Rattle.gh_adapt.specs.PairGoes.{rebuilt, type_applied}
use Rattle.gh_adapt_laws.specs.Converts.{PairAt, at_con, at_var, at_app, at_name, marked, PairsAt, one_of, Form, with_pair, without_pair, of_machine, of_functions, of_data, turned_round, Says, by_pair, as_variable, as_constant, by_sides, by_fields, Converts, AdapterConverts, IsPairThere, PairConverts, put_step, types_put, above_step, above_variables, PairsCompose}
use Rattle.gh_adapt.proofs.Running.{one, then_run}
use Rattle.gh_adapt_laws.proofs.Choosing.{step, converts, enters_with, rebuilds, closed_side}

-- ---- the pair at a type

pub there : IsPairThere
there leaf = term_induction (λ t. PairAt leaf t (pair_at leaf t))
    (λ c. at_con c refl (fold-Con Term (pair_step leaf) c))
    (λ x. at_var x refl (fold-Var Term (pair_step leaf) x))
    (λ f s p q. at_app f s (pair_at leaf f) (pair_at leaf s) refl (fold-App Term (pair_step leaf) f s) p q)
    (λ n. at_name n refl (fold-Name Term (pair_step leaf) n))

-- ---- forms differ

con_var : (c : TyCon) (x : ℕ) → ty.Con c ≡ ty.Var x → ⊥
con_var c x k = let o : TyNode-F.Con c ≡ TyNode-F.Var x = sym (ty.outs-Con c) ∙ ap out-TyNode k ∙ ty.outs-Var x in absurd (cc)

con_app : (c : TyCon) (f s : TyNode) → ty.Con c ≡ ty.App f s → ⊥
con_app c f s k = let o : TyNode-F.Con c ≡ TyNode-F.App f s = sym (ty.outs-Con c) ∙ ap out-TyNode k ∙ ty.outs-App f s in absurd (cc)

con_name : (c : TyCon) (n : ℕ) → ty.Con c ≡ ty.Name n → ⊥
con_name c n k = let o : TyNode-F.Con c ≡ TyNode-F.Name n = sym (ty.outs-Con c) ∙ ap out-TyNode k ∙ ty.outs-Name n in absurd (cc)

var_app : (x : ℕ) (f s : TyNode) → ty.Var x ≡ ty.App f s → ⊥
var_app x f s k = let o : TyNode-F.Var x ≡ TyNode-F.App f s = sym (ty.outs-Var x) ∙ ap out-TyNode k ∙ ty.outs-App f s in absurd (cc)

var_name : (x n : ℕ) → ty.Var x ≡ ty.Name n → ⊥
var_name x n k = let o : TyNode-F.Var x ≡ TyNode-F.Name n = sym (ty.outs-Var x) ∙ ap out-TyNode k ∙ ty.outs-Name n in absurd (cc)

app_name : (f s : TyNode) (n : ℕ) → ty.App f s ≡ ty.Name n → ⊥
app_name f s n k = let o : TyNode-F.App f s ≡ TyNode-F.Name n = sym (ty.outs-App f s) ∙ ap out-TyNode k ∙ ty.outs-Name n in absurd (cc)

same_con : (c d : TyCon) → ty.Con c ≡ ty.Con d → c ≡ d
same_con c d k = let o : TyNode-F.Con c ≡ TyNode-F.Con d = sym (ty.outs-Con c) ∙ ap out-TyNode k ∙ ty.outs-Con d in cc

same_var : (x y : ℕ) → ty.Var x ≡ ty.Var y → x ≡ y
same_var x y k = let o : TyNode-F.Var x ≡ TyNode-F.Var y = sym (ty.outs-Var x) ∙ ap out-TyNode k ∙ ty.outs-Var y in cc

-- ---- what is demanded, without marks

demand_by : (m n : Term) (stack : List Waiting) (out : List ℕ) → opened m ≡ opened n → demand m stack out ≡ demand n stack out
demand_by m n stack out e = λ i. settled_at (e i) stack out (record { focus = e i; stack = stack; out = out; status = running })

open_con : (leaf : ℕ → Term) (t : TyNode) (m : Term) (c : TyCon) → PairAt leaf t m → t ≡ ty.Con c → opened m ≡ opened (head_pair c)
open_con leaf t m c (at_con d e is) k = ap opened (is ∙ ap head_pair (same_con d c (sym e ∙ k)))
open_con leaf t m c (at_var x e is) k = absurd (con_var c x (sym k ∙ e))
open_con leaf t m c (at_app f s g a e is p q) k = absurd (con_app c f s (sym k ∙ e))
open_con leaf t m c (at_name n e is) k = absurd (con_name c n (sym k ∙ e))
open_con leaf t m c (marked n is p) k = ap opened is ∙ open_con leaf t n c p k

open_var : (leaf : ℕ → Term) (t : TyNode) (m : Term) (x : ℕ) → PairAt leaf t m → t ≡ ty.Var x → opened m ≡ opened (leaf x)
open_var leaf t m x (at_con d e is) k = absurd (con_var d x (sym e ∙ k))
open_var leaf t m x (at_var y e is) k = ap opened (is ∙ ap leaf (same_var y x (sym e ∙ k)))
open_var leaf t m x (at_app f s g a e is p q) k = absurd (var_app x f s (sym k ∙ e))
open_var leaf t m x (at_name n e is) k = absurd (var_name x n (sym k ∙ e))
open_var leaf t m x (marked n is p) k = ap opened is ∙ open_var leaf t n x p k

record Opens (leaf : ℕ → Term) (m : Term) (f s : TyNode) : Type 0 where
  function : Term
  argument : Term
  is : opened m ≡ app function argument
  left : PairAt leaf f function
  right : PairAt leaf s argument

open_app : (leaf : ℕ → Term) (t : TyNode) (m : Term) (f s : TyNode) → PairAt leaf t m → t ≡ ty.App f s → Opens leaf m f s
open_app leaf t m f s (at_con d e is) k = absurd (con_app d f s (sym e ∙ k))
open_app leaf t m f s (at_var y e is) k = absurd (var_app y f s (sym e ∙ k))
open_app leaf t m f s (at_app f' s' g a e is p q) k =
    let same = App-injective f' s' f s (sym e ∙ k) in
    record { function = g; argument = a; is = ap opened is; left = subst (λ z. PairAt leaf z g) same.0 p; right = subst (λ z. PairAt leaf z a) same.1 q }
open_app leaf t m f s (at_name n e is) k = absurd (app_name f s n (sym k ∙ e))
open_app leaf t m f s (marked n is p) k =
    let o = open_app leaf t n f s p k in record { function = o.function; argument = o.argument; is = ap opened is ∙ o.is; left = o.left; right = o.right }

-- the pair at a type that is applied to others goes to that of the head, with those of the others
record Spine (p : Program) (leaf : ℕ → Term) (f : TyNode) (ts : List TyNode) (m : Term) : Type 0 where
  head : Term
  pairs : List Term
  at_head : PairAt leaf f head
  at_each : PairsAt leaf ts pairs
  goes : (stack : List Waiting) (out : List ℕ) → reductions p (length ts) (demand m stack out) ≡ demand head (waiting pairs stack) out

spine : (p : Program) (leaf : ℕ → Term) (ts : List TyNode) (f : TyNode) (m : Term) → PairAt leaf (type_applied f ts) m → Spine p leaf f ts m
spine p leaf [] f m h = record { head = m; pairs = []; at_head = h; at_each = tt; goes = λ stack out. reductions_zero p (demand m stack out) }
spine p leaf (t ∷ ts) f m h =
    let more = spine p leaf ts (ty.App f t) m h in
    let o = open_app leaf (ty.App f t) more.head f t more.at_head refl in
    let count : length ts + 1 ≡ suc (length ts) = omega arith in
    record {
      head = o.function;
      pairs = o.argument ∷ more.pairs;
      at_head = o.left;
      at_each = (o.right, more.at_each);
      goes = λ stack out.
          ap (λ k. reductions p k (demand m stack out)) (sym count)
          ∙ then_run p (length ts) 1 (demand m stack out) (demand more.head (waiting more.pairs stack) out) (demand o.function (arg o.argument ∷ waiting more.pairs stack) out)
          (more.goes stack out)
          (ap (reductions p 1) (demand_by more.head (app o.function o.argument) (waiting more.pairs stack) out o.is)
          ∙ one p (demand (app o.function o.argument) (waiting more.pairs stack) out));
    }

pairs_length : (leaf : ℕ → Term) (ts : List TyNode) (ms : List Term) → PairsAt leaf ts ms → length ms ≡ length ts
pairs_length leaf [] [] h = refl
pairs_length leaf [] (m ∷ ms) h = absurd h
pairs_length leaf (t ∷ ts) [] h = absurd h
pairs_length leaf (t ∷ ts) (m ∷ ms) h = ap suc (pairs_length leaf ts ms h.1)

-- ---- at an arrow

arrow_enters : (p : Program) (s t : Term) (stack : List Waiting) (out : List ℕ)
    → reductions p 2 (demand arrow_pair (arg s ∷ arg t ∷ stack) out) ≡ demand (pair_of (closed_side Forth s t) (closed_side Back s t)) stack out
arrow_enters p s t stack out =
    let end = demand (pair_of (closed_side Forth s t) (closed_side Back s t)) stack out in
    let inner = lam 1 (close (pair_of (arrow_side Forth) (arrow_side Back)) (without (put empty 0 s) (λ y. y == 1))) in
    step p 1 (demand arrow_pair (arg s ∷ arg t ∷ stack) out) (demand inner (arg t ∷ stack) out) end refl (one p (demand inner (arg t ∷ stack) out))

abbrev side_body : Way → Term → Term → Term
side_body way s t =
    close (close (lam 3 (app (select way (var 1)) (app (var 2) (app (select (turned way) (var 0)) (var 3))))) (without (without (put empty 0 s) (λ y. y == 1)) (λ y. y == 2)))
    (without (put empty 1 t) (λ y. y == 2))

side_chosen : (way : Way) (s t : Term) → one_of way (closed_side Forth s t) (closed_side Back s t) ≡ lam 2 (side_body way s t)
side_chosen Forth s t = refl
side_chosen Back s t = refl

side_goes : (way : Way) (s t e : Term) (stack : List Waiting) (out : List ℕ) → demand (close (side_body way s t) (put empty 2 e)) stack out ≡ demand (turned_round way s t e) stack out
side_goes Forth s t e stack out = refl
side_goes Back s t e stack out = refl

two_sides : (p : Program) (leaf : ℕ → Term) (way : Way) (t s u : TyNode) (m e h : Term) (ms : List Term) → t ≡ ty.App (ty.App (ty.Con tycon.Arrow) s) u → PairsAt leaf (s ∷ u ∷ []) ms
    → opened h ≡ arrow_pair → ((stack : List Waiting) (out : List ℕ) → reductions p 2 (demand m stack out) ≡ demand h (waiting ms stack) out) → Converts p leaf way t (select way m) e
two_sides p leaf way t s u m e h [] is at unmarked goes = absurd at
two_sides p leaf way t s u m e h (a ∷ []) is at unmarked goes = absurd at.1
two_sides p leaf way t s u m e h (a ∷ b ∷ c ∷ ms) is at unmarked goes = absurd at.1.1
two_sides p leaf way t s u m e h (a ∷ b ∷ []) is at unmarked goes = record {
  to = turned_round way a b e;
  args = [];
  says = by_sides s u a b is at.0 at.1.0 refl refl;
  count = 10;
  few = omega arith;
  goes = enters_with p 4 way m (closed_side Forth a b) (closed_side Back a b) e 2 (side_body way a b) (turned_round way a b e)
      (λ stack out. then_run p 2 2 (demand m stack out) (demand h (arg a ∷ arg b ∷ stack) out) (demand (pair_of (closed_side Forth a b) (closed_side Back a b)) stack out) (goes stack out)
      (ap (reductions p 2) (demand_by h arrow_pair (arg a ∷ arg b ∷ stack) out unmarked) ∙ arrow_enters p a b stack out))
      (side_chosen way a b) (side_goes way a b e);
}

-- ---- the laws

-- where the pair goes to a pair at once
at_once : (p : Program) (m f g : Term) → opened m ≡ pair_of f g → (stack : List Waiting) (out : List ℕ) → reductions p 0 (demand m stack out) ≡ demand (pair_of f g) stack out
at_once p m f g is stack out = reductions_zero p (demand m stack out) ∙ demand_by m (pair_of f g) stack out is

one_same : (way : Way) (f : Term) → one_of way f f ≡ f
one_same Forth f = refl
one_same Back f = refl

kept : (p : Program) (way : Way) (m e : Term) → opened m ≡ id_pair → (stack : List Waiting) (out : List ℕ) → reductions p 6 (demand (app (select way m) e) stack out) ≡ demand e stack out
kept p way m e is = enters_with p 0 way m (lam 0 (var 0)) (lam 0 (var 0)) e 0 (var 0) e (at_once p m (lam 0 (var 0)) (lam 0 (var 0)) is) (one_same way (lam 0 (var 0))) (λ stack out. refl)

pub pair_converts : PairConverts
pair_converts p leaf way t m e h (with_pair x f g is pair) = record {
  to = one_of way f g;
  args = e ∷ [];
  says = by_pair x f g is pair refl refl;
  count = 5;
  few = omega arith;
  goes = converts p 0 way m f g e (at_once p m f g (open_var leaf t m x h is ∙ ap opened pair));
}
pair_converts p leaf way t m e h (without_pair x is pair) = record {
  to = e;
  args = [];
  says = as_variable x is pair refl refl;
  count = 6;
  few = omega arith;
  goes = kept p way m e (open_var leaf t m x h is ∙ ap opened pair);
}
pair_converts p leaf way t m e h (of_machine c is pair) = record {
  to = e;
  args = [];
  says = as_constant c is pair refl refl;
  count = 6;
  few = omega arith;
  goes = kept p way m e (open_con leaf t m c h is ∙ ap opened pair);
}
pair_converts p leaf way t m e h (of_functions s u is) =
    let sp = spine p leaf (s ∷ u ∷ []) (ty.Con tycon.Arrow) m (subst (λ z. PairAt leaf z m) is h) in
    two_sides p leaf way t s u m e sp.head sp.pairs is sp.at_each (open_con leaf (ty.Con tycon.Arrow) sp.head tycon.Arrow sp.at_head refl) sp.goes
pair_converts p leaf way t m e h (of_data c n d ts is glob_is found len few) =
    let sp = spine p leaf ts (ty.Con c) m (subst (λ z. PairAt leaf z m) is h) in
    let ms = sp.pairs in
    let same = pairs_length leaf ts ms sp.at_each in
    let unmarked : opened sp.head ≡ glob n = open_con leaf (ty.Con c) sp.head c sp.at_head refl ∙ ap opened glob_is in
    record {
      to = rebuilt way d ms e;
      args = [];
      says = by_fields c n d ts ms is glob_is found sp.at_each refl refl;
      count = (length ts + 1) + length ms + 6;
      few = omega (arith, few, same);
      goes = rebuilds p (length ts + 1) way d m ms e (same ∙ len)
          (λ stack out. then_run p (length ts) 1 (demand m stack out) (demand sp.head (waiting ms stack) out) (demand (bimap_of d) (waiting ms stack) out) (sp.goes stack out)
          (ap (reductions p 1) (demand_by sp.head (glob n) (waiting ms stack) out unmarked) ∙ one p (demand (glob n) (waiting ms stack) out)
          ∙ ap (λ o. unfold_global o (waiting ms stack) out (at (glob n) (waiting ms stack) out)) found));
    }

pub adapter_converts : (pairs : List Term) (base : TyNode) (m : Term) → m ≡ adapter_of pairs base → AdapterConverts pairs base m
adapter_converts pairs base m is p e form =
    subst (λ z. Converts p (given pairs) Back base z e) (sym is) (pair_converts p (given pairs) Back base (pair_at (given pairs) base) e (there (given pairs) base) form)

-- ---- pairs put into a pair

head_closed : (c : TyCon) (σ : ℕ → Option Term) → close (head_pair c) σ ≡ head_pair c
head_closed (tycon.Named o) σ = refl
head_closed tycon.Arrow σ = refl
head_closed tycon.Int σ = refl
head_closed tycon.Char σ = refl
head_closed (tycon.ConOf o) σ = refl

param_at : (i n x : ℕ) → x < n → slice_get (params i n) x ≡ Some (var (i + x))
param_at i zero x lt = absurd (omega arith)
param_at i (suc n) zero lt = let e : i ≡ i + 0 = omega arith in ap (λ l. Some (var l)) e
param_at i (suc n) (suc x) lt = let e : suc i + x ≡ i + suc x = omega arith in param_at (suc i) n x (omega arith) ∙ ap (λ l. Some (var l)) e

record Put (leaf : ℕ → Term) (ts : List TyNode) (ms : List Term) (e : Term) (x : ℕ) : Type 0 where
  type : TyNode
  pair : Term
  type_there : slice_get ts x ≡ Some type
  pair_there : slice_get (ms ++ e ∷ []) x ≡ Some pair
  fits : PairAt leaf type pair

put_at : (leaf : ℕ → Term) (ts : List TyNode) (ms : List Term) (e : Term) (x : ℕ) → PairsAt leaf ts ms → x < length ts → Put leaf ts ms e x
put_at leaf [] ms e x h lt = absurd (omega arith)
put_at leaf (t ∷ ts) [] e x h lt = absurd h
put_at leaf (t ∷ ts) (m ∷ ms) e zero h lt = record { type = t; pair = m; type_there = refl; pair_there = refl; fits = h.0 }
put_at leaf (t ∷ ts) (m ∷ ms) e (suc x) h lt =
    let r = put_at leaf ts ms e x h.1 (omega arith) in record { type = r.type; pair = r.pair; type_there = r.type_there; pair_there = r.pair_there; fits = r.fits }

abbrev IsComposed : (ℕ → Term) → List TyNode → List Term → Term → TyNode → Type 0
IsComposed leaf ts ms e u =
    above_variables u ≤ length ts → PairAt leaf (types_put ts u) (close (pair_at (given (params 0 (length ts))) u) (slice_get (ms ++ e ∷ [])))

pub pairs_compose : PairsCompose
pairs_compose leaf ts ms e u h =
    let n = length ts in
    let σ = slice_get (ms ++ e ∷ []) in
    let ps = given (params 0 n) in
    term_induction (IsComposed leaf ts ms e)
    (λ c le. at_con c (fold-Con TyNode (put_step ts) c) (ap (λ m. close m σ) (fold-Con Term (pair_step ps) c) ∙ head_closed c σ))
    (λ x le.
    let lt : x < n = subst (λ k. k ≤ n) (fold-Var ℕ above_step x) le in
    let r = put_at leaf ts ms e x h lt in
    let zero_first : 0 + x ≡ x = omega arith in
    marked r.pair
    (ap (λ m. close m σ) (fold-Var Term (pair_step ps) x ∙ ap (λ o. unwrap_or o id_pair) (param_at 0 n x lt) ∙ ap var zero_first) ∙ ap (λ o. stands o x) r.pair_there)
    (subst (λ z. PairAt leaf z r.pair) (sym (fold-Var TyNode (put_step ts) x ∙ ap (λ o. unwrap_or o (ty.Var x)) r.type_there)) r.fits))
    (λ f s p q le.
    let both : max (above_variables f) (above_variables s) ≤ n = subst (λ k. k ≤ n) (fold-App ℕ above_step f s) le in
    at_app (types_put ts f) (types_put ts s) (close (pair_at ps f) σ) (close (pair_at ps s) σ) (fold-App TyNode (put_step ts) f s)
    (ap (λ m. close m σ) (fold-App Term (pair_step ps) f s)) (p (omega arith)) (q (omega arith)))
    (λ k le. at_name k (fold-Name TyNode (put_step ts) k) (ap (λ m. close m σ) (fold-Name Term (pair_step ps) k)))
    u
