-- Tables of variables, entry by entry.
use Rattle.std.proofs.Common.{◌≡◌, ℕ, zero, suc, ◌+◌, ◌≤◌, ◌<◌, cond, eqb, List, [], ◌∷◌, ◌++◌, map, length, get_or, take, take_all, Option, Some, None, refl, sym, ap, ◌∙◌, arith}
use Rattle.std.specs.Prelude.{slice_get, slice_set, option_map}
use Rattle.std.proofs.lemmas.Option.{slice_get-map, slice_get-get_or}
use Rattle.std.proofs.Math.Dec.{eqb-suc-zero, eqb-zero-suc, eqb-suc-suc}
use Rattle.gh_typeterm.specs.declared.ty.TyNode.{TyNode}
use Rattle.gh_typeterm.specs.declared.ty.TyNode.TheVariants as t
use Rattle.gh_unify.specs.Types.{mono, inst}
use Rattle.gh_unify.specs.Kept.{drawn_of, level_at, rigid_at, level_of, is_rigid, type_in, type_at, eqs_of}
use Rattle.gh_unify.specs.Tables.{term_replaced, replaced, term_put, put_at, with_solved, best, value_of, open_at, open_in}
use Rattle.gh_unify.specs.declared.table.Variable.{Variable}
use Rattle.gh_unify.proofs.Insts.{sub}
use Rattle.gh_unify.proofs.Solved.{inst_in, put}
use Rattle.gh_unify.proofs.Reading.{mono-replaced, mono-Var}

entry : (kept : List Variable) (v : ℕ) (d : Variable) → v < length kept → slice_get kept v ≡ Some (get_or kept v d)
entry kept v d h = slice_get-get_or kept v d h

pub drawn_entry : (kept : List Variable) (v : ℕ) (d : Variable) → v < length kept → slice_get (drawn_of kept) v ≡ Some ((get_or kept v d).level, (get_or kept v d).rigid)
drawn_entry kept v d h =
    slice_get-map (λ (y : Variable). (y.level, y.rigid)) kept v ∙ ap (option_map (λ (y : Variable). (y.level, y.rigid))) (entry kept v d h)

pub rigid_entry : (kept : List Variable) (v : ℕ) (d : Variable) → v < length kept → is_rigid (drawn_of kept) v ≡ (get_or kept v d).rigid
rigid_entry kept v d h = ap rigid_at (drawn_entry kept v d h)

pub level_entry : (kept : List Variable) (v : ℕ) (d : Variable) → v < length kept → level_of (drawn_of kept) v ≡ (get_or kept v d).level
level_entry kept v d h = ap level_at (drawn_entry kept v d h)

pub type_entry : (kept : List Variable) (v : ℕ) (d : Variable) → v < length kept → eqs_of kept v ≡ type_in (get_or kept v d).term
type_entry kept v d h = ap type_at (entry kept v d h)

-- what a variable is read as
pub read_var : (kept : List Variable) (term : TyNode) (v : ℕ) (d : Variable) → term ≡ t.Var v → v < length kept
    → inst (best (eqs_of kept)) (mono term) ≡ value_of (type_in (get_or kept v d).term) v
read_var kept term v d e h =
    ap (inst (best (eqs_of kept))) (ap mono e ∙ mono-Var v) ∙ ap (λ o. value_of o v) (type_entry kept v d h)

-- a replacement in each entry
type_replaced : (v : ℕ) (u : TyNode) (o : Option TyNode) → type_in (term_replaced ((v, u) ∷ []) o) ≡ inst_in (sub v (mono u)) (type_in o)
type_replaced v u None = refl
type_replaced v u (Some s) = ap Some (mono-replaced v u s)

eqs_map : (v : ℕ) (u : TyNode) (xs : List Variable) (w : ℕ) → eqs_of (map (replaced ((v, u) ∷ [])) xs) w ≡ inst_in (sub v (mono u)) (eqs_of xs w)
eqs_map v u [] w = refl
eqs_map v u (x ∷ xs) zero = type_replaced v u x.term
eqs_map v u (x ∷ xs) (suc w) = eqs_map v u xs w

eqs_put : (xs : List Variable) (v : ℕ) (t : TyNode) (w : ℕ) → v < length xs → eqs_of (put_at xs v t) w ≡ cond (eqb w v) (Some (mono t)) (eqs_of xs w)
eqs_put [] v t w h = absurd (omega arith)
eqs_put (x ∷ xs) zero t zero h = refl
eqs_put (x ∷ xs) zero t (suc w) h = λ i. cond (sym (eqb-suc-zero w) i) (Some (mono t)) (eqs_of xs w)
eqs_put (x ∷ xs) (suc v) t zero h = λ i. cond (sym (eqb-zero-suc v) i) (Some (mono t)) (type_in x.term)
eqs_put (x ∷ xs) (suc v) t (suc w) h = eqs_put xs v t w (omega arith) ∙ (λ i. cond (sym (eqb-suc-suc w v) i) (Some (mono t)) (eqs_of xs w))

length_map : (v : ℕ) (u : TyNode) (xs : List Variable) → length (map (replaced ((v, u) ∷ [])) xs) ≡ length xs
length_map v u [] = refl
length_map v u (x ∷ xs) = ap suc (length_map v u xs)

pub eqs_solved : (kept : List Variable) (v : ℕ) (u : TyNode) → v < length kept → eqs_of (with_solved kept v u) ≡ put (eqs_of kept) v (mono u)
eqs_solved kept v u h = λ i w.
    (let k = length_map v u kept in eqs_put (map (replaced ((v, u) ∷ [])) kept) v u w (omega arith) ∙ ap (λ o. cond (eqb w v) (Some (mono u)) o) (eqs_map v u kept w)) i

drawn_map : (v : ℕ) (u : TyNode) (xs : List Variable) → drawn_of (map (replaced ((v, u) ∷ [])) xs) ≡ drawn_of xs
drawn_map v u [] = refl
drawn_map v u (x ∷ xs) = ap (λ ys. (x.level, x.rigid) ∷ ys) (drawn_map v u xs)

drawn_put : (xs : List Variable) (v : ℕ) (t : TyNode) → drawn_of (put_at xs v t) ≡ drawn_of xs
drawn_put [] v t = refl
drawn_put (x ∷ xs) zero t = refl
drawn_put (x ∷ xs) (suc v) t = ap (λ ys. (x.level, x.rigid) ∷ ys) (drawn_put xs v t)

pub drawn_solved : (kept : List Variable) (v : ℕ) (u : TyNode) → drawn_of (with_solved kept v u) ≡ drawn_of kept
drawn_solved kept v u = drawn_put (map (replaced ((v, u) ∷ [])) kept) v u ∙ drawn_map v u kept

pub drawn_length : (kept : List Variable) → length (drawn_of kept) ≡ length kept
drawn_length [] = refl
drawn_length (x ∷ xs) = ap suc (drawn_length xs)

-- one variable less is unsolved
open_term : (v : ℕ) (u : TyNode) (o : Option TyNode) → open_at (term_replaced ((v, u) ∷ []) o) ≡ open_at o
open_term v u None = refl
open_term v u (Some s) = refl

open_map : (v : ℕ) (u : TyNode) (xs : List Variable) → open_in (map (replaced ((v, u) ∷ [])) xs) ≡ open_in xs
open_map v u [] = refl
open_map v u (x ∷ xs) = let p = open_term v u x.term in let q = open_map v u xs in λ i. p i + q i

open_none : (o : Option TyNode) → type_in o ≡ None → open_at o ≡ 1
open_none None e = refl
open_none (Some t) e = cc

open_put : (xs : List Variable) (v : ℕ) (t : TyNode) → v < length xs → eqs_of xs v ≡ None → open_in (put_at xs v t) < open_in xs
open_put [] v t h e = absurd (omega arith)
open_put (x ∷ xs) zero t h e = let p = open_none x.term e in omega arith
open_put (x ∷ xs) (suc v) t h e = let p = open_put xs v t (omega arith) e in omega arith

none_map : (v : ℕ) (u : TyNode) (kept : List Variable) → eqs_of kept v ≡ None → eqs_of (map (replaced ((v, u) ∷ [])) kept) v ≡ None
none_map v u kept e = eqs_map v u kept v ∙ ap (inst_in (sub v (mono u))) e

pub open_solved : (kept : List Variable) (v : ℕ) (u : TyNode) → v < length kept → eqs_of kept v ≡ None → open_in (with_solved kept v u) < open_in kept
open_solved kept v u h e =
    let k = length_map v u kept in
    let p : open_in (put_at (map (replaced ((v, u) ∷ [])) kept) v u) < open_in (map (replaced ((v, u) ∷ [])) kept)
    = open_put (map (replaced ((v, u) ∷ [])) kept) v u (omega arith) (none_map v u kept e) in
    let q = open_map v u kept in omega arith

some_same : {x y : Variable} → Some x ≡ Some y → x ≡ y
some_same e = cc

-- the type of one variable, put in
pub put_set : (xs : List Variable) (v : ℕ) (u : TyNode) (x : Variable) → v < length xs → slice_get xs v ≡ Some x → slice_set xs v (term_put u x) ≡ put_at xs v u
put_set [] v u x h e = refl
put_set (y ∷ xs) zero u x h e = let k : y ≡ x = cc in ap (λ z. term_put u z ∷ xs) (sym k)
put_set (y ∷ xs) (suc v) u x h e = ap (λ zs. y ∷ zs) (put_set xs v u x (omega arith) e)

-- the table that `solved` makes
pub solved_made : (kept made : List Variable) (by : List (ℕ × TyNode)) (v : ℕ) (u s r : TyNode) (d d2 : Variable) (i : ℕ) → v < length kept → length kept ≤ i
    → made ≡ map (replaced by) (take i kept) → by ≡ [] ++ (v, s) ∷ [] → s ≡ u → r ≡ u
    → slice_set made v (record { level = (get_or kept v d).level; rigid = (get_or kept v d2).rigid; term = Some r }) ≡ with_solved kept v u
solved_made kept made by v u s r d d2 i h past e be se re =
    let all : made ≡ map (replaced ((v, u) ∷ [])) kept =
    e ∙ ap (λ ks. map (replaced by) ks) (take_all i kept past) ∙ ap (λ b. map (replaced b) kept) (be ∙ ap (λ z. (v, z) ∷ []) se) in
    let x : Variable = get_or kept v d in
    let same : x ≡ get_or kept v d2 = some_same (sym (entry kept v d h) ∙ entry kept v d2 h) in
    let z : Variable = replaced ((v, u) ∷ []) x in
    let k = length_map v u kept in
    ap (λ m. slice_set m v (record { level = x.level; rigid = (get_or kept v d2).rigid; term = Some r })) all
    ∙ ap (λ w. slice_set (map (replaced ((v, u) ∷ [])) kept) v (record { level = x.level; rigid = w.rigid; term = Some r })) (sym same)
    ∙ ap (λ w. slice_set (map (replaced ((v, u) ∷ [])) kept) v (record { level = x.level; rigid = x.rigid; term = Some w })) re
    ∙ put_set (map (replaced ((v, u) ∷ [])) kept) v u z (omega arith)
    (slice_get-map (replaced ((v, u) ∷ [])) kept v ∙ ap (option_map (replaced ((v, u) ∷ []))) (entry kept v d h))
