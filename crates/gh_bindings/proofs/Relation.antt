-- The relation between a state of the source and a state of its core.
use Rattle.std.proofs.Common.{◌≡◌, ℕ, ◌+◌, List, [], ◌∷◌, ◌++◌, refl, sym, ap, ◌∙◌, subst, append_assoc}
use Rattle.gh_base.specs.declared.names.NameId.{NameId}
use Rattle.gh_base.specs.declared.place.Origin.{Origin}
use Rattle.gh_core.specs.Primitives.{nil, cons}
use Rattle.gh_core.specs.Terms as t
use Rattle.gh_core.specs.Reduce as core
use Rattle.gh_core.specs.declared.terms.CoreName.TheVariants.{Plain}
use Rattle.gh_keeps.specs.Keeps.{runs}
use Rattle.gh_bindings.specs.Source as source
use Rattle.gh_bindings.specs.Acts as model
use Rattle.gh_bindings.specs.Meaning.{append_place, main_value, cell, join}
use Rattle.gh_keeps.proofs.Bridge.{runs-zero, runs-add}
use Rattle.gh_bindings.proofs.Plain as plain

-- an expression and its core
pub data Same : source.Expression → t.Term → Type 0 where
  same_name : (x : NameId) → Same (source.top (main_value x)) (t.glob (Plain (main_value x)))
  same_string : (cs : List ℕ) → Same (source.string cs) (t.string cs)
  -- a cell, whose head is known to be a character
  same_cell : {x : source.Expression} {x' : t.Term} {xs : source.Expression} {xs' : t.Term} (c : ℕ)
      → source.opened x ≡ source.char c → core.opened x' ≡ t.lit (t.char c) → Same xs xs' → Same (cell x xs) (plain.cell x' xs')
  same_join : {a : source.Expression} {a' : t.Term} {b : source.Expression} {b' : t.Term} → Same a a' → Same b b' → Same (join a b) (plain.join a' b')
  put_left : {e : source.Expression} {e' : t.Term} → Same e e' → Same (source.whole e) e'
  put_right : {e : source.Expression} {e' : t.Term} → Same e e' → Same e (t.whole e')

-- a join whose first operand is evaluated: both operands
abbrev pub Join : Type 0
Join = source.Expression × source.Expression

abbrev pub operands : Join → source.Arguments
operands j = source.and_argument (source.whole j.0) (source.and_argument (source.whole j.1) source.no_argument)

abbrev pub cell_patterns : source.Patterns
cell_patterns = source.and_pattern (source.pattern_var 3) (source.and_pattern (source.pattern_var 4) source.no_pattern)

abbrev pub cell_body : source.Expression
cell_body = cell (source.var 3) (join (source.var 4) (source.var 5))

abbrev pub second_row : source.Rows
second_row = source.row (source.and_pattern (source.pattern_con cons cell_patterns) (source.and_pattern (source.pattern_var 5) source.no_pattern)) cell_body source.no_row

-- what waits for the first operand: the first clause, and the second
abbrev pub first_clause : Join → model.Frame
first_clause j = model.testing nil source.no_pattern (record {
  todo = (source.pattern_var 2, source.whole j.1) ∷ [];
  bound = source.empty;
  body = source.var 2;
  place = append_place;
  arguments = operands j;
  rows = second_row;
})

abbrev pub second_clause : Join → model.Frame
second_clause j = model.testing cons cell_patterns (record {
  todo = (source.pattern_var 5, source.whole j.1) ∷ [];
  bound = source.empty;
  body = cell_body;
  place = append_place;
  arguments = operands j;
  rows = source.no_row;
})

abbrev pub frames : List Join → List model.Frame
frames [] = []
frames (j ∷ js) = first_clause j ∷ frames js

-- the case of `++` on its first argument, where this is the second
abbrev pub alts_at : t.Term → t.Alts
alts_at b = t.alt (t.con_alt nil [] (t.whole b)) (t.alt (t.con_alt cons (2 ∷ 3 ∷ []) (plain.cell (t.var 2) (plain.join (t.var 3) (t.whole b)))) t.no_alt)

-- the joins that wait, and the cases that wait in core
pub data Stacks : List Join → List core.Waiting → Type 0 where
  bottom : Stacks [] []
  waits : (a : source.Expression) {b : source.Expression} {b' : t.Term} {js : List Join} {ws : List core.Waiting} → Same b b' → Stacks js ws → Stacks ((a, b) ∷ js) (core.of_case (alts_at b') ∷ ws)

module _ (defs : List (Origin × source.Expression)) where
  -- an operand has come so far, whatever waits for it: to this expression, under these joins
  abbrev pub Own : source.Expression → source.Expression → List Join → Type 0
  Own a e up = (p : ℕ) × ((fr : model.Frame) (stack : List model.Frame) (out : List ℕ) → runs (model.act defs) p (model.demand a (fr ∷ stack) out) ≡ model.demand e (frames up ++ fr ∷ stack) out)

  -- and so has the first operand of each join that waits
  abbrev pub Traced : source.Expression → List Join → List Join → Type 0
  Traced e up [] = Unit {0}
  Traced e up (j ∷ js) = Own j.0 e up × Traced e (up ++ j ∷ []) js

  -- so many steps that look at these joins alone
  abbrev pub Local : ℕ → source.Expression → List Join → source.Expression → List Join → Type 0
  Local n e near e' near' =
      (fr : model.Frame) (stack : List model.Frame) (out : List ℕ) → runs (model.act defs) n (model.demand e (frames near ++ fr ∷ stack) out) ≡ model.demand e' (frames near' ++ fr ∷ stack) out

  frames_append : (near up : List Join) (stack : List model.Frame) → frames (near ++ up) ++ stack ≡ frames near ++ (frames up ++ stack)
  frames_append [] up stack = refl
  frames_append (j ∷ near) up stack = ap (λ l. first_clause j ∷ l) (frames_append near up stack)

  under : (n : ℕ) (e e' : source.Expression) (near near' up : List Join) → Local n e near e' near' → (fr : model.Frame) (stack : List model.Frame) (out : List ℕ)
      → runs (model.act defs) n (model.demand e (frames near ++ (frames up ++ fr ∷ stack)) out) ≡ model.demand e' (frames near' ++ (frames up ++ fr ∷ stack)) out
  under n e e' near near' [] l fr stack out = l fr stack out
  under n e e' near near' (j ∷ up) l fr stack out = l (first_clause j) (frames up ++ fr ∷ stack) out

  own_on : (n : ℕ) (a e e' : source.Expression) (near near' up : List Join) → Local n e near e' near' → Own a e (near ++ up) → Own a e' (near' ++ up)
  own_on n a e e' near near' up l o = (
    o.0 + n,
    λ fr stack out.
        sym (runs-add (model.act defs) o.0 n (model.demand a (fr ∷ stack) out)) ∙ ap (runs (model.act defs) n) (o.1 fr stack out)
        ∙ ap (λ u. runs (model.act defs) n (model.demand e u out)) (frames_append near up (fr ∷ stack)) ∙ under n e e' near near' up l fr stack out
        ∙ ap (λ u. model.demand e' u out) (sym (frames_append near' up (fr ∷ stack))),
  )

  -- the joins below keep their traces
  pub traced_on : (n : ℕ) (e e' : source.Expression) (near near' up js : List Join) → Local n e near e' near' → Traced e (near ++ up) js → Traced e' (near' ++ up) js
  traced_on n e e' near near' up [] l t = tt
  traced_on n e e' near near' up (j ∷ js) l t = (
    own_on n j.0 e e' near near' up l t.0,
    subst (λ u. Traced e' u js) (sym (append_assoc near' up (j ∷ [])))
        (traced_on n e e' near near' (up ++ j ∷ []) js l (subst (λ u. Traced e u js) (append_assoc near up (j ∷ [])) t.1)),
  )

  -- an operand has come to itself
  pub own_itself : (a : source.Expression) → Own a a []
  own_itself a = (0, λ fr stack out. runs-zero (model.act defs) (model.demand a (fr ∷ stack) out))
