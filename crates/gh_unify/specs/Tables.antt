-- Tables of variables.
use Rattle.std.specs.Prelude.{ℕ, ◌+◌, List, [], ◌∷◌, map, Option, Some, None}
use Rattle.gh_typeterm.specs.declared.ty.TyNode.{TyNode}
use Rattle.gh_typeterm.specs.Terms.{substituted}
use Rattle.gh_unify.specs.Types.{Mono, var, Val}
use Rattle.gh_unify.specs.Kept.{Eqs}
use Rattle.gh_unify.specs.declared.table.Variable.{Variable}

abbrev pub value_of : Option Mono → ℕ → Mono
value_of None v = var v
value_of (Some t) v = t

-- each solved variable's type, where that holds no solved one
abbrev pub best : Eqs → Val
best E v = value_of (E v) v

abbrev pub term_replaced : List (ℕ × TyNode) → Option TyNode → Option TyNode
term_replaced by None = None
term_replaced by (Some t) = Some (substituted by t)

-- a variable with replacements made in its type
abbrev pub replaced : List (ℕ × TyNode) → Variable → Variable
replaced by x = record { level = x.level; rigid = x.rigid; term = term_replaced by x.term }

abbrev pub term_put : TyNode → Variable → Variable
term_put t x = record { level = x.level; rigid = x.rigid; term = Some t }

-- a table with the type of one variable put in
abbrev pub put_at : List Variable → ℕ → TyNode → List Variable
put_at [] v t = []
put_at (x ∷ xs) ℕ.zero t = term_put t x ∷ xs
put_at (x ∷ xs) (ℕ.suc v) t = x ∷ put_at xs v t

-- a table with one more variable solved, which is replaced in all others
abbrev pub with_solved : List Variable → ℕ → TyNode → List Variable
with_solved kept v t = put_at (map (replaced ((v, t) ∷ [])) kept) v t

-- how many variables are unsolved
abbrev pub open_at : Option TyNode → ℕ
open_at None = 1
open_at (Some t) = 0

abbrev pub open_in : List Variable → ℕ
open_in [] = 0
open_in (x ∷ xs) = open_at x.term + open_in xs
