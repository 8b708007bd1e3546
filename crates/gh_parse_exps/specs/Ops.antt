-- How operators and variables with a qualifier are read, and which of them come next.
use Rattle.std.specs.Prelude.{Bool, true, false, not, ◌&&◌, ◌==◌, if◌then◌else◌, List, Option, Some, None}
use Rattle.gh_base.specs.declared.fixed.TheConstants.{MINUS}
use Rattle.gh_base.specs.declared.place.Span.{Span}
use Rattle.gh_tree.specs.declared.symbol.Kind.{Kind}
use Rattle.gh_tree.specs.declared.symbol.Kind.TheVariants as k
use Rattle.gh_tree.specs.declared.symbol.Sym.{Sym}
use Rattle.gh_tree.specs.declared.names.Op.{Op}
use Rattle.gh_tree.specs.declared.names.Op.TheVariants as n_Op
use Rattle.gh_tree.specs.declared.names.VarOp.TheVariants as n_VarOp
use Rattle.gh_tree.specs.declared.names.ConOp.TheVariants as n_ConOp
use Rattle.gh_tree.specs.Print.{plain_op}
use Rattle.gh_tree.specs.ReadNames.{gen_con_by}
use Rattle.gh_tree.specs.Read.{Read, ◌>>=◌, pure, fail, check, kind, bytes, after, peek, next, expect, is_close, is_backquote}

abbrev pub is_sym : Option Kind → Bool
is_sym (Some (k.VarSym q n)) = true
is_sym _ = false

abbrev pub is_banana : Option Kind → Bool
is_banana (Some k.OpenBanana) = true
is_banana _ = false

-- a variable comes next, with a qualifier or none: its first three tokens
abbrev pub any_var_by : Option Kind → Option Kind → Option Kind → Bool
any_var_by (Some (k.VarId q n)) second third = true
any_var_by (Some k.Open) second third = is_sym second && is_close third
any_var_by _ second third = false

unfoldable pub any_var_next : List Sym → Bool
any_var_next ss = any_var_by (kind ss) (kind (after ss)) (kind (after (after ss)))

-- a constructor as an operand comes next: its first three tokens, since a constructor operator behind `(` begins a section where no `)` follows it
abbrev pub con_next_by : Option Kind → Option Kind → Option Kind → Bool
con_next_by (Some k.Open) (Some (k.ConSym q n)) third = is_close third
con_next_by first second third = gen_con_by first second

unfoldable pub con_next : List Sym → Bool
con_next ss = con_next_by (kind ss) (kind (after ss)) (kind (after (after ss)))

-- what stands behind a variable that comes next: one token, or three where it stands between parentheses
abbrev pub behind_var_by : Option Kind → List Sym → Option Kind
behind_var_by (Some k.Open) ss = kind (after (after (after ss)))
behind_var_by _ ss = kind (after ss)

unfoldable pub behind_var : List Sym → Option Kind
behind_var ss = behind_var_by (kind ss) ss

-- a variable and `{|` come next
unfoldable pub call_next : List Sym → Bool
call_next ss = any_var_next ss && is_banana (behind_var ss)

-- an operator begins
abbrev pub is_op : Option Kind → Bool
is_op (Some (k.VarSym q n)) = true
is_op (Some (k.ConSym q n)) = true
is_op (Some k.Colon) = true
is_op (Some k.Backquote) = true
is_op _ = false

abbrev pub is_minus : Option Kind → Bool
is_minus (Some (k.VarSym None n)) = n.0 == MINUS.0
is_minus _ = false

-- what stands behind an operator that comes next: one token, or three where it stands between backquotes
abbrev pub behind_op_by : Option Kind → List Sym → Option Kind
behind_op_by (Some k.Backquote) ss = kind (after (after (after ss)))
behind_op_by _ ss = kind (after ss)

unfoldable pub behind_op : List Sym → Option Kind
behind_op ss = behind_op_by (kind ss) ss

-- an operator comes next that is not the last of a section
unfoldable pub goes_on : List Sym → Bool
goes_on ss = is_op (kind ss) && not (is_close (behind_op ss))

-- an operator comes next that is not a minus sign
abbrev pub right_next : List Sym → Bool
right_next ss = is_op (kind ss) && not (is_minus (kind ss))

abbrev pub quoted_by : Option Kind → Span → Read Op
quoted_by (Some (k.VarId q n)) a = next >>= λ m. expect is_backquote >>= λ b. pure (n_Op.Var (n_VarOp.Quoted a (record { span = m; qualifier = q; id = n }) b))
quoted_by (Some (k.ConId q n)) a = next >>= λ m. expect is_backquote >>= λ b. pure (n_Op.Con (n_ConOp.Quoted a (record { span = m; qualifier = q; id = n }) b))
quoted_by _ a = fail

unfoldable pub quoted : Span → Read Op
quoted a = peek >>= λ kind. quoted_by kind a

abbrev pub op_by : Option Kind → Read Op
op_by (Some (k.VarSym q n)) = next >>= λ a. pure (n_Op.Var (n_VarOp.Symbol (record { span = a; qualifier = q; id = n })))
op_by (Some (k.ConSym q n)) = next >>= λ a. pure (n_Op.Con (n_ConOp.Symbol (record { span = a; qualifier = q; id = n })))
op_by (Some k.Colon) = next >>= λ a. pure (n_Op.Con (n_ConOp.Colon a))
op_by (Some k.Backquote) = next >>= quoted
op_by _ = fail

unfoldable pub op : Read Op
op = peek >>= op_by

-- an operator without a qualifier
unfoldable pub defined_op : Read Op
defined_op = op >>= λ o. check (plain_op o) o

-- the minus sign before an operand, where one is written
unfoldable pub minus_sign : Read (Option Span)
minus_sign = λ ss. if is_minus (kind ss) then Some (Some (bytes ss), after ss) else Some (None, ss)
