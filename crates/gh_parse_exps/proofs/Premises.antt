-- What the laws on expressions and declarations take of the readers of what stands inside.
use Rattle.std.proofs.Common.{◌≡◌, ℕ, ◌≤◌, true, false, List, ◌++◌, length}
use Rattle.gh_tree.specs.declared.symbol.Sym.{Sym}
use Rattle.gh_tree.specs.declared.expressions.Exp.{Exp}
use Rattle.gh_tree.specs.declared.expressions.Exp.TheVariants as v_Exp
use Rattle.gh_tree.specs.declared.expressions.OperandList.{OperandList}
use Rattle.gh_tree.specs.Print.{Print}
use Rattle.gh_tree.specs.Print as printed
use Rattle.gh_tree.specs.Read.{Read, taken}
use Rattle.gh_tree.specs.ReadTypes.{ends_type}
use Rattle.gh_tree.specs.ReadPatterns.{ends_arg}
use Rattle.gh_tree.proofs.Many.{Complete, anything}
use Rattle.gh_parse_lefts.specs.Lefts.{left_print, ends_left}
use Rattle.gh_parse_exps.specs.Knot.{Knot}
use Rattle.gh_parse_exps.proofs.Ends.{ends_closed, ends_exp}

-- operands that end with none that goes on to the right, as an expression
abbrev pub ClosedComplete : ℕ → Read Exp → Type 0
ClosedComplete m p = (xs : OperandList) (rest : List Sym) → (printed.operands xs).good ≡ true → (printed.operands xs).is_open ≡ false → length (printed.operands xs).flat ≤ m → ends_closed rest ≡ true
    → p ((printed.operands xs).flat ++ rest) ≡ taken (v_Exp.Plain xs) rest

-- what a well-formed tree of at most so many tokens prints is read
pub record KnotComplete (K : Knot) (m : ℕ) : Type 0 where
  pub exp : Complete printed.exp ends_exp m K.exp
  pub closed : ClosedComplete m K.exp
  pub decls : Complete printed.decls anything m K.decls
  pub typ : Complete printed.type_expr ends_type m K.typ
  pub arg : Complete printed.arg_pattern ends_arg m K.arg
  pub left : Complete left_print ends_left m K.left
