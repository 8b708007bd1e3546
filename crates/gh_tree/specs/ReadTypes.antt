-- How types are read.
use Rattle.std.specs.Prelude.{ℕ, zero, suc, Bool, true, false, not, ◌&&◌, List, Option, Some, None}
use Rattle.gh_base.specs.declared.place.Span.{Span}
use Rattle.gh_tree.specs.declared.symbol.Kind.{Kind}
use Rattle.gh_tree.specs.declared.symbol.Kind.TheVariants as k
use Rattle.gh_tree.specs.declared.symbol.Sym.{Sym}
use Rattle.gh_tree.specs.declared.types.ArgType.{ArgType}
use Rattle.gh_tree.specs.declared.types.ArgType.TheVariants as v_ArgType
use Rattle.gh_tree.specs.declared.types.Arrow.{Arrow, roll-Arrow}
use Rattle.gh_tree.specs.declared.types.BType.{BType, roll-BType}
use Rattle.gh_tree.specs.declared.types.TypeExpr.{TypeExpr, roll-TypeExpr}
use Rattle.gh_tree.specs.declared.types.TypePart.{TypePart, roll-TypePart}
use Rattle.gh_tree.specs.Print.{is_tuple}
use Rattle.gh_tree.specs.Read.{Read, ◌>>=◌, pure, fail, check, kind, peek, next, expect, here, since, all, is_close, is_close_list, is_arrow, comma_next, commas}

abbrev pub begins_arg_by : Option Kind → Bool
begins_arg_by (Some (k.ConId q n)) = true
begins_arg_by (Some (k.VarId None n)) = true
begins_arg_by (Some k.Open) = true
begins_arg_by (Some k.OpenList) = true
begins_arg_by _ = false

abbrev pub begins_arg : List Sym → Bool
begins_arg ss = begins_arg_by (kind ss)

abbrev pub arrow_next : List Sym → Bool
arrow_next ss = is_arrow (kind ss)

unfoldable pub no_tuple : List Sym → Span → Read ArgType
no_tuple start a = do
  cs ← commas
  b ← expect is_close
  s ← since start
  check (is_tuple cs) (v_ArgType.NoTuple s a cs b)

unfoldable pub paren : List Sym → Span → TypeExpr → Read ArgType
paren start a first = do
  b ← expect is_close
  s ← since start
  pure (v_ArgType.Paren s a first b)

unfoldable pub unit : List Sym → Span → Read ArgType
unit start a = do
  b ← next
  s ← since start
  pure (v_ArgType.Unit s a b)

unfoldable pub no_arrow : List Sym → Span → Read ArgType
no_arrow start a = do
  m ← next
  b ← expect is_close
  s ← since start
  pure (v_ArgType.NoArrow s a m b)

unfoldable pub no_list : List Sym → Span → Read ArgType
no_list start a = do
  b ← next
  s ← since start
  pure (v_ArgType.NoList s a b)

unfoldable pub list_end : List Sym → Span → TypeExpr → Read ArgType
list_end start a first = do
  b ← expect is_close_list
  s ← since start
  pure (v_ArgType.List s a first b)

module _ (type_expr : Read TypeExpr) where
  unfoldable pub type_part : Read TypePart
  type_part = do
    m ← next
    part ← type_expr
    pure (roll-TypePart (record { mark = m; part = part }))

  unfoldable pub type_parts : Read (List TypePart)
  type_parts = all comma_next type_part

  unfoldable pub enclosed : List Sym → Span → TypeExpr → Read ArgType
  enclosed start a first = do
    others ← type_parts
    b ← expect is_close
    s ← since start
    check (is_tuple others) (v_ArgType.Tuple s a first others b)

  abbrev pub behind_by : Option Kind → List Sym → Span → TypeExpr → Read ArgType
  behind_by (Some k.Comma) start a first = enclosed start a first
  behind_by _ start a first = paren start a first

  unfoldable pub behind : List Sym → Span → TypeExpr → Read ArgType
  behind start a first = peek >>= λ kind. behind_by kind start a first

  abbrev pub opened_by : Option Kind → List Sym → Span → Read ArgType
  opened_by (Some k.Close) start a = unit start a
  opened_by (Some k.Arrow) start a = no_arrow start a
  opened_by (Some k.Comma) start a = no_tuple start a
  opened_by _ start a = type_expr >>= behind start a

  unfoldable pub opened : List Sym → Span → Read ArgType
  opened start a = peek >>= λ kind. opened_by kind start a

  abbrev pub listed_by : Option Kind → List Sym → Span → Read ArgType
  listed_by (Some k.CloseList) start a = no_list start a
  listed_by _ start a = type_expr >>= list_end start a

  unfoldable pub listed : List Sym → Span → Read ArgType
  listed start a = peek >>= λ kind. listed_by kind start a

  abbrev pub arg_type_by : Option Kind → List Sym → Read ArgType
  arg_type_by (Some (k.ConId q n)) start = next >>= λ a. pure (v_ArgType.Con (record { span = a; qualifier = q; id = n }))
  arg_type_by (Some (k.VarId None n)) start = next >>= λ a. pure (v_ArgType.Var (record { span = a; qualifier = None; id = n }))
  arg_type_by (Some k.Open) start = next >>= opened start
  arg_type_by (Some k.OpenList) start = next >>= listed start
  arg_type_by _ start = fail

  unfoldable pub arg_type : Read ArgType
  arg_type = here >>= λ start. peek >>= λ kind. arg_type_by kind start

  unfoldable pub arg_types : Read (List ArgType)
  arg_types = all begins_arg arg_type

  unfoldable pub btype : Read BType
  btype = do
    start ← here
    head ← arg_type
    args ← arg_types
    s ← since start
    pure (roll-BType (record { span = s; head = head; args = args }))

  unfoldable pub arrow : Read Arrow
  arrow = do
    m ← next
    to ← btype
    pure (roll-Arrow (record { mark = m; to = to }))

  unfoldable pub arrows : Read (List Arrow)
  arrows = all arrow_next arrow

  unfoldable pub whole : Read TypeExpr
  whole = do
    start ← here
    first ← btype
    others ← arrows
    s ← since start
    pure (roll-TypeExpr (record { span = s; first = first; arrows = others }))

-- a type that nests at most so deep
unfoldable pub type_expr : ℕ → Read TypeExpr
type_expr zero = fail
type_expr (suc n) = whole (type_expr n)

-- what can stand behind an applied type, and behind a type: nothing that goes on with it
abbrev pub ends_btype : List Sym → Bool
ends_btype ss = not (begins_arg ss)

abbrev pub ends_type : List Sym → Bool
ends_type ss = not (begins_arg ss) && not (arrow_next ss)
