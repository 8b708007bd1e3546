-- How declarations of the top are read.
use Rattle.std.specs.Prelude.{Bool, true, false, ◌&&◌, if◌then◌else◌, List, [], ◌∷◌, Option, Some, None}
use Rattle.gh_base.specs.declared.place.Span.{Span}
use Rattle.gh_tree.specs.declared.symbol.Kind.{Kind}
use Rattle.gh_tree.specs.declared.symbol.Kind.TheVariants as k
use Rattle.gh_tree.specs.declared.symbol.Sym.{Sym}
use Rattle.gh_tree.specs.declared.names.Con.{Con}
use Rattle.gh_tree.specs.declared.names.Con.TheVariants as n_Con
use Rattle.gh_tree.specs.declared.names.Var.{Var}
use Rattle.gh_tree.specs.declared.types.ArgType.{ArgType, out-ArgType}
use Rattle.gh_tree.specs.declared.types.Arrow.{Arrow}
use Rattle.gh_tree.specs.declared.types.BType.{BType, out-BType}
use Rattle.gh_tree.specs.declared.types.TypeExpr.{TypeExpr}
use Rattle.gh_tree.specs.declared.types.TypePart.{TypePart}
use Rattle.gh_tree.specs.declared.types.ArgType.TheOpen.{ArgType-F}
use Rattle.gh_tree.specs.declared.tops.Top.{Top}
use Rattle.gh_tree.specs.declared.tops.Top.TheVariants as v_Top
use Rattle.gh_tree.specs.declared.tops.Constr.{Constr}
use Rattle.gh_tree.specs.declared.tops.Constr.TheVariants as v_Constr
use Rattle.gh_tree.specs.declared.tops.NextConstr.{NextConstr}
use Rattle.gh_tree.specs.Print.{plain, plain_con_op}
use Rattle.gh_tree.specs.Read.{Read, ◌>>=◌, pure, fail, check, kind, after, peek, next, expect, here, since, all}
use Rattle.gh_tree.specs.ReadNames.{var_next, var, con_op_next, con_op}
use Rattle.gh_tree.specs.ReadExports.{any_var, con, module_name}
use Rattle.gh_tree.specs.ReadTypes.{arg_type, arg_types, btype}
use Rattle.gh_tree.specs.ReadPatterns.{args}
use Rattle.gh_parse_exps.specs.Knot.{Knot}
use Rattle.gh_parse_exps.specs.Ops.{is_banana, any_var_next}
use Rattle.gh_parse_exps.specs.Marks.{is_equals, is_colons, is_close_banana, bar_next}
use Rattle.gh_parse_exps.specs.Decls.{rhs, decl}
use Rattle.gh_parse_tops.specs.Generics.{words, gen_vars, context, gen_vars_next, is_extends}

abbrev pub is_con_sym : Option Kind → Bool
is_con_sym (Some (k.ConSym q n)) = true
is_con_sym _ = false

-- a constructor operator between parentheses comes next
abbrev pub is_open_by : Option Kind → Option Kind → Bool
is_open_by (Some k.Open) second = is_con_sym second
is_open_by _ second = false

unfoldable pub symbol_next : List Sym → Bool
symbol_next ss = is_open_by (kind ss) (kind (after ss))

-- the constructor and the fields that an applied type stands for
abbrev pub fields_by : ArgType-F ArgType Arrow BType TypeExpr TypePart → List ArgType → Option (Con × List ArgType)
fields_by (ArgType-F.Con n) ts = if plain n then Some (n_Con.Word n, ts) else None
fields_by _ ts = None

unfoldable pub fields_of : BType → Option (Con × List ArgType)
fields_of x = fields_by (out-ArgType (out-BType x).head) (out-BType x).args

abbrev pub prefix_or : Option (Con × List ArgType) → Span → Read Constr
prefix_or None s = fail
prefix_or (Some c) s = pure (v_Constr.Prefix s c.0 c.1)

-- a constructor between its fields: behind the first an operator without a qualifier, and the second
module _ (T : Read TypeExpr) where
  unfoldable pub infix_constr : List Sym → BType → Read Constr
  infix_constr start l = do
    o ← con_op
    r ← btype T
    s ← since start
    check (plain_con_op o) (v_Constr.Infix s l o r)

  unfoldable pub prefix_constr : List Sym → BType → Read Constr
  prefix_constr start l = since start >>= prefix_or (fields_of l)

  abbrev pub behind_btype : List Sym → BType → Read Constr
  behind_btype start l = λ ss. if con_op_next ss then infix_constr start l ss else prefix_constr start l ss

  unfoldable pub symbol_constr : List Sym → Read Constr
  symbol_constr start = do
    c ← con
    ts ← arg_types T
    s ← since start
    pure (v_Constr.Prefix s c ts)

  unfoldable pub other_constr : List Sym → Read Constr
  other_constr start = btype T >>= behind_btype start

  unfoldable pub constr : Read Constr
  constr = λ ss. if symbol_next ss then symbol_constr ss ss else other_constr ss ss

  unfoldable pub next_constr : Read NextConstr
  next_constr = do
    m ← next
    c ← constr
    pure (record { mark = m; constr = c })

  unfoldable pub next_constrs : Read (List NextConstr)
  next_constrs = all bar_next next_constr

  unfoldable pub synonym : List Sym → Read Top
  synonym start = do
    a ← next
    n ← module_name
    ps ← words
    m ← expect is_equals
    t ← T
    s ← since start
    pure (v_Top.Synonym s a n ps m t)

  unfoldable pub datatype : List Sym → Read Top
  datatype start = do
    a ← next
    n ← module_name
    ps ← words
    m ← expect is_equals
    c ← constr
    cs ← next_constrs
    s ← since start
    pure (v_Top.Data s a n ps m c cs)

  unfoldable pub newtype : List Sym → Read Top
  newtype start = do
    a ← next
    n ← module_name
    ps ← words
    m ← expect is_equals
    c ← con
    t ← arg_type T
    s ← since start
    pure (v_Top.Newtype s a n ps m c t)

  -- the signature of a generic function, behind its name
  unfoldable pub gen_signature : List Sym → Var → Read Top
  gen_signature start v = do
    vs ← gen_vars
    m ← expect is_colons
    c ← context
    t ← T
    s ← since start
    pure (v_Top.Signature s v vs m c t)

-- a generic function that extends another
unfoldable pub extension : List Sym → Read Top
extension start = do
  v ← var
  m ← next
  w ← any_var
  s ← since start
  pure (v_Top.Extends s v m w)

-- what stands behind a variable that comes next
abbrev pub after_var_by : Option Kind → List Sym → List Sym
after_var_by (Some k.Open) ss = after (after (after ss))
after_var_by _ ss = after ss

unfoldable pub after_var : List Sym → List Sym
after_var ss = after_var_by (kind ss) ss

abbrev pub is_end : List Sym → Bool
is_end [] = true
is_end (s ∷ ss) = false

-- a variable, `extends` and a variable come next, and nothing behind them
abbrev pub last_var : List Sym → Bool
last_var ss = any_var_next ss && is_end (after_var ss)

unfoldable pub extension_next : List Sym → Bool
extension_next ss = var_next ss && (is_extends (kind (after_var ss)) && last_var (after (after_var ss)))

-- a variable without a qualifier and `{|` come next
unfoldable pub generic_next : List Sym → Bool
generic_next ss = var_next ss && is_banana (kind (after_var ss))

module _ (K : Knot) where
  -- a case of a generic function, behind its name
  unfoldable pub gen_case : List Sym → Var → Read Top
  gen_case start v = do
    a ← expect is_banana
    t ← K.typ
    b ← expect is_close_banana
    ps ← args K.arg
    r ← rhs K
    s ← since start
    pure (v_Top.Case s v a t b ps r)

  abbrev pub gen_behind : List Sym → Var → Read Top
  gen_behind start v = λ ss. if gen_vars_next ss then gen_signature K.typ start v ss else gen_case start v ss

  -- a signature or a case of a generic function
  unfoldable pub generic : List Sym → Read Top
  generic start = var >>= gen_behind start

  abbrev pub plain_top : Read Top
  plain_top = decl K >>= λ d. pure (v_Top.Decl d)

  abbrev pub other_top : List Sym → Read Top
  other_top start = λ ss. if generic_next ss then generic start ss else (if extension_next ss then extension start ss else plain_top ss)

  abbrev pub top_by : Option Kind → List Sym → Read Top
  top_by (Some k.TypeWord) start = synonym K.typ start
  top_by (Some k.Data) start = datatype K.typ start
  top_by (Some k.Newtype) start = newtype K.typ start
  top_by _ start = other_top start

  -- a declaration of the top
  unfoldable pub top : Read Top
  top = here >>= λ start. peek >>= λ kind. top_by kind start
