-- How declarations are read.
use Rattle.std.specs.Prelude.{ℕ, Bool, true, false, not, ◌&&◌, nat_lt, if◌then◌else◌, List, Option, Some, None}
use Rattle.gh_base.specs.declared.place.Span.{Span}
use Rattle.gh_tree.specs.declared.symbol.Kind.{Kind}
use Rattle.gh_tree.specs.declared.symbol.Kind.TheVariants as k
use Rattle.gh_tree.specs.declared.symbol.Sym.{Sym}
use Rattle.gh_tree.specs.declared.names.BlockMark.{BlockMark}
use Rattle.gh_tree.specs.declared.names.FixityWord.{FixityWord}
use Rattle.gh_tree.specs.declared.names.FixityWord.TheVariants as n_FixityWord
use Rattle.gh_tree.specs.declared.names.NextVar.{NextVar}
use Rattle.gh_tree.specs.declared.names.NextOp.{NextOp}
use Rattle.gh_tree.specs.declared.expressions.Aexp.{Aexp}
use Rattle.gh_tree.specs.declared.expressions.Alt.{Alt}
use Rattle.gh_tree.specs.declared.expressions.AltGuard.{AltGuard}
use Rattle.gh_tree.specs.declared.expressions.AltItem.{AltItem}
use Rattle.gh_tree.specs.declared.expressions.Alts.{Alts}
use Rattle.gh_tree.specs.declared.expressions.Decl.{Decl}
use Rattle.gh_tree.specs.declared.expressions.Decl.TheVariants as v_Decl
use Rattle.gh_tree.specs.declared.expressions.DeclItem.{DeclItem, roll-DeclItem}
use Rattle.gh_tree.specs.declared.expressions.Decls.{Decls, roll-Decls}
use Rattle.gh_tree.specs.declared.expressions.Exp.{Exp, out-Exp}
use Rattle.gh_tree.specs.declared.expressions.Guard.{Guard, roll-Guard}
use Rattle.gh_tree.specs.declared.expressions.Locals.{Locals}
use Rattle.gh_tree.specs.declared.expressions.NextOperand.{NextOperand}
use Rattle.gh_tree.specs.declared.expressions.Open.{Open}
use Rattle.gh_tree.specs.declared.expressions.Operand.{Operand}
use Rattle.gh_tree.specs.declared.expressions.OperandList.{OperandList}
use Rattle.gh_tree.specs.declared.expressions.Part.{Part}
use Rattle.gh_tree.specs.declared.expressions.Redef.{Redef}
use Rattle.gh_tree.specs.declared.expressions.RedefItem.{RedefItem}
use Rattle.gh_tree.specs.declared.expressions.Redefs.{Redefs}
use Rattle.gh_tree.specs.declared.expressions.Rhs.{Rhs}
use Rattle.gh_tree.specs.declared.expressions.Rhs.TheVariants as v_Rhs
use Rattle.gh_tree.specs.declared.expressions.Where.{Where}
use Rattle.gh_tree.specs.declared.expressions.Where.TheVariants as v_Where
use Rattle.gh_tree.specs.declared.expressions.Aexp.TheOpen.{Exp-F}
use Rattle.gh_tree.specs.Print as printed
use Rattle.gh_tree.specs.Read.{Read, ◌>>=◌, pure, fail, check, peek, next, expect, here, since, all, comma_next}
use Rattle.gh_tree.specs.ReadNames.{var_next, var}
use Rattle.gh_parse_lefts.specs.declared.sides.Left.{Left}
use Rattle.gh_parse_lefts.specs.declared.sides.Left.TheVariants as v_Left
use Rattle.gh_parse_exps.specs.Knot.{Knot}
use Rattle.gh_parse_exps.specs.Ops.{behind_var, defined_op}
use Rattle.gh_parse_exps.specs.Marks.{is_equals, is_bar, is_colons, bar_next, block_open, block_close, semis, begins_part, part_ends}

-- ---- signatures and fixities

abbrev pub fixity_word_by : Option Kind → Read FixityWord
fixity_word_by (Some k.Infixl) = next >>= λ a. pure (n_FixityWord.Left a)
fixity_word_by (Some k.Infixr) = next >>= λ a. pure (n_FixityWord.Right a)
fixity_word_by (Some k.Infix) = next >>= λ a. pure (n_FixityWord.Neither a)
fixity_word_by _ = fail

unfoldable pub fixity_word : Read FixityWord
fixity_word = peek >>= fixity_word_by

abbrev pub level_by : Option Kind → Read (Option (Span × ℕ))
level_by (Some (k.Int n)) = next >>= λ a. check (nat_lt n 10) (Some (a, n))
level_by _ = pure None

unfoldable pub level : Read (Option (Span × ℕ))
level = peek >>= level_by

unfoldable pub next_op : Read NextOp
next_op = do
  m ← next
  o ← defined_op
  pure (record { mark = m; op = o })

unfoldable pub next_ops : Read (List NextOp)
next_ops = all comma_next next_op

unfoldable pub fixity : List Sym → Read Decl
fixity start = do
  w ← fixity_word
  l ← level
  o ← defined_op
  os ← next_ops
  s ← since start
  pure (v_Decl.Fixity s w l o os)

unfoldable pub next_var : Read NextVar
next_var = do
  m ← next
  v ← var
  pure (record { mark = m; var = v })

unfoldable pub next_vars : Read (List NextVar)
next_vars = all comma_next next_var

-- what stands behind the first variable of a signature
abbrev pub signs : Option Kind → Bool
signs (Some k.Comma) = true
signs (Some k.Colons) = true
signs _ = false

unfoldable pub signature_next : List Sym → Bool
signature_next ss = var_next ss && signs (behind_var ss)

-- the declaration of a left side and a right side, with its bytes
abbrev pub decl_of : Left → Span → Rhs → Decl
decl_of (v_Left.Function f) s r = v_Decl.Function s f r
decl_of (v_Left.Pattern p) s r = v_Decl.Pattern s p r

-- the end of a block, behind its declarations
abbrev pub decls_closed : List Sym → BlockMark → List BlockMark → List DeclItem → Read Decls
decls_closed start a ms ds =
    block_close >>= λ b. since start >>= λ s. pure (roll-Decls (record { span = s; «open» = a; before = ms; decls = ds; close = b }))

-- a declaration with each `;` behind it
abbrev pub decl_item_of : Decl → List BlockMark → DeclItem
decl_item_of d ms = roll-DeclItem (record { decl = d; marks = ms })

-- ---- operands without a type

abbrev pub plain_by : Exp-F Aexp Alt Decl Exp Locals Open Operand Rhs Where AltGuard AltItem Alts DeclItem Decls Guard NextOperand OperandList Part Redef RedefItem Redefs → Option OperandList
plain_by (Exp-F.Exp::Plain xs) = Some xs
plain_by (Exp-F.Typed s xs m t) = None

-- the operands of an expression that has no type
unfoldable pub plain_of : Exp → Option OperandList
plain_of e = plain_by (out-Exp e)

abbrev pub plain_or : Option OperandList → Read OperandList
plain_or None = fail
plain_or (Some xs) = pure xs

-- operands that end with none that goes on to the right
abbrev pub closed_or : Option OperandList → Read OperandList
closed_or None = fail
closed_or (Some xs) = check (not (printed.operands xs).is_open) xs

module _ (K : Knot) where
  unfoldable pub plain : Read OperandList
  plain = K.exp >>= λ e. plain_or (plain_of e)

  unfoldable pub closed : Read OperandList
  closed = K.exp >>= λ e. closed_or (plain_of e)

  unfoldable pub signature : List Sym → Read Decl
  signature start = do
    v ← var
    vs ← next_vars
    m ← expect is_colons
    t ← K.typ
    s ← since start
    pure (v_Decl.Signature s v vs m t)

  -- ---- right sides

  unfoldable pub where_block : Read Where
  where_block = do
    m ← next
    ds ← K.decls
    pure (v_Where.Block m ds)

  abbrev pub where_by : Option Kind → Read Where
  where_by (Some k.Where) = where_block
  where_by _ = pure v_Where.Absent

  unfoldable pub where_part : Read Where
  where_part = peek >>= where_by

  unfoldable pub guard : Read Guard
  guard = do
    start ← here
    a ← expect is_bar
    test ← closed
    m ← expect is_equals
    e ← K.exp
    s ← since start
    pure (roll-Guard (record { span = s; bar = a; test = test; mark = m; body = e }))

  unfoldable pub guards : Read (List Guard)
  guards = all bar_next guard

  unfoldable pub plain_rhs : List Sym → Read Rhs
  plain_rhs start = do
    m ← next
    e ← K.exp
    w ← where_part
    s ← since start
    pure (v_Rhs.Plain s m e w)

  unfoldable pub guarded_rhs : List Sym → Read Rhs
  guarded_rhs start = do
    g ← guard
    gs ← guards
    w ← where_part
    s ← since start
    pure (v_Rhs.Guarded s g gs w)

  abbrev pub rhs_by : Option Kind → List Sym → Read Rhs
  rhs_by (Some k.Equals) start = plain_rhs start
  rhs_by _ start = guarded_rhs start

  unfoldable pub rhs : Read Rhs
  rhs = here >>= λ start. peek >>= λ kind. rhs_by kind start

  -- ---- declarations

  abbrev pub sided_by : Left → List Sym → Read Decl
  sided_by (v_Left.Function f) start = rhs >>= λ r. since start >>= λ s. pure (v_Decl.Function s f r)
  sided_by (v_Left.Pattern p) start = rhs >>= λ r. since start >>= λ s. pure (v_Decl.Pattern s p r)

  -- a left side and a right side
  unfoldable pub sided : List Sym → Read Decl
  sided start = K.left >>= λ l. sided_by l start

  abbrev pub other_decl : List Sym → Read Decl
  other_decl start = λ ss. if signature_next ss then signature start ss else sided start ss

  abbrev pub decl_by : Option Kind → List Sym → Read Decl
  decl_by (Some k.Infixl) start = fixity start
  decl_by (Some k.Infixr) start = fixity start
  decl_by (Some k.Infix) start = fixity start
  decl_by _ start = other_decl start

  unfoldable pub decl : Read Decl
  decl = here >>= λ start. peek >>= λ kind. decl_by kind start

  unfoldable pub decl_item : Read DeclItem
  decl_item = do
    d ← decl
    ms ← semis
    part_ends ms (roll-DeclItem (record { decl = d; marks = ms }))

  unfoldable pub decl_items : Read (List DeclItem)
  decl_items = all begins_part decl_item

  -- the declarations of a block behind its first `;`
  unfoldable pub decls_end : List Sym → BlockMark → List BlockMark → Read Decls
  decls_end start a ms = do
    ds ← decl_items
    decls_closed start a ms ds

  unfoldable pub whole_decls : Read Decls
  whole_decls = do
    start ← here
    a ← block_open
    ms ← semis
    decls_end start a ms
