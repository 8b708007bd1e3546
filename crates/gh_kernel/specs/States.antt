-- States of the type-passing meaning, and the place that is demanded.
use Rattle.std.specs.Prelude.{ℕ, Bool, true, false, List, [], ◌∷◌}
use Rattle.gh_base.specs.declared.place.Origin.{Origin}
use Rattle.gh_base.specs.declared.place.Span.{Span}
use Rattle.gh_core.specs.Primitives.{Unary, Binary, same_origin, nil, cons}
use Rattle.gh_core.specs.Reduce.{Status, running, ended, string_con}
use Rattle.gh_core.specs.Terms.{Literal, char}
use Rattle.gh_kernel.specs.Closing.{Env, empty}
use Rattle.gh_kernel.specs.Programs.{Exp}
use Rattle.gh_kernel.specs.Terms.{Pat, Pats, no_pat, pat, var, top, con, lit, string, lam, app, lets, cases, call, redef, ann, whole, contents, convert, Exprs, no_expr, expr, Groups, Rows, no_row, row, Bodies, no_body, always, guarded}

-- what a case goes on with where the row at hand fails: the rows after it, on the arguments as they were
pub record Rest : Type 0 where
  pub place : Span
  pub args : Exprs Span
  pub rows : Rows Span

-- a row that is being matched
pub record Trial : Type 0 where
  -- the patterns that are still to be matched, with the terms that they meet
  pub todo : List (Pat Span × Exp)
  -- the variables that are bound so far
  pub bound : Env Span
  pub groups : Groups Span
  pub bodies : Bodies Span
  pub rest : Rest

-- what is done next
pub data Focus : Type 0 where
  -- a term is evaluated
  eval : (e : Exp) → Focus
  -- a row is matched, or its groups are entered
  matching : (t : Trial) → Focus
  -- a row has failed
  falling : (r : Rest) → Focus

-- what waits for the term that is evaluated
pub data Waiting : Type 0 where
  -- it is applied to this
  arg : (e : Exp) → Waiting
  -- what stands under this constructor of a newtype goes on
  under : (c : Origin) → Waiting
  -- it is tested against this constructor, whose arguments then meet the patterns
  tested : (c : Origin) (ps : Pats Span) (t : Trial) → Waiting
  -- it is tested against this literal
  compared : (l : Literal) (t : Trial) → Waiting
  -- it decides whether this goes on, or else the bodies after it
  decides : (e : Exp) (more : Bodies Span) (r : Rest) → Waiting
  -- it is the operand of a primitive
  only : (u : Unary) (place : Span) → Waiting
  -- it is the first operand, and this the second
  first : (b : Binary) (place : Span) (e : Exp) → Waiting
  -- it is the second operand, and this the first
  second : (b : Binary) (place : Span) (l : Literal) → Waiting
  -- it is a character to print, and these come after it
  printing : (rest : Exp) → Waiting

-- what is done, what waits for it, the innermost first, and the bytes that were printed
pub record State : Type 0 where
  pub focus : Focus
  pub stack : List Waiting
  pub out : List ℕ
  pub status : Status

abbrev pub at : Focus → List Waiting → List ℕ → State
at focus stack out = record { focus = focus; stack = stack; out = out; status = running }

abbrev pub with_status : Status → State → State
with_status status s = record { focus = s.focus; stack = s.stack; out = s.out; status = status }

-- the patterns with what they meet
abbrev pub meet : {E : Type 0} → Pats Span → List E → List (Pat Span × E) → List (Pat Span × E)
meet no_pat es todo = todo
meet (pat p ps) [] todo = todo
meet (pat p ps) (e ∷ es) todo = (p, e) ∷ meet ps es todo

abbrev pub listed : Exprs Span → List Exp
listed no_expr = []
listed (expr e rest) = e ∷ listed rest

abbrev pub trial : List (Pat Span × Exp) → Groups Span → Bodies Span → Span → Exprs Span → Rows Span → Trial
trial todo gs bs n es rest = record { todo = todo; bound = empty; groups = gs; bodies = bs; rest = record { place = n; args = es; rows = rest } }

-- a case begins with its first row
abbrev pub begin_rows : Span → Exprs Span → Rows Span → Focus
begin_rows n es no_row = falling (record { place = n; args = es; rows = no_row })
begin_rows n es (row ps gs bs rest) = matching (trial (meet ps (listed es) []) gs bs n es rest)

-- what is done for a term that is demanded: marks and annotations cost nothing, and a case is at its first row
abbrev pub reach : Exp → Focus
reach (whole e) = reach e
reach (ann n e s) = reach e
reach (cases n es rows) = begin_rows n es rows
reach (var n x) = eval (var n x)
reach (top n x) = eval (top n x)
reach (con n c) = eval (con n c)
reach (lit n l) = eval (lit n l)
reach (string n cs) = eval (string n cs)
reach (lam n x body) = eval (lam n x body)
reach (app n f e) = eval (app n f e)
reach (lets n gs body) = eval (lets n gs body)
reach (call n w t) = eval (call n w t)
reach (redef n k text table body) = eval (redef n k text table body)
reach (contents c e) = eval (contents c e)
reach (convert n d h generic t) = eval (convert n d h generic t)

-- the arguments that wait, the first first, and what waits behind them
abbrev pub args_of : List Waiting → List Exp
args_of (arg e ∷ stack) = e ∷ args_of stack
args_of stack = []

abbrev pub after_args : List Waiting → List Waiting
after_args (arg e ∷ stack) = after_args stack
after_args stack = stack

-- a string counts as its list of characters
abbrev pub string_args : Span → List ℕ → List Exp
string_args n [] = []
string_args n (c ∷ cs) = lit n (char c) ∷ string n cs ∷ []

-- the printed list as far as it is known: at its end the run has ended, and at a cell the character is demanded
abbrev pub list_cell : Bool → Bool → List Exp → State → State
list_cell true isCons [] s = with_status ended s
list_cell false true (e ∷ rest ∷ []) s = at (reach e) (printing rest ∷ []) s.out
list_cell isNil isCons es s = s

abbrev pub printed_list : Origin → List Exp → List Waiting → State → State
printed_list c es [] s = list_cell (same_origin c nil) (same_origin c cons) es s
printed_list c es (w ∷ ws) s = s

abbrev pub settled_at : Focus → State → State
settled_at (eval (con n c)) s = printed_list c (args_of s.stack) (after_args s.stack) s
settled_at (eval (string n cs)) s = printed_list (string_con cs) (string_args n cs) s.stack s
settled_at focus s = s

-- where nothing waits, a term is the list that is printed
abbrev pub settled : State → State
settled s = settled_at s.focus s

-- the demand of a term
abbrev pub demand : Exp → List Waiting → List ℕ → State
demand e stack out = settled (at (reach e) stack out)

-- the demand of a row's bodies: of the first guard, or of a body without one; where none is left, the row has failed
abbrev pub choose : Bodies Span → Rest → List Waiting → List ℕ → State
choose no_body r stack out = at (falling r) stack out
choose (always e more) r stack out = demand e stack out
choose (guarded g e more) r stack out = demand g (decides e more r ∷ stack) out
