-- The steps of evaluation of the source: call by name, by substitution, at the place that is demanded (Haskell 98 Report, 3.17.2,
-- for the order in which patterns and rows are tried). Each act named below is one step:
--   a name of the top level unfolds; a function takes one argument;
--   the demand passes from an application to its function, or to the argument that a pattern tests;
--   a constructor is tested against a pattern; a variable of a pattern binds; a row that fails gives way to the next, for
--   which the arguments are what they were before;
--   that no row is left fails; a character is printed.
use Rattle.std.specs.Prelude.{ℕ, suc, Bool, true, false, cond, ◌==◌, ◌&&◌, List, [], ◌∷◌, ◌++◌, Option, Some, None, length}
use Rattle.std.specs.Char.{encode_utf8}
use Rattle.gh_base.specs.declared.place.Origin.{Origin}
use Rattle.gh_base.specs.declared.place.Span.{Span}
use Rattle.gh_core.specs.Primitives.{no_match, nil, cons, same_origin}
use Rattle.gh_core.specs.Reduce.{Status, running, ended, failed, string_con}
use Rattle.gh_core.specs.Run.{Seen}
use Rattle.gh_bindings.specs.Source.{Pattern, pattern_var, pattern_con, Patterns, no_pattern, and_pattern, Expression, var, top, con, char, string, lam, app, cases, whole, Arguments, no_argument, and_argument, Rows, no_row, row, Env, empty, put, close, opened}

-- a row that is half tested: the patterns that are left with what they meet, what its variables are bound to, and its body; and
-- the arguments as they were, with the rows after it
pub record Trying : Type 0 where
  pub todo : List (Pattern × Expression)
  pub bound : Env
  pub body : Expression
  pub place : Span
  pub arguments : Arguments
  pub rows : Rows

pub data Focus : Type 0 where
  eval : (e : Expression) → Focus
  trying : (t : Trying) → Focus
  -- a row that has failed
  lost : (t : Trying) → Focus

-- what waits for the expression that is demanded
pub data Frame : Type 0 where
  -- it is applied to this
  arg : (e : Expression) → Frame
  -- it is tested against this constructor and the patterns of its fields
  testing : (c : Origin) (ps : Patterns) (t : Trying) → Frame
  -- it is a character to print, and these come after it
  printing : (rest : Expression) → Frame

-- what is at work, what waits for it, the innermost first, and the bytes that were printed
pub record State : Type 0 where
  pub focus : Focus
  pub stack : List Frame
  pub out : List ℕ
  pub status : Status

abbrev pub seen : State → Seen
seen s = record { out = s.out; status = s.status }

abbrev pub with_status : Status → State → State
with_status status s = record { focus = s.focus; stack = s.stack; out = s.out; status = status }

abbrev pub go : Focus → List Frame → List ℕ → State
go f stack out = record { focus = f; stack = stack; out = out; status = running }

-- the arguments that wait, the first first, and what waits behind them
abbrev pub args_of : List Frame → List Expression
args_of [] = []
args_of (arg e ∷ stack) = e ∷ args_of stack
args_of (testing c ps t ∷ stack) = []
args_of (printing rest ∷ stack) = []

abbrev pub after_args : List Frame → List Frame
after_args [] = []
after_args (arg e ∷ stack) = after_args stack
after_args (testing c ps t ∷ stack) = testing c ps t ∷ stack
after_args (printing rest ∷ stack) = printing rest ∷ stack

-- a string counts as its list of characters
abbrev pub string_args : List ℕ → List Expression
string_args [] = []
string_args (c ∷ cs) = char c ∷ string cs ∷ []

-- the printed list as far as it is known: at its end the run has ended, and at a cell the character is demanded
abbrev pub list_cell : Bool → Bool → List Expression → List ℕ → State → State
list_cell true isCons [] out s = with_status ended s
list_cell true isCons (e ∷ es) out s = s
list_cell false true (e ∷ rest ∷ []) out s = go (eval (opened e)) (printing rest ∷ []) out
list_cell false true [] out s = s
list_cell false true (e ∷ []) out s = s
list_cell false true (e ∷ rest ∷ x ∷ es) out s = s
list_cell false false es out s = s

abbrev pub listed : Origin → List Expression → List Frame → List ℕ → State → State
listed c es [] out s = list_cell (same_origin c nil) (same_origin c cons) es out s
listed c es (fr ∷ stack) out s = s

abbrev pub settled : Expression → List Frame → List ℕ → State → State
settled (con c) stack out s = listed c (args_of stack) (after_args stack) out s
settled (string cs) stack out s = listed (string_con cs) (string_args cs) stack out s
settled (var x) stack out s = s
settled (top name) stack out s = s
settled (char c) stack out s = s
settled (lam x body) stack out s = s
settled (app f e) stack out s = s
settled (cases place es rows) stack out s = s
settled (whole e) stack out s = s

-- the demand of an expression. Where nothing waits, it is the list that is printed
abbrev pub demand : Expression → List Frame → List ℕ → State
demand e stack out = settled (opened e) stack out (go (eval (opened e)) stack out)

-- the first definition of this name
abbrev pub defined : List (Origin × Expression) → Origin → Option Expression
defined [] name = None
defined (d ∷ ds) name = cond (same_origin d.0 name) (Some d.1) (defined ds name)

abbrev pub unfold_name : Option Expression → List Frame → List ℕ → State → State
unfold_name None stack out s = s
unfold_name (Some e) stack out s = demand e stack out

-- a function with its argument
abbrev pub enter : ℕ → Expression → List Frame → List ℕ → State → State
enter x body [] out s = s
enter x body (arg e ∷ stack) out s = demand (close body (put empty x e)) stack out
enter x body (testing c ps t ∷ stack) out s = s
enter x body (printing rest ∷ stack) out s = s

-- a row goes on with these patterns and bindings; where no pattern is left, its body is demanded
abbrev pub next : List (Pattern × Expression) → Env → Trying → List Frame → List ℕ → State
next [] bound t stack out = demand (close t.body bound) stack out
next (p ∷ todo) bound t stack out = go (trying (record { todo = p ∷ todo; bound = bound; body = t.body; place = t.place; arguments = t.arguments; rows = t.rows })) stack out

abbrev pub try_pattern : Pattern → Expression → List (Pattern × Expression) → Trying → List Frame → List ℕ → State
try_pattern (pattern_var x) e todo t stack out = next todo (put t.bound x e) t stack out
try_pattern (pattern_con c ps) e todo t stack out =
    demand e (testing c ps (record { todo = todo; bound = t.bound; body = t.body; place = t.place; arguments = t.arguments; rows = t.rows }) ∷ stack) out

abbrev pub try_todo : List (Pattern × Expression) → Trying → List Frame → List ℕ → State
try_todo [] t stack out = demand (close t.body t.bound) stack out
try_todo (p ∷ todo) t stack out = try_pattern p.0 p.1 todo t stack out

-- patterns with what they meet
abbrev pub meet : Patterns → List Expression → List (Pattern × Expression) → List (Pattern × Expression)
meet no_pattern es todo = todo
meet (and_pattern p ps) [] todo = todo
meet (and_pattern p ps) (e ∷ es) todo = (p, e) ∷ meet ps es todo

abbrev pub count : Patterns → ℕ
count no_pattern = 0
count (and_pattern p ps) = suc (count ps)

abbrev pub list_of : Arguments → List Expression
list_of no_argument = []
list_of (and_argument e es) = e ∷ list_of es

-- the first row is tried
abbrev pub first_row : Span → Arguments → Rows → List Frame → List ℕ → State → State
first_row place es no_row stack out s = with_status (failed no_match place) s
first_row place es (row ps body rest) stack out s =
    let todo = meet ps (list_of es) [] in
    try_todo todo (record { todo = todo; bound = empty; body = body; place = place; arguments = es; rows = rest }) stack out

-- a constructor with its fields is tested against a constructor with patterns
abbrev pub receive : Origin → List Expression → Origin → Patterns → Trying → List Frame → List ℕ → State
receive d es c ps t stack out = cond (same_origin d c && (count ps == length es)) (next (meet ps es t.todo) t.bound t stack out) (go (lost t) stack out)

-- a constructor with its fields, and what waits for it
abbrev pub give : Origin → List Expression → List Frame → List ℕ → State → State
give d es [] out s = s
give d es (arg e ∷ stack) out s = s
give d es (testing c ps t ∷ stack) out s = receive d es c ps t stack out
give d es (printing rest ∷ stack) out s = s

-- a character that is printed
abbrev pub print : ℕ → List Frame → List ℕ → State → State
print c [] out s = s
print c (arg e ∷ stack) out s = s
print c (testing d ps t ∷ stack) out s = s
print c (printing rest ∷ stack) out s = demand rest stack (out ++ encode_utf8 c)

abbrev pub act_eval : List (Origin × Expression) → Expression → List Frame → List ℕ → State → State
act_eval defs (var x) stack out s = s
act_eval defs (top name) stack out s = unfold_name (defined defs name) stack out s
act_eval defs (con c) stack out s = give c (args_of stack) (after_args stack) out s
act_eval defs (char c) stack out s = print c stack out s
act_eval defs (string cs) stack out s = give (string_con cs) (string_args cs) stack out s
act_eval defs (lam x body) stack out s = enter x body stack out s
act_eval defs (app f e) stack out s = demand f (arg e ∷ stack) out
act_eval defs (cases place es rows) stack out s = first_row place es rows stack out s
act_eval defs (whole e) stack out s = s

abbrev pub act_focus : List (Origin × Expression) → Focus → List Frame → List ℕ → State → State
act_focus defs (eval e) stack out s = act_eval defs e stack out s
act_focus defs (trying t) stack out s = try_todo t.todo t stack out
act_focus defs (lost t) stack out s = demand (cases t.place t.arguments t.rows) stack out

abbrev pub act_in : List (Origin × Expression) → Status → State → State
act_in defs running s = act_focus defs s.focus s.stack s.out s
act_in defs ended s = s
act_in defs (failed cause place) s = s

-- one step in a program with these definitions; where no act applies, and where the run is over, the state stays
abbrev pub act : List (Origin × Expression) → State → State
act defs s = act_in defs s.status s
