-- Reduction of core by substitution, call by name, one reduction at a time.
use Rattle.std.specs.Prelude.{ℕ, zero, suc, Bool, true, false, cond, ◌==◌, ◌&&◌, List, [], ◌∷◌, ◌++◌, Option, Some, None, length, drop}
use Rattle.std.specs.Char.{encode_utf8}
use Rattle.std.specs.Ordering.{int_eq}
use Rattle.gh_base.specs.declared.place.Origin.{Origin}
use Rattle.gh_base.specs.declared.place.Span.{Span}
use Rattle.gh_base.specs.declared.place.TyCon.{TyCon}
use Rattle.gh_base.specs.declared.place.TyCon.TheVariants.{Named, Arrow, Int, Char, ConOf}
use Rattle.gh_core.specs.declared.terms.CoreName.{CoreName}
use Rattle.gh_core.specs.declared.terms.CoreName.TheVariants.{Plain, Hidden, Component, From, To, Bimap}
use Rattle.gh_core.specs.Terms.{Literal, int, char, Term, var, glob, con, lit, string, prim, lam, app, letrec, cases, stop, whole, contents, con_alt, lit_alt, Alts, no_alt, else_to, alt}
use Rattle.gh_core.specs.Closing.{empty, close, put, put_all, put_rec}
use Rattle.gh_core.specs.Primitives.{Cause, error_called, no_match, nil, cons, same_origin, Unary, Binary, Primitive, error, unary, binary, named, primitives, Outcome, gives, fails, nothing, unary_outcome, binary_outcome}

abbrev pub same_con : TyCon → TyCon → Bool
same_con (Named a) (Named b) = same_origin a b
same_con Arrow Arrow = true
same_con Int Int = true
same_con Char Char = true
same_con (ConOf a) (ConOf b) = same_origin a b
same_con a b = false

abbrev pub same_name : CoreName → CoreName → Bool
same_name (Plain a) (Plain b) = same_origin a b
same_name (Hidden a m) (Hidden b n) = (a.0 == b.0) && (m == n)
same_name (Component a c) (Component b d) = same_origin a b && same_con c d
same_name (From c) (From d) = same_con c d
same_name (To c) (To d) = same_con c d
same_name (Bimap c) (Bimap d) = same_con c d
same_name a b = false

abbrev pub same_literal : Literal → Literal → Bool
same_literal (int m) (int n) = int_eq m n
same_literal (char c) (char d) = c == d
same_literal (int m) (char d) = false
same_literal (char c) (int n) = false

-- what waits for the term that is demanded
pub data Waiting : Type 0 where
  -- it is applied to this
  arg : (e : Term) → Waiting
  -- one of these goes on
  of_case : (alts : Alts) → Waiting
  -- what stands under this constructor of a newtype goes on
  under : (c : Origin) → Waiting
  -- it is the operand of a primitive
  only : (u : Unary) (place : Span) → Waiting
  -- it is the first operand, and this the second
  first : (b : Binary) (place : Span) (e : Term) → Waiting
  -- it is the second operand, and this the first
  second : (b : Binary) (place : Span) (l : Literal) → Waiting
  -- it is a character to print, and these come after it
  printing : (rest : Term) → Waiting

pub data Status : Type 0 where
  running : Status
  ended : Status
  failed : (cause : Cause) (place : Span) → Status

-- the term that is demanded, what waits for it, the innermost first, and the bytes that were printed
pub record State : Type 0 where
  pub focus : Term
  pub stack : List Waiting
  pub out : List ℕ
  pub status : Status

-- the constructors of the newtypes, and the definitions
pub record Program : Type 0 where
  pub newtypes : List Origin
  pub defs : List (CoreName × Term)

abbrev pub with_status : Status → State → State
with_status status s = record { focus = s.focus; stack = s.stack; out = s.out; status = status }

-- a term that was put for a name is demanded as it is
abbrev pub opened : Term → Term
opened (whole t) = opened t
opened (var x) = var x
opened (glob name) = glob name
opened (con c) = con c
opened (lit l) = lit l
opened (string cs) = string cs
opened (prim p place) = prim p place
opened (lam x body) = lam x body
opened (app f e) = app f e
opened (letrec bs body) = letrec bs body
opened (cases t alts) = cases t alts
opened (stop place) = stop place
opened (contents c t) = contents c t

-- the arguments that wait, the first first, and what waits behind them
abbrev pub args_of : List Waiting → List Term
args_of [] = []
args_of (arg e ∷ stack) = e ∷ args_of stack
args_of (of_case alts ∷ stack) = []
args_of (under c ∷ stack) = []
args_of (only u place ∷ stack) = []
args_of (first b place e ∷ stack) = []
args_of (second b place l ∷ stack) = []
args_of (printing rest ∷ stack) = []

abbrev pub after_args : List Waiting → List Waiting
after_args [] = []
after_args (arg e ∷ stack) = after_args stack
after_args (of_case alts ∷ stack) = of_case alts ∷ stack
after_args (under c ∷ stack) = under c ∷ stack
after_args (only u place ∷ stack) = only u place ∷ stack
after_args (first b place e ∷ stack) = first b place e ∷ stack
after_args (second b place l ∷ stack) = second b place l ∷ stack
after_args (printing rest ∷ stack) = printing rest ∷ stack

-- a string counts as its list of characters
abbrev pub string_con : List ℕ → Origin
string_con [] = nil
string_con (c ∷ cs) = cons

abbrev pub string_args : List ℕ → List Term
string_args [] = []
string_args (c ∷ cs) = lit (char c) ∷ string cs ∷ []

-- a demand, before it is seen whether it is the printed list's
abbrev pub at : Term → List Waiting → List ℕ → State
at t stack out = record { focus = opened t; stack = stack; out = out; status = running }

-- the printed list as far as it is known: at its end the run has ended, and at a cell the character is demanded
abbrev pub list_cell : Bool → Bool → List Term → List ℕ → State → State
list_cell true isCons [] out s = with_status ended s
list_cell true isCons (e ∷ es) out s = s
list_cell false true (e ∷ rest ∷ []) out s = at e (printing rest ∷ []) out
list_cell false true [] out s = s
list_cell false true (e ∷ []) out s = s
list_cell false true (e ∷ rest ∷ x ∷ es) out s = s
list_cell false false es out s = s

abbrev pub listed : Origin → List Term → List Waiting → List ℕ → State → State
listed c es [] out s = list_cell (same_origin c nil) (same_origin c cons) es out s
listed c es (w ∷ ws) out s = s

abbrev pub settled_at : Term → List Waiting → List ℕ → State → State
settled_at (con c) stack out s = listed c (args_of stack) (after_args stack) out s
settled_at (string cs) stack out s = listed (string_con cs) (string_args cs) stack out s
settled_at (var x) stack out s = s
settled_at (glob name) stack out s = s
settled_at (lit l) stack out s = s
settled_at (prim p place) stack out s = s
settled_at (lam x body) stack out s = s
settled_at (app f e) stack out s = s
settled_at (letrec bs body) stack out s = s
settled_at (cases t alts) stack out s = s
settled_at (stop place) stack out s = s
settled_at (whole t) stack out s = s
settled_at (contents c t) stack out s = s

-- the demand of a term. Where nothing waits, it is the list that is printed
abbrev pub demand : Term → List Waiting → List ℕ → State
demand t stack out = settled_at (opened t) stack out (at t stack out)

-- the first definition of this name
abbrev pub defined : List (CoreName × Term) → CoreName → Option Term
defined [] name = None
defined (d ∷ ds) name = cond (same_name d.0 name) (Some d.1) (defined ds name)

abbrev pub unfold_global : Option Term → List Waiting → List ℕ → State → State
unfold_global None stack out s = s
unfold_global (Some t) stack out s = demand t stack out

-- a function with its argument
abbrev pub enter : ℕ → Term → List Waiting → List ℕ → State → State
enter x body [] out s = s
enter x body (arg e ∷ stack) out s = demand (close body (put empty x e)) stack out
enter x body (of_case alts ∷ stack) out s = s
enter x body (under c ∷ stack) out s = s
enter x body (only u place ∷ stack) out s = s
enter x body (first b place e ∷ stack) out s = s
enter x body (second b place l ∷ stack) out s = s
enter x body (printing rest ∷ stack) out s = s

-- the first alternative for a constructor with these arguments, its fields bound to them
abbrev pub choose : Alts → Origin → List Term → List Waiting → List ℕ → State → State
choose no_alt c es stack out s = s
choose (else_to t) c es stack out s = demand t stack out
choose (alt (con_alt d xs t) more) c es stack out s =
    cond (same_origin c d && (length xs == length es)) (demand (close t (put_all empty xs es)) stack out) (choose more c es stack out s)
choose (alt (lit_alt l t) more) c es stack out s = choose more c es stack out s

-- the first alternative for a literal
abbrev pub choose_literal : Alts → Literal → List Waiting → List ℕ → State → State
choose_literal no_alt l stack out s = s
choose_literal (else_to t) l stack out s = demand t stack out
choose_literal (alt (con_alt d xs t) more) l stack out s = choose_literal more l stack out s
choose_literal (alt (lit_alt m t) more) l stack out s = cond (same_literal l m) (demand t stack out) (choose_literal more l stack out s)

-- the contents of a newtype's value
abbrev pub uncover : Bool → List Term → List Waiting → List ℕ → State → State
uncover false es stack out s = s
uncover true [] stack out s = s
uncover true (e ∷ []) stack out s = demand e stack out
uncover true (e ∷ d ∷ es) stack out s = s

-- a constructor with its arguments, and what waits for it
abbrev pub give : Origin → List Term → List Waiting → List ℕ → State → State
give c es [] out s = s
give c es (arg e ∷ stack) out s = s
give c es (of_case alts ∷ stack) out s = choose alts c es stack out s
give c es (under d ∷ stack) out s = uncover (same_origin c d) es stack out s
give c es (only u place ∷ stack) out s = s
give c es (first b place e ∷ stack) out s = s
give c es (second b place l ∷ stack) out s = s
give c es (printing rest ∷ stack) out s = s

-- the answer or failure of a primitive
abbrev pub conclude : Outcome → Span → List Waiting → List ℕ → State → State
conclude (gives t) place stack out s = demand t stack out
conclude (fails cause) place stack out s = with_status (failed cause place) s
conclude nothing place stack out s = s

-- a character that is printed
abbrev pub print : Literal → Term → List Waiting → List ℕ → State → State
print (char c) rest stack out s = demand rest stack (out ++ encode_utf8 c)
print (int n) rest stack out s = s

-- a literal, and what waits for it
abbrev pub supply : Literal → List Waiting → List ℕ → State → State
supply l [] out s = s
supply l (arg e ∷ stack) out s = s
supply l (of_case alts ∷ stack) out s = choose_literal alts l stack out s
supply l (under c ∷ stack) out s = s
supply l (only u place ∷ stack) out s = conclude (unary_outcome u l) place stack out s
supply l (first b place e ∷ stack) out s = demand e (second b place l ∷ stack) out
supply l (second b place m ∷ stack) out s = conclude (binary_outcome b m l) place stack out s
supply l (printing rest ∷ stack) out s = print l rest stack out s

-- a primitive with the arguments that wait
abbrev pub operate : Option Primitive → Span → List Term → List Waiting → List ℕ → State → State
operate None place es stack out s = s
operate (Some error) place [] stack out s = s
operate (Some error) place (e ∷ es) stack out s = with_status (failed error_called place) s
operate (Some (unary u)) place [] stack out s = s
operate (Some (unary u)) place (e ∷ es) stack out s = demand e (only u place ∷ drop 1 stack) out
operate (Some (binary b)) place [] stack out s = s
operate (Some (binary b)) place (e ∷ []) stack out s = s
operate (Some (binary b)) place (e ∷ d ∷ es) stack out s = demand e (first b place d ∷ drop 2 stack) out

abbrev pub is_newtype : List Origin → Origin → Bool
is_newtype [] c = false
is_newtype (d ∷ ds) c = cond (same_origin d c) true (is_newtype ds c)

-- a case on a newtype's constructor binds the contents of its scrutinee, which is not demanded; any other case demands it
abbrev pub begin_case : List Origin → Term → Alts → List Waiting → List ℕ → State
begin_case newtypes t no_alt stack out = demand t (of_case no_alt ∷ stack) out
begin_case newtypes t (else_to e) stack out = demand t (of_case (else_to e) ∷ stack) out
begin_case newtypes t (alt (lit_alt l e) more) stack out = demand t (of_case (alt (lit_alt l e) more) ∷ stack) out
begin_case newtypes t (alt (con_alt c [] e) more) stack out = demand t (of_case (alt (con_alt c [] e) more) ∷ stack) out
begin_case newtypes t (alt (con_alt c (x ∷ y ∷ xs) e) more) stack out = demand t (of_case (alt (con_alt c (x ∷ y ∷ xs) e) more) ∷ stack) out
begin_case newtypes t (alt (con_alt c (x ∷ []) e) more) stack out =
    cond (is_newtype newtypes c) (demand (close e (put empty x (contents c t))) stack out) (demand t (of_case (alt (con_alt c (x ∷ []) e) more) ∷ stack) out)

abbrev pub reduce_at : Program → Term → List Waiting → List ℕ → State → State
reduce_at p (var x) stack out s = s
reduce_at p (glob name) stack out s = unfold_global (defined p.defs name) stack out s
reduce_at p (con c) stack out s = give c (args_of stack) (after_args stack) out s
reduce_at p (lit l) stack out s = supply l stack out s
reduce_at p (string cs) stack out s = give (string_con cs) (string_args cs) stack out s
reduce_at p (prim name place) stack out s = operate (named primitives name) place (args_of stack) stack out s
reduce_at p (lam x body) stack out s = enter x body stack out s
reduce_at p (app f e) stack out s = demand f (arg e ∷ stack) out
reduce_at p (letrec bs body) stack out s = demand (close body (put_rec bs empty bs)) stack out
reduce_at p (cases t alts) stack out s = begin_case p.newtypes t alts stack out
reduce_at p (stop place) stack out s = with_status (failed no_match place) s
reduce_at p (whole t) stack out s = s
reduce_at p (contents c t) stack out s = demand t (under c ∷ stack) out

abbrev pub reduce_in : Program → Status → State → State
reduce_in p running s = reduce_at p s.focus s.stack s.out s
reduce_in p ended s = s
reduce_in p (failed cause place) s = s

-- one reduction; a run that has ended or failed stays
abbrev pub reduce : Program → State → State
reduce p s = reduce_in p s.status s

-- so many reductions
unfoldable pub reductions : Program → ℕ → State → State
reductions p zero s = s
reductions p (suc n) s = reductions p n (reduce p s)
