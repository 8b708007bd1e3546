-- The type-passing meaning, one act at a time: call by name, by substitution, at the place that is demanded.
use Rattle.std.specs.Prelude.{ℕ, zero, suc, Bool, true, false, cond, ◌==◌, ◌&&◌, List, [], ◌∷◌, ◌++◌, Option, Some, None, length, drop, pos}
use Rattle.std.specs.Char.{encode_utf8}
use Rattle.gh_base.specs.Ids.{text_in}
use Rattle.gh_base.specs.declared.fixed.TheConstants.{TRUE, FALSE, CON_DESCR}
use Rattle.gh_base.specs.declared.place.Origin.{Origin}
use Rattle.gh_base.specs.declared.place.Span.{Span}
use Rattle.gh_base.specs.declared.place.TyCon.{TyCon}
use Rattle.gh_base.specs.declared.place.TyCon.TheVariants as head
use Rattle.gh_core.specs.Terms as core
use Rattle.gh_core.specs.Terms.{Literal, int, char}
use Rattle.gh_core.specs.Primitives.{Primitive, error, unary, binary, named, primitives, prelude_value, same_origin, nil, cons, error_called, no_match, Outcome, gives, fails, nothing, unary_outcome, binary_outcome}
use Rattle.gh_core.specs.Reduce.{Status, running, ended, failed, same_literal, string_con}
use Rattle.gh_kernel.specs.declared.names.TopName.{TopName}
use Rattle.gh_kernel.specs.declared.names.TopName.TheVariants as name
use Rattle.gh_kernel.specs.Closing.{Env, empty, without, close, close_bodies, close_groups, put, put_groups, groups_bind}
use Rattle.gh_kernel.specs.Conversions.{converted, made, nowhere, one_pattern}
use Rattle.gh_kernel.specs.Instances.{nth, type_at, instance}
use Rattle.gh_kernel.specs.Programs.{Exp, Constructor, Datatype, Function, Program, bound_to, datatype_of, function_of, constructor_of, is_newtype, is_one_of, is_structural, entry_of, case_of, written}
use Rattle.gh_kernel.specs.States.{Rest, Trial, Focus, eval, matching, falling, Waiting, arg, under, tested, compared, decides, only, first, second, printing, State, at, with_status, meet, begin_rows, args_of, after_args, string_args, demand, choose}
use Rattle.gh_kernel.specs.Terms.{Pat, pvar, pwild, pcon, plit, pstring, pas, Pats, no_pat, pat, Direction, to_data, TypeTerm, tycon, tyapp, tyname, tylocal, var, top, con, lit, string, lam, app, lets, cases, call, redef, ann, whole, contents, convert, Groups, Rows, no_row, row, Bodies}

-- matching -----------------------------------------------------------------------------------------------------------

-- the row goes on with these patterns and these variables
abbrev pub goes_on : List (Pat Span × Exp) → Env Span → Trial → List Waiting → List ℕ → State
goes_on todo σ t stack out = at (matching (record { todo = todo; bound = σ; groups = t.groups; bodies = t.bodies; rest = t.rest })) stack out

abbrev pub with_todo : List (Pat Span × Exp) → Trial → Trial
with_todo todo t = record { todo = todo; bound = t.bound; groups = t.groups; bodies = t.bodies; rest = t.rest }

abbrev pub count : Pats Span → ℕ
count no_pat = 0
count (pat p ps) = suc (count ps)

-- a pattern of a constructor. A newtype's takes the contents of its argument, which is not evaluated; any other passes the
-- demand to the argument
abbrev pub meet_constructor : Bool → Origin → Pats Span → Exp → Trial → List Waiting → List ℕ → State
meet_constructor true c (pat p no_pat) e t stack out = goes_on ((p, contents c e) ∷ t.todo) t.bound t stack out
meet_constructor isNewtype c ps e t stack out = demand e (tested c ps t ∷ stack) out

-- one pattern node binds, or the demand passes to the argument that it tests; an as-pattern binds the argument as it was
abbrev pub match_pattern : Program → Pat Span → Exp → Trial → List Waiting → List ℕ → State
match_pattern p (pvar n x) e t stack out = goes_on t.todo (put t.bound x e) t stack out
match_pattern p (pwild n) e t stack out = goes_on t.todo t.bound t stack out
match_pattern p (pas n x q) e t stack out = goes_on ((q, e) ∷ t.todo) (put t.bound x e) t stack out
match_pattern p (pcon n c ps) e t stack out = meet_constructor (is_newtype p.datatypes c) c ps e t stack out
match_pattern p (plit n l) e t stack out = demand e (compared l t ∷ stack) out
match_pattern p (pstring n []) e t stack out = demand e (tested nil no_pat t ∷ stack) out
match_pattern p (pstring n (c ∷ cs)) e t stack out = demand e (tested cons (pat (plit n (char c)) (one_pattern (pstring n cs))) t ∷ stack) out

-- the groups of a row whose patterns match are entered, also where it has none
abbrev pub enter_groups : Groups Span → Bodies Span → Env Span → Rest → List Waiting → List ℕ → State
enter_groups gs bs σ r stack out =
    let hidden = without σ (groups_bind gs) in
    let own = close_groups gs hidden in
    choose (close_bodies (close_bodies bs hidden) (put_groups own empty own)) r stack out

abbrev pub match_next : Program → List (Pat Span × Exp) → Trial → List Waiting → List ℕ → State
match_next p [] t stack out = enter_groups t.groups t.bodies t.bound t.rest stack out
match_next p (m ∷ todo) t stack out = match_pattern p m.0 m.1 (with_todo todo t) stack out

-- a row that fails falls to the next, and where no row is left, the match fails
abbrev pub fall : Span → Rest → Rows Span → List Waiting → List ℕ → State → State
fall place r no_row stack out s = with_status (failed no_match place) s
fall place r (row ps gs bs rest) stack out s = at (begin_rows place r.args (row ps gs bs rest)) stack out

-- values and what waits for them -----------------------------------------------------------------------------------------

-- the test of a pattern node: the row goes on, or it has failed
abbrev pub tell : Bool → List (Pat Span × Exp) → Trial → List Waiting → List ℕ → State
tell true todo t stack out = goes_on todo t.bound t stack out
tell false todo t stack out = at (falling t.rest) stack out

-- a guard is decided
abbrev pub decide : Bool → Bool → List Exp → Exp → Bodies Span → Rest → List Waiting → List ℕ → State → State
decide true denied [] e more r stack out s = demand e stack out
decide false true [] e more r stack out s = choose more r stack out
decide granted denied es e more r stack out s = s

-- the contents of a newtype's value go on
abbrev pub uncover : Bool → List Exp → List Waiting → List ℕ → State → State
uncover true (e ∷ []) stack out s = demand e stack out
uncover same es stack out s = s

-- a constructor with its arguments, and what waits for it
abbrev pub give : Origin → List Exp → List Waiting → List ℕ → State → State
give c es (tested d ps t ∷ stack) out s = tell (same_origin c d && (count ps == length es)) (meet ps es t.todo) t stack out
give c es (decides e more r ∷ stack) out s =
    decide (same_origin c (prelude_value TRUE)) (same_origin c (prelude_value FALSE)) es e more r stack out s
give c es (under d ∷ stack) out s = uncover (same_origin c d) es stack out s
give c es (compared m t ∷ stack) out s = at (falling t.rest) stack out
give c es stack out s = s

-- what a primitive makes of its operands, as a term of the kernel
abbrev pub answer : Span → core.Term → Option Exp
answer n (core.con c) = Some (con n c)
answer n (core.lit l) = Some (lit n l)
answer n (core.string cs) = Some (string n cs)
answer n t = None

abbrev pub go_to : Option Exp → List Waiting → List ℕ → State → State
go_to None stack out s = s
go_to (Some e) stack out s = demand e stack out

-- a primitive answers or fails
abbrev pub conclude : Outcome → Span → List Waiting → List ℕ → State → State
conclude (gives t) place stack out s = go_to (answer place t) stack out s
conclude (fails cause) place stack out s = with_status (failed cause place) s
conclude nothing place stack out s = s

-- a character of the output is printed
abbrev pub print : Literal → Exp → List Waiting → List ℕ → State → State
print (char c) rest stack out s = demand rest stack (out ++ encode_utf8 c)
print (int n) rest stack out s = s

-- a literal, and what waits for it
abbrev pub supply : Literal → List Waiting → List ℕ → State → State
supply l (compared m t ∷ stack) out s = tell (same_literal l m) t.todo t stack out
supply l (tested d ps t ∷ stack) out s = at (falling t.rest) stack out
supply l (only u place ∷ stack) out s = conclude (unary_outcome u l) place stack out s
supply l (first b place e ∷ stack) out s = demand e (second b place l ∷ stack) out
supply l (second b place m ∷ stack) out s = conclude (binary_outcome b m l) place stack out s
supply l (printing rest ∷ stack) out s = print l rest stack out s
supply l stack out s = s

-- primitives ------------------------------------------------------------------------------------------------------------

abbrev pub operands : Primitive → ℕ
operands error = 1
operands (unary u) = 1
operands (binary b) = 2

abbrev pub primitive_of : TopName → Option Primitive
primitive_of (name.Named w) = named primitives w
primitive_of (name.Hidden m i) = None

-- the demand of a primitive passes to its first operand; `error` fails at once
abbrev pub operate : Primitive → Span → List Exp → List Waiting → List ℕ → State → State
operate error place (e ∷ es) stack out s = with_status (failed error_called place) s
operate (unary u) place (e ∷ es) stack out s = demand e (only u place ∷ drop 1 stack) out
operate (binary b) place (e ∷ d ∷ es) stack out s = demand e (first b place d ∷ drop 2 stack) out
operate q place es stack out s = s

-- a name of a plain binding unfolds; one of a primitive is the primitive
abbrev pub unfold_name : Program → Option Primitive → Span → TopName → List Waiting → List ℕ → State → State
unfold_name p (Some q) n x stack out s = operate q n (args_of stack) stack out s
unfold_name p None n x stack out s = go_to (bound_to p.bindings x) stack out s

-- a function takes one argument
abbrev pub enter : ℕ → Exp → List Waiting → List ℕ → State → State
enter x body (arg e ∷ stack) out s = demand (close body (put empty x e)) stack out
enter x body stack out s = s

-- generic calls ----------------------------------------------------------------------------------------------------------

-- the description of a constructor: its name as the source writes it, and the number of its fields
abbrev pub description : Program → Span → Origin → ℕ → Exp
description p n c arity = made n (prelude_value CON_DESCR) (string n (text_in p.texts (written c)) ∷ lit n (int (pos arity)) ∷ [])

abbrev pub with_description : Exp → Exp → Span → Exp
with_description (lam m x body) d n = close body (put empty x d)
with_description f d n = app n f d

abbrev pub described_by : Program → Span → Origin → Option Constructor → Exp → Option Exp
described_by p n c None f = None
described_by p n c (Some k) f = Some (with_description f (description p n c (length k.fields)) n)

-- the body of a case for a constructor's layer has the description of that constructor for its variable
abbrev pub described : Program → Span → TyCon → Exp → Option Exp
described p n (head.ConOf c) f = described_by p n c (constructor_of p.datatypes c) f
described p n (head.Named c) e = Some e
described p n head.Arrow e = Some e
described p n head.Int e = Some e
described p n head.Char e = Some e

-- a type over the parameters of a datatype, with type names for these
abbrev pub with_names : TypeTerm Span → TypeTerm Span
with_names = type_at (λ v. Some (tyname v))

abbrev pub declared : Option Datatype → Option (TypeTerm Span)
declared None = None
declared (Some d) = Some (with_names d.representation)

-- the type that represents a type constructor for this function, with type names for its parameters: a datatype's
-- representation, but for the types that representations are made of; a constructor's layer stands for what is under it,
-- where the function has itself among its dependencies
abbrev pub representation : Program → Function → TyCon → Option (TypeTerm Span)
representation p f (head.Named c) = cond (is_structural c) None (declared (datatype_of p.datatypes c))
representation p f (head.ConOf c) = cond (is_one_of f.dependencies f.name) (Some (tyname 0)) None
representation p f head.Arrow = None
representation p f head.Int = None
representation p f head.Char = None

-- the body of a function at a type constructor without a case: the call at the representation, converted at the function's
-- base type. It has type names for the parameters, as the body of a case has, and it is one for all calls
abbrev pub body_at : TyCon → Function → TypeTerm Span → Exp
body_at h f t = app nowhere (convert nowhere to_data h f.generic f.base) (call nowhere f.name t)

abbrev pub converted_call : TyCon → Function → Option (TypeTerm Span) → Option Exp
converted_call h f None = None
converted_call h f (Some t) = Some (body_at h f t)

abbrev pub body_without_case : Program → TyCon → Option Function → Option Exp
body_without_case p h None = None
body_without_case p h (Some f) = converted_call h f (representation p f h)

-- its type names replaced by the arguments
abbrev pub adapted : List (TypeTerm Span) → Option Exp → Option Exp
adapted ts None = None
adapted ts (Some e) = Some (instance (λ w. w) e (nth ts))

-- a call at a type constructor: to the body of its case, or else to the body without a case, the type names replaced by the
-- arguments
abbrev pub called_at : Program → Span → Origin → TyCon → List (TypeTerm Span) → Option ((Origin → Origin) × Exp) → Option Exp
called_at p n w h ts None = adapted ts (body_without_case p h (function_of p.functions w))
called_at p n w h ts (Some c) = described p n h (instance c.0 c.1 (nth ts))

-- what a call goes to, its type with the arguments that it is applied to; at a local name, the term in its table
abbrev pub called : Program → Span → Origin → TypeTerm Span → List (TypeTerm Span) → Option Exp
called p n w (tyapp f t) ts = called p n w f (t ∷ ts)
called p n w (tycon h) ts = called_at p n w h ts (case_of p w h)
called p n w (tylocal k table) [] = entry_of table w
called p n w t ts = None

-- a local redefinition: its name becomes a local name with its table
abbrev pub local_name : ℕ → TypeTerm Span → ℕ → Option (TypeTerm Span)
local_name k t j = cond (j == k) (Some t) None

-- a conversion applied to a term
abbrev pub convert_to : Program → Direction → TyCon → ℕ → TypeTerm Span → List Waiting → List ℕ → State → State
convert_to p d h generic t (arg e ∷ stack) out s = go_to (converted p.datatypes d h generic t [] e) stack out s
convert_to p d h generic t stack out s = s

-- one act ---------------------------------------------------------------------------------------------------------------

abbrev pub act_eval : Program → Exp → List Waiting → List ℕ → State → State
act_eval p (top n x) stack out s = unfold_name p (primitive_of x) n x stack out s
act_eval p (con n c) stack out s = give c (args_of stack) (after_args stack) out s
act_eval p (lit n l) stack out s = supply l stack out s
act_eval p (string n cs) stack out s = give (string_con cs) (string_args n cs) stack out s
act_eval p (lam n x body) stack out s = enter x body stack out s
act_eval p (app n f e) stack out s = demand f (arg e ∷ stack) out
act_eval p (lets n gs body) stack out s = demand (close body (put_groups gs empty gs)) stack out
act_eval p (call n w t) stack out s = go_to (called p n w t []) stack out s
act_eval p (redef n k text table body) stack out s = demand (instance (λ w. w) body (local_name k (tylocal k table))) stack out
act_eval p (convert n d h generic t) stack out s = convert_to p d h generic t stack out s
act_eval p (var n x) stack out s = s
act_eval p (cases n es rows) stack out s = s
act_eval p (ann n e t) stack out s = s
act_eval p (whole e) stack out s = s
act_eval p (contents c e) stack out s = demand e (under c ∷ stack) out

abbrev pub act_at : Program → Focus → List Waiting → List ℕ → State → State
act_at p (eval e) stack out s = act_eval p e stack out s
act_at p (matching t) stack out s = match_next p t.todo t stack out
act_at p (falling r) stack out s = fall r.place r r.rows stack out s

abbrev pub act_in : Program → Status → State → State
act_in p running s = act_at p s.focus s.stack s.out s
act_in p ended s = s
act_in p (failed cause place) s = s

-- one step: one act, and none where the run has ended or failed
abbrev pub act : Program → State → State
act p s = act_in p s.status s

-- so many steps
unfoldable pub steps : Program → ℕ → State → State
steps p zero s = s
steps p (suc n) s = steps p n (act p s)
