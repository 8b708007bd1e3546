-- Small programs for the rules of typing. Each node has its number; a typing is a note for each number.
use Rattle.std.specs.Prelude.{ℕ, suc, false, pos, List, [], ◌∷◌, map, get_or, Option, Some, None}
use Rattle.gh_base.specs.declared.fixed.TheConstants.{MAIN_MODULE, BOOL, FALSE, TRUE, LIST, PLUS}
use Rattle.gh_base.specs.declared.names.NameId.{NameId}
use Rattle.gh_base.specs.declared.place.Origin.{Origin}
use Rattle.gh_base.specs.declared.place.Span.{Span}
use Rattle.gh_base.specs.declared.place.Space.TheVariants.{Values}
use Rattle.gh_base.specs.declared.place.TyCon.TheVariants as head
use Rattle.gh_core.specs.Primitives.{prelude_value, nil, cons}
use Rattle.gh_core.specs.Terms.{int, char}
use Rattle.gh_typeterm.specs.declared.decl.DeclData.{DeclData}
use Rattle.gh_typeterm.specs.declared.kind.Kind.{Kind}
use Rattle.gh_typeterm.specs.declared.kind.Kind.TheVariants.{Star}
use Rattle.gh_typeterm.specs.declared.ty.TyNode.{TyNode}
use Rattle.gh_typeterm.specs.declared.ty.TyNode.TheVariants as t
use Rattle.gh_unify.specs.Types as ty
use Rattle.gh_unify.specs.Types.{Mono}
use Rattle.gh_kernel.specs.declared.functions.GenFun.{GenFun}
use Rattle.gh_kernel.specs.declared.names.Head.TheVariants.{Of}
use Rattle.gh_kernel.specs.declared.names.TopName.{TopName}
use Rattle.gh_kernel.specs.declared.names.TopName.TheVariants.{Named}
use Rattle.gh_kernel.specs.declared.signatures.Signed.{Signed}
use Rattle.gh_kernel.specs.Bridge.{given_of}
use Rattle.gh_kernel.specs.BuiltIn.{declared_con, prelude_type}
use Rattle.gh_kernel.specs.Modules.{Top, Clause, Module, noted_module}
use Rattle.gh_kernel.specs.Terms.{Pats, no_pat, pat, pcon, pvar, pwild, tycon, tyapp, tyname, Expr, var, top, con, lit, string, lam, app, lets, group, no_group, bind, no_bind, cases, no_expr, expr, row, no_row, always, no_body, call, redef, entry, no_entry}
use Rattle.gh_kernel.specs.Types.{Given, arrow, char_type, int_type, list_type, of_prelude}
use Rattle.gh_kernel.specs.Typing.{Typed}

abbrev pub place : Span
place = record { file = 1; from = 0; to = 1 }

abbrev pub number : ℕ → NameId
number k = record { 0 = k }

abbrev pub own : ℕ → Origin
own k = record { «module» = MAIN_MODULE; space = Values; name = number k }

-- notes ------------------------------------------------------------------------------------------------------------------------

-- a note without variables
abbrev pub plain : Mono → List Mono → Typed
plain u at = record { span = place; ty = u; at = at; kinds = [] }

abbrev pub a : Mono
a = ty.var 0

-- a note with the variable 0 of the kind of types of values
abbrev pub with_a : Mono → List Mono → Typed
with_a u at = record { span = place; ty = u; at = at; kinds = (0, Star) ∷ [] }

abbrev pub string_type : Mono
string_type = list_type char_type

abbrev pub bool_type : Mono
bool_type = of_prelude BOOL

-- the notes in the order of the numbers
abbrev pub by_number : List Typed → ℕ → Typed
by_number notes k = get_or notes k (plain char_type [])

-- what is given ----------------------------------------------------------------------------------------------------------------

abbrev pub bool_data : DeclData
bool_data = record { origin = prelude_type BOOL; is_newtype = false; params = []; constructors = declared_con FALSE [] ∷ declared_con TRUE [] ∷ [] }

-- the type `a -> result`
abbrev to_result : TyNode → TyNode
to_result result = t.App (t.App (t.Con head.Arrow) (t.Var 0)) result

abbrev one_variable : Origin → TyNode → GenFun
one_variable name base = record { origin = name; span = place; generic = number 1 ∷ []; other = []; dependencies = []; base = base; cases = [] }

-- w{|a|} :: a -> Int
abbrev pub w : Origin
w = own 1

abbrev pub w_function : GenFun
w_function = one_variable w (to_result (t.Con head.Int))

-- g{|a|} :: a -> [Char]
abbrev pub g : Origin
g = own 2

abbrev pub g_function : GenFun
g_function = one_variable g (to_result (t.App (t.Con (head.Named (prelude_type LIST))) (t.Con head.Char)))

abbrev pub given : Given
given = given_of ((prelude_type BOOL, Star) ∷ []) (bool_data ∷ []) (w_function ∷ g_function ∷ [])

-- programs ---------------------------------------------------------------------------------------------------------------------

abbrev pub Numbered : Type 0
Numbered = List (Module ℕ)

-- the program with these notes
abbrev pub with_notes : (ℕ → Typed) → Numbered → List (Module Typed)
with_notes notes program = map (noted_module notes) program

-- the program's text, where each node has one place
abbrev pub placed : Numbered → List (Module Span)
placed program = map (noted_module (λ k. place)) program

abbrev pub bound : ℕ → Option Signed → Origin → Expr ℕ → Top ℕ
bound n s x e = record { name = Named x; signature = s; body = e; note = n }

abbrev pub alone : Top ℕ → List (Top ℕ)
alone b = b ∷ []

abbrev pub module_of : List (List (Top ℕ)) → List (Clause ℕ) → Numbered
module_of groups clauses = record { groups = groups; cases = clauses } ∷ []

abbrev pub main : Origin
main = own 0

-- identity = \x -> x; main = identity "a"
abbrev pub identity : Origin
identity = own 3

abbrev pub identity_at : ℕ → Expr ℕ
identity_at n = lam (suc n) 0 (var n 0)

abbrev pub polymorphic : Numbered
polymorphic = module_of (alone (bound 2 None identity (identity_at 0)) ∷ alone (bound 6 None main (app 5 (top 3 (Named identity)) (string 4 (97 ∷ [])))) ∷ []) []

abbrev pub polymorphic_notes : ℕ → Typed
polymorphic_notes = by_number (with_a a [] ∷ with_a (arrow a a) [] ∷ with_a (arrow a a) (a ∷ [])
    ∷ plain (arrow string_type string_type) (string_type ∷ []) ∷ plain string_type [] ∷ plain string_type [] ∷ plain string_type [] ∷ [])

-- choose :: Bool -> a -> a -> a; choose = \b -> \x -> \y -> case b of { True -> x; False -> y }; main = choose True "y" "n"
abbrev pub choose : Origin
choose = own 4

abbrev arrows_of : TyNode → TyNode → TyNode
arrows_of s u = t.App (t.App (t.Con head.Arrow) s) u

abbrev pub choose_signature : Signed
choose_signature = record {
  ty = arrows_of (t.Con (head.Named (prelude_type BOOL))) (arrows_of (t.Var 0) (arrows_of (t.Var 0) (t.Var 0)));
  kinds = (0, Star) ∷ [];
}

abbrev pub choose_body : Expr ℕ
choose_body = lam 8 0 (lam 7 1 (lam 6 2 (cases 5 (expr (var 0 0) no_expr)
    (row (pat (pcon 1 (prelude_value TRUE) no_pat) no_pat) no_group (always (var 2 1) no_body)
    (row (pat (pcon 3 (prelude_value FALSE) no_pat) no_pat) no_group (always (var 4 2) no_body) no_row)))))

abbrev pub choosing : Numbered
choosing = module_of (alone (bound 9 (Some choose_signature) choose choose_body)
    ∷ alone (bound 17 None main (app 16 (app 14 (app 12 (top 10 (Named choose)) (con 11 (prelude_value TRUE))) (string 13 (121 ∷ []))) (string 15 (110 ∷ [])))) ∷ []) []

abbrev pub choosing_notes : ℕ → Typed
choosing_notes = by_number (plain bool_type [] ∷ plain bool_type [] ∷ with_a a [] ∷ plain bool_type [] ∷ with_a a [] ∷ with_a a []
    ∷ with_a (arrow a a) [] ∷ with_a (arrow a (arrow a a)) [] ∷ with_a (arrow bool_type (arrow a (arrow a a))) []
    ∷ with_a (arrow bool_type (arrow a (arrow a a))) (a ∷ [])
    ∷ plain (arrow bool_type (arrow string_type (arrow string_type string_type))) (string_type ∷ []) ∷ plain bool_type []
    ∷ plain (arrow string_type (arrow string_type string_type)) [] ∷ plain string_type [] ∷ plain (arrow string_type string_type) []
    ∷ plain string_type [] ∷ plain string_type [] ∷ plain string_type [] ∷ [])

-- main = let g{|e|} = \z -> "z" in g{|[e]|} "ab"; g{|Char|} = \c -> "c";
-- g{|[a]|} = \xs -> case xs of { [] -> "e"; y : _ -> g{|a|} y }
abbrev pub generic_main : Expr ℕ
generic_main = redef 5 7 (number 5) (entry g place (lam 1 0 (string 0 (122 ∷ []))) no_entry)
    (app 4 (call 2 g (tyapp (tycon (head.Named (prelude_type LIST))) (tyname 7))) (string 3 (97 ∷ 98 ∷ [])))

abbrev pub for_char : Clause ℕ
for_char = record { function = g; head = Of head.Char; names = 0; body = lam 8 0 (string 7 (99 ∷ [])); place = place }

abbrev pub for_list : Clause ℕ
for_list = record {
  function = g;
  head = Of (head.Named (prelude_type LIST));
  names = 1;
  body = lam 19 0 (cases 18 (expr (var 9 0) no_expr)
      (row (pat (pcon 10 nil no_pat) no_pat) no_group (always (string 11 (101 ∷ [])) no_body)
      (row (pat (pcon 14 cons (pat (pvar 12 1) (pat (pwild 13) no_pat))) no_pat) no_group (always (app 17 (call 15 g (tyname 0)) (var 16 1)) no_body) no_row)));
  place = place;
}

abbrev pub generic : Numbered
generic = module_of (alone (bound 6 None main generic_main) ∷ []) (for_char ∷ for_list ∷ [])

-- the name of the redefinition stands for Char, and in the case for lists the parameter stands for the variable 0
abbrev pub generic_notes : ℕ → Typed
generic_notes = by_number (plain string_type [] ∷ plain (arrow char_type string_type) [] ∷ plain (arrow string_type string_type) []
    ∷ plain string_type [] ∷ plain string_type [] ∷ plain string_type (char_type ∷ []) ∷ plain string_type []
    ∷ plain string_type [] ∷ plain (arrow char_type string_type) []
    ∷ with_a (list_type a) [] ∷ with_a (list_type a) (a ∷ []) ∷ plain string_type [] ∷ with_a a [] ∷ with_a (list_type a) []
    ∷ with_a (list_type a) (a ∷ []) ∷ with_a (arrow a string_type) [] ∷ with_a a [] ∷ plain string_type [] ∷ plain string_type []
    ∷ with_a (arrow (list_type a) string_type) [] ∷ [])

-- programs that have no typing ---------------------------------------------------------------------------------------------------

abbrev pub again : Origin
again = own 8

-- main = let w{|e|} = \y -> 1 in let f = w{|e|} in (\z -> f 'c') (f 1): the name stands for one type, so f is not generalised
abbrev pub redefined : Expr ℕ
redefined = redef 13 5 (number 6) (entry w place (lam 1 1 (lit 0 (int (pos 1)))) no_entry)
    (lets 12 (group (bind 3 2 None (call 2 w (tyname 5)) no_bind) no_group)
    (app 11 (lam 7 3 (app 6 (var 4 2) (lit 5 (char 99)))) (app 10 (var 8 2) (lit 9 (int (pos 1))))))

abbrev pub redefined_twice : Numbered
redefined_twice = module_of (alone (bound 14 None main redefined) ∷ []) []

-- w{|[a]|} = \m -> let { f = w{|a|} } in f 'c' + f 1: the parameter stands for one type
abbrev pub used_twice : Option Signed → Expr ℕ
used_twice s = lam 12 0 (lets 11 (group (bind 1 2 s (call 0 w (tyname 0)) no_bind) no_group)
    (app 10 (app 6 (top 2 (Named (prelude_value PLUS))) (app 5 (var 3 2) (lit 4 (char 99)))) (app 9 (var 7 2) (lit 8 (int (pos 1))))))

abbrev pub parameter_used : Option Signed → Numbered
parameter_used s = module_of [] (record { function = w; head = Of (head.Named (prelude_type LIST)); names = 1; body = used_twice s; place = place } ∷ [])

-- .. and with the signature f :: b -> Int
abbrev pub any_to_int : Signed
any_to_int = record { ty = to_result (t.Con head.Int); kinds = (0, Star) ∷ [] }

-- again = \x -> again again: inside its group it has one type
abbrev pub recursive : Numbered
recursive = module_of (alone (bound 4 None again (lam 3 0 (app 2 (top 0 (Named again)) (top 1 (Named again))))) ∷ []) []

-- typings that are not most general ---------------------------------------------------------------------------------------------

-- identity = \x -> x; again = \y -> y, as two groups of the top level that use one number
abbrev pub two_groups : Numbered
two_groups = module_of (alone (bound 2 None identity (identity_at 0)) ∷ alone (bound 5 None again (identity_at 3)) ∷ []) []

-- each quantifies its variable
abbrev pub two_groups_notes : ℕ → Typed
two_groups_notes = by_number (with_a a [] ∷ with_a (arrow a a) [] ∷ with_a (arrow a a) (a ∷ [])
    ∷ with_a a [] ∷ with_a (arrow a a) [] ∷ with_a (arrow a a) (a ∷ []) ∷ [])

-- identity = \x -> x
abbrev pub identity_alone : Numbered
identity_alone = module_of (alone (bound 2 None identity (identity_at 0)) ∷ []) []

-- with nothing quantified
abbrev pub nothing_quantified : ℕ → Typed
nothing_quantified = by_number (with_a a [] ∷ with_a (arrow a a) [] ∷ with_a (arrow a a) [] ∷ [])

-- at one type
abbrev pub at_characters : ℕ → Typed
at_characters = by_number (plain char_type [] ∷ plain (arrow char_type char_type) [] ∷ plain (arrow char_type char_type) [] ∷ [])

-- main = let { i = \x -> x; j = \x -> x } in 'c': two groups inside one binding, and both quantify one number
abbrev pub inner_groups : Numbered
inner_groups = module_of (alone (bound 8 None main
    (lets 7 (group (bind 2 1 None (identity_at 0) no_bind) (group (bind 5 2 None (identity_at 3) no_bind) no_group)) (lit 6 (char 99)))) ∷ []) []

abbrev pub one_number : ℕ → Typed
one_number = by_number (with_a a [] ∷ with_a (arrow a a) [] ∷ with_a (arrow a a) (a ∷ []) ∷ with_a a [] ∷ with_a (arrow a a) []
    ∷ with_a (arrow a a) (a ∷ []) ∷ plain char_type [] ∷ plain char_type [] ∷ plain char_type [] ∷ [])

-- notes that are none ------------------------------------------------------------------------------------------------------------

-- \x -> x without the kind of its variable
abbrev pub kinds_forgotten : ℕ → Typed
kinds_forgotten = by_number (plain a [] ∷ plain (arrow a a) [] ∷ plain (arrow a a) (a ∷ []) ∷ [])
