-- The names that reductions bind, counted by hand, at least one example for each rule.
use Rattle.std.proofs.Common.{◌≡◌, ℕ, pos, [], ◌∷◌, refl}
use Rattle.std.specs.Prelude.{codes}
use Rattle.std.specs.Char.{encode_utf8}
use Rattle.gh_base.specs.declared.fixed.TheConstants.{MAIN_MODULE, MAIN, PLUS, CON, TRUE}
use Rattle.gh_base.specs.declared.place.Span.{Span}
use Rattle.gh_base.specs.declared.place.Space.TheVariants.{Values}
use Rattle.gh_core.specs.declared.terms.CoreName.TheVariants.{Plain}
use Rattle.gh_core.specs.Terms.{Term, var, glob, con, lit, int, char, string, prim, lam, app, letrec, cases, stop, bind, no_bind, con_alt, lit_alt, no_alt, else_to, alt}
use Rattle.gh_core.specs.Primitives.{prelude_value, nil, cons}
use Rattle.gh_core.specs.Reduce.{Program, reductions}
use Rattle.gh_core.specs.Run.{start}
use Rattle.gh_core.specs.Bindings.{names_bound, names_bound_in}

abbrev place : Span
place = record { file = 1; from = 4; to = 9 }

-- a program with one newtype, whose constructor is `Con`, and one definition, `main`
abbrev small : Program
small = record {
  newtypes = prelude_value CON ∷ [];
  defs = (Plain (record { «module» = MAIN_MODULE; space = Values; name = MAIN }), string (codes "a")) ∷ [];
}

-- the names that the reduction after n others binds
abbrev bound_after : ℕ → Term → ℕ
bound_after n t = names_bound small (reductions small n (start t))

-- the names that the first n reductions bind
abbrev bound_by : ℕ → Term → ℕ
bound_by n t = names_bound_in small n (start t)

abbrev identity_of_b : Term
identity_of_b = app (lam 0 (var 0)) (string (codes "b"))

-- (λ x. x) "b": the demand passes to the function, which binds none; the function is entered, which binds x; a character is printed
pub passing_binds_none : bound_after 0 identity_of_b ≡ 0
unfolding reductions
passing_binds_none = refl

pub function_binds_one : bound_after 1 identity_of_b ≡ 1
unfolding reductions
function_binds_one = refl

pub printing_binds_none : bound_after 2 identity_of_b ≡ 0
unfolding reductions
printing_binds_none = refl

pub one_in_all : bound_by 3 identity_of_b ≡ 1
unfolding names_bound_in encode_utf8
one_in_all = refl

-- a function for which no argument waits is a value, and nothing applies to it
pub value_binds_none : bound_after 0 (lam 0 (var 0)) ≡ 0
unfolding reductions
value_binds_none = refl

-- letrec x = "a"; y = x in y: two bindings, also of equal names, and none
pub letrec_binds_each : bound_after 0 (letrec (bind 0 (string (codes "a")) (bind 1 (var 0) no_bind)) (var 1)) ≡ 2
unfolding reductions
letrec_binds_each = refl

pub equal_names_are_two : bound_after 0 (letrec (bind 0 (string (codes "a")) (bind 0 (var 0) no_bind)) (var 0)) ≡ 2
unfolding reductions
equal_names_are_two = refl

pub empty_letrec_binds_none : bound_after 0 (letrec no_bind (string (codes "a"))) ≡ 0
unfolding reductions
empty_letrec_binds_none = refl

-- each unfolding of a name of a letrec binds all of them again: letrec x = 'e' : x in x unfolds for its body and for x
pub letrec_twice : bound_by 2 (letrec (bind 0 (app (app (con cons) (lit (char 101))) (var 0)) no_bind) (var 0)) ≡ 2
unfolding names_bound_in
letrec_twice = refl

abbrev on_pair : Term → Term
on_pair t = cases t (alt (con_alt nil [] (string (codes "a"))) (alt (con_alt cons (0 ∷ 1 ∷ []) (var 1)) no_alt))

-- case 'f' : "g" of { [] -> "a"; x : y -> y }: to the scrutinee (1), to the cell's functions (2 and 3), and the second alternative,
-- which binds two
pub constructor_binds_fields : bound_after 3 (on_pair (app (app (con cons) (lit (char 102))) (string (codes "g")))) ≡ 2
unfolding reductions
constructor_binds_fields = refl

pub case_alone_binds_none : bound_by 3 (on_pair (app (app (con cons) (lit (char 102))) (string (codes "g")))) ≡ 0
unfolding names_bound_in
case_alone_binds_none = refl

-- a string is a cell, and the empty one the end
pub string_binds_two : bound_after 1 (on_pair (string (codes "fg"))) ≡ 2
unfolding reductions
string_binds_two = refl

pub end_binds_none : bound_after 1 (on_pair (string [])) ≡ 0
unfolding reductions
end_binds_none = refl

-- 'f' : "g" has two arguments: an alternative for it with one name is passed over, and the else binds none
pub else_binds_none : bound_after 3 (cases (app (app (con cons) (lit (char 102))) (string (codes "g"))) (alt (con_alt cons (0 ∷ []) (string (codes "a"))) (else_to (string (codes "i"))))) ≡ 0
unfolding reductions
else_binds_none = refl

-- nothing fits
pub no_alternative_binds_none : bound_after 1 (cases (con (prelude_value TRUE)) (alt (con_alt cons (0 ∷ 1 ∷ []) (var 1)) no_alt)) ≡ 0
unfolding reductions
no_alternative_binds_none = refl

-- case 8 of { 8 -> "h" }: a literal binds none
pub literal_binds_none : bound_by 3 (cases (lit (int (pos 8))) (alt (lit_alt (int (pos 8)) (string (codes "h"))) no_alt)) ≡ 0
unfolding names_bound_in encode_utf8
literal_binds_none = refl

-- case stop of Con x -> "c": a case on a newtype binds its name at once
pub newtype_binds_one : bound_after 0 (cases (stop place) (alt (con_alt (prelude_value CON) (0 ∷ []) (string (codes "c"))) no_alt)) ≡ 1
unfolding reductions
newtype_binds_one = refl

-- case Con "d" of Con x -> x: the case binds x, and the later demand of the contents binds none
pub contents_bind_none : bound_by 5 (cases (app (con (prelude_value CON)) (string (codes "d"))) (alt (con_alt (prelude_value CON) (0 ∷ []) (var 0)) no_alt)) ≡ 1
unfolding names_bound_in encode_utf8
contents_bind_none = refl

-- a global, a sum, and a failure bind none
pub global_binds_none : bound_by 2 (glob (Plain (record { «module» = MAIN_MODULE; space = Values; name = MAIN }))) ≡ 0
unfolding names_bound_in encode_utf8
global_binds_none = refl

pub sum_binds_none : bound_by 5 (app (app (prim (prelude_value PLUS) place) (lit (int (pos 2)))) (lit (int (pos 3)))) ≡ 0
unfolding names_bound_in
sum_binds_none = refl

pub failure_binds_none : bound_by 3 (stop place) ≡ 0
unfolding names_bound_in
failure_binds_none = refl
