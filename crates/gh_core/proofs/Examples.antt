-- Worked runs, with their numbers of reductions counted by hand, and small cases of the definitions.
use Rattle.std.proofs.Common.{◌≡◌, ℕ, pos, negsuc, ◌-◌, ◌^◌, List, [], ◌∷◌, refl}
use Rattle.std.specs.Prelude.{codes}
use Rattle.std.specs.Char.{encode_utf8}
use Rattle.gh_base.specs.declared.fixed.TheConstants.{MAIN_MODULE, MAIN, PLUS, QUOT, CHR, ORD, ERROR, CON}
use Rattle.gh_base.specs.declared.place.Span.{Span}
use Rattle.gh_base.specs.declared.place.Space.TheVariants.{Values}
use Rattle.gh_core.specs.declared.terms.CoreName.TheVariants.{Plain}
use Rattle.gh_core.specs.Terms.{Term, var, glob, con, lit, int, char, string, prim, lam, app, letrec, cases, stop, bind, no_bind, con_alt, lit_alt, no_alt, else_to, alt}
use Rattle.gh_core.specs.Primitives.{prelude_value, nil, cons, error_called, no_match, divide_by_zero, no_character, number, on_integers, plus, quot, rem}
use Rattle.gh_core.specs.Reduce.{Program, Status, running, ended, failed, at, reductions}
use Rattle.gh_core.specs.Run.{Seen, seen, start}
use Rattle.gh_core.specs.SameType.{bound, free, nameless_var}

abbrev place : Span
place = record { file = 1; from = 4; to = 9 }

-- a program with one newtype, whose constructor is `Con`, and one definition, `main`
abbrev small : Program
small = record {
  newtypes = prelude_value CON ∷ [];
  defs = (Plain (record { «module» = MAIN_MODULE; space = Values; name = MAIN }), string (codes "a")) ∷ [];
}

abbrev after : ℕ → Term → Seen
after n t = seen (reductions small n (start t))

abbrev shows : List ℕ → Status → Seen
shows out status = record { out = out; status = status }

-- the empty string has ended at once
pub ended_at_once : after 0 (string []) ≡ shows [] ended
unfolding reductions
ended_at_once = refl

-- each character is one reduction, and the end is none
pub two_characters : after 2 (string (codes "hi")) ≡ shows (codes "hi") ended
unfolding reductions encode_utf8
two_characters = refl

pub one_of_two : after 1 (string (codes "hi")) ≡ shows (codes "h") running
unfolding reductions encode_utf8
one_of_two = refl

-- the global unfolds (1), and one character is printed (2)
pub main_printed : after 2 (glob (Plain (record { «module» = MAIN_MODULE; space = Values; name = MAIN }))) ≡ shows (codes "a") ended
unfolding reductions encode_utf8
main_printed = refl

-- (λ x. x) "b": the demand passes to the function (1), it is entered (2), and one character is printed (3)
pub identity_entered : after 3 (app (lam 0 (var 0)) (string (codes "b"))) ≡ shows (codes "b") ended
unfolding reductions encode_utf8
identity_entered = refl

abbrev two_and_three : Term
two_and_three = app (app (prim (prelude_value PLUS) place) (lit (int (pos 2)))) (lit (int (pos 3)))

-- 2 + 3: twice to a function (2), to both operands (4), and the sum (5)
pub sum_made : reductions small 5 (start two_and_three) ≡ at (lit (int (pos 5))) [] []
unfolding reductions
sum_made = refl

pub sum_not_yet_made : (reductions small 4 (start two_and_three)).focus ≡ lit (int (pos 3))
unfolding reductions
sum_not_yet_made = refl

-- chr (ord 'k') : []: twice to a function, where the list's head is demanded (2), to the function `chr` (3), to its operand (4),
-- to the function `ord` (5), to its operand (6); then the number (7), the character (8), and it is printed (9)
pub operand_of_operand : after 9 (app (app (con cons) (app (prim (prelude_value CHR) place) (app (prim (prelude_value ORD) place) (lit (char 107))))) (con nil)) ≡ shows (codes "k") ended
unfolding reductions encode_utf8
operand_of_operand = refl

-- case stop of Con x -> "c": the case alone (1) and one character (2), since a newtype's scrutinee is not evaluated
pub newtype_not_evaluated : after 2 (cases (stop place) (alt (con_alt (prelude_value CON) (0 ∷ []) (string (codes "c"))) no_alt)) ≡ shows (codes "c") ended
unfolding reductions encode_utf8
newtype_not_evaluated = refl

-- case Con "d" of Con x -> x: the case (1); then the demand passes to the scrutinee (2) and to its function (3), the contents
-- go on (4), and one character is printed (5)
pub newtype_contents : after 5 (cases (app (con (prelude_value CON)) (string (codes "d"))) (alt (con_alt (prelude_value CON) (0 ∷ []) (var 0)) no_alt)) ≡ shows (codes "d") ended
unfolding reductions encode_utf8
newtype_contents = refl

abbrev for_ever : Term
for_ever = letrec (bind 0 (app (app (con cons) (lit (char 101))) (var 0)) no_bind) (var 0)

-- letrec x = 'e' : x in x: the letrec unfolds for its body (1) and for x (2), twice to a function (4), and one character (5);
-- from there on each further character is four reductions
pub ever_five : after 5 for_ever ≡ shows (codes "e") running
unfolding reductions encode_utf8
ever_five = refl

pub ever_eight : after 8 for_ever ≡ shows (codes "e") running
unfolding reductions encode_utf8
ever_eight = refl

pub ever_nine : after 9 for_ever ≡ shows (codes "ee") running
unfolding reductions encode_utf8
ever_nine = refl

-- error (stop): to the function (1), and the failure (2), with the argument not evaluated
pub error_fails : after 2 (app (prim (prelude_value ERROR) place) (stop place)) ≡ shows [] (failed error_called place)
unfolding reductions
error_fails = refl

-- quot 1 0: twice to a function (2), to both operands (4), and the failure (5)
pub zero_fails : after 5 (app (app (prim (prelude_value QUOT) place) (lit (int (pos 1)))) (lit (int (pos 0)))) ≡ shows [] (failed divide_by_zero place)
unfolding reductions
zero_fails = refl

-- chr 55296: to the function (1), to the operand (2), and the failure (3), since a surrogate is no character
pub surrogate_fails : after 3 (app (prim (prelude_value CHR) place) (lit (int (pos 55296)))) ≡ shows [] (failed no_character place)
unfolding reductions
surrogate_fails = refl

-- a stop that is demanded (1)
pub stop_fails : after 1 (stop place) ≡ shows [] (failed no_match place)
unfolding reductions
stop_fails = refl

-- case "fg" of x : y -> y: to the scrutinee (1), the case (2), one character (3)
pub string_is_list : after 3 (cases (string (codes "fg")) (alt (con_alt cons (0 ∷ 1 ∷ []) (var 1)) no_alt)) ≡ shows (codes "g") ended
unfolding reductions encode_utf8
string_is_list = refl

-- case 7 of { 8 -> "h"; else -> "i" }: to the scrutinee (1), the case (2), one character (3)
pub literal_else : after 3 (cases (lit (int (pos 7))) (alt (lit_alt (int (pos 8)) (string (codes "h"))) (else_to (string (codes "i"))))) ≡ shows (codes "i") ended
unfolding reductions encode_utf8
literal_else = refl

-- (λ x. λ y. x) y "j", where y is free: nothing captures it, and nothing applies to it any more
pub nothing_captured : (reductions small 4 (start (app (app (lam 0 (lam 1 (var 0))) (var 1)) (string (codes "j"))))).focus ≡ var 1
unfolding reductions
nothing_captured = refl

-- the quotient goes toward zero, and the least integer has no opposite
pub quotient_toward_zero : on_integers quot (negsuc 6) (pos 2) ≡ number (negsuc 2)
quotient_toward_zero = refl

pub remainder_toward_zero : on_integers rem (negsuc 6) (pos 2) ≡ number (negsuc 0)
remainder_toward_zero = refl

pub least_quotient : on_integers quot (negsuc (2 ^ 63 - 1)) (negsuc 0) ≡ number (negsuc (2 ^ 63 - 1))
least_quotient = refl

pub least_remainder : on_integers rem (negsuc (2 ^ 63 - 1)) (negsuc 0) ≡ number (pos 0)
least_remainder = refl

-- arithmetic wraps at 64 bits
pub sum_wraps : on_integers plus (pos (2 ^ 63 - 1)) (pos 1) ≡ number (negsuc (2 ^ 63 - 1))
sum_wraps = refl

-- a variable is bound by the nearest binder of its number, and is free under none
pub bound_by_second : nameless_var (3 ∷ 4 ∷ []) 4 ≡ bound 1
bound_by_second = refl

pub bound_by_nearest : nameless_var (3 ∷ 3 ∷ []) 3 ≡ bound 0
bound_by_nearest = refl

pub bound_by_none : nameless_var (3 ∷ []) 4 ≡ free 4
bound_by_none = refl
